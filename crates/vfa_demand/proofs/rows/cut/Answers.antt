use Rattle.std.proofs.Common.{arith}
use Rattle.std.proofs.lemmas.Nat.{pow_pos}
use Rattle.vfa_word.proofs.Wrapping.{masked}
use Rattle.vfa_demand.proofs.rows.cut.Goals as goal

pub returns : goal.returns
returns c = masked c.args.mask c.all_bits.result c.args.width (omega (arith, c.all_bits.ensures, pow_pos c.args.width))
