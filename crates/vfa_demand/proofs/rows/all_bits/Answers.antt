use Rattle.std.proofs.Common.{arith}
use Rattle.vfa_word.proofs.Wrapping.{mask_of_width}
use Rattle.vfa_demand.proofs.rows.all_bits.Goals as goal

pub returns : goal.returns
returns c = omega (arith, mask_of_width c.args.width c.requires.most)
