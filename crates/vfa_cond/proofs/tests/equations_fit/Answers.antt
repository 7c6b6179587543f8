use Rattle.std.proofs.Common.{All, subst}
use Rattle.vfa_ir.specs.declared.functions.Block.{Block}
use Rattle.vfa_cond.specs.TypedLines.{IsTypedLine}
use Rattle.vfa_cond.proofs.Accepted.{lines_typed}
use Rattle.vfa_cond.proofs.tests.equations_fit.Goals as goal

pub returns : goal.returns
returns c = λ yes. lines_typed c.args.f.now (subst (All (λ (b : Block). All (IsTypedLine c.args.f.now) b.insts)) c.as_slice.ensures (c.blocks_fit.ensures yes))
