use Rattle.std.proofs.Common.{All, take}
use Rattle.vfa_ir.specs.declared.functions.Block.{Block}
use Rattle.vfa_cond.specs.TypedLines.{IsTypedLine}
use Rattle.vfa_cond.proofs.tests.blocks_fit.Given as goal

-- the lines of the blocks so far are typed
abbrev pub invariant-all : goal.invariant-all
invariant-all l = All (λ (b : Block). All (IsTypedLine l.f) b.insts) (take l.block-index l.blocks)
