use Rattle.std.proofs.Common.{All, length, take}
use Rattle.vfa_ir.specs.declared.functions.Block.{Block}
use Rattle.vfa_demand.specs.Usable.{IsUsableBlock}
use Rattle.vfa_demand.proofs.tests.are_blocks_usable.Given as goal

abbrev pub invariant-each : goal.invariant-each
invariant-each l = All (λ (x : Block). IsUsableBlock l.f (length l.f.values) x) (take l.block-index l.blocks)
