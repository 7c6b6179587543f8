use Rattle.std.proofs.Common.{All, take}
use Rattle.vfa_ir.specs.declared.operations.BlockId.{BlockId}
use Rattle.vfa_ir.specs.declared.operations.Operand.{Operand}
use Rattle.vfa_demand.specs.Usable.{IsNameBelow}
use Rattle.vfa_demand.proofs.tests.are_entries_usable.Given as goal

abbrev pub invariant-each : goal.invariant-each
invariant-each l = All (λ (e : Operand × BlockId). IsNameBelow l.count e.0) (take l.entry-index l.entries)
