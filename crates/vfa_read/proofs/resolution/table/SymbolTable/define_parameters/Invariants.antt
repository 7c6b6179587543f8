use Rattle.std.proofs.Common.{◌≤◌, drop}
use Rattle.vfa_read.specs.Resolving.{Left}
use Rattle.vfa_read.proofs.Definitions.{values_of_parameters}
use Rattle.vfa_read.proofs.resolution.table.SymbolTable.define_parameters.Given as goal

abbrev pub invariant-each : goal.invariant-each
invariant-each l =
    Left l.initial.self (values_of_parameters 0 l.parameters) l.self (values_of_parameters l.numbered (drop l.parameter-index l.parameters))
    × (l.numbered ≤ l.parameter-index)
