use Rattle.std.proofs.Common.{drop}
use Rattle.vfa_read.specs.Resolving.{Left}
use Rattle.vfa_read.proofs.Definitions.{phi_names}
use Rattle.vfa_read.proofs.resolution.table.SymbolTable.define_phis.Given as goal

abbrev pub invariant-each : goal.invariant-each
invariant-each l = Left l.initial.self (phi_names l.phis) l.self (phi_names (drop l.phi-index l.phis))
