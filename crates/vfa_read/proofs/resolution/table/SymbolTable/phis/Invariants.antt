use Rattle.std.proofs.Common.{◌≡◌, ◌++◌, drop, map, flat_map}
use Rattle.vfa_ir.specs.DefinedNames.{phi_uses}
use Rattle.vfa_ir.specs.Resolution.{phi_of}
use Rattle.vfa_read.specs.Resolving.{unknown_in}
use Rattle.vfa_read.proofs.resolution.table.SymbolTable.phis.Given as goal

abbrev pub invariant-each : goal.invariant-each
invariant-each l =
    (unknown_in l.self (flat_map phi_uses (drop l.phi-index l.phis)) ≡ unknown_in l.self (flat_map phi_uses l.phis))
    × (l.list.items ++ map (phi_of l.self) (drop l.phi-index l.phis) ≡ map (phi_of l.self) l.phis)
