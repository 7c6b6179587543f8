use Rattle.std.proofs.Common.{◌≡◌, ◌++◌, drop, map}
use Rattle.vfa_ir.specs.DefinedNames.Use.{of_block}
use Rattle.vfa_ir.specs.Resolution.{block_id, literal_bits}
use Rattle.vfa_read.specs.Resolving.{unknown_in}
use Rattle.vfa_read.proofs.resolution.table.SymbolTable.cases.Given as goal

abbrev pub invariant-each : goal.invariant-each
invariant-each l =
    (unknown_in l.self (map (λ c. of_block c.block) (drop l.case-index l.cases)) ≡ unknown_in l.self (map (λ c. of_block c.block) l.cases))
    × (l.list.items ++ map (λ c. (literal_bits l.width c.number, block_id l.self c.block)) (drop l.case-index l.cases) ≡ map (λ c. (literal_bits l.width c.number, block_id l.self c.block)) l.cases)
