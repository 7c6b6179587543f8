use Rattle.std.proofs.Common.{◌≡◌, ◌++◌, drop, map, flat_map}
use Rattle.vfa_ir.specs.DefinedNames.{value_uses}
use Rattle.vfa_ir.specs.Resolution.{argument_of}
use Rattle.vfa_read.specs.Resolving.{unknown_in}
use Rattle.vfa_read.proofs.resolution.table.SymbolTable.arguments.Given as goal

abbrev pub invariant-each : goal.invariant-each
invariant-each l =
    (unknown_in l.self (flat_map (λ a. value_uses a.value) (drop l.argument-index l.arguments)) ≡ unknown_in l.self (flat_map (λ a. value_uses a.value) l.arguments))
    × (l.list.items ++ map (argument_of l.self) (drop l.argument-index l.arguments) ≡ map (argument_of l.self) l.arguments)
