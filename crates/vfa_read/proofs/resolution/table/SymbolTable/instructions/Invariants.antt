use Rattle.std.proofs.Common.{◌≡◌, ◌++◌, drop, flat_map, length}
use Rattle.vfa_ir.specs.DefinedNames.{operation_uses}
use Rattle.vfa_ir.specs.Resolution.{instruction_calls, insts_of}
use Rattle.vfa_read.specs.Resolving.{unknown_in}
use Rattle.vfa_read.proofs.resolution.table.SymbolTable.instructions.Given as goal

abbrev pub invariant-each : goal.invariant-each
invariant-each l =
    (unknown_in l.self (flat_map (λ i. operation_uses i.operation) (drop l.instruction-index l.instructions)) ≡ unknown_in l.self (flat_map (λ i. operation_uses i.operation) l.instructions))
    × (l.list.items ++ insts_of l.self (length l.calls.items) (drop l.instruction-index l.instructions) ≡ insts_of l.self (length l.initial.calls.items) l.instructions)
    × (l.calls.items ++ instruction_calls l.self (drop l.instruction-index l.instructions) ≡ l.initial.calls.items ++ instruction_calls l.self l.instructions)
