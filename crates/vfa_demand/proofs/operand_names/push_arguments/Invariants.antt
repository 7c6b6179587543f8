use Rattle.std.proofs.Common.{◌≡◌, ◌++◌, drop, flat_map}
use Rattle.vfa_ir.specs.Defined.{operand_names}
use Rattle.vfa_demand.proofs.operand_names.push_arguments.Given as goal

abbrev pub invariant-each : goal.invariant-each
invariant-each l =
    l.initial.names.items ++ flat_map (λ a. operand_names a.value) l.arguments
    ≡ l.names.items ++ flat_map (λ a. operand_names a.value) (drop l.argument-index l.arguments)
