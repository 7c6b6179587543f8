use Rattle.std.proofs.Common.{◌≡◌, flat_map, drop}
use Rattle.vfa_ir.specs.Defined.{operand_names}
use Rattle.vfa_check.specs.Uses.{first_missed}
use Rattle.vfa_check.proofs.missed_names.missed_in_arguments.Given as goal

abbrev pub invariant-arguments : goal.invariant-arguments
invariant-arguments l =
    first_missed l.here (flat_map (λ a. operand_names a.value) l.arguments)
    ≡ first_missed l.here (flat_map (λ a. operand_names a.value) (drop l.argument-index l.arguments))
