use Rattle.std.proofs.Common.{take}
use Rattle.std.specs.Prelude.{flat_map}
use Rattle.vfa_ir.specs.Defined.{operand_names}
use Rattle.vfa_report.specs.Met.{HasMet}
use Rattle.vfa_report.proofs.uses.Uses.arguments.Given as goal

abbrev pub invariant-arguments : goal.invariant-arguments
invariant-arguments l = HasMet l.initial.self l.self (flat_map (λ a. operand_names a.value) (take l.argument-index l.arguments))
