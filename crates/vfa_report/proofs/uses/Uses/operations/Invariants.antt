use Rattle.std.proofs.Common.{take}
use Rattle.std.specs.Prelude.{flat_map}
use Rattle.vfa_ir.specs.Defined.{op_names}
use Rattle.vfa_report.specs.Met.{HasMet}
use Rattle.vfa_report.proofs.uses.Uses.operations.Given as goal

abbrev pub invariant-insts : goal.invariant-insts
invariant-insts l = HasMet l.initial.self l.self (flat_map (λ i. op_names l.f i.op) (take l.inst-index l.insts))
