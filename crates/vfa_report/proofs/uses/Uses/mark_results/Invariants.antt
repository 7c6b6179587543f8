use Rattle.std.proofs.Common.{◌≡◌, take}
use Rattle.vfa_ir.specs.Printable.{inst_ids}
use Rattle.vfa_report.specs.Met.{MarksMore}
use Rattle.vfa_report.proofs.uses.Uses.mark_results.Given as goal

abbrev pub invariant-insts : goal.invariant-insts
invariant-insts l = MarksMore l.initial.self.marks l.self.marks (inst_ids (take l.inst-index l.insts)) × (l.self.names ≡ l.initial.self.names)
