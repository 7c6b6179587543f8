use Rattle.std.proofs.Common.{◌<◌, take, All}
use Rattle.vfa_ir.specs.Printable.{inst_ids}
use Rattle.vfa_check.proofs.tests.within.has_results.Given as goal

abbrev pub invariant-insts : goal.invariant-insts
invariant-insts l = All (λ v. v < l.count) (inst_ids (take l.inst-index l.insts))
