use Rattle.std.proofs.Common.{take}
use Rattle.vfa_ir.specs.Printable.{inst_ids}
use Rattle.vfa_check.proofs.Adding.{AreAdded}
use Rattle.vfa_check.proofs.results.add_insts.Given as goal

abbrev pub invariant-insts : goal.invariant-insts
invariant-insts l = AreAdded (inst_ids (take l.inst-index l.insts)) l.initial.row l.row
