use Rattle.std.proofs.Common.{◌≡◌, ◌++◌, drop}
use Rattle.vfa_ir.specs.Shown.{results_of}
use Rattle.vfa_ir.proofs.numbering.push_results.Given as goal

abbrev pub invariant-loop-inst : goal.invariant-loop-inst
invariant-loop-inst l =
    l.initial.all.items ++ results_of l.insts ≡ l.all.items ++ results_of (drop l.inst-index l.insts)
