use Rattle.std.proofs.Common.{◌≡◌, ◌++◌, drop, flat_map, map}
use Rattle.vfa_ir.specs.Spelling.{instruction}
use Rattle.vfa_print.specs.Layout.{indented}
use Rattle.vfa_print.specs.Trees.{inst_tree}
use Rattle.vfa_print.proofs.lines.push_insts.Given as goal

abbrev pub invariant-insts : goal.invariant-insts
invariant-insts l =
    l.initial.w.text ++ flat_map (λ i. indented (instruction i)) (map (inst_tree l.names l.calls) l.insts)
    ≡ l.w.text ++ flat_map (λ i. indented (instruction i)) (map (inst_tree l.names l.calls) (drop l.inst-index l.insts))
