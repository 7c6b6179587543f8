use Rattle.std.proofs.Common.{◌≡◌, ◌++◌, drop, flat_map, map, codes}
use Rattle.vfa_ir.specs.Spelling.{switch_case}
use Rattle.vfa_print.specs.Layout.{text_line}
use Rattle.vfa_print.specs.Trees.{case_tree}
use Rattle.vfa_print.proofs.terminators.push_cases.Given as goal

abbrev pub invariant-cases : goal.invariant-cases
invariant-cases l =
    l.initial.w.text ++ flat_map (λ c. text_line (codes "    ") (switch_case l.width c)) (map (case_tree l.names l.width) l.cases)
    ≡ l.w.text ++ flat_map (λ c. text_line (codes "    ") (switch_case l.width c)) (map (case_tree l.names l.width) (drop l.case-index l.cases))
