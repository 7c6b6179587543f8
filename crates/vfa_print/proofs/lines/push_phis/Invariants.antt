use Rattle.std.proofs.Common.{◌≡◌, ◌++◌, drop, flat_map, map}
use Rattle.vfa_ir.specs.Spelling.{phi}
use Rattle.vfa_print.specs.Layout.{indented}
use Rattle.vfa_print.specs.Trees.{phi_tree}
use Rattle.vfa_print.proofs.lines.push_phis.Given as goal

abbrev pub invariant-phis : goal.invariant-phis
invariant-phis l =
    l.initial.w.text ++ flat_map (λ p. indented (phi p)) (map (phi_tree l.names) l.phis)
    ≡ l.w.text ++ flat_map (λ p. indented (phi p)) (map (phi_tree l.names) (drop l.phi-index l.phis))
