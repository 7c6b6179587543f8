use Rattle.std.proofs.Common.{◌≡◌, ◌∷◌, drop, flat_map, map}
use Rattle.vfa_ir.specs.Spelling.{comma, incoming}
use Rattle.vfa_print.specs.Trees.{entry_tree}
use Rattle.vfa_print.specs.Writing.{with_tokens}
use Rattle.vfa_print.proofs.lines.push_further.Given as goal

abbrev pub invariant-entries : goal.invariant-entries
invariant-entries l =
    with_tokens l.initial.w (flat_map (λ i. comma ∷ incoming i) (map (entry_tree l.names l.width) l.rest))
    ≡ with_tokens l.w (flat_map (λ i. comma ∷ incoming i) (map (entry_tree l.names l.width) (drop l.entry-index l.rest)))
