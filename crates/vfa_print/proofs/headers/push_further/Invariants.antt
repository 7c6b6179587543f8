use Rattle.std.proofs.Common.{◌≡◌, ◌∷◌, drop, flat_map, map}
use Rattle.vfa_ir.specs.Spelling.{comma, parameter}
use Rattle.vfa_print.specs.Trees.{parameter_tree}
use Rattle.vfa_print.specs.Writing.{with_tokens}
use Rattle.vfa_print.proofs.headers.push_further.Given as goal

abbrev pub invariant-params : goal.invariant-params
invariant-params l =
    with_tokens l.initial.w (flat_map (λ p. comma ∷ parameter p) (map (parameter_tree l.names l.values) l.rest))
    ≡ with_tokens l.w (flat_map (λ p. comma ∷ parameter p) (map (parameter_tree l.names l.values) (drop l.param-index l.rest)))
