use Rattle.std.proofs.Common.{◌≡◌, ◌∷◌, drop, flat_map, map}
use Rattle.vfa_ir.specs.Spelling.{argument, comma}
use Rattle.vfa_print.specs.Trees.{argument_tree}
use Rattle.vfa_print.specs.Writing.{with_tokens}
use Rattle.vfa_print.proofs.calls.push_further.Given as goal

abbrev pub invariant-passed : goal.invariant-passed
invariant-passed l =
    with_tokens l.initial.w (flat_map (λ a. comma ∷ argument a) (map (argument_tree l.names) l.rest))
    ≡ with_tokens l.w (flat_map (λ a. comma ∷ argument a) (map (argument_tree l.names) (drop l.arg-index l.rest)))
