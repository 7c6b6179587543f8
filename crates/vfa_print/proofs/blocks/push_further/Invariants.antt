use Rattle.std.proofs.Common.{◌≡◌, ◌+◌, ◌++◌, drop, flat_map}
use Rattle.vfa_print.specs.Layout.{block_text, line_feed}
use Rattle.vfa_print.specs.Trees.{blocks_tree}
use Rattle.vfa_print.proofs.blocks.push_further.Given as goal

abbrev pub invariant-rest : goal.invariant-rest
invariant-rest l =
    (l.initial.w.text ++ flat_map (λ b. line_feed ++ block_text b) (blocks_tree l.names l.calls 1 l.rest)
    ≡ l.w.text ++ flat_map (λ b. line_feed ++ block_text b) (blocks_tree l.names l.calls l.place (drop l.block-index l.rest)))
    × (l.place ≡ l.block-index + 1)
