use Rattle.std.proofs.Common.{◌≡◌}
use Rattle.vfa_dom.specs.Search.{all_below, bits_below}
use Rattle.vfa_known.specs.Cube.{agrees_at}
use Rattle.vfa_known.specs.Known.{masks_of}
use Rattle.vfa_fact.proofs.amount_masks.amounts_in_cube.Given as goal

abbrev pub invariant-loop-place : goal.invariant-loop-place
invariant-loop-place g l = l.mask ≡ bits_below g.row.W (λ t. all_below l.place (agrees_at (masks_of l.known) t))
