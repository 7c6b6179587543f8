-- What the clauses see of a `Known`: its masks, and the set of its numbers.
use Rattle.std.specs.Prelude.{ℕ, Bool}
use Rattle.vfa_dom.specs.Best.{Masks}
use Rattle.vfa_known.specs.Cube.{in_masks}
use Rattle.vfa_known.specs.declared.known.Known.{Known}

abbrev pub masks_of : {W : ℕ} → Known W → Masks
masks_of k = record { zeros = k.zeros; ones = k.ones }

abbrev pub in_known : (W : ℕ) → Known W → ℕ → Bool
in_known W k x = in_masks W (masks_of k) x
