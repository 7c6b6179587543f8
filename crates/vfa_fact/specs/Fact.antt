-- Facts, this project's own: the reduced product of LLVM's KnownBits and ConstantRange, in plain numbers.
use Rattle.std.specs.Prelude.{◌≡◌, ℕ, ◌<◌, ◌^◌, Bool, ◌&&◌, IsTrue}
use Rattle.std.proofs.lemmas.Bool.{and_parts}
use Rattle.vfa_dom.specs.Best.{Masks, best_of}
use Rattle.vfa_known.specs.Cube.{in_masks, in_masks_fits}
use Rattle.vfa_wrap.specs.Arc.{Span, IsArc, in_span}
use Rattle.vfa_fact.specs.declared.numbers.Numbers.{Numbers}

abbrev pub masks_in : Numbers → Masks
masks_in n = record { zeros = n.zeros; ones = n.ones }

abbrev pub span_in : Numbers → Span
span_in n = record { first = n.first; last = n.last }

-- whether x agrees with the known bits and lies in the arc
unfoldable pub in_numbers : ℕ → Numbers → ℕ → Bool
in_numbers w n x = in_masks w (masks_in n) x && in_span w (span_in n) x

-- each of these is a number of width w
pub in_numbers_fits : (w : ℕ) (n : Numbers) (x : ℕ) → IsTrue (in_numbers w n x) → x < 2 ^ w
unfolding in_numbers
in_numbers_fits w n x member = in_masks_fits w (masks_in n) x ((and_parts (in_masks w (masks_in n) x) (in_span w (span_in n) x) member).0)

-- the numbers of a fact: the known bits are the best ones of the set, and both ends of the arc are members
pub record IsFact (w : ℕ) (n : Numbers) : Type 0 where
  pub arc : IsArc w (span_in n)
  pub best : masks_in n ≡ best_of w (in_numbers w n)
  pub first_in : IsTrue (in_numbers w n n.first)
  pub last_in : IsTrue (in_numbers w n n.last)
