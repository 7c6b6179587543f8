-- Cubes, after LLVM's KnownBits: a pair of masks names the bits known to be zero and those known to be one, and its
-- cube is the set of numbers that agree with both.
use Rattle.std.specs.Prelude.{◌≡◌, ℕ, ◌^◌, ◌<◌, Bool, ◌&&◌, ◌||◌, nat_lt, nat_eq, bit_and, IsTrue}
use Rattle.std.proofs.lemmas.Bool.{and_parts, ltb-true}
use Rattle.std.specs.Int.{bit_at}
use Rattle.vfa_dom.specs.Search.{all_below}
use Rattle.vfa_dom.specs.Best.{Masks}

-- masks of width w without a common bit
pub record IsCube (w zeros ones : ℕ) : Type 0 where
  pub zeros_fit : zeros < 2 ^ w
  pub ones_fit : ones < 2 ^ w
  pub apart : bit_and zeros ones ≡ 0

-- a number of width w that agrees with the masks
pub record InCube (w zeros ones x : ℕ) : Type 0 where
  pub fits : x < 2 ^ w
  pub zero : (i : ℕ) → bit_at zeros i ≡ 1 → bit_at x i ≡ 0
  pub one : (i : ℕ) → bit_at ones i ≡ 1 → bit_at x i ≡ 1

-- whether x agrees with the masks at place i
unfoldable pub agrees_at : Masks → ℕ → ℕ → Bool
agrees_at m x i =
    (nat_eq (bit_at m.zeros i) 0 || nat_eq (bit_at x i) 0) && (nat_eq (bit_at m.ones i) 0 || nat_eq (bit_at x i) 1)

-- whether x is a number of width w that agrees with the masks at each place
unfoldable pub in_masks : ℕ → Masks → ℕ → Bool
in_masks w m x = nat_lt x (2 ^ w) && all_below w (agrees_at m x)

-- such a number is one of the width
pub in_masks_fits : (w : ℕ) (m : Masks) (x : ℕ) → IsTrue (in_masks w m x) → x < 2 ^ w
unfolding in_masks
in_masks_fits w m x member = ltb-true x (2 ^ w) (and_parts (nat_lt x (2 ^ w)) (all_below w (agrees_at m x)) member).0
