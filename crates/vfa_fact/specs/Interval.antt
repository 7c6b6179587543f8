-- Numbers between two ends, and facts of sets that fall into two parts.
use Rattle.std.specs.Prelude.{◌≤◌, ℕ, Bool, ◌&&◌, nat_le, bit_and, Option, Some, None, IsTrue}
use Rattle.vfa_dom.specs.Sets.{meet}
use Rattle.vfa_fact.specs.declared.numbers.Numbers.{Numbers}
use Rattle.vfa_fact.specs.Sharp.{sharp_of}

-- whether x lies from lo up to hi
unfoldable pub interval : ℕ → ℕ → ℕ → Bool
interval lo hi x = nat_le lo x && nat_le x hi

-- the fact of the members of a set from lo up to hi; there is none where none of them lies there
abbrev pub part_of : ℕ → ℕ → ℕ → (ℕ → Bool) → Option Numbers
part_of w lo hi S = sharp_of w 0 (meet (interval lo hi) S)

-- from first up to last lie all members of the set, and both are members
pub record Reaches (S : ℕ → Bool) (first last : ℕ) : Type 0 where
  pub first_in : IsTrue (S first)
  pub last_in : IsTrue (S last)
  pub from : (x : ℕ) → IsTrue (S x) → first ≤ x
  pub upto : (x : ℕ) → IsTrue (S x) → x ≤ last

-- the numbers of a set in two parts, the first of which comes before the second
abbrev pub joined : Option Numbers → Option Numbers → Option Numbers
joined None two = two
joined (Some one) None = Some one
joined (Some one) (Some two) =
    Some (record { zeros = bit_and one.zeros two.zeros; ones = bit_and one.ones two.ones; first = one.first; last = two.last })
