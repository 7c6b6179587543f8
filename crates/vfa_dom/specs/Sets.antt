-- Sets of numbers of width w, this project's own. A set is a test, looked at below 2 ^ w.
use Rattle.std.specs.Prelude.{◌≡◌, ℕ, ◌^◌, ◌<◌, Bool, true, cond, not, ◌&&◌, ◌||◌, nat_eq, nat_le, Option, Some, None}
use Rattle.vfa_dom.specs.Search.{some_below, all_below, least_below, greatest_below}

-- a predicate on numbers and a test that says the same below 2 ^ w
pub record Tests (w : ℕ) (Set : ℕ → Type 0) (S : ℕ → Bool) : Type 0 where
  pub fits : (x : ℕ) → Set x → x < 2 ^ w
  pub passes : (x : ℕ) → Set x → S x ≡ true
  pub member : (x : ℕ) → x < 2 ^ w → S x ≡ true → Set x

-- the numbers of both
unfoldable pub meet : (ℕ → Bool) → (ℕ → Bool) → ℕ → Bool
meet S T x = S x && T x

-- the numbers of at least one
unfoldable pub union : (ℕ → Bool) → (ℕ → Bool) → ℕ → Bool
union S T x = S x || T x

-- the numbers of S that are at least x
unfoldable pub at_or_after : ℕ → (ℕ → Bool) → ℕ → Bool
at_or_after x S y = S y && nat_le x y

-- the numbers of S that are at most x
unfoldable pub at_or_before : ℕ → (ℕ → Bool) → ℕ → Bool
at_or_before x S y = S y && nat_le y x

-- whether the set has a member
unfoldable pub has_some : ℕ → (ℕ → Bool) → Bool
has_some w S = some_below (2 ^ w) S

-- whether the set has none
unfoldable pub is_empty : ℕ → (ℕ → Bool) → Bool
is_empty w S = not (some_below (2 ^ w) S)

-- whether the two have a common number
unfoldable pub meets : ℕ → (ℕ → Bool) → (ℕ → Bool) → Bool
meets w S T = some_below (2 ^ w) (meet S T)

-- whether each number of T is one of S
unfoldable pub includes : ℕ → (ℕ → Bool) → (ℕ → Bool) → Bool
includes w S T = all_below (2 ^ w) (λ x. not (T x) || S x)

-- the least member, where there is one
unfoldable pub least_of : ℕ → (ℕ → Bool) → Option ℕ
least_of w S = cond (some_below (2 ^ w) S) (Some (least_below (2 ^ w) S)) None

-- the greatest member, where there is one
unfoldable pub greatest_of : ℕ → (ℕ → Bool) → Option ℕ
greatest_of w S = cond (some_below (2 ^ w) S) (Some (greatest_below (2 ^ w) S)) None

-- the only member, where there is just one
unfoldable pub single_of : ℕ → (ℕ → Bool) → Option ℕ
single_of w S = cond
    (some_below (2 ^ w) S && nat_eq (least_below (2 ^ w) S) (greatest_below (2 ^ w) S))
    (Some (least_below (2 ^ w) S))
    None
