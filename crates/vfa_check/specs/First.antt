-- The first element of a list of which something does not hold.
use Rattle.std.specs.Prelude.{ℕ, List, take, slice_get, All, IsSomeAnd, Option, MatchOption}

-- it holds of all before this place, and not of the one that stands there
pub record FailsFirst {A : Type 0} (P : A → Type 0) (xs : List A) (place : ℕ) : Type 0 where
  pub before : All P (take place xs)
  pub here : IsSomeAnd (slice_get xs place) (λ x. P x → ⊥)

-- the place of the first, or none where it holds of all
abbrev pub IsFirstFailure : {A : Type 0} → (A → Type 0) → List A → Option ℕ → Type 0
IsFirstFailure P xs found = MatchOption found (All P xs) (FailsFirst P xs)
