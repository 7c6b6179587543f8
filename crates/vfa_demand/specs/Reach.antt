-- What some numbers lead to, step by step.
use Rattle.std.specs.Prelude.{◌≡◌, ◌≤◌, ℕ, ◌+◌, ◌*◌, Bool, true, false, List, [], ◌∷◌, get_or, length, ◌⊎◌}
use Rattle.vfa_ir.specs.Words.{is_in}
use Rattle.vfa_mean.specs.Kept.{is_marked}

-- the least set with the first numbers and, with each of its numbers, those that this one leads to
pub data IsLedTo (first : List ℕ) (leads : List (List ℕ)) : ℕ → Type 0 where
  at_first : (v : ℕ) → is_in v first ≡ true → IsLedTo first leads v
  by_step : (v w : ℕ) → IsLedTo first leads v → is_in w (get_or leads v []) ≡ true → IsLedTo first leads w

-- ---- helper: in no public contract: the search for it

-- how many numbers are not marked
abbrev pub unmarked : List Bool → ℕ
unmarked [] = 0
unmarked (true ∷ marks) = unmarked marks
unmarked (false ∷ marks) = unmarked marks + 1

-- These numbers were marked, and those of them that had not been were put to the ones whose steps are still to be taken.
pub record AreTaken (names : List ℕ) (before after : List Bool) (ahead ahead_after : List ℕ) : Type 0 where
  pub whole : length after ≡ length before
  pub room : 2 * unmarked after + length ahead_after ≤ 2 * unmarked before + length ahead
  pub kept : (v : ℕ) → is_marked before v ≡ true → is_marked after v ≡ true
  pub taken : (v : ℕ) → is_in v names ≡ true → is_marked after v ≡ true
  pub marked : (v : ℕ) → is_marked after v ≡ true → (is_marked before v ≡ true) ⊎ (is_in v names ≡ true)
  pub put : (v : ℕ) → is_marked after v ≡ true → (is_marked before v ≡ true) ⊎ (is_in v ahead_after ≡ true)
  pub still : (v : ℕ) → is_in v ahead ≡ true → is_in v ahead_after ≡ true
  pub from : (v : ℕ) → is_in v ahead_after ≡ true → (is_in v ahead ≡ true) ⊎ (is_marked after v ≡ true)
