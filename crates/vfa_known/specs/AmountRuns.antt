-- helper: in no public contract
-- Runs of amounts one after another, and what is known over them.
use Rattle.std.specs.Prelude.{◌≡◌, ℕ, ◌+◌, ◌<◌, ◌≤◌, Bool}
use Rattle.std.specs.Int.{bit_at}
use Rattle.vfa_dom.specs.Best.{Masks, zeros_of, ones_of}

-- count amounts below w of the mask n, of which first is the least one
pub record IsLowestRun (w n first count : ℕ) : Type 0 where
  pub some : 1 ≤ count
  pub below : first + count ≤ w
  pub inside : (t : ℕ) → first ≤ t → t < first + count → bit_at n t ≡ 1
  pub least : (t : ℕ) → bit_at n t ≡ 1 → first ≤ t

-- the amounts of the mask n but those of a run
pub record IsRest (n first count rest : ℕ) : Type 0 where
  pub less : rest < n
  pub kept : (t : ℕ) → bit_at rest t ≡ 1 → bit_at n t ≡ 1
  pub clear : (t : ℕ) → first ≤ t → t < first + count → bit_at rest t ≡ 0
  pub taken : (t : ℕ) → bit_at n t ≡ 1 → bit_at rest t ≡ 0 → (first ≤ t) × (t < first + count)

-- the masks m are what is known alike of the sets S t of all t of a run
pub record AreKnownOverRun (w : ℕ) (S : ℕ → ℕ → Bool) (first count : ℕ) (m : Masks) : Type 0 where
  pub zero_all : (t i : ℕ) → first ≤ t → t < first + count → bit_at m.zeros i ≡ 1 → bit_at (zeros_of w (S t)) i ≡ 1
  pub one_all : (t i : ℕ) → first ≤ t → t < first + count → bit_at m.ones i ≡ 1 → bit_at (ones_of w (S t)) i ≡ 1
  pub zero_some : (i : ℕ) → i < w → bit_at m.zeros i ≡ 0 → (t : ℕ) × (first ≤ t) × (t < first + count) × (bit_at (zeros_of w (S t)) i ≡ 0)
  pub one_some : (i : ℕ) → i < w → bit_at m.ones i ≡ 0 → (t : ℕ) × (first ≤ t) × (t < first + count) × (bit_at (ones_of w (S t)) i ≡ 0)
