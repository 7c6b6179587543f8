-- Passages through a graph: edges one after another, where the points between the two ends are free and below a bound.
-- Whether there is a passage from one point to another is decided, by induction over the bound.
use Rattle.std.proofs.Common.{◌≡◌, ◌⊎◌, inl, inr, ℕ, zero, suc, ◌<◌, ◌≤◌, subst, arith}
use Rattle.std.proofs.lemmas.Bool.{cases_lt}
use Rattle.vfa_check.proofs.Decided.{Decided, decided_as}

pub data Passage (edge : ℕ → ℕ → Type 0) (free : ℕ → Type 0) (n x : ℕ) : ℕ → Type 0 where
  once : {y : ℕ} → edge x y → Passage edge free n x y
  on : {y z : ℕ} → Passage edge free n x z → z < n → free z → edge z y → Passage edge free n x y

-- a passage that passes a point
record Through (edge : ℕ → ℕ → Type 0) (free : ℕ → Type 0) (n x y : ℕ) : Type 0 where
  here : free n
  to : Passage edge free n x n
  onward : Passage edge free n n y

module _ (edge : ℕ → ℕ → Type 0) (free : ℕ → Type 0) where
  wider : {n x y : ℕ} → Passage edge free n x y → Passage edge free (suc n) x y
  wider (once e) = once e
  wider (on p l fr e) = on (wider p) (omega arith) fr e

  joined : {n x m y : ℕ} → Passage edge free n x m → m < n → free m → Passage edge free n m y → Passage edge free n x y
  joined p l fr (once e) = on p l fr e
  joined p l fr (on q k gr e) = on (joined p l fr q) k gr e

  -- it passes the last point, or it keeps below
  split : (n x : ℕ) {y : ℕ} → Passage edge free (suc n) x y → Passage edge free n x y ⊎ Through edge free n x y
  split n x (once e) = inl (once e)
  split n x {y} (on {z = z} p l fr e) = at (split n x p) (cases_lt z n)
    where
      at : Passage edge free n x z ⊎ Through edge free n x z → (z < n) ⊎ (n ≤ z) → Passage edge free n x y ⊎ Through edge free n x y
      at (inl q) (inl k) = inl (on q k fr e)
      at (inr t) (inl k) = inr (record { here = t.here; to = t.to; onward = on t.onward k fr e })
      at (inl q) (inr k) =
          let same : z ≡ n = omega arith in
          inr (record { here = subst free same fr; to = subst (Passage edge free n x) same q; onward = once (subst (λ m. edge m y) same e) })
      at (inr t) (inr k) =
          let same : z ≡ n = omega arith in
          inr (record { here = t.here; to = t.to; onward = once (subst (λ m. edge m y) same e) })

  at_once : {x y : ℕ} → Passage edge free 0 x y → edge x y
  at_once (once e) = e
  at_once (on p l fr e) = absurd (omega arith)

  pub decided_passage : ((x y : ℕ) → Decided (edge x y)) → ((x : ℕ) → Decided (free x)) → (n x y : ℕ) → Decided (Passage edge free n x y)
  decided_passage edges frees zero x y = decided_as (edge x y) (Passage edge free 0 x y) (λ e. once e) (λ p. at_once p) (edges x y)
  decided_passage edges frees (suc n) x y =
      at (decided_passage edges frees n x y) (frees n) (decided_passage edges frees n x n) (decided_passage edges frees n n y)
    where
      without : (Passage edge free n x y → ⊥) → (Through edge free n x y → ⊥) → Passage edge free (suc n) x y → ⊥
      without never none p = elim (split n x p) [ inl q ↦ never q | inr t ↦ none t ]

      at : Decided (Passage edge free n x y) → Decided (free n) → Decided (Passage edge free n x n) → Decided (Passage edge free n n y) →
          Decided (Passage edge free (suc n) x y)
      at (inl p) _ _ _ = inl (wider p)
      at (inr never) (inr busy) _ _ = inr (without never (λ t. busy t.here))
      at (inr never) (inl fr) (inr none) _ = inr (without never (λ t. none t.to))
      at (inr never) (inl fr) (inl p) (inr none) = inr (without never (λ t. none t.onward))
      at (inr never) (inl fr) (inl p) (inl q) = inl (joined (wider p) (omega arith) fr (wider q))
