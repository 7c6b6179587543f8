-- What covers a state and one that agrees with it on a name is, at that name, the state itself.
use Rattle.std.proofs.Common.{◌≡◌, ◌⊎◌, ℕ, Bool, true, false, not, ◌&&◌, nat_eq, if◌then◌else◌, Option, Some, None, refl, sym, ◌∙◌, ap, eqb-true, inl, inr}
use Rattle.vfa_cond.specs.States.{AbstractState}
use Rattle.vfa_walk.specs.Agreement.{Agrees}
use Rattle.vfa_walk.specs.Joining.{covered, of_both}
use Rattle.vfa_walk.specs.Kept.{taken}
use Rattle.vfa_walk.proofs.States.{state_is}

pub live_in_both : (a b : Bool) → (a && not b) ≡ false → (a && b) ≡ a
live_in_both true true e = refl
live_in_both true false e = absurd (cc)
live_in_both false b e = refl

-- a choice between a value and itself
pub either_way : {A : Type 0} (f : ℕ → A) (x : A) (u v : ℕ) → x ≡ f v → f u ≡ (if nat_eq u v then x else f u)
either_way f x u v is = at (nat_eq u v) refl
  where
    at : (same : Bool) → nat_eq u v ≡ same → f u ≡ (if same then x else f u)
    at true e = ap f (eqb-true u v e) ∙ sym is
    at false e = refl

module _ {V : Type 0} (cover : ℕ → V → V → V) (s t : AbstractState V) (v : ℕ) (agree : Agrees s t v) (itself : (d : V) → s.fact v ≡ Some d → cover v d d ≡ d) where
  fact_stays : (o o' : Option V) → s.fact v ≡ o → (o ≡ None) ⊎ (o ≡ o') → of_both (cover v) o o' ≡ o
  fact_stays None o' e known_too = refl
  fact_stays (Some a) o' e (inl none) = absurd (cc)
  fact_stays (Some a) None e (inr same) = absurd (cc)
  fact_stays (Some a) (Some b) e (inr same) = let is : a ≡ b = cc in ap Some (ap (cover v a) (sym is) ∙ itself a e)

  -- taking over the name from what covers both changes nothing
  pub stays : s ≡ taken v (covered cover s t) s
  stays =
      state_is s (taken v (covered cover s t) s)
      (λ u. either_way s.fact (of_both (cover v) (s.fact v) (t.fact v)) u v (fact_stays (s.fact v) (t.fact v) refl agree.fact))
      (λ u. either_way s.live (s.live v && t.live v) u v agree.live)
