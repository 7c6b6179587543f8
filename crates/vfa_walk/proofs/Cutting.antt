-- Names that are in scope or not, and states that are cut to them.
use Rattle.std.proofs.Common.{◌≡◌, ◌<◌, ◌+◌, ℕ, Bool, true, false, ◌&&◌, nat_eq, if◌then◌else◌, Option, Some, None, MatchBool, List, [], drop, length, get_or, refl, sym, ◌∙◌, ap, arith, eqb-true}
use Rattle.std.specs.List.{IsDistinct}
use Rattle.std.proofs.lemmas.Bool.Decides.{nat_tests}
use Rattle.vfa_ir.specs.declared.functions.Function.{Function}
use Rattle.vfa_ir.specs.declared.functions.Param.{Param}
use Rattle.vfa_ir.specs.Walks.{IsDefinedAt, IsMissedAt}
use Rattle.vfa_mean.specs.Outcomes.{has_noundef, type_of}
use Rattle.vfa_values.specs.Answers.{Answers}
use Rattle.vfa_cond.specs.States.{AbstractState, with_fact, with_live}
use Rattle.vfa_walk.specs.Analysis.{parameter_fact}
use Rattle.vfa_walk.specs.Joining.{kept_names}
use Rattle.vfa_walk.specs.Kept.{taken}
use Rattle.vfa_walk.proofs.States.{left_at, state_is}

-- two tests of one scope answer alike
pub same_answer : (f : Function) (b n v : ℕ) (x y : Bool) → MatchBool x (IsDefinedAt f b n v) (IsMissedAt f b n v) → MatchBool y (IsDefinedAt f b n v) (IsMissedAt f b n v) → x ≡ y
same_answer f b n v true true p q = refl
same_answer f b n v false false p q = refl
same_answer f b n v true false p q = absurd (q.missed (p q.passed q.walk))
same_answer f b n v false true p q = absurd (p.missed (q p.passed p.walk))

module _ {V : Type 0} (names : ℕ → Bool) (v : ℕ) (s : AbstractState V) where
  pub cut_stays : names v ≡ true → s ≡ taken v (kept_names names s) s
  cut_stays scope = state_is s (taken v (kept_names names s) s) (λ u. fact u (nat_eq u v) refl) (λ u. live u (nat_eq u v) refl)
    where
      fact : (u : ℕ) (b : Bool) → nat_eq u v ≡ b → s.fact u ≡ (if b then (if names v then s.fact v else None) else s.fact u)
      fact u true e = ap s.fact (eqb-true u v e) ∙ ap (λ b. if b then s.fact v else None) (sym scope)
      fact u false e = refl

      live : (u : ℕ) (b : Bool) → nat_eq u v ≡ b → s.live u ≡ (if b then (names v && s.live v) else s.live u)
      live u true e = ap s.live (eqb-true u v e) ∙ ap (λ b. b && s.live v) (sym scope)
      live u false e = refl

  pub cut_goes : (next : AbstractState V) → names v ≡ false → next.fact ≡ (with_fact s v None).fact → next.live ≡ (with_live s v false).live →
      next ≡ taken v (kept_names names s) s
  cut_goes next scope facts lives =
      state_is next (taken v (kept_names names s) s)
      (λ u. ap (λ h. h u) facts ∙ ap (λ o. if nat_eq u v then o else s.fact u) (ap (λ b. if b then s.fact v else None) (sym scope)))
      (λ u. ap (λ h. h u) lives ∙ ap (λ o. if nat_eq u v then o else s.live u) (ap (λ b. b && s.live v) (sym scope)))

nothing_kept : {A : Type 0} (b : Bool) (o : Option A) → o ≡ None → o ≡ (if b then o else None)
nothing_kept true o e = refl
nothing_kept false o e = e

dead_kept : (b live : Bool) → live ≡ false → live ≡ (b && live)
dead_kept true live e = refl
dead_kept false live e = e

pub cut_beyond : {V : Type 0} (names : ℕ → Bool) (s : AbstractState V) (u : ℕ) → s.fact u ≡ None → s.fact u ≡ (kept_names names s).fact u
cut_beyond names s u none = nothing_kept (names u) (s.fact u) none

pub cut_dead : {V : Type 0} (names : ℕ → Bool) (s : AbstractState V) (u : ℕ) → s.live u ≡ false → s.live u ≡ (kept_names names s).live u
cut_dead names s u dead = dead_kept (names u) (s.live u) dead

-- ---- parameters

turned : (a b : ℕ) → nat_eq a b ≡ nat_eq b a
turned a b = grind (arith, nat_tests)

-- the parameter before those that are in
pub parameters_more : {V : Type 0} (answers : Answers V) (f : Function) (params : List Param) (i left : ℕ) (p : Param) (now next : ℕ → Option V) → i < length params →
    p ≡ get_or params i p → i + 1 ≡ left → ((u : ℕ) → now u ≡ parameter_fact answers f (drop left params) u) →
    ((u : ℕ) → next u ≡ (if nat_eq u p.value.0 then Some (answers.any (type_of f p.value) (has_noundef p.words)) else now u)) →
    (u : ℕ) → next u ≡ parameter_fact answers f (drop i params) u
parameters_more {V = V} answers f params i left p now next inside is after sofar step u =
    let fact : Option V = Some (answers.any (type_of f p.value) (has_noundef p.words)) in
    step u ∙ (ap (λ o. if nat_eq u p.value.0 then fact else o) (sofar u ∙ ap (λ k. parameter_fact answers f (drop k params) u) (sym after))
    ∙ (ap (λ b. if b then fact else parameter_fact answers f (drop (i + 1) params) u) (turned u p.value.0)
    ∙ ap (λ list. parameter_fact answers f list u) (sym (left_at params i p inside is))))

pub none_distinct : IsDistinct nat_eq []
unfolding IsDistinct
none_distinct = tt
