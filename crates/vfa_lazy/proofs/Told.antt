-- What the table of a function tells of a name that is defined at the place.
use Rattle.std.proofs.Common.{◌≡◌, ℕ, Bool, true, false, List, Option, Some, None, IsSome, IsSomeAnd, refl, ap, subst}
use Rattle.std.specs.Option.{ForSome}
use Rattle.vfa_ir.specs.declared.operations.Ty.{Ty}
use Rattle.vfa_ir.specs.declared.operations.BlockId.{BlockId}
use Rattle.vfa_ir.specs.declared.functions.Function.{Function}
use Rattle.vfa_ir.specs.Walks.{is_in, IsReached}
use Rattle.vfa_cfg.specs.Order.{IsOrder, numbers}
use Rattle.vfa_cfg.proofs.InOrder.{is_ordered}
use Rattle.vfa_mean.specs.declared.value.Val.{Val}
use Rattle.vfa_mean.specs.FreshOperands.{IsDefinedAtPlace}
use Rattle.vfa_mean.specs.Moments.{Into, At}
use Rattle.vfa_values.specs.Answers.{Answers}
use Rattle.vfa_cond.specs.States.{AbstractState}
use Rattle.vfa_cond.specs.Truth.{IsTrueState}
use Rattle.vfa_walk.specs.Analysis.{Layout, IsLayout}
use Rattle.vfa_walk.specs.Tables.{States, HasShape, IsTableOf, state_at}
use Rattle.vfa_walk.specs.TruthLaws.{IsNeverMet, IsStateAt, IsTrueAtPlaces}
use Rattle.vfa_lazy.specs.declared.questions.Answer.{Answer}
use Rattle.vfa_lazy.specs.declared.questions.Place.{Place as Asked}
use Rattle.vfa_lazy.specs.Questions.{IsAnswer, IsReachedPlace, IsTrueOfRuns, IsTypedAnswer, place_of}
use Rattle.vfa_lazy.specs.Telling.{told_by, told_of}

module _ {V : Type 0} (answers : Answers V) (f : Function) (asked : Asked) (v : ℕ) (t : States V) where
  -- the state at the place
  abbrev there : Option (AbstractState V)
  there = state_at answers f t (place_of asked)

  pub is_answer : (ty : V → Ty) (proper : V → Type 0) → IsTableOf answers f t → IsDefinedAtPlace f (place_of asked) v →
      ForSome there (IsStateAt ty proper f (place_of asked)) → IsAnswer answers f asked v (told_of there v)
  is_answer ty proper table defined shape = by there refl
    where
      by_fact : (s : AbstractState V) → there ≡ Some s → (d : Option V) → s.fact v ≡ d → IsAnswer answers f asked v (told_by d)
      by_fact s e None none = absurd (let some : IsSome (s.fact v) = (shape s e).names v defined in let nothing : IsSome {T = V} None = subst IsSome none some in cc)
      by_fact s e (Some d) is = (defined, record { table = t; is_table = table; state = s; there = e; fact = is })

      by : (o : Option (AbstractState V)) → there ≡ o → IsAnswer answers f asked v (told_of o v)
      by None e = (defined, record { table = t; is_table = table; none = e })
      by (Some s) e = by_fact s e (s.fact v) refl

  pub is_true : (holds : V → Val → Type 0) → IsTrueAtPlaces holds answers f t → (there ≡ None → IsNeverMet f (place_of asked)) →
      IsTrueOfRuns holds f (place_of asked) v (told_of there v)
  is_true holds places unmet = by there refl
    where
      by_fact : (s : AbstractState V) → there ≡ Some s → (d : Option V) → s.fact v ≡ d → IsTrueOfRuns holds f (place_of asked) v (told_by d)
      by_fact s e None none = tt
      by_fact s e (Some d) is = λ env m.
          let state : IsTrueState holds f s env = subst (λ o. IsSomeAnd o (λ x. IsTrueState holds f x env)) e (places (place_of asked) env m) in
          state.facts v d is

      by : (o : Option (AbstractState V)) → there ≡ o → IsTrueOfRuns holds f (place_of asked) v (told_of o v)
      by None e = unmet e
      by (Some s) e = by_fact s e (s.fact v) refl

  pub is_typed : (ty : V → Ty) (proper : V → Type 0) → ForSome there (IsStateAt ty proper f (place_of asked)) →
      IsTypedAnswer ty proper f v (told_of there v)
  is_typed ty proper shape = by there refl
    where
      by_fact : (s : AbstractState V) → there ≡ Some s → (d : Option V) → s.fact v ≡ d → IsTypedAnswer ty proper f v (told_by d)
      by_fact s e None none = tt
      by_fact s e (Some d) is = (shape s e).facts v d is

      by : (o : Option (AbstractState V)) → there ≡ o → IsTypedAnswer ty proper f v (told_of o v)
      by None e = tt
      by (Some s) e = by_fact s e (s.fact v) refl

-- a place that no walk reaches has no state
no_place : (f : Function) (order : List BlockId) → IsOrder f order → (b : ℕ) → (IsReached f b → ⊥) → is_in b (numbers order) ≡ false
no_place f order is b none = by (is_in b (numbers order)) refl
  where
    by : (t : Bool) → is_in b (numbers order) ≡ t → is_in b (numbers order) ≡ false
    by true e = absurd (none (((is_ordered f order is).reached b).0 e).1)
    by false e = e

pub never_reached : {V : Type 0} (ty : V → Ty) (proper : V → Type 0) (answers : Answers V) (f : Function) (asked : Asked) (v : ℕ) (l : Layout) (t : States V) →
    IsLayout f l → HasShape ty proper f l t → (IsReachedPlace f asked → ⊥) → told_of (state_at answers f t (place_of asked)) v ≡ Answer.NeverReached
never_reached ty proper answers f (Asked.Entry b) v l t is shape none =
    ap (λ o. told_of (state_at answers f (λ _. o) (At b.0 0)) v) (shape.outside b.0 (no_place f l.order is.is_order b.0 none))
never_reached ty proper answers f (Asked.Pair from to) v l t is shape none =
    ap (λ o. told_of (state_at answers f (λ _. o) (Into (Some from.0) to.0)) v) (shape.outside from.0 (no_place f l.order is.is_order from.0 none))
