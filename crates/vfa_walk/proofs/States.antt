-- States as functions of names, and states as they are kept.
use Rattle.std.proofs.Common.{◌≡◌, ◌<◌, ◌≤◌, ℕ, suc, Bool, true, false, not, ◌&&◌, ◌||◌, nat_eq, if◌then◌else◌, Option, Some, None, is_some, List, [], ◌∷◌, drop, take, length, get_or, refl, sym, ◌∙◌, ap, subst, arith, ◌+◌, add-one, drop-cons, eqb-true}
use Rattle.std.specs.Option.{ForSome}
use Rattle.std.specs.Prelude.{unwrap_or}
use Rattle.std.specs.List.{list_any}
use Rattle.std.proofs.lemmas.Bool.Decides.{nat_tests}
use Rattle.std.proofs.lemmas.List.Folds.{list_any_more}
use Rattle.std.proofs.lemmas.Option.{slice_get_past}
use Rattle.std.proofs.Math.ListN.{drop_of_length-le}
use Rattle.vfa_ir.specs.declared.operations.Ty.{Ty}
use Rattle.vfa_ir.specs.declared.functions.Function.{Function}
use Rattle.vfa_values.specs.Conditions.{IsOf}
use Rattle.vfa_cond.specs.Conditions.{AreFacts, name_type}
use Rattle.vfa_cond.specs.States.{AbstractState, Stored, known, name_count, IsRoomy, KeepsRoom, KeepsNames, mark_in, with_fact}
use Rattle.vfa_walk.specs.Kept.{IsStateOf}

-- ---- equal states

pub funext : {A B : Type 0} {f g : A → B} → ((x : A) → f x ≡ g x) → f ≡ g
funext h = λ i x. h x i

pub state_is : {V : Type 0} (s t : AbstractState V) → ((v : ℕ) → s.fact v ≡ t.fact v) → ((v : ℕ) → s.live v ≡ t.live v) → s ≡ t
state_is s t facts live = let f : s.fact ≡ t.fact = funext facts in let l : s.live ≡ t.live = funext live in λ i. record { fact = f i; live = l i }

-- ---- lists

pub left_at : {A : Type 0} (xs : List A) (i : ℕ) (x : A) → i < length xs → x ≡ get_or xs i x → drop i xs ≡ x ∷ drop (i + 1) xs
left_at xs i x inside is = drop-cons xs i x inside ∙ (ap (λ y. y ∷ drop (suc i) xs) (sym is) ∙ ap (λ k. x ∷ drop k xs) (sym (add-one i)))

pub nothing_behind : {A : Type 0} (xs : List A) (i : ℕ) → length xs ≤ i → drop i xs ≡ []
nothing_behind xs i h = drop_of_length-le xs h

-- ---- equations that end

pub without : (u w : ℕ) (live : ℕ → Bool) → (if nat_eq w u then false else live w) ≡ (live w && not (nat_eq u w))
without u w live = at (live w)
  where
    at : (b : Bool) → (if nat_eq w u then false else b) ≡ (b && not (nat_eq u w))
    at true = grind (arith, nat_tests)
    at false = grind (arith, nat_tests)

-- what of these ends and then what of those
pub without_both : (b p q : Bool) → ((b && not p) && not q) ≡ (b && not (p || q))
without_both true true q = refl
without_both true false q = refl
without_both false p q = refl

-- ---- states as they are kept

pub none_if : {V : Type 0} (o : Option V) → is_some o ≡ false → o ≡ None
none_if None h = refl
none_if (Some d) h = absurd (cc)

module _ {V : Type 0} (ty : V → Ty) (proper : V → Type 0) (f : Function) where
  -- a state in which the same names have facts, each of its type
  pub stays_state : (old new : Stored V) → IsStateOf ty proper f old → KeepsRoom old new → KeepsNames (known old) (known new) →
      AreFacts ty proper f (known new) → IsStateOf ty proper f new
  stays_state old new state room names facts = record {
    names = room.names ∙ state.names;
    roomy = let a : name_count new ≡ name_count old = room.names in let b : new.room ≡ old.room = room.room in let c : name_count old ≤ old.room = state.roomy in omega arith;
    facts = facts;
    within = λ v outside. none_if ((known new).fact v) (names.facts v ∙ ap is_some (state.within v outside));
  }

  -- a state in which one name has another fact of its type, or none
  pub put_state : (old new : Stored V) (v : ℕ) (fact : Option V) → IsStateOf ty proper f old → KeepsRoom old new →
      known new ≡ with_fact (known old) v fact → v < length f.values → ForSome fact (IsOf ty proper (name_type f v)) → IsStateOf ty proper f new
  put_state old new v fact state room change below of = record {
    names = room.names ∙ state.names;
    roomy = let a : name_count new ≡ name_count old = room.names in let b : new.room ≡ old.room = room.room in let c : name_count old ≤ old.room = state.roomy in omega arith;
    facts = subst (AreFacts ty proper f) (sym change) (λ u. typed u (nat_eq u v) refl);
    within = λ u outside. ap (λ s. s.fact u) change ∙ beyond u outside (nat_eq u v) refl;
  }
    where
      typed : (u : ℕ) (b : Bool) → nat_eq u v ≡ b → ForSome (if b then fact else (known old).fact u) (IsOf ty proper (name_type f u))
      typed u true same = subst (λ k. ForSome fact (IsOf ty proper (name_type f k))) (sym (eqb-true u v same)) of
      typed u false same = state.facts u

      beyond : (u : ℕ) → length f.values ≤ u → (b : Bool) → nat_eq u v ≡ b → (if b then fact else (known old).fact u) ≡ None
      beyond u outside true same = let e : u ≡ v = eqb-true u v same in absurd (omega arith)
      beyond u outside false same = state.within u outside

  -- a state with the same facts
  pub same_facts_state : (old new : Stored V) → IsStateOf ty proper f old → KeepsRoom old new → (known new).fact ≡ (known old).fact → IsStateOf ty proper f new
  same_facts_state old new state room same = record {
    names = room.names ∙ state.names;
    roomy = let a : name_count new ≡ name_count old = room.names in let b : new.room ≡ old.room = room.room in let c : name_count old ≤ old.room = state.roomy in omega arith;
    facts = λ u. let P : Option V → Type 0 = λ o. ForSome o (IsOf ty proper (name_type f u)) in subst P (sym (ap (λ h. h u) same)) (state.facts u);
    within = λ u outside. ap (λ h. h u) same ∙ state.within u outside;
  }

pub room_kept : {V : Type 0} (a b c : Stored V) → KeepsRoom a b → KeepsRoom b c → KeepsRoom a c
room_kept a b c first second = record { names = second.names ∙ first.names; room = second.room ∙ first.room }

-- one more of a list ends what it ends
pub ends_more : {A : Type 0} (p : A → Bool) (xs : List A) (i : ℕ) (d : A) (before now next : Bool) → i < length xs →
    next ≡ (now && not (p (get_or xs i d))) → now ≡ (before && not (list_any p (take i xs))) → next ≡ (before && not (list_any p (take (i + 1) xs)))
ends_more p xs i d before now next inside step sofar =
    step ∙ (ap (λ b. b && not (p (get_or xs i d))) sofar ∙ (without_both before (list_any p (take i xs)) (p (get_or xs i d)) ∙ ap (λ b. before && not b) (sym (list_any_more p xs i d inside))))

pub none_live_beyond : (marks : List Bool) (u : ℕ) → length marks ≤ u → mark_in marks u ≡ false
none_live_beyond marks u outside = ap (λ o. unwrap_or o false) (slice_get_past marks u outside)

-- a copy
pub copied_state : {V : Type 0} (ty : V → Ty) (proper : V → Type 0) (f : Function) (old new : Stored V) → IsStateOf ty proper f old →
    known new ≡ known old → name_count new ≡ name_count old → IsRoomy new → IsStateOf ty proper f new
copied_state ty proper f old new state same names roomy = record {
  names = names ∙ state.names;
  roomy = roomy;
  facts = subst (AreFacts ty proper f) (sym same) state.facts;
  within = λ u outside. ap (λ s. s.fact u) same ∙ state.within u outside;
}
