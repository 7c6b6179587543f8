-- That narrowing keeps the types of facts, and how its steps are put together.
use Rattle.std.proofs.Common.{◌≡◌, ℕ, zero, suc, Bool, true, false, nat_eq, if◌then◌else◌, Option, Some, None, IsSome, refl, sym, ◌∙◌, subst, eqb-true, arith, ◌-◌, sub-one}
use Rattle.std.specs.Option.{ForSome}
use Rattle.vfa_ir.specs.declared.operations.Op.{Op}
use Rattle.vfa_ir.specs.declared.operations.Operand.{Operand}
use Rattle.vfa_ir.specs.declared.operations.Pred.{Pred}
use Rattle.vfa_ir.specs.declared.operations.Ty.{Ty}
use Rattle.vfa_ir.specs.declared.operations.ValueId.{ValueId}
use Rattle.vfa_ir.specs.declared.functions.Function.{Function}
use Rattle.vfa_values.specs.Answers.{Answers}
use Rattle.vfa_values.specs.Conditions.{IsOf, IsInteger, AreAlike}
use Rattle.vfa_values.specs.Laws.{AreTyped}
use Rattle.vfa_cond.specs.declared.want.Want.{Want}
use Rattle.vfa_cond.specs.Conditions.{name_type, AreFacts}
use Rattle.vfa_cond.specs.Consequences.{consequence_of}
use Rattle.vfa_cond.specs.Equations.{equation}
use Rattle.vfa_cond.specs.Narrowing.{Change, Narrowing, and_then, Becomes, live_equation, held, held_with, followed, kept_by, narrowed, narrowed_by, carried_out}
use Rattle.vfa_cond.specs.Opposites.{exchanged}
use Rattle.vfa_cond.specs.States.{AbstractState, with_fact}
use Rattle.vfa_cond.specs.Wants.{kept, IsWantFor}

module _ {V : Type 0} where
  -- ---- what becomes of a state

  pub becomes_none : (r : Option (AbstractState V)) (new : AbstractState V) → r ≡ None → Becomes r false new
  becomes_none r new e = subst (λ x. Becomes x false new) (sym e) refl

  pub becomes_some : (r : Option (AbstractState V)) (s : AbstractState V) → r ≡ Some s → Becomes r true s
  becomes_some r s e = subst (λ x. Becomes x true s) (sym e) (refl, refl)

  pub stops : (r : Option (AbstractState V)) (next : Change V) (mid new : AbstractState V) → Becomes r false mid → Becomes (and_then r next) false new
  stops None next mid new b = refl
  stops (Some s) next mid new b = absurd (let e : false ≡ true = b.0 in cc)

  pub goes_on : (r : Option (AbstractState V)) (next : Change V) (answer : Bool) (mid new : AbstractState V)
      → Becomes r true mid → Becomes (next mid) answer new → Becomes (and_then r next) answer new
  goes_on None next answer mid new b after = absurd (let e : true ≡ false = b in cc)
  goes_on (Some s) next answer mid new b after = subst (λ x. Becomes (next x) answer new) b.1 after

  -- ---- what is kept of a fact

  pub is_given : (o : Option V) (d : V) → o ≡ Some d → IsSome o
  is_given o d e = subst IsSome (sym e) refl

  -- a name gets what is kept of its fact, and then comes what follows
  pub narrows_to : (answers : Answers V) (f : Function) (left v : ℕ) (want : Want V) (s : AbstractState V) (d e : V) (answer : Bool) (new : AbstractState V) → s.fact v ≡ Some d → kept answers d want ≡ Some e
      → Becomes (followed answers f left v e (with_fact s v (Some e))) answer new → Becomes (narrowed answers f left v want s) answer new
  narrows_to answers f left v want s d e answer new is left_is becomes =
      subst (λ o. Becomes (narrowed_by answers (followed answers f left v) v want o s) answer new) (sym is) (subst (λ o. Becomes (kept_by (followed answers f left v) v o s) answer new) (sym left_is) becomes)

  -- ---- two names of which a predicate holds

  -- one after the other, by the facts before
  pub holds_by : (answers : Answers V) (narrow : Narrowing V) (x : ValueId) (pred : Pred) (y : ValueId) (w : ℕ) (s : AbstractState V) (d e : V) (answer : Bool) (mid new : AbstractState V) → s.fact x.0 ≡ Some d → s.fact y.0 ≡ Some e
      → Becomes (narrow x.0 (Want.Compare pred e) s) true mid → Becomes (narrow y.0 (Want.Compare (exchanged pred) d) mid) answer new
      → Becomes (held answers narrow (Operand.Value x) pred (Operand.Value y) w s) answer new
  holds_by answers narrow x pred y w s d e answer mid new is is' first second =
      subst (λ o. Becomes (held_with answers narrow (Operand.Value x) pred (Operand.Value y) w o (s.fact y.0) s) answer new) (sym is)
      (subst (λ o. Becomes (held_with answers narrow (Operand.Value x) pred (Operand.Value y) w (Some d) o s) answer new) (sym is') (goes_on _ _ answer mid new first second))

  -- ---- what follows from a fact

  pub not_live : (f : Function) (s : AbstractState V) (v : ℕ) → s.live v ≡ false → live_equation f s v ≡ None
  not_live f s v e = rw e

  pub live_is : (f : Function) (s : AbstractState V) (v : ℕ) → s.live v ≡ true → live_equation f s v ≡ equation f v
  live_is f s v e = rw e

  pub follows_nothing : (answers : Answers V) (f : Function) (left v : ℕ) (d : V) (s : AbstractState V) → live_equation f s v ≡ None → followed answers f left v d s ≡ Some s
  unfolding followed
  follows_nothing answers f zero v d s e = refl
  follows_nothing answers f (suc left) v d s e = rw e

  pub follows_last : (answers : Answers V) (f : Function) (left v : ℕ) (d : V) (s : AbstractState V) → left ≡ 0 → followed answers f left v d s ≡ Some s
  unfolding followed
  follows_last answers f zero v d s e = refl
  follows_last answers f (suc left) v d s e = absurd (omega arith)

  pub follows : (answers : Answers V) (f : Function) (left v : ℕ) (d : V) (s : AbstractState V) (op : Op) → (left ≡ 0 → ⊥) → live_equation f s v ≡ Some op
      → followed answers f left v d s ≡ carried_out answers (narrowed answers f (left - 1)) (consequence_of answers op d) s
  unfolding followed
  follows answers f zero v d s op some e = absurd (some refl)
  follows answers f (suc left) v d s op some e = rw (sub-one, e)

  pub follows_by : (answers : Answers V) (f : Function) (left v : ℕ) (d : V) (s : AbstractState V) (op : Op) (answer : Bool) (new : AbstractState V) → (left ≡ 0 → ⊥) → live_equation f s v ≡ Some op
      → Becomes (carried_out answers (narrowed answers f (left - 1)) (consequence_of answers op d) s) answer new → Becomes (followed answers f left v d s) answer new
  follows_by answers f left v d s op answer new some e becomes = subst (λ r. Becomes r answer new) (sym (follows answers f left v d s op some e)) becomes

  -- ---- types of facts

  module _ (ty : V → Ty) (proper : V → Type 0) (f : Function) where
    with_typed : (s : AbstractState V) (v u : ℕ) (d : V) (b : Bool) → nat_eq u v ≡ b → AreFacts ty proper f s → IsOf ty proper (name_type f v) d
        → ForSome (if b then Some d else s.fact u) (IsOf ty proper (name_type f u))
    with_typed s v u d true t facts of =
        λ x e. let same : d ≡ x = cc in
        subst (λ y. IsOf ty proper (name_type f u) y) same (subst (λ k. IsOf ty proper (name_type f k) d) (sym (eqb-true u v t)) of)
    with_typed s v u d false t facts of = facts u

    -- a fact of the name's type leaves all facts of their types
    pub with_facts : (s : AbstractState V) (v : ℕ) (d : V) → AreFacts ty proper f s → IsOf ty proper (name_type f v) d → AreFacts ty proper f (with_fact s v (Some d))
    with_facts s v d facts of u = with_typed s v u d (nat_eq u v) refl facts of

    pub alike : (t : Ty) (d e : V) → IsOf ty proper t d → IsOf ty proper t e → AreAlike ty proper d e
    alike t d e of of' = record { first = of.is_proper; second = of'.is_proper; same_type = of.typed ∙ sym of'.typed }

    -- what is kept of a value is of its type
    pub kept_typed : (answers : Answers V) → AreTyped (IsOf ty proper) answers → (t : Ty) (d : V) (want : Want V) → IsInteger t → IsOf ty proper t d → IsWantFor ty proper t want
        → ForSome (kept answers d want) (IsOf ty proper t)
    kept_typed answers laws (Ty.Int w) d (Want.Compare pred e) int of is = laws.compare w d e pred of is
    kept_typed answers laws (Ty.Int w) d (Want.Bits mask value) int of is = laws.with_bits w mask value d of is.0 is.1
    kept_typed answers laws (Ty.Int w) d (Want.Moved sums c) int of is = laws.moved_from w c d sums of is.0 is.1
    kept_typed answers laws (Ty.Pair w) d want int of is = absurd int
