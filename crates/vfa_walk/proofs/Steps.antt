-- How the steps of a walk are put together.
use Rattle.std.proofs.Common.{◌≡◌, ◌<◌, ◌+◌, ℕ, Bool, true, false, if◌then◌else◌, Option, Some, None, List, ◌∷◌, drop, length, get_or, refl, sym, ◌∙◌, ap, subst, add-one, drop-cons}
use Rattle.std.specs.Option.{option_map}
use Rattle.vfa_ir.specs.declared.operations.Op.{Op}
use Rattle.vfa_ir.specs.declared.operations.ValueId.{ValueId}
use Rattle.vfa_ir.specs.declared.functions.Function.{Function}
use Rattle.vfa_ir.specs.declared.functions.Inst.{Inst}
use Rattle.vfa_mean.specs.Moments.{is_call}
use Rattle.vfa_values.specs.Answers.{Answers}
use Rattle.vfa_cond.specs.Narrowing.{and_then, Becomes}
use Rattle.vfa_cond.specs.States.{AbstractState, with_live}
use Rattle.vfa_walk.specs.Stepping.{result_fact, redefined, with_result, after_inst, after_insts}

-- the list from a place on
pub from_place : {A : Type 0} (xs : List A) (i : ℕ) (d : A) → i < length xs → drop i xs ≡ get_or xs i d ∷ drop (i + 1) xs
from_place xs i d inside = drop-cons xs i d inside ∙ ap (λ k. get_or xs i d ∷ drop k xs) (sym (add-one i))

module _ {V : Type 0} where
  pub becomes_is : (r : Option (AbstractState V)) (new : AbstractState V) → Becomes r true new → r ≡ Some new
  becomes_is None new b = absurd (let e : true ≡ false = b in cc)
  becomes_is (Some s) new b = ap Some (sym b.1)

  pub is_becomes : (r : Option (AbstractState V)) (s : AbstractState V) → r ≡ Some s → Becomes r true s
  is_becomes r s e = subst (λ x. Becomes x true s) (sym e) (refl, refl)

  pub mapped_goes : (r : Option (AbstractState V)) (h : AbstractState V → AbstractState V) (mid new : AbstractState V) →
      Becomes r true mid → new ≡ h mid → Becomes (option_map h r) true new
  mapped_goes None h mid new b e = absurd (let e : true ≡ false = b in cc)
  mapped_goes (Some s) h mid new b e = (refl, e ∙ ap h b.1)

  pub mapped_stops : (r : Option (AbstractState V)) (h : AbstractState V → AbstractState V) (mid new : AbstractState V) →
      Becomes r false mid → Becomes (option_map h r) false new
  mapped_stops None h mid new b = refl
  mapped_stops (Some s) h mid new b = absurd (let e : false ≡ true = b.0 in cc)

  module _ (answers : Answers V) (f : Function) where
    pub other_given : (op : Op) (v : ValueId) (s mid : AbstractState V) (fact : V) → is_call op ≡ false → fact ≡ result_fact answers f op s →
        mid ≡ redefined f v.0 fact s → with_live mid v.0 true ≡ with_result answers f op (Some v) s
    other_given op v s mid fact other is e =
        ap (λ t. with_live t v.0 true) e ∙ (ap (λ d. with_live (redefined f v.0 d s) v.0 true) is
        ∙ sym (choose (is_call op) (redefined f v.0 (result_fact answers f op s) s) (with_live (redefined f v.0 (result_fact answers f op s) s) v.0 true) other))
      where
        choose : (b : Bool) (x y : AbstractState V) → b ≡ false → (if b then x else y) ≡ y
        choose true x y h = absurd (cc)
        choose false x y h = refl

    pub call_given : (op : Op) (v : ValueId) (s mid : AbstractState V) (fact : V) → is_call op ≡ true → fact ≡ result_fact answers f op s →
        mid ≡ redefined f v.0 fact s → mid ≡ with_result answers f op (Some v) s
    call_given op v s mid fact call is e =
        e ∙ (ap (λ d. redefined f v.0 d s) is
        ∙ sym (choose (is_call op) (redefined f v.0 (result_fact answers f op s) s) (with_live (redefined f v.0 (result_fact answers f op s) s) v.0 true) call))
      where
        choose : (b : Bool) (x y : AbstractState V) → b ≡ true → (if b then x else y) ≡ x
        choose true x y h = refl
        choose false x y h = absurd (cc)

    -- one more instruction
    pub insts_more : (insts : List Inst) (i : ℕ) (d : Inst) (first now next : AbstractState V) → i < length insts →
        after_insts answers f insts first ≡ after_insts answers f (drop i insts) now → Becomes (after_inst answers f (get_or insts i d) now) true next →
        after_insts answers f insts first ≡ after_insts answers f (drop (i + 1) insts) next
    insts_more insts i d first now next inside sofar step =
        sofar ∙ (ap (λ xs. after_insts answers f xs now) (from_place insts i d inside)
        ∙ ap (λ r. and_then r (after_insts answers f (drop (i + 1) insts))) (becomes_is (after_inst answers f (get_or insts i d) now) next step))

pub becomes_nothing : {V : Type 0} (r : Option (AbstractState V)) (new : AbstractState V) → Becomes r false new → r ≡ None
becomes_nothing None new b = refl
becomes_nothing (Some s) new b = absurd (let e : false ≡ true = b.0 in cc)
