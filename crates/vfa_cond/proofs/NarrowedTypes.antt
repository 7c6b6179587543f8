-- Narrowing keeps the types of facts, as it is defined.
use Rattle.std.proofs.Common.{◌≡◌, ℕ, zero, suc, Bool, true, false, if◌then◌else◌, Option, Some, None, is_some, refl, sym, subst}
use Rattle.std.specs.Option.{ForSome}
use Rattle.vfa_ir.specs.declared.operations.Op.{Op}
use Rattle.vfa_ir.specs.declared.operations.Operand.{Operand}
use Rattle.vfa_ir.specs.declared.operations.Pred.{Pred}
use Rattle.vfa_ir.specs.declared.operations.Ty.{Ty}
use Rattle.vfa_ir.specs.declared.functions.Function.{Function}
use Rattle.vfa_values.specs.Answers.{Answers}
use Rattle.vfa_values.specs.Conditions.{IsOf}
use Rattle.vfa_values.specs.Laws.{AreTyped}
use Rattle.vfa_cond.specs.declared.want.Want.{Want}
use Rattle.vfa_cond.specs.declared.consequence.Consequence.{Consequence}
use Rattle.vfa_cond.specs.Conditions.{name_type, IsTypedEquation, HasTypedEquations, IsNumberOperand, AreFacts, FitsConsequence}
use Rattle.vfa_cond.specs.Consequences.{consequence_of}
use Rattle.vfa_cond.specs.Equations.{equation}
use Rattle.vfa_cond.specs.Narrowing.{Change, Narrowing, and_then, operand_fact, narrowed_operand, held_with, held, carried_out, live_equation, by_equation, kept_by, narrowed_by, followed, narrowed}
use Rattle.vfa_cond.specs.Opposites.{exchanged}
use Rattle.vfa_cond.specs.States.{AbstractState, with_fact}
use Rattle.vfa_cond.specs.Wants.{IsWantFor, kept}
use Rattle.vfa_cond.proofs.Fitting.{some_of, none_of, consequence_fits, operand_typed, has_type}
use Rattle.vfa_cond.proofs.Keeping.{with_facts, kept_typed}

module _ {V : Type 0} (ty : V → Ty) (proper : V → Type 0) (answers : Answers V) (types : AreTyped (IsOf ty proper) answers) (f : Function) where
  abbrev pub Keeps : Option (AbstractState V) → Type 0
  Keeps r = ForSome r (AreFacts ty proper f)

  pub then_keeps : (r : Option (AbstractState V)) (next : Change V) → Keeps r → ((t : AbstractState V) → AreFacts ty proper f t → Keeps (next t)) → Keeps (and_then r next)
  then_keeps None next first second = none_of (AreFacts ty proper f)
  then_keeps (Some t) next first second = second t (first t refl)

  abbrev pub NarrowingKeeps : Narrowing V → Type 0
  NarrowingKeeps narrow = (v w : ℕ) (want : Want V) (s : AbstractState V) → name_type f v ≡ Ty.Int w → IsWantFor ty proper (Ty.Int w) want → AreFacts ty proper f s → Keeps (narrow v want s)

  if_keeps : (s : AbstractState V) (b : Bool) → AreFacts ty proper f s → Keeps (if b then Some s else None)
  if_keeps s true facts = some_of (AreFacts ty proper f) s facts
  if_keeps s false facts = none_of (AreFacts ty proper f)

  pub operand_keeps : (narrow : Narrowing V) → NarrowingKeeps narrow → (x : Operand) (w : ℕ) (want : Want V) (s : AbstractState V) → IsNumberOperand f w x → IsWantFor ty proper (Ty.Int w) want
      → AreFacts ty proper f s → Keeps (narrowed_operand answers narrow x w want s)
  operand_keeps narrow keeps (Operand.Value v) w want s of for facts = keeps v.0 w want s (has_type f v (Ty.Int w) of.typed) for facts
  operand_keeps narrow keeps (Operand.Literal bits) w want s of for facts = if_keeps s (is_some (kept answers (answers.literal w bits) want)) facts
  operand_keeps narrow keeps Operand.Poison w want s of for facts = none_of (AreFacts ty proper f)

  held_with_keeps : (narrow : Narrowing V) → NarrowingKeeps narrow → (x : Operand) (pred : Pred) (y : Operand) (w : ℕ) (X Y : Option V) (s : AbstractState V)
      → IsNumberOperand f w x → IsNumberOperand f w y → ForSome X (IsOf ty proper (Ty.Int w)) → ForSome Y (IsOf ty proper (Ty.Int w)) → AreFacts ty proper f s
      → Keeps (held_with answers narrow x pred y w X Y s)
  held_with_keeps narrow keeps x pred y w None Y s of of' typed typed' facts = some_of (AreFacts ty proper f) s facts
  held_with_keeps narrow keeps x pred y w (Some d) None s of of' typed typed' facts = some_of (AreFacts ty proper f) s facts
  held_with_keeps narrow keeps x pred y w (Some d) (Some e) s of of' typed typed' facts =
      then_keeps _ _ (operand_keeps narrow keeps x w (Want.Compare pred e) s of (typed' e refl) facts)
      (λ t facts'. operand_keeps narrow keeps y w (Want.Compare (exchanged pred) d) t of' (typed d refl) facts')

  carried_keeps : (narrow : Narrowing V) → NarrowingKeeps narrow → (k : Consequence V) (s : AbstractState V) → FitsConsequence ty proper f k → AreFacts ty proper f s → Keeps (carried_out answers narrow k s)
  carried_keeps narrow keeps Consequence.Nothing s fits facts = some_of (AreFacts ty proper f) s facts
  carried_keeps narrow keeps Consequence.Contradiction s fits facts = none_of (AreFacts ty proper f)
  carried_keeps narrow keeps (Consequence.One x w want) s fits facts = operand_keeps narrow keeps x w want s fits.0 fits.1 facts
  carried_keeps narrow keeps (Consequence.Both x y want) s fits facts =
      then_keeps _ _ (operand_keeps narrow keeps x 1 want s fits.0 fits.2 facts) (λ t facts'. operand_keeps narrow keeps y 1 want t fits.1 fits.2 facts')
  carried_keeps narrow keeps (Consequence.Holds x pred y w) s fits facts =
      held_with_keeps narrow keeps x pred y w (operand_fact answers w s x) (operand_fact answers w s y) s fits.0 fits.1
      (operand_typed ty proper answers types f w s x facts fits.0) (operand_typed ty proper answers types f w s y facts fits.1) facts

  abbrev FollowingKeeps : (ℕ → V → Change V) → Type 0
  FollowingKeeps follow = (v : ℕ) (d : V) (s : AbstractState V) → IsOf ty proper (name_type f v) d → AreFacts ty proper f s → Keeps (follow v d s)

  kept_keeps : (follow : ℕ → V → Change V) → FollowingKeeps follow → (v : ℕ) (o : Option V) (s : AbstractState V) → ForSome o (IsOf ty proper (name_type f v)) → AreFacts ty proper f s
      → Keeps (kept_by (follow v) v o s)
  kept_keeps follow keeps v None s of facts = none_of (AreFacts ty proper f)
  kept_keeps follow keeps v (Some e) s of facts = keeps v e (with_fact s v (Some e)) (of e refl) (with_facts ty proper f s v e facts (of e refl))

  narrowed_by_keeps : (follow : ℕ → V → Change V) → FollowingKeeps follow → (v w : ℕ) (want : Want V) (o : Option V) (s : AbstractState V) → s.fact v ≡ o → name_type f v ≡ Ty.Int w
      → IsWantFor ty proper (Ty.Int w) want → AreFacts ty proper f s → Keeps (narrowed_by answers (follow v) v want o s)
  narrowed_by_keeps follow keeps v w want None s was name for facts = some_of (AreFacts ty proper f) s facts
  narrowed_by_keeps follow keeps v w want (Some d) s was name for facts =
      kept_keeps follow keeps v (kept answers d want) s
      (λ e is. subst (λ t. IsOf ty proper t e) (sym name)
      (kept_typed ty proper f answers types (Ty.Int w) d want tt (subst (λ t. IsOf ty proper t d) name (facts v d was)) for e is)) facts

  narrowing_keeps : (follow : ℕ → V → Change V) → FollowingKeeps follow → NarrowingKeeps (λ v want s. narrowed_by answers (follow v) v want (s.fact v) s)
  narrowing_keeps follow keeps v w want s name for facts = narrowed_by_keeps follow keeps v w want (s.fact v) s refl name for facts

  module _ (equations : HasTypedEquations f) where
    equation_keeps : (narrow : Narrowing V) → NarrowingKeeps narrow → (v : ℕ) (d : V) (o : Option Op) (s : AbstractState V) → ForSome o (IsTypedEquation f v) → IsOf ty proper (name_type f v) d
        → AreFacts ty proper f s → Keeps (by_equation answers narrow d o s)
    equation_keeps narrow keeps v d None s eq of facts = some_of (AreFacts ty proper f) s facts
    equation_keeps narrow keeps v d (Some op) s eq of facts =
        carried_keeps narrow keeps (consequence_of answers op d) s (consequence_fits ty proper answers types f v op d (eq op refl) of) facts

    live_typed : (v : ℕ) (s : AbstractState V) (b : Bool) → ForSome (if b then equation f v else None) (IsTypedEquation f v)
    live_typed v s true = equations v
    live_typed v s false = none_of (IsTypedEquation f v)

    followed_keeps : (left : ℕ) → FollowingKeeps (followed answers f left)
    unfolding followed
    followed_keeps zero v d s of facts = some_of (AreFacts ty proper f) s facts
    followed_keeps (suc left) v d s of facts =
        equation_keeps _ (narrowing_keeps (followed answers f left) (followed_keeps left)) v d (live_equation f s v) s (live_typed v s (s.live v)) of facts

    pub narrowed_keeps : (left : ℕ) → NarrowingKeeps (narrowed answers f left)
    narrowed_keeps left = narrowing_keeps (followed answers f left) (followed_keeps left)
