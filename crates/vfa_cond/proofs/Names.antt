-- Narrowing neither gives nor takes facts, and ends no equation.
use Rattle.std.proofs.Common.{◌≡◌, ℕ, zero, suc, Bool, true, false, nat_eq, if◌then◌else◌, Option, Some, None, is_some, IsTrue, refl, sym, ◌∙◌, ap, subst, eqb-true}
use Rattle.std.specs.Option.{ForSome}
use Rattle.vfa_ir.specs.declared.operations.Op.{Op}
use Rattle.vfa_ir.specs.declared.operations.Operand.{Operand}
use Rattle.vfa_ir.specs.declared.operations.Pred.{Pred}
use Rattle.vfa_ir.specs.declared.functions.Function.{Function}
use Rattle.vfa_values.specs.Answers.{Answers}
use Rattle.vfa_cond.specs.declared.want.Want.{Want}
use Rattle.vfa_cond.specs.declared.consequence.Consequence.{Consequence}
use Rattle.vfa_cond.specs.Consequences.{consequence_of}
use Rattle.vfa_cond.specs.Narrowing.{Change, Narrowing, and_then, operand_fact, narrowed_operand, held_with, held, carried_out, live_equation, by_equation, kept_by, narrowed_by, followed, narrowed, Becomes}
use Rattle.vfa_cond.specs.Opposites.{exchanged}
use Rattle.vfa_cond.specs.States.{AbstractState, with_fact, KeepsNames}
use Rattle.vfa_cond.specs.Wants.{kept}
use Rattle.vfa_cond.proofs.Fitting.{some_of, none_of}

module _ {V : Type 0} where
  stays : (s : AbstractState V) → KeepsNames s s
  stays s = record { facts = λ v. refl; live = λ v. refl }

  joined : (s t u : AbstractState V) → KeepsNames s t → KeepsNames t u → KeepsNames s u
  joined s t u first second = record { facts = λ v. second.facts v ∙ first.facts v; live = λ v. second.live v ∙ first.live v }

  given_stays : (s : AbstractState V) (v u : ℕ) (d e : V) (b : Bool) → nat_eq u v ≡ b → s.fact v ≡ Some d → is_some (if b then Some e else s.fact u) ≡ is_some (s.fact u)
  given_stays s v u d e true t was = sym (ap is_some (ap s.fact (eqb-true u v t) ∙ was))
  given_stays s v u d e false t was = refl

  with_stays : (s : AbstractState V) (v : ℕ) (d e : V) → s.fact v ≡ Some d → KeepsNames s (with_fact s v (Some e))
  with_stays s v d e was = record { facts = λ u. given_stays s v u d e (nat_eq u v) refl was; live = λ u. refl }

  -- what a change keeps
  abbrev Keeps : Option (AbstractState V) → AbstractState V → Type 0
  Keeps r s = ForSome r (KeepsNames s)

  some_stays : (s : AbstractState V) → Keeps (Some s) s
  some_stays s = some_of (KeepsNames s) s (stays s)

  then_keeps : (s : AbstractState V) (r : Option (AbstractState V)) (next : Change V) → Keeps r s → ((t : AbstractState V) → Keeps (next t) t) → Keeps (and_then r next) s
  then_keeps s None next first second = none_of (KeepsNames s)
  then_keeps s (Some t) next first second = λ u e. joined s t u (first t refl) (second t u e)

  abbrev NarrowingKeeps : Narrowing V → Type 0
  NarrowingKeeps narrow = (v : ℕ) (want : Want V) (s : AbstractState V) → Keeps (narrow v want s) s

  if_keeps : (s : AbstractState V) (b : Bool) → Keeps (if b then Some s else None) s
  if_keeps s true = some_stays s
  if_keeps s false = none_of (KeepsNames s)

  operand_keeps : (answers : Answers V) (narrow : Narrowing V) → NarrowingKeeps narrow → (x : Operand) (w : ℕ) (want : Want V) (s : AbstractState V) → Keeps (narrowed_operand answers narrow x w want s) s
  operand_keeps answers narrow keeps (Operand.Value v) w want s = keeps v.0 want s
  operand_keeps answers narrow keeps (Operand.Literal bits) w want s = if_keeps s (is_some (kept answers (answers.literal w bits) want))
  operand_keeps answers narrow keeps Operand.Poison w want s = none_of (KeepsNames s)

  held_with_keeps : (answers : Answers V) (narrow : Narrowing V) → NarrowingKeeps narrow → (x : Operand) (pred : Pred) (y : Operand) (w : ℕ) (X Y : Option V) (s : AbstractState V) → Keeps (held_with answers narrow x pred y w X Y s) s
  held_with_keeps answers narrow keeps x pred y w None Y s = some_stays s
  held_with_keeps answers narrow keeps x pred y w (Some d) None s = some_stays s
  held_with_keeps answers narrow keeps x pred y w (Some d) (Some e) s =
      then_keeps s _ _ (operand_keeps answers narrow keeps x w (Want.Compare pred e) s) (operand_keeps answers narrow keeps y w (Want.Compare (exchanged pred) d))

  pub held_keeps : (answers : Answers V) (narrow : Narrowing V) → NarrowingKeeps narrow → (x : Operand) (pred : Pred) (y : Operand) (w : ℕ) (s : AbstractState V) → Keeps (held answers narrow x pred y w s) s
  held_keeps answers narrow keeps x pred y w s = held_with_keeps answers narrow keeps x pred y w (operand_fact answers w s x) (operand_fact answers w s y) s

  carried_keeps : (answers : Answers V) (narrow : Narrowing V) → NarrowingKeeps narrow → (k : Consequence V) (s : AbstractState V) → Keeps (carried_out answers narrow k s) s
  carried_keeps answers narrow keeps Consequence.Nothing s = some_stays s
  carried_keeps answers narrow keeps Consequence.Contradiction s = none_of (KeepsNames s)
  carried_keeps answers narrow keeps (Consequence.One x w want) s = operand_keeps answers narrow keeps x w want s
  carried_keeps answers narrow keeps (Consequence.Both x y want) s = then_keeps s _ _ (operand_keeps answers narrow keeps x 1 want s) (operand_keeps answers narrow keeps y 1 want)
  carried_keeps answers narrow keeps (Consequence.Holds x pred y w) s = held_keeps answers narrow keeps x pred y w s

  equation_keeps : (answers : Answers V) (narrow : Narrowing V) → NarrowingKeeps narrow → (d : V) (o : Option Op) (s : AbstractState V) → Keeps (by_equation answers narrow d o s) s
  equation_keeps answers narrow keeps d None s = some_stays s
  equation_keeps answers narrow keeps d (Some op) s = carried_keeps answers narrow keeps (consequence_of answers op d) s

  abbrev FollowingKeeps : (ℕ → V → Change V) → Type 0
  FollowingKeeps follow = (v : ℕ) (d : V) (s : AbstractState V) → Keeps (follow v d s) s

  kept_keeps : (follow : ℕ → V → Change V) → FollowingKeeps follow → (v : ℕ) (d : V) (o : Option V) (s : AbstractState V) → s.fact v ≡ Some d → Keeps (kept_by (follow v) v o s) s
  kept_keeps follow keeps v d None s was = none_of (KeepsNames s)
  kept_keeps follow keeps v d (Some e) s was = λ u is. joined s (with_fact s v (Some e)) u (with_stays s v d e was) (keeps v e (with_fact s v (Some e)) u is)

  narrowed_by_keeps : (answers : Answers V) (follow : ℕ → V → Change V) → FollowingKeeps follow → (v : ℕ) (want : Want V) (o : Option V) (s : AbstractState V) → s.fact v ≡ o → Keeps (narrowed_by answers (follow v) v want o s) s
  narrowed_by_keeps answers follow keeps v want None s was = some_stays s
  narrowed_by_keeps answers follow keeps v want (Some d) s was = kept_keeps follow keeps v d (kept answers d want) s was

  narrowing_keeps : (answers : Answers V) (follow : ℕ → V → Change V) → FollowingKeeps follow → NarrowingKeeps (λ v want s. narrowed_by answers (follow v) v want (s.fact v) s)
  narrowing_keeps answers follow keeps v want s = narrowed_by_keeps answers follow keeps v want (s.fact v) s refl

  followed_keeps : (answers : Answers V) (f : Function) (left : ℕ) → FollowingKeeps (followed answers f left)
  unfolding followed
  followed_keeps answers f zero v d s = some_stays s
  followed_keeps answers f (suc left) v d s = equation_keeps answers _ (narrowing_keeps answers (followed answers f left) (followed_keeps answers f left)) d (live_equation f s v) s

  pub narrowed_keeps : (answers : Answers V) (f : Function) (left : ℕ) → NarrowingKeeps (narrowed answers f left)
  narrowed_keeps answers f left = narrowing_keeps answers (followed answers f left) (followed_keeps answers f left)

  pub becomes_keeps : (r : Option (AbstractState V)) (answer : Bool) (s new : AbstractState V) → Becomes r answer new → Keeps r s → IsTrue answer → KeepsNames s new
  becomes_keeps None answer s new b keeps sure = absurd (let e : true ≡ false = sym sure ∙ b in cc)
  becomes_keeps (Some t) answer s new b keeps sure = subst (KeepsNames s) (sym b.1) (keeps t refl)
