-- Cursors have the state of the table at their place.
use Rattle.std.proofs.Common.{◌≡◌, ◌+◌, ℕ, zero, suc, Option, Some, None, List, [], ◌∷◌, take, refl, ◌∙◌, ap, add-one}
use Rattle.std.specs.Prelude.{slice_get}
use Rattle.vfa_ir.specs.declared.operations.BlockId.{BlockId}
use Rattle.vfa_ir.specs.declared.functions.Function.{Function}
use Rattle.vfa_ir.specs.declared.functions.Inst.{Inst}
use Rattle.vfa_mean.specs.Moments.{At}
use Rattle.vfa_values.specs.Answers.{Answers}
use Rattle.vfa_cond.specs.Narrowing.{and_then}
use Rattle.vfa_cond.specs.States.{AbstractState, known}
use Rattle.vfa_walk.specs.declared.cursor.Cursor.{Cursor}
use Rattle.vfa_walk.specs.Cursors.{HasGoneOn, IsAtEntry, Stops}
use Rattle.vfa_walk.specs.Passes.{followed}
use Rattle.vfa_walk.specs.Stepping.{after_inst, after_insts, before_line, insts_of}
use Rattle.vfa_walk.specs.Tables.{States, state_at}

module _ {V : Type 0} (answers : Answers V) (f : Function) where
  last_stays : (r : Option (AbstractState V)) → and_then r (after_insts answers f []) ≡ r
  last_stays None = refl
  last_stays (Some s) = refl

  after_more : (insts : List Inst) (i : ℕ) (inst : Inst) (s : AbstractState V) → slice_get insts i ≡ Some inst →
      after_insts answers f (take (suc i) insts) s ≡ and_then (after_insts answers f (take i insts) s) (after_inst answers f inst)
  after_more [] i inst s e = absurd (cc)
  after_more (x ∷ insts) zero inst s e = let same : x ≡ inst = cc in last_stays (after_inst answers f x s) ∙ ap (λ y. after_inst answers f y s) same
  after_more (x ∷ insts) (suc i) inst s e = at (after_inst answers f x s) (λ t. after_more insts i inst t e)
    where
      at : (r : Option (AbstractState V)) →
          ((t : AbstractState V) → after_insts answers f (take (suc i) insts) t ≡ and_then (after_insts answers f (take i insts) t) (after_inst answers f inst)) →
          and_then r (after_insts answers f (take (suc i) insts)) ≡ and_then (and_then r (after_insts answers f (take i insts))) (after_inst answers f inst)
      at None later = refl
      at (Some t) later = later t

  line_more : (t : States V) (b i : ℕ) (inst : Inst) (s : AbstractState V) → slice_get (insts_of f b) i ≡ Some inst →
      state_at answers f t (At b i) ≡ Some s → state_at answers f t (At b (i + 1)) ≡ after_inst answers f inst s
  line_more t b i inst s e is = at (t b) is
    where
      at : (o : Option (AbstractState V)) → followed (before_line answers f b i) o ≡ Some s → followed (before_line answers f b (i + 1)) o ≡ after_inst answers f inst s
      at None is = absurd (cc)
      at (Some u) is =
          ap (λ k. after_insts answers f (take k (insts_of f b)) u) (add-one i)
          ∙ (after_more (insts_of f b) i inst u e ∙ ap (λ r. and_then r (after_inst answers f inst)) is)

  pub begins_there : (t : States V) (c : Cursor V) (b : BlockId) → IsAtEntry t b c → state_at answers f t (At c.block.0 c.line) ≡ Some (known c.state)
  begins_there t c b at =
      ap (λ k. state_at answers f t (At k.0 c.line)) at.block
      ∙ (ap (λ k. state_at answers f t (At b.0 k)) at.line ∙ (ap (followed (before_line answers f b.0 0)) at.entry))

  pub goes_on_there : (t : States V) (old new : Cursor V) → HasGoneOn answers f old new → state_at answers f t (At old.block.0 old.line) ≡ Some (known old.state) →
      state_at answers f t (At new.block.0 new.line) ≡ Some (known new.state)
  goes_on_there t old new went is =
      ap (λ k. state_at answers f t (At k.0 new.line)) went.block
      ∙ (ap (λ k. state_at answers f t (At old.block.0 k)) went.line ∙ (line_more t old.block.0 old.line went.inst (known old.state) went.here is ∙ went.state))

  pub stops_there : (t : States V) (old : Cursor V) → Stops answers f old → state_at answers f t (At old.block.0 old.line) ≡ Some (known old.state) →
      state_at answers f t (At old.block.0 (old.line + 1)) ≡ None
  stops_there t old stop is = line_more t old.block.0 old.line stop.inst (known old.state) stop.here is ∙ stop.nothing
