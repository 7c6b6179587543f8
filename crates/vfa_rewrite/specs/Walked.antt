-- helper: in no public contract
-- What a cursor has found out that went through a block.
use Rattle.std.specs.Prelude.{◌≡◌, ℕ, true, Option, Some, None, slice_get}
use Rattle.vfa_ir.specs.declared.functions.Function.{Function}
use Rattle.vfa_ir.specs.declared.functions.Inst.{Inst}
use Rattle.vfa_ir.specs.Defined.{line_count}
use Rattle.vfa_mean.specs.Moments.{At}
use Rattle.vfa_cond.specs.States.{known}
use Rattle.vfa_walk.specs.declared.cursor.Cursor.{Cursor}
use Rattle.vfa_walk.specs.Kept.{IsStateOf}
use Rattle.vfa_walk.specs.Stepping.{insts_of}
use Rattle.vfa_xfer.specs.declared.any_fact.AnyFact.{AnyFact}
use Rattle.vfa_xfer.specs.AnyFacts.{fact_type, IsAnyFact}
use Rattle.vfa_rewrite.specs.declared.found.LineFinding.{LineFinding}
use Rattle.vfa_rewrite.specs.declared.found.Walked.{Walked}
use Rattle.vfa_rewrite.specs.ByFacts.{FactState, FactTable, fact_state, change_in, may_be_undefined_in, findings_of}
use Rattle.vfa_rewrite.specs.Found.{kept_line}

-- what is kept of an instruction that has this state before it
abbrev pub line_by : Function → FactState → Inst → LineFinding
line_by f s inst = record { change = change_in f (Some s) inst; may_be_undefined = may_be_undefined_in (Some s) inst.op }

-- the cursor stands where the state is this one
pub record HasState (f : Function) (state : Option FactState) (c : Cursor AnyFact) : Type 0 where
  pub reached : c.is_reached ≡ true
  pub known : state ≡ Some (known c.state)
  pub kept : IsStateOf fact_type IsAnyFact f c.state

abbrev pub EndsWith : Function → Option FactState → Option (Cursor AnyFact) → Type 0
EndsWith f state None = state ≡ None
EndsWith f state (Some c) = HasState f state c

pub record IsWalkedOf (f : Function) (t : FactTable) (b : ℕ) (walked : Walked) : Type 0 where
  pub lines : (i : ℕ) (inst : Inst) → slice_get (insts_of f b) i ≡ Some inst → slice_get walked.lines.items i ≡ kept_line (findings_of f t) b i inst
  pub end : EndsWith f (fact_state f t (At b (line_count f b))) walked.end
