-- Cursors, which go through the instructions of a block with the state.
use Rattle.std.specs.Prelude.{◌≡◌, ◌+◌, ◌⊎◌, true, false, Some, None, slice_get}
use Rattle.vfa_ir.specs.declared.operations.BlockId.{BlockId}
use Rattle.vfa_ir.specs.declared.functions.Function.{Function}
use Rattle.vfa_ir.specs.declared.functions.Inst.{Inst}
use Rattle.vfa_values.specs.Answers.{Answers}
use Rattle.vfa_cond.specs.States.{known}
use Rattle.vfa_walk.specs.declared.cursor.Cursor.{Cursor}
use Rattle.vfa_walk.specs.declared.cursor.Moved.{Moved}
use Rattle.vfa_walk.specs.Stepping.{after_inst, insts_of}
use Rattle.vfa_walk.specs.Tables.{States}

-- the cursor stands before the first instruction of the block, with the state that the table has at its entry
pub record IsAtEntry {V : Type 0} (t : States V) (b : BlockId) (c : Cursor V) : Type 0 where
  pub block : c.block ≡ b
  pub line : c.line ≡ 0
  pub reached : c.is_reached ≡ true
  pub entry : t b.0 ≡ Some (known c.state)

-- the cursor has gone behind an instruction
pub record HasGoneOn {V : Type 0} (answers : Answers V) (f : Function) (old new : Cursor V) : Type 0 where
  pub block : new.block ≡ old.block
  pub line : new.line ≡ old.line + 1
  pub was_reached : old.is_reached ≡ true
  pub reached : new.is_reached ≡ true
  pub inst : Inst
  pub here : slice_get (insts_of f old.block.0) old.line ≡ Some inst
  pub state : after_inst answers f inst (known old.state) ≡ Some (known new.state)

-- the cursor stays before the terminator
pub record StaysAtEnd {V : Type 0} (f : Function) (old new : Cursor V) : Type 0 where
  pub same : new ≡ old
  pub reached : old.is_reached ≡ true
  pub behind : slice_get (insts_of f old.block.0) old.line ≡ None

-- no run goes on behind the instruction
pub record Stops {V : Type 0} (answers : Answers V) (f : Function) (old : Cursor V) : Type 0 where
  pub inst : Inst
  pub here : slice_get (insts_of f old.block.0) old.line ≡ Some inst
  pub nothing : after_inst answers f inst (known old.state) ≡ None

-- what a step answers, and what becomes of the cursor; once it has answered that no run goes on it does so ever after
abbrev pub IsMoved : {V : Type 0} → Answers V → Function → Cursor V → Moved → Cursor V → Type 0
IsMoved answers f old Moved.On new = HasGoneOn answers f old new
IsMoved answers f old Moved.AtTerm new = StaysAtEnd f old new
IsMoved answers f old Moved.Bottom new = (new.is_reached ≡ false) × ((old.is_reached ≡ false) ⊎ Stops answers f old)
