-- helper: in no public contract
-- The operands that take the place of names, as they are noted one instruction after another.
use Rattle.std.specs.Prelude.{◌≡◌, ℕ, if◌then◌else◌, Option, Some, None, List, slice_get}
use Rattle.vfa_ir.specs.declared.operations.Operand.{Operand}
use Rattle.vfa_ir.specs.declared.operations.ValueId.{ValueId}
use Rattle.vfa_ir.specs.declared.functions.Inst.{Inst}
use Rattle.vfa_rules.specs.declared.change.Change.{Change}
use Rattle.vfa_rules.specs.Uses.{is_result}
use Rattle.vfa_rewrite.specs.declared.found.LineFinding.{LineFinding}
use Rattle.vfa_rewrite.specs.Chains.{other_by}
use Rattle.vfa_rewrite.specs.Findings.{Findings}
use Rattle.vfa_rewrite.specs.Found.{kept_line}

-- what is noted for a name by an instruction with this result, of which this was found
abbrev pub noted_of : {B : Type 0} → (Change → Option B) → ℕ → Option ValueId → Option LineFinding → Option B
noted_of by n result None = None
noted_of by n result (Some line) = if is_result n result then by line.change else None

-- what takes the place of it
abbrev pub other_of : ℕ → Option ValueId → Option LineFinding → Option Operand
other_of n result line = noted_of other_by n result line

-- what is kept of the instructions of block b
abbrev pub AreKeptLines : Findings → ℕ → List Inst → List LineFinding → Type 0
AreKeptLines found b insts lines = (i : ℕ) (inst : Inst) → slice_get insts i ≡ Some inst → slice_get lines i ≡ kept_line found b i inst
