-- helper: in no public contract
-- From the function in which all lines stay, each as the operation that does its work, to the one in which those stay that are
-- used: of each line, of a block and of its phis what is left, and which names are added.
use Rattle.std.specs.Prelude.{ℕ, zero, suc, Bool, false, ◌||◌, if◌then◌else◌, Option, Some, None, List, [], ◌∷◌, ◌++◌, slice_get, slice_index_or}
use Rattle.std.specs.List.{filter}
use Rattle.vfa_ir.specs.declared.operations.Op.{Op}
use Rattle.vfa_ir.specs.declared.operations.ValueId.{ValueId}
use Rattle.vfa_ir.specs.declared.functions.Block.{Block}
use Rattle.vfa_ir.specs.declared.functions.Function.{Function}
use Rattle.vfa_ir.specs.declared.functions.Inst.{Inst}
use Rattle.vfa_ir.specs.declared.functions.Phi.{Phi}
use Rattle.vfa_ir.specs.declared.functions.Value.{Value}
use Rattle.vfa_rules.specs.declared.change.Change.{Change}
use Rattle.vfa_rewrite.specs.declared.found.BlockFindings.{BlockFindings}
use Rattle.vfa_rewrite.specs.declared.found.LineFinding.{LineFinding}
use Rattle.vfa_rewrite.specs.Making.{must_stay, is_kept_result, result_number, width_by, added_type, three}
use Rattle.vfa_rewrite.specs.Marks.{fresh_name}
use Rattle.vfa_rewrite.specs.Replacing.{noted_of}
use Rattle.vfa_rewrite.specs.Rewritten.{with_numbers, narrowed}

-- ---- lines that have to stay

-- an instruction of which this was found; where no run comes to it, it need not stay
abbrev pub must_stay_by : Op → Option LineFinding → Bool
must_stay_by op None = false
must_stay_by op (Some found) = must_stay op found.change found.may_be_undefined

abbrev pub must_of : List LineFinding → ℕ → Inst → Bool
must_of found i inst = must_stay_by inst.op (slice_get found i)

-- of each instruction of a block, of which this was found
abbrev pub musts_by : Option BlockFindings → List Inst → List Bool
musts_by None insts = []
musts_by (Some found) insts = with_numbers (must_of found.lines.items) 0 insts

abbrev pub musts_of : List BlockFindings → ℕ → Block → List Bool
musts_of kept b block = musts_by (slice_get kept b) block.insts

-- ---- lines that are left

abbrev pub stays_by : (ℕ → Bool) → Inst → LineFinding → Bool
stays_by used inst found = must_stay inst.op found.change found.may_be_undefined || is_kept_result used inst.result

-- what becomes of the line that does the work of an instruction
abbrev pub expanded : Function → Inst → Change → Inst → List Inst
expanded f inst (Change.Keep op) line = line ∷ []
expanded f inst (Change.Narrow op v) line = narrowed (fresh_name f (result_number inst.result)) v inst.result line.op
expanded f inst (Change.Uses u) line = line ∷ []
expanded f inst Change.Gone line = []

abbrev pub used_line : Function → (ℕ → Bool) → Option Inst → Option LineFinding → Inst → List Inst
used_line f used (Some inst) (Some found) line = if stays_by used inst found then expanded f inst found.change line else []
used_line f used (Some inst) None line = []
used_line f used None found line = []

-- of these lines, the first of which does the work of instruction i
abbrev pub used_lines : Function → (ℕ → Bool) → List Inst → List LineFinding → ℕ → List Inst → List Inst
used_lines f used insts found i [] = []
used_lines f used insts found i (line ∷ rest) =
    used_line f used (slice_get insts i) (slice_get found i) line ++ used_lines f used insts found (suc i) rest

-- ---- blocks

abbrev pub is_used_phi : (ℕ → Bool) → Phi → Bool
is_used_phi used phi = used phi.result.0

abbrev pub used_block : Function → (ℕ → Bool) → Block → BlockFindings → Block → Block
used_block f used block found put = record {
  name = put.name;
  phis = filter (is_used_phi used) put.phis;
  insts = used_lines f used block.insts found.lines.items 0 put.insts;
  term = put.term;
}

abbrev pub used_block_by : Function → (ℕ → Bool) → Option Block → Option BlockFindings → Block → Block
used_block_by f used (Some block) (Some found) put = used_block f used block found put
used_block_by f used (Some block) None put = put
used_block_by f used None found put = put

-- block b of the function
abbrev pub used_block_at : Function → List BlockFindings → (ℕ → Bool) → ℕ → Block → Block
used_block_at f kept used b put = used_block_by f used (slice_get f.blocks b) (slice_get kept b) put

-- ---- names that are added

-- the width to which an instruction with this result is narrowed, of which this was found
abbrev pub width_of : ℕ → Option ValueId → Option LineFinding → Option ℕ
width_of n result line = noted_of width_by n result line

-- of the first so many names, whose instructions are narrowed to these widths
abbrev pub added_by : List (Option ℕ) → ℕ → List Value
added_by widths zero = []
added_by widths (suc n) = added_by widths n ++ three (added_type (slice_index_or widths n None))
