-- helper: in no public contract
-- What was found out of a function, as it is kept: block by block, of each instruction that a run may come to what becomes of it
-- and whether it may be undefined, whether a run may come to the terminator, and which edges a run may take.
use Rattle.std.specs.Prelude.{◌≡◌, ℕ, Bool, true, false, Option, Some, None, List, length, slice_get, slice_index_or}
use Rattle.vfa_ir.specs.declared.functions.Function.{Function}
use Rattle.vfa_ir.specs.declared.functions.Inst.{Inst}
use Rattle.vfa_ir.specs.Defined.{line_count}
use Rattle.vfa_walk.specs.Stepping.{insts_of}
use Rattle.vfa_rewrite.specs.declared.found.BlockFindings.{BlockFindings}
use Rattle.vfa_rewrite.specs.declared.found.LineFinding.{LineFinding}
use Rattle.vfa_rewrite.specs.Findings.{Findings}

abbrev pub only_if : {A : Type 0} → Bool → A → Option A
only_if true x = Some x
only_if false x = None

-- what is kept of an instruction; nothing where no run comes to it
abbrev pub kept_line : Findings → ℕ → ℕ → Inst → Option LineFinding
kept_line found b i inst = only_if (found.met b i) (record { change = found.change b i inst; may_be_undefined = found.may_be_undefined b i inst })

pub record IsKeptOf (f : Function) (found : Findings) (b : ℕ) (kept : BlockFindings) : Type 0 where
  pub lines : (i : ℕ) (inst : Inst) → slice_get (insts_of f b) i ≡ Some inst → slice_get kept.lines.items i ≡ kept_line found b i inst
  pub end : kept.is_end_met ≡ found.met b (line_count f b)
  pub left : (k : ℕ) → slice_index_or kept.left.items k false ≡ found.left b k

-- a place for each block
pub record AreKeptOf (f : Function) (found : Findings) (kept : List BlockFindings) : Type 0 where
  pub count : length kept ≡ length f.blocks
  pub each : (b : ℕ) (block : BlockFindings) → slice_get kept b ≡ Some block → IsKeptOf f found b block
