-- The names that something hangs on (LLVM's aggressive dead code elimination): those that terminators use, those that
-- instructions use which have to stay whatever becomes of their results, and those that the definitions of these names use.
--
-- In `%a = add i8 %x, 1`, `%b = add i8 %y, 1`, `ret i8 %a` these are %a and %x; where the second `add` had to stay, %y as well.
use Rattle.std.specs.Prelude.{◌≡◌, ◌<◌, ℕ, Bool, true, false, List, [], Some, length, flat_map, get_or, slice_get, slice_index_or, ◌↔◌}
use Rattle.vfa_ir.specs.declared.operations.BlockId.{BlockId}
use Rattle.vfa_ir.specs.declared.operations.Operand.{Operand}
use Rattle.vfa_ir.specs.declared.operations.ValueId.{ValueId}
use Rattle.vfa_ir.specs.declared.functions.Block.{Block}
use Rattle.vfa_ir.specs.declared.functions.Function.{Function}
use Rattle.vfa_ir.specs.declared.functions.Inst.{Inst}
use Rattle.vfa_ir.specs.declared.functions.Phi.{Phi}
use Rattle.vfa_ir.specs.Defined.{op_names, operand_names, term_names}
use Rattle.vfa_ir.specs.Walks.{is_in}
use Rattle.vfa_mean.specs.Moments.{IsLine}
use Rattle.vfa_mean.specs.Numbering.{names_used}

-- `must` says of a block and a place in it whether the instruction there has to stay
pub data IsUsed (f : Function) (must : ℕ → ℕ → Bool) : ℕ → Type 0 where
  by_terminator : (b : ℕ) (block : Block) (v : ℕ) → slice_get f.blocks b ≡ Some block → is_in v (term_names block.term) ≡ true
      → IsUsed f must v
  by_need : (b : ℕ) (block : Block) (i : ℕ) (inst : Inst) (v : ℕ) → IsLine f b block i inst → must b i ≡ true
      → is_in v (op_names f inst.op) ≡ true → IsUsed f must v
  by_result : (b : ℕ) (block : Block) (i : ℕ) (inst : Inst) (r : ValueId) (v : ℕ) → IsLine f b block i inst → inst.result ≡ Some r
      → IsUsed f must r.0 → is_in v (op_names f inst.op) ≡ true → IsUsed f must v
  by_phi : (b : ℕ) (block : Block) (j : ℕ) (phi : Phi) (k : ℕ) (entry : Operand × BlockId) (v : ℕ) → slice_get f.blocks b ≡ Some block
      → slice_get block.phis j ≡ Some phi → IsUsed f must phi.result.0 → slice_get phi.entries k ≡ Some entry
      → is_in v (operand_names entry.0) ≡ true → IsUsed f must v

-- the test is of the used names
abbrev pub AreUsed : Function → (ℕ → ℕ → Bool) → (ℕ → Bool) → Type 0
AreUsed f must used = (v : ℕ) → (used v ≡ true) ↔ IsUsed f must v

-- a list for each block says of each of its instructions whether it has to stay; what is not listed has not to
abbrev pub must_in : List (List Bool) → ℕ → ℕ → Bool
must_in must b i = slice_index_or (get_or must b []) i false

-- each name that something uses is one of a value
abbrev pub UsesItsValues : Function → Type 0
UsesItsValues f = (v : ℕ) → is_in v (flat_map (names_used f) f.blocks) ≡ true → v < length f.values
