-- The items of a block, and the line of the first item of a function that is ill-typed.
use Rattle.std.specs.Prelude.{◌≡◌, ℕ, ◌+◌, List, [], ◌∷◌, ◌++◌, All, map, length, take, slice_get, get_or, Some, IsSomeAnd}
use Rattle.vfa_ir.specs.declared.functions.Block.{Block}
use Rattle.vfa_ir.specs.declared.functions.Function.{Function}
use Rattle.vfa_ir.specs.declared.functions.Inst.{Inst}
use Rattle.vfa_ir.specs.declared.functions.Lines.{Lines}
use Rattle.vfa_ir.specs.declared.functions.Phi.{Phi}
use Rattle.vfa_ir.specs.declared.functions.Term.{Term}
use Rattle.vfa_ir.specs.Typed.{TypedBlock, TypedInst, TypedPhi, TypedTerm}
use Rattle.vfa_check.specs.First.{FailsFirst}

pub data Item : Type 0 where
  phi : Phi → Item
  instruction : Inst → Item
  terminator : Term → Item

-- the phis, the instructions and the terminator of a block, in text order
abbrev pub items_of : Block → List Item
items_of b = map phi b.phis ++ (map instruction b.insts ++ terminator b.term ∷ [])

abbrev pub TypedItem : Function → Item → Type 0
TypedItem f (phi p) = TypedPhi f p
TypedItem f (instruction i) = TypedInst f i
TypedItem f (terminator t) = TypedTerm f t

-- the lines have a number for each item of each block
abbrev pub item_count : Block → ℕ
item_count b = length b.phis + length b.insts + 1

abbrev pub HasItsLines : Function → Lines → Type 0
HasItsLines f lines = map length lines.of ≡ map item_count f.blocks

-- The first item of the block that is ill-typed stands on this line, where those of its items are these.
pub record IsIllTypedOn (f : Function) (lines : List ℕ) (line : ℕ) (b : Block) : Type 0 where
  pub place : ℕ
  pub first : FailsFirst (TypedItem f) (items_of b) place
  pub stands : slice_get lines place ≡ Some line

-- The first item of the function that is ill-typed stands on this line: all blocks before its block are well typed.
pub record IllTypedAt (f : Function) (lines : Lines) (line : ℕ) : Type 0 where
  pub block : ℕ
  pub before : All (TypedBlock f) (take block f.blocks)
  pub here : IsSomeAnd (slice_get f.blocks block) (IsIllTypedOn f (get_or lines.of block []) line)
