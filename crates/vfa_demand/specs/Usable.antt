-- helper: in no public contract
-- Functions whose uses name their own values, at widths of the profile.
use Rattle.std.specs.Prelude.{◌<◌, ℕ, length, All, ⊤}
use Rattle.vfa_ir.specs.declared.operations.Operand.{Operand}
use Rattle.vfa_ir.specs.declared.operations.Ty.{Ty}
use Rattle.vfa_ir.specs.declared.functions.Block.{Block}
use Rattle.vfa_ir.specs.declared.functions.Function.{Function}
use Rattle.vfa_ir.specs.declared.functions.Inst.{Inst}
use Rattle.vfa_ir.specs.declared.functions.Phi.{Phi}
use Rattle.vfa_ir.specs.Operands.{operands_of}
use Rattle.vfa_word.specs.Numbers.{IsWidth}
use Rattle.vfa_demand.specs.Masks.{number_width, seen_in}

-- a name of one of so many values; a literal and `poison` name none
abbrev pub IsNameBelow : ℕ → Operand → Type 0
IsNameBelow count (Operand.Value v) = v.0 < count
IsNameBelow count (Operand.Literal _) = ⊤
IsNameBelow count Operand.Poison = ⊤

-- an operand with its type
pub record IsUsable (count : ℕ) (o : Ty × Operand) : Type 0 where
  pub width : IsWidth (number_width o.0)
  pub name : IsNameBelow count o.1

abbrev pub IsUsablePhi : ℕ → Phi → Type 0
IsUsablePhi count p = All (λ e. IsNameBelow count e.0) p.entries

abbrev pub IsUsableInst : Function → ℕ → Inst → Type 0
IsUsableInst f count i = All (IsUsable count) (operands_of f i.op)

pub record IsUsableBlock (f : Function) (count : ℕ) (b : Block) : Type 0 where
  pub phis : All (IsUsablePhi count) b.phis
  pub instructions : All (IsUsableInst f count) b.insts
  pub terminator : All (IsUsable count) (seen_in b.term)

abbrev pub AreUsable : Function → Type 0
AreUsable f = All (IsUsableBlock f (length f.values)) f.blocks
