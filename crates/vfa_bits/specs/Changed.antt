-- The names whose values may change in bits that are not asked for: those that are replaced, a `sext` that becomes a `zext`,
-- and what hangs on them.
use Rattle.std.specs.Prelude.{◌≡◌, ℕ, ◌^◌, Bool, true, false, not, ◌&&◌, ◌||◌, nat_eq, nat_lt, bit_and, Some, None, slice_get, ◌↔◌}
use Rattle.vfa_ir.specs.declared.operations.Cast.{Cast}
use Rattle.vfa_ir.specs.declared.operations.Op.{Op}
use Rattle.vfa_ir.specs.declared.operations.Operand.{Operand}
use Rattle.vfa_ir.specs.declared.operations.Ty.{Ty}
use Rattle.vfa_ir.specs.declared.operations.BlockId.{BlockId}
use Rattle.vfa_ir.specs.declared.operations.ValueId.{ValueId}
use Rattle.vfa_ir.specs.declared.functions.Block.{Block}
use Rattle.vfa_ir.specs.declared.functions.Function.{Function}
use Rattle.vfa_ir.specs.declared.functions.Inst.{Inst}
use Rattle.vfa_ir.specs.declared.functions.Phi.{Phi}
use Rattle.vfa_ir.specs.Defined.{op_names, operand_names}
use Rattle.vfa_ir.specs.Walks.{is_in}
use Rattle.vfa_mean.specs.Moments.{IsLine}
use Rattle.vfa_mean.specs.Outcomes.{type_of}
use Rattle.vfa_demand.specs.Masks.{number_width}
use Rattle.vfa_demand.specs.Rows.{all_bits}
use Rattle.vfa_bits.specs.Standing.{replacement}

abbrev pub name_type : Function → ℕ → Ty
name_type f v = type_of f (record { 0 = v })

abbrev pub is_number : Ty → Bool
is_number (Ty.Int w) = true
is_number (Ty.Pair w) = false

-- some bit of the type is not asked for
abbrev pub is_short : Function → (ℕ → ℕ) → ℕ → Bool
is_short f masks v =
    let all = all_bits (number_width (name_type f v)) in not (nat_eq (bit_and (masks v) all) all)

-- whether the name stands for another operand at its uses: nothing of it is asked, or a literal changes no bit that is
abbrev pub is_replaced : Function → (ℕ → ℕ) → ℕ → Bool
is_replaced f masks v =
    nat_eq (masks v) 0 && is_number (name_type f v) || elim (replacement f v (masks v)) [ None ↦ false | Some a ↦ true ]

-- whether no copy of the sign of a `sext` is asked for, so that a `zext` does
abbrev pub has_unseen_sign : Op → ℕ → Bool
has_unseen_sign (Op.Cast Cast.Sext _ from _ _) d = nat_lt d (2 ^ from)
has_unseen_sign _ d = false

pub data IsChanged (f : Function) (masks : ℕ → ℕ) : ℕ → Type 0 where
  by_replacement : (v : ℕ) → is_short f masks v ≡ true → is_replaced f masks v ≡ true → IsChanged f masks v
  by_sign : (b : ℕ) (block : Block) (i : ℕ) (inst : Inst) (v : ValueId) → IsLine f b block i inst → inst.result ≡ Some v
      → is_short f masks v.0 ≡ true → has_unseen_sign inst.op (masks v.0) ≡ true → IsChanged f masks v.0
  by_operand : (b : ℕ) (block : Block) (i : ℕ) (inst : Inst) (v : ValueId) (x : ℕ) → IsLine f b block i inst → inst.result ≡ Some v
      → is_short f masks v.0 ≡ true → is_in x (op_names f inst.op) ≡ true → IsChanged f masks x → IsChanged f masks v.0
  by_entry : (b : ℕ) (block : Block) (j : ℕ) (phi : Phi) (k : ℕ) (entry : Operand × BlockId) (x : ℕ) → slice_get f.blocks b ≡ Some block
      → slice_get block.phis j ≡ Some phi → slice_get phi.entries k ≡ Some entry → is_short f masks phi.result.0 ≡ true
      → is_in x (operand_names entry.0) ≡ true → IsChanged f masks x → IsChanged f masks phi.result.0

-- the test is of the changed names
abbrev pub AreChanged : Function → (ℕ → ℕ) → (ℕ → Bool) → Type 0
AreChanged f masks changed = (v : ℕ) → (changed v ≡ true) ↔ IsChanged f masks v
