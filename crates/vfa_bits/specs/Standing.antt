-- What stands in place of an operand, where only some bits of each name are asked for (LLVM's DemandedBits and the dead
-- code elimination by it): 0 for a name of which nothing is asked, and the operand of an `and`, `or` or `xor` beside a
-- literal that changes none of the bits that are asked for.
--
-- Where 255 is asked of %a, `%a = and i32 %x, 65535` gives the same bits as %x, so %x stands in place of %a.
use Rattle.std.specs.Prelude.{ℕ, zero, suc, Bool, false, nat_eq, bit_and, List, [], ◌∷◌, length, flat_map, Option, Some, None, if◌then◌else◌}
use Rattle.vfa_ir.specs.declared.operations.Bin.{Bin}
use Rattle.vfa_ir.specs.declared.operations.Op.{Op}
use Rattle.vfa_ir.specs.declared.operations.Operand.{Operand}
use Rattle.vfa_ir.specs.declared.operations.ValueId.{ValueId}
use Rattle.vfa_ir.specs.declared.functions.Function.{Function}
use Rattle.vfa_ir.specs.declared.functions.Inst.{Inst}

-- an operand and the literal beside it
pub record Beside : Type 0 where
  pub operand : Operand
  pub literal : ℕ

-- the literal may be on either side; of two the second one is meant
abbrev pub beside_literal : Operand → Operand → Option Beside
beside_literal a (Operand.Literal c) = Some (record { operand = a; literal = c })
beside_literal (Operand.Literal c) (Operand.Value v) = Some (record { operand = Operand.Value v; literal = c })
beside_literal (Operand.Literal c) Operand.Poison = Some (record { operand = Operand.Poison; literal = c })
beside_literal (Operand.Value u) (Operand.Value v) = None
beside_literal (Operand.Value u) Operand.Poison = None
beside_literal Operand.Poison (Operand.Value v) = None
beside_literal Operand.Poison Operand.Poison = None

-- whether the operation by this literal leaves each of the bits d as it is
abbrev pub leaves_bits : Bin → ℕ → ℕ → Bool
leaves_bits Bin.And d c = nat_eq (bit_and d c) d
leaves_bits Bin.Or d c = nat_eq (bit_and d c) 0
leaves_bits Bin.Xor d c = nat_eq (bit_and d c) 0
leaves_bits _ d c = false

abbrev pub if_leaves : Bin → ℕ → Option Beside → Option Operand
if_leaves bin d None = None
if_leaves bin d (Some s) = if leaves_bits bin d s.literal then Some s.operand else None

-- the operand of an operation that has the same bits d as its result, beside a literal
abbrev pub same_bits_operand : Op → ℕ → Option Operand
same_bits_operand (Op.Bin bin _ _ a b) d = if_leaves bin d (beside_literal a b)
same_bits_operand _ d = None

-- the operation whose result a name is
abbrev pub is_result : ℕ → Option ValueId → Bool
is_result v None = false
is_result v (Some r) = nat_eq r.0 v

abbrev pub operation_among : ℕ → List Inst → Option Op
operation_among v [] = None
operation_among v (i ∷ rest) = if is_result v i.result then Some i.op else operation_among v rest

abbrev pub operation_of : Function → ℕ → Option Op
operation_of f v = operation_among v (flat_map (λ b. b.insts) f.blocks)

-- the operand that a name is replaced by, if it is: where d is asked of it
abbrev pub replacement : Function → ℕ → ℕ → Option Operand
replacement f v d = elim (operation_of f v) [ None ↦ None | Some op ↦ same_bits_operand op d ]

-- 0 in place of a name of which nothing is asked
abbrev pub zeroed : (ℕ → ℕ) → Operand → Operand
zeroed masks (Operand.Value v) = if nat_eq (masks v.0) 0 then Operand.Literal 0 else Operand.Value v
zeroed masks (Operand.Literal c) = Operand.Literal c
zeroed masks Operand.Poison = Operand.Poison

-- An operand that is put in is replaced in turn, n times at most. Where some walk comes to the use, each name of the chain is
-- defined before the one that it replaces; so as many times as there are names are enough.
unfoldable pub standing : Function → (ℕ → ℕ) → ℕ → Operand → Operand
standing f masks n (Operand.Literal c) = Operand.Literal c
standing f masks n Operand.Poison = Operand.Poison
standing f masks zero (Operand.Value v) = zeroed masks (Operand.Value v)
standing f masks (suc n) (Operand.Value v) =
    if nat_eq (masks v.0) 0 then Operand.Literal 0
    else elim (replacement f v.0 (masks v.0)) [ None ↦ Operand.Value v | Some a ↦ standing f masks n a ]

-- what stands in place of an operand at a use, by whether some walk comes to it; where none does, names are not replaced by
-- others
abbrev pub put_for : Function → (ℕ → ℕ) → Bool → Operand → Operand
put_for f masks reached a = if reached then standing f masks (length f.values) a else zeroed masks a
