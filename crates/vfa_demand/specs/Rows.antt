-- Which bits of an operand a result hangs on, where only some bits of the result are asked for (LLVM's DemandedBits): of an
-- operand all other bits may change, and the bits of the result that are asked for stay.
use Rattle.std.specs.Prelude.{ℕ, ◌-◌, ◌%◌, ◌^◌, Bool, true, false, nat_eq, nat_lt, bit_and, bit_or, if◌then◌else◌}
use Rattle.std.specs.Int.{bit_not, leading_zeros, w128}
use Rattle.vfa_ir.specs.declared.operations.Bin.{Bin}
use Rattle.vfa_ir.specs.declared.operations.Cast.{Cast}
use Rattle.vfa_ir.specs.declared.operations.Op.{Op}
use Rattle.vfa_ir.specs.declared.operations.Operand.{Operand}
use Rattle.vfa_word.specs.Operations.{shifted_left, shifted_right}

-- all bits of a width, as a mask
abbrev pub all_bits : ℕ → ℕ
all_bits w = 2 ^ w - 1

-- all bits at or below the highest one of a mask, from which carries may come: of 20 it is 31, of 0 it is 0
unfoldable pub up_to : ℕ → ℕ
up_to d = 2 ^ (128 - leading_zeros w128 d) - 1

-- the sign bit of width w, where it is asked for
abbrev pub sign_if : Bool → ℕ → ℕ
sign_if asked w = if asked then 2 ^ (w - 1) else 0

-- ---- the first operand of a shift, by what stands as the amount. At width 8, with the bits 15 asked for, of `shl` by 2 it
-- is 3, of `lshr` by 2 it is 60, and of `ashr` by 2 as well; with the bits 192 asked for of `ashr` by 2 it is 128, the sign

unfoldable pub left_value : ℕ → Operand → ℕ → ℕ
left_value w (Operand.Literal c) d = if nat_lt c w then shifted_right d c else all_bits w
left_value w (Operand.Value v) d = up_to d
left_value w Operand.Poison d = all_bits w

unfoldable pub right_value : ℕ → Operand → ℕ → ℕ
right_value w (Operand.Literal c) d = if nat_lt c w then shifted_left w d c else all_bits w
right_value w (Operand.Value v) d = all_bits w
right_value w Operand.Poison d = all_bits w

-- the sign is copied into the c highest bits
unfoldable pub right_signed_value : ℕ → Operand → ℕ → ℕ
right_signed_value w (Operand.Literal c) d =
    if nat_lt c w then bit_or (shifted_left w d c) (sign_if (nat_lt (2 ^ (w - c) - 1) d) w) else all_bits w
right_signed_value w (Operand.Value v) d = all_bits w
right_signed_value w Operand.Poison d = all_bits w

-- ---- an operand of `and` and of `or`, by the other one: beside a literal only the bits that the literal lets through

unfoldable pub let_through : Operand → ℕ → ℕ
let_through (Operand.Literal c) d = bit_and d c
let_through _ d = d

unfoldable pub left_open : Operand → ℕ → ℕ
left_open (Operand.Literal c) d = bit_and d (bit_not w128 c)
left_open _ d = d

-- ---- binary operations, by the other operand; the first operand, and the second

abbrev pub is_division : Bin → Bool
is_division Bin.Udiv = true
is_division Bin.Sdiv = true
is_division Bin.Urem = true
is_division Bin.Srem = true
is_division _ = false

unfoldable pub first_of_binary : Bin → ℕ → Operand → ℕ → ℕ
first_of_binary Bin.Add w other d = up_to d
first_of_binary Bin.Sub w other d = up_to d
first_of_binary Bin.Mul w other d = up_to d
first_of_binary Bin.Shl w other d = left_value w other d
first_of_binary Bin.Lshr w other d = right_value w other d
first_of_binary Bin.Ashr w other d = right_signed_value w other d
first_of_binary Bin.And w other d = let_through other d
first_of_binary Bin.Or w other d = left_open other d
first_of_binary Bin.Xor w other d = d
first_of_binary _ w other d = all_bits w

abbrev pub second_of_binary : Bin → ℕ → Operand → ℕ → ℕ
second_of_binary Bin.Shl w other d = all_bits w
second_of_binary Bin.Lshr w other d = all_bits w
second_of_binary Bin.Ashr w other d = all_bits w
second_of_binary bin w other d = first_of_binary bin w other d

-- ---- casts; a sign is copied into all higher bits

unfoldable pub of_cast : Cast → ℕ → ℕ → ℕ
of_cast Cast.Zext from d = d % 2 ^ from
of_cast Cast.Sext from d = bit_or (d % 2 ^ from) (sign_if (nat_lt (2 ^ (from - 1) - 1) d) from)
of_cast Cast.Trunc from d = d

-- ---- any operation

-- whether an operation needs all bits of its operands, whatever is asked of its result: a division may be undefined
-- behaviour, an assumption is one where it fails, and what a call gets is seen
abbrev pub needs_all : Op → Bool
needs_all (Op.Bin bin _ _ _ _) = is_division bin
needs_all (Op.Assume _) = true
needs_all (Op.Call _ _) = true
needs_all _ = false

-- what is asked of the operand of this place, of this width, where some bits d of the result are asked for
unfoldable pub of_operand : Op → ℕ → ℕ → ℕ → ℕ
of_operand (Op.Bin bin _ _ a b) w place d = if nat_eq place 0 then first_of_binary bin w b d else second_of_binary bin w a d
of_operand (Op.Select _ _ _ _) w place d = if nat_eq place 0 then all_bits w else d
of_operand (Op.Cast cast _ _ _ _) w place d = of_cast cast w d
of_operand (Op.Freeze _ _) w place d = d
of_operand _ w place d = all_bits w

-- the same for any bits of the result, which may be none
unfoldable pub asked : Op → ℕ → ℕ → ℕ → ℕ
asked op w place d = if needs_all op then all_bits w else (if nat_eq d 0 then 0 else of_operand op w place d)
