-- What each operation gives of numbers, after the LLVM Language Reference, "Instruction Reference" and "Intrinsic
-- Functions". A word such as `nsw` makes the result poison where it does not hold. All numbers are of width w.
use Rattle.std.specs.Prelude.{ℕ, ◌-◌, ◌*◌, ◌%◌, ◌^◌, Bool, true, false, not, ◌&&◌, ◌||◌, pos, ◌*ℤ◌, int_lt, nat_eq, nat_le, bit_and, bit_or, bit_xor, if◌then◌else◌}
use Rattle.vfa_ir.specs.declared.operations.Cast.{Cast}
use Rattle.vfa_ir.specs.declared.operations.CastFlags.{CastFlags}
use Rattle.vfa_ir.specs.declared.operations.Flags.{Flags}
use Rattle.vfa_ir.specs.declared.operations.Fun1.{Fun1}
use Rattle.vfa_ir.specs.declared.operations.Fun2.{Fun2}
use Rattle.vfa_ir.specs.declared.operations.Over.{Over}
use Rattle.vfa_ir.specs.declared.operations.Pred.{Pred}
use Rattle.vfa_word.specs.declared.arith.Arith.{Arith}
use Rattle.vfa_word.specs.Numbers.{signed_of, fits_unsigned, fits_signed, whole_result, wrap}
use Rattle.vfa_word.specs.Operations.{shifted_left, shifted_right, shifted_right_signed, unsigned_quotient, unsigned_remainder, signed_quotient, signed_remainder, zero_extended, sign_extended, truncated, unsigned_minimum, unsigned_maximum, signed_minimum, signed_maximum, absolute_of, saturated_unsigned, saturated_signed, one_bits, leading_zero_bits, trailing_zero_bits, equal, unsigned_less, signed_less}
use Rattle.vfa_ir.specs.Predicates.{by_order}
use Rattle.vfa_mean.specs.declared.value.Done.{Done}
use Rattle.vfa_mean.specs.declared.value.Val.{Val}

-- a number; poison where a word of the operation is broken
abbrev pub number_unless : Bool → ℕ → Done
number_unless broken x = Done.Is (if broken then Val.Poison else Val.Number x)

abbrev pub number : ℕ → Done
number x = Done.Is (Val.Number x)

abbrev pub is_negative : ℕ → ℕ → Bool
is_negative w x = int_lt (signed_of w x) (pos 0)

-- ---- `add`, `sub`, `mul`: the whole result modulo 2^w. `nuw` is broken where the whole result of the numbers is
-- outside 0 to 2^w - 1, `nsw` where that of the signed readings is outside -2^(w-1) to 2^(w-1) - 1. At width 8,
-- 200 + 100 gives 44, and poison under `nuw`; under `nsw`, as -56 + 100, it gives 44
abbrev pub leaves_unsigned : ℕ → Arith → ℕ → ℕ → Bool
leaves_unsigned w op x y = not (fits_unsigned w (whole_result op (pos x) (pos y)))

abbrev pub leaves_signed : ℕ → Arith → ℕ → ℕ → Bool
leaves_signed w op x y = not (fits_signed w (whole_result op (signed_of w x) (signed_of w y)))

abbrev pub arithmetic : Arith → Flags → ℕ → ℕ → ℕ → Done
arithmetic op flags w x y = number_unless
    (flags.nuw && leaves_unsigned w op x y || flags.nsw && leaves_signed w op x y)
    (wrap w (whole_result op (pos x) (pos y)))

-- ---- `shl`, `lshr`, `ashr`: poison where the amount t is w or more. `nuw` and `nsw` of `shl` are those of the product
-- by 2^t, and `exact` is broken where 2^t does not divide the number, so that a one is shifted out
abbrev pub shift_leaves_unsigned : ℕ → ℕ → ℕ → Bool
shift_leaves_unsigned w x t = not (fits_unsigned w (pos (x * 2 ^ t)))

abbrev pub shift_leaves_signed : ℕ → ℕ → ℕ → Bool
shift_leaves_signed w x t = not (fits_signed w (signed_of w x *ℤ pos (2 ^ t)))

abbrev pub shift_left : Flags → ℕ → ℕ → ℕ → Done
shift_left flags w x t = number_unless
    (nat_le w t || (flags.nuw && shift_leaves_unsigned w x t || flags.nsw && shift_leaves_signed w x t))
    (shifted_left w x t)

abbrev pub loses_ones : ℕ → ℕ → Bool
loses_ones x t = not (nat_eq (x % 2 ^ t) 0)

abbrev pub shift_right : Flags → ℕ → ℕ → ℕ → Done
shift_right flags w x t = number_unless (nat_le w t || flags.exact && loses_ones x t) (shifted_right x t)

abbrev pub shift_right_signed : Flags → ℕ → ℕ → ℕ → Done
shift_right_signed flags w x t =
    number_unless (nat_le w t || flags.exact && loses_ones x t) (shifted_right_signed w x t)

-- ---- `udiv`, `sdiv`, `urem`, `srem` by y that is not 0: `exact` is broken where there is a remainder
abbrev pub divide : Flags → ℕ → ℕ → Done
divide flags x y = number_unless (flags.exact && not (nat_eq (unsigned_remainder x y) 0)) (unsigned_quotient x y)

abbrev pub divide_signed : Flags → ℕ → ℕ → ℕ → Done
divide_signed flags w x y =
    number_unless (flags.exact && not (nat_eq (signed_remainder w x y) 0)) (signed_quotient w x y)

abbrev pub remainder : ℕ → ℕ → Done
remainder x y = number (unsigned_remainder x y)

abbrev pub remainder_signed : ℕ → ℕ → ℕ → Done
remainder_signed w x y = number (signed_remainder w x y)

-- ---- `and`, `or`, `xor`: bit by bit. `disjoint` of `or` is broken where some bit is one in both
abbrev pub bitwise_and : ℕ → ℕ → Done
bitwise_and x y = number (bit_and x y)

abbrev pub bitwise_xor : ℕ → ℕ → Done
bitwise_xor x y = number (bit_xor x y)

abbrev pub bitwise_or : Flags → ℕ → ℕ → Done
bitwise_or flags x y = number_unless (flags.disjoint && not (nat_eq (bit_and x y) 0)) (bit_or x y)

-- ---- `icmp`: 1 where the predicate holds, else 0. `samesign` is broken where just one of the readings is negative
abbrev pub differ_in_sign : ℕ → ℕ → ℕ → Bool
differ_in_sign w x y = if is_negative w x then not (is_negative w y) else is_negative w y

abbrev pub bit_of : Bool → ℕ
bit_of b = if b then 1 else 0

abbrev pub compare : Pred → Bool → ℕ → ℕ → ℕ → Done
compare pred samesign w x y =
    number_unless (samesign && differ_in_sign w x y) (bit_of (by_order pred equal unsigned_less (signed_less w) x y))

-- ---- `zext`, `sext`, `trunc` from width v to width w. `nneg` of `zext` is broken where the reading is negative; `nuw`
-- and `nsw` of `trunc` where the number, or its reading, is out of the range of width w
abbrev pub convert : Cast → CastFlags → ℕ → ℕ → ℕ → Done
convert Cast.Zext flags v w x = number_unless (flags.nneg && is_negative v x) (zero_extended x)
convert Cast.Sext flags v w x = number (sign_extended v w x)
convert Cast.Trunc flags v w x = number_unless
    (flags.nuw && not (fits_unsigned w (pos x)) || flags.nsw && not (fits_signed w (signed_of v x)))
    (truncated w x)

-- ---- the intrinsics of two numbers
abbrev pub chosen_or_clamped : Fun2 → ℕ → ℕ → ℕ → ℕ
chosen_or_clamped Fun2.Umin w x y = unsigned_minimum x y
chosen_or_clamped Fun2.Umax w x y = unsigned_maximum x y
chosen_or_clamped Fun2.Smin w x y = signed_minimum w x y
chosen_or_clamped Fun2.Smax w x y = signed_maximum w x y
chosen_or_clamped Fun2.UaddSat w x y = saturated_unsigned w Arith.Add x y
chosen_or_clamped Fun2.UsubSat w x y = saturated_unsigned w Arith.Sub x y
chosen_or_clamped Fun2.SaddSat w x y = saturated_signed w Arith.Add x y
chosen_or_clamped Fun2.SsubSat w x y = saturated_signed w Arith.Sub x y

abbrev pub two_numbers : Fun2 → ℕ → ℕ → ℕ → Done
two_numbers fun w x y = number (chosen_or_clamped fun w x y)

-- ---- the intrinsics of one number. Where the edge case is to be poison, `abs` of the least signed value is, and `ctlz`
-- and `cttz` of 0 are
abbrev pub one_number : Fun1 → Bool → ℕ → ℕ → Done
one_number Fun1.Abs strict w x = number_unless (strict && nat_eq x (2 ^ (w - 1))) (absolute_of w x)
one_number Fun1.Ctlz strict w x = number_unless (strict && nat_eq x 0) (leading_zero_bits w x)
one_number Fun1.Cttz strict w x = number_unless (strict && nat_eq x 0) (trailing_zero_bits w x)
one_number Fun1.Ctpop strict w x = number (one_bits w x)

-- ---- the intrinsics with overflow: the wrapped result, and whether the whole result leaves the range
abbrev pub overflow_arith : Over → Arith
overflow_arith Over.Uadd = Arith.Add
overflow_arith Over.Sadd = Arith.Add
overflow_arith Over.Usub = Arith.Sub
overflow_arith Over.Ssub = Arith.Sub
overflow_arith Over.Umul = Arith.Mul
overflow_arith Over.Smul = Arith.Mul

abbrev pub has_signed_range : Over → Bool
has_signed_range Over.Uadd = false
has_signed_range Over.Sadd = true
has_signed_range Over.Usub = false
has_signed_range Over.Ssub = true
has_signed_range Over.Umul = false
has_signed_range Over.Smul = true

abbrev pub overflows : Over → ℕ → ℕ → ℕ → Bool
overflows over w x y =
    if has_signed_range over then leaves_signed w (overflow_arith over) x y else leaves_unsigned w (overflow_arith over) x y

abbrev pub with_overflow : Over → ℕ → ℕ → ℕ → Done
with_overflow over w x y =
    Done.Is (Val.Pair (wrap w (whole_result (overflow_arith over) (pos x) (pos y))) (overflows over w x y))
