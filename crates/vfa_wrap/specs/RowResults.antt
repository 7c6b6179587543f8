-- What each operation gives of two numbers of one width, where the LLVM Language Reference gives a number. None: the
-- result is poison, or the operation undefined.
use Rattle.std.specs.Prelude.{ℕ, zero, suc, ◌==◌, nat_lt, Option, Some, None, int_div, bit_and, bit_or, if◌then◌else◌}
use Rattle.vfa_word.specs.Numbers.{signed_of, fits_signed}
use Rattle.vfa_word.specs.Operations.{product_of, shifted_left, shifted_right, shifted_right_signed, unsigned_quotient, unsigned_remainder, signed_quotient, signed_remainder, unsigned_minimum, unsigned_maximum, signed_minimum, signed_maximum, saturated_unsigned, saturated_signed}
use Rattle.vfa_word.specs.declared.arith.Arith.TheVariants.{Add, Sub}
use Rattle.vfa_wrap.specs.declared.ends_op.EndsOp.{EndsOp}
use Rattle.vfa_wrap.specs.declared.ends_op.EndsOp.TheVariants.{Mul, And, Or, Shl, Lshr, Ashr, Udiv, Sdiv, Urem, Srem, Umin, Umax, Smin, Smax, UaddSat, UsubSat, SaddSat, SsubSat}

-- a signed quotient or remainder counts where the divisor is not 0 and the quotient is in the signed range
abbrev pub divides_signed : ℕ → ℕ → ℕ → ℕ → Option ℕ
divides_signed w x zero n = None
divides_signed w x (suc y) n = if fits_signed w (int_div (signed_of w x) (signed_of w (suc y))) then Some n else None

unfoldable pub result_of : EndsOp → ℕ → ℕ → ℕ → Option ℕ
result_of Mul w x y = Some (product_of w x y)
result_of And w x y = Some (bit_and x y)
result_of Or w x y = Some (bit_or x y)
result_of Shl w x t = if nat_lt t w then Some (shifted_left w x t) else None
result_of Lshr w x t = if nat_lt t w then Some (shifted_right x t) else None
result_of Ashr w x t = if nat_lt t w then Some (shifted_right_signed w x t) else None
result_of Udiv w x y = if y == 0 then None else Some (unsigned_quotient x y)
result_of Urem w x y = if y == 0 then None else Some (unsigned_remainder x y)
result_of Sdiv w x y = divides_signed w x y (signed_quotient w x y)
result_of Srem w x y = divides_signed w x y (signed_remainder w x y)
result_of Umin w x y = Some (unsigned_minimum x y)
result_of Umax w x y = Some (unsigned_maximum x y)
result_of Smin w x y = Some (signed_minimum w x y)
result_of Smax w x y = Some (signed_maximum w x y)
result_of UaddSat w x y = Some (saturated_unsigned w Add x y)
result_of UsubSat w x y = Some (saturated_unsigned w Sub x y)
result_of SaddSat w x y = Some (saturated_signed w Add x y)
result_of SsubSat w x y = Some (saturated_signed w Sub x y)
