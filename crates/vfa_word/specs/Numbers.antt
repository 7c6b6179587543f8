-- Numbers of a width, after the LLVM Language Reference, "Integer Type" and "Binary Operations": a number of width w
-- is 0 to 2^w - 1, an operation wraps its whole-number result modulo 2^w, and a signed reading is two's complement.
use Rattle.std.specs.Prelude.{ℕ, ◌-◌, ◌/◌, ◌%◌, ◌^◌, ◌≤◌, Bool, false, nat_lt, ℤ, pos, negsuc, ◌+ℤ◌, ◌-ℤ◌, ◌*ℤ◌, unsigned_abs, if◌then◌else◌}
use Rattle.vfa_word.specs.declared.arith.Arith.{Arith}
use Rattle.vfa_word.specs.declared.arith.Arith.TheVariants.{Add, Sub, Mul, Shl}

-- a width that numbers may have
pub record IsWidth (w : ℕ) : Type 0 where
  pub least : 1 ≤ w
  pub most : w ≤ 128

-- the number of width w that a whole number wraps to, its remainder modulo 2^w
abbrev pub wrap : ℕ → ℤ → ℕ
wrap w (pos n) = n % 2 ^ w
wrap w (negsuc n) = 2 ^ w - 1 - n % 2 ^ w

-- the two's complement reading of a number of width w
abbrev pub signed_of : ℕ → ℕ → ℤ
signed_of w x = if nat_lt x (2 ^ (w - 1)) then pos x else (pos x -ℤ pos (2 ^ w))

-- the quotient of a whole number by a positive divisor, rounded down
abbrev pub floor_div : ℤ → ℕ → ℤ
floor_div (pos n) d = pos (n / d)
floor_div (negsuc n) d = negsuc (n / d)

-- whether a whole number is in the unsigned range of the width, 0 to 2^w - 1
abbrev pub fits_unsigned : ℕ → ℤ → Bool
fits_unsigned w (pos n) = nat_lt n (2 ^ w)
fits_unsigned w (negsuc n) = false

-- whether a whole number is in the signed range of the width, -2^(w-1) to 2^(w-1) - 1
abbrev pub fits_signed : ℕ → ℤ → Bool
fits_signed w (pos n) = nat_lt n (2 ^ (w - 1))
fits_signed w (negsuc n) = nat_lt n (2 ^ (w - 1))

-- the result over whole numbers, before it wraps; a shift to the left by t multiplies by 2^t
abbrev pub whole_result : Arith → ℤ → ℤ → ℤ
whole_result Add x y = x +ℤ y
whole_result Sub x y = x -ℤ y
whole_result Mul x y = x *ℤ y
whole_result Shl x t = x *ℤ pos (2 ^ unsigned_abs t)
