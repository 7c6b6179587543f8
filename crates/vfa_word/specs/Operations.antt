-- What each operation gives of numbers of width w, after the LLVM Language Reference: whole numbers without bound, and
-- one definition for each operation. Whether a whole result fits the width is said by `fits_unsigned` of
-- `whole_unsigned`, and by `fits_signed` of `whole_signed`. The bitwise operations `and`, `or` and `xor` are std's `bit_and`, `bit_or` and `bit_xor`, which are the
-- same at each width.
use Rattle.std.specs.Prelude.{ℕ, zero, suc, ◌+◌, ◌-◌, ◌*◌, ◌/◌, ◌%◌, ◌^◌, Bool, min, max, ℤ, pos, negsuc, ◌-ℤ◌, int_lt, int_div, int_rem, unsigned_abs, nat_lt, nat_eq, if◌then◌else◌}
use Rattle.std.specs.Int.{bit_at, saturate_to_bits}
use Rattle.vfa_word.specs.Numbers.{wrap, signed_of, floor_div, whole_result}
use Rattle.vfa_word.specs.declared.arith.Arith.{Arith}
use Rattle.vfa_word.specs.declared.arith.Arith.TheVariants.{Shl}

-- ---- "Binary Operations": `add`, `sub`, `mul`; at width 8, 5 - 10 is 251

abbrev pub sum_of : ℕ → ℕ → ℕ → ℕ
sum_of w x y = (x + y) % 2 ^ w

abbrev pub difference_of : ℕ → ℕ → ℕ → ℕ
difference_of w x y = wrap w (pos x -ℤ pos y)

abbrev pub product_of : ℕ → ℕ → ℕ → ℕ
product_of w x y = (x * y) % 2 ^ w

-- the whole results whose range the flags `nuw` and `nsw` speak of: of the numbers, and of the signed readings; an
-- amount is a number in both
abbrev pub whole_unsigned : Arith → ℕ → ℕ → ℤ
whole_unsigned op x y = whole_result op (pos x) (pos y)

abbrev pub whole_signed : ℕ → Arith → ℕ → ℕ → ℤ
whole_signed w Shl x t = whole_result Shl (signed_of w x) (pos t)
whole_signed w op x y = whole_result op (signed_of w x) (signed_of w y)

-- ---- "Binary Operations": `udiv`, `urem`, `sdiv` and `srem`, for y that is not 0. The unsigned quotient is rounded down,
-- the signed one toward 0, and a remainder is what the quotient leaves: at width 8, -7 by 2 is -3, and leaves -1

abbrev pub unsigned_quotient : ℕ → ℕ → ℕ
unsigned_quotient x y = x / y

abbrev pub unsigned_remainder : ℕ → ℕ → ℕ
unsigned_remainder x y = x % y

abbrev pub signed_quotient : ℕ → ℕ → ℕ → ℕ
signed_quotient w x y = wrap w (int_div (signed_of w x) (signed_of w y))

abbrev pub signed_remainder : ℕ → ℕ → ℕ → ℕ
signed_remainder w x y = wrap w (int_rem (signed_of w x) (signed_of w y))

-- ---- "Bitwise Binary Operations": `shl`, `lshr` and `ashr`, for amounts t below w. To the right a shift rounds down, and
-- the signed one does so to the signed reading: at width 8, 129 by 1 is 64, or 192, the number of -64

abbrev pub shifted_left : ℕ → ℕ → ℕ → ℕ
shifted_left w x t = (x * 2 ^ t) % 2 ^ w

abbrev pub shifted_right : ℕ → ℕ → ℕ
shifted_right x t = x / 2 ^ t

abbrev pub shifted_right_signed : ℕ → ℕ → ℕ → ℕ
shifted_right_signed w x t = wrap w (floor_div (signed_of w x) (2 ^ t))

-- ---- "Conversion Operations": `zext`, `sext` and `trunc` of a number of width v, to width w

abbrev pub zero_extended : ℕ → ℕ
zero_extended x = x

-- 12 of width 4 is -4, and 252 at width 8
abbrev pub sign_extended : ℕ → ℕ → ℕ → ℕ
sign_extended v w x = wrap w (signed_of v x)

abbrev pub truncated : ℕ → ℕ → ℕ
truncated w x = x % 2 ^ w

-- ---- "Other Operations": the orders and the equality that the predicates of `icmp` are made of

abbrev pub unsigned_less : ℕ → ℕ → Bool
unsigned_less x y = nat_lt x y

abbrev pub signed_less : ℕ → ℕ → ℕ → Bool
signed_less w x y = int_lt (signed_of w x) (signed_of w y)

abbrev pub equal : ℕ → ℕ → Bool
equal x y = nat_eq x y

-- ---- "Standard C/C++ Library Intrinsics": `llvm.umin`, `llvm.umax`, `llvm.smin`, `llvm.smax` and `llvm.abs`; at width 8
-- the signed minimum of 1 and 255 is 255

abbrev pub unsigned_minimum : ℕ → ℕ → ℕ
unsigned_minimum x y = min x y

abbrev pub unsigned_maximum : ℕ → ℕ → ℕ
unsigned_maximum x y = max x y

abbrev pub signed_minimum : ℕ → ℕ → ℕ → ℕ
signed_minimum w x y = if signed_less w y x then y else x

abbrev pub signed_maximum : ℕ → ℕ → ℕ → ℕ
signed_maximum w x y = if signed_less w x y then y else x

-- the distance of the signed reading from 0; the least signed value gives itself, 128 at width 8
abbrev pub absolute_of : ℕ → ℕ → ℕ
absolute_of w x = unsigned_abs (signed_of w x)

-- ---- "Saturation Arithmetic Intrinsics": `llvm.uadd.sat`, `llvm.usub.sat`, `llvm.sadd.sat` and `llvm.ssub.sat`

-- the nearest number of the unsigned range
abbrev pub clamped_unsigned : ℕ → ℤ → ℕ
clamped_unsigned w (pos n) = min n (2 ^ w - 1)
clamped_unsigned w (negsuc n) = 0

-- the nearest whole number of the signed range
abbrev pub clamped_signed : ℕ → ℤ → ℤ
clamped_signed w z = saturate_to_bits (w - 1) z

-- the whole result of the numbers, clamped to the unsigned range; at width 8, 200 + 100 gives 255, and 5 - 10 gives 0
abbrev pub saturated_unsigned : ℕ → Arith → ℕ → ℕ → ℕ
saturated_unsigned w op x y = clamped_unsigned w (whole_unsigned op x y)

-- the whole result of the signed readings, clamped to the signed range; at width 8, 100 + 100 gives 127, and 156 - 100,
-- which is -100 - 100, gives 128, the number of -128
abbrev pub saturated_signed : ℕ → Arith → ℕ → ℕ → ℕ
saturated_signed w op x y = wrap w (clamped_signed w (whole_signed w op x y))

-- ---- "Bit Manipulation Intrinsics": `llvm.ctpop`, `llvm.ctlz` and `llvm.cttz`. At width 8 the number 20, which is
-- 00010100, has 2 ones, 3 zeros above the highest one and 2 zeros below the lowest; 0 has 8 of each kind of zeros

-- how many numbers below n pass
unfoldable pub count_below : ℕ → (ℕ → Bool) → ℕ
count_below zero p = 0
count_below (suc n) p = (if p n then 1 else 0) + count_below n p

-- the places where the number has a one
unfoldable pub one_bits : ℕ → ℕ → ℕ
one_bits w x = count_below w (λ i. nat_eq (bit_at x i) 1)

-- the places at which and above which the number has no one
unfoldable pub leading_zero_bits : ℕ → ℕ → ℕ
leading_zero_bits w x = count_below w (λ i. nat_lt x (2 ^ i))

-- the places at which and below which the number has no one
unfoldable pub trailing_zero_bits : ℕ → ℕ → ℕ
trailing_zero_bits w x = count_below w (λ i. nat_eq (x % 2 ^ (i + 1)) 0)
