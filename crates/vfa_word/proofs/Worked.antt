-- Worked values of the operations.
use Rattle.std.proofs.Common.{◌≡◌, refl}
use Rattle.vfa_word.specs.declared.arith.Arith.TheVariants.{Add, Sub}
use Rattle.vfa_word.specs.Operations.{difference_of, signed_quotient, signed_remainder, shifted_right, shifted_right_signed, sign_extended, signed_minimum, signed_maximum, absolute_of, saturated_unsigned, saturated_signed, count_below, one_bits, leading_zero_bits, trailing_zero_bits}

differences : difference_of 8 5 10 ≡ 251
differences = refl

quotient : signed_quotient 8 249 2 ≡ 253
quotient = refl

remainder : signed_remainder 8 249 2 ≡ 255
remainder = refl

shifts : shifted_right 129 1 ≡ 64
shifts = refl

signed_shifts : shifted_right_signed 8 129 1 ≡ 192
signed_shifts = refl

casts : sign_extended 4 8 12 ≡ 252
casts = refl

minimum : signed_minimum 8 1 255 ≡ 255
minimum = refl

maximum : signed_maximum 8 1 255 ≡ 1
maximum = refl

distance : absolute_of 8 128 ≡ 128
distance = refl

sums_clamped : saturated_unsigned 8 Add 200 100 ≡ 255
sums_clamped = refl

differences_clamped : saturated_unsigned 8 Sub 5 10 ≡ 0
differences_clamped = refl

signed_sums_clamped : saturated_signed 8 Add 100 100 ≡ 127
signed_sums_clamped = refl

signed_differences_clamped : saturated_signed 8 Sub 156 100 ≡ 128
signed_differences_clamped = refl

ones : one_bits 8 20 ≡ 2
unfolding one_bits count_below
ones = refl

leading : leading_zero_bits 8 20 ≡ 3
unfolding leading_zero_bits count_below
leading = refl

leading_of_zero : leading_zero_bits 8 0 ≡ 8
unfolding leading_zero_bits count_below
leading_of_zero = refl

trailing : trailing_zero_bits 8 20 ≡ 2
unfolding trailing_zero_bits count_below
trailing = refl

trailing_of_zero : trailing_zero_bits 8 0 ≡ 8
unfolding trailing_zero_bits count_below
trailing_of_zero = refl
