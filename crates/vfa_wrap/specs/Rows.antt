-- The arc of the results of an operation whose operands are known by their ends alone: one row for each operation,
-- over whole numbers without bound, after the operation of LLVM's ConstantRange that is named there. None: there is no
-- result.
use Rattle.std.specs.Prelude.{◌≡◌, ℕ, ◌-◌, ◌*◌, ◌/◌, ◌^◌, ◌<◌, ◌≤◌, ◌==◌, min, max, ◌&&◌, nat_lt, Option, Some, None, ℤ, pos, neg_ℤ, ◌-ℤ◌, int_lt, int_le, unsigned_abs, if◌then◌else◌, ◌⊎◌, IsTrue, IsSomeAnd}
use Rattle.std.specs.Int.{int_min, int_max}
use Rattle.vfa_word.specs.Numbers.{fits_signed, floor_div}
use Rattle.vfa_wrap.specs.Arc.{Span, full_span, arc_from, sarc, in_span}
use Rattle.vfa_wrap.specs.Ends.{EndsOf}
use Rattle.vfa_wrap.specs.Between.{Between, AreEnds}
use Rattle.vfa_wrap.specs.RowResults.{result_of}
use Rattle.vfa_wrap.specs.WholeSpans.{least_corner, greatest_corner, span_of_results, clamped_span}
use Rattle.vfa_word.specs.declared.arith.Arith.TheVariants.{Add, Sub}
use Rattle.vfa_wrap.specs.declared.reading.Reading.TheVariants.{Unsigned, Signed}
use Rattle.vfa_wrap.specs.declared.ends_op.EndsOp.{EndsOp}
use Rattle.vfa_wrap.specs.declared.ends_op.EndsOp.TheVariants.{Mul, And, Or, Shl, Lshr, Ashr, Udiv, Sdiv, Urem, Srem, Umin, Umax, Smin, Smax, UaddSat, UsubSat, SaddSat, SsubSat}

-- from the least to the greatest product of signed ends, where both are in the signed range
abbrev pub signed_products : ℕ → ℤ → ℤ → Span
signed_products w least most =
    if fits_signed w least && fits_signed w most then sarc w least most else full_span w

-- ConstantRange::multiply, which takes the smaller of an unsigned and a signed arc
unfoldable pub mul_row : ℕ → EndsOf → EndsOf → Span
mul_row w a b =
    if nat_lt (a.hi * b.hi) (2 ^ w)
    then arc_from w (a.lo * b.lo) (a.hi * b.hi)
    else
    signed_products w
    (least_corner a.slo a.shi b.slo b.shi)
    (greatest_corner a.slo a.shi b.slo b.shi)

-- ConstantRange::binaryAnd
unfoldable pub and_row : ℕ → EndsOf → EndsOf → Span
and_row w a b = arc_from w 0 (min a.hi b.hi)

-- ConstantRange::binaryOr
unfoldable pub or_row : ℕ → EndsOf → EndsOf → Span
or_row w a b = arc_from w (max a.lo b.lo) (2 ^ w - 1)

-- ConstantRange::shl
unfoldable pub shl_row : ℕ → EndsOf → EndsOf → Span
shl_row w a b =
    if nat_lt (a.hi * 2 ^ b.hi) (2 ^ w) then arc_from w (a.lo * 2 ^ b.lo) (a.hi * 2 ^ b.hi) else full_span w

-- ConstantRange::lshr
unfoldable pub lshr_row : ℕ → EndsOf → EndsOf → Span
lshr_row w a b = arc_from w (a.lo / 2 ^ b.hi) (a.hi / 2 ^ b.lo)

-- ConstantRange::ashr: a negative end falls furthest by the least shift, any other by the greatest
unfoldable pub ashr_row : ℕ → EndsOf → EndsOf → Span
ashr_row w a b =
    sarc w
    (floor_div a.slo (2 ^ (if int_lt a.slo (pos 0) then b.lo else b.hi)))
    (floor_div a.shi (2 ^ (if int_lt a.shi (pos 0) then b.hi else b.lo)))

-- ConstantRange::udiv, whose divisors are not 0
unfoldable pub udiv_row : ℕ → EndsOf → EndsOf → Option Span
udiv_row w a b = if b.hi == 0 then None else Some (arc_from w (a.lo / b.hi) (a.hi / b.lo))

-- the greatest distance from 0 of a signed reading between the ends
unfoldable pub size_of : EndsOf → ℕ
size_of e = max (unsigned_abs e.slo) (unsigned_abs e.shi)

-- no quotient is further from 0 than its dividend
unfoldable pub near_quotients : ℕ → EndsOf → Span
near_quotients w a = sarc w (neg_ℤ (pos (size_of a))) (pos (min (size_of a) (2 ^ (w - 1) - 1)))

-- ConstantRange::sdiv where no operand is negative; elsewhere coarser, and this project's own
unfoldable pub sdiv_row : ℕ → EndsOf → EndsOf → Option Span
sdiv_row w a b =
    if size_of b == 0
    then None
    else (if int_le (pos 0) a.slo && int_le (pos 0) b.slo then udiv_row w a b else Some (near_quotients w a))

-- ConstantRange::urem
unfoldable pub urem_row : ℕ → EndsOf → EndsOf → Option Span
urem_row w a b =
    if b.hi == 0
    then None
    else
    (if nat_lt a.hi b.lo then Some (arc_from w a.lo a.hi) else Some (arc_from w 0 (min a.hi (b.hi - 1))))

-- ConstantRange::srem: a remainder has the sign of its dividend, and is nearer to 0 than the divisor
unfoldable pub least_remainder : EndsOf → ℕ → ℤ
least_remainder a size = if int_le (pos 0) a.slo then pos 0 else int_max a.slo (pos 1 -ℤ pos size)

unfoldable pub greatest_remainder : EndsOf → ℕ → ℤ
greatest_remainder a size = if int_le a.shi (pos 0) then pos 0 else int_min a.shi (pos size -ℤ pos 1)

unfoldable pub srem_row : ℕ → EndsOf → EndsOf → Option Span
srem_row w a b =
    if size_of b == 0
    then None
    else Some (sarc w (least_remainder a (size_of b)) (greatest_remainder a (size_of b)))

-- ConstantRange::umin, ConstantRange::umax, ConstantRange::smin and ConstantRange::smax
unfoldable pub umin_row : ℕ → EndsOf → EndsOf → Span
umin_row w a b = arc_from w (min a.lo b.lo) (min a.hi b.hi)

unfoldable pub umax_row : ℕ → EndsOf → EndsOf → Span
umax_row w a b = arc_from w (max a.lo b.lo) (max a.hi b.hi)

unfoldable pub smin_row : ℕ → EndsOf → EndsOf → Span
smin_row w a b = sarc w (int_min a.slo b.slo) (int_min a.shi b.shi)

unfoldable pub smax_row : ℕ → EndsOf → EndsOf → Span
smax_row w a b = sarc w (int_max a.slo b.slo) (int_max a.shi b.shi)

unfoldable pub row_by_ends : EndsOp → ℕ → EndsOf → EndsOf → Option Span
row_by_ends Mul w a b = Some (mul_row w a b)
row_by_ends And w a b = Some (and_row w a b)
row_by_ends Or w a b = Some (or_row w a b)
row_by_ends Shl w a b = Some (shl_row w a b)
row_by_ends Lshr w a b = Some (lshr_row w a b)
row_by_ends Ashr w a b = Some (ashr_row w a b)
row_by_ends Udiv w a b = udiv_row w a b
row_by_ends Sdiv w a b = sdiv_row w a b
row_by_ends Urem w a b = urem_row w a b
row_by_ends Srem w a b = srem_row w a b
row_by_ends Umin w a b = Some (umin_row w a b)
row_by_ends Umax w a b = Some (umax_row w a b)
row_by_ends Smin w a b = Some (smin_row w a b)
row_by_ends Smax w a b = Some (smax_row w a b)
-- ConstantRange::uadd_sat, ConstantRange::usub_sat, ConstantRange::sadd_sat and ConstantRange::ssub_sat
row_by_ends UaddSat w a b = Some (clamped_span Unsigned w (span_of_results Add Unsigned a b))
row_by_ends UsubSat w a b = Some (clamped_span Unsigned w (span_of_results Sub Unsigned a b))
row_by_ends SaddSat w a b = Some (clamped_span Signed w (span_of_results Add Signed a b))
row_by_ends SsubSat w a b = Some (clamped_span Signed w (span_of_results Sub Signed a b))

-- the ends of amounts of a shift, which are below the width
abbrev pub AreAmounts : ℕ → EndsOf → Type 0
AreAmounts w b = AreEnds w b × (b.hi < w)

-- the ends of divisors: of those that are not 0, or of 0 alone where there is no other
abbrev pub AreDivisors : ℕ → EndsOf → Type 0
AreDivisors w b = AreEnds w b × ((1 ≤ b.lo) ⊎ (b.hi ≡ 0))

-- what the second operand has the ends of
abbrev pub AreSecondEnds : EndsOp → ℕ → EndsOf → Type 0
AreSecondEnds Shl w b = AreAmounts w b
AreSecondEnds Lshr w b = AreAmounts w b
AreSecondEnds Ashr w b = AreAmounts w b
AreSecondEnds Udiv w b = AreDivisors w b
AreSecondEnds Sdiv w b = AreDivisors w b
AreSecondEnds Urem w b = AreDivisors w b
AreSecondEnds Srem w b = AreDivisors w b
AreSecondEnds _ w b = AreEnds w b

-- a division or remainder by 0 alone
abbrev pub HasNoDivisor : EndsOp → EndsOf → Type 0
HasNoDivisor Udiv b = b.hi ≡ 0
HasNoDivisor Sdiv b = b.hi ≡ 0
HasNoDivisor Urem b = b.hi ≡ 0
HasNoDivisor Srem b = b.hi ≡ 0
HasNoDivisor _ b = ⊥

-- the arc holds each result whose operands lie between the ends
pub record HoldsResults (op : EndsOp) (w : ℕ) (a b : EndsOf) (span : Option Span) : Type 0 where
  pub holds : (x y r : ℕ) → Between w a x → Between w b y → result_of op w x y ≡ Some r → IsSomeAnd span (λ s. IsTrue (in_span w s r))
