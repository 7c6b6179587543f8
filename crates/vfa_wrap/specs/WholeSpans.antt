-- Spans of whole results: from the least to the greatest whole number that an operation gives of operands that lie
-- between ends, before it wraps, and how such a span stands to the range of the width. LLVM's ConstantRange asks the same
-- by unsignedAddMayOverflow and signedAddMayOverflow, and cuts by addWithNoWrap, and so on for the other operations.
use Rattle.std.specs.Prelude.{◌≡◌, ℕ, ◌-◌, ◌^◌, ◌<◌, Bool, true, false, not, ◌&&◌, ◌||◌, Option, Some, None, ℤ, pos, neg_ℤ, ◌+ℤ◌, ◌-ℤ◌, ◌*ℤ◌, ◌≤ℤ◌, int_lt, if◌then◌else◌, IsTrue, IsSomeAnd}
use Rattle.std.specs.Int.{int_min, int_max}
use Rattle.vfa_word.specs.Numbers.{wrap, fits_unsigned, fits_signed}
use Rattle.vfa_word.specs.Operations.{whole_unsigned, whole_signed, clamped_unsigned, clamped_signed, sum_of, difference_of, product_of, shifted_left}
use Rattle.vfa_word.specs.declared.arith.Arith.{Arith}
use Rattle.vfa_word.specs.declared.arith.Arith.TheVariants.{Add, Sub, Mul, Shl}
use Rattle.vfa_wrap.specs.Arc.{Span, arc_from, in_span}
use Rattle.vfa_wrap.specs.Ends.{EndsOf}
use Rattle.vfa_wrap.specs.Between.{Between, AreEnds}
use Rattle.vfa_wrap.specs.declared.reading.Reading.{Reading}
use Rattle.vfa_wrap.specs.declared.reading.Reading.TheVariants.{Unsigned, Signed}

-- whole numbers from a least one up to a greatest one
pub record WholeSpan : Type 0 where
  pub least : ℤ
  pub most : ℤ

-- ---- the two readings of numbers of width w

-- the ends in the reading
abbrev pub read_ends : Reading → EndsOf → WholeSpan
read_ends Unsigned e = record { least = pos e.lo; most = pos e.hi }
read_ends Signed e = record { least = e.slo; most = e.shi }

-- the whole result of the numbers, or of their readings
abbrev pub whole_read : Reading → ℕ → Arith → ℕ → ℕ → ℤ
whole_read Unsigned w op x y = whole_unsigned op x y
whole_read Signed w op x y = whole_signed w op x y

-- the range of the width: its least and greatest whole number, whether a whole number is in it, and the number of the
-- width that a whole number is clamped to
abbrev pub range_of : Reading → ℕ → WholeSpan
range_of Unsigned w = record { least = pos 0; most = pos (2 ^ w - 1) }
range_of Signed w = record { least = neg_ℤ (pos (2 ^ (w - 1))); most = pos (2 ^ (w - 1) - 1) }

abbrev pub fits_read : Reading → ℕ → ℤ → Bool
fits_read Unsigned w z = fits_unsigned w z
fits_read Signed w z = fits_signed w z

abbrev pub clamped_read : Reading → ℕ → ℤ → ℕ
clamped_read Unsigned w z = clamped_unsigned w z
clamped_read Signed w z = wrap w (clamped_signed w z)

-- ---- the span of the whole results

-- the least and the greatest of the products of one of p and q and one of r and s
abbrev pub least_corner : ℤ → ℤ → ℤ → ℤ → ℤ
least_corner p q r s = int_min (int_min (p *ℤ r) (p *ℤ s)) (int_min (q *ℤ r) (q *ℤ s))

abbrev pub greatest_corner : ℤ → ℤ → ℤ → ℤ → ℤ
greatest_corner p q r s = int_max (int_max (p *ℤ r) (p *ℤ s)) (int_max (q *ℤ r) (q *ℤ s))

-- a whole number, shifted by one amount where it is negative and by another elsewhere
abbrev pub shifted_whole : ℤ → ℕ → ℕ → ℤ
shifted_whole z negative other = z *ℤ pos (2 ^ (if int_lt z (pos 0) then negative else other))

-- from the least to the greatest: a sum is least for the least operands, a difference for the least less the greatest, a
-- product for one of the four pairs of ends, a shift for the amount that takes the least furthest down. At width 8, 200 to
-- 210 plus 100 to 105 has the unsigned span 300 to 315; -3 to 2 times -5 to 4 has the signed span -12 to 15
unfoldable pub span_of_results : Arith → Reading → EndsOf → EndsOf → WholeSpan
span_of_results Add reading a b =
    let x = read_ends reading a in
    let y = read_ends reading b in
    record { least = x.least +ℤ y.least; most = x.most +ℤ y.most }
span_of_results Sub reading a b =
    let x = read_ends reading a in
    let y = read_ends reading b in
    record { least = x.least -ℤ y.most; most = x.most -ℤ y.least }
span_of_results Mul reading a b =
    let x = read_ends reading a in
    let y = read_ends reading b in
    record { least = least_corner x.least x.most y.least y.most; most = greatest_corner x.least x.most y.least y.most }
span_of_results Shl reading a b =
    let x = read_ends reading a in
    record { least = shifted_whole x.least b.hi b.lo; most = shifted_whole x.most b.lo b.hi }

-- ---- the span and the range of the width

-- whether the whole span lies in the range
unfoldable pub lies_in_range : Reading → ℕ → WholeSpan → Bool
lies_in_range reading w span = fits_read reading w span.least && fits_read reading w span.most

-- whether no number of the span lies in the range
unfoldable pub misses_range : Reading → ℕ → WholeSpan → Bool
misses_range reading w span =
    let range = range_of reading w in
    int_lt span.most range.least || int_lt range.most span.least

-- whether the operation overflows, where the span tells it: no where it lies in the range, yes where it misses it
unfoldable pub overflow_of : Reading → ℕ → WholeSpan → Option Bool
overflow_of reading w span =
    if lies_in_range reading w span then Some false
    else (if misses_range reading w span then Some true else None)

-- the arc of the span whose ends are clamped to the range: the results of a saturating operation
unfoldable pub clamped_span : Reading → ℕ → WholeSpan → Span
clamped_span reading w span = arc_from w (clamped_read reading w span.least) (clamped_read reading w span.most)

-- the arc of the numbers of the span that lie in the range; None where there is none. At width 8 the unsigned span 250 to
-- 260 gives 250 to 255, and 300 to 315 gives none
unfoldable pub bound_of : Reading → ℕ → WholeSpan → Option Span
bound_of reading w span = if misses_range reading w span then None else Some (clamped_span reading w span)

-- ---- what a bound and an overflow say of the operands

-- what the second operand has the ends of: an amount of a shift is below the width
abbrev pub AreOperandEnds : Arith → ℕ → EndsOf → Type 0
AreOperandEnds Shl w b = AreEnds w b × (b.hi < w)
AreOperandEnds _ w b = AreEnds w b

-- the number that the operation gives
abbrev pub number_of : Arith → ℕ → ℕ → ℕ → ℕ
number_of Add w x y = sum_of w x y
number_of Sub w x y = difference_of w x y
number_of Mul w x y = product_of w x y
number_of Shl w x t = shifted_left w x t

-- each pair of operands between the ends whose whole result is in the range has its number in the arc
pub record HoldsFitting (op : Arith) (reading : Reading) (w : ℕ) (a b : EndsOf) (span : Option Span) : Type 0 where
  pub holds : (x y : ℕ) → Between w a x → Between w b y → IsTrue (fits_read reading w (whole_read reading w op x y))
      → IsSomeAnd span (λ s. IsTrue (in_span w s (number_of op w x y)))

-- the answer is that of each pair of operands between the ends: whether the whole result leaves the range
pub record Overflows (op : Arith) (reading : Reading) (w : ℕ) (a b : EndsOf) (answer : Bool) : Type 0 where
  pub each : (x y : ℕ) → Between w a x → Between w b y → not (fits_read reading w (whole_read reading w op x y)) ≡ answer

-- no whole number between the ends of the span is in the range
abbrev pub NoneFits : Reading → ℕ → WholeSpan → Type 0
NoneFits reading w span = (z : ℤ) → span.least ≤ℤ z → z ≤ℤ span.most → fits_read reading w z ≡ false
