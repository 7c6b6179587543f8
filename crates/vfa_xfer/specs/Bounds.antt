-- What flags say of the numbers that an operation gives: where the whole result leaves the range, the result is poison, so
-- that a number of the result is one of the span within the range.
use Rattle.std.specs.Prelude.{ℕ, Bool, not, ◌&&◌, ◌||◌, Option, Some, None, if◌then◌else◌}
use Rattle.vfa_ir.specs.declared.operations.Flags.{Flags}
use Rattle.vfa_word.specs.declared.arith.Arith.{Arith}
use Rattle.vfa_dom.specs.Best.{Masks}
use Rattle.vfa_wrap.specs.Arc.{Span, full_span}
use Rattle.vfa_wrap.specs.Ends.{EndsOf}
use Rattle.vfa_wrap.specs.WholeSpans.{span_of_results, bound_of, lies_in_range}
use Rattle.vfa_wrap.specs.Wrapped.{span_of}
use Rattle.vfa_wrap.specs.declared.reading.Reading.{Reading}
use Rattle.vfa_xfer.specs.declared.bounds.Bounds.{Bounds}
use Rattle.vfa_xfer.specs.Rows.{RowOf}

-- two bounds; one of all numbers asks for nothing
pub record BoundsOf : Type 0 where
  pub one : Span
  pub two : Span

-- the bounds that a value of the program shows
abbrev pub shown_bounds : {W : ℕ} → Bounds W → BoundsOf
shown_bounds b = record { one = span_of b.one; two = span_of b.two }

abbrev pub no_bounds : ℕ → BoundsOf
no_bounds w = record { one = full_span w; two = full_span w }

-- both, where no one is empty
abbrev pub both_bounds : Option Span → Option Span → Option BoundsOf
both_bounds (Some one) (Some two) = Some (record { one = one; two = two })
both_bounds (Some one) None = None
both_bounds None two = None

-- the bound, where it is asked for
abbrev pub bound_if : Bool → ℕ → Option Span → Option Span
bound_if asked w bound = if asked then bound else Some (full_span w)

-- the numbers of the span in the range of the reading
abbrev pub span_bound : Arith → Reading → ℕ → EndsOf → EndsOf → Option Span
span_bound op reading w a b = bound_of reading w (span_of_results op reading a b)

-- `nuw` gives the bound of the unsigned span, `nsw` that of the signed one. At width 8, with `nuw`, 200 to 210 plus 40 to 60
-- is 240 to 255; 200 to 210 plus 100 to 105 is empty
unfoldable pub wrap_bounds : Arith → Flags → ℕ → EndsOf → EndsOf → Option BoundsOf
wrap_bounds op flags w a b = both_bounds
    (bound_if flags.nuw w (span_bound op Reading.Unsigned w a b))
    (bound_if flags.nsw w (span_bound op Reading.Signed w a b))

-- the row of known bits, an arc and bounds, each of which may be empty
abbrev pub row_of : Masks → Option Span → Option BoundsOf → Option RowOf
row_of cube (Some arc) (Some b) = Some (record { cube = cube; arc = arc; one = b.one; two = b.two })
row_of cube (Some arc) None = None
row_of cube None b = None

-- whether the whole span lies in the range
abbrev pub span_fits : Arith → Reading → ℕ → EndsOf → EndsOf → Bool
span_fits op reading w a b = lies_in_range reading w (span_of_results op reading a b)

-- whether no flag is broken by any two numbers between the ends
unfoldable pub keeps_in_range : Arith → Flags → ℕ → EndsOf → EndsOf → Bool
keeps_in_range op flags w a b =
    (not flags.nuw || span_fits op Reading.Unsigned w a b) && (not flags.nsw || span_fits op Reading.Signed w a b)
