-- What a transfer knows of the numbers that an operation gives of two sets of numbers: a row, whose numbers are sharpened.
use Rattle.std.specs.Prelude.{ℕ, Bool, ◌&&◌, Option}
use Rattle.std.specs.Option.{option_and_then}
use Rattle.vfa_dom.specs.Best.{Masks}
use Rattle.vfa_known.specs.Cube.{in_masks}
use Rattle.vfa_known.specs.Known.{masks_of}
use Rattle.vfa_wrap.specs.Arc.{Span, in_span, full_span}
use Rattle.vfa_wrap.specs.Wrapped.{span_of}
use Rattle.vfa_fact.specs.declared.numbers.Numbers.{Numbers}
use Rattle.vfa_fact.specs.Sharp.{sharp_in}
use Rattle.vfa_xfer.specs.declared.rows.Row.{Row}

-- known bits, an arc and two bounds; a bound of all numbers asks for nothing
pub record RowOf : Type 0 where
  pub cube : Masks
  pub arc : Span
  pub one : Span
  pub two : Span

-- whether x agrees with the known bits and is within both bounds
unfoldable pub in_row : ℕ → RowOf → ℕ → Bool
in_row w r x = in_masks w r.cube x && (in_span w r.one x && in_span w r.two x)

-- the fact of these numbers in the arc, going up from the arc's first number; there is none where there is no such number
abbrev pub row_fact : ℕ → RowOf → Option Numbers
row_fact w r = sharp_in w r.arc (in_row w r)

-- the same of a row that may be empty
abbrev pub row_numbers : ℕ → Option RowOf → Option Numbers
row_numbers w r = option_and_then (row_fact w) r

-- the row of all numbers
abbrev pub full_row : ℕ → RowOf
full_row w = record { cube = record { zeros = 0; ones = 0 }; arc = full_span w; one = full_span w; two = full_span w }

-- the row that a value of the program shows
abbrev pub shown_row : {W : ℕ} → Row W → RowOf
shown_row r = record { cube = masks_of r.cube; arc = span_of r.arc; one = span_of r.one; two = span_of r.two }
