-- What contracts see of the values of the program.
use Rattle.std.specs.Prelude.{ℕ, Bool}
use Rattle.std.specs.Option.{option_map}
use Rattle.vfa_wrap.specs.Arc.{Span, in_span}
use Rattle.vfa_wrap.specs.Pieces.{TwoSpans}
use Rattle.vfa_wrap.specs.declared.arc.Wrapped.{Wrapped}
use Rattle.vfa_wrap.specs.declared.pieces.Pieces.{Pieces}

-- the ends of an arc
abbrev pub span_of : {W : ℕ} → Wrapped W → Span
span_of a = record { first = a.first; last = a.last }

-- x is a number of the arc
abbrev pub in_arc : (W : ℕ) → Wrapped W → ℕ → Bool
in_arc W a = in_span W (span_of a)

-- the ends of the arcs that a value of the program shows
abbrev pub shown_pieces : {W : ℕ} → Pieces W → TwoSpans
shown_pieces p = record { one = option_map span_of p.one; two = option_map span_of p.two }
