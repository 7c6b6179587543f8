-- The join of two facts.
use Rattle.std.specs.Prelude.{ℕ, bit_and, Option}
use Rattle.vfa_dom.specs.Best.{Masks}
use Rattle.vfa_known.specs.Cube.{in_masks}
use Rattle.vfa_wrap.specs.Arc.{Span, in_span, hull_of}
use Rattle.vfa_fact.specs.declared.numbers.Numbers.{Numbers}
use Rattle.vfa_fact.specs.Fact.{span_in}
use Rattle.vfa_fact.specs.Sharp.{sharp_in}

-- the bits known alike in both
abbrev pub alike : Numbers → Numbers → Masks
alike a b = record { zeros = bit_and a.zeros b.zeros; ones = bit_and a.ones b.ones }

-- the hull of the two arcs
abbrev pub hull_in : ℕ → Numbers → Numbers → Span
hull_in w a b = hull_of w (in_span w (span_in a)) (in_span w (span_in b))

-- the fact of the numbers that agree with the bits known alike and lie in the hull of the arcs
unfoldable pub join_of : ℕ → Numbers → Numbers → Option Numbers
join_of w a b = sharp_in w (hull_in w a b) (in_masks w (alike a b))
