-- Widening, this project's own: rounds of a loop end, since an arc that still grows goes on to the nearest landmarks, and
-- later to all numbers that agree with the lowest known bits.
use Rattle.std.specs.Prelude.{ℕ, ◌%◌, ◌^◌, Bool, ◌&&◌, ◌||◌, nat_eq, nat_lt, Option, Some, None, List, if◌then◌else◌}
use Rattle.vfa_dom.specs.Best.{Masks}
use Rattle.vfa_known.specs.Cube.{in_masks}
use Rattle.vfa_known.specs.Product.{run_of, is_known}
use Rattle.vfa_wrap.specs.Arc.{Span, full_span}
use Rattle.vfa_wrap.specs.Rounding.{rounded_out}
use Rattle.vfa_fact.specs.declared.numbers.Numbers.{Numbers}
use Rattle.vfa_fact.specs.Cells.{CellValue, joined_numbers}
use Rattle.vfa_fact.specs.Fact.{masks_in, span_in}
use Rattle.vfa_fact.specs.Sharp.{sharp_in}
use Rattle.vfa_values.specs.Laws.{first_falling_round}

-- the first round in which an arc goes on to landmarks; before it a widening is a join
abbrev pub first_landmark_round : ℕ
first_landmark_round = 4

-- the unbroken run of known bits from bit 0 on. At width 8, of 1?0?0110 it is ????0110
unfoldable pub low_masks : ℕ → Masks → Masks
low_masks w m = record { zeros = m.zeros % 2 ^ run_of w (is_known m); ones = m.ones % 2 ^ run_of w (is_known m) }

-- whether two arcs are the same
unfoldable pub is_same_span : Span → Span → Bool
is_same_span s t = nat_eq s.first t.first && nat_eq s.last t.last

-- the arc to which one goes on that has become other than the old one
unfoldable pub reached_span : ℕ → ℕ → List ℕ → Span → Span → Span
reached_span w round marks old arc = if nat_lt round first_falling_round then rounded_out w arc old marks else full_span w

-- the fact of the numbers of an arc that agree with the lowest known bits
unfoldable pub low_in : ℕ → Span → Masks → Option Numbers
low_in w arc m = sharp_in w arc (in_masks w (low_masks w m))

-- a fact widened to the join of it and a new one
unfoldable pub widened_fact : ℕ → ℕ → List ℕ → Numbers → Numbers → Option Numbers
widened_fact w round marks old joined =
    if nat_lt round first_landmark_round || is_same_span (span_in joined) (span_in old) then Some joined
    else low_in w (reached_span w round marks (span_in old) (span_in joined)) (masks_in joined)

-- the numbers of a cell widened to their join with new ones; where there were none, they are the join
unfoldable pub widened_numbers : ℕ → ℕ → List ℕ → Option Numbers → Option Numbers → Option Numbers
widened_numbers w round marks None joined = joined
widened_numbers w round marks (Some old) None = None
widened_numbers w round marks (Some old) (Some joined) = widened_fact w round marks old joined

-- the widening of a cell by a new one of its width: it is never poison where both are
abbrev pub widened_cells : ℕ → List ℕ → CellValue → CellValue → CellValue
widened_cells round marks old new = record {
  width = old.width;
  numbers = widened_numbers old.width round marks old.numbers (joined_numbers old.width old.numbers new.numbers);
  never_poison = old.never_poison && new.never_poison;
}
