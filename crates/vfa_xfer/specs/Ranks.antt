-- Ranks, this project's own: a number that becomes less with each late widening that changes a cell.
use Rattle.std.specs.Prelude.{ℕ, ◌+◌, ◌*◌, ◌^◌, Bool, not, Option, Some, None, bit_or, count_ones}
use Rattle.vfa_dom.specs.Best.{Masks}
use Rattle.vfa_dom.specs.Search.{flag, least_below, greatest_below}
use Rattle.vfa_known.specs.Cube.{in_masks}
use Rattle.vfa_wrap.specs.Arc.{Span}
use Rattle.vfa_fact.specs.declared.numbers.Numbers.{Numbers}
use Rattle.vfa_fact.specs.Cells.{CellValue}
use Rattle.vfa_fact.specs.Fact.{masks_in, span_in}
use Rattle.vfa_xfer.specs.Widening.{low_masks, is_same_span}

-- how many bits are known
unfoldable pub known_count : Masks → ℕ
known_count m = count_ones (bit_or m.zeros m.ones)

-- the arc from the least to the greatest number that agrees with the lowest known bits
unfoldable pub low_span : ℕ → Masks → Span
low_span w m = record { first = least_below (2 ^ w) (in_masks w (low_masks w m)); last = greatest_below (2 ^ w) (in_masks w (low_masks w m)) }

-- the rank of numbers: two for each known bit, and one where the arc is not that of the lowest known bits. At width 8, of
-- 0000???0 from 2 to 12 it is 11, and of ???????0 from 0 to 254 it is 2
unfoldable pub fact_rank : ℕ → Numbers → ℕ
fact_rank w n = 2 * known_count (masks_in n) + flag (not (is_same_span (span_in n) (low_span w (masks_in n))))

-- the rank of a cell: that of its numbers, and one where it is never poison; without numbers more than any with numbers
unfoldable pub rank_of : ℕ → Option Numbers → Bool → ℕ
rank_of w None mark = 2 * w + 3
rank_of w (Some n) mark = fact_rank w n + flag mark

abbrev pub cell_rank : CellValue → ℕ
cell_rank c = rank_of c.width c.numbers c.never_poison
