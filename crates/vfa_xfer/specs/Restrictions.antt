-- What is left of a cell where its value is wanted to be in a set of numbers; the value is then never poison.
use Rattle.std.specs.Prelude.{ℕ, ◌+◌, ◌%◌, ◌^◌, Bool, nat_eq, Option, Some, None, bit_and}
use Rattle.std.specs.Option.{option_map}
use Rattle.vfa_dom.specs.Sets.{meet}
use Rattle.vfa_wrap.specs.Arc.{Span, in_span}
use Rattle.vfa_fact.specs.declared.numbers.Numbers.{Numbers}
use Rattle.vfa_fact.specs.Cells.{CellValue, marked}
use Rattle.vfa_fact.specs.Fact.{span_in, in_numbers}
use Rattle.vfa_fact.specs.Sharp.{sharp_in}

-- the fact of the numbers of a that are wanted, in a's arc; there is none where no number is left
unfoldable pub kept_of : ℕ → Numbers → (ℕ → Bool) → Option Numbers
kept_of w a wanted = sharp_in w (span_in a) (meet (in_numbers w a) wanted)

-- the same of numbers, where there are some
abbrev pub kept_numbers : ℕ → (ℕ → Bool) → Option Numbers → Option Numbers
kept_numbers w wanted None = None
kept_numbers w wanted (Some a) = kept_of w a wanted

-- the cell of the wanted numbers of a cell, never poison
abbrev pub kept_cell : (ℕ → Bool) → CellValue → Option CellValue
kept_cell wanted a = option_map (marked a.width) (kept_numbers a.width wanted a.numbers)

-- the numbers that agree with a value on the bits of a mask
unfoldable pub agrees_under : ℕ → ℕ → ℕ → Bool
agrees_under mask value x = nat_eq (bit_and x mask) (bit_and value mask)

-- the numbers whose sum with c, modulo 2 ^ w, lies in an arc
unfoldable pub lands_in : ℕ → ℕ → Span → ℕ → Bool
lands_in w c arc x = in_span w arc ((x + c) % 2 ^ w)

-- the cell of a number that agrees with the value on the mask. At width 8, 0 to 20 with 1 under the mask 3 is 1 to 17,
-- with the bits 000???01
abbrev pub cell_with_bits : ℕ → ℕ → CellValue → Option CellValue
cell_with_bits mask value = kept_cell (agrees_under mask value)

-- what is left of numbers where their sum with c is a number of these; nothing is, where these are none
abbrev pub moved_numbers : ℕ → ℕ → Option Numbers → Option Numbers → Option Numbers
moved_numbers w c None a = None
moved_numbers w c (Some sums) a = kept_numbers w (lands_in w c (span_in sums)) a

-- the cell of a number whose sum with c lies in the arc of another cell. At width 8, the numbers from 200 up to 100 whose sum
-- with 10 lies in 5 to 20 are 251 to 10
abbrev pub cell_moved : ℕ → CellValue → CellValue → Option CellValue
cell_moved c sums a = option_map (marked a.width) (moved_numbers a.width c sums.numbers a.numbers)
