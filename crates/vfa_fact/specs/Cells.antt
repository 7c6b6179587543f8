-- Facts whose width is a number of the program, with a mark that says whether the value is ever poison (LLVM Language
-- Reference, "Poison Values").
use Rattle.std.specs.Prelude.{◌≡◌, ℕ, ◌-◌, ◌^◌, Bool, true, false, ◌&&◌, Option, Some, None}
use Rattle.std.specs.Option.{option_map, is_some}
use Rattle.vfa_ir.specs.declared.operations.Pred.{Pred}
use Rattle.vfa_word.specs.Numbers.{IsWidth}
use Rattle.vfa_fact.specs.declared.numbers.Numbers.{Numbers}
use Rattle.vfa_fact.specs.Compare.{decide_of, restrict_of}
use Rattle.vfa_fact.specs.Fact.{IsFact, in_numbers}
use Rattle.vfa_fact.specs.Join.{join_of}

-- the plain numbers of a cell; without numbers the value is only poison
pub record CellValue : Type 0 where
  pub width : ℕ
  pub numbers : Option Numbers
  pub never_poison : Bool

-- the numbers of a cell are those of a fact at its width, and one without numbers is not marked
pub record IsCell (c : CellValue) : Type 0 where
  pub width : IsWidth c.width
  pub fact : (n : Numbers) → c.numbers ≡ Some n → IsFact c.width n
  pub unmarked : c.numbers ≡ None → c.never_poison ≡ false

-- x is one of these numbers
unfoldable pub in_option : ℕ → Option Numbers → ℕ → Bool
in_option w None x = false
in_option w (Some n) x = in_numbers w n x

-- x is a number of the cell
abbrev pub in_cell : CellValue → ℕ → Bool
in_cell c = in_option c.width c.numbers

-- the numbers of both: the join of two facts, and where one has no numbers those of the other
abbrev pub joined_numbers : ℕ → Option Numbers → Option Numbers → Option Numbers
joined_numbers w None n = n
joined_numbers w (Some m) None = Some m
joined_numbers w (Some m) (Some n) = join_of w m n

-- the join of two cells of one width, for a value of the one or of the other: it is never poison where both are
abbrev pub joined_cells : CellValue → CellValue → CellValue
joined_cells a b = record {
  width = a.width;
  numbers = joined_numbers a.width a.numbers b.numbers;
  never_poison = a.never_poison && b.never_poison;
}

-- the one answer of the comparison over all pairs of numbers; there is none where a cell has no numbers
abbrev pub decided_numbers : ℕ → Pred → Option Numbers → Option Numbers → Option Bool
decided_numbers w pred None n = None
decided_numbers w pred (Some m) None = None
decided_numbers w pred (Some m) (Some n) = decide_of w pred (in_numbers w m) (in_numbers w n)

abbrev pub decided_cells : Pred → CellValue → CellValue → Option Bool
decided_cells pred a b = decided_numbers a.width pred a.numbers b.numbers

-- the numbers of the first that satisfy the comparison with some number of the second
abbrev pub compared_numbers : ℕ → Pred → Option Numbers → Option Numbers → Option Numbers
compared_numbers w pred None n = None
compared_numbers w pred (Some m) None = None
compared_numbers w pred (Some m) (Some n) = restrict_of w pred m (in_numbers w n)

-- a cell with numbers that is never poison
abbrev pub marked : ℕ → Numbers → CellValue
marked w n = record { width = w; numbers = Some n; never_poison = true }

-- what is left of the first cell where the comparison with the second is true: the value is then never poison
abbrev pub compared_cells : Pred → CellValue → CellValue → Option CellValue
compared_cells pred a b = option_map (marked a.width) (compared_numbers a.width pred a.numbers b.numbers)

-- ---- cells of few or of all numbers

-- only poison
abbrev pub poison_cell : ℕ → CellValue
poison_cell w = record { width = w; numbers = None; never_poison = false }

-- the numbers of the fact of x alone
abbrev pub only_number : ℕ → ℕ → Numbers
only_number w x = record { zeros = 2 ^ w - 1 - x; ones = x; first = x; last = x }

-- the numbers of the fact of all numbers of width w
abbrev pub all_numbers : ℕ → Numbers
all_numbers w = record { zeros = 0; ones = 0; first = 0; last = 2 ^ w - 1 }

-- the cell with these numbers and this mark, where there are numbers
abbrev pub cell_of : ℕ → Option Numbers → Bool → CellValue
cell_of w numbers mark = record { width = w; numbers = numbers; never_poison = is_some numbers && mark }
