-- What the calls of the domain of facts answer, but for the transfer. A pair is joined, widened and compared part by part.
use Rattle.std.specs.Prelude.{ℕ, ◌+◌, Bool, true, false, not, ◌&&◌, ◌||◌, List, [], ◌∷◌, Option, Some, None}
use Rattle.std.specs.Option.{option_map}
use Rattle.vfa_dom.specs.Sets.{includes}
use Rattle.vfa_ir.specs.declared.operations.Op.{Op}
use Rattle.vfa_ir.specs.declared.operations.Pred.{Pred}
use Rattle.vfa_ir.specs.declared.operations.Ty.{Ty}
use Rattle.vfa_fact.specs.declared.cell.Parts.{Parts}
use Rattle.vfa_fact.specs.Cells.{CellValue, in_cell, cell_of, poison_cell, only_number, all_numbers, joined_cells, compared_cells}
use Rattle.vfa_values.specs.Answers.{Answers}
use Rattle.vfa_xfer.specs.declared.any_fact.AnyFact.{AnyFact}
use Rattle.vfa_xfer.specs.Constants.{single_in}
use Rattle.vfa_xfer.specs.Ranks.{cell_rank}
use Rattle.vfa_xfer.specs.Restrictions.{cell_with_bits, cell_moved}
use Rattle.vfa_xfer.specs.Widening.{widened_cells}

-- the fact of a number, and that of a pair
abbrev pub one_fact : CellValue → AnyFact
one_fact c = record { parts = Parts.One c }

abbrev pub two_facts : CellValue → CellValue → AnyFact
two_facts c d = record { parts = Parts.Two c d }

-- the number alone, never poison
abbrev pub literal_fact : ℕ → ℕ → AnyFact
literal_fact w x = one_fact (cell_of w (Some (only_number w x)) true)

-- any number of width w
abbrev pub any_cell : ℕ → Bool → CellValue
any_cell w never_poison = cell_of w (Some (all_numbers w)) never_poison

-- any value of the type
abbrev pub any_of : Ty → Bool → AnyFact
any_of (Ty.Int w) never_poison = one_fact (any_cell w never_poison)
any_of (Ty.Pair w) never_poison = two_facts (any_cell w never_poison) (any_cell 1 never_poison)

-- only poison; a poison pair has two poison parts
abbrev pub poison_of : Ty → AnyFact
poison_of (Ty.Int w) = one_fact (poison_cell w)
poison_of (Ty.Pair w) = two_facts (poison_cell w) (poison_cell 1)

-- Below, facts of two types leave the first.

abbrev pub joined_parts : Parts → Parts → Parts
joined_parts (Parts.One a) (Parts.One b) = Parts.One (joined_cells a b)
joined_parts (Parts.One a) (Parts.Two b d) = Parts.One a
joined_parts (Parts.Two a c) (Parts.One b) = Parts.Two a c
joined_parts (Parts.Two a c) (Parts.Two b d) = Parts.Two (joined_cells a b) (joined_cells c d)

abbrev pub joined_facts : AnyFact → AnyFact → AnyFact
joined_facts a b = record { parts = joined_parts a.parts b.parts }

-- the landmarks of width 1
abbrev pub bit_landmarks : List ℕ
bit_landmarks = 0 ∷ 1 ∷ []

-- the second part of a pair is widened by the landmarks of its own width
abbrev pub widened_parts : ℕ → List ℕ → Parts → Parts → Parts
widened_parts round marks (Parts.One a) (Parts.One b) = Parts.One (widened_cells round marks a b)
widened_parts round marks (Parts.One a) (Parts.Two b d) = Parts.One a
widened_parts round marks (Parts.Two a c) (Parts.One b) = Parts.Two a c
widened_parts round marks (Parts.Two a c) (Parts.Two b d) = Parts.Two (widened_cells round marks a b) (widened_cells round bit_landmarks c d)

abbrev pub widened_facts : AnyFact → AnyFact → ℕ → List ℕ → AnyFact
widened_facts old new round marks = record { parts = widened_parts round marks old.parts new.parts }

-- whether each number of b is one of a, and b is never poison where a is
abbrev pub includes_cell : CellValue → CellValue → Bool
includes_cell a b = includes a.width (in_cell a) (in_cell b) && (not a.never_poison || b.never_poison)

-- the same part by part; facts of two types are not included
abbrev pub includes_parts : Parts → Parts → Bool
includes_parts (Parts.One a) (Parts.One b) = includes_cell a b
includes_parts (Parts.One a) (Parts.Two b d) = false
includes_parts (Parts.Two a c) (Parts.One b) = false
includes_parts (Parts.Two a c) (Parts.Two b d) = includes_cell a b && includes_cell c d

abbrev pub includes_fact : AnyFact → AnyFact → Bool
includes_fact a b = includes_parts a.parts b.parts

-- what is left of the fact of a number; nothing is of a pair
abbrev pub compared_parts : Pred → Parts → Parts → Option AnyFact
compared_parts pred (Parts.One a) (Parts.One b) = option_map one_fact (compared_cells pred a b)
compared_parts pred (Parts.One a) (Parts.Two b d) = None
compared_parts pred (Parts.Two a c) b = None

abbrev pub compared_facts : AnyFact → Pred → AnyFact → Option AnyFact
compared_facts a pred b = compared_parts pred a.parts b.parts

abbrev pub parts_with_bits : ℕ → ℕ → Parts → Option AnyFact
parts_with_bits mask value (Parts.One a) = option_map one_fact (cell_with_bits mask value a)
parts_with_bits mask value (Parts.Two a c) = None

abbrev pub fact_with_bits : AnyFact → ℕ → ℕ → Option AnyFact
fact_with_bits a mask value = parts_with_bits mask value a.parts

abbrev pub moved_parts : ℕ → Parts → Parts → Option AnyFact
moved_parts c (Parts.One sums) (Parts.One a) = option_map one_fact (cell_moved c sums a)
moved_parts c (Parts.One sums) (Parts.Two a d) = None
moved_parts c (Parts.Two sums d) a = None

abbrev pub moved_fact : AnyFact → AnyFact → ℕ → Option AnyFact
moved_fact a sums c = moved_parts c sums.parts a.parts

-- the only number, where there is just one
abbrev pub single_of_parts : Parts → Option ℕ
single_of_parts (Parts.One c) = single_in c
single_of_parts (Parts.Two c d) = None

abbrev pub single_of_fact : AnyFact → Option ℕ
single_of_fact f = single_of_parts f.parts

-- the rank of a pair is the sum of those of its parts
abbrev pub rank_of_parts : Parts → ℕ
rank_of_parts (Parts.One c) = cell_rank c
rank_of_parts (Parts.Two c d) = cell_rank c + cell_rank d

abbrev pub rank_of_fact : AnyFact → ℕ
rank_of_fact f = rank_of_parts f.parts

-- all answers, with those of a transfer
abbrev pub answers_with : (Op → AnyFact → AnyFact → AnyFact → AnyFact) → Answers AnyFact
answers_with transfer = record {
  literal = literal_fact;
  any = any_of;
  poison = poison_of;
  transfer = transfer;
  join = joined_facts;
  includes = includes_fact;
  widen = widened_facts;
  compare = compared_facts;
  with_bits = fact_with_bits;
  moved_from = moved_fact;
  single = single_of_fact;
  rank = rank_of_fact;
}
