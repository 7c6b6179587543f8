-- What each transfer gives of cells is a cell, of the width of the result.
use Rattle.std.proofs.Common.{◌≡◌, ℕ, ◌-◌, ◌^◌, ◌<◌, Bool, true, false, not, ◌&&◌, ◌||◌, if◌then◌else◌, nat_eq, refl, sym, subst, arith, lit≤, Option, Some, None}
use Rattle.std.specs.Option.{is_some}
use Rattle.vfa_ir.specs.declared.operations.Cast.{Cast}
use Rattle.vfa_ir.specs.declared.operations.CastFlags.{CastFlags}
use Rattle.vfa_ir.specs.declared.operations.Fun1.{Fun1}
use Rattle.vfa_ir.specs.declared.operations.Fun2.{Fun2}
use Rattle.vfa_ir.specs.declared.operations.Over.{Over}
use Rattle.vfa_ir.specs.declared.operations.Pred.{Pred}
use Rattle.vfa_word.specs.Numbers.{IsWidth}
use Rattle.vfa_dom.specs.Sets.{single_of}
use Rattle.vfa_mean.specs.Rows.{bit_of, overflow_arith}
use Rattle.vfa_wrap.specs.Ends.{EndsOf}
use Rattle.vfa_wrap.specs.Rows.{row_by_ends}
use Rattle.vfa_wrap.specs.WholeSpans.{overflow_of, span_of_results}
use Rattle.vfa_fact.specs.declared.numbers.Numbers.{Numbers}
use Rattle.vfa_fact.specs.CellCuts.{cell_ends}
use Rattle.vfa_fact.specs.Cells.{CellValue, IsCell, in_cell, cell_of, poison_cell, only_number, all_numbers}
use Rattle.vfa_fact.specs.Fact.{IsFact}
use Rattle.vfa_fact.proofs.CellNumbers.{all_fact}
use Rattle.vfa_fact.proofs.JoinedCells.{AreFacts, joined_cell}
use Rattle.vfa_xfer.specs.AnyFacts.{AreCells}
use Rattle.vfa_xfer.specs.Binary.{ends_in_numbers, no_masks}
use Rattle.vfa_xfer.specs.BinaryCells.{cell_of_is, binary_cell_is}
use Rattle.vfa_xfer.specs.BinarySound.{only_is_fact}
use Rattle.vfa_xfer.specs.Bounds.{no_bounds, both_bounds}
use Rattle.vfa_xfer.specs.Casts.{cast_masks, cast_arc, first_bound, second_bound, cast_row, keeps_number, cast_by_row, cast_cell}
use Rattle.vfa_xfer.specs.CastSound.{cast_is_arc}
use Rattle.vfa_xfer.specs.declared.comparisons.Answers.{Answers}
use Rattle.vfa_xfer.specs.Comparisons.{answers_of, answered, signs_alike, compared_cell}
use Rattle.vfa_xfer.specs.Counts.{ones_arc, leading_arc, trailing_arc, distance_arc, distance_bounds, one_row, avoids_edge, one_by_row, one_cell}
use Rattle.vfa_xfer.specs.CountSound.{leading_is_arc, trailing_is_arc, distance_is_arc, ones_is_arc}
use Rattle.vfa_xfer.specs.Extremes.{ends_operation, two_masks, two_row, two_numbers_of, two_cell}
use Rattle.vfa_xfer.specs.Overflows.{decided_bit, range_of_overflow, overflow_numbers, overflow_by_numbers, overflow_operation, no_flags, overflow_parts}
use Rattle.vfa_xfer.specs.Rows.{row_numbers}
use Rattle.vfa_xfer.specs.RowSets.{row_of_fact}
use Rattle.vfa_xfer.specs.Arcs.{row_arc}
use Rattle.vfa_xfer.specs.Selects.{possible_arms, selected_cell, frozen_cell, part_cell, assumed_cell}

-- ---- numbers of facts

not_some : (n : Numbers) → ◌≡◌ {A = Option Numbers} None (Some n) → ⊥
not_some n e = cc

pub no_facts : (w : ℕ) → AreFacts w None
no_facts w n e = absurd (not_some n e)

pub some_facts : (w : ℕ) (n : Numbers) → IsFact w n → AreFacts w (Some n)
some_facts w n is k same = subst (IsFact w) (some_is n k same) is
  where
    some_is : (p q : Numbers) → Some p ≡ Some q → p ≡ q
    some_is p q e = cc

pub bit_width : IsWidth 1
bit_width = record { least = lit≤ tt; most = lit≤ tt }

bit_fits : (b : Bool) → bit_of b < 2 ^ 1
bit_fits true = omega arith
bit_fits false = omega arith

bit_facts : (b : Bool) → AreFacts 1 (Some (only_number 1 (bit_of b)))
bit_facts b = some_facts 1 (only_number 1 (bit_of b)) (only_is_fact 1 (bit_of b) (lit≤ tt) (bit_fits b))

all_facts : (w : ℕ) → AreFacts w (Some (all_numbers w))
all_facts w = some_facts w (all_numbers w) (all_fact w (2 ^ w - 1) refl)

-- ---- `select`, `freeze`, `extractvalue`, `assume`

either_cell : (w : ℕ) (t : Bool) (c d : CellValue) → IsCell c → IsCell d → IsCell (if t then c else d)
either_cell w true c d one two = one
either_cell w false c d one two = two

arms_facts : (o : Option ℕ) (a b : CellValue) → IsCell a → IsCell b → a.width ≡ b.width → AreFacts a.width (possible_arms o a b).numbers
arms_facts (Some s) a b left right width = by_test (nat_eq s 0)
  where
    by_test : (t : Bool) → AreFacts a.width (if t then b else a).numbers
    by_test true = subst (λ (w : ℕ). AreFacts w b.numbers) (sym width) right.fact
    by_test false = left.fact
arms_facts None a b left right width = (joined_cell a b left right width).fact

pub selected_is : (c a b : CellValue) → IsCell a → IsCell b → a.width ≡ b.width → IsCell (selected_cell c a b)
selected_is c a b left right width =
    let arms : CellValue = possible_arms (single_of c.width (in_cell c)) a b in
    either_cell a.width (is_some c.numbers) (cell_of a.width arms.numbers (c.never_poison && arms.never_poison)) (poison_cell a.width)
    (cell_of_is a.width arms.numbers (c.never_poison && arms.never_poison) left.width (arms_facts (single_of c.width (in_cell c)) a b left right width))
    (cell_of_is a.width None false left.width (no_facts a.width))

pub selected_width : (c a b : CellValue) → (selected_cell c a b).width ≡ a.width
selected_width c a b = by_test (is_some c.numbers)
  where
    arms : CellValue
    arms = possible_arms (single_of c.width (in_cell c)) a b

    by_test : (t : Bool) → (if t then cell_of a.width (possible_arms (single_of c.width (in_cell c)) a b).numbers (c.never_poison && (possible_arms (single_of c.width (in_cell c)) a b).never_poison) else poison_cell a.width).width ≡ a.width
    by_test true = refl
    by_test false = refl

pub frozen_is : (a : CellValue) → IsCell a → IsCell (frozen_cell a)
frozen_is a is = either_cell a.width a.never_poison a (cell_of a.width (Some (all_numbers a.width)) true) is (cell_of_is a.width (Some (all_numbers a.width)) true is.width (all_facts a.width))

pub frozen_width : (a : CellValue) → (frozen_cell a).width ≡ a.width
frozen_width a = by_test a.never_poison
  where
    by_test : (t : Bool) → (if t then a else cell_of a.width (Some (all_numbers a.width)) true).width ≡ a.width
    by_test true = refl
    by_test false = refl

pub part_is : (index : ℕ) (number overflow : CellValue) → IsCell number → IsCell overflow → IsCell (part_cell index number overflow)
part_is index number overflow one two = either_cell 1 (nat_eq index 0) number overflow one two

pub assumed_is : (c : CellValue) → IsCell (assumed_cell c)
assumed_is c = cell_of_is 1 (if in_cell c 1 then Some (only_number 1 1) else None) c.never_poison bit_width (by_test (in_cell c 1))
  where
    by_test : (t : Bool) → AreFacts 1 (if t then Some (only_number 1 1) else None)
    by_test true = bit_facts true
    by_test false = no_facts 1

-- ---- `icmp`

answered_facts : (y n : Bool) → AreFacts 1 (answered (record { yes = y; no = n }))
answered_facts true true = all_facts 1
answered_facts true false = bit_facts true
answered_facts false true = bit_facts false
answered_facts false false = no_facts 1

pub compared_is : (pred : Pred) (samesign : Bool) (a b : CellValue) → IsCell (compared_cell pred samesign a b)
compared_is pred samesign a b =
    let r : Answers = answers_of pred samesign a.width (in_cell a) (in_cell b) in
    cell_of_is 1 (answered r) (a.never_poison && b.never_poison && (not samesign || signs_alike (cell_ends a) (cell_ends b))) bit_width (answered_facts r.yes r.no)

-- ---- the intrinsics of two numbers

two_facts : (fun : Fun2) (w : ℕ) (m n : Option Numbers) → AreFacts w (two_numbers_of fun w m n)
unfolding two_row
two_facts fun w (Some m) (Some n) k same = row_of_fact w (two_masks fun m n) (row_by_ends (ends_operation fun) w (ends_in_numbers w m) (ends_in_numbers w n))
    (Some (no_bounds w)) k (row_arc (ends_operation fun) w (ends_in_numbers w m) (ends_in_numbers w n)) same
two_facts fun w (Some m) None k same = no_facts w k same
two_facts fun w None n k same = no_facts w k same

pub two_is : (fun : Fun2) (a b : CellValue) → IsCell a → IsCell (two_cell fun a b)
two_is fun a b left = cell_of_is a.width (two_numbers_of fun a.width a.numbers b.numbers) (a.never_poison && b.never_poison) left.width (two_facts fun a.width a.numbers b.numbers)

-- ---- the intrinsics of one number

one_facts : (fun : Fun1) (strict : Bool) (w : ℕ) (n : Numbers) → AreFacts w (row_numbers w (one_row fun strict w n))
unfolding one_row
one_facts Fun1.Abs strict w n k same = row_of_fact w no_masks (Some (distance_arc w (ends_in_numbers w n))) (distance_bounds strict w) k (distance_is_arc w (ends_in_numbers w n)) same
one_facts Fun1.Ctlz strict w n k same = row_of_fact w no_masks (leading_arc strict w n) (Some (no_bounds w)) k (leading_is_arc strict w n) same
one_facts Fun1.Cttz strict w n k same = row_of_fact w no_masks (trailing_arc strict w n) (Some (no_bounds w)) k (trailing_is_arc strict w n) same
one_facts Fun1.Ctpop strict w n k same = row_of_fact w no_masks (Some (ones_arc w n)) (Some (no_bounds w)) k (ones_is_arc w n) same

one_by_row_is : (fun : Fun1) (strict : Bool) (a : CellValue) (o : Option Numbers) → IsWidth a.width → IsCell (one_by_row fun strict a o)
one_by_row_is fun strict a (Some n) width =
    cell_of_is a.width (row_numbers a.width (one_row fun strict a.width n)) (a.never_poison && avoids_edge fun strict a.width n) width (one_facts fun strict a.width n)
one_by_row_is fun strict a None width = cell_of_is a.width None false width (no_facts a.width)

pub one_is : (fun : Fun1) (strict : Bool) (a : CellValue) → IsCell a → IsCell (one_cell fun strict a)
one_is fun strict a is = one_by_row_is fun strict a a.numbers is.width

pub one_width : (fun : Fun1) (strict : Bool) (a : CellValue) → (one_cell fun strict a).width ≡ a.width
one_width fun strict a = by_numbers a.numbers
  where
    by_numbers : (o : Option Numbers) → (one_by_row fun strict a o).width ≡ a.width
    by_numbers (Some n) = refl
    by_numbers None = refl

-- ---- conversions

cast_facts : (cast : Cast) (flags : CastFlags) (v w : ℕ) (n : Numbers) (e : EndsOf) → AreFacts w (row_numbers w (cast_row cast flags v w n e))
unfolding cast_row
cast_facts cast flags v w n e k same = row_of_fact w (cast_masks cast v w n) (Some (cast_arc cast v w n e))
    (both_bounds (first_bound cast flags v w e) (second_bound cast flags w e)) k (cast_is_arc cast v w n e) same

cast_by_row_is : (cast : Cast) (flags : CastFlags) (w : ℕ) (a : CellValue) (o : Option Numbers) → IsWidth w → IsCell (cast_by_row cast flags w a o)
cast_by_row_is cast flags w a (Some n) width =
    cell_of_is w (row_numbers w (cast_row cast flags a.width w n (ends_in_numbers a.width n))) (a.never_poison && keeps_number cast flags w (ends_in_numbers a.width n)) width
    (cast_facts cast flags a.width w n (ends_in_numbers a.width n))
cast_by_row_is cast flags w a None width = cell_of_is w None false width (no_facts w)

pub cast_is : (cast : Cast) (flags : CastFlags) (w : ℕ) (a : CellValue) → IsWidth w → IsCell (cast_cell cast flags w a)
cast_is cast flags w a width = cast_by_row_is cast flags w a a.numbers width

pub cast_width : (cast : Cast) (flags : CastFlags) (w : ℕ) (a : CellValue) → (cast_cell cast flags w a).width ≡ w
cast_width cast flags w a = by_numbers a.numbers
  where
    by_numbers : (o : Option Numbers) → (cast_by_row cast flags w a o).width ≡ w
    by_numbers (Some n) = refl
    by_numbers None = refl

-- ---- the intrinsics with overflow

decided_facts : (o : Option Bool) → AreFacts 1 (Some (decided_bit o))
decided_facts (Some b) = bit_facts b
decided_facts None = all_facts 1

overflow_facts : (over : Over) (w : ℕ) (m n : Numbers) → AreFacts 1 (Some (overflow_numbers over w m n))
unfolding overflow_numbers
overflow_facts over w m n = decided_facts (overflow_of (range_of_overflow over) w
    (span_of_results (overflow_arith over) (range_of_overflow over) (ends_in_numbers w m) (ends_in_numbers w n)))

overflow_is : (over : Over) (a b : CellValue) (m n : Option Numbers) → IsCell (overflow_by_numbers over a b m n) × ((overflow_by_numbers over a b m n).width ≡ 1)
overflow_is over a b (Some m) (Some n) = (cell_of_is 1 (Some (overflow_numbers over a.width m n)) (a.never_poison && b.never_poison) bit_width (overflow_facts over a.width m n), refl)
overflow_is over a b (Some m) None = (cell_of_is 1 None false bit_width (no_facts 1), refl)
overflow_is over a b None n = (cell_of_is 1 None false bit_width (no_facts 1), refl)

pub overflow_parts_are : (over : Over) (a b : CellValue) → IsCell a → a.width ≡ b.width → AreCells (overflow_parts over a b)
overflow_parts_are over a b left width =
    let bit = overflow_is over a b a.numbers b.numbers in
    (binary_cell_is (overflow_operation over) no_flags a b left width, bit.0, bit.1)
