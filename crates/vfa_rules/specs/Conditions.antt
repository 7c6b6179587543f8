-- What the rules ask of the numbers that operands may be, after LLVM's ConstantRange (getUnsignedMax and its kind,
-- isAllNonNegative, addWithNoWrap), KnownBits (haveNoCommonBitsSet) and Correlated Value Propagation.
use Rattle.std.specs.Prelude.{ℕ, Bool, false, not, ◌&&◌, ◌||◌, nat_eq, nat_lt, nat_le, ◌^◌, pos, int_le, int_lt, Option, Some, None}
use Rattle.std.specs.Option.{option_map, option_and_then}
use Rattle.vfa_word.specs.Numbers.{fits_signed}
use Rattle.vfa_word.specs.declared.arith.Arith.{Arith}
use Rattle.vfa_dom.specs.Search.{all_below}
use Rattle.vfa_dom.specs.Sets.{single_of}
use Rattle.vfa_dom.specs.Best.{some_digit}
use Rattle.vfa_wrap.specs.Ends.{EndsOf, ends_of}
use Rattle.vfa_wrap.specs.WholeSpans.{span_of_results, lies_in_range}
use Rattle.vfa_wrap.specs.declared.reading.Reading.{Reading}
use Rattle.vfa_fact.specs.declared.numbers.Numbers.{Numbers}
use Rattle.vfa_fact.specs.CellCuts.{cell_ends}
use Rattle.vfa_fact.specs.Cells.{CellValue, in_cell}
use Rattle.vfa_fact.specs.Cuts.{amounts_of}
use Rattle.vfa_fact.specs.Fact.{in_numbers}

-- A condition on numbers fails where an operand that it speaks of has none.
abbrev pub where_some : {A : Type 0} → (A → Bool) → Option A → Bool
where_some test None = false
where_some test (Some x) = test x

abbrev pub where_both : {A B : Type 0} → (A → B → Bool) → Option A → Option B → Bool
where_both test (Some x) (Some y) = test x y
where_both test (Some x) None = false
where_both test None y = false

-- ---- one number

-- x is the only number of the cell
abbrev pub is_only : CellValue → ℕ → Bool
is_only c x = where_some (λ n. nat_eq n x) (single_of c.width (in_cell c))

-- ---- the least and greatest numbers, and the least and greatest signed readings

-- the ends of the cell's numbers pass
abbrev pub ends_pass : (EndsOf → Bool) → CellValue → Bool
ends_pass test c = where_some test (cell_ends c)

abbrev pub both_ends_pass : (EndsOf → EndsOf → Bool) → CellValue → CellValue → Bool
both_ends_pass test a b = where_both test (cell_ends a) (cell_ends b)

-- each number of a is less than, or at most, each number of b
abbrev pub all_less : CellValue → CellValue → Bool
all_less a b = both_ends_pass (λ x y. nat_lt x.hi y.lo) a b

abbrev pub all_at_most : CellValue → CellValue → Bool
all_at_most a b = both_ends_pass (λ x y. nat_le x.hi y.lo) a b

-- the same of the signed readings
abbrev pub all_at_most_signed : CellValue → CellValue → Bool
all_at_most_signed a b = both_ends_pass (λ x y. int_le x.shi y.slo) a b

-- no signed reading is negative; each one is
abbrev pub is_natural : CellValue → Bool
is_natural c = ends_pass (λ e. int_le (pos 0) e.slo) c

abbrev pub is_negative : CellValue → Bool
is_negative c = ends_pass (λ e. int_lt e.shi (pos 0)) c

-- no number of either is negative, or each number of both is
abbrev pub have_one_sign : CellValue → CellValue → Bool
have_one_sign a b = (is_natural a && is_natural b) || (is_negative a && is_negative b)

-- each number is below 2 ^ v; each signed reading is in the signed range of width v
abbrev pub fits_width : ℕ → CellValue → Bool
fits_width v c = ends_pass (λ e. nat_lt e.hi (2 ^ v)) c

abbrev pub fits_width_signed : ℕ → CellValue → Bool
fits_width_signed v c = ends_pass (λ e. fits_signed v e.slo && fits_signed v e.shi) c

-- ---- bits

-- wherever some number of A has a one, each number of B has a one. At width 4, of 1 and 4 in A and 5 and 7 in B it is so
unfoldable pub ones_are_covered : ℕ → (ℕ → Bool) → (ℕ → Bool) → Bool
ones_are_covered w A B = all_below w (λ i. not (some_digit w A 1 i) || not (some_digit w B 0 i))

-- nowhere some number of A has a one and some number of B too
unfoldable pub ones_are_apart : ℕ → (ℕ → Bool) → (ℕ → Bool) → Bool
ones_are_apart w A B = all_below w (λ i. not (some_digit w A 1 i) || not (some_digit w B 1 i))

-- the same of the numbers of two cells
abbrev pub numbers_pass : (ℕ → (ℕ → Bool) → (ℕ → Bool) → Bool) → CellValue → CellValue → Bool
numbers_pass test a b =
    where_both (λ (m n : Numbers). test a.width (in_numbers a.width m) (in_numbers a.width n)) a.numbers b.numbers

-- ---- spans of whole results

-- the ends of a second operand that is one of a set: for a shift those of the amounts below the width, of which there may be
-- none (LLVM Language Reference, "shl")
abbrev pub second_of : Arith → ℕ → (ℕ → Bool) → Option EndsOf
second_of Arith.Shl w S = option_map (λ t. t.ends) (amounts_of w S)
second_of _ w S = Some (ends_of w S)

abbrev pub second_ends : Arith → CellValue → Option EndsOf
second_ends op b = option_and_then (λ n. second_of op b.width (in_numbers b.width n)) b.numbers

-- The whole results, from the least to the greatest, lie in the range of the width in this reading: the operation does not
-- overflow. At width 8 the sums of 200 to 210 and 10 to 45 do in the unsigned one, and those of 10 to 46 do not.
unfoldable pub stays_in_range : Arith → Reading → CellValue → CellValue → Bool
stays_in_range op reading a b =
    where_both (λ x y. lies_in_range reading a.width (span_of_results op reading x y)) (cell_ends a) (second_ends op b)
