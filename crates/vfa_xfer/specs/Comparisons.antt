-- Facts of `icmp` (LLVM Language Reference, "icmp"), after LLVM's ConstantRange::icmp and KnownBits::eq and its kind: which
-- answers a comparison has over pairs of numbers of two sets.
use Rattle.std.specs.Prelude.{ℕ, ◌^◌, Bool, false, not, ◌&&◌, ◌||◌, pos, int_le, int_lt, Option, Some, None, if◌then◌else◌}
use Rattle.vfa_dom.specs.Search.{some_below}
use Rattle.vfa_ir.specs.declared.operations.Pred.{Pred}
use Rattle.vfa_wrap.specs.Ends.{EndsOf}
use Rattle.vfa_fact.specs.declared.numbers.Numbers.{Numbers}
use Rattle.vfa_fact.specs.CellCuts.{cell_ends}
use Rattle.vfa_fact.specs.Cells.{CellValue, in_cell, cell_of, only_number, all_numbers}
use Rattle.vfa_fact.specs.Compare.{satisfies}
use Rattle.vfa_mean.specs.Rows.{differ_in_sign}
use Rattle.vfa_xfer.specs.declared.comparisons.Answers.{Answers}

-- whether a pair counts: with `samesign` only a pair of one sign does, since any other gives poison
abbrev pub counts : Bool → ℕ → ℕ → ℕ → Bool
counts samesign w x y = not (samesign && differ_in_sign w x y)

-- whether some pair of a number of A and one of B passes
unfoldable pub some_pair : ℕ → (ℕ → ℕ → Bool) → (ℕ → Bool) → (ℕ → Bool) → Bool
some_pair w test A B = some_below (2 ^ w) (λ x. A x && some_below (2 ^ w) (λ y. B y && test x y))

-- whether some pair that counts passes, and whether some pair that counts does not
unfoldable pub answers_by : Bool → ℕ → (ℕ → ℕ → Bool) → (ℕ → Bool) → (ℕ → Bool) → Answers
answers_by samesign w test A B = record {
  yes = some_pair w (λ x y. counts samesign w x y && test x y) A B;
  no = some_pair w (λ x y. counts samesign w x y && not (test x y)) A B;
}

-- the same of a comparison
abbrev pub answers_of : Pred → Bool → ℕ → (ℕ → Bool) → (ℕ → Bool) → Answers
answers_of pred samesign w A B = answers_by samesign w (satisfies w pred) A B

-- the numbers of width 1 that are answers: 1 where there is a yes, and 0 where there is a no
abbrev pub answered : Answers → Option Numbers
answered r =
    if r.yes
    then (if r.no then Some (all_numbers 1) else Some (only_number 1 1))
    else (if r.no then Some (only_number 1 0) else None)

-- whether no number of either is negative, or each number of both is; not so where one has none
abbrev pub signs_alike : Option EndsOf → Option EndsOf → Bool
signs_alike None b = false
signs_alike (Some a) None = false
signs_alike (Some a) (Some b) =
    int_le (pos 0) a.slo && int_le (pos 0) b.slo || int_lt a.shi (pos 0) && int_lt b.shi (pos 0)

-- `icmp` of two cells of one width. At width 8, `ult` of 0 to 4 and 5 to 9 is 1; with `samesign` so is `ult` of -4 to 4 and
-- 5 to 9, where only 0 to 4 count, but it may be poison
abbrev pub compared_cell : Pred → Bool → CellValue → CellValue → CellValue
compared_cell pred samesign a b =
    cell_of 1 (answered (answers_of pred samesign a.width (in_cell a) (in_cell b)))
    (a.never_poison && b.never_poison && (not samesign || signs_alike (cell_ends a) (cell_ends b)))
