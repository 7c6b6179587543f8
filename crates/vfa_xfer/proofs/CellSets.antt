-- The sets of cells, by what their numbers are.
use Rattle.std.proofs.Common.{◌≡◌, ℕ, Bool, true, false, not, sym, ◌∙◌, ap, subst, refl, Option, Some, None}
use Rattle.std.specs.Option.{is_some}
use Rattle.vfa_ir.specs.declared.operations.Pred.{Pred}
use Rattle.vfa_fact.specs.declared.numbers.Numbers.{Numbers}
use Rattle.vfa_fact.specs.Cells.{CellValue, IsCell, in_option, in_cell, decided_numbers, decided_cells}
use Rattle.vfa_fact.specs.Compare.{satisfies, decided, decide_of}
use Rattle.vfa_fact.specs.Fact.{in_numbers}
use Rattle.vfa_fact.proofs.Decisions.{Members}
use Rattle.vfa_fact.proofs.JoinedCells.{AreFacts}
use Rattle.vfa_xfer.specs.Comparisons.{answers_of}
use Rattle.vfa_xfer.specs.StrictLaws.{no_member}
use Rattle.vfa_xfer.proofs.OneSign.{one_answer, both_answers, no_answers}

-- the set of a cell of width w with these numbers
pub cell_set : (v : CellValue) (w : ℕ) (n : Numbers) → v.width ≡ w → v.numbers ≡ Some n → in_cell v ≡ in_numbers w n
unfolding in_option
cell_set v w n width some = ap (λ (o : Option Numbers). in_option v.width o) some ∙ ap (λ u. in_numbers u n) width

pub none_there : (o : Option Numbers) (none : Bool) → is_some o ≡ not none → none ≡ true → o ≡ None
none_there None none is e = refl
none_there (Some n) none is e = absurd (cc)

pub some_there : (o : Option Numbers) (none : Bool) → is_some o ≡ not none → none ≡ false → is_some o ≡ true
some_there None none is e = absurd (cc)
some_there (Some n) none is e = refl

-- cells with numbers decide as their sets do
record Decided (w : ℕ) (pred : Pred) (m n : Option Numbers) : Type 0 where
  pub members : Members w (in_option w m) (in_option w n)
  pub same : decided_numbers w pred m n ≡ decided w (satisfies w pred) (in_option w m) (in_option w n)

both_there : (w : ℕ) (pred : Pred) (m n : Option Numbers) → AreFacts w m → AreFacts w n → is_some m ≡ true → is_some n ≡ true → Decided w pred m n
unfolding in_option decide_of
both_there w pred (Some m) (Some n) one two is other =
    let a = one m refl in
    let b = two n refl in
    record {
      members = record {
        left = m.first;
        right = n.first;
        left_fits = a.arc.first_fits;
        right_fits = b.arc.first_fits;
        left_in = a.first_in;
        right_in = b.first_in;
      };
      same = refl;
    }
both_there w pred (Some m) None one two is other = absurd (cc)
both_there w pred None n one two is other = absurd (cc)

module _ (pred : Pred) (a b : CellValue) (o : Option Bool) (left : IsCell a) (right : IsCell b) (width : a.width ≡ b.width)
    (one : is_some a.numbers ≡ true) (two : is_some b.numbers ≡ true) (is : o ≡ decided_cells pred a b) where
  there : Decided a.width pred a.numbers b.numbers
  there = both_there a.width pred a.numbers b.numbers left.fact (subst (λ (w : ℕ). AreFacts w b.numbers) (sym width) right.fact) one two

  other : in_option a.width b.numbers ≡ in_cell b
  other = ap (λ w. in_option w b.numbers) width

  pub cells_answer : (p q : Bool) → o ≡ Some p → q ≡ not p → record { yes = p; no = q } ≡ answers_of pred false a.width (in_cell a) (in_cell b)
  cells_answer p q e f =
      one_answer a.width (satisfies a.width pred) (in_cell a) (in_option a.width b.numbers) there.members o p q (is ∙ there.same) e f
      ∙ ap (λ (S : ℕ → Bool). answers_of pred false a.width (in_cell a) S) other

  pub cells_both : o ≡ None → record { yes = true; no = true } ≡ answers_of pred false a.width (in_cell a) (in_cell b)
  cells_both e =
      both_answers a.width (satisfies a.width pred) (in_cell a) (in_option a.width b.numbers) there.members o (is ∙ there.same) e
      ∙ ap (λ (S : ℕ → Bool). answers_of pred false a.width (in_cell a) S) other

module _ (samesign : Bool) (pred : Pred) (w : ℕ) (a b : CellValue) where
  pub first_empty : a.numbers ≡ None → record { yes = false; no = false } ≡ answers_of pred samesign w (in_cell a) (in_cell b)
  first_empty none = no_answers samesign w (satisfies w pred) (in_cell a) (in_cell b) (λ x y m n. no_member a none x m)

  pub second_empty : b.numbers ≡ None → record { yes = false; no = false } ≡ answers_of pred samesign w (in_cell a) (in_cell b)
  second_empty none = no_answers samesign w (satisfies w pred) (in_cell a) (in_cell b) (λ x y m n. no_member b none y n)
