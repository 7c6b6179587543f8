-- Masks of known bits tell where the numbers of facts may have a one.
use Rattle.std.proofs.Common.{◌≡◌, ℕ, ◌+◌, ◌-◌, ◌^◌, ◌<◌, ◌≤◌, Bool, true, false, not, ◌||◌, max, refl, sym, ◌∙◌, ap, subst, arith, inl, inr, Option, Some, None, bit_or}
use Rattle.std.specs.Prelude.{nat_eq}
use Rattle.std.specs.Int.{bit_at}
use Rattle.std.proofs.lemmas.Bool.{cases_Bool, cases_lt, eqb-true, eq-eqb, ne_eqb, not-true, true≢false}
use Rattle.std.proofs.lemmas.Nat.Bits.{bit_at_or, bit_at_ones, bit_at_above, same_from_bits}
use Rattle.std.proofs.lemmas.Nat.{pow_pos}
use Rattle.vfa_dom.specs.Search.{all_below, bits_below, flag}
use Rattle.vfa_dom.specs.Best.{Masks, some_digit, zeros_of, ones_of, best_of}
use Rattle.vfa_dom.proofs.Searches.{all_pass, found_failing, bits_below-lt, bit_at-bits_below}
use Rattle.vfa_fact.specs.declared.numbers.Numbers.{Numbers}
use Rattle.vfa_fact.specs.Cells.{CellValue, IsCell}
use Rattle.vfa_fact.specs.Fact.{IsFact, masks_in, in_numbers}
use Rattle.vfa_rules.specs.Conditions.{where_both, numbers_pass, ones_are_covered, ones_are_apart}

either_flag : (a b : Bool) → (a || b) ≡ true → max (flag a) (flag b) ≡ 1
unfolding flag
either_flag true true e = refl
either_flag true false e = refl
either_flag false true e = refl
either_flag false false e = absurd (true≢false (sym e))

no_flag : (a b : Bool) → not (a || b) ≡ true → max (flag a) (flag b) ≡ 0
unfolding flag
no_flag true b e = absurd (true≢false (sym e))
no_flag false true e = absurd (true≢false (sym e))
no_flag false false e = refl

module _ (w : ℕ) (p q : ℕ → Bool) where
  digit : (i : ℕ) → i < w → bit_at (bit_or (bits_below w p) (bits_below w q)) i ≡ max (flag (p i)) (flag (q i))
  digit i below = bit_at_or (bits_below w p) (bits_below w q) i
      ∙ (λ k. max (bit_at-bits_below w p i below k) (bit_at-bits_below w q i below k))

  above : (i : ℕ) → w ≤ i → bit_at (bit_or (bits_below w p) (bits_below w q)) i ≡ 0
  above i h = bit_at_or (bits_below w p) (bits_below w q) i
      ∙ (λ k. max (bit_at_above (bits_below w p) w i (bits_below-lt w p) h k) (bit_at_above (bits_below w q) w i (bits_below-lt w q) h k))

  whole : all_below w (λ i. p i || q i) ≡ true → bit_or (bits_below w p) (bits_below w q) ≡ 2 ^ w - 1
  whole all = same_from_bits (bit_or (bits_below w p) (bits_below w q)) (2 ^ w - 1) (λ i. elim (cases_lt i w) [
    | inl below ↦ digit i below ∙ either_flag (p i) (q i) (all_pass w (λ j. p j || q j) all i below) ∙ sym (bit_at_ones w i below)
    | inr over ↦ above i over ∙ sym (bit_at_above (2 ^ w - 1) w i (let some = pow_pos w in omega arith) over)
  ])

  part : all_below w (λ i. p i || q i) ≡ false → bit_or (bits_below w p) (bits_below w q) ≡ 2 ^ w - 1 → ⊥
  part some same =
      let gap = found_failing w (λ i. p i || q i) some in
      let zero = digit gap.at gap.below ∙ no_flag (p gap.at) (q gap.at) gap.passes in
      let one = ap (λ n. bit_at n gap.at) same ∙ bit_at_ones w gap.at gap.below in
      absurd (omega arith)

  -- two masks leave no bit open exactly where at each place one of both passes
  pub full_is : (most : ℕ) → most + 1 ≡ 2 ^ w → nat_eq (bit_or (bits_below w p) (bits_below w q)) most ≡ all_below w (λ i. p i || q i)
  full_is most top = elim (cases_Bool (all_below w (λ i. p i || q i))) [
    | inl all ↦ (let e = whole all in eq-eqb _ most (omega arith)) ∙ sym all
    | inr some ↦ ne_eqb _ most (λ same. part some (omega arith)) ∙ sym some
  ]

zeros_are : (w : ℕ) (n : Numbers) → IsFact w n → n.zeros ≡ bits_below w (λ i. not (some_digit w (in_numbers w n) 1 i))
unfolding best_of zeros_of
zeros_are w n is = ap (λ (m : Masks). m.zeros) is.best

ones_are : (w : ℕ) (n : Numbers) → IsFact w n → n.ones ≡ bits_below w (λ i. not (some_digit w (in_numbers w n) 0 i))
unfolding best_of ones_of
ones_are w n is = ap (λ (m : Masks). m.ones) is.best

covered_is : (w most : ℕ) (m n : Numbers) → most + 1 ≡ 2 ^ w → IsFact w m → IsFact w n →
    nat_eq (bit_or m.zeros n.ones) most ≡ ones_are_covered w (in_numbers w m) (in_numbers w n)
unfolding ones_are_covered
covered_is w most m n top hm hn =
    (λ i. nat_eq (bit_or (zeros_are w m hm i) (ones_are w n hn i)) most)
    ∙ full_is w (λ i. not (some_digit w (in_numbers w m) 1 i)) (λ i. not (some_digit w (in_numbers w n) 0 i)) most top

apart_is : (w most : ℕ) (m n : Numbers) → most + 1 ≡ 2 ^ w → IsFact w m → IsFact w n →
    nat_eq (bit_or m.zeros n.zeros) most ≡ ones_are_apart w (in_numbers w m) (in_numbers w n)
unfolding ones_are_apart
apart_is w most m n top hm hn =
    (λ i. nat_eq (bit_or (zeros_are w m hm i) (zeros_are w n hn i)) most)
    ∙ full_is w (λ i. not (some_digit w (in_numbers w m) 1 i)) (λ i. not (some_digit w (in_numbers w n) 1 i)) most top

-- a test of two cells with numbers
pub numbers_pass_is : (test : ℕ → (ℕ → Bool) → (ℕ → Bool) → Bool) (a b : CellValue) (m n : Numbers) → a.numbers ≡ Some m → b.numbers ≡ Some n →
    test a.width (in_numbers a.width m) (in_numbers a.width n) ≡ numbers_pass test a b
numbers_pass_is test a b m n em en =
    λ i. where_both (λ (k l : Numbers). test a.width (in_numbers a.width k) (in_numbers a.width l)) (sym em i) (sym en i)

-- cells that a value of the program shows
pub record Shows (a : CellValue) (w : ℕ) (m : Numbers) : Type 0 where
  pub width : a.width ≡ w
  pub numbers : a.numbers ≡ Some m
  pub fact : IsFact a.width m

pub shows : (v a : CellValue) (m : Numbers) → v ≡ a → IsCell v → v.numbers ≡ Some m → Shows a v.width m
shows v a m same is some =
    let numbers = sym (ap (λ (u : CellValue). u.numbers) same) ∙ some in
    record {
      width = sym (ap (λ (u : CellValue). u.width) same);
      numbers = numbers;
      fact = (subst IsCell same is).fact m numbers;
    }

module _ (a b : CellValue) (w u most : ℕ) (m n : Numbers) (pa : Shows a w m) (pb : Shows b u n) (alike : a.width ≡ b.width) (top : most + 1 ≡ 2 ^ w) where
  top_here : most + 1 ≡ 2 ^ a.width
  top_here = top ∙ ap (λ k. 2 ^ k) (sym pa.width)

  other : IsFact a.width n
  other = subst (λ k. IsFact k n) (sym alike) pb.fact

  pub covered_cells : nat_eq (bit_or m.zeros n.ones) most ≡ numbers_pass ones_are_covered a b
  covered_cells = covered_is a.width most m n top_here pa.fact other ∙ numbers_pass_is ones_are_covered a b m n pa.numbers pb.numbers

  pub apart_cells : nat_eq (bit_or m.zeros n.zeros) most ≡ numbers_pass ones_are_apart a b
  apart_cells = apart_is a.width most m n top_here pa.fact other ∙ numbers_pass_is ones_are_apart a b m n pa.numbers pb.numbers
