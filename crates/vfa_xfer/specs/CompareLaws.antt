-- Each answer of a comparison of numbers is one of its cell's.
use Rattle.std.proofs.Common.{◌≡◌, ℕ, ◌^◌, ◌<◌, ◌≤◌, Bool, true, false, not, ◌&&◌, ◌||◌, if◌then◌else◌, refl, sym, ◌∙◌, ap, subst, arith, inl, inr, Option, Some, None, pos}
use Rattle.std.specs.Prelude.{int_le, int_lt}
use Rattle.std.specs.Option.{option_map}
use Rattle.std.proofs.lemmas.Bool.{true≢false, and_parts, and_from, or_cases}
use Rattle.std.proofs.lemmas.Bool.Decides.{nat_tests}
use Rattle.std.proofs.lemmas.Int.{ints}
use Rattle.vfa_ir.specs.Predicates.{by_order}
use Rattle.vfa_ir.specs.declared.operations.Pred.{Pred}
use Rattle.vfa_word.specs.Operations.{equal, unsigned_less, signed_less}
use Rattle.vfa_mean.specs.declared.value.Done.{Done}
use Rattle.vfa_mean.specs.declared.value.Val.{Val}
use Rattle.vfa_mean.specs.Meaning.{Allowed, Gave, of_two}
use Rattle.vfa_mean.specs.Rows.{number_unless, is_negative, differ_in_sign, bit_of, compare}
use Rattle.vfa_dom.specs.Search.{all_below}
use Rattle.vfa_known.specs.Cube.{in_masks, agrees_at}
use Rattle.vfa_wrap.specs.Arc.{in_span, steps}
use Rattle.vfa_wrap.specs.Between.{Between}
use Rattle.vfa_wrap.specs.Ends.{EndsOf, ends_of}
use Rattle.vfa_wrap.proofs.SetEnds.{between_ends}
use Rattle.vfa_fact.specs.declared.numbers.Numbers.{Numbers}
use Rattle.vfa_fact.specs.CellCuts.{cell_ends}
use Rattle.vfa_fact.specs.Cells.{CellValue, IsCell, in_option, in_cell, only_number, all_numbers}
use Rattle.vfa_fact.specs.Compare.{satisfies}
use Rattle.vfa_fact.specs.Fact.{in_numbers, in_numbers_fits}
use Rattle.vfa_fact.proofs.CellNumbers.{cell_fits}
use Rattle.vfa_xfer.specs.AnyFacts.{CellHolds}
use Rattle.vfa_xfer.specs.Comparisons.{counts, answers_by, answers_of, answered, signs_alike, compared_cell}
use Rattle.vfa_xfer.specs.Pairs.{pair_from}
use Rattle.vfa_xfer.specs.StrictLaws.{plain_unless, two_held}

-- ---- the numbers of answers

zero_only : in_numbers 1 (only_number 1 0) 0 ≡ true
unfolding in_numbers in_masks all_below agrees_at in_span steps
zero_only = refl

one_only : in_numbers 1 (only_number 1 1) 1 ≡ true
unfolding in_numbers in_masks all_below agrees_at in_span steps
one_only = refl

zero_any : in_numbers 1 (all_numbers 1) 0 ≡ true
unfolding in_numbers in_masks all_below agrees_at in_span steps
zero_any = refl

one_any : in_numbers 1 (all_numbers 1) 1 ≡ true
unfolding in_numbers in_masks all_below agrees_at in_span steps
one_any = refl

-- a bit that is decided, and one that is not
pub bit_only : (b : Bool) → in_numbers 1 (only_number 1 (bit_of b)) (bit_of b) ≡ true
bit_only true = one_only
bit_only false = zero_only

pub bit_any : (b : Bool) → in_numbers 1 (all_numbers 1) (bit_of b) ≡ true
bit_any true = one_any
bit_any false = zero_any

has_one : (n y : Bool) → y ≡ true → in_option 1 (answered (record { yes = y; no = n })) 1 ≡ true
unfolding in_option
has_one true true e = one_any
has_one false true e = one_only
has_one n false e = absurd (true≢false (sym e))

has_zero : (y n : Bool) → n ≡ true → in_option 1 (answered (record { yes = y; no = n })) 0 ≡ true
unfolding in_option
has_zero true true e = zero_any
has_zero false true e = zero_only
has_zero y false e = absurd (true≢false (sym e))

-- ---- numbers that are given

record IsGiven (broken : Bool) (x n : ℕ) : Type 0 where
  pub whole : broken ≡ false
  pub is : n ≡ x

given_tells : (broken : Bool) (x n : ℕ) → number_unless broken x ≡ Done.Is (Val.Number n) → IsGiven broken x n
given_tells true x n e = absurd (cc)
given_tells false x n e = record { whole = refl; is = cc }

broken_tells : (broken : Bool) (x : ℕ) → number_unless broken x ≡ Done.Is Val.Poison → broken ≡ true
broken_tells true x e = refl
broken_tells false x e = absurd (cc)

counted : (broken : Bool) → broken ≡ false → not broken ≡ true
counted broken e = ap not e

module _ (pred : Pred) (samesign : Bool) (w : ℕ) (A B : ℕ → Bool) (p q : ℕ) (hp : p < 2 ^ w) (hq : q < 2 ^ w) (one : A p ≡ true) (two : B q ≡ true) (counts' : counts samesign w p q ≡ true) where
  answer_in : (t : Bool) → satisfies w pred p q ≡ t → in_option 1 (answered (answers_of pred samesign w A B)) (bit_of t) ≡ true
  unfolding answers_by
  answer_in true e = has_one _ _ (pair_from w (λ x y. counts samesign w x y && satisfies w pred x y) A B (record {
    left = p;
    right = q;
    left_fits = hp;
    right_fits = hq;
    left_in = one;
    right_in = two;
    is = and_from (counts samesign w p q) (satisfies w pred p q) counts' e;
  }))
  answer_in false e = has_zero _ _ (pair_from w (λ x y. counts samesign w x y && not (satisfies w pred x y)) A B (record {
    left = p;
    right = q;
    left_fits = hp;
    right_fits = hq;
    left_in = one;
    right_in = two;
    is = and_from (counts samesign w p q) (not (satisfies w pred p q)) counts' (ap not e);
  }))

satisfies_is : (w : ℕ) (pred : Pred) (p q : ℕ) → satisfies w pred p q ≡ by_order pred equal unsigned_less (signed_less w) p q
unfolding satisfies
satisfies_is w pred p q = refl

-- ---- signs

between_in : (w : ℕ) (n : Numbers) (x : ℕ) → 1 ≤ w → in_numbers w n x ≡ true → Between w (ends_of w (in_numbers w n)) x
between_in w n x one member = between_ends w (in_numbers w n) x one (in_numbers_fits w n x member) member

pub not_negative : (w x : ℕ) (e : EndsOf) → Between w e x → int_le (pos 0) e.slo ≡ true → is_negative w x ≡ false
not_negative w x e b low = let from = b.signed_from in grind (arith, ints, nat_tests)

negative : (w x : ℕ) (e : EndsOf) → Between w e x → int_lt e.shi (pos 0) ≡ true → is_negative w x ≡ true
negative w x e b high = let upto = b.signed_upto in grind (arith, ints, nat_tests)

same_sign : (m n : Bool) → m ≡ n → (if m then not n else n) ≡ false
same_sign true n e = grind arith
same_sign false n e = grind arith

signs_of_ends : (w x y : ℕ) (a b : EndsOf) → Between w a x → Between w b y → signs_alike (Some a) (Some b) ≡ true → differ_in_sign w x y ≡ false
signs_of_ends w x y a b px py alike =
    elim (or_cases (int_le (pos 0) a.slo && int_le (pos 0) b.slo) (int_lt a.shi (pos 0) && int_lt b.shi (pos 0)) alike) [
      | inl low ↦
          let parts = and_parts (int_le (pos 0) a.slo) (int_le (pos 0) b.slo) low in
          same_sign (is_negative w x) (is_negative w y) (not_negative w x a px parts.0 ∙ sym (not_negative w y b py parts.1))
      | inr high ↦
          let parts = and_parts (int_lt a.shi (pos 0)) (int_lt b.shi (pos 0)) high in
          same_sign (is_negative w x) (is_negative w y) (negative w x a px parts.0 ∙ sym (negative w y b py parts.1))
    ]

signs_tell : (w x y : ℕ) (m n : Option Numbers) → 1 ≤ w → in_option w m x ≡ true → in_option w n y ≡ true →
    signs_alike (option_map (λ (k : Numbers). ends_of w (in_numbers w k)) m) (option_map (λ (k : Numbers). ends_of w (in_numbers w k)) n) ≡ true → differ_in_sign w x y ≡ false
unfolding in_option
signs_tell w x y (Some m) (Some n) one px py alike =
    signs_of_ends w x y (ends_of w (in_numbers w m)) (ends_of w (in_numbers w n)) (between_in w m x one px) (between_in w n y one py) alike
signs_tell w x y (Some m) None one px py alike = absurd (true≢false (sym py))
signs_tell w x y None n one px py alike = absurd (true≢false (sym px))

either_way : (samesign d s : Bool) → (samesign && d) ≡ true → (not samesign || s) ≡ true → (s ≡ true → d ≡ false) → ⊥
either_way true d s broken keeps tells = true≢false (sym broken ∙ tells keeps)
either_way false d s broken keeps tells = true≢false (sym broken)

pub icmp_holds : (pred : Pred) (samesign : Bool) (a b : CellValue) → IsCell a → IsCell b → a.width ≡ b.width → (x y r : Val) → CellHolds a x → CellHolds b y →
    Allowed (of_two (compare pred samesign a.width) x y) (Gave r) → CellHolds (compared_cell pred samesign a b) r
icmp_holds pred samesign a b left right width =
    two_held (compare pred samesign a.width) a b 1 (answered (answers_of pred samesign a.width (in_cell a) (in_cell b)))
    (a.never_poison && b.never_poison && (not samesign || signs_alike (cell_ends a) (cell_ends b)))
    (λ p q. plain_unless (samesign && differ_in_sign a.width p q) (bit_of (by_order pred equal unsigned_less (signed_less a.width) p q)))
    (λ e. (and_parts a.never_poison b.never_poison (and_parts (a.never_poison && b.never_poison) _ e).0).0)
    (λ e. (and_parts a.never_poison b.never_poison (and_parts (a.never_poison && b.never_poison) _ e).0).1)
    (λ p q n one two e.
    let g = given_tells (samesign && differ_in_sign a.width p q) (bit_of (by_order pred equal unsigned_less (signed_less a.width) p q)) n e in
    let hq : q < 2 ^ a.width = subst (λ (w : ℕ). q < 2 ^ w) (sym width) (cell_fits b q two) in
    ap (in_option 1 (answered (answers_of pred samesign a.width (in_cell a) (in_cell b)))) g.is
    ∙ answer_in pred samesign a.width (in_cell a) (in_cell b) p q (cell_fits a p one) hq one two (counted (samesign && differ_in_sign a.width p q) g.whole)
    (by_order pred equal unsigned_less (signed_less a.width) p q) (satisfies_is a.width pred p q))
    (λ on p q one two e.
    let broken = broken_tells (samesign && differ_in_sign a.width p q) (bit_of (by_order pred equal unsigned_less (signed_less a.width) p q)) e in
    let keeps = (and_parts (a.never_poison && b.never_poison) (not samesign || signs_alike (cell_ends a) (cell_ends b)) on).1 in
    either_way samesign (differ_in_sign a.width p q) (signs_alike (cell_ends a) (cell_ends b)) broken keeps
    (λ alike. signs_tell a.width p q a.numbers b.numbers left.width.least one (ap (λ w. in_option w b.numbers q) width ∙ two)
    (ap (λ (w : ℕ). signs_alike (cell_ends a) (option_map (λ (k : Numbers). ends_of w (in_numbers w k)) b.numbers)) width ∙ alike)))
