-- What the conditions of the rules tell of a number that a cell holds.
use Rattle.std.proofs.Common.{◌≡◌, ℕ, ◌+◌, ◌-◌, ◌*◌, ◌^◌, ◌<◌, ◌≤◌, Bool, true, false, not, ◌&&◌, ◌||◌, refl, sym, ◌∙◌, ap, subst, arith, inl, inr, Option, Some, None, pos, negsuc, ◌≤ℤ◌, ◌≢◌, min, max, bit_and, bit_or, nat_lt}
use Rattle.std.specs.Prelude.{IsTrue, IsSomeAnd, nat_eq, nat_le, int_le, int_lt, IfSome}
use Rattle.std.specs.Int.{bit_at}
use Rattle.std.specs.Option.{option_map, option_and_then}
use Rattle.std.proofs.lemmas.Bool.{cases_lt, true≢false, and_parts, and_from, eqb-true, eq-eqb}
use Rattle.std.proofs.lemmas.Bool.Decides.{nat_tests}
use Rattle.std.proofs.lemmas.Int.{ints}
use Rattle.std.proofs.lemmas.Nat.Bits.{bit_at_and, bit_at_or, bit_at_above, same_from_bits}
use Rattle.vfa_word.specs.Numbers.{IsWidth, signed_of}
use Rattle.vfa_word.specs.declared.arith.Arith.{Arith}
use Rattle.vfa_word.proofs.Readings.{reading_low, reading_high}
use Rattle.vfa_dom.specs.Search.{some_below}
use Rattle.vfa_dom.specs.Sets.{single_of}
use Rattle.vfa_dom.specs.Best.{some_digit}
use Rattle.vfa_dom.proofs.Bests.{digit_cases}
use Rattle.vfa_dom.proofs.Searches.{some_found, all_pass}
use Rattle.vfa_known.proofs.Cubes.{apart_from_bits}
use Rattle.vfa_dom.proofs.SetSearches.{single_of_tells}
use Rattle.vfa_wrap.specs.Ends.{EndsOf, ends_of}
use Rattle.vfa_wrap.specs.Between.{Between, AreEnds}
use Rattle.vfa_wrap.specs.WholeSpans.{AreOperandEnds, span_of_results, lies_in_range, fits_read, whole_read}
use Rattle.vfa_wrap.specs.declared.reading.Reading.{Reading}
use Rattle.vfa_wrap.proofs.SetEnds.{between_ends, are_ends}
use Rattle.vfa_wrap.proofs.SpanLaws.{lies_tells, result_lies}
use Rattle.vfa_fact.specs.declared.numbers.Numbers.{Numbers}
use Rattle.vfa_fact.specs.CellCuts.{cell_ends}
use Rattle.vfa_fact.specs.Cells.{CellValue, IsCell, in_option, in_cell}
use Rattle.vfa_fact.specs.Cuts.{AmountsOf, amounts_of}
use Rattle.vfa_fact.specs.Fact.{IsFact, in_numbers, in_numbers_fits}
use Rattle.vfa_fact.proofs.CutEnds.{amounts_cover}
use Rattle.vfa_rules.specs.Conditions.{where_some, where_both, is_only, ends_pass, both_ends_pass, numbers_pass, ones_are_covered, ones_are_apart, second_of, second_ends, stays_in_range}
use Rattle.vfa_rules.proofs.EndTests.{stays_at_is, stays_of}

-- a number that a cell of width w holds of
pub record Shown (w : ℕ) (c : CellValue) (x : ℕ) : Type 0 where
  pub numbers : Numbers
  pub width : c.width ≡ w
  pub is : c.numbers ≡ Some numbers
  pub member : in_numbers w numbers x ≡ true
  pub fits : x < 2 ^ w
  pub between : Between w (ends_of w (in_numbers w numbers)) x

record Found (w : ℕ) (o : Option Numbers) (x : ℕ) : Type 0 where
  pub numbers : Numbers
  pub is : o ≡ Some numbers
  pub member : in_numbers w numbers x ≡ true

found : (w : ℕ) (o : Option Numbers) (x : ℕ) → in_option w o x ≡ true → Found w o x
unfolding in_option
found w None x e = absurd (true≢false (sym e))
found w (Some n) x e = record { numbers = n; is = refl; member = e }

pub shown : (w : ℕ) (c : CellValue) (x : ℕ) → 1 ≤ w → c.width ≡ w → IsTrue (in_cell c x) → Shown w c x
shown w c x one width member =
    let f = found w c.numbers x (ap (λ k. in_option k c.numbers x) (sym width) ∙ member) in
    let fits = in_numbers_fits w f.numbers x f.member in
    record {
      numbers = f.numbers;
      width = width;
      is = f.is;
      member = f.member;
      fits = fits;
      between = between_ends w (in_numbers w f.numbers) x one fits f.member;
    }

abbrev pub ends_in_numbers : ℕ → Numbers → EndsOf
ends_in_numbers w n = ends_of w (in_numbers w n)

pub ends_some : (w : ℕ) (c : CellValue) (x : ℕ) (p : Shown w c x) → cell_ends c ≡ Some (ends_in_numbers w p.numbers)
ends_some w c x p = λ i. option_map (λ n. ends_of (p.width i) (in_numbers (p.width i) n)) (p.is i)

-- ---- tests of one cell

module _ (w : ℕ) (c : CellValue) (x : ℕ) (p : Shown w c x) where
  pub ends_tell : (test : EndsOf → Bool) → ends_pass test c ≡ true → test (ends_in_numbers w p.numbers) ≡ true
  ends_tell test e = sym (ap (where_some test) (ends_some w c x p)) ∙ e

  holds : in_cell c x ≡ true
  unfolding in_option
  holds = (λ i. in_option (p.width i) (p.is i) x) ∙ p.member

  pub single_is : (z : ℕ) → single_of c.width (in_cell c) ≡ Some z → x ≡ z
  single_is z is = let fits : x < 2 ^ c.width = subst (λ k. x < 2 ^ k) (sym p.width) p.fits in (single_of_tells c.width (in_cell c) z is).2 x fits holds

  pub only_tells : (y : ℕ) → is_only c y ≡ true → x ≡ y
  only_tells y e = at (single_of c.width (in_cell c)) refl
    where
      at : (o : Option ℕ) → single_of c.width (in_cell c) ≡ o → x ≡ y
      at None is = absurd (true≢false (sym e ∙ ap (where_some (λ n. nat_eq n y)) is))
      at (Some z) is =
          let one : nat_eq z y ≡ true = sym (ap (where_some (λ n. nat_eq n y)) is) ∙ e in
          single_is z is ∙ eqb-true z y one

  -- a number that is not negative is its own reading
  pub natural_tells : ends_pass (λ e. int_le (pos 0) e.slo) c ≡ true → signed_of w x ≡ pos x
  natural_tells e =
      let low = ends_tell (λ e. int_le (pos 0) e.slo) e in
      let from = p.between.signed_from in
      elim (cases_lt x (2 ^ (w - 1))) [
        | inl below ↦ reading_low w x below
        | inr above ↦ let high = reading_high w x above p.fits in absurd (grind (arith, ints, nat_tests))
      ]

  pub negative_tells : ends_pass (λ e. int_lt e.shi (pos 0)) c ≡ true → int_lt (signed_of w x) (pos 0) ≡ true
  negative_tells e =
      let high = ends_tell (λ e. int_lt e.shi (pos 0)) e in
      let upto = p.between.signed_upto in grind (arith, ints, nat_tests)

-- ---- tests of two cells

module _ (w : ℕ) (a b : CellValue) (x y : ℕ) (p : Shown w a x) (q : Shown w b y) where
  pub both_tell : (test : EndsOf → EndsOf → Bool) → both_ends_pass test a b ≡ true → test (ends_in_numbers w p.numbers) (ends_in_numbers w q.numbers) ≡ true
  both_tell test e = sym (λ i. where_both test (ends_some w a x p i) (ends_some w b y q i)) ∙ e

  pub numbers_tell : (test : ℕ → (ℕ → Bool) → (ℕ → Bool) → Bool) → numbers_pass test a b ≡ true → test w (in_numbers w p.numbers) (in_numbers w q.numbers) ≡ true
  numbers_tell test e =
      sym (λ i. where_both (λ (m n : Numbers). test (p.width i) (in_numbers (p.width i) m) (in_numbers (p.width i) n)) (p.is i) (q.is i)) ∙ e

  left_digit : (i d : ℕ) → bit_at x i ≡ d → some_digit w (in_numbers w p.numbers) d i ≡ true
  unfolding some_digit
  left_digit i d e = some_found (2 ^ w) (λ z. in_numbers w p.numbers z && nat_eq (bit_at z i) d) x p.fits
      (and_from (in_numbers w p.numbers x) (nat_eq (bit_at x i) d) p.member (eq-eqb (bit_at x i) d e))

  right_digit : (i d : ℕ) → bit_at y i ≡ d → some_digit w (in_numbers w q.numbers) d i ≡ true
  unfolding some_digit
  right_digit i d e = some_found (2 ^ w) (λ z. in_numbers w q.numbers z && nat_eq (bit_at z i) d) y q.fits
      (and_from (in_numbers w q.numbers y) (nat_eq (bit_at y i) d) q.member (eq-eqb (bit_at y i) d e))

  not_both : (a b : Bool) → (not a || not b) ≡ true → a ≡ true → b ≡ true → ⊥
  not_both true true e f g = true≢false (sym e)
  not_both true false e f g = true≢false (sym g)
  not_both false b e f g = true≢false (sym f)

  -- each one of x is one of y
  covered_at : numbers_pass ones_are_covered a b ≡ true → (i : ℕ) → i < w → bit_at x i ≡ 1 → bit_at y i ≡ 1
  unfolding ones_are_covered
  covered_at e i below on = elim (digit_cases y i) [
    | inl off ↦ absurd (not_both _ _ (all_pass w _ (numbers_tell ones_are_covered e) i below) (left_digit i 1 on) (right_digit i 0 off))
    | inr one ↦ one
  ]

  apart_at : numbers_pass ones_are_apart a b ≡ true → (i : ℕ) → i < w → bit_at x i ≡ 1 → bit_at y i ≡ 0
  unfolding ones_are_apart
  apart_at e i below on = elim (digit_cases y i) [
    | inl off ↦ off
    | inr one ↦ absurd (not_both _ _ (all_pass w _ (numbers_tell ones_are_apart e) i below) (left_digit i 1 on) (right_digit i 1 one))
  ]

  -- then `and` gives x, and `or` gives y
  pub covered_and : numbers_pass ones_are_covered a b ≡ true → (bit_and x y ≡ x) × (bit_and y x ≡ x) × (bit_or x y ≡ y) × (bit_or y x ≡ y)
  covered_and e = (
    same_from_bits _ x (λ i. bit_at_and x y i ∙ (let h = less i in omega arith)),
    same_from_bits _ x (λ i. bit_at_and y x i ∙ (let h = less i in omega arith)),
    same_from_bits _ y (λ i. bit_at_or x y i ∙ (let h = less i in omega arith)),
    same_from_bits _ y (λ i. bit_at_or y x i ∙ (let h = less i in omega arith)),
  )
    where
      less : (i : ℕ) → bit_at x i ≤ bit_at y i
      less i = elim (digit_cases x i) [
        | inl off ↦ omega arith
        | inr on ↦ elim (cases_lt i w) [
          | inl below ↦ (let there = covered_at e i below on in omega arith)
          | inr over ↦ (let none = bit_at_above x w i p.fits over in omega arith)
        ]
      ]

  pub apart_and : numbers_pass ones_are_apart a b ≡ true → bit_and x y ≡ 0
  apart_and e = apart_from_bits x y (λ i on. elim (cases_lt i w) [
    | inl below ↦ apart_at e i below on
    | inr over ↦ bit_at_above y w i q.fits over
  ])

  -- the whole result stays in the range
  within_some : (r : Reading) (ea eb : EndsOf) (op : Arith) → lies_in_range r w (span_of_results op r ea eb) ≡ true → Between w ea x → Between w eb y →
      fits_read r w (whole_read r w op x y) ≡ true
  within_some r ea eb op lies px py = lies_tells r w (span_of_results op r ea eb) (whole_read r w op x y) lies (result_lies op r w ea eb x y px py)

  within_amounts : (r : Reading) (o : Option AmountsOf) → IsSomeAnd o (λ t. Between w t.ends y × (bit_at t.mask y ≡ 1)) →
      where_both (λ c d. lies_in_range r w (span_of_results Arith.Shl r c d)) (Some (ends_in_numbers w p.numbers)) (option_map (λ t. t.ends) o) ≡ true →
      fits_read r w (whole_read r w Arith.Shl x y) ≡ true
  within_amounts r (Some t) there lies = within_some r (ends_in_numbers w p.numbers) t.ends Arith.Shl lies p.between there.0
  within_amounts r None there lies = absurd there

  here : (op : Arith) (r : Reading) → stays_in_range op r a b ≡ true → stays_of op r w (Some p.numbers) w (Some q.numbers) ≡ true
  here op r e = stays_at_is op a b w p.numbers q.numbers p.width q.width (sym p.is) (sym q.is) r ∙ e

  pub stays_tells : 1 ≤ w → (op : Arith) (r : Reading) → stays_in_range op r a b ≡ true → (op ≡ Arith.Shl → y < w) → fits_read r w (whole_read r w op x y) ≡ true
  unfolding stays_of
  stays_tells one Arith.Add r e small = within_some r (ends_in_numbers w p.numbers) (ends_in_numbers w q.numbers) Arith.Add (here Arith.Add r e) p.between q.between
  stays_tells one Arith.Sub r e small = within_some r (ends_in_numbers w p.numbers) (ends_in_numbers w q.numbers) Arith.Sub (here Arith.Sub r e) p.between q.between
  stays_tells one Arith.Mul r e small = within_some r (ends_in_numbers w p.numbers) (ends_in_numbers w q.numbers) Arith.Mul (here Arith.Mul r e) p.between q.between
  stays_tells one Arith.Shl r e small =
      within_amounts r (amounts_of w (in_numbers w q.numbers)) (amounts_cover w (in_numbers w q.numbers) one y (small refl) q.member) (here Arith.Shl r e)
