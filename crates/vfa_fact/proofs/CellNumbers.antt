-- Cells of one or of all numbers, and the members of cells.
use Rattle.std.proofs.Common.{◌≡◌, ℕ, ◌+◌, ◌-◌, ◌^◌, ◌<◌, ◌≤◌, Bool, true, false, ◌&&◌, ◌||◌, sym, ◌∙◌, ap, subst, refl, arith, Option, Some, None, bit_xor}
use Rattle.std.specs.Prelude.{IsTrue, ◌↔◌, nat_le}
use Rattle.std.proofs.lemmas.Bool.{true≢false}
use Rattle.std.proofs.lemmas.Bool.Decides.{nat_tests}
use Rattle.std.proofs.lemmas.Nat.{pow_pos, pow_below}
use Rattle.vfa_word.specs.Numbers.{IsWidth}
use Rattle.vfa_dom.specs.Sets.{single_of}
use Rattle.vfa_dom.proofs.SetSearches.{single_of_exact, single_of_empty}
use Rattle.vfa_known.specs.Cube.{IsCube, in_masks, in_masks_fits}
use Rattle.vfa_known.proofs.Cubes.{in_masks_from, in_masks_at, ones_in}
use Rattle.vfa_known.proofs.Members.{any_cube, any_member, only_cube, only_member}
use Rattle.vfa_wrap.specs.Arc.{in_span}
use Rattle.vfa_wrap.proofs.ArcSets.{first_in, single_arc, single_first, single_none}
use Rattle.vfa_wrap.proofs.Circle.{steps_is, full_is_arc, in_full}
use Rattle.vfa_fact.specs.declared.numbers.Numbers.{Numbers}
use Rattle.vfa_fact.specs.Cells.{CellValue, IsCell, in_option, in_cell}
use Rattle.vfa_fact.specs.Fact.{masks_in, span_in, in_numbers, in_numbers_fits, IsFact}
use Rattle.vfa_fact.proofs.Facts.{numbers_from, numbers_parts}
use Rattle.vfa_fact.proofs.FactSets.{whole_fact, single_same}

-- a cell of a fact
pub cell_with : (w : ℕ) (n : Numbers) (mark : Bool) → IsWidth w → IsFact w n → IsCell (record { width = w; numbers = Some n; never_poison = mark })
cell_with w n mark width fact = record {
  width = width;
  fact = λ k is. subst (IsFact w) (of_some n k is) fact;
  unmarked = λ none. absurd (cc);
}
  where
    of_some : (a b : Numbers) → Some a ≡ Some b → a ≡ b
    of_some a b e = cc

-- ---- all numbers

all_numbers_are : (w : ℕ) (x : ℕ) → x < 2 ^ w → in_masks w (record { zeros = 0; ones = 0 }) x ≡ true
all_numbers_are w x fits = in_masks_from w 0 0 (any_cube w) x (any_member w x fits)

pub all_fact : (w most : ℕ) → most ≡ 2 ^ w - 1 → IsFact w (record { zeros = 0; ones = 0; first = 0; last = most })
all_fact w most top =
    let some = pow_pos w in
    subst (λ m. IsFact w (record { zeros = 0; ones = 0; first = 0; last = m })) (sym top)
    (whole_fact w (record { zeros = 0; ones = 0; first = 0; last = 2 ^ w - 1 }) (any_cube w) (full_is_arc w (2 ^ w - 1) (omega arith))
    (λ x member. in_full w x (in_masks_fits w (record { zeros = 0; ones = 0 }) x member))
    (all_numbers_are w 0 some) (all_numbers_are w (2 ^ w - 1) (omega arith)))

pub all_has : (w most x : ℕ) → most ≡ 2 ^ w - 1 → x < 2 ^ w → in_numbers w (record { zeros = 0; ones = 0; first = 0; last = most }) x ≡ true
all_has w most x top fits =
    subst (λ m. in_numbers w (record { zeros = 0; ones = 0; first = 0; last = m }) x ≡ true) (sym top)
    (numbers_from w (record { zeros = 0; ones = 0; first = 0; last = 2 ^ w - 1 }) x (all_numbers_are w x fits) (in_full w x fits))

-- ---- one number

module _ (w most x : ℕ) (one : 1 ≤ w) (top : most + 1 ≡ 2 ^ w) (fits : x < 2 ^ w) where
  only_numbers : Numbers
  only_numbers = record { zeros = bit_xor most x; ones = x; first = x; last = x }

  cube : IsCube w (bit_xor most x) x
  cube = only_cube w most x top fits

  x_agrees : in_masks w (record { zeros = bit_xor most x; ones = x }) x ≡ true
  x_agrees = in_masks_from w (bit_xor most x) x cube x (ones_in w (bit_xor most x) x cube)

  alone : (y : ℕ) → in_masks w (record { zeros = bit_xor most x; ones = x }) y ≡ true → y ≡ x
  alone y member = only_member w most x top fits y (in_masks_at w (bit_xor most x) x cube y member)

  x_here : in_span w (record { first = x; last = x }) x ≡ true
  x_here = let arc = (single_arc w x (pow_below 0 w (omega arith)) fits).1 in first_in w (record { first = x; last = x }) arc

  pub only_fact : IsFact w (record { zeros = bit_xor most x; ones = x; first = x; last = x })
  only_fact =
      whole_fact w (record { zeros = bit_xor most x; ones = x; first = x; last = x }) cube ((single_arc w x (pow_below 0 w (omega arith)) fits).1)
      (λ y member. subst (λ z. in_span w (record { first = x; last = x }) z ≡ true) (sym (alone y member)) x_here) x_agrees x_agrees

  pub only_has : (y : ℕ) → IsTrue (in_numbers w (record { zeros = bit_xor most x; ones = x; first = x; last = x }) y) ↔ (y ≡ x)
  only_has y = (
    (λ member. alone y ((numbers_parts w (record { zeros = bit_xor most x; ones = x; first = x; last = x }) y member).0)),
    (λ same. subst (λ z. in_numbers w (record { zeros = bit_xor most x; ones = x; first = x; last = x }) z ≡ true) (sym same)
        (numbers_from w (record { zeros = bit_xor most x; ones = x; first = x; last = x }) x x_agrees x_here)),
  )

-- ---- the members of an arc, by its ends

module _ (w f l x : ℕ) (hf : f < 2 ^ w) (hl : l < 2 ^ w) (hx : x < 2 ^ w) where
  pub in_plain : f ≤ l → (nat_le f x && nat_le x l) ≡ in_span w (record { first = f; last = l }) x
  unfolding in_span
  in_plain order = let a = steps_is w f x hf hx in let b = steps_is w f l hf hl in grind (arith, nat_tests, a, b)

  pub in_split : l < f → (nat_le f x || nat_le x l) ≡ in_span w (record { first = f; last = l }) x
  unfolding in_span
  in_split order = let a = steps_is w f x hf hx in let b = steps_is w f l hf hl in grind (arith, nat_tests, a, b)

-- ---- the members of a cell

pub none_in : (v : CellValue) (x : ℕ) → v.numbers ≡ None → in_cell v x ≡ false
unfolding in_option
none_in v x none = ap (λ (o : Option Numbers). in_option v.width o x) none

pub some_in : (v : CellValue) (n : Numbers) (x : ℕ) → v.numbers ≡ Some n → in_cell v x ≡ in_numbers v.width n x
unfolding in_option
some_in v n x some = ap (λ (o : Option Numbers). in_option v.width o x) some

pub not_by_masks : (w : ℕ) (n : Numbers) (x : ℕ) → in_masks w (masks_in n) x ≡ false → in_numbers w n x ≡ false
unfolding in_numbers
not_by_masks w n x out = ap (λ (b : Bool). b && in_span w (span_in n) x) out

pub by_span : (w : ℕ) (n : Numbers) (x : ℕ) → in_masks w (masks_in n) x ≡ true → in_numbers w n x ≡ in_span w (span_in n) x
unfolding in_numbers
by_span w n x member = ap (λ (b : Bool). b && in_span w (span_in n) x) member

option_fits : (w : ℕ) (o : Option Numbers) (x : ℕ) → in_option w o x ≡ true → x < 2 ^ w
unfolding in_option
option_fits w None x member = absurd (true≢false (sym member))
option_fits w (Some n) x member = in_numbers_fits w n x member

pub cell_fits : (v : CellValue) (x : ℕ) → IsTrue (in_cell v x) → x < 2 ^ v.width
cell_fits v x member = option_fits v.width v.numbers x member

-- ---- the only number of a cell

pub no_single : (v : CellValue) → v.numbers ≡ None → single_of v.width (in_cell v) ≡ None
no_single v none = single_of_empty v.width (in_cell v) (λ x fits. none_in v x none)

of_numbers : (w : ℕ) (n : Numbers) → single_of w (in_option w (Some n)) ≡ single_of w (in_numbers w n)
unfolding in_option
of_numbers w n = refl

pub single_in : (v : CellValue) (n : Numbers) → IsFact v.width n → v.numbers ≡ Some n → single_of v.width (in_cell v) ≡ single_of v.width (in_span v.width (span_in n))
single_in v n fact some = ap (λ (o : Option Numbers). single_of v.width (in_option v.width o)) some ∙ of_numbers v.width n ∙ sym (single_same v.width n fact)

pub single_at : (v : CellValue) (n : Numbers) → IsFact v.width n → v.numbers ≡ Some n → n.first ≡ n.last → single_of v.width (in_cell v) ≡ Some n.first
single_at v n fact some same = single_in v n fact some ∙ single_first v.width (span_in n) fact.arc same

pub single_not : (v : CellValue) (n : Numbers) → IsFact v.width n → v.numbers ≡ Some n → (n.first ≡ n.last → ⊥) → single_of v.width (in_cell v) ≡ None
single_not v n fact some other = single_in v n fact some ∙ single_none v.width (span_in n) fact.arc other

pub single_tells : (v : CellValue) (answer : Option ℕ) → answer ≡ single_of v.width (in_cell v) → (x : ℕ) →
    (answer ≡ Some x) ↔ ((y : ℕ) → IsTrue (in_cell v y) ↔ (y ≡ x))
single_tells v answer same x =
    let exact = single_of_exact v.width (in_cell v) (cell_fits v) x in
    ((λ is. exact.0 (sym same ∙ is)), (λ only. same ∙ exact.1 only))
