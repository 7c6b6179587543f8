-- What is known of a number of a fact.
use Rattle.std.proofs.Common.{◌≡◌, ◌≢◌, ℕ, ◌^◌, ◌<◌, ◌≤◌, true, sym, ap, refl, Option, Some, None}
use Rattle.std.specs.Prelude.{IsTrue, IsSomeAnd, IfSome}
use Rattle.std.specs.Int.{bit_at}
use Rattle.std.specs.Option.{option_and_then}
use Rattle.vfa_word.specs.Numbers.{IsWidth}
use Rattle.vfa_dom.proofs.ResultSets.{results_from, over_passes}
use Rattle.vfa_known.specs.Cube.{IsCube, in_masks}
use Rattle.vfa_wrap.specs.Arc.{in_span}
use Rattle.vfa_wrap.specs.Between.{Between, AreEnds}
use Rattle.vfa_wrap.specs.Ends.{EndsOf}
use Rattle.vfa_wrap.specs.Rows.{AreAmounts, AreDivisors, AreSecondEnds, row_by_ends}
use Rattle.vfa_wrap.specs.RowResults.{result_of}
use Rattle.vfa_wrap.specs.declared.ends_op.EndsOp.{EndsOp}
use Rattle.vfa_wrap.proofs.SetEnds.{between_ends, are_ends}
use Rattle.vfa_wrap.proofs.RowsWhole.{same_row_holds}
use Rattle.vfa_fact.specs.declared.numbers.Numbers.{Numbers}
use Rattle.vfa_fact.specs.Cuts.{AmountsOf, amounts_of, divisors_of}
use Rattle.vfa_fact.specs.Fact.{IsFact, masks_in, span_in, in_numbers, in_numbers_fits}
use Rattle.vfa_fact.proofs.CutEnds.{amounts_fit, amounts_cover, divisors_usable, divisors_cover}
use Rattle.vfa_fact.proofs.Facts.{numbers_parts, fact_cube}
use Rattle.vfa_xfer.specs.Binary.{ends_in_numbers, best_results, best_shifts, over_amounts, over_divisors}
use Rattle.vfa_xfer.specs.Rows.{RowOf}
use Rattle.vfa_xfer.specs.RowSets.{best_in}

-- the ends of a fact
pub fact_ends : (w : ℕ) (n : Numbers) → 1 ≤ w → IsFact w n → AreEnds w (ends_in_numbers w n)
unfolding ends_in_numbers
fact_ends w n one is = are_ends w (in_numbers w n) n.first one is.arc.first_fits is.first_in

-- a number of a fact
pub record IsOperand (w : ℕ) (n : Numbers) (x : ℕ) : Type 0 where
  pub width : IsWidth w
  pub fact : IsFact w n
  pub member : in_numbers w n x ≡ true
  pub fits : x < 2 ^ w
  pub bits : in_masks w (masks_in n) x ≡ true
  pub here : in_span w (span_in n) x ≡ true
  pub cube : IsCube w n.zeros n.ones
  pub ends : AreEnds w (ends_in_numbers w n)
  pub between : Between w (ends_in_numbers w n) x

between_fact : (w : ℕ) (n : Numbers) (x : ℕ) → 1 ≤ w → x < 2 ^ w → in_numbers w n x ≡ true → Between w (ends_in_numbers w n) x
unfolding ends_in_numbers
between_fact w n x one fits member = between_ends w (in_numbers w n) x one fits member

pub operand : (w : ℕ) (n : Numbers) (x : ℕ) → IsWidth w → IsFact w n → in_numbers w n x ≡ true → IsOperand w n x
operand w n x width is member =
    let fits = in_numbers_fits w n x member in let parts = numbers_parts w n x member in
    record {
      width = width;
      fact = is;
      member = member;
      fits = fits;
      bits = parts.0;
      here = parts.1;
      cube = fact_cube w n is;
      ends = fact_ends w n width.least is;
      between = between_fact w n x width.least fits member;
    }

module _ (w : ℕ) (m n : Numbers) (x y : ℕ) (px : IsOperand w m x) (py : IsOperand w n y) where
  -- a result agrees with the best masks
  pub result_bits : (op : ℕ → ℕ → ℕ) → op x y < 2 ^ w → in_masks w (best_results w op m n) (op x y) ≡ true
  unfolding best_results
  result_bits op fits = best_in w _ (op x y) fits
      (results_from w op (in_masks w (masks_in m)) (in_masks w (masks_in n)) x y px.fits px.bits py.fits py.bits)

-- a result of operands between ends is in the arc by these
pub result_here : (op : EndsOp) (w : ℕ) (a b : EndsOf) (x y r : ℕ) → IsWidth w → AreEnds w a → AreSecondEnds op w b → Between w a x → Between w b y →
    result_of op w x y ≡ Some r → IsSomeAnd (row_by_ends op w a b) (λ s. IsTrue (in_span w s r))
result_here op w a b x y r width ea eb px py is = (same_row_holds op w a b _ width ea eb refl).holds x y r px py is

pub shift_bits : (w : ℕ) (m : Numbers) (op : ℕ → ℕ → ℕ) (mask x t : ℕ) → IsOperand w m x → t < w → bit_at mask t ≡ 1 → op x t < 2 ^ w →
    in_masks w (best_shifts w op m mask) (op x t) ≡ true
unfolding best_shifts
shift_bits w m op mask x t px below on fits = best_in w _ (op x t) fits
    (over_passes w op (in_masks w (masks_in m)) mask (op x t)
    (record { from = x; amount = t; from_fits = px.fits; amount_fits = below; from_in = px.bits; amount_in = on; is = refl }))

-- ---- amounts and divisors

pub record IsChosen {A : Type 0} (U Q : A → Type 0) (o : Option A) : Type 0 where
  pub it : A
  pub is : o ≡ Some it
  pub usable : U it
  pub covers : Q it

chosen : {A : Type 0} (U Q : A → Type 0) (o : Option A) → IfSome o U → IsSomeAnd o Q → IsChosen U Q o
chosen U Q (Some a) u q = record { it = a; is = refl; usable = u; covers = q }
chosen U Q None u q = absurd q

abbrev pub Amount : ℕ → ℕ → AmountsOf → Type 0
Amount w y t = Between w t.ends y × (bit_at t.mask y ≡ 1)

module _ (w : ℕ) (n : Numbers) (y : ℕ) (py : IsOperand w n y) where
  -- the amounts of a fact that has one
  pub amount : y < w → IsChosen {A = AmountsOf} (λ t. AreAmounts w t.ends) (Amount w y) (amounts_of w (in_numbers w n))
  amount below = chosen {A = AmountsOf} (λ t. AreAmounts w t.ends) (Amount w y) (amounts_of w (in_numbers w n)) (amounts_fit w (in_numbers w n) py.width.least)
      (amounts_cover w (in_numbers w n) py.width.least y below py.member)

  -- the divisors of a fact that has one
  pub divisor : y ≢ 0 → IsChosen {A = EndsOf} (AreDivisors w) (λ d. Between w d y) (divisors_of w (in_numbers w n))
  divisor some = chosen {A = EndsOf} (AreDivisors w) (λ d. Between w d y) (divisors_of w (in_numbers w n)) (divisors_usable w (in_numbers w n) py.width.least)
      (divisors_cover w (in_numbers w n) y py.width.least py.fits some py.member)

pub at_amounts : (w : ℕ) (row : AmountsOf → Option RowOf) (n : Numbers) (t : AmountsOf) → amounts_of w (in_numbers w n) ≡ Some t → row t ≡ over_amounts w row n
unfolding over_amounts
at_amounts w row n t is = sym (ap (option_and_then row) is)

pub at_divisors : (w : ℕ) (row : EndsOf → Option RowOf) (n : Numbers) (d : EndsOf) → divisors_of w (in_numbers w n) ≡ Some d → row d ≡ over_divisors w row n
unfolding over_divisors
at_divisors w row n d is = sym (ap (option_and_then row) is)
