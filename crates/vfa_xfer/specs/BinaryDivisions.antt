-- Each number that a division or remainder gives of numbers of two facts is one of its row's.
use Rattle.std.proofs.Common.{◌≡◌, ◌≢◌, ℕ, zero, suc, ◌-◌, ◌/◌, ◌%◌, ◌^◌, ◌<◌, ◌≤◌, Bool, true, false, ◌&&◌, ◌||◌, cond, nat_eq, sym, ◌∙◌, ap, subst, refl, arith, Option, Some, None, ℤ, pos, negsuc, neg_ℤ, int_div, lt-ltb, ltb-true}
use Rattle.std.specs.Prelude.{◌==◌}
use Rattle.std.proofs.lemmas.Bool.{eq-eqb, true≢false}
use Rattle.std.proofs.lemmas.Nat.{pow_pos}
use Rattle.std.proofs.Math.Nat.{div-le_self, div-one, div-lt_self, mod-le}
use Rattle.vfa_ir.specs.declared.operations.Flags.{Flags}
use Rattle.vfa_word.specs.Numbers.{signed_of, fits_signed}
use Rattle.vfa_word.specs.Operations.{unsigned_quotient, unsigned_remainder, signed_quotient, signed_remainder}
use Rattle.vfa_word.proofs.Readings.{signed_negative, reading_in_range, twice}
use Rattle.vfa_word.proofs.Wrapping.{wrap_below}
use Rattle.vfa_known.proofs.Cubes.{in_masks_from}
use Rattle.vfa_known.proofs.Members.{any_cube, any_member}
use Rattle.vfa_wrap.specs.Between.{Between}
use Rattle.vfa_wrap.specs.Ends.{EndsOf}
use Rattle.vfa_wrap.specs.RowResults.{result_of, divides_signed}
use Rattle.vfa_wrap.specs.Rows.{row_by_ends, AreDivisors, AreSecondEnds}
use Rattle.vfa_wrap.specs.declared.ends_op.EndsOp.{EndsOp}
use Rattle.vfa_fact.specs.declared.numbers.Numbers.{Numbers}
use Rattle.vfa_mean.specs.declared.value.Done.{Done}
use Rattle.vfa_mean.specs.declared.value.Val.{Val}
use Rattle.vfa_mean.specs.Meaning.{Allowed, Gave, unsigned_division, signed_division, minus_one}
use Rattle.vfa_mean.specs.Rows.{divide, divide_signed, remainder, remainder_signed}
use Rattle.vfa_xfer.specs.Binary.{ends_in_numbers, no_masks, division_row, over_divisors}
use Rattle.vfa_xfer.specs.Bounds.{no_bounds}
use Rattle.vfa_xfer.specs.Rows.{RowOf, row_numbers}
use Rattle.vfa_xfer.specs.Arcs.{row_arc}
use Rattle.vfa_xfer.specs.BinaryRows.{Has, number_tells, number_is}
use Rattle.vfa_xfer.specs.Operand.{IsOperand, result_here, divisor, at_divisors}
use Rattle.vfa_xfer.specs.RowSets.{row_of_holds, no_bounds_hold}

-- what is given where there is undefined behaviour by a test
pub record Defined (test : Bool) (d : Done) (v : Val) : Type 0 where
  pub passed : test ≡ false
  pub given : Allowed d (Gave v)

pub defined : (test : Bool) (d : Done) (v : Val) → Allowed (cond test Done.Ub d) (Gave v) → Defined test d v
defined true d v given = absurd (cc)
defined false d v given = record { passed = refl; given = given }

-- ---- the quotient of two readings is in the range of the width, but for that of the least one by -1

negated_fits : (w q : ℕ) → q ≤ 2 ^ (w - 1) → fits_signed w (neg_ℤ (pos q)) ≡ true
negated_fits w zero small = let some = pow_pos (w - 1) in lt-ltb 0 (2 ^ (w - 1)) some
negated_fits w (suc q) small = lt-ltb q (2 ^ (w - 1)) (omega arith)

quotient_in_range : (w x y : ℕ) (a b : ℤ) → 1 ≤ w → a ≡ signed_of w x → b ≡ signed_of w y → (y ≡ 2 ^ w - 1 → x ≢ 2 ^ (w - 1)) → fits_signed w a ≡ true →
    fits_signed w (int_div a b) ≡ true
quotient_in_range w x y (pos a) (pos b) one e f h fits =
    let small = ltb-true a (2 ^ (w - 1)) fits in let less = div-le_self a b in lt-ltb (a / b) (2 ^ (w - 1)) (omega arith)
quotient_in_range w x y (pos a) (negsuc b) one e f h fits =
    let small = ltb-true a (2 ^ (w - 1)) fits in let less = div-le_self a (suc b) in negated_fits w (a / suc b) (omega arith)
quotient_in_range w x y (negsuc a) (pos b) one e f h fits =
    let small = ltb-true a (2 ^ (w - 1)) fits in let less = div-le_self (suc a) b in negated_fits w (suc a / b) (omega arith)
quotient_in_range w x y (negsuc a) (negsuc zero) one e f h fits =
    let p = signed_negative w x a e in
    let q = (signed_negative w y zero f).0 in
    let k : x ≢ 2 ^ (w - 1) = h (omega arith) in
    lt-ltb (suc a / 1) (2 ^ (w - 1)) (omega (arith, div-one (suc a), twice w one))
quotient_in_range w x y (negsuc a) (negsuc (suc b)) one e f h fits =
    let small = ltb-true a (2 ^ (w - 1)) fits in
    let less = div-lt_self {n = suc a} {k = suc (suc b)} (omega arith) (omega arith) in
    lt-ltb (suc a / suc (suc b)) (2 ^ (w - 1)) (omega arith)

divides : (w x y n : ℕ) → y ≢ 0 → fits_signed w (int_div (signed_of w x) (signed_of w y)) ≡ true → divides_signed w x y n ≡ Some n
divides w x zero n some fits = absurd (some refl)
divides w x (suc y) n some fits = ap (λ c. cond c (Some n) None) fits

not_zero : (y : ℕ) → nat_eq y 0 ≡ false → y ≢ 0
not_zero y other same = let yes : nat_eq y 0 ≡ true = ap (λ k. nat_eq k 0) same in grind arith

if_not : (c : Bool) (k : ℕ) → c ≡ false → cond c None (Some k) ≡ Some k
if_not false k other = refl
if_not true k other = absurd (cc)

-- ---- the rows

module _ (w : ℕ) (m n : Numbers) (x y : ℕ) (px : IsOperand w m x) (py : IsOperand w n y) where
  division_at : (op : EndsOp) (q : ℕ) (d : EndsOf) → AreSecondEnds op w d → Between w d y → result_of op w x y ≡ Some q → q < 2 ^ w →
      Has w (row_numbers w (division_row op w m d)) q
  unfolding division_row
  division_at op q d usable between is fits =
      row_of_holds w no_masks (row_by_ends op w (ends_in_numbers w m) d) (Some (no_bounds w)) q
      (row_arc op w (ends_in_numbers w m) d) fits
      (in_masks_from w 0 0 (any_cube w) q (any_member w q fits))
      (result_here op w (ends_in_numbers w m) d x y q px.width px.ends usable px.between between is)
      (no_bounds_hold w q fits)

  over : (op : EndsOp) (q r : ℕ) → ((d : EndsOf) → AreDivisors w d → AreSecondEnds op w d) → y ≢ 0 → result_of op w x y ≡ Some q → q < 2 ^ w → q ≡ r →
      Has w (row_numbers w (over_divisors w (division_row op w m) n)) r
  over op q r second some is fits same =
      let by = divisor w n y py some in
      subst (Has w (row_numbers w (over_divisors w (division_row op w m) n))) same
      (subst (λ (o : Option RowOf). Has w (row_numbers w o) q) (at_divisors w (division_row op w m) n by.it by.is)
      (division_at op q by.it (second by.it by.usable) by.covers is fits))

  quotient_result : nat_eq y 0 ≡ false → result_of EndsOp.Udiv w x y ≡ Some (unsigned_quotient x y)
  unfolding result_of
  quotient_result other = if_not (y == 0) (x / y) other

  remainder_result : nat_eq y 0 ≡ false → result_of EndsOp.Urem w x y ≡ Some (unsigned_remainder x y)
  unfolding result_of
  remainder_result other = if_not (y == 0) (x % y) other

  pub quotient_has : (flags : Flags) (r : ℕ) → Allowed (unsigned_division (divide flags) (Val.Number x) (Val.Number y)) (Gave (Val.Number r)) →
      Has w (row_numbers w (over_divisors w (division_row EndsOp.Udiv w m) n)) r
  quotient_has flags r given =
      let d = defined (nat_eq y 0) (divide flags x y) (Val.Number r) given in
      let u = number_tells _ (unsigned_quotient x y) r d.given in
      let less = div-le_self x y in let fits = px.fits in
      over EndsOp.Udiv (unsigned_quotient x y) r (λ d usable. usable) (not_zero y d.passed) (quotient_result d.passed) (omega arith) u.is

  pub remainder_has : (r : ℕ) → Allowed (unsigned_division remainder (Val.Number x) (Val.Number y)) (Gave (Val.Number r)) →
      Has w (row_numbers w (over_divisors w (division_row EndsOp.Urem w m) n)) r
  remainder_has r given =
      let d = defined (nat_eq y 0) (remainder x y) (Val.Number r) given in
      let less = mod-le x y in let fits = px.fits in
      over EndsOp.Urem (unsigned_remainder x y) r (λ d usable. usable) (not_zero y d.passed) (remainder_result d.passed) (omega arith) (number_is (unsigned_remainder x y) r d.given)

  -- ---- signed

  abbrev undefined : Bool
  undefined = nat_eq y 0 || nat_eq y (minus_one w) && nat_eq x (2 ^ (w - 1))

  not_both : (a b c : Bool) → (a || b && c) ≡ false → (a ≡ false) × (b ≡ true → c ≡ false)
  not_both a b c whole = (grind arith, λ on. grind arith)

  record Divides : Type 0 where
    some : y ≢ 0
    fits : fits_signed w (int_div (signed_of w x) (signed_of w y)) ≡ true

  divides_where : undefined ≡ false → Divides
  divides_where whole =
      let parts = not_both (nat_eq y 0) (nat_eq y (minus_one w)) (nat_eq x (2 ^ (w - 1))) whole in
      record {
        some = not_zero y parts.0;
        fits = quotient_in_range w x y (signed_of w x) (signed_of w y) px.width.least refl refl
            (λ last least. let out = parts.1 (eq-eqb y (2 ^ w - 1) last) in let yes = eq-eqb x (2 ^ (w - 1)) least in true≢false (sym yes ∙ out))
            (reading_in_range w x px.width.least px.fits);
      }

  signed_quotient_result : Divides → result_of EndsOp.Sdiv w x y ≡ Some (signed_quotient w x y)
  unfolding result_of
  signed_quotient_result d = divides w x y (signed_quotient w x y) d.some d.fits

  signed_remainder_result : Divides → result_of EndsOp.Srem w x y ≡ Some (signed_remainder w x y)
  unfolding result_of
  signed_remainder_result d = divides w x y (signed_remainder w x y) d.some d.fits

  pub signed_quotient_has : (flags : Flags) (r : ℕ) → Allowed (signed_division w (divide_signed flags w) (Val.Number x) (Val.Number y)) (Gave (Val.Number r)) →
      Has w (row_numbers w (over_divisors w (division_row EndsOp.Sdiv w m) n)) r
  signed_quotient_has flags r given =
      let d = defined undefined (divide_signed flags w x y) (Val.Number r) given in
      let by = divides_where d.passed in
      let u = number_tells _ (signed_quotient w x y) r d.given in
      over EndsOp.Sdiv (signed_quotient w x y) r (λ d usable. usable) by.some (signed_quotient_result by) (wrap_below w _) u.is

  pub signed_remainder_has : (r : ℕ) → Allowed (signed_division w (remainder_signed w) (Val.Number x) (Val.Number y)) (Gave (Val.Number r)) →
      Has w (row_numbers w (over_divisors w (division_row EndsOp.Srem w m) n)) r
  signed_remainder_has r given =
      let d = defined undefined (remainder_signed w x y) (Val.Number r) given in
      let by = divides_where d.passed in
      over EndsOp.Srem (signed_remainder w x y) r (λ d usable. usable) by.some (signed_remainder_result by) (wrap_below w _) (number_is (signed_remainder w x y) r d.given)
