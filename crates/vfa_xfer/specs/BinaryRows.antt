-- Each number that a binary operation gives of numbers of two facts is one of its row's.
use Rattle.std.proofs.Common.{◌≡◌, ℕ, ◌+◌, ◌*◌, ◌^◌, ◌<◌, inl, inr, Bool, true, false, not, ◌&&◌, ◌||◌, cond, nat_eq, sym, ◌∙◌, ap, subst, refl, arith, bit_and, bit_or, bit_xor, Option, Some, None, pos, mod-eq_of_lt}
use Rattle.std.specs.Prelude.{IsTrue, IsSomeAnd}
use Rattle.std.specs.Int.{bit_at}
use Rattle.std.proofs.lemmas.Bool.{eqb-true, eq-eqb, lt-ltb}
use Rattle.std.proofs.lemmas.Nat.Bits.{bit_at_and, bit_at-zero}
use Rattle.std.proofs.lemmas.Nat.{mod_below, pow_pos, or_disjoint}
use Rattle.vfa_ir.specs.declared.operations.Flags.{Flags}
use Rattle.vfa_word.specs.Numbers.{signed_of, fits_unsigned, fits_signed, whole_result}
use Rattle.vfa_word.specs.Operations.{sum_of, difference_of, product_of}
use Rattle.vfa_word.specs.declared.arith.Arith.{Arith}
use Rattle.vfa_dom.proofs.Bests.{digit_cases}
use Rattle.vfa_dom.proofs.ResultSets.{results_from}
use Rattle.vfa_known.specs.Product.{product_masks}
use Rattle.vfa_known.proofs.Cubes.{in_masks_at, apart_from_bits}
use Rattle.vfa_known.proofs.Digits.{and_stays, or_stays, xor_stays}
use Rattle.vfa_known.proofs.Products.{product_holds}
use Rattle.vfa_known.proofs.Sums.{add_stays, sub_stays}
use Rattle.vfa_wrap.specs.Arc.{Span, in_span, full_span, sum_span, difference_span}
use Rattle.vfa_wrap.specs.RowResults.{result_of}
use Rattle.vfa_wrap.specs.Rows.{row_by_ends}
use Rattle.vfa_wrap.specs.WholeSpans.{fits_read, whole_read}
use Rattle.vfa_wrap.specs.declared.ends_op.EndsOp.{EndsOp}
use Rattle.vfa_wrap.specs.declared.reading.Reading.{Reading}
use Rattle.vfa_wrap.proofs.Circle.{in_full}
use Rattle.vfa_wrap.proofs.SpanLaws.{bound_holds}
use Rattle.vfa_wrap.proofs.SumArcs.{sum_to, differences_are}
use Rattle.vfa_fact.specs.declared.numbers.Numbers.{Numbers}
use Rattle.vfa_fact.specs.Cells.{in_option}
use Rattle.vfa_fact.specs.Fact.{masks_in, span_in}
use Rattle.vfa_mean.specs.declared.value.Val.{Val}
use Rattle.vfa_mean.specs.Meaning.{Allowed, Gave}
use Rattle.vfa_mean.specs.Rows.{number, number_unless, arithmetic, bitwise_and, bitwise_or, bitwise_xor}
use Rattle.vfa_xfer.specs.Binary.{ends_in_numbers, best_results, sum_row, difference_row, product_row, and_bits_row, or_bits_row, xor_bits_row, disjoint_bound}
use Rattle.vfa_xfer.specs.Bounds.{no_bounds, span_bound}
use Rattle.vfa_xfer.specs.Rows.{row_numbers}
use Rattle.vfa_xfer.specs.Arcs.{full_arc, sum_arc, difference_arc, row_arc}
use Rattle.vfa_xfer.specs.Operand.{IsOperand, result_bits, result_here}
use Rattle.vfa_xfer.specs.RowSets.{row_of_holds, no_bounds_hold, wrap_bounds_hold, bound_if_holds, both_hold}

-- ---- what a number that is given tells

pub record Unbroken (broken : Bool) (x r : ℕ) : Type 0 where
  pub whole : broken ≡ false
  pub is : x ≡ r

pub number_tells : (broken : Bool) (x r : ℕ) → Allowed (number_unless broken x) (Gave (Val.Number r)) → Unbroken broken x r
number_tells true x r given = absurd (cc)
number_tells false x r given = record { whole = refl; is = cc }

pub number_is : (x r : ℕ) → Allowed (number x) (Gave (Val.Number r)) → x ≡ r
number_is x r given = cc

pub poison_tells : (broken : Bool) (x : ℕ) → Allowed (number_unless broken x) (Gave Val.Poison) → broken ≡ true
poison_tells true x given = refl
poison_tells false x given = absurd (cc)

pub flags_kept : (f l h m : Bool) → (f && not l || h && not m) ≡ false → (f ≡ true → l ≡ true) × (h ≡ true → m ≡ true)
flags_kept f l h m whole = (λ asked. grind arith, λ asked. grind arith)

-- the row has the number that is given
abbrev pub Has : ℕ → Option Numbers → ℕ → Type 0
Has w o r = in_option w o r ≡ true

module _ (w : ℕ) (m n : Numbers) (x y : ℕ) (px : IsOperand w m x) (py : IsOperand w n y) where
  -- ---- sums, differences, products

  pub sum_has : (flags : Flags) (r : ℕ) → Allowed (arithmetic Arith.Add flags w x y) (Gave (Val.Number r)) → Has w (row_numbers w (sum_row flags w m n)) r
  unfolding sum_row
  sum_has flags r given =
      let u = number_tells _ (sum_of w x y) r given in
      let kept = flags_kept flags.nuw (fits_unsigned w (whole_result Arith.Add (pos x) (pos y))) flags.nsw (fits_signed w (whole_result Arith.Add (signed_of w x) (signed_of w y))) u.whole in
      let fits = (add_stays w).fits x y px.fits py.fits in
      subst (Has w (row_numbers w (sum_row flags w m n))) u.is
      (row_of_holds w (best_results w (sum_of w) m n) (Some (sum_span w (span_in m) (span_in n))) _ (sum_of w x y) (sum_arc w (span_in m) (span_in n)) fits
      (result_bits w m n x y px py (sum_of w) fits)
      (sum_to w (span_in m) (span_in n) x y px.fact.arc py.fact.arc px.here py.here)
      (wrap_bounds_hold Arith.Add flags w (ends_in_numbers w m) (ends_in_numbers w n) px.ends py.ends x y px.between py.between px.width.least fits kept.0 kept.1))

  pub difference_has : (flags : Flags) (r : ℕ) → Allowed (arithmetic Arith.Sub flags w x y) (Gave (Val.Number r)) → Has w (row_numbers w (difference_row flags w m n)) r
  unfolding difference_row
  difference_has flags r given =
      let u = number_tells _ (difference_of w x y) r given in
      let kept = flags_kept flags.nuw (fits_unsigned w (whole_result Arith.Sub (pos x) (pos y))) flags.nsw (fits_signed w (whole_result Arith.Sub (signed_of w x) (signed_of w y))) u.whole in
      let fits = (sub_stays w).fits x y px.fits py.fits in
      subst (Has w (row_numbers w (difference_row flags w m n))) u.is
      (row_of_holds w (best_results w (difference_of w) m n) (Some (difference_span w (span_in m) (span_in n))) _ (difference_of w x y) (difference_arc w (span_in m) (span_in n)) fits
      (result_bits w m n x y px py (difference_of w) fits)
      (differences_are w (span_in m) (span_in n) (difference_of w x y) px.fact.arc py.fact.arc
      ∙ results_from w (difference_of w) (in_span w (span_in m)) (in_span w (span_in n)) x y px.fits px.here py.fits py.here)
      (wrap_bounds_hold Arith.Sub flags w (ends_in_numbers w m) (ends_in_numbers w n) px.ends py.ends x y px.between py.between px.width.least fits kept.0 kept.1))

  product_result : result_of EndsOp.Mul w x y ≡ Some (product_of w x y)
  unfolding result_of
  product_result = refl

  pub product_has : (flags : Flags) (r : ℕ) → Allowed (arithmetic Arith.Mul flags w x y) (Gave (Val.Number r)) → Has w (row_numbers w (product_row flags w m n)) r
  unfolding product_row
  product_has flags r given =
      let u = number_tells _ (product_of w x y) r given in
      let kept = flags_kept flags.nuw (fits_unsigned w (whole_result Arith.Mul (pos x) (pos y))) flags.nsw (fits_signed w (whole_result Arith.Mul (signed_of w x) (signed_of w y))) u.whole in
      let fits : product_of w x y < 2 ^ w = mod_below (x * y) (2 ^ w) (pow_pos w) in
      subst (Has w (row_numbers w (product_row flags w m n))) u.is
      (row_of_holds w (product_masks w (masks_in m) (masks_in n)) (row_by_ends EndsOp.Mul w (ends_in_numbers w m) (ends_in_numbers w n)) _ (product_of w x y)
      (row_arc EndsOp.Mul w (ends_in_numbers w m) (ends_in_numbers w n)) fits
      (product_holds w (masks_in m) (masks_in n) (product_masks w (masks_in m) (masks_in n)) px.cube py.cube refl x y px.bits py.bits)
      (result_here EndsOp.Mul w (ends_in_numbers w m) (ends_in_numbers w n) x y (product_of w x y) px.width px.ends py.ends px.between py.between product_result)
      (wrap_bounds_hold Arith.Mul flags w (ends_in_numbers w m) (ends_in_numbers w n) px.ends py.ends x y px.between py.between px.width.least fits kept.0 kept.1))

  -- ---- bit by bit

  and_result : result_of EndsOp.And w x y ≡ Some (bit_and x y)
  unfolding result_of
  and_result = refl

  pub and_has : (r : ℕ) → Allowed (bitwise_and x y) (Gave (Val.Number r)) → Has w (row_numbers w (and_bits_row w m n)) r
  unfolding and_bits_row
  and_has r given =
      let fits = (and_stays w).fits x y px.fits py.fits in
      subst (Has w (row_numbers w (and_bits_row w m n))) (number_is (bit_and x y) r given)
      (row_of_holds w (best_results w bit_and m n) (row_by_ends EndsOp.And w (ends_in_numbers w m) (ends_in_numbers w n)) (Some (no_bounds w)) (bit_and x y)
      (row_arc EndsOp.And w (ends_in_numbers w m) (ends_in_numbers w n)) fits
      (result_bits w m n x y px py bit_and fits)
      (result_here EndsOp.And w (ends_in_numbers w m) (ends_in_numbers w n) x y (bit_and x y) px.width px.ends py.ends px.between py.between and_result)
      (no_bounds_hold w (bit_and x y) fits))

  pub xor_has : (r : ℕ) → Allowed (bitwise_xor x y) (Gave (Val.Number r)) → Has w (row_numbers w (xor_bits_row w m n)) r
  unfolding xor_bits_row
  xor_has r given =
      let fits = (xor_stays w).fits x y px.fits py.fits in
      subst (Has w (row_numbers w (xor_bits_row w m n))) (number_is (bit_xor x y) r given)
      (row_of_holds w (best_results w bit_xor m n) (Some (full_span w)) (Some (no_bounds w)) (bit_xor x y) (full_arc w) fits
      (result_bits w m n x y px py bit_xor fits) (in_full w (bit_xor x y) fits) (no_bounds_hold w (bit_xor x y) fits))

  or_result : result_of EndsOp.Or w x y ≡ Some (bit_or x y)
  unfolding result_of
  or_result = refl

  off : (d : ℕ) → d ≡ 1 → (d ≡ 0) → ⊥
  off d one none = omega arith

  -- no bit is known to be one in both, where none is one in both
  apart_ones : bit_and x y ≡ 0 → bit_and m.ones n.ones ≡ 0
  apart_ones apart = apart_from_bits m.ones n.ones (λ i on.
      let one = (in_masks_at w m.zeros m.ones px.cube x px.bits).one i on in
      elim (digit_cases n.ones i) [
        | inl clear ↦ clear
        | inr both ↦ absurd (
            let two = (in_masks_at w n.zeros n.ones py.cube y py.bits).one i both in
            let law = bit_at_and x y i in
            let none : bit_at (bit_and x y) i ≡ 0 = ap (λ k. bit_at k i) apart ∙ bit_at-zero i in
            omega arith)
      ])

  pub disjoint_holds : bit_and x y ≡ 0 → IsSomeAnd (disjoint_bound w m n) (λ s. IsTrue (in_span w s (bit_or x y)))
  unfolding disjoint_bound
  disjoint_holds apart =
      let fits = (or_stays w).fits x y px.fits py.fits in
      let whole : bit_or x y ≡ x + y = or_disjoint x y apart in
      let small : x + y < 2 ^ w = subst (λ k. k < 2 ^ w) whole fits in
      let in_range : fits_read Reading.Unsigned w (whole_read Reading.Unsigned w Arith.Add x y) ≡ true = lt-ltb (x + y) (2 ^ w) small in
      let same : sum_of w x y ≡ bit_or x y = mod-eq_of_lt small ∙ sym whole in
      then_holds (nat_eq (bit_and m.ones n.ones) 0) (span_bound Arith.Add Reading.Unsigned w (ends_in_numbers w m) (ends_in_numbers w n)) (bit_or x y)
      (eq-eqb (bit_and m.ones n.ones) 0 (apart_ones apart))
      (subst (λ k. IsSomeAnd (span_bound Arith.Add Reading.Unsigned w (ends_in_numbers w m) (ends_in_numbers w n)) (λ s. IsTrue (in_span w s k))) same
      ((bound_holds Arith.Add Reading.Unsigned w (ends_in_numbers w m) (ends_in_numbers w n) px.ends py.ends px.width.least).holds x y px.between py.between in_range))
    where
      then_holds : (c : Bool) (o : Option Span) (k : ℕ) → c ≡ true → IsSomeAnd o (λ s. IsTrue (in_span w s k)) → IsSomeAnd (cond c o None) (λ s. IsTrue (in_span w s k))
      then_holds true o k e h = h
      then_holds false o k e h = absurd (cc)

  pub or_has : (flags : Flags) (r : ℕ) → Allowed (bitwise_or flags x y) (Gave (Val.Number r)) → Has w (row_numbers w (or_bits_row flags w m n)) r
  unfolding or_bits_row
  or_has flags r given =
      let u = number_tells (flags.disjoint && not (nat_eq (bit_and x y) 0)) (bit_or x y) r given in
      let fits = (or_stays w).fits x y px.fits py.fits in
      subst (Has w (row_numbers w (or_bits_row flags w m n))) u.is
      (row_of_holds w (best_results w bit_or m n) (row_by_ends EndsOp.Or w (ends_in_numbers w m) (ends_in_numbers w n)) _ (bit_or x y)
      (row_arc EndsOp.Or w (ends_in_numbers w m) (ends_in_numbers w n)) fits
      (result_bits w m n x y px py bit_or fits)
      (result_here EndsOp.Or w (ends_in_numbers w m) (ends_in_numbers w n) x y (bit_or x y) px.width px.ends py.ends px.between py.between or_result)
      (both_hold w _ (Some (full_span w)) (bit_or x y)
      (bound_if_holds flags.disjoint w (disjoint_bound w m n) (bit_or x y) fits (λ asked. disjoint_holds (eqb-true (bit_and x y) 0 (asked_kept flags.disjoint (nat_eq (bit_and x y) 0) u.whole asked))))
      (in_full w (bit_or x y) fits)))
    where
      asked_kept : (f l : Bool) → (f && not l) ≡ false → f ≡ true → l ≡ true
      asked_kept f l whole asked = grind arith
