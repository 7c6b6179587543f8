-- Operations that give one of their operands.
use Rattle.std.proofs.Common.{◌≡◌, ℕ, ◌%◌, ◌≤◌, ◌<◌, ◌^◌, Bool, true, false, not, ◌&&◌, if◌then◌else◌, cond, refl, sym, ◌∙◌, ap, subst, arith, min, max, bit_and, bit_or, mod-eq_of_lt, ℤ, ◌≤ℤ◌, inl, inr}
use Rattle.std.specs.Prelude.{nat_eq, nat_lt, nat_le, int_le, int_lt}
use Rattle.std.proofs.lemmas.Bool.{true≢false, cases_Bool, ne_eqb}
use Rattle.std.proofs.lemmas.Bool.Decides.{nat_tests}
use Rattle.std.proofs.lemmas.Int.{ints}
use Rattle.vfa_ir.specs.declared.operations.Bin.{Bin}
use Rattle.vfa_ir.specs.declared.operations.Flags.{Flags}
use Rattle.vfa_ir.specs.declared.operations.Fun2.{Fun2}
use Rattle.vfa_word.specs.Numbers.{signed_of, wrap}
use Rattle.vfa_word.specs.Operations.{signed_less}
use Rattle.vfa_word.proofs.Readings.{wrap_of_reading}
use Rattle.vfa_fact.specs.Cells.{CellValue}
use Rattle.vfa_mean.specs.declared.value.Done.{Done}
use Rattle.vfa_mean.specs.declared.value.Val.{Val}
use Rattle.vfa_mean.specs.Laws.{AllowsDone}
use Rattle.vfa_mean.specs.Meaning.{binary, of_two}
use Rattle.vfa_mean.specs.Rows.{number_unless, remainder, bitwise_and, bitwise_or, two_numbers}
use Rattle.vfa_rules.specs.Conditions.{all_at_most, all_at_most_signed}
use Rattle.vfa_rules.specs.Rules.{binary_gives, binary_gives_first, extreme_gives}
use Rattle.vfa_rules.proofs.Allowing.{same_done, value_allows}
use Rattle.vfa_rules.proofs.Lifting.{Held, two_first, two_second, dividend_first}
use Rattle.vfa_rules.proofs.Shown.{Shown, both_tell, covered_and}

unless_is : (broken : Bool) (n m : ℕ) → n ≡ m → AllowsDone (number_unless broken n) (Done.Is (Val.Number m))
unless_is true n m e = value_allows Val.Poison _ tt
unless_is false n m e = same_done _ _ (ap (λ k. Done.Is (Val.Number k)) e)

number_is : (n m : ℕ) → n ≡ m → AllowsDone (Done.Is (Val.Number n)) (Done.Is (Val.Number m))
number_is n m e = same_done _ _ (ap (λ k. Done.Is (Val.Number k)) e)

remainder_of : (x y : ℕ) → x < y → AllowsDone (if nat_eq y 0 then Done.Ub else remainder x y) (Done.Is (Val.Number x))
remainder_of x y less = same_done _ _
    (ap (λ t. if t then Done.Ub else remainder x y) (ne_eqb y 0 (λ e. absurd (omega arith))) ∙ ap (λ k. Done.Is (Val.Number k)) (mod-eq_of_lt less))

module _ (w : ℕ) (one : 1 ≤ w) (a b : CellValue) (u v : Val) (p : Held w a u) (q : Held w b v) where
  less_tells : (x y : ℕ) → Shown w a x → Shown w b y → binary_gives_first Bin.Urem a b ≡ true → x < y
  less_tells x y hx hy e =
      let order = both_tell w a b x y hx hy (λ c d. nat_lt c.hi d.lo) e in
      let upto = hx.between.upto in let from = hy.between.from in grind (arith, nat_tests)

  pub gives_first : (bin : Bin) (flags : Flags) → binary_gives_first bin a b ≡ true → AllowsDone (binary bin flags w u v) (Done.Is u)
  gives_first Bin.And flags e = two_first w one a b bitwise_and (λ x y hx hy. number_is _ x (covered_and w a b x y hx hy e).0) u v p q
  gives_first Bin.Or flags e = two_first w one a b (bitwise_or flags) (λ x y hx hy. unless_is _ _ x (covered_and w b a y x hy hx e).3) u v p q
  gives_first Bin.Urem flags e = dividend_first w one a b remainder (λ x y hx hy. remainder_of x y (less_tells x y hx hy e)) u v p q
  gives_first Bin.Add flags e = absurd (true≢false (sym e))
  gives_first Bin.Sub flags e = absurd (true≢false (sym e))
  gives_first Bin.Mul flags e = absurd (true≢false (sym e))
  gives_first Bin.Shl flags e = absurd (true≢false (sym e))
  gives_first Bin.Udiv flags e = absurd (true≢false (sym e))
  gives_first Bin.Sdiv flags e = absurd (true≢false (sym e))
  gives_first Bin.Lshr flags e = absurd (true≢false (sym e))
  gives_first Bin.Ashr flags e = absurd (true≢false (sym e))
  gives_first Bin.Srem flags e = absurd (true≢false (sym e))
  gives_first Bin.Xor flags e = absurd (true≢false (sym e))

  pub gives_second : (bin : Bin) (flags : Flags) → binary_gives bin b a ≡ true → AllowsDone (binary bin flags w u v) (Done.Is v)
  gives_second Bin.And flags e = two_second w one a b bitwise_and (λ x y hx hy. number_is _ y (covered_and w b a y x hy hx e).1) u v p q
  gives_second Bin.Or flags e = two_second w one a b (bitwise_or flags) (λ x y hx hy. unless_is _ _ y (covered_and w a b x y hx hy e).2) u v p q
  gives_second Bin.Urem flags e = absurd (true≢false (sym e))
  gives_second Bin.Add flags e = absurd (true≢false (sym e))
  gives_second Bin.Sub flags e = absurd (true≢false (sym e))
  gives_second Bin.Mul flags e = absurd (true≢false (sym e))
  gives_second Bin.Shl flags e = absurd (true≢false (sym e))
  gives_second Bin.Udiv flags e = absurd (true≢false (sym e))
  gives_second Bin.Sdiv flags e = absurd (true≢false (sym e))
  gives_second Bin.Lshr flags e = absurd (true≢false (sym e))
  gives_second Bin.Ashr flags e = absurd (true≢false (sym e))
  gives_second Bin.Srem flags e = absurd (true≢false (sym e))
  gives_second Bin.Xor flags e = absurd (true≢false (sym e))

-- ---- the lesser and the greater of two

module _ (w : ℕ) (a b : CellValue) (x y : ℕ) (p : Shown w a x) (q : Shown w b y) where
  at_most : all_at_most a b ≡ true → x ≤ y
  at_most e =
      let order = both_tell w a b x y p q (λ c d. nat_le c.hi d.lo) e in
      let upto = p.between.upto in let from = q.between.from in grind (arith, nat_tests)

  at_most_signed : all_at_most_signed a b ≡ true → signed_of w x ≤ℤ signed_of w y
  at_most_signed e =
      let order = both_tell w a b x y p q (λ c d. int_le c.shi d.slo) e in
      let upto = p.between.signed_upto in let from = q.between.signed_from in grind (arith, ints, nat_tests)

not_below : (z t : ℤ) → z ≤ℤ t → int_lt t z ≡ false
not_below z t h = grind (arith, ints)

-- readings that are equal are those of one number
same_reading : (w x y : ℕ) → x < 2 ^ w → y < 2 ^ w → signed_of w x ≡ signed_of w y → x ≡ y
same_reading w x y hx hy e = sym (wrap_of_reading w x hx) ∙ ap (wrap w) e ∙ wrap_of_reading w y hy

-- the signed minimum and maximum of two numbers whose readings are in order
module _ (w x y : ℕ) (hx : x < 2 ^ w) (hy : y < 2 ^ w) (order : signed_of w x ≤ℤ signed_of w y) where
  lesser_first : (if signed_less w y x then y else x) ≡ x
  lesser_first = ap (λ t. if t then y else x) (not_below (signed_of w x) (signed_of w y) order)

  greater_second : (if signed_less w x y then y else x) ≡ y
  greater_second = elim (cases_Bool (signed_less w x y)) [
    | inl less ↦ ap (λ t. if t then y else x) less
    | inr more ↦
        let same : signed_of w x ≡ signed_of w y = equal (signed_of w x) (signed_of w y) order more in
        ap (λ t. if t then y else x) more ∙ same_reading w x y hx hy same
  ]
    where
      equal : (z t : ℤ) → z ≤ℤ t → int_lt z t ≡ false → z ≡ t
      equal z t h k = grind (arith, ints)

  -- the same with the two exchanged
  lesser_second : (if signed_less w x y then x else y) ≡ x
  lesser_second = elim (cases_Bool (signed_less w x y)) [
    | inl less ↦ ap (λ t. if t then x else y) less
    | inr more ↦
        let same : signed_of w x ≡ signed_of w y = equal (signed_of w x) (signed_of w y) order more in
        ap (λ t. if t then x else y) more ∙ sym (same_reading w x y hx hy same)
  ]
    where
      equal : (z t : ℤ) → z ≤ℤ t → int_lt z t ≡ false → z ≡ t
      equal z t h k = grind (arith, ints)

  greater_first : (if signed_less w y x then x else y) ≡ y
  greater_first = ap (λ t. if t then x else y) (not_below (signed_of w x) (signed_of w y) order)

module _ (w : ℕ) (one : 1 ≤ w) (a b : CellValue) (u v : Val) (p : Held w a u) (q : Held w b v) where
  pub extreme_first : (fun : Fun2) → extreme_gives fun a b ≡ true → AllowsDone (of_two (two_numbers fun w) u v) (Done.Is u)
  extreme_first Fun2.Umin e = two_first w one a b (two_numbers Fun2.Umin w) (λ x y hx hy. number_is _ x (let h = at_most w a b x y hx hy e in omega arith)) u v p q
  extreme_first Fun2.Umax e = two_first w one a b (two_numbers Fun2.Umax w) (λ x y hx hy. number_is _ x (let h = at_most w b a y x hy hx e in omega arith)) u v p q
  extreme_first Fun2.Smin e = two_first w one a b (two_numbers Fun2.Smin w) (λ x y hx hy. number_is _ x (lesser_first w x y hx.fits hy.fits (at_most_signed w a b x y hx hy e))) u v p q
  extreme_first Fun2.Smax e = two_first w one a b (two_numbers Fun2.Smax w) (λ x y hx hy. number_is _ x (greater_first w y x hy.fits hx.fits (at_most_signed w b a y x hy hx e))) u v p q
  extreme_first Fun2.UaddSat e = absurd (true≢false (sym e))
  extreme_first Fun2.UsubSat e = absurd (true≢false (sym e))
  extreme_first Fun2.SaddSat e = absurd (true≢false (sym e))
  extreme_first Fun2.SsubSat e = absurd (true≢false (sym e))

  pub extreme_second : (fun : Fun2) → extreme_gives fun b a ≡ true → AllowsDone (of_two (two_numbers fun w) u v) (Done.Is v)
  extreme_second Fun2.Umin e = two_second w one a b (two_numbers Fun2.Umin w) (λ x y hx hy. number_is _ y (let h = at_most w b a y x hy hx e in omega arith)) u v p q
  extreme_second Fun2.Umax e = two_second w one a b (two_numbers Fun2.Umax w) (λ x y hx hy. number_is _ y (let h = at_most w a b x y hx hy e in omega arith)) u v p q
  extreme_second Fun2.Smin e = two_second w one a b (two_numbers Fun2.Smin w) (λ x y hx hy. number_is _ y (lesser_second w y x hy.fits hx.fits (at_most_signed w b a y x hy hx e))) u v p q
  extreme_second Fun2.Smax e = two_second w one a b (two_numbers Fun2.Smax w) (λ x y hx hy. number_is _ y (greater_second w x y hx.fits hy.fits (at_most_signed w a b x y hx hy e))) u v p q
  extreme_second Fun2.UaddSat e = absurd (true≢false (sym e))
  extreme_second Fun2.UsubSat e = absurd (true≢false (sym e))
  extreme_second Fun2.SaddSat e = absurd (true≢false (sym e))
  extreme_second Fun2.SsubSat e = absurd (true≢false (sym e))
