-- Words that no numbers of the operands break.
use Rattle.std.proofs.Common.{◌≡◌, ◌≢◌, ℕ, ◌-◌, ◌*◌, ◌≤◌, ◌<◌, ◌^◌, Bool, true, false, not, ◌&&◌, ◌||◌, refl, sym, ◌∙◌, ap, arith, bit_and, pos, ◌*ℤ◌}
use Rattle.std.specs.Prelude.{nat_eq, nat_le, nat_lt}
use Rattle.std.proofs.lemmas.Bool.{true≢false, eq-eqb}
use Rattle.std.proofs.lemmas.Bool.Decides.{nat_tests}
use Rattle.vfa_ir.specs.declared.operations.Bin.{Bin}
use Rattle.vfa_ir.specs.declared.operations.Flags.{Flags}
use Rattle.vfa_word.specs.Numbers.{signed_of, fits_unsigned, fits_signed, whole_result, wrap}
use Rattle.vfa_word.specs.Operations.{shifted_left}
use Rattle.vfa_word.specs.declared.arith.Arith.{Arith}
use Rattle.vfa_wrap.specs.WholeSpans.{fits_read, whole_read}
use Rattle.vfa_wrap.specs.declared.reading.Reading.{Reading}
use Rattle.vfa_fact.specs.Cells.{CellValue}
use Rattle.vfa_mean.specs.declared.value.Val.{Val}
use Rattle.vfa_mean.specs.Laws.{AllowsDone}
use Rattle.vfa_mean.specs.Meaning.{binary, of_two}
use Rattle.vfa_mean.specs.Rows.{arithmetic, leaves_unsigned, leaves_signed, shift_left, shift_leaves_unsigned, shift_leaves_signed, bitwise_or}
use Rattle.vfa_rules.specs.Conditions.{numbers_pass, ones_are_apart, stays_in_range}
use Rattle.vfa_rules.specs.Rules.{gained_no_wrap, gained_flags}
use Rattle.vfa_rules.proofs.Allowing.{same_done, unless_allows}
use Rattle.vfa_rules.proofs.Lifting.{Held, two_sound}
use Rattle.vfa_rules.proofs.OneSign.{gained_whole}
use Rattle.vfa_rules.proofs.Shown.{Shown, apart_and, stays_tells}

or_false : (a b : Bool) → (a || b) ≡ false → (a ≡ false) × (b ≡ false)
or_false true b e = absurd (true≢false e)
or_false false b e = (refl, e)

both_false : (a b : Bool) → a ≡ false → b ≡ false → (a || b) ≡ false
both_false a b e f = λ i. e i || f i

-- two words that are gained
pub gained_both : (f g l h k m : Bool) → (g ≡ true → l ≡ false) → (k ≡ true → m ≡ false) → (f && l || h && m) ≡ false → ((f || g) && l || (h || k) && m) ≡ false
gained_both f g l h k m tells tells' e =
    let parts = or_false (f && l) (h && m) e in
    both_false ((f || g) && l) ((h || k) && m) (gained_whole f g l tells parts.0) (gained_whole h k m tells' parts.1)

no_amount : (w t : ℕ) → nat_le w t ≡ false → t < w
no_amount w t e = grind (arith, nat_tests)

no_shift : (op : Arith) → op ≢ Arith.Shl → (w y : ℕ) → op ≡ Arith.Shl → y < w
no_shift op other w y e = absurd (other e)

module _ (w : ℕ) (one : 1 ≤ w) (a b : CellValue) (u v : Val) (p : Held w a u) (q : Held w b v) where
  sum_gains : (flags : Flags) → AllowsDone (of_two (arithmetic Arith.Add flags w) u v) (of_two (arithmetic Arith.Add (gained_no_wrap Arith.Add flags a b) w) u v)
  sum_gains flags = two_sound w one a b _ _ (λ x y hx hy. unless_allows _ _ _ _ (λ whole. (
    gained_both flags.nuw (stays_in_range Arith.Add Reading.Unsigned a b) (leaves_unsigned w Arith.Add x y) flags.nsw (stays_in_range Arith.Add Reading.Signed a b) (leaves_signed w Arith.Add x y)
        (λ e. ap not (stays_tells w a b x y hx hy one Arith.Add Reading.Unsigned e (λ s. absurd (cc))))
        (λ e. ap not (stays_tells w a b x y hx hy one Arith.Add Reading.Signed e (λ s. absurd (cc)))) whole,
    refl,
  ))) u v p q

  difference_gains : (flags : Flags) → AllowsDone (of_two (arithmetic Arith.Sub flags w) u v) (of_two (arithmetic Arith.Sub (gained_no_wrap Arith.Sub flags a b) w) u v)
  difference_gains flags = two_sound w one a b _ _ (λ x y hx hy. unless_allows _ _ _ _ (λ whole. (
    gained_both flags.nuw (stays_in_range Arith.Sub Reading.Unsigned a b) (leaves_unsigned w Arith.Sub x y) flags.nsw (stays_in_range Arith.Sub Reading.Signed a b) (leaves_signed w Arith.Sub x y)
        (λ e. ap not (stays_tells w a b x y hx hy one Arith.Sub Reading.Unsigned e (λ s. absurd (cc))))
        (λ e. ap not (stays_tells w a b x y hx hy one Arith.Sub Reading.Signed e (λ s. absurd (cc)))) whole,
    refl,
  ))) u v p q

  product_gains : (flags : Flags) → AllowsDone (of_two (arithmetic Arith.Mul flags w) u v) (of_two (arithmetic Arith.Mul (gained_no_wrap Arith.Mul flags a b) w) u v)
  product_gains flags = two_sound w one a b _ _ (λ x y hx hy. unless_allows _ _ _ _ (λ whole. (
    gained_both flags.nuw (stays_in_range Arith.Mul Reading.Unsigned a b) (leaves_unsigned w Arith.Mul x y) flags.nsw (stays_in_range Arith.Mul Reading.Signed a b) (leaves_signed w Arith.Mul x y)
        (λ e. ap not (stays_tells w a b x y hx hy one Arith.Mul Reading.Unsigned e (λ s. absurd (cc))))
        (λ e. ap not (stays_tells w a b x y hx hy one Arith.Mul Reading.Signed e (λ s. absurd (cc)))) whole,
    refl,
  ))) u v p q

  shift_gains : (flags : Flags) → AllowsDone (of_two (shift_left flags w) u v) (of_two (shift_left (gained_no_wrap Arith.Shl flags a b) w) u v)
  shift_gains flags = two_sound w one a b _ _ (λ x t hx ht. unless_allows _ _ _ _ (λ whole.
      let parts = or_false (nat_le w t) _ whole in
      let below = no_amount w t parts.0 in (
        both_false (nat_le w t) _ parts.0
            (gained_both flags.nuw (stays_in_range Arith.Shl Reading.Unsigned a b) (shift_leaves_unsigned w x t) flags.nsw (stays_in_range Arith.Shl Reading.Signed a b) (shift_leaves_signed w x t)
            (λ e. ap not (stays_tells w a b x t hx ht one Arith.Shl Reading.Unsigned e (λ s. below)))
            (λ e. ap not (stays_tells w a b x t hx ht one Arith.Shl Reading.Signed e (λ s. below))) parts.1),
        refl,
      ))) u v p q

  disjoint_gains : (flags : Flags) → AllowsDone (of_two (bitwise_or flags) u v) (of_two (bitwise_or (gained_flags Bin.Or flags a b)) u v)
  disjoint_gains flags = two_sound w one a b _ _ (λ x y hx hy. unless_allows _ _ _ _ (λ whole. (
    gained_whole flags.disjoint (numbers_pass ones_are_apart a b) (not (nat_eq (bit_and x y) 0))
        (λ e. ap not (eq-eqb (bit_and x y) 0 (apart_and w a b x y hx hy e))) whole,
    refl,
  ))) u v p q

  pub gained_sound : (bin : Bin) (flags : Flags) → AllowsDone (binary bin flags w u v) (binary bin (gained_flags bin flags a b) w u v)
  gained_sound Bin.Add flags = sum_gains flags
  gained_sound Bin.Sub flags = difference_gains flags
  gained_sound Bin.Mul flags = product_gains flags
  gained_sound Bin.Shl flags = shift_gains flags
  gained_sound Bin.Or flags = disjoint_gains flags
  gained_sound Bin.Udiv flags = same_done _ _ refl
  gained_sound Bin.Sdiv flags = same_done _ _ refl
  gained_sound Bin.Lshr flags = same_done _ _ refl
  gained_sound Bin.Ashr flags = same_done _ _ refl
  gained_sound Bin.Urem flags = same_done _ _ refl
  gained_sound Bin.Srem flags = same_done _ _ refl
  gained_sound Bin.And flags = same_done _ _ refl
  gained_sound Bin.Xor flags = same_done _ _ refl
