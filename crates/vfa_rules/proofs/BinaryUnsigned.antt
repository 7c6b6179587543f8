-- Signed operations on numbers of one sign give what the unsigned ones do.
use Rattle.std.proofs.Common.{◌≡◌, ℕ, ◌-◌, ◌/◌, ◌%◌, ◌≤◌, ◌<◌, ◌^◌, Bool, true, false, not, ◌&&◌, ◌||◌, if◌then◌else◌, cond, refl, sym, ◌∙◌, ap, subst, arith, mod-eq_of_lt, ℤ, pos, inl, inr}
use Rattle.std.specs.Prelude.{nat_eq, nat_lt, nat_le, int_lt, int_div, int_rem}
use Rattle.std.proofs.lemmas.Bool.{true≢false, cases_Bool, and_parts, or_cases, cases_lt}
use Rattle.std.proofs.lemmas.Bool.Decides.{nat_tests}
use Rattle.std.proofs.lemmas.Int.{ints}
use Rattle.std.proofs.Math.Nat.{div-le_self}
use Rattle.vfa_ir.specs.declared.operations.Bin.{Bin}
use Rattle.vfa_ir.specs.declared.operations.Flags.{Flags}
use Rattle.vfa_word.specs.Numbers.{signed_of, wrap, floor_div}
use Rattle.vfa_word.specs.Operations.{signed_quotient, signed_remainder, shifted_right, shifted_right_signed, sign_extended, zero_extended, equal, unsigned_less, signed_less}
use Rattle.vfa_word.proofs.Readings.{reading_low, reading_high}
use Rattle.vfa_fact.specs.Cells.{CellValue}
use Rattle.vfa_mean.specs.declared.value.Done.{Done}
use Rattle.vfa_mean.specs.declared.value.Val.{Val}
use Rattle.vfa_mean.specs.Laws.{AllowsDone}
use Rattle.vfa_mean.specs.Meaning.{binary, of_one, of_two, signed_division, unsigned_division, minus_one}
use Rattle.vfa_mean.specs.Rows.{number_unless, divide, divide_signed, remainder, remainder_signed, shift_right, shift_right_signed, loses_ones, compare, differ_in_sign, bit_of, convert, is_negative}
use Rattle.vfa_rules.specs.Conditions.{is_natural, have_one_sign}
use Rattle.vfa_rules.specs.Rules.{unsigned_binary, unsigned_cast, unsigned_order, unsigned_predicate}
use Rattle.vfa_rules.proofs.Allowing.{same_done, ub_allows, value_allows, unless_allows}
use Rattle.vfa_rules.proofs.Lifting.{Held, one_sound, two_sound, division_sound}
use Rattle.vfa_rules.proofs.Shown.{Shown, natural_tells, negative_tells}

mod_at_most : (m n : ℕ) → m % n ≤ m
mod_at_most m n = omega arith

-- numbers that are their own readings
module _ (w x y : ℕ) (hx : x < 2 ^ w) (ex : signed_of w x ≡ pos x) (ey : signed_of w y ≡ pos y) where
  quotients : signed_quotient w x y ≡ x / y
  quotients = (λ i. wrap w (int_div (ex i) (ey i))) ∙ mod-eq_of_lt (let less = div-le_self x y in omega arith)

  remainders : signed_remainder w x y ≡ x % y
  remainders = (λ i. wrap w (int_rem (ex i) (ey i))) ∙ mod-eq_of_lt (let less : x % y ≤ x = mod_at_most x y in omega arith)

divided : (t s : Bool) (d d' : Done) → AllowsDone d d' → AllowsDone (if t || s then Done.Ub else d) (if t then Done.Ub else d')
divided true s d d' h = ub_allows _
divided false true d d' h = ub_allows _
divided false false d d' h = h

module _ (w : ℕ) (one : 1 ≤ w) (a b : CellValue) (u v : Val) (p : Held w a u) (q : Held w b v) where
  natural_quotient : (flags : Flags) → is_natural a ≡ true → is_natural b ≡ true → AllowsDone (binary Bin.Sdiv flags w u v) (binary Bin.Udiv flags w u v)
  natural_quotient flags na nb = division_sound w one a b (divide_signed flags w) (divide flags) (λ x y hx hy.
      let ex = natural_tells w a x hx na in let ey = natural_tells w b y hy nb in
      divided (nat_eq y 0) (nat_eq y (minus_one w) && nat_eq x (2 ^ (w - 1))) (divide_signed flags w x y) (divide flags x y)
      (same_done _ _ (λ i. number_unless (flags.exact && not (nat_eq (remainders w x y hx.fits ex ey i) 0)) (quotients w x y hx.fits ex ey i)))) u v p q

  natural_remainder : (flags : Flags) → is_natural a ≡ true → is_natural b ≡ true → AllowsDone (binary Bin.Srem flags w u v) (binary Bin.Urem flags w u v)
  natural_remainder flags na nb = division_sound w one a b (remainder_signed w) remainder (λ x y hx hy.
      let ex = natural_tells w a x hx na in let ey = natural_tells w b y hy nb in
      divided (nat_eq y 0) (nat_eq y (minus_one w) && nat_eq x (2 ^ (w - 1))) (remainder_signed w x y) (remainder x y)
      (same_done _ _ (ap (λ k. Done.Is (Val.Number k)) (remainders w x y hx.fits ex ey)))) u v p q

  natural_shift : (flags : Flags) → is_natural a ≡ true → AllowsDone (binary Bin.Ashr flags w u v) (binary Bin.Lshr flags w u v)
  natural_shift flags na = two_sound w one a b (shift_right_signed flags w) (shift_right flags w) (λ x t hx ht.
      let ex = natural_tells w a x hx na in
      let same : shifted_right_signed w x t ≡ shifted_right x t =
      ap (λ z. wrap w (floor_div z (2 ^ t))) ex ∙ mod-eq_of_lt (let less = div-le_self x (2 ^ t) in let fits = hx.fits in omega arith) in
      same_done _ _ (ap (number_unless (nat_le w t || flags.exact && loses_ones x t)) same)) u v p q

  pub unsigned_sound : (bin : Bin) (flags : Flags) → AllowsDone (binary bin flags w u v) (binary (unsigned_binary bin a b) flags w u v)
  unsigned_sound Bin.Sdiv flags = at (is_natural a && is_natural b) refl
    where
      at : (t : Bool) → (is_natural a && is_natural b) ≡ t → AllowsDone (binary Bin.Sdiv flags w u v) (binary (if t then Bin.Udiv else Bin.Sdiv) flags w u v)
      at true e = let parts = and_parts (is_natural a) (is_natural b) e in natural_quotient flags parts.0 parts.1
      at false e = same_done _ _ refl
  unsigned_sound Bin.Srem flags = at (is_natural a && is_natural b) refl
    where
      at : (t : Bool) → (is_natural a && is_natural b) ≡ t → AllowsDone (binary Bin.Srem flags w u v) (binary (if t then Bin.Urem else Bin.Srem) flags w u v)
      at true e = let parts = and_parts (is_natural a) (is_natural b) e in natural_remainder flags parts.0 parts.1
      at false e = same_done _ _ refl
  unsigned_sound Bin.Ashr flags = at (is_natural a) refl
    where
      at : (t : Bool) → is_natural a ≡ t → AllowsDone (binary Bin.Ashr flags w u v) (binary (if t then Bin.Lshr else Bin.Ashr) flags w u v)
      at true e = natural_shift flags e
      at false e = same_done _ _ refl
  unsigned_sound Bin.Add flags = same_done _ _ refl
  unsigned_sound Bin.Sub flags = same_done _ _ refl
  unsigned_sound Bin.Mul flags = same_done _ _ refl
  unsigned_sound Bin.Shl flags = same_done _ _ refl
  unsigned_sound Bin.Udiv flags = same_done _ _ refl
  unsigned_sound Bin.Lshr flags = same_done _ _ refl
  unsigned_sound Bin.Urem flags = same_done _ _ refl
  unsigned_sound Bin.And flags = same_done _ _ refl
  unsigned_sound Bin.Or flags = same_done _ _ refl
  unsigned_sound Bin.Xor flags = same_done _ _ refl
