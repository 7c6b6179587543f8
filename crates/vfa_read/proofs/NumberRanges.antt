-- The test of a number's range says what the grammar asks.
use Rattle.std.proofs.Common.{◌≡◌, ℕ, ◌-◌, ◌<◌, ◌≤◌, ◌^◌, Bool, true, false, ◌&&◌, ◌||◌, ◌==◌, nat_lt, nat_le, cond, List, [], ◌∷◌, pos, neg_ℤ, ◌≤ℤ◌, ◌<ℤ◌, refl, sym, ap, subst, ◌∙◌, arith, leb-true, ltb-true, pow_pos, eqb-true, lt-ltb, le-leb}
use Rattle.std.specs.Str.Parse.{digits_value}
use Rattle.std.proofs.lemmas.Int.{ints}
use Rattle.std.specs.Str.{byte}
use Rattle.vfa_ir.specs.Grammar.{IsNumberOf, IsInRange, number_value}
use Rattle.vfa_ir.specs.Words.{is_digits}
use Rattle.vfa_read.specs.Tables.{fits_number}
use Rattle.vfa_read.proofs.Words.{and_parts}

minus_low : (v m : ℕ) → v ≤ m → neg_ℤ (pos m) ≤ℤ neg_ℤ (pos v)
minus_low v m h = omega (arith, ints)

minus_high : (v m : ℕ) → 0 < m → neg_ℤ (pos v) <ℤ pos m
minus_high v m h = omega (arith, ints)

plain_low : (v m : ℕ) → neg_ℤ (pos m) ≤ℤ pos v
plain_low v m = omega (arith, ints)

plain_high : (v m : ℕ) → v < m → pos v <ℤ pos m
plain_high v m h = omega (arith, ints)

minus_is : (v m : ℕ) → neg_ℤ (pos m) ≤ℤ neg_ℤ (pos v) → v ≤ m
minus_is v m h = omega (arith, ints)

plain_is : (v m : ℕ) → pos v <ℤ pos m → v < m
plain_is v m h = omega (arith, ints)

or_true : (a b : Bool) → b ≡ true → (a || b) ≡ true
or_true true b e = refl
or_true false b e = e

or_second : (a b : Bool) → a ≡ true → (a || b) ≡ true
or_second true b e = refl
or_second false b e = cc

or_first : (a b : Bool) → b ≡ false → (a || b) ≡ true → a ≡ true
or_first true b f e = refl
or_first false b f e = cc

if_false : {A : Type 0} (b : Bool) (x y z : A) → b ≡ false → cond b x y ≡ z → y ≡ z
if_false true x y z f e = cc
if_false false x y z f e = e

module _ (w : ℕ) where
  minus_fits : (digits : List ℕ) → fits_number w (45 ∷ digits) ≡ true → IsNumberOf w (45 ∷ digits)
  minus_fits digits e =
      let p = and_parts (is_digits digits) (nat_le (digits_value 10 digits) (2 ^ (w - 1))) e in
      record {
        digits = p.0;
        in_range = record { least = minus_low _ _ (leb-true _ _ p.1); most = minus_high (digits_value 10 digits) (2 ^ w) (pow_pos w) };
      }

  plain_fits : (c : ℕ) (digits : List ℕ) → (c == byte "-") ≡ false → fits_number w (c ∷ digits) ≡ true → IsNumberOf w (c ∷ digits)
  plain_fits c digits n e =
      let v : ℕ = digits_value 10 (c ∷ digits) in
      let t = if_false (c == byte "-") _ (is_digits (c ∷ digits) && nat_lt v (2 ^ w)) true n e in
      let p = and_parts (is_digits (c ∷ digits)) (nat_lt v (2 ^ w)) t in
      let value_is : number_value (c ∷ digits) ≡ pos v = rw n refl in
      let is_range : IsInRange w (pos v) = record { least = plain_low v (2 ^ (w - 1)); most = plain_high v (2 ^ w) (ltb-true v (2 ^ w) p.1) } in
      record { digits = or_second (is_digits (c ∷ digits)) (c == byte "-" && is_digits digits) p.0; in_range = subst (IsInRange w) (sym value_is) is_range }

  pub fits_is : (text : List ℕ) → fits_number w text ≡ true → IsNumberOf w text
  fits_is [] e = cc
  fits_is (c ∷ digits) e = go (c == byte "-") refl
    where
      go : (b : Bool) → (c == byte "-") ≡ b → IsNumberOf w (c ∷ digits)
      go true m = let is = eqb-true c (byte "-") m in subst (λ z. IsNumberOf w (z ∷ digits)) (sym is) (minus_fits digits (ap (λ z. fits_number w (z ∷ digits)) (sym is) ∙ e))
      go false m = plain_fits c digits m e

  minus_back : (digits : List ℕ) → IsNumberOf w (45 ∷ digits) → fits_number w (45 ∷ digits) ≡ true
  minus_back digits n =
      let a = le-leb (digits_value 10 digits) (2 ^ (w - 1)) (minus_is (digits_value 10 digits) (2 ^ (w - 1)) n.in_range.least) in
      let d : is_digits digits ≡ true = n.digits in
      rw (d, a) refl

  plain_back : (c : ℕ) (digits : List ℕ) → (c == byte "-") ≡ false → IsNumberOf w (c ∷ digits) → fits_number w (c ∷ digits) ≡ true
  plain_back c digits m n =
      let v : ℕ = digits_value 10 (c ∷ digits) in
      let value_is : number_value (c ∷ digits) ≡ pos v = rw m refl in
      let most : pos v <ℤ pos (2 ^ w) = subst (λ z. z <ℤ pos (2 ^ w)) value_is n.in_range.most in
      let b = lt-ltb v (2 ^ w) (plain_is v (2 ^ w) most) in
      let no_minus : (c == byte "-" && is_digits digits) ≡ false = ap (λ z. z && is_digits digits) m in
      let d : is_digits (c ∷ digits) ≡ true = or_first (is_digits (c ∷ digits)) (c == byte "-" && is_digits digits) no_minus n.digits in
      rw m (rw (d, b) refl)

  pub is_fits : (text : List ℕ) → IsNumberOf w text → fits_number w text ≡ true
  is_fits [] n = n.digits
  is_fits (c ∷ digits) n = go (c == byte "-") refl
    where
      go : (b : Bool) → (c == byte "-") ≡ b → fits_number w (c ∷ digits) ≡ true
      go true m = let is = eqb-true c (byte "-") m in ap (λ z. fits_number w (z ∷ digits)) is ∙ minus_back digits (subst (λ z. IsNumberOf w (z ∷ digits)) is n)
      go false m = plain_back c digits m n
