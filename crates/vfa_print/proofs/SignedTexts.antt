-- Decimals, and signed decimals of the range of their width.
use Rattle.std.proofs.Common.{◌≡◌, ◌∙◌, ℕ, zero, suc, ◌-◌, ◌*◌, ◌/◌, ◌%◌, ◌<◌, ◌≤◌, ◌^◌, Bool, true, false, ◌||◌, ◌==◌, nat_lt, cond, List, [], ◌∷◌, pos, neg_ℤ, ◌≤ℤ◌, ◌<ℤ◌, decimal, refl, sym, ap, subst, arith, ne_eqb, eqb-true, ltb-false, pow_pos, pow_mono, le-leb}
use Rattle.std.specs.Fmt.{digits, digits_onto, digit_glyph}
use Rattle.std.specs.List.{list_all}
use Rattle.std.specs.Char.{is_ascii_digit, digit_value}
use Rattle.std.specs.Str.Parse.{digits_value, AllDigits, IsNumeral}
use Rattle.std.proofs.Math.Nat.{pow-suc}
use Rattle.std.proofs.lemmas.Int.{ints}
use Rattle.std.proofs.lemmas.Fmt.{decimal_is_IsNumeral_wide}
use Rattle.std.proofs.lemmas.Str.Parse.{digit_from_value}
use Rattle.std.specs.Str.{byte}
use Rattle.vfa_ir.specs.declared.syntax.Literal.{Literal}
use Rattle.vfa_ir.specs.Grammar.{IsWidth, IsNumberOf, IsInRange, FitsLiteral, number_value}
use Rattle.vfa_ir.specs.Words.{is_digits, is_number}
use Rattle.vfa_print.specs.Trees.{signed_text, literal_tree}

-- a decimal is never empty, however large the number
some_either : (t : Bool) (x : ℕ) (xs ys : List ℕ) → (ys ≡ [] → ⊥) → cond t (x ∷ xs) ys ≡ [] → ⊥
some_either true x xs ys some e = cc
some_either false x xs ys some e = some e

onto_some : (k base : ℕ) (upper : Bool) (n x : ℕ) (xs : List ℕ) → digits_onto k base upper n (x ∷ xs) ≡ [] → ⊥
onto_some zero base upper n x xs e = cc
onto_some (suc k) base upper n x xs e =
    let last : ℕ = digit_glyph upper (n % base) in
    some_either (n / base == 0) last (x ∷ xs) _ (onto_some k base upper (n / base) last (x ∷ xs)) e

pub decimal_some : (n : ℕ) → decimal n ≡ [] → ⊥
unfolding digits
decimal_some n e =
    let last : ℕ = digit_glyph false (n % 10) in
    some_either (n / 10 == 0) last [] _ (onto_some 63 10 false (n / 10) last []) e

-- digits
digit_is : (c : ℕ) → digit_value c < 10 → is_ascii_digit c ≡ true
digit_is c h = let r = digit_from_value c h in let a = le-leb 48 c r.0 in let b = le-leb c 57 r.1 in rw (a, b) refl

pub all_digits : (ds : List ℕ) → AllDigits 10 ds → list_all is_ascii_digit ds ≡ true
all_digits [] d = refl
all_digits (c ∷ cs) d = let a = digit_is c d.0 in let b = all_digits cs d.1 in rw (a, b) refl

numeral_digits : (ds : List ℕ) → IsNumeral 10 ds → is_digits ds ≡ true
numeral_digits [] d = absurd (omega (arith, d.0))
numeral_digits (c ∷ cs) d = all_digits (c ∷ cs) d.1

or_first : (a b : Bool) → a ≡ true → (a || b) ≡ true
or_first true b e = refl
or_first false b e = cc

digits_number : (ds : List ℕ) → is_digits ds ≡ true → is_number ds ≡ true
digits_number [] e = e
digits_number (c ∷ cs) e = or_first (is_digits (c ∷ cs)) _ e

pub small_decimal_digits : (n : ℕ) → n < 10 ^ 64 → is_digits (decimal n) ≡ true
small_decimal_digits n h = numeral_digits (decimal n) (decimal_is_IsNumeral_wide n h).0

pub decimal_number : (n : ℕ) → n < 10 ^ 64 → is_number (decimal n) ≡ true
decimal_number n h = digits_number (decimal n) (small_decimal_digits n h)

-- ranges
minus_low : (v m : ℕ) → v ≤ m → neg_ℤ (pos m) ≤ℤ neg_ℤ (pos v)
minus_low v m h = omega (arith, ints)

minus_high : (v m : ℕ) → 0 < m → neg_ℤ (pos v) <ℤ pos m
minus_high v m h = omega (arith, ints)

plain_low : (v m : ℕ) → neg_ℤ (pos m) ≤ℤ pos v
plain_low v m = omega (arith, ints)

plain_high : (v m : ℕ) → v < m → pos v <ℤ pos m
plain_high v m h = omega (arith, ints)

plain_value : (ds : List ℕ) → IsNumeral 10 ds → number_value ds ≡ pos (digits_value 10 ds)
plain_value [] d = refl
plain_value (c ∷ cs) d =
    let no_minus : (c == byte "-") ≡ false = ne_eqb c 45 (λ e. omega (arith, digit_from_value c d.1.0)) in
    rw no_minus refl

plain_fits : (width n : ℕ) → n < 10 ^ 64 → n < 2 ^ width → IsNumberOf width (decimal n)
plain_fits width n small h =
    let d = decimal_is_IsNumeral_wide n small in
    let is_range : IsInRange width (pos n) = record { least = plain_low n (2 ^ (width - 1)); most = plain_high n (2 ^ width) h } in
    let value : number_value (decimal n) ≡ pos n = plain_value (decimal n) d.0 ∙ ap pos d.1 in
    record { digits = decimal_number n small; in_range = subst (IsInRange width) (sym value) is_range }

minus_fits : (width n : ℕ) → n < 10 ^ 64 → n ≤ 2 ^ (width - 1) → IsNumberOf width (byte "-" ∷ decimal n)
minus_fits width n small h =
    let d = decimal_is_IsNumeral_wide n small in
    let is_range : IsInRange width (neg_ℤ (pos n)) =
    record { least = minus_low n (2 ^ (width - 1)) h; most = minus_high n (2 ^ width) (pow_pos width) } in
    let value : number_value (byte "-" ∷ decimal n) ≡ neg_ℤ (pos n) = ap (λ v. neg_ℤ (pos v)) d.1 in
    record { digits = small_decimal_digits n small; in_range = subst (IsInRange width) (sym value) is_range }

power_small : (width : ℕ) → IsWidth width → 2 ^ width < 10 ^ 64
power_small width h =
    let most : width ≤ 128 = h.most in
    let small : 2 ^ width ≤ 2 ^ 128 = pow_mono {i = width} {j = 128} most in
    omega arith

double : (width : ℕ) → IsWidth width → 2 ^ width ≡ 2 ^ (width - 1) * 2
double zero h = absurd (omega (arith, h.least))
double (suc k) h = let e : suc k - 1 ≡ k = omega arith in pow-suc 2 k ∙ ap (λ j. 2 ^ j * 2) (sym e)

pub signed_fits : (width bits : ℕ) → IsWidth width → bits < 2 ^ width → IsNumberOf width (signed_text width bits)
signed_fits width bits w h = go (nat_lt bits (2 ^ (width - 1))) refl
  where
    small : 2 ^ width < 10 ^ 64
    small = power_small width w

    go :
        (t : Bool) → nat_lt bits (2 ^ (width - 1)) ≡ t →
        IsNumberOf width (cond t (decimal bits) (byte "-" ∷ decimal (2 ^ width - bits)))
    go true e = let s = small in plain_fits width bits (omega arith) h
    go false e =
        let s = small in
        let low : 2 ^ (width - 1) ≤ bits = ltb-false bits (2 ^ (width - 1)) e in
        let twice = double width w in
        minus_fits width (2 ^ width - bits) (omega arith) (omega arith)

pub literal_fits : (width bits : ℕ) → IsWidth width → bits < 2 ^ width → FitsLiteral width (literal_tree width bits)
literal_fits width bits w h = go (width == 1) refl
  where
    go :
        (t : Bool) → (width == 1) ≡ t →
        FitsLiteral width (cond t (Literal.Boolean (bits == 1)) (Literal.Number (signed_text width bits)))
    go true e = eqb-true width 1 e
    go false e = signed_fits width bits w h
