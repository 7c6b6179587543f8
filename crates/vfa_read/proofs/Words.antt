-- Texts and tests of texts.
use Rattle.std.proofs.Common.{◌≡◌, ℕ, ◌<◌, ◌≤◌, ◌^◌, Bool, true, false, not, ◌&&◌, ◌==◌, nat_le, cond, List, [], ◌∷◌, length, get_or, Option, Some, None, decimal, bytes_eq, refl, sym, ap, ◌∙◌, arith, ne_eqb, eqb-true, leb-true, true≢false, le-leb}
use Rattle.std.specs.List.{list_all}
use Rattle.std.specs.Char.{is_ascii_digit, digit_value}
use Rattle.std.specs.Str.Parse.{digits_value, AllDigits}
use Rattle.std.proofs.lemmas.Slice.Eq.{bytes_eq-Decides}
use Rattle.std.proofs.lemmas.Str.{digit_value_digit}
use Rattle.std.proofs.lemmas.Str.Parse.{digit_from_value, numerals_by_value, tells_digits}
use Rattle.std.proofs.lemmas.Fmt.{digits_decimal, digits_value-decimal, first_decimal, decimal-digits_value}
use Rattle.std.specs.Str.{byte}
use Rattle.vfa_ir.specs.Grammar.{IsWidth}
use Rattle.vfa_ir.specs.Words.{is_digits, type_word}
use Rattle.vfa_read.specs.Tables.{width_in_range, is_numeral, type_width}

pub same_text : (a b : List ℕ) → bytes_eq a b ≡ true → a ≡ b
same_text a b e = (bytes_eq-Decides a b).0 e

pub same_itself : (a : List ℕ) → bytes_eq a a ≡ true
same_itself a = (bytes_eq-Decides a a).1 refl

pub and_parts : (a b : Bool) → (a && b) ≡ true → (a ≡ true) × (b ≡ true)
and_parts true b e = (refl, e)
and_parts false b e = cc

pub not_parts : (a : Bool) → not a ≡ true → a ≡ false
not_parts true e = cc
not_parts false e = refl

-- a test that decides between something and nothing
pub tested : {A : Type 0} (b : Bool) (x y : A) → cond b (Some x) None ≡ Some y → (b ≡ true) × (x ≡ y)
tested true x y e = (refl, cc)
tested false x y e = cc

picked : {A : Type 0} (b : Bool) (x : Option A) (y : A) → cond b x None ≡ Some y → (b ≡ true) × (x ≡ Some y)
picked true x y e = (refl, e)
picked false x y e = cc

digit_is : (c : ℕ) → is_ascii_digit c ≡ true → digit_value c < 10
digit_is c e =
    let p = and_parts (nat_le 48 c) (nat_le c 57) e in
    let low : 48 ≤ c = leb-true 48 c p.0 in
    let high : c ≤ 57 = leb-true c 57 p.1 in
    omega (arith, digit_value_digit c (low, high))

is_digit : (c : ℕ) → digit_value c < 10 → is_ascii_digit c ≡ true
is_digit c h = let r = digit_from_value c h in let a = le-leb 48 c r.0 in let b = le-leb c 57 r.1 in rw (a, b) refl

pub all_digits : (ds : List ℕ) → list_all is_ascii_digit ds ≡ true → AllDigits 10 ds
all_digits [] e = tt
all_digits (c ∷ cs) e = let p = and_parts (is_ascii_digit c) (list_all is_ascii_digit cs) e in (digit_is c p.0, all_digits cs p.1)

pub digits_all : (ds : List ℕ) → AllDigits 10 ds → list_all is_ascii_digit ds ≡ true
digits_all [] d = refl
digits_all (c ∷ cs) d = let a = is_digit c d.0 in let b = digits_all cs d.1 in rw (a, b) refl

in_range_is : (n w : ℕ) → width_in_range n ≡ Some w → IsWidth w × (n ≡ w)
in_range_is n w e =
    let t = tested (nat_le 1 n && nat_le n 128) n w e in
    let p = and_parts (nat_le 1 n) (nat_le n 128) t.0 in
    let low : 1 ≤ n = leb-true 1 n p.0 in
    let high : n ≤ 128 = leb-true n 128 p.1 in
    (record { least = omega arith; most = omega arith }, t.1)

is_in_range : (w : ℕ) → IsWidth w → width_in_range w ≡ Some w
is_in_range w h = let a = le-leb 1 w h.least in let b = le-leb w 128 h.most in rw (a, b) refl

pub width_is : (text : List ℕ) (w : ℕ) → type_width text ≡ Some w → IsWidth w × (text ≡ type_word w)
width_is [] w e = cc
width_is (c ∷ []) w e = let p = picked (c == byte "i" && false) (width_in_range 0) w e in let q = and_parts (c == byte "i") false p.0 in let no = q.1 in cc
width_is (c ∷ d ∷ ds) w e =
    let digits : List ℕ = d ∷ ds in
    let p = picked (c == byte "i" && is_numeral digits) (width_in_range (digits_value 10 digits)) w e in
    let q = and_parts (c == byte "i") (is_numeral digits) p.0 in
    let r = and_parts (is_digits digits) (not (d == 48)) q.1 in
    let all = all_digits digits r.0 in
    let inside = in_range_is (digits_value 10 digits) w p.1 in
    let letter : c ≡ byte "i" = eqb-true c (byte "i") q.0 in
    let lead : get_or digits 0 0 ≡ 48 → length digits ≡ 1 = λ z. (let yes_zero : (d == 48) ≡ true = ap (λ x. x == 48) z in let no_zero = not_parts (d == 48) r.1 in absurd (true≢false (sym yes_zero ∙ no_zero))) in
    let most : w ≤ 128 = inside.0.most in
    let is = decimal-digits_value (numerals_by_value (AllDigits 10) tells_digits) digits all (omega arith) lead (omega (arith, inside.1)) in
    (inside.0, ap (λ z. z ∷ digits) letter ∙ ap (λ z. 105 ∷ z) (sym is ∙ ap decimal inside.1))

numeral : (ds : List ℕ) → AllDigits 10 ds → 48 < get_or ds 0 0 → is_numeral ds ≡ true
numeral [] d h = absurd (omega arith)
numeral (c ∷ cs) d h =
    let a = digits_all (c ∷ cs) d in
    let no_zero : (c == 48) ≡ false = ne_eqb c 48 (λ e. omega arith) in
    rw (a, no_zero) refl

pub is_width : (w : ℕ) → IsWidth w → type_width (type_word w) ≡ Some w
is_width w h =
    let low : 1 ≤ w = h.least in
    let high : w ≤ 128 = h.most in
    let small : w < 2 ^ 64 = omega arith in
    let own = numerals_by_value (AllDigits 10) tells_digits in
    let n = numeral (decimal w) (digits_decimal own w small) (first_decimal w (omega arith) small) in
    let v = digits_value-decimal own w small in
    let i = is_in_range w h in
    rw (n, v) i
