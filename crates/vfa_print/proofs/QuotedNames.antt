-- A name in quotes stands for itself.
use Rattle.std.proofs.Common.{◌≡◌, ℕ, ◌+◌, ◌*◌, ◌/◌, ◌%◌, ◌<◌, ◌==◌, nat_lt, Bool, true, false, not, cond, List, [], ◌∷◌, ◌++◌, flat_map, refl, ap, ◌∙◌, arith}
use Rattle.std.proofs.lemmas.Bool.Decides.{nat_tests}
use Rattle.std.proofs.lemmas.List.Folds.{list_all-append}
use Rattle.std.specs.Char.{is_ascii_hexdigit}
use Rattle.std.specs.List.{list_all}
use Rattle.std.specs.Str.{byte}
use Rattle.vfa_ir.specs.Names.{decoded, hex_value}
use Rattle.vfa_print.specs.Layout.{hex_digit, is_escaped, byte_text}

-- a byte that closes no string
abbrev pub no_quote : ℕ → Bool
no_quote b = not (b == byte "\"")

record IsHexDigit (n c : ℕ) : Type 0 where
  hex : is_ascii_hexdigit c ≡ true
  value : hex_value c ≡ n
  no_quote : no_quote c ≡ true
  no_slash : (c == byte "\\") ≡ false

hex_small : (n : ℕ) → nat_lt n 10 ≡ true → IsHexDigit n (48 + n)
unfolding hex_value
hex_small n h = record {
  hex = grind (arith, nat_tests);
  value = grind (arith, nat_tests);
  no_quote = grind (arith, nat_tests);
  no_slash = grind (arith, nat_tests);
}

hex_large : (n : ℕ) → n < 16 → nat_lt n 10 ≡ false → IsHexDigit n (55 + n)
unfolding hex_value
hex_large n small h = record {
  hex = grind (arith, nat_tests);
  value = grind (arith, nat_tests);
  no_quote = grind (arith, nat_tests);
  no_slash = grind (arith, nat_tests);
}

is_hex : (n : ℕ) → n < 16 → IsHexDigit n (hex_digit n)
is_hex n small = by_test (nat_lt n 10) refl
  where
    by_test : (t : Bool) → nat_lt n 10 ≡ t → IsHexDigit n (cond t (48 + n) (55 + n))
    by_test true h = hex_small n h
    by_test false h = hex_large n small h

escaped_byte : (b : ℕ) → is_escaped b ≡ true → b < 256
unfolding is_escaped
escaped_byte b h = grind (arith, nat_tests)

plain_byte : (b : ℕ) → is_escaped b ≡ false → ((b == byte "\\") ≡ false) × (no_quote b ≡ true)
unfolding is_escaped
plain_byte b h = (grind (arith, nat_tests), grind (arith, nat_tests))

decoded_plain : (b : ℕ) (rest : List ℕ) → (b == byte "\\") ≡ false → decoded (b ∷ rest) ≡ b ∷ decoded rest
decoded_plain b [] h = refl
decoded_plain b (c ∷ []) h = rw h refl
decoded_plain b (c ∷ d ∷ rest) h = rw h refl

decoded_hex :
    (m n c d : ℕ) (rest : List ℕ) → IsHexDigit m c → IsHexDigit n d →
    decoded (byte "\\" ∷ c ∷ d ∷ rest) ≡ (16 * m + n) ∷ decoded rest
decoded_hex m n c d rest first second =
    rw (first.no_slash, first.hex, second.hex, first.value, second.value) refl

pub decoded_byte : (b : ℕ) (rest : List ℕ) → decoded (byte_text b ++ rest) ≡ b ∷ decoded rest
decoded_byte b rest = by_test (is_escaped b) refl
  where
    by_test :
        (t : Bool) → is_escaped b ≡ t →
        decoded (cond t (byte "\\" ∷ hex_digit (b / 16) ∷ hex_digit (b % 16) ∷ []) (b ∷ []) ++ rest) ≡ b ∷ decoded rest
    by_test true h =
        let small : b < 256 = escaped_byte b h in
        let whole : 16 * (b / 16) + b % 16 ≡ b = omega arith in
        decoded_hex (b / 16) (b % 16) _ _ rest (is_hex _ (omega arith)) (is_hex _ (omega arith))
        ∙ ap (λ n. n ∷ decoded rest) whole
    by_test false h = decoded_plain b rest (plain_byte b h).0

pub decoded_name : (name : List ℕ) → decoded (flat_map byte_text name) ≡ name
decoded_name [] = refl
decoded_name (b ∷ name) = decoded_byte b (flat_map byte_text name) ∙ ap (λ bs. b ∷ bs) (decoded_name name)

byte_unquoted : (b : ℕ) → list_all no_quote (byte_text b) ≡ true
byte_unquoted b = by_test (is_escaped b) refl
  where
    by_test :
        (t : Bool) → is_escaped b ≡ t →
        list_all no_quote (cond t (byte "\\" ∷ hex_digit (b / 16) ∷ hex_digit (b % 16) ∷ []) (b ∷ [])) ≡ true
    by_test true h =
        let small : b < 256 = escaped_byte b h in
        let first : IsHexDigit (b / 16) (hex_digit (b / 16)) = is_hex _ (omega arith) in
        let second : IsHexDigit (b % 16) (hex_digit (b % 16)) = is_hex _ (omega arith) in
        rw (first.no_quote, second.no_quote) refl
    by_test false h = rw (plain_byte b h).1 refl

pub name_unquoted : (name : List ℕ) → list_all no_quote (flat_map byte_text name) ≡ true
name_unquoted [] = refl
name_unquoted (b ∷ name) =
    list_all-append no_quote (byte_text b) (flat_map byte_text name) ∙ rw (byte_unquoted b, name_unquoted name) refl
