-- What a token is does not depend on what follows it, where that ends a token.
use Rattle.std.proofs.Common.{◌≡◌, ℕ, zero, suc, ◌+◌, ◌<◌, ◌≤◌, ◌==◌, ◌||◌, nat_lt, Bool, true, false, not, cond, List, [], ◌∷◌, ◌++◌, length, Option, Some, None, IsTrue, refl, sym, ap, arith, ltb-true, lt-ltb, length-append}
use Rattle.std.specs.Char.{is_ascii_digit}
use Rattle.std.specs.List.{prefix_len}
use Rattle.std.proofs.lemmas.List.{take-append-le}
use Rattle.std.proofs.lemmas.List.Sums.{prefix_len-le-length}
use Rattle.std.specs.Str.{byte}
use Rattle.vfa_ir.specs.Tokens.{Piece, gap, token, piece_of, is_blank, is_run_byte, is_mark, group, has_colon, line_len, meta, name_len, after_sigil, or_label, quoted, quoted_len, run_len, run_of}
use Rattle.vfa_ir.specs.declared.tokens.TokenKind.{TokenKind}
use Rattle.vfa_ir.specs.declared.tokens.TokenKind.TheVariants as Kind

-- the bytes begin with none that lengthens a run, a number or a label
abbrev pub ends_token : List ℕ → Bool
ends_token [] = true
ends_token (b ∷ _) = not (is_run_byte b || b == byte ":")

-- A piece that the bytes after its first decide alone: a comment with an end, or a token that is neither unknown
-- nor begun by `!`.
abbrev pub is_firm : ℕ → List ℕ → Piece → Bool
is_firm b prefix (gap more) = nat_lt more (length prefix) || is_blank b
is_firm b prefix (token Kind.Other _) = false
is_firm b prefix (token Kind.Meta _) = false
is_firm b prefix (token Kind.Mark _) = not (b == byte "!")
is_firm b prefix (token _ _) = true

neither : (x y : Bool) → not (x || y) ≡ true → (x ≡ false) × (y ≡ false)
neither true y h = cc
neither false true h = cc
neither false false h = (refl, refl)

pick : {X : Type 0} (P : X → X → Type 0) (b : Bool) (x y z w : X) →
    (b ≡ true → P x z) → (b ≡ false → P y w) → P (cond b x y) (cond b z w)
pick P true x y z w p q = p refl
pick P false x y z w p q = q refl

-- prefixes
pub stops : (p : ℕ → Bool) (prefix rest : List ℕ) → prefix_len p rest ≡ 0 → prefix_len p (prefix ++ rest) ≡ prefix_len p prefix
stops p [] rest h = h
stops p (b ∷ prefix) rest h = rw (stops p prefix rest h) refl

stopped :
    (p : ℕ → Bool) (prefix rest : List ℕ) → prefix_len p prefix < length prefix →
    prefix_len p (prefix ++ rest) ≡ prefix_len p prefix
stopped p [] rest h = absurd (omega arith)
stopped p (b ∷ prefix) rest h = further (p b) h (λ within. stopped p prefix rest within)
  where
    further :
        (t : Bool) → cond t (1 + prefix_len p prefix) 0 < suc (length prefix) →
        (prefix_len p prefix < length prefix → prefix_len p (prefix ++ rest) ≡ prefix_len p prefix) →
        cond t (1 + prefix_len p (prefix ++ rest)) 0 ≡ cond t (1 + prefix_len p prefix) 0
    further true within left = rw (left (omega arith)) refl
    further false within left = refl

no_run : (rest : List ℕ) → IsTrue (ends_token rest) → run_len rest ≡ 0
no_run [] h = refl
no_run (b ∷ rest) h = let none : is_run_byte b ≡ false = (neither _ _ h).0 in rw none refl

no_digit : (b : ℕ) → is_run_byte b ≡ false → is_ascii_digit b ≡ false
unfolding is_run_byte
no_digit b h = grind arith

no_digits : (rest : List ℕ) → IsTrue (ends_token rest) → prefix_len is_ascii_digit rest ≡ 0
no_digits [] h = refl
no_digits (b ∷ rest) h = let none : is_ascii_digit b ≡ false = no_digit b (neither _ _ h).0 in rw none refl

pub run_stops : (prefix rest : List ℕ) → IsTrue (ends_token rest) → run_len (prefix ++ rest) ≡ run_len prefix
run_stops prefix rest h = stops is_run_byte prefix rest (no_run rest h)

pub colon_stops :
    (prefix rest : List ℕ) (more : ℕ) → IsTrue (ends_token rest) → more ≤ length prefix →
    has_colon more (prefix ++ rest) ≡ has_colon more prefix
colon_stops [] [] zero h within = refl
colon_stops [] (b ∷ rest) zero h within = (neither _ _ h).1
colon_stops [] rest (suc more) h within = absurd (omega arith)
colon_stops (b ∷ prefix) rest zero h within = refl
colon_stops (b ∷ prefix) rest (suc more) h within = colon_stops prefix rest more h (omega arith)

or_label_stops :
    (kind : TokenKind) (more : ℕ) (prefix rest : List ℕ) → IsTrue (ends_token rest) → more ≤ length prefix →
    or_label kind more (prefix ++ rest) ≡ or_label kind more prefix
unfolding or_label
or_label_stops kind more prefix rest h within = rw (colon_stops prefix rest more h within) refl

-- strings
abbrev pub inside : List ℕ → ℕ
inside bs = prefix_len (λ b. not (b == byte "\"")) bs

closed :
    (prefix : List ℕ) (n : ℕ) → quoted_len prefix ≡ Some n → (inside prefix < length prefix) × (n ≡ inside prefix + 1)
closed prefix n h = by_test (nat_lt (inside prefix) (length prefix)) refl h
  where
    by_test :
        (t : Bool) → nat_lt (inside prefix) (length prefix) ≡ t → cond t (Some (inside prefix + 1)) None ≡ Some n →
        (inside prefix < length prefix) × (n ≡ inside prefix + 1)
    by_test true e f = (ltb-true _ _ e, cc)
    by_test false e f = cc

pub quoted_stops : (prefix rest : List ℕ) (n : ℕ) → quoted_len prefix ≡ Some n → quoted_len (prefix ++ rest) ≡ Some n
quoted_stops prefix rest n h =
    let c : (inside prefix < length prefix) × (n ≡ inside prefix + 1) = closed prefix n h in
    let within : inside prefix < length prefix = c.0 in
    let same : inside (prefix ++ rest) ≡ inside prefix = stopped (λ b. not (b == byte "\"")) prefix rest within in
    let long : length (prefix ++ rest) ≡ length prefix + length rest = length-append prefix rest in
    let test : nat_lt (inside prefix) (length (prefix ++ rest)) ≡ true = lt-ltb _ _ (omega arith) in
    rw (same, test) (ap Some (sym c.1))

-- the kinds
after_sigil_stops :
    (b : ℕ) (kind : TokenKind) (prefix rest : List ℕ) → IsTrue (ends_token rest) →
    IsTrue (is_firm b prefix (after_sigil kind prefix)) → after_sigil kind (prefix ++ rest) ≡ after_sigil kind prefix
unfolding after_sigil
after_sigil_stops b kind prefix rest h firm = by_test (name_len prefix == 0) refl firm
  where
    name_stops : (bs : List ℕ) → (name_len bs == 0) ≡ false → name_len (bs ++ rest) ≡ name_len bs
    name_stops [] e = cc
    name_stops (c ∷ bs) e = by_quote (c == byte "\"") (quoted_len bs) refl e
      where
        by_quote :
            (t : Bool) (o : Option ℕ) → quoted_len bs ≡ o →
            (cond t (elim o [ None ↦ 0 | Some n ↦ n + 1 ]) (run_len (c ∷ bs)) == 0) ≡ false →
            cond t (elim (quoted_len (bs ++ rest)) [ None ↦ 0 | Some n ↦ n + 1 ]) (run_len (c ∷ (bs ++ rest)))
            ≡ cond t (elim o [ None ↦ 0 | Some n ↦ n + 1 ]) (run_len (c ∷ bs))
        by_quote true None is e = cc
        by_quote true (Some n) is e = rw (quoted_stops bs rest n is) refl
        by_quote false o is e = run_stops (c ∷ bs) rest h

    by_test :
        (t : Bool) → (name_len prefix == 0) ≡ t →
        IsTrue (is_firm b prefix (cond t (token TokenKind.Other 0) (token kind (name_len prefix)))) →
        after_sigil kind (prefix ++ rest) ≡ cond t (token TokenKind.Other 0) (token kind (name_len prefix))
    by_test true e f = cc
    by_test false e f = rw (name_stops prefix e, e) refl

group_stops : (prefix rest : List ℕ) → IsTrue (ends_token rest) → group (prefix ++ rest) ≡ group prefix
unfolding group
group_stops prefix rest h = rw (stops is_ascii_digit prefix rest (no_digits rest h)) refl

string_stops :
    (b : ℕ) (prefix rest : List ℕ) → IsTrue (ends_token rest) → IsTrue (is_firm b prefix (quoted prefix)) →
    quoted (prefix ++ rest) ≡ quoted prefix
unfolding quoted
string_stops b prefix rest h firm = by_len (quoted_len prefix) refl firm
  where
    by_len :
        (o : Option ℕ) → quoted_len prefix ≡ o →
        IsTrue (is_firm b prefix (elim o [ None ↦ token TokenKind.Other (length prefix) | Some n ↦ or_label TokenKind.String n prefix ])) →
        quoted (prefix ++ rest)
        ≡ (elim o [ None ↦ token TokenKind.Other (length prefix) | Some n ↦ or_label TokenKind.String n prefix ])
    by_len None e f = cc
    by_len (Some n) e f =
        let c : (inside prefix < length prefix) × (n ≡ inside prefix + 1) = closed prefix n e in
        let within : n ≤ length prefix = omega arith in
        rw (quoted_stops prefix rest n e, quoted) (or_label_stops TokenKind.String n prefix rest h within)

run_of_stops : (b : ℕ) (prefix rest : List ℕ) → IsTrue (ends_token rest) → run_of b (prefix ++ rest) ≡ run_of b prefix
unfolding run_of
run_of_stops b prefix rest h =
    let within : run_len prefix ≤ length prefix = prefix_len-le-length is_run_byte prefix in
    rw (run_stops prefix rest h, take-append-le (run_len prefix) prefix rest within)
    (or_label_stops _ (run_len prefix) prefix rest h within)

left_of : (x y : Bool) → (x || y) ≡ true → y ≡ false → x ≡ true
left_of true y h e = refl
left_of false y h e = cc

meta_firm : (b : ℕ) (prefix : List ℕ) → (b == byte "!") ≡ true → IsTrue (is_firm b prefix (meta prefix)) → ⊥
unfolding meta
meta_firm b prefix e firm = by_test (run_len prefix == 0) firm
  where
    by_test :
        (t : Bool) → IsTrue (is_firm b prefix (cond t (token TokenKind.Mark 0) (token TokenKind.Meta (run_len prefix)))) → ⊥
    by_test true f = let none : not (b == byte "!") ≡ false = ap not e in cc
    by_test false f = cc

pub piece_stops :
    (b : ℕ) (prefix rest : List ℕ) → IsTrue (ends_token rest) → IsTrue (is_firm b prefix (piece_of b prefix)) →
    piece_of b (prefix ++ rest) ≡ piece_of b prefix
unfolding piece_of
piece_stops b prefix rest h =
    let P : Piece → Piece → Type 0 = λ x y. IsTrue (is_firm b prefix y) → x ≡ y in
    pick P (is_blank b) _ _ _ _ (λ _ f. refl)
    (λ blank. pick P (b == byte ";") _ _ _ _ (λ _ f. comment blank f)
    (λ _. pick P (b == byte "%") _ _ _ _ (λ _ f. after_sigil_stops b _ prefix rest h f)
    (λ _. pick P (b == byte "@") _ _ _ _ (λ _ f. after_sigil_stops b _ prefix rest h f)
    (λ _. pick P (b == byte "!") _ _ _ _ (λ e f. exclamation e f)
    (λ _. pick P (b == byte "#") _ _ _ _ (λ _ f. group_stops prefix rest h)
    (λ _. pick P (b == byte "\"") _ _ _ _ (λ _ f. string_stops b prefix rest h f)
    (λ _. pick P (is_run_byte b) _ _ _ _ (λ _ f. run_of_stops b prefix rest h)
    (λ _. pick P (is_mark b) _ _ _ _ (λ _ f. refl) (λ _ f. refl)))))))))
  where
    comment : is_blank b ≡ false → IsTrue (is_firm b prefix (gap (line_len prefix))) → gap (line_len (prefix ++ rest)) ≡ gap (line_len prefix)
    comment blank f =
        let within : line_len prefix < length prefix = ltb-true _ _ (left_of _ _ f blank) in
        ap gap (stopped (λ c. not (c == byte "\n")) prefix rest within)

    exclamation : (b == byte "!") ≡ true → IsTrue (is_firm b prefix (meta prefix)) → meta (prefix ++ rest) ≡ meta prefix
    exclamation e f = absurd (meta_firm b prefix e f)
