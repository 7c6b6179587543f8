-- A piece stays what it is where the text is cut off after it.
use Rattle.std.proofs.Common.{◌≡◌, ◌∙◌, ℕ, zero, suc, ◌+◌, ◌<◌, ◌≤◌, ◌==◌, nat_lt, Bool, true, false, cond, List, [], ◌∷◌, ◌++◌, length, take, Option, Some, None, if◌then◌else◌, refl, sym, ap, arith, length-append, eqb-true, lt-ltb, le-ltb, ltb-true, ltb-false}
use Rattle.std.proofs.lemmas.List.{take-append-le}
use Rattle.std.specs.Char.{is_ascii_digit}
use Rattle.std.specs.List.{prefix_len}
use Rattle.std.specs.Str.{byte}
use Rattle.vfa_ir.proofs.Reading.{more_of}
use Rattle.vfa_ir.specs.Tokens.{Piece, gap, token, piece_of, is_blank, is_run_byte, group, has_colon, meta, name_len, after_sigil, or_label, quoted, quoted_len, run_len, run_of}
use Rattle.vfa_ir.specs.Words.{is_number}
use Rattle.vfa_ir.specs.declared.tokens.TokenKind.{TokenKind}
use Rattle.vfa_print.proofs.QuotedNames.{no_quote}

-- Lengths

pub prefix_cut : (p : ℕ → Bool) (prefix back : List ℕ) → prefix_len p (prefix ++ back) ≤ length prefix → prefix_len p prefix ≡ prefix_len p (prefix ++ back)
prefix_cut p [] back h = omega arith
prefix_cut p (b ∷ prefix) back h = go (p b) h (prefix_cut p prefix back)
  where
    go :
        (t : Bool) → cond t (1 + prefix_len p (prefix ++ back)) 0 ≤ suc (length prefix) →
        (prefix_len p (prefix ++ back) ≤ length prefix → prefix_len p prefix ≡ prefix_len p (prefix ++ back)) →
        cond t (1 + prefix_len p prefix) 0 ≡ cond t (1 + prefix_len p (prefix ++ back)) 0
    go true k again = ap (λ n. 1 + n) (again (omega arith))
    go false k again = refl

prefix_whole : (p : ℕ → Bool) (prefix back : List ℕ) → length prefix ≤ prefix_len p (prefix ++ back) → prefix_len p prefix ≡ length prefix
prefix_whole p [] back h = refl
prefix_whole p (b ∷ prefix) back h = go (p b) h (prefix_whole p prefix back)
  where
    go :
        (t : Bool) → suc (length prefix) ≤ cond t (1 + prefix_len p (prefix ++ back)) 0 →
        (length prefix ≤ prefix_len p (prefix ++ back) → prefix_len p prefix ≡ length prefix) → cond t (1 + prefix_len p prefix) 0 ≡ suc (length prefix)
    go true k again = let e = again (omega arith) in omega arith
    go false k again = absurd (omega arith)

quoted_is : (bs : List ℕ) (n : ℕ) → quoted_len bs ≡ Some n → (prefix_len no_quote bs < length bs) × (n ≡ prefix_len no_quote bs + 1)
quoted_is bs n h = go (nat_lt (prefix_len no_quote bs) (length bs)) refl h
  where
    go : (t : Bool) → nat_lt (prefix_len no_quote bs) (length bs) ≡ t → (if t then Some (prefix_len no_quote bs + 1) else None) ≡ Some n → (prefix_len no_quote bs < length bs) × (n ≡ prefix_len no_quote bs + 1)
    go true e k = (ltb-true _ _ e, cc)
    go false e k = absurd (cc)

quoted_not : (bs : List ℕ) → quoted_len bs ≡ None → length bs ≤ prefix_len no_quote bs
quoted_not bs h = go (nat_lt (prefix_len no_quote bs) (length bs)) refl h
  where
    go : (t : Bool) → nat_lt (prefix_len no_quote bs) (length bs) ≡ t → (if t then Some (prefix_len no_quote bs + 1) else None) ≡ None → length bs ≤ prefix_len no_quote bs
    go true e k = absurd (cc)
    go false e k = ltb-false _ _ e

quoted_some_cut : (prefix back : List ℕ) (n : ℕ) → quoted_len (prefix ++ back) ≡ Some n → n ≤ length prefix → quoted_len prefix ≡ Some n
quoted_some_cut prefix back n h within =
    let q = quoted_is (prefix ++ back) n h in
    let e : prefix_len no_quote prefix ≡ prefix_len no_quote (prefix ++ back) = prefix_cut no_quote prefix back (omega arith) in
    let t : nat_lt (prefix_len no_quote prefix) (length prefix) ≡ true = lt-ltb _ _ (omega arith) in
    ap (λ b. if b then Some (prefix_len no_quote prefix + 1) else None) t ∙ ap Some (ap (λ i. i + 1) e ∙ sym q.1)

quoted_none_cut : (prefix back : List ℕ) → quoted_len (prefix ++ back) ≡ None → quoted_len prefix ≡ None
quoted_none_cut prefix back h =
    let q = quoted_not (prefix ++ back) h in
    let long = length-append prefix back in
    let e = prefix_whole no_quote prefix back (omega arith) in
    let t : nat_lt (prefix_len no_quote prefix) (length prefix) ≡ false = le-ltb _ _ (omega arith) in
    ap (λ b. if b then Some (prefix_len no_quote prefix + 1) else None) t

abbrev after_quote : Option ℕ → ℕ
after_quote None = 0
after_quote (Some n) = n + 1

in_quotes :
    (prefix back : List ℕ) (o : Option ℕ) → quoted_len (prefix ++ back) ≡ o → after_quote o ≤ suc (length prefix) →
    after_quote (quoted_len prefix) ≡ after_quote o
in_quotes prefix back None e k = ap after_quote (quoted_none_cut prefix back e)
in_quotes prefix back (Some n) e k = ap after_quote (quoted_some_cut prefix back n e (omega arith))

name_cut : (prefix back : List ℕ) → name_len (prefix ++ back) ≤ length prefix → name_len prefix ≡ name_len (prefix ++ back)
name_cut [] back h = omega arith
name_cut (b ∷ prefix) back h = go (b == byte "\"") h
  where
    go :
        (t : Bool) → cond t (after_quote (quoted_len (prefix ++ back))) (run_len (b ∷ (prefix ++ back))) ≤ suc (length prefix) →
        cond t (after_quote (quoted_len prefix)) (run_len (b ∷ prefix)) ≡ cond t (after_quote (quoted_len (prefix ++ back))) (run_len (b ∷ (prefix ++ back)))
    go true k = in_quotes prefix back (quoted_len (prefix ++ back)) refl k
    go false k = prefix_cut is_run_byte (b ∷ prefix) back k

-- Pieces

abbrev long_or : TokenKind → TokenKind → ℕ → Piece
long_or none some n = if n == 0 then token none 0 else token some n

long_cut : (none some : TokenKind) (m n most : ℕ) → (n ≤ most → m ≡ n) → more_of (long_or none some n) ≤ most → long_or none some m ≡ long_or none some n
long_cut none some m n most same h = ap (long_or none some) (same (go (n == 0) refl h))
  where
    go : (t : Bool) → (n == 0) ≡ t → more_of (if t then token none 0 else token some n) ≤ most → n ≤ most
    go true e k = let zero_is : n ≡ 0 = eqb-true n 0 e in omega arith
    go false e k = k

colon_cut : (prefix back : List ℕ) (more : ℕ) → more < length prefix → has_colon more prefix ≡ has_colon more (prefix ++ back)
colon_cut [] back more h = absurd (omega arith)
colon_cut (b ∷ prefix) back zero h = refl
colon_cut (b ∷ prefix) back (suc more) h = colon_cut prefix back more (omega arith)

colon_past : (prefix : List ℕ) (more : ℕ) → length prefix ≤ more → has_colon more prefix ≡ false
colon_past [] more h = refl
colon_past (b ∷ prefix) zero h = absurd (omega arith)
colon_past (b ∷ prefix) (suc more) h = colon_past prefix more (omega arith)

label_more : (kind : TokenKind) (more : ℕ) (rest : List ℕ) → more ≤ more_of (or_label kind more rest)
unfolding or_label
label_more kind more rest = go (has_colon more rest)
  where
    go : (t : Bool) → more ≤ more_of (if t then token TokenKind.Label (more + 1) else token kind more)
    go true = omega arith
    go false = omega arith

label_cut : (kind : TokenKind) (more : ℕ) (prefix back : List ℕ) → more_of (or_label kind more (prefix ++ back)) ≤ length prefix → or_label kind more prefix ≡ or_label kind more (prefix ++ back)
unfolding or_label
label_cut kind more prefix back h = ap (λ t. if t then token TokenKind.Label (more + 1) else token kind more) (go (has_colon more (prefix ++ back)) refl h)
  where
    past : (t : Bool) → nat_lt more (length prefix) ≡ t → has_colon more (prefix ++ back) ≡ false → has_colon more prefix ≡ false
    past true e k = colon_cut prefix back more (ltb-true _ _ e) ∙ k
    past false e k = colon_past prefix more (ltb-false _ _ e)

    go : (t : Bool) → has_colon more (prefix ++ back) ≡ t → more_of (if t then token TokenKind.Label (more + 1) else token kind more) ≤ length prefix → has_colon more prefix ≡ has_colon more (prefix ++ back)
    go true e k = colon_cut prefix back more (omega arith)
    go false e k = past (nat_lt more (length prefix)) refl e ∙ sym e

abbrev string_piece : List ℕ → Option ℕ → Piece
string_piece rest None = token TokenKind.Other (length rest)
string_piece rest (Some n) = or_label TokenKind.String n rest

string_cut :
    (prefix back : List ℕ) (o : Option ℕ) → quoted_len (prefix ++ back) ≡ o → more_of (string_piece (prefix ++ back) o) ≤ length prefix →
    string_piece prefix (quoted_len prefix) ≡ string_piece (prefix ++ back) o
string_cut prefix back None e k =
    let long = length-append prefix back in
    let same : length prefix ≡ length (prefix ++ back) = omega arith in
    ap (string_piece prefix) (quoted_none_cut prefix back e) ∙ ap (token TokenKind.Other) same
string_cut prefix back (Some n) e k =
    let more = label_more TokenKind.String n (prefix ++ back) in
    ap (string_piece prefix) (quoted_some_cut prefix back n e (omega arith)) ∙ label_cut TokenKind.String n prefix back k

quoted_cut : (prefix back : List ℕ) → more_of (quoted (prefix ++ back)) ≤ length prefix → quoted prefix ≡ quoted (prefix ++ back)
unfolding quoted
quoted_cut prefix back h = string_cut prefix back (quoted_len (prefix ++ back)) refl h

run_cut : (b : ℕ) (prefix back : List ℕ) → more_of (run_of b (prefix ++ back)) ≤ length prefix → run_of b prefix ≡ run_of b (prefix ++ back)
unfolding run_of
run_cut b prefix back h =
    let m : ℕ = run_len (prefix ++ back) in
    let more = label_more (if is_number (b ∷ take m (prefix ++ back)) then TokenKind.Number else TokenKind.Word) m (prefix ++ back) in
    let within : run_len (prefix ++ back) ≤ length prefix = omega arith in
    let e : run_len prefix ≡ m = prefix_cut is_run_byte prefix back within in
    let t : take m prefix ≡ take m (prefix ++ back) = sym (take-append-le m prefix back within) in
    rw (e, t) (label_cut _ m prefix back h)

same_if :
    (c : Bool) (x y u v : Piece) (n : ℕ) → more_of (cond c u v) ≤ n → (more_of u ≤ n → x ≡ u) → (more_of v ≤ n → y ≡ v) → cond c x y ≡ cond c u v
same_if true x y u v n h first second = first h
same_if false x y u v n h first second = second h

pub piece_cut : (b : ℕ) (prefix back : List ℕ) → more_of (piece_of b (prefix ++ back)) ≤ length prefix → piece_of b prefix ≡ piece_of b (prefix ++ back)
unfolding piece_of after_sigil meta group
piece_cut b prefix back within =
    let n : ℕ = length prefix in
    same_if (is_blank b) _ _ _ _ n within (λ h. refl)
    (λ h. same_if (b == byte ";") _ _ _ _ n h (λ h. ap gap (prefix_cut _ prefix back h))
    (λ h. same_if (b == byte "%") _ _ _ _ n h (λ h. long_cut TokenKind.Other TokenKind.Local _ _ n (name_cut prefix back) h)
    (λ h. same_if (b == byte "@") _ _ _ _ n h (λ h. long_cut TokenKind.Other TokenKind.Global _ _ n (name_cut prefix back) h)
    (λ h. same_if (b == byte "!") _ _ _ _ n h (λ h. long_cut TokenKind.Mark TokenKind.Meta _ _ n (prefix_cut is_run_byte prefix back) h)
    (λ h. same_if (b == byte "#") _ _ _ _ n h (λ h. long_cut TokenKind.Other TokenKind.Group _ _ n (prefix_cut is_ascii_digit prefix back) h)
    (λ h. same_if (b == byte "\"") _ _ _ _ n h (quoted_cut prefix back)
    (λ h. same_if (is_run_byte b) _ _ _ _ n h (run_cut b prefix back)
    (λ h. refl))))))))
