-- The tokens of a text, and the white space and comments between them, are all of it.
use Rattle.std.proofs.Common.{◌≡◌, ℕ, zero, suc, ◌+◌, ◌-◌, ◌<◌, ◌≤◌, ◌==◌, Bool, true, cond, List, [], ◌∷◌, length, drop, get_or, Option, Some, None, inl, inr, refl, ap, add-one, arith, drop-cons, length-drop}
use Rattle.std.specs.Str.{byte}
use Rattle.vfa_ir.proofs.Reading.{more_of, pick, piece_ends}
use Rattle.vfa_ir.specs.Tokens.{Piece, gap, token, piece_of, is_blank, is_mark, is_run_byte, group, has_colon, line_feed, meta, after_sigil, or_label, quoted, quoted_len, run_of, tokens_after, tokens_from}
use Rattle.vfa_ir.specs.declared.tokens.Token.{Token}
use Rattle.vfa_ir.specs.declared.tokens.TokenKind.{TokenKind}
use Rattle.vfa_lex.specs.Gaps.{BeginsGap, Fill, none, next}

abbrev GapBegins : ℕ → List ℕ → Piece → Type 0
GapBegins b rest (gap more) = BeginsGap b rest more
GapBegins b rest (token _ _) = Unit {0}

is_semicolon : (b : ℕ) → (b == byte ";") ≡ true → b ≡ byte ";"
is_semicolon b h = grind arith

gap_begins : (b : ℕ) (rest : List ℕ) → GapBegins b rest (piece_of b rest)
unfolding piece_of after_sigil meta group quoted or_label run_of
gap_begins b rest =
    let P : Piece → Type 0 = GapBegins b rest in
    let is_token : (t : Bool) (k l : TokenKind) (m n : ℕ) → P (cond t (token k m) (token l n)) =
    λ t k l m n. pick P t _ _ (λ _. tt) (λ _. tt) in
    pick P (is_blank b) _ _ (λ h. inl (h, refl))
    (λ _. pick P (b == byte ";") _ _ (λ h. inr (is_semicolon b h, refl))
    (λ _. pick P (b == byte "%") _ _ (λ _. is_token _ _ _ _ _)
    (λ _. pick P (b == byte "@") _ _ (λ _. is_token _ _ _ _ _)
    (λ _. pick P (b == byte "!") _ _ (λ _. is_token _ _ _ _ _)
    (λ _. pick P (b == byte "#") _ _ (λ _. is_token _ _ _ _ _)
    (λ _. pick P (b == byte "\"") _ _ (λ _. is_no_gap (quoted_len rest))
    (λ _. pick P (is_run_byte b) _ _ (λ _. is_token _ _ _ _ _)
    (λ _. pick P (is_mark b) _ _ (λ _. tt) (λ _. tt)))))))))
  where
    is_no_gap :
        (o : Option ℕ) →
        GapBegins b rest (elim o [ None ↦ token TokenKind.Other (length rest) | Some n ↦ or_label TokenKind.String n rest ])
    is_no_gap None = tt
    is_no_gap (Some n) = pick (GapBegins b rest) (has_colon n rest) _ _ (λ _. tt) (λ _. tt)

-- what stands at an offset at which a text is left
record Left (bytes : List ℕ) (place b : ℕ) (bs : List ℕ) : Type 0 where
  inside : place < length bytes
  here : get_or bytes place 0 ≡ b
  rest : drop (place + 1) bytes ≡ bs

left_at : (bytes : List ℕ) (place b : ℕ) (bs : List ℕ) → drop place bytes ≡ b ∷ bs → Left bytes place b bs
left_at bytes place b bs e =
    let long : length (drop place bytes) ≡ length bytes - place = length-drop place bytes in
    let more : length (drop place bytes) ≡ suc (length bs) = ap length e in
    let inside : place < length bytes = omega arith in
    let at_place : drop place bytes ≡ get_or bytes place 0 ∷ drop (place + 1) bytes = rw add-one (drop-cons bytes place 0 inside) in
    record { inside = inside; here = cc; rest = cc }

fill_more :
    (bytes : List ℕ) (at more : ℕ) (ts : List Token) → at < length bytes →
    BeginsGap (get_or bytes at 0) (drop (at + 1) bytes) more → Fill bytes (at + 1 + more) ts → Fill bytes at ts
fill_more bytes at more [] inside begins left = next at more (length bytes) inside begins left
fill_more bytes at more (t ∷ ts) inside begins left = (next at more t.start inside begins left.0, left.1)

fill :
    (bytes : List ℕ) (skip place line : ℕ) (bs : List ℕ) → drop place bytes ≡ bs → place ≤ length bytes →
    skip ≤ length bs → Fill bytes (place + skip) (tokens_after skip place line bs)
fill bytes skip place line [] e within short =
    let long : length (drop place bytes) ≡ length bytes - place = length-drop place bytes in
    let ended : length (drop place bytes) ≡ 0 = ap length e in
    let same : place + skip ≡ length bytes = omega arith in
    rw same (none (length bytes))
fill bytes (suc skip) place line (b ∷ bs) e within short =
    let left = left_at bytes place b bs e in
    let on : place + 1 + skip ≡ place + suc skip = omega arith in
    rw (← on) (fill bytes skip (place + 1) (line + line_feed b) bs left.rest (omega arith) (omega arith))
fill bytes zero place line (b ∷ bs) e within short =
    by_piece (piece_of b bs) (piece_ends b bs) (gap_begins b bs)
    (λ more inside. fill bytes more (place + 1) (line + line_feed b) bs (left_at bytes place b bs e).rest (let left = left_at bytes place b bs e in omega arith) inside)
  where
    by_piece :
        (p : Piece) → more_of p ≤ length bs → GapBegins b bs p →
        ((more : ℕ) → more ≤ length bs → Fill bytes (place + 1 + more) (tokens_after more (place + 1) (line + line_feed b) bs)) →
        Fill bytes (place + 0)
        (elim p [
          | gap more ↦ tokens_after more (place + 1) (line + line_feed b) bs
          | token kind more ↦
              record { kind = kind; start = place; end = place + 1 + more; line = line }
              ∷ tokens_after more (place + 1) (line + line_feed b) bs
        ])
    by_piece (gap more) ends begins after =
        let left = left_at bytes place b bs e in
        let at : place + 0 ≡ place = omega arith in
        rw at (fill_more bytes place more _ left.inside (rw (left.here, left.rest) begins) (after more ends))
    by_piece (token kind more) ends begins after =
        let at : place + 0 ≡ place = omega arith in rw at (none place, after more ends)

pub tokens_fill : (bytes : List ℕ) (line : ℕ) → Fill bytes 0 (tokens_from bytes 0 line)
tokens_fill bytes line = fill bytes 0 0 line bytes refl (omega arith) (omega arith)
