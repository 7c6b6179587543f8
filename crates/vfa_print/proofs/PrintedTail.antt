-- The bytes between the parameters and the body are read alone as they are in a text.
use Rattle.std.proofs.Common.{◌≡◌, ℕ, zero, suc, ◌+◌, ◌-◌, ◌<◌, ◌≤◌, ◌==◌, ◌||◌, nat_lt, Bool, true, false, not, List, [], ◌∷◌, ◌++◌, length, map, take, drop, IsTrue, refl, sym, subst, ap, ◌∙◌, arith, ltb-false}
use Rattle.std.proofs.Math.Seq.{drop-append_seam}
use Rattle.std.proofs.lemmas.List.{length-take, length-drop, take-append-le, drop-append-le}
use Rattle.std.proofs.lemmas.List.Elements.{recursion_from_All}
use Rattle.std.specs.List.{AllByRecursion}
use Rattle.std.specs.Str.{byte}
use Rattle.vfa_ir.proofs.Reading.{more_of, gap_inside, token_inside, tokens_placed}
use Rattle.vfa_ir.specs.Grammar.{may_follow_parameters}
use Rattle.vfa_ir.specs.Lexemes.{Lexeme}
use Rattle.vfa_ir.specs.Printable.{IsTail}
use Rattle.vfa_ir.specs.TokenLexemes.{lexeme_of, lexemes, bytes_between, end_of_last}
use Rattle.vfa_ir.specs.Tokens.{IsPlaced, Piece, gap, token, piece_of, is_blank, line_feed, line_feeds, tokens_after, tokens_of}
use Rattle.vfa_ir.specs.declared.tokens.Token.{Token}
use Rattle.vfa_ir.specs.declared.tokens.TokenKind.{TokenKind}
use Rattle.vfa_ir.specs.declared.tokens.TokenKind.TheVariants as Kind
use Rattle.vfa_print.proofs.Ending.{ends_token, is_firm, piece_stops}
use Rattle.vfa_print.proofs.Found.{Gives, found, lexemes_found, same_place, slice_after}

-- each piece is decided by these bytes alone, and the last one ends with them
abbrev pub AreFirm : ℕ → List ℕ → Type 0
AreFirm skip [] = skip ≡ 0
AreFirm (suc skip) (b ∷ bs) = AreFirm skip bs
AreFirm zero (b ∷ bs) = IsTrue (is_firm b bs (piece_of b bs)) × AreFirm (more_of (piece_of b bs)) bs

found_on :
    (skip : ℕ) (bs rest : List ℕ) → IsTrue (ends_token rest) → AreFirm skip bs →
    found skip (bs ++ rest) ≡ found skip bs ++ found 0 rest
found_on skip [] rest ends firm = rw firm refl
found_on (suc skip) (b ∷ bs) rest ends firm = found_on skip bs rest ends firm
found_on zero (b ∷ bs) rest ends firm =
    let same : piece_of b (bs ++ rest) ≡ piece_of b bs = piece_stops b bs rest ends firm.0 in
    rw (same, found) (by_piece (piece_of b bs) refl (found_on (more_of (piece_of b bs)) bs rest ends firm.1))
  where
    by_piece :
        (p : Piece) → piece_of b bs ≡ p → found (more_of p) (bs ++ rest) ≡ found (more_of p) bs ++ found 0 rest →
        (elim p [
          | gap more ↦ found more (bs ++ rest)
          | token kind more ↦ lexeme_of kind (b ∷ take more (bs ++ rest)) ∷ found more (bs ++ rest)
        ])
        ≡ (elim p [ gap more ↦ found more bs | token kind more ↦ lexeme_of kind (b ∷ take more bs) ∷ found more bs ]) ++ found 0 rest
    by_piece (gap more) is left = left
    by_piece (token kind more) is left =
        let within : more ≤ length bs = token_inside b bs kind more is in
        rw (take-append-le more bs rest within, left) refl

tokens_on :
    (skip place line : ℕ) (bs rest : List ℕ) → IsTrue (ends_token rest) → AreFirm skip bs →
    tokens_after skip place line (bs ++ rest)
    ≡ tokens_after skip place line bs ++ tokens_after 0 (place + length bs) (line + line_feeds bs) rest
tokens_on skip place line [] rest ends firm = rw firm (same_place _ _ _ _ rest (omega arith) (omega arith))
tokens_on (suc skip) place line (b ∷ bs) rest ends firm =
    tokens_on skip (place + 1) (line + line_feed b) bs rest ends firm
    ∙ ap (λ ts. tokens_after skip (place + 1) (line + line_feed b) bs ++ ts) (same_place _ _ _ _ rest (omega arith) (omega arith))
tokens_on zero place line (b ∷ bs) rest ends firm =
    let same : piece_of b (bs ++ rest) ≡ piece_of b bs = piece_stops b bs rest ends firm.0 in
    let more : ℕ = more_of (piece_of b bs) in
    rw (same, tokens_after)
    (by_piece (piece_of b bs)
    (tokens_on more (place + 1) (line + line_feed b) bs rest ends firm.1
    ∙ ap (λ ts. tokens_after more (place + 1) (line + line_feed b) bs ++ ts) (same_place _ _ _ _ rest (omega arith) (omega arith))))
  where
    by_piece :
        (p : Piece) →
        tokens_after (more_of p) (place + 1) (line + line_feed b) (bs ++ rest)
        ≡ tokens_after (more_of p) (place + 1) (line + line_feed b) bs
        ++ tokens_after 0 (place + length (b ∷ bs)) (line + line_feeds (b ∷ bs)) rest →
        (elim p [
          | gap more ↦ tokens_after more (place + 1) (line + line_feed b) (bs ++ rest)
          | token kind more ↦
              record { kind = kind; start = place; end = place + 1 + more; line = line }
              ∷ tokens_after more (place + 1) (line + line_feed b) (bs ++ rest)
        ])
        ≡ (elim p [
          | gap more ↦ tokens_after more (place + 1) (line + line_feed b) bs
          | token kind more ↦
              record { kind = kind; start = place; end = place + 1 + more; line = line }
              ∷ tokens_after more (place + 1) (line + line_feed b) bs
        ]) ++ tokens_after 0 (place + length (b ∷ bs)) (line + line_feeds (b ∷ bs)) rest
    by_piece (gap more) left = left
    by_piece (token kind more) left =
        let t : Token = record { kind = kind; start = place; end = place + 1 + more; line = line } in
        ap (λ ts. t ∷ ts) left

-- the end of the last token, or this place
abbrev pub end_or : ℕ → List Token → ℕ
end_or place [] = place
end_or place (t ∷ ts) = end_of_last t ts

abbrev pub MayFollow : Lexeme → Type 0
MayFollow l = IsTrue (may_follow_parameters l)

no_tokens : (skip place line : ℕ) (bs : List ℕ) → length bs ≤ skip → tokens_after skip place line bs ≡ []
no_tokens skip place line [] h = refl
no_tokens zero place line (b ∷ bs) h = absurd (omega arith)
no_tokens (suc skip) place line (b ∷ bs) h = no_tokens skip (place + 1) (line + line_feed b) bs (omega arith)

further : (p q n : ℕ) (ts : List Token) → end_or p ts ≡ n → p < n → end_or q ts ≡ n
further p q n [] h less = absurd (omega arith)
further p q n (t ∷ ts) h less = h

end_same : (t : Token) (ts : List Token) → end_of_last t ts ≡ end_or t.end ts
end_same t [] = refl
end_same t (u ∷ ts) = refl

not_first : (x y z : Bool) → not (x || y || z) ≡ true → not x ≡ true
not_first true y z h = h
not_first false y z h = refl

token_firm :
    (b more : ℕ) (bs : List ℕ) (kind : TokenKind) → MayFollow (lexeme_of kind (b ∷ take more bs)) →
    IsTrue (is_firm b bs (token kind more))
token_firm b more bs Kind.Other may = cc
token_firm b more bs Kind.Meta may = cc
token_firm b more bs Kind.Mark may = not_first (b == byte "!") (b == byte "{") (b == byte "}") may
token_firm b more bs _ may = refl

are_firm :
    (skip place line : ℕ) (bs : List ℕ) → skip ≤ length bs →
    end_or (place + skip) (tokens_after skip place line bs) ≡ place + length bs →
    AllByRecursion MayFollow (found skip bs) → AreFirm skip bs
are_firm skip place line [] within whole may = omega arith
are_firm (suc skip) place line (b ∷ bs) within whole may =
    let at : place + suc skip ≡ place + 1 + skip = omega arith in
    let on : place + suc (length bs) ≡ place + 1 + length bs = omega arith in
    are_firm skip (place + 1) (line + line_feed b) bs (omega arith)
    (subst (λ p. end_or p (tokens_after skip (place + 1) (line + line_feed b) bs) ≡ place + 1 + length bs) at (whole ∙ on)) may
are_firm zero place line (b ∷ bs) within whole may =
    by_piece (piece_of b bs) refl (λ more. are_firm more (place + 1) (line + line_feed b) bs) whole may
  where
    by_piece :
        (p : Piece) → piece_of b bs ≡ p →
        ((more : ℕ) → more ≤ length bs →
        end_or (place + 1 + more) (tokens_after more (place + 1) (line + line_feed b) bs) ≡ place + 1 + length bs →
        AllByRecursion MayFollow (found more bs) → AreFirm more bs) →
        end_or (place + 0)
        (elim p [
          | gap more ↦ tokens_after more (place + 1) (line + line_feed b) bs
          | token kind more ↦
              record { kind = kind; start = place; end = place + 1 + more; line = line }
              ∷ tokens_after more (place + 1) (line + line_feed b) bs
        ]) ≡ place + suc (length bs) →
        AllByRecursion MayFollow
        (elim p [ gap more ↦ found more bs | token kind more ↦ lexeme_of kind (b ∷ take more bs) ∷ found more bs ]) →
        IsTrue (is_firm b bs p) × AreFirm (more_of p) bs
    by_piece (gap more) is left whole may =
        let ts : List Token = tokens_after more (place + 1) (line + line_feed b) bs in
        let within : more ≤ length bs = gap_inside b bs more is in
        let on : place + suc (length bs) ≡ place + 1 + length bs = omega arith in
        let there : end_or (place + 1 + more) ts ≡ place + suc (length bs) = further (place + 0) (place + 1 + more) _ ts whole (omega arith) in
        (strict (nat_lt more (length bs)) refl, left more within (there ∙ on) may)
      where
        strict : (t : Bool) → nat_lt more (length bs) ≡ t → (t || is_blank b) ≡ true
        strict true e = refl
        strict false e =
            let none : tokens_after more (place + 1) (line + line_feed b) bs ≡ [] = no_tokens more _ _ bs (ltb-false _ _ e) in
            let stuck : place + 0 ≡ place + suc (length bs) = (rw none at whole) in
            absurd (omega arith)
    by_piece (token kind more) is left whole may =
        let t : Token = record { kind = kind; start = place; end = place + 1 + more; line = line } in
        let ts : List Token = tokens_after more (place + 1) (line + line_feed b) bs in
        let on : place + suc (length bs) ≡ place + 1 + length bs = omega arith in
        let there : end_or (place + 1 + more) ts ≡ place + suc (length bs) = sym (end_same t ts) ∙ whole in
        (token_firm b more bs kind may.0, left more (token_inside b bs kind more is) (there ∙ on) may.1)

-- where tokens of a text stand in a longer one
abbrev pub moved : ℕ → ℕ → Token → Token
moved n m t = record { kind = t.kind; start = n + t.start; end = n + t.end; line = m + t.line }

tokens_moved :
    (n m skip place line : ℕ) (bs : List ℕ) →
    tokens_after skip (n + place) (m + line) bs ≡ map (moved n m) (tokens_after skip place line bs)
tokens_moved n m skip place line [] = refl
tokens_moved n m (suc skip) place line (b ∷ bs) =
    let at : n + place + 1 ≡ n + (place + 1) = omega arith in
    let on : m + line + line_feed b ≡ m + (line + line_feed b) = omega arith in
    rw (at, on) (tokens_moved n m skip (place + 1) (line + line_feed b) bs)
tokens_moved n m zero place line (b ∷ bs) =
    let at : n + place + 1 ≡ n + (place + 1) = omega arith in
    let on : m + line + line_feed b ≡ m + (line + line_feed b) = omega arith in
    by_piece (piece_of b bs) (λ more. rw (at, on) (tokens_moved n m more (place + 1) (line + line_feed b) bs))
  where
    by_piece :
        (p : Piece) →
        ((more : ℕ) →
        tokens_after more (n + place + 1) (m + line + line_feed b) bs
        ≡ map (moved n m) (tokens_after more (place + 1) (line + line_feed b) bs)) →
        (elim p [
          | gap more ↦ tokens_after more (n + place + 1) (m + line + line_feed b) bs
          | token kind more ↦
              record { kind = kind; start = n + place; end = n + place + 1 + more; line = m + line }
              ∷ tokens_after more (n + place + 1) (m + line + line_feed b) bs
        ])
        ≡ map (moved n m) (elim p [
          | gap more ↦ tokens_after more (place + 1) (line + line_feed b) bs
          | token kind more ↦
              record { kind = kind; start = place; end = place + 1 + more; line = line }
              ∷ tokens_after more (place + 1) (line + line_feed b) bs
        ])
    by_piece (gap more) left = left more
    by_piece (token kind more) left =
        let end : n + place + 1 + more ≡ n + (place + 1 + more) = omega arith in
        let rest = left more in
        cc

end_moved : (n m : ℕ) (t : Token) (ts : List Token) → end_of_last (moved n m t) (map (moved n m) ts) ≡ n + end_of_last t ts
end_moved n m t [] = refl
end_moved n m t (u ∷ ts) = end_moved n m u ts

-- tokens within a text
abbrev pub EndsIn : List ℕ → Token → Type 0
EndsIn bs t = (t.start ≤ t.end) × (t.end ≤ length bs)

last_within : (bs : List ℕ) (t : Token) (ts : List Token) → EndsIn bs t → AllByRecursion (EndsIn bs) ts → end_of_last t ts ≤ length bs
last_within bs t [] h all = h.1
last_within bs t (u ∷ ts) h all = last_within bs u ts all.0 all.1

placed_within : (bs : List ℕ) (from line : ℕ) (ts : List Token) → AllByRecursion (IsPlaced bs from line) ts → AllByRecursion (EndsIn bs) ts
placed_within bs from line [] all = tt
placed_within bs from line (t ∷ ts) all =
    let p : IsPlaced bs from line t = all.0 in
    let some : t.start < t.end = p.some in
    ((omega arith, p.within), placed_within bs from line ts all.1)

pub tokens_within : (bs : List ℕ) → AllByRecursion (EndsIn bs) (tokens_of bs)
tokens_within bs = placed_within bs 0 1 (tokens_of bs) (tokens_placed bs 0 1 (omega arith))

-- what the tokens of a part span is the same in the whole
part_same :
    (bs rest : List ℕ) (start end : ℕ) → end ≤ length bs → start ≤ length bs →
    take (end - start) (drop start (bs ++ rest)) ≡ take (end - start) (drop start bs)
part_same bs rest start end h k =
    let long : length (drop start bs) ≡ length bs - start = length-drop start bs in
    rw (drop-append-le start bs rest k) (take-append-le (end - start) (drop start bs) rest (omega arith))

pub moved_bytes :
    (before bs rest : List ℕ) (m : ℕ) (ts : List Token) → AllByRecursion (EndsIn bs) ts →
    bytes_between (before ++ (bs ++ rest)) (map (moved (length before) m) ts) ≡ bytes_between bs ts
moved_bytes before bs rest m [] within = refl
moved_bytes before bs rest m (t ∷ ts) within =
    let here : EndsIn bs t = within.0 in
    let last : end_of_last t ts ≤ length bs = last_within bs t ts here within.1 in
    rw (end_moved (length before) m t ts)
    (slice_after before (bs ++ rest) t.start (end_of_last t ts) ∙ part_same bs rest t.start (end_of_last t ts) last (omega arith))

-- the last token of a tail ends it
whole_end : (bs : List ℕ) (ts : List Token) → bytes_between bs ts ≡ bs → AllByRecursion (EndsIn bs) ts → end_or 0 ts ≡ length bs
whole_end bs [] h within = ap length h
whole_end bs (t ∷ ts) h within =
    let last : end_of_last t ts ≤ length bs = last_within bs t ts within.0 within.1 in
    let long : length (take (end_of_last t ts - t.start) (drop t.start bs)) ≡ length bs = ap length h in
    let taken = length-take (end_of_last t ts - t.start) (drop t.start bs) in
    omega arith

pub tail_firm : (tail : List ℕ) → IsTail tail → AreFirm 0 tail
tail_firm tail is =
    let found_all : AllByRecursion MayFollow (found 0 tail) =
    subst (AllByRecursion MayFollow) (lexemes_found tail) (recursion_from_All MayFollow _ is.tokens) in
    are_firm 0 0 1 tail (omega arith) (whole_end tail (tokens_of tail) is.whole (tokens_within tail) ∙ omega arith) found_all

pub tail_found :
    (tail rest : List ℕ) → IsTail tail → IsTrue (ends_token rest) →
    found 0 (tail ++ rest) ≡ lexemes tail (tokens_of tail) ++ found 0 rest
tail_found tail rest is ends = found_on 0 tail rest ends (tail_firm tail is) ∙ ap (λ ls. ls ++ found 0 rest) (sym (lexemes_found tail))

-- its tokens in a text, where it stands between these bytes
pub tail_tokens :
    (before tail rest : List ℕ) (line : ℕ) → IsTail tail → IsTrue (ends_token rest) →
    tokens_after 0 (length before) (line + 1) (tail ++ rest)
    ≡ map (moved (length before) line) (tokens_of tail)
    ++ tokens_after 0 (length before + length tail) (line + 1 + line_feeds tail) rest
tail_tokens before tail rest line is ends =
    let here : length before + 0 ≡ length before = omega arith in
    let same : tokens_after 0 (length before) (line + 1) tail ≡ map (moved (length before) line) (tokens_of tail) =
    (rw here at (tokens_moved (length before) line 0 0 1 tail)) in
    tokens_on 0 (length before) (line + 1) tail rest ends (tail_firm tail is)
    ∙ ap (λ ts. ts ++ tokens_after 0 (length before + length tail) (line + 1 + line_feeds tail) rest) same

tokens_count :
    (skip place line : ℕ) (bs : List ℕ) → length (tokens_after skip place line bs) ≡ length (found skip bs)
tokens_count skip place line [] = refl
tokens_count (suc skip) place line (b ∷ bs) = tokens_count skip (place + 1) (line + line_feed b) bs
tokens_count zero place line (b ∷ bs) =
    by_piece (piece_of b bs) (λ more. tokens_count more (place + 1) (line + line_feed b) bs)
  where
    by_piece :
        (p : Piece) → ((more : ℕ) → length (tokens_after more (place + 1) (line + line_feed b) bs) ≡ length (found more bs)) →
        length {A = Token} (elim p [
          | gap more ↦ tokens_after more (place + 1) (line + line_feed b) bs
          | token kind more ↦
              record { kind = kind; start = place; end = place + 1 + more; line = line }
              ∷ tokens_after more (place + 1) (line + line_feed b) bs
        ])
        ≡ length {A = Lexeme} (elim p [ gap more ↦ found more bs | token kind more ↦ lexeme_of kind (b ∷ take more bs) ∷ found more bs ])
    by_piece (gap more) left = left more
    by_piece (token kind more) left = ap (λ n. suc n) (left more)

pub tail_gives :
    (tail rest : List ℕ) → IsTail tail → IsTrue (ends_token rest) → Gives tail rest (lexemes tail (tokens_of tail))
tail_gives tail rest is ends = record {
  found = tail_found tail rest is ends;
  after = λ place line. after place line;
}
  where
    after :
        (place line : ℕ) →
        drop (length (lexemes tail (tokens_of tail))) (tokens_after 0 place line (tail ++ rest))
        ≡ tokens_after 0 (place + length tail) (line + line_feeds tail) rest
    after place line =
        let many : length (lexemes tail (tokens_of tail)) ≡ length (tokens_after 0 place line tail) =
        ap length (lexemes_found tail) ∙ sym (tokens_count 0 place line tail) in
        rw (many, tokens_on 0 place line tail rest ends (tail_firm tail is))
        (drop-append_seam (tokens_after 0 place line tail) (tokens_after 0 (place + length tail) (line + line_feeds tail) rest))
