-- The lexemes of a text without places, and how they stand to its tokens.
use Rattle.std.proofs.Common.{◌≡◌, ℕ, zero, suc, ◌+◌, ◌-◌, List, [], ◌∷◌, ◌++◌, length, take, drop, refl, subst, ◌∙◌, arith, append_assoc, length-append}
use Rattle.std.proofs.Math.Seq.{take-append_seam, drop-append_seam, drop-append-add}
use Rattle.std.proofs.lemmas.List.{drop-drop}
use Rattle.vfa_ir.proofs.Reading.{tokens-skip}
use Rattle.vfa_ir.specs.Lexemes.{Lexeme}
use Rattle.vfa_ir.specs.TokenLexemes.{lexeme_of, lexemes, token_lexeme}
use Rattle.vfa_ir.specs.Tokens.{Piece, gap, token, piece_of, line_feed, line_feeds, tokens_after, tokens_of}
use Rattle.vfa_ir.specs.declared.tokens.TokenKind.{TokenKind}

-- the lexemes of the bytes, of which so many still belong to the piece before them
abbrev pub found : ℕ → List ℕ → List Lexeme
found skip [] = []
found (suc skip) (b ∷ rest) = found skip rest
found zero (b ∷ rest) =
    elim (piece_of b rest) [
      | gap more ↦ found more rest
      | token kind more ↦ lexeme_of kind (b ∷ take more rest) ∷ found more rest
    ]

pub found_gap : (b : ℕ) (rest : List ℕ) (more : ℕ) → piece_of b rest ≡ gap more → found 0 (b ∷ rest) ≡ found more rest
found_gap b rest more h = rw (h, found) refl

pub found_token :
    (b : ℕ) (rest : List ℕ) (kind : TokenKind) (more : ℕ) → piece_of b rest ≡ token kind more →
    found 0 (b ∷ rest) ≡ lexeme_of kind (b ∷ take more rest) ∷ found more rest
found_token b rest kind more h = rw (h, found) refl

pub found_skip : (prefix rest : List ℕ) → found (length prefix) (prefix ++ rest) ≡ found 0 rest
found_skip [] rest = refl
found_skip (b ∷ prefix) rest = found_skip prefix rest

-- the bytes before a place do not count
pub slice_after :
    (prefix rest : List ℕ) (start end : ℕ) →
    take (length prefix + end - (length prefix + start)) (drop (length prefix + start) (prefix ++ rest)) ≡ take (end - start) (drop start rest)
slice_after prefix rest start end =
    let long : length prefix + end - (length prefix + start) ≡ end - start = omega arith in
    rw (long, drop-append-add) refl

whole_token :
    (prefix : List ℕ) (b : ℕ) (rest : List ℕ) (more line : ℕ) (kind : TokenKind) →
    token_lexeme (prefix ++ b ∷ rest) (record { kind = kind; start = length prefix; end = length prefix + 1 + more; line = line })
    ≡ lexeme_of kind (b ∷ take more rest)
whole_token prefix b rest more line kind =
    let long : length prefix + 1 + more - length prefix ≡ suc more = omega arith in
    rw (long, drop-append_seam) refl

-- a byte further on
one_more :
    (skip line b : ℕ) (prefix bs : List ℕ) →
    lexemes ((prefix ++ b ∷ []) ++ bs) (tokens_after skip (length (prefix ++ b ∷ [])) line bs) ≡ found skip bs →
    lexemes (prefix ++ b ∷ bs) (tokens_after skip (length prefix + 1) line bs) ≡ found skip bs
one_more skip line b prefix bs left =
    let P : List ℕ → ℕ → Type 0 = λ text place. lexemes text (tokens_after skip place line bs) ≡ found skip bs in
    subst (P (prefix ++ b ∷ bs)) (length-append prefix (b ∷ []))
    (subst (λ text. P text (length (prefix ++ b ∷ []))) (append_assoc prefix (b ∷ []) bs) left)

lexemes_after :
    (skip line : ℕ) (prefix bs : List ℕ) →
    lexemes (prefix ++ bs) (tokens_after skip (length prefix) line bs) ≡ found skip bs
lexemes_after skip line prefix [] = refl
lexemes_after (suc skip) line prefix (b ∷ bs) =
    one_more skip (line + line_feed b) b prefix bs (lexemes_after skip (line + line_feed b) (prefix ++ b ∷ []) bs)
lexemes_after zero line prefix (b ∷ bs) =
    by_piece (piece_of b bs)
    (λ more. one_more more (line + line_feed b) b prefix bs (lexemes_after more (line + line_feed b) (prefix ++ b ∷ []) bs))
  where
    by_piece :
        (p : Piece) →
        ((more : ℕ) → lexemes (prefix ++ b ∷ bs) (tokens_after more (length prefix + 1) (line + line_feed b) bs) ≡ found more bs) →
        lexemes (prefix ++ b ∷ bs)
        (elim p [
          | gap more ↦ tokens_after more (length prefix + 1) (line + line_feed b) bs
          | token kind more ↦
              record { kind = kind; start = length prefix; end = length prefix + 1 + more; line = line }
              ∷ tokens_after more (length prefix + 1) (line + line_feed b) bs
        ])
        ≡ (elim p [ gap more ↦ found more bs | token kind more ↦ lexeme_of kind (b ∷ take more bs) ∷ found more bs ])
    by_piece (gap more) left = left more
    by_piece (token kind more) left =
        let here = whole_token prefix b bs more line kind in
        let rest = left more in
        cc

pub lexemes_found : (bs : List ℕ) → lexemes bs (tokens_of bs) ≡ found 0 bs
lexemes_found bs = lexemes_after 0 1 [] bs

-- Text that reads as these lexemes before this rest, at each place and line, and after which the rest is read.
pub record Gives (prefix rest : List ℕ) (ls : List Lexeme) : Type 0 where
  pub found : found 0 (prefix ++ rest) ≡ ls ++ found 0 rest
  pub after :
      (place line : ℕ) →
      drop (length ls) (tokens_after 0 place line (prefix ++ rest))
      ≡ tokens_after 0 (place + length prefix) (line + line_feeds prefix) rest

pub feeds_append : (prefix rest : List ℕ) → line_feeds (prefix ++ rest) ≡ line_feeds prefix + line_feeds rest
feeds_append [] rest = omega arith
feeds_append (b ∷ prefix) rest =
    let left : line_feeds (prefix ++ rest) ≡ line_feeds prefix + line_feeds rest = feeds_append prefix rest in
    omega arith

pub same_place :
    (p q l m : ℕ) (bs : List ℕ) → p ≡ q → l ≡ m → tokens_after 0 p l bs ≡ tokens_after 0 q m bs
same_place p q l m bs e f = rw (e, f) refl

-- after the bytes of a piece
pub tokens_pass :
    (place line b : ℕ) (more rest : List ℕ) →
    tokens_after (length more) (place + 1) (line + line_feed b) (more ++ rest)
    ≡ tokens_after 0 (place + suc (length more)) (line + (line_feed b + line_feeds more)) rest
tokens_pass place line b more rest =
    tokens-skip (length more) (place + 1) (line + line_feed b) (more ++ rest)
    ∙ rw (take-append_seam, drop-append_seam) (same_place _ _ _ _ rest (omega arith) (omega arith))

pub gives_nothing : (rest : List ℕ) → Gives [] rest []
gives_nothing rest = record { found = refl; after = λ place line. same_place _ _ _ _ rest (omega arith) (omega arith) }

pub gives_more :
    (a b rest : List ℕ) (ls ms : List Lexeme) → Gives a (b ++ rest) ls → Gives b rest ms → Gives (a ++ b) rest (ls ++ ms)
gives_more a b rest ls ms g h = record {
  found = rw (append_assoc a b rest, append_assoc ls ms (found 0 rest), g.found, h.found) refl;
  after = λ place line. after place line (g.after place line);
}
  where
    after :
        (place line : ℕ) →
        drop (length ls) (tokens_after 0 place line (a ++ (b ++ rest))) ≡ tokens_after 0 (place + length a) (line + line_feeds a) (b ++ rest) →
        drop (length (ls ++ ms)) (tokens_after 0 place line ((a ++ b) ++ rest))
        ≡ tokens_after 0 (place + length (a ++ b)) (line + line_feeds (a ++ b)) rest
    after place line first =
        let both : length (ls ++ ms) ≡ length ls + length ms = length-append ls ms in
        let long : length (a ++ b) ≡ length a + length b = length-append a b in
        let feeds : line_feeds (a ++ b) ≡ line_feeds a + line_feeds b = feeds_append a b in
        rw (append_assoc a b rest, both, ← drop-drop (length ms) (length ls))
        (rw first (h.after (place + length a) (line + line_feeds a) ∙ same_place _ _ _ _ rest (omega arith) (omega arith)))

pub gives_gap :
    (b : ℕ) (more rest : List ℕ) → piece_of b (more ++ rest) ≡ gap (length more) → Gives (b ∷ more) rest []
gives_gap b more rest h = record {
  found = found_gap b (more ++ rest) (length more) h ∙ found_skip more rest;
  after = λ place line. rw (h, tokens_after) (tokens_pass place line b more rest);
}

pub gives_token :
    (b : ℕ) (more rest : List ℕ) (kind : TokenKind) → piece_of b (more ++ rest) ≡ token kind (length more) →
    Gives (b ∷ more) rest (lexeme_of kind (b ∷ more) ∷ [])
gives_token b more rest kind h = record {
  found =
      found_token b (more ++ rest) kind (length more) h ∙ rw (take-append_seam, found_skip more rest) refl;
  after = λ place line. rw (h, tokens_after) (tokens_pass place line b more rest);
}
