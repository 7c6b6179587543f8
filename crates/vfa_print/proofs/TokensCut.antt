-- The bytes from the first to the last of some tokens are read alone as the same tokens.
use Rattle.std.proofs.Common.{◌≡◌, ◌∙◌, ℕ, zero, suc, ◌+◌, ◌-◌, ◌<◌, ◌≤◌, List, [], ◌∷◌, ◌++◌, length, take, drop, map, Some, refl, sym, ap, subst, arith, length-drop}
use Rattle.std.proofs.Math.Seq.{take-length}
use Rattle.std.proofs.lemmas.List.{drop-drop, length-take, drop-append-le, take-append-le, take-append-drop, drop_all}
use Rattle.std.specs.List.{AllByRecursion}
use Rattle.vfa_ir.proofs.Reading.{more_of, first_placed, token_step, tokens_placed, tokens_rest}
use Rattle.vfa_ir.specs.TokenLexemes.{bytes_between, end_of_last, lexeme_of, lexemes, token_lexeme}
use Rattle.vfa_ir.specs.Tokens.{IsPlaced, Piece, gap, token, piece_of, first, line_after, line_feed, line_feeds, text_of, tokens_after, tokens_from, tokens_of}
use Rattle.vfa_ir.specs.declared.tokens.Token.{Token}
use Rattle.vfa_print.proofs.PiecesCut.{piece_cut}

abbrev read_on : ℕ → ℕ → ℕ → List ℕ → Piece → List Token
read_on b place line bs (gap more) = tokens_after more (place + 1) (line + line_feed b) bs
read_on b place line bs (token kind more) =
    record { kind = kind; start = place; end = place + 1 + more; line = line } ∷ tokens_after more (place + 1) (line + line_feed b) bs

-- the first token ends after what is passed over
first_ends_later : (skip place line : ℕ) (bs : List ℕ) (t : Token) → first (tokens_after skip place line bs) ≡ Some t → place + skip < t.end
first_ends_later skip place line [] t h = absurd (cc)
first_ends_later (suc skip) place line (b ∷ bs) t h =
    let later = first_ends_later skip (place + 1) (line + line_feed b) bs t h in omega arith
first_ends_later zero place line (b ∷ bs) t h = go (piece_of b bs) h (λ more. first_ends_later more (place + 1) (line + line_feed b) bs t)
  where
    go :
        (p : Piece) → first (read_on b place line bs p) ≡ Some t →
        ((more : ℕ) → first (tokens_after more (place + 1) (line + line_feed b) bs) ≡ Some t → place + 1 + more < t.end) → place + 0 < t.end
    go (gap more) k again = let later = again more k in omega arith
    go (token kind more) k again =
        let here : Token = record { kind = kind; start = place; end = place + 1 + more; line = line } in
        let same : here ≡ t = (cc) in
        let end : place + 1 + more ≡ t.end = ap (λ u. u.end) same in
        omega arith

-- it is the same where the bytes after it are cut off
first_cut :
    (skip place line : ℕ) (prefix back : List ℕ) (t : Token) → first (tokens_after skip place line (prefix ++ back)) ≡ Some t →
    t.end ≤ place + length prefix → first (tokens_after skip place line prefix) ≡ Some t
first_cut skip place line [] back t h within = let past = first_ends_later skip place line back t h in absurd (omega arith)
first_cut (suc skip) place line (b ∷ prefix) back t h within = first_cut skip (place + 1) (line + line_feed b) prefix back t h (omega arith)
first_cut zero place line (b ∷ prefix) back t h within =
    go (piece_of b (prefix ++ back)) refl h (λ more k. first_cut more (place + 1) (line + line_feed b) prefix back t k (omega arith))
  where
    cut : (p : Piece) → piece_of b (prefix ++ back) ≡ p → more_of p ≤ length prefix → piece_of b prefix ≡ p
    cut p e small = piece_cut b prefix back (subst (λ q. more_of q ≤ length prefix) (sym e) small) ∙ e

    go :
        (p : Piece) → piece_of b (prefix ++ back) ≡ p → first (read_on b place line (prefix ++ back) p) ≡ Some t →
        ((more : ℕ) → first (tokens_after more (place + 1) (line + line_feed b) (prefix ++ back)) ≡ Some t → first (tokens_after more (place + 1) (line + line_feed b) prefix) ≡ Some t) →
        first (read_on b place line prefix (piece_of b prefix)) ≡ Some t
    go (gap more) e k again =
        let past = first_ends_later more (place + 1) (line + line_feed b) (prefix ++ back) t k in
        ap (λ q. first (read_on b place line prefix q)) (cut (gap more) e (omega arith)) ∙ again more k
    go (token kind more) e k again =
        let here : Token = record { kind = kind; start = place; end = place + 1 + more; line = line } in
        let same : here ≡ t = (cc) in
        let end : place + 1 + more ≡ t.end = ap (λ u. u.end) same in
        ap (λ q. first (read_on b place line prefix q)) (cut (token kind more) e (omega arith)) ∙ ap Some same

-- bytes that are cut off
cut_length : (bytes : List ℕ) (e : ℕ) → e ≤ length bytes → length (take e bytes) ≡ e
cut_length bytes e h = let long = length-take e bytes in omega arith

cut_parts : (bytes : List ℕ) (from e : ℕ) → from ≤ e → e ≤ length bytes → drop from bytes ≡ drop from (take e bytes) ++ drop e bytes
cut_parts bytes from e h inside =
    let long = cut_length bytes e inside in
    ap (drop from) (sym (take-append-drop e bytes)) ∙ drop-append-le from (take e bytes) (drop e bytes) (omega arith)

range_cut : (bytes : List ℕ) (from to e : ℕ) → from ≤ to → to ≤ e → e ≤ length bytes → take (to - from) (drop from (take e bytes)) ≡ take (to - from) (drop from bytes)
range_cut bytes from to e h k inside =
    let long = cut_length bytes e inside in
    let left = length-drop from (take e bytes) in
    sym (ap (take (to - from)) (cut_parts bytes from e (omega arith) inside) ∙ take-append-le (to - from) (drop from (take e bytes)) (drop e bytes) (omega arith))

pub range_whole : (bytes : List ℕ) (from e : ℕ) → from ≤ e → e ≤ length bytes → take (e - from) (drop from bytes) ≡ drop from (take e bytes)
range_whole bytes from e h inside =
    let long = cut_length bytes e inside in
    let left : length (drop from (take e bytes)) ≡ e - from = length-drop from (take e bytes) ∙ omega arith in
    sym (range_cut bytes from e e h (omega arith) inside) ∙ ap (λ n. take n (drop from (take e bytes))) (sym left) ∙ take-length (drop from (take e bytes))

first_cut_from :
    (bytes : List ℕ) (from line e : ℕ) (t : Token) → from ≤ e → e ≤ length bytes → t.end ≤ e →
    first (tokens_from bytes from line) ≡ Some t → first (tokens_from (take e bytes) from line) ≡ Some t
first_cut_from bytes from line e t h inside within found =
    let long = cut_length bytes e inside in
    let left = length-drop from (take e bytes) in
    first_cut 0 from line (drop from (take e bytes)) (drop e bytes) t
    (ap (λ bs. first (tokens_after 0 from line bs)) (sym (cut_parts bytes from e h inside)) ∙ found) (omega arith)

-- where the last of some tokens ends
abbrev pub end_after : ℕ → List Token → ℕ
end_after from [] = from
end_after from (u ∷ us) = end_after u.end us

pub end_or_last : (u : Token) (us : List Token) → end_after u.end us ≡ end_of_last u us
end_or_last u [] = refl
end_or_last u (v ∷ us) = end_or_last v us

rest_is : (bytes : List ℕ) (from line : ℕ) (u : Token) (us : List Token) → from ≤ length bytes → tokens_from bytes from line ≡ u ∷ us → tokens_from bytes u.end (line_after bytes u) ≡ us
rest_is bytes from line u us inside e =
    let rest : tokens_from bytes from line ≡ u ∷ tokens_from bytes u.end (line_after bytes u) = tokens_rest bytes from line u inside (ap first e) in
    let both : (u ∷ tokens_from bytes u.end (line_after bytes u)) ≡ (u ∷ us) = sym rest ∙ e in
    cc

ends_later :
    (bytes : List ℕ) (from line : ℕ) (us vs : List Token) → from ≤ length bytes → tokens_from bytes from line ≡ us ++ vs →
    (from ≤ end_after from us) × (end_after from us ≤ length bytes)
ends_later bytes from line [] vs inside e = (omega arith, inside)
ends_later bytes from line (u ∷ us) vs inside e =
    let placed = first_placed bytes from line u inside (ap first e) in
    let within : u.end ≤ length bytes = placed.within in
    let after : from ≤ u.start = placed.after in
    let some : u.start < u.end = placed.some in
    let again = ends_later bytes u.end (line_after bytes u) us vs within (rest_is bytes from line u (us ++ vs) inside e) in
    let first_part = again.0 in
    (omega arith, again.1)

tokens_cut :
    (bytes : List ℕ) (from line e : ℕ) (us vs : List Token) → from ≤ length bytes → tokens_from bytes from line ≡ us ++ vs → end_after from us ≡ e →
    tokens_from (take e bytes) from line ≡ us
tokens_cut bytes from line e [] vs inside h last =
    let long = cut_length bytes e (omega arith) in
    let none : drop from (take e bytes) ≡ [] = drop_all from (take e bytes) (omega arith) in
    ap (tokens_after 0 from line) none
tokens_cut bytes from line e (u ∷ us) vs inside h last =
    let placed = first_placed bytes from line u inside (ap first h) in
    let within : u.end ≤ length bytes = placed.within in
    let after : from ≤ u.start = placed.after in
    let some : u.start < u.end = placed.some in
    let rest = rest_is bytes from line u (us ++ vs) inside h in
    let later = ends_later bytes u.end (line_after bytes u) us vs within rest in
    let low : u.end ≤ end_after u.end us = later.0 in
    let high : end_after u.end us ≤ length bytes = later.1 in
    let long = cut_length bytes e (omega arith) in
    let found = first_cut_from bytes from line e u (omega arith) (omega arith) (omega arith) (ap first h) in
    let same : line_after (take e bytes) u ≡ line_after bytes u = ap (λ bs. u.line + line_feeds bs) (range_cut bytes u.start u.end e (omega arith) (omega arith) (omega arith)) in
    let again : tokens_from (take e bytes) u.end (line_after bytes u) ≡ us = tokens_cut bytes u.end (line_after bytes u) e us vs within rest last in
    tokens_rest (take e bytes) from line u (omega arith) found ∙ ap (λ ts. u ∷ ts) (ap (tokens_from (take e bytes) u.end) same ∙ again)

-- tokens of bytes that stand elsewhere
abbrev pub shifted : ℕ → ℕ → Token → Token
shifted d c t = record { kind = t.kind; start = t.start + d; end = t.end + d; line = t.line + c }

moved_tokens : (skip place line d c : ℕ) (bs : List ℕ) → tokens_after skip (place + d) (line + c) bs ≡ map (shifted d c) (tokens_after skip place line bs)
moved_tokens skip place line d c [] = refl
moved_tokens (suc skip) place line d c (b ∷ bs) =
    let at : place + d + 1 ≡ place + 1 + d = omega arith in
    let on : line + c + line_feed b ≡ line + line_feed b + c = omega arith in
    rw (at, on) (moved_tokens skip (place + 1) (line + line_feed b) d c bs)
moved_tokens zero place line d c (b ∷ bs) = go (piece_of b bs) (λ more. moved_tokens more (place + 1) (line + line_feed b) d c bs)
  where
    go :
        (p : Piece) → ((more : ℕ) → tokens_after more (place + 1 + d) (line + line_feed b + c) bs ≡ map (shifted d c) (tokens_after more (place + 1) (line + line_feed b) bs)) →
        read_on b (place + d) (line + c) bs p ≡ map (shifted d c) (read_on b place line bs p)
    go (gap more) again =
        let at : place + d + 1 ≡ place + 1 + d = omega arith in
        let on : line + c + line_feed b ≡ line + line_feed b + c = omega arith in
        rw (at, on) (again more)
    go (token kind more) again =
        let at : place + d + 1 ≡ place + 1 + d = omega arith in
        let on : line + c + line_feed b ≡ line + line_feed b + c = omega arith in
        let end : place + 1 + d + more ≡ place + 1 + more + d = omega arith in
        rw (at, on, end) (ap (λ ts. shifted d c (record { kind = kind; start = place; end = place + 1 + more; line = line }) ∷ ts) (again more))

-- Reading may begin at the first token itself.
read_at :
    (bytes : List ℕ) (from line : ℕ) (u : Token) (us : List Token) → from ≤ length bytes → tokens_from bytes from line ≡ u ∷ us →
    tokens_from bytes u.start u.line ≡ u ∷ us
read_at bytes from line u us inside e =
    let placed = first_placed bytes from line u inside (ap first e) in
    let some : u.start < u.end = placed.some in
    let within : u.end ≤ length bytes = placed.within in
    let more : ℕ = u.end - (u.start + 1) in
    let step = token_step bytes u.start u.line more u.kind (omega arith) placed.piece in
    let end : u.start + 1 + more ≡ u.end = omega arith in
    let long : 1 + more ≡ u.end - u.start = omega arith in
    let rest = rest_is bytes from line u us inside e in
    step ∙ rw (end, long) (ap (λ ts. u ∷ ts) rest)

-- what some of the tokens are that stand elsewhere
moved_last : (d c : ℕ) (t : Token) (ts : List Token) → end_of_last (shifted d c t) (map (shifted d c) ts) ≡ end_of_last t ts + d
moved_last d c t [] = refl
moved_last d c t (u ∷ ts) = moved_last d c u ts

moved_text :
    (text : List ℕ) (s e c : ℕ) (t : Token) → s ≤ e → e ≤ length text → t.start < t.end → t.end ≤ length (drop s (take e text)) →
    text_of (drop s (take e text)) t ≡ text_of text (shifted s c t)
moved_text text s e c t h inside some within =
    let long = cut_length text e inside in
    let left = length-drop s (take e text) in
    let at : s + t.start ≡ t.start + s = omega arith in
    let wide : t.end - t.start ≡ t.end + s - (t.start + s) = omega arith in
    ap (take (t.end - t.start)) (drop-drop t.start s (take e text))
    ∙ rw (at, wide) (range_cut text (t.start + s) (t.end + s) e (omega arith) (omega arith) inside)

moved_lexemes :
    (text : List ℕ) (s e c : ℕ) (ts : List Token) → s ≤ e → e ≤ length text → AllByRecursion (IsPlaced (drop s (take e text)) 0 1) ts →
    lexemes (drop s (take e text)) ts ≡ lexemes text (map (shifted s c) ts)
moved_lexemes text s e c [] h inside placed = refl
moved_lexemes text s e c (t ∷ ts) h inside placed =
    let here = moved_text text s e c t h inside placed.0.some placed.0.within in
    ap (λ bs. lexeme_of t.kind bs ∷ lexemes (drop s (take e text)) ts) here
    ∙ ap (λ ls. token_lexeme text (shifted s c t) ∷ ls) (moved_lexemes text s e c ts h inside placed.1)

moved_whole :
    (tail : List ℕ) (s e c : ℕ) (u : Token) (us ts : List Token) → map (shifted s c) ts ≡ u ∷ us → u.start ≡ s → end_of_last u us ≡ e → length tail ≡ e - s →
    bytes_between tail ts ≡ tail
moved_whole tail s e c u us [] same begins ends long = absurd (cc)
moved_whole tail s e c u us (t ∷ ts) same begins ends long =
    let one : shifted s c t ≡ u = (cc) in
    let rest : map (shifted s c) ts ≡ us = (cc) in
    let start : t.start + s ≡ u.start = ap (λ x. x.start) one in
    let none : t.start ≡ 0 = omega arith in
    let last : end_of_last t ts + s ≡ e = sym (moved_last s c t ts) ∙ ap (λ x. end_of_last x (map (shifted s c) ts)) one ∙ ap (end_of_last u) rest ∙ ends in
    let wide : end_of_last t ts - 0 ≡ length tail = omega arith in
    ap (λ n. take (end_of_last t ts - n) (drop n tail)) none ∙ ap (λ n. take n tail) wide ∙ take-length tail

-- The bytes from the first of these tokens to the last, read alone.
pub record IsReadAlone (text : List ℕ) (us : List Token) : Type 0 where
  pub same : lexemes (bytes_between text us) (tokens_of (bytes_between text us)) ≡ lexemes text us
  pub whole : bytes_between (bytes_between text us) (tokens_of (bytes_between text us)) ≡ bytes_between text us

alone_at :
    (text : List ℕ) (s e c : ℕ) (u : Token) (us : List Token) → s ≤ e → e ≤ length text → u.start ≡ s → end_of_last u us ≡ e → u.line ≡ 1 + c →
    tokens_from (take e text) s u.line ≡ u ∷ us → IsReadAlone text (u ∷ us)
alone_at text s e c u us h inside begins ends on found =
    let tail : List ℕ = drop s (take e text) in
    let between : bytes_between text (u ∷ us) ≡ tail =
    ap (λ n. take (n - u.start) (drop u.start text)) ends ∙ ap (λ n. take (e - n) (drop n text)) begins ∙ range_whole text s e h inside in
    let long : length tail ≡ e - s = length-drop s (take e text) ∙ ap (λ n. n - s) (cut_length text e inside) in
    let zero_place : 0 + s ≡ s = omega arith in
    let same : map (shifted s c) (tokens_of tail) ≡ u ∷ us =
    sym (moved_tokens 0 0 1 s c tail) ∙ ap (λ n. tokens_after 0 n (1 + c) tail) zero_place ∙ ap (λ n. tokens_after 0 s n tail) (sym on) ∙ found in
    let read : lexemes tail (tokens_of tail) ≡ lexemes text (u ∷ us) =
    moved_lexemes text s e c (tokens_of tail) h inside (tokens_placed tail 0 1 (omega arith)) ∙ ap (lexemes text) same in
    let whole : bytes_between tail (tokens_of tail) ≡ tail = moved_whole tail s e c u us (tokens_of tail) same begins ends long in
    record {
      same = ap (λ bs. lexemes bs (tokens_of bs)) between ∙ read;
      whole = ap (λ bs. bytes_between bs (tokens_of bs)) between ∙ whole ∙ sym between;
    }

pub read_alone :
    (text : List ℕ) (from line : ℕ) (us vs : List Token) → from ≤ length text → 1 ≤ line → tokens_from text from line ≡ us ++ vs → IsReadAlone text us
read_alone text from line [] vs inside some e = record { same = refl; whole = refl }
read_alone text from line (u ∷ us) vs inside some e =
    let placed = first_placed text from line u inside (ap first e) in
    let after : from ≤ u.start = placed.after in
    let bytes : u.start < u.end = placed.some in
    let within : u.end ≤ length text = placed.within in
    let lines : u.line ≡ line + line_feeds (take (u.start - from) (drop from text)) = placed.lines in
    let later = ends_later text u.end (line_after text u) us vs within (rest_is text from line u (us ++ vs) inside e) in
    let last : ℕ = end_after u.end us in
    let low : u.end ≤ last = later.0 in
    let high : last ≤ length text = later.1 in
    let long : length (take last text) ≡ last = cut_length text last high in
    let cut = tokens_cut text from line last (u ∷ us) vs inside e refl in
    let found = read_at (take last text) from line u us (omega arith) cut in
    alone_at text u.start last (u.line - 1) u us (omega arith) high refl (sym (end_or_last u us)) (omega arith) found

-- Reading that has passed some tokens goes on from a place.
pub record GoesOn (text : List ℕ) (ts : List Token) : Type 0 where
  pub from : ℕ
  pub line : ℕ
  pub inside : from ≤ length text
  pub some : 1 ≤ line
  pub is : tokens_from text from line ≡ ts

goes_on_after : (text : List ℕ) (t : Token) (ts : List Token) → GoesOn text (t ∷ ts) → GoesOn text ts
goes_on_after text t ts g =
    let placed = first_placed text g.from g.line t g.inside (ap first g.is) in
    let lines : t.line ≡ g.line + line_feeds (take (t.start - g.from) (drop g.from text)) = placed.lines in
    let some : 1 ≤ g.line = g.some in
    record { from = t.end; line = line_after text t; inside = placed.within; some = omega arith; is = rest_is text g.from g.line t ts g.inside g.is }

pub goes_on : (text : List ℕ) (n : ℕ) (ts : List Token) → GoesOn text ts → GoesOn text (drop n ts)
goes_on text zero ts g = g
goes_on text (suc n) [] g = g
goes_on text (suc n) (t ∷ ts) g = goes_on text n ts (goes_on_after text t ts g)

pub read_part : (text : List ℕ) (k n : ℕ) → IsReadAlone text (take n (drop k (tokens_of text)))
read_part text k n =
    let g = goes_on text k (tokens_of text) (record { from = 0; line = 1; inside = omega arith; some = omega arith; is = refl }) in
    read_alone text g.from g.line (take n (drop k (tokens_of text))) (drop n (drop k (tokens_of text))) g.inside g.some
    (g.is ∙ sym (take-append-drop n (drop k (tokens_of text))))
