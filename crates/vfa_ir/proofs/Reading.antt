-- The steps of reading tokens, and where the tokens stand.
use Rattle.std.proofs.Common.{◌≡◌, ℕ, zero, suc, ◌+◌, ◌-◌, ◌<◌, ◌≤◌, ◌==◌, Bool, true, false, not, cond, List, [], ◌∷◌, length, take, drop, get_or, Option, Some, None, refl, sym, subst, ap, add-one, ◌∙◌, arith, drop-cons, length-drop}
use Rattle.std.proofs.Math.Seq.{take-length}
use Rattle.std.proofs.lemmas.List.{drop-drop, get_or-drop, length-take}
use Rattle.std.proofs.lemmas.List.Sums.{prefix_len-le-length}
use Rattle.std.specs.Char.{is_ascii_digit}
use Rattle.std.specs.List.{AllByRecursion, prefix_len}
use Rattle.std.specs.Str.{byte}
use Rattle.vfa_ir.specs.Tokens.{AreInOrder, IsPlaced, Piece, gap, token, piece_of, is_blank, is_bracket, is_run_byte, is_mark, group, has_colon, line_feed, line_feeds, line_len, meta, name_len, after_sigil, or_label, quoted, quoted_len, run_len, run_of, first, line_after, tokens_after, tokens_from}
use Rattle.vfa_ir.specs.declared.tokens.Token.{Token}
use Rattle.vfa_ir.specs.declared.tokens.TokenKind.{TokenKind}

-- how many bytes a piece has after its first
abbrev pub more_of : Piece → ℕ
more_of (gap more) = more
more_of (token _ more) = more

-- what still belongs to the piece before is passed over
pub tokens-skip :
    (skip place line : ℕ) (bs : List ℕ) →
    tokens_after skip place line bs ≡ tokens_after 0 (place + skip) (line + line_feeds (take skip bs)) (drop skip bs)
tokens-skip zero place line [] = refl
tokens-skip (suc skip) place line [] = refl
tokens-skip zero place line (b ∷ bs) =
    let at : place + 0 ≡ place = omega arith in
    let on : line + 0 ≡ line = omega arith in
    rw (at, on) refl
tokens-skip (suc skip) place line (b ∷ bs) =
    let at : place + 1 + skip ≡ place + suc skip = omega arith in
    let on : line + line_feed b + line_feeds (take skip bs) ≡ line + (line_feed b + line_feeds (take skip bs)) = omega arith in
    tokens-skip skip (place + 1) (line + line_feed b) bs ∙ rw (at, on) refl

-- what holds of either outcome of a test holds of its outcome
pub pick : {X : Type 0} (P : X → Type 0) (b : Bool) (x y : X) → (b ≡ true → P x) → (b ≡ false → P y) → P (cond b x y)
pick P true x y p q = p refl
pick P false x y p q = q refl

colon_inside : (rest : List ℕ) (more : ℕ) → has_colon more rest ≡ true → more < length rest
colon_inside [] more h = cc
colon_inside (b ∷ rest) zero h = omega arith
colon_inside (b ∷ rest) (suc more) h = let within : more < length rest = colon_inside rest more h in omega arith

quoted_inside : (bs : List ℕ) (n : ℕ) → quoted_len bs ≡ Some n → n ≤ length bs
quoted_inside bs n h = grind arith

name_inside : (bs : List ℕ) → name_len bs ≤ length bs
name_inside [] = omega arith
name_inside (b ∷ bs) =
    pick (λ n. n ≤ length (b ∷ bs)) (b == byte "\"") _ _
    (λ _. string_inside (quoted_len bs) refl)
    (λ _. prefix_len-le-length is_run_byte (b ∷ bs))
  where
    string_inside : (o : Option ℕ) → quoted_len bs ≡ o → (elim o [ None ↦ 0 | Some n ↦ n + 1 ]) ≤ length (b ∷ bs)
    string_inside None h = omega arith
    string_inside (Some n) h = let within : n ≤ length bs = quoted_inside bs n h in omega arith

-- a piece ends within the text
abbrev pub EndsWithin : List ℕ → Piece → Type 0
EndsWithin rest piece = more_of piece ≤ length rest

after_sigil_ends : (kind : TokenKind) (rest : List ℕ) → EndsWithin rest (after_sigil kind rest)
unfolding after_sigil
after_sigil_ends kind rest = pick (EndsWithin rest) (name_len rest == 0) _ _ (λ _. omega arith) (λ _. name_inside rest)

meta_ends : (rest : List ℕ) → EndsWithin rest (meta rest)
unfolding meta
meta_ends rest =
    pick (EndsWithin rest) (run_len rest == 0) _ _ (λ _. omega arith) (λ _. prefix_len-le-length is_run_byte rest)

group_ends : (rest : List ℕ) → EndsWithin rest (group rest)
unfolding group
group_ends rest =
    pick (EndsWithin rest) (prefix_len is_ascii_digit rest == 0) _ _ (λ _. omega arith)
    (λ _. prefix_len-le-length is_ascii_digit rest)

or_label_ends : (kind : TokenKind) (more : ℕ) (rest : List ℕ) → more ≤ length rest → EndsWithin rest (or_label kind more rest)
unfolding or_label
or_label_ends kind more rest within =
    pick (EndsWithin rest) (has_colon more rest) _ _
    (λ h. let colon : more < length rest = colon_inside rest more h in omega arith)
    (λ _. within)

quoted_ends : (rest : List ℕ) → EndsWithin rest (quoted rest)
unfolding quoted
quoted_ends rest = ends (quoted_len rest) refl
  where
    ends :
        (o : Option ℕ) → quoted_len rest ≡ o →
        EndsWithin rest (elim o [ None ↦ token TokenKind.Other (length rest) | Some n ↦ or_label TokenKind.String n rest ])
    ends None h = omega arith
    ends (Some n) h = or_label_ends TokenKind.String n rest (quoted_inside rest n h)

run_ends : (b : ℕ) (rest : List ℕ) → EndsWithin rest (run_of b rest)
unfolding run_of
run_ends b rest = or_label_ends _ (run_len rest) rest (prefix_len-le-length is_run_byte rest)

pub piece_ends : (b : ℕ) (rest : List ℕ) → EndsWithin rest (piece_of b rest)
unfolding piece_of
piece_ends b rest =
    let P : Piece → Type 0 = EndsWithin rest in
    pick P (is_blank b) _ _ (λ _. omega arith)
    (λ _. pick P (b == byte ";") _ _ (λ _. prefix_len-le-length _ rest)
    (λ _. pick P (b == byte "%") _ _ (λ _. after_sigil_ends _ rest)
    (λ _. pick P (b == byte "@") _ _ (λ _. after_sigil_ends _ rest)
    (λ _. pick P (b == byte "!") _ _ (λ _. meta_ends rest)
    (λ _. pick P (b == byte "#") _ _ (λ _. group_ends rest)
    (λ _. pick P (b == byte "\"") _ _ (λ _. quoted_ends rest)
    (λ _. pick P (is_run_byte b) _ _ (λ _. run_ends b rest)
    (λ _. pick P (is_mark b) _ _ (λ _. omega arith) (λ _. omega arith)))))))))

-- a gap of more than one byte is a comment, which ends before the line does
abbrev pub StaysOnLine : List ℕ → Piece → Type 0
StaysOnLine rest (gap more) = line_feeds (take more rest) ≡ 0
StaysOnLine rest (token _ _) = Unit {0}

line_len_cons :
    (b : ℕ) (rest : List ℕ) (t : Bool) → (b == byte "\n") ≡ t → line_feeds (take (line_len rest) rest) ≡ 0 →
    line_feeds (take (cond (not t) (1 + line_len rest) 0) (b ∷ rest)) ≡ 0
line_len_cons b rest true h left = refl
line_len_cons b rest false h left =
    let one : 1 + line_len rest ≡ suc (line_len rest) = omega arith in
    let none : 0 + line_feeds (take (line_len rest) rest) ≡ 0 = omega arith in
    rw (one, h) none

line_len_feeds : (rest : List ℕ) → line_feeds (take (line_len rest) rest) ≡ 0
line_len_feeds [] = refl
line_len_feeds (b ∷ rest) = line_len_cons b rest (b == byte "\n") refl (line_len_feeds rest)

pub gap_stays : (b : ℕ) (rest : List ℕ) → StaysOnLine rest (piece_of b rest)
unfolding piece_of after_sigil meta group quoted or_label run_of
gap_stays b rest =
    let P : Piece → Type 0 = StaysOnLine rest in
    let is_token : (t : Bool) (k l : TokenKind) (m n : ℕ) → P (cond t (token k m) (token l n)) = λ t k l m n. pick P t _ _ (λ _. tt) (λ _. tt) in
    pick P (is_blank b) _ _ (λ _. refl)
    (λ _. pick P (b == byte ";") _ _ (λ _. line_len_feeds rest)
    (λ _. pick P (b == byte "%") _ _ (λ _. is_token _ _ _ _ _)
    (λ _. pick P (b == byte "@") _ _ (λ _. is_token _ _ _ _ _)
    (λ _. pick P (b == byte "!") _ _ (λ _. is_token _ _ _ _ _)
    (λ _. pick P (b == byte "#") _ _ (λ _. is_token _ _ _ _ _)
    (λ _. pick P (b == byte "\"") _ _ (λ _. stays (quoted_len rest))
    (λ _. pick P (is_run_byte b) _ _ (λ _. is_token _ _ _ _ _)
    (λ _. pick P (is_mark b) _ _ (λ _. tt) (λ _. tt)))))))))
  where
    stays :
        (o : Option ℕ) →
        StaysOnLine rest (elim o [ None ↦ token TokenKind.Other (length rest) | Some n ↦ or_label TokenKind.String n rest ])
    stays None = tt
    stays (Some n) = pick (StaysOnLine rest) (has_colon n rest) _ _ (λ _. tt) (λ _. tt)

-- reading goes on after a gap
gap_cons :
    (b : ℕ) (rest : List ℕ) (place line more : ℕ) → piece_of b rest ≡ gap more →
    tokens_after 0 place line (b ∷ rest) ≡ tokens_after 0 (place + (1 + more)) (line + line_feed b) (drop more rest)
gap_cons b rest place line more h =
    let feeds : line_feeds (take more rest) ≡ 0 = (let P : Piece → Type 0 = StaysOnLine rest in subst P h (gap_stays b rest)) in
    let at : place + 1 + more ≡ place + (1 + more) = omega arith in
    let on : line + line_feed b + line_feeds (take more rest) ≡ line + line_feed b = omega arith in
    rw (h, tokens_after) (tokens-skip more (place + 1) (line + line_feed b) rest ∙ rw (at, on) refl)

pub gap_step :
    (bytes : List ℕ) (at line more : ℕ) → at < length bytes →
    piece_of (get_or bytes at 0) (drop (at + 1) bytes) ≡ gap more →
    tokens_from bytes at line ≡ tokens_from bytes (at + (1 + more)) (line + line_feed (get_or bytes at 0))
gap_step bytes at line more inside h =
    let begins : drop at bytes ≡ get_or bytes at 0 ∷ drop (at + 1) bytes = rw add-one (drop-cons bytes at 0 inside) in
    let left : drop more (drop (at + 1) bytes) ≡ drop (at + (1 + more)) bytes = drop-drop more (at + 1) bytes ∙ ap (λ n. drop n bytes) (omega arith) in
    rw begins (gap_cons _ _ at line more h ∙ rw left refl)

-- a token comes, and reading goes on after it
token_cons :
    (b : ℕ) (rest : List ℕ) (place line more : ℕ) (kind : TokenKind) → piece_of b rest ≡ token kind more →
    tokens_after 0 place line (b ∷ rest) ≡
    (let t : Token = record { kind = kind; start = place; end = place + 1 + more; line = line } in
    t ∷ tokens_after 0 t.end (line + line_feeds (take (1 + more) (b ∷ rest))) (drop more rest))
token_cons b rest place line more kind h =
    let one : 1 + more ≡ suc more = omega arith in
    let on : line + line_feed b + line_feeds (take more rest) ≡ line + (line_feed b + line_feeds (take more rest)) = omega arith in
    let t : Token = record { kind = kind; start = place; end = place + 1 + more; line = line } in
    rw (h, tokens_after, one) (ap (λ ts. t ∷ ts) (tokens-skip more (place + 1) (line + line_feed b) rest ∙ rw on refl))

pub token_step :
    (bytes : List ℕ) (at line more : ℕ) (kind : TokenKind) → at < length bytes →
    piece_of (get_or bytes at 0) (drop (at + 1) bytes) ≡ token kind more →
    tokens_from bytes at line ≡
    (let t : Token = record { kind = kind; start = at; end = at + 1 + more; line = line } in
    t ∷ tokens_from bytes t.end (line + line_feeds (take (1 + more) (drop at bytes))))
token_step bytes at line more kind inside h =
    let begins : drop at bytes ≡ get_or bytes at 0 ∷ drop (at + 1) bytes = rw add-one (drop-cons bytes at 0 inside) in
    let left : drop more (drop (at + 1) bytes) ≡ drop (at + 1 + more) bytes = drop-drop more (at + 1) bytes in
    rw begins (token_cons _ _ at line more kind h ∙ rw left refl)

-- a token of the bytes, of which the first stands at the offset on the line
record Stands (place line : ℕ) (bs : List ℕ) (t : Token) : Type 0 where
  after : place ≤ t.start
  some : t.start < t.end
  within : t.end ≤ place + length bs
  lines : t.line ≡ line + line_feeds (take (t.start - place) bs)
  piece :
      piece_of (get_or bs (t.start - place) 0) (drop (suc (t.start - place)) bs) ≡ token t.kind (t.end - (t.start + 1))

stands_after :
    (b : ℕ) (bs : List ℕ) (place line : ℕ) (t : Token) → Stands (place + 1) (line + line_feed b) bs t →
    Stands place line (b ∷ bs) t
stands_after b bs place line t s =
    let here : t.start - place ≡ suc (t.start - (place + 1)) = omega arith in
    record {
      after = omega arith;
      some = s.some;
      within = omega arith;
      lines = rw here (s.lines ∙ omega arith);
      piece = rw here s.piece;
    }

all_after :
    (b : ℕ) (bs : List ℕ) (place line : ℕ) (ts : List Token) →
    AllByRecursion (Stands (place + 1) (line + line_feed b) bs) ts → AllByRecursion (Stands place line (b ∷ bs)) ts
all_after b bs place line [] s = tt
all_after b bs place line (t ∷ ts) s = (stands_after b bs place line t s.0, all_after b bs place line ts s.1)

all_stand : (skip place line : ℕ) (bs : List ℕ) → AllByRecursion (Stands place line bs) (tokens_after skip place line bs)
all_stand skip place line [] = tt
all_stand (suc skip) place line (b ∷ bs) = all_after b bs place line _ (all_stand skip (place + 1) (line + line_feed b) bs)
all_stand zero place line (b ∷ bs) =
    by_piece (piece_of b bs) refl (piece_ends b bs)
    (λ more. all_after b bs place line _ (all_stand more (place + 1) (line + line_feed b) bs))
  where
    by_piece :
        (p : Piece) → piece_of b bs ≡ p → more_of p ≤ length bs →
        ((more : ℕ) → AllByRecursion (Stands place line (b ∷ bs)) (tokens_after more (place + 1) (line + line_feed b) bs)) →
        AllByRecursion (Stands place line (b ∷ bs))
        (elim p [
          | gap more ↦ tokens_after more (place + 1) (line + line_feed b) bs
          | token kind more ↦
              record { kind = kind; start = place; end = place + 1 + more; line = line }
              ∷ tokens_after more (place + 1) (line + line_feed b) bs
        ])
    by_piece (gap more) is inside left = left more
    by_piece (token kind more) is inside left =
        let none_before : place - place ≡ 0 = omega arith in
        let long : place + 1 + more - (place + 1) ≡ more = omega arith in (
          record {
            after = omega arith;
            some = omega arith;
            within = omega arith;
            lines = rw none_before (omega arith);
            piece = rw (none_before, long) is;
          },
          left more,
        )

all_placed :
    (bytes : List ℕ) (from line : ℕ) → from ≤ length bytes → (ts : List Token) →
    AllByRecursion (Stands from line (drop from bytes)) ts → AllByRecursion (IsPlaced bytes from line) ts
all_placed bytes from line inside [] s = tt
all_placed bytes from line inside (t ∷ ts) s =
    let long : length (drop from bytes) ≡ length bytes - from = length-drop from bytes in
    let after : from ≤ t.start = s.0.after in
    let at : from + (t.start - from) ≡ t.start = omega arith in
    let next : from + suc (t.start - from) ≡ t.start + 1 = omega arith in (
      record {
        after = after;
        some = s.0.some;
        within = omega arith;
        lines = s.0.lines;
        piece = (rw (get_or-drop, drop-drop, at, next) at s.0.piece);
      },
      all_placed bytes from line inside ts s.1,
    )

-- all tokens stand in the text, on their lines
pub tokens_placed :
    (bytes : List ℕ) (from line : ℕ) → from ≤ length bytes →
    AllByRecursion (IsPlaced bytes from line) (tokens_from bytes from line)
tokens_placed bytes from line inside = all_placed bytes from line inside _ (all_stand 0 from line (drop from bytes))

-- and one after the other
in_order_sooner : (from to : ℕ) (ts : List Token) → from ≤ to → AreInOrder to ts → AreInOrder from ts
in_order_sooner from to [] h s = tt
in_order_sooner from to (t ∷ ts) h s = (omega arith, s.1)

in_order : (skip place line : ℕ) (bs : List ℕ) → AreInOrder (place + skip) (tokens_after skip place line bs)
in_order skip place line [] = tt
in_order (suc skip) place line (b ∷ bs) =
    in_order_sooner _ (place + 1 + skip) _ (omega arith) (in_order skip (place + 1) (line + line_feed b) bs)
in_order zero place line (b ∷ bs) =
    by_piece (piece_of b bs) (λ more. in_order more (place + 1) (line + line_feed b) bs)
  where
    by_piece :
        (p : Piece) →
        ((more : ℕ) → AreInOrder (place + 1 + more) (tokens_after more (place + 1) (line + line_feed b) bs)) →
        AreInOrder (place + 0)
        (elim p [
          | gap more ↦ tokens_after more (place + 1) (line + line_feed b) bs
          | token kind more ↦
              record { kind = kind; start = place; end = place + 1 + more; line = line }
              ∷ tokens_after more (place + 1) (line + line_feed b) bs
        ])
    by_piece (gap more) left = in_order_sooner _ (place + 1 + more) _ (omega arith) (left more)
    by_piece (token kind more) left = (omega arith, left more)

pub tokens_in_order : (bytes : List ℕ) (from line : ℕ) → AreInOrder from (tokens_from bytes from line)
tokens_in_order bytes from line = in_order_sooner from (from + 0) _ (omega arith) (in_order 0 from line (drop from bytes))

pub gap_inside : (b : ℕ) (rest : List ℕ) (more : ℕ) → piece_of b rest ≡ gap more → more ≤ length rest
gap_inside b rest more h = let P : Piece → Type 0 = EndsWithin rest in subst P h (piece_ends b rest)

pub token_inside :
    (b : ℕ) (rest : List ℕ) (kind : TokenKind) (more : ℕ) → piece_of b rest ≡ token kind more → more ≤ length rest
token_inside b rest kind more h = let P : Piece → Type 0 = EndsWithin rest in subst P h (piece_ends b rest)

-- after its first token a text is read as from there on
rest_of : (place : ℕ) (bs : List ℕ) (t : Token) → List Token
rest_of place bs t =
    tokens_after 0 t.end (t.line + line_feeds (take (t.end - t.start) (drop (t.start - place) bs))) (drop (t.end - place) bs)

rest_later :
    (b : ℕ) (place : ℕ) (bs : List ℕ) (t : Token) → place + 1 ≤ t.start → t.start < t.end →
    rest_of (place + 1) bs t ≡ rest_of place (b ∷ bs) t
unfolding rest_of
rest_later b place bs t later some =
    let start : t.start - place ≡ suc (t.start - (place + 1)) = omega arith in
    let end : t.end - place ≡ suc (t.end - (place + 1)) = omega arith in
    rw (start, end) refl

first_passes : (P : Token → Type 0) (ts : List Token) (t : Token) → first ts ≡ Some t → AllByRecursion P ts → P t
first_passes P [] t h all = absurd (cc)
first_passes P (u ∷ ts) t h all = let same : u ≡ t = (cc) in subst P same all.0

rest_after :
    (b skip place line : ℕ) (bs : List ℕ) (t : Token) → first (tokens_after skip (place + 1) line bs) ≡ Some t →
    tokens_after skip (place + 1) line bs ≡ t ∷ rest_of (place + 1) bs t →
    tokens_after skip (place + 1) line bs ≡ t ∷ rest_of place (b ∷ bs) t
rest_after b skip place line bs t h e =
    let s : Stands (place + 1) line bs t = first_passes _ _ t h (all_stand skip (place + 1) line bs) in
    e ∙ ap (λ ts. t ∷ ts) (rest_later b place bs t s.after s.some)

rest_here :
    (b place line more : ℕ) (bs : List ℕ) (kind : TokenKind) →
    (let t : Token = record { kind = kind; start = place; end = place + 1 + more; line = line } in
    tokens_after more (place + 1) (line + line_feed b) bs ≡ rest_of place (b ∷ bs) t)
unfolding rest_of
rest_here b place line more bs kind =
    let start : place - place ≡ 0 = omega arith in
    let end : place + 1 + more - place ≡ suc more = omega arith in
    let on : line + line_feed b + line_feeds (take more bs) ≡ line + (line_feed b + line_feeds (take more bs)) = omega arith in
    tokens-skip more (place + 1) (line + line_feed b) bs ∙ rw (start, end, on) refl

rest_of_first :
    (skip place line : ℕ) (bs : List ℕ) (t : Token) → first (tokens_after skip place line bs) ≡ Some t →
    tokens_after skip place line bs ≡ t ∷ rest_of place bs t
rest_of_first skip place line [] t h = cc
rest_of_first (suc skip) place line (b ∷ bs) t h =
    rest_after b skip place (line + line_feed b) bs t h (rest_of_first skip (place + 1) (line + line_feed b) bs t h)
rest_of_first zero place line (b ∷ bs) t h =
    by_piece (piece_of b bs) h (λ more. rest_of_first more (place + 1) (line + line_feed b) bs t)
  where
    by_piece :
        (p : Piece) →
        first (elim p [
          | gap more ↦ tokens_after more (place + 1) (line + line_feed b) bs
          | token kind more ↦
              record { kind = kind; start = place; end = place + 1 + more; line = line }
              ∷ tokens_after more (place + 1) (line + line_feed b) bs
        ]) ≡ Some t →
        ((more : ℕ) → first (tokens_after more (place + 1) (line + line_feed b) bs) ≡ Some t →
        tokens_after more (place + 1) (line + line_feed b) bs ≡ t ∷ rest_of (place + 1) bs t) →
        (elim p [
          | gap more ↦ tokens_after more (place + 1) (line + line_feed b) bs
          | token kind more ↦
              record { kind = kind; start = place; end = place + 1 + more; line = line }
              ∷ tokens_after more (place + 1) (line + line_feed b) bs
        ]) ≡ t ∷ rest_of place (b ∷ bs) t
    by_piece (gap more) f left = rest_after b more place (line + line_feed b) bs t f (left more f)
    by_piece (token kind more) f left =
        let here : Token = record { kind = kind; start = place; end = place + 1 + more; line = line } in
        let same : here ≡ t = (cc) in
        let P : Token → Type 0 = λ u. (here ∷ tokens_after more (place + 1) (line + line_feed b) bs) ≡ (u ∷ rest_of place (b ∷ bs) u) in
        subst P same (ap (λ ts. here ∷ ts) (rest_here b place line more bs kind))

pub tokens_rest :
    (bytes : List ℕ) (from line : ℕ) (t : Token) → from ≤ length bytes → first (tokens_from bytes from line) ≡ Some t →
    tokens_from bytes from line ≡ t ∷ tokens_from bytes t.end (line_after bytes t)
unfolding rest_of
tokens_rest bytes from line t inside h =
    let s : IsPlaced bytes from line t = first_passes _ _ t h (tokens_placed bytes from line inside) in
    let after : from ≤ t.start = s.after in
    let some : t.start < t.end = s.some in
    let start : from + (t.start - from) ≡ t.start = omega arith in
    let end : from + (t.end - from) ≡ t.end = omega arith in
    rest_of_first 0 from line (drop from bytes) t h ∙ rw (drop-drop, drop-drop, start, end) refl

pub first_placed :
    (bytes : List ℕ) (from line : ℕ) (t : Token) → from ≤ length bytes → first (tokens_from bytes from line) ≡ Some t →
    IsPlaced bytes from line t
first_placed bytes from line t inside h = first_passes _ _ t h (tokens_placed bytes from line inside)

pub feeds_bound : (bs : List ℕ) → line_feeds bs ≤ length bs
feeds_bound [] = omega arith
feeds_bound (b ∷ bs) =
    let left : line_feeds bs ≤ length bs = feeds_bound bs in
    pick (λ n. n + line_feeds bs ≤ length (b ∷ bs)) (b == byte "\n") 1 0 (λ _. omega arith) (λ _. omega arith)

range_bound : (bytes : List ℕ) (from to : ℕ) → line_feeds (take (to - from) (drop from bytes)) ≤ to - from
range_bound bytes from to =
    let feeds : line_feeds (take (to - from) (drop from bytes)) ≤ length (take (to - from) (drop from bytes)) = feeds_bound _ in
    let long : length (take (to - from) (drop from bytes)) ≤ to - from = (rw length-take (omega arith)) in
    omega arith

pub placed_line :
    (bytes : List ℕ) (from line : ℕ) (t : Token) → IsPlaced bytes from line t → t.line ≤ line + (t.start - from)
placed_line bytes from line t p =
    let feeds : line_feeds (take (t.start - from) (drop from bytes)) ≤ t.start - from = range_bound bytes from t.start in
    let lines : t.line ≡ line + line_feeds (take (t.start - from) (drop from bytes)) = p.lines in
    omega arith

pub line_after_most :
    (bytes : List ℕ) (from line : ℕ) (t : Token) → IsPlaced bytes from line t →
    line_after bytes t ≤ line + (t.end - from)
line_after_most bytes from line t p =
    let on : t.line ≤ line + (t.start - from) = placed_line bytes from line t p in
    let feeds : line_feeds (take (t.end - t.start) (drop t.start bytes)) ≤ t.end - t.start = range_bound bytes t.start t.end in
    let after : from ≤ t.start = p.after in
    let some : t.start < t.end = p.some in
    omega arith

-- the same steps, at what the program sees of a text from an offset on
pub to_end : (bytes : List ℕ) (k : ℕ) → take (length bytes - k) (drop k bytes) ≡ drop k bytes
to_end bytes k = rw (← length-drop) (take-length (drop k bytes))

pub record TokenFound (bytes : List ℕ) (at line more : ℕ) (kind : TokenKind) : Type 0 where
  pub within : at + 1 + more ≤ length bytes
  pub found :
      tokens_from bytes at line ≡
      (let t : Token = record { kind = kind; start = at; end = at + 1 + more; line = line } in
      t ∷ tokens_from bytes t.end (line + line_feeds (take (1 + more) (drop at bytes))))

pub token_found :
    (bytes : List ℕ) (at line more : ℕ) (kind : TokenKind) → at < length bytes →
    token kind more ≡ piece_of (get_or bytes at 0) (take (length bytes - (at + 1)) (drop (at + 1) bytes)) →
    TokenFound bytes at line more kind
token_found bytes at line more kind inside h =
    let here : piece_of (get_or bytes at 0) (drop (at + 1) bytes) ≡ token kind more = sym (rw to_end at h) in
    let long : length (drop (at + 1) bytes) ≡ length bytes - (at + 1) = length-drop (at + 1) bytes in
    let fits : more ≤ length (drop (at + 1) bytes) = token_inside _ _ _ _ here in
    record { within = omega arith; found = token_step bytes at line more kind inside here }

pub record GapFound (bytes : List ℕ) (at line more : ℕ) : Type 0 where
  pub within : at + (1 + more) ≤ length bytes
  pub found : tokens_from bytes at line ≡ tokens_from bytes (at + (1 + more)) (line + line_feed (get_or bytes at 0))

pub gap_found :
    (bytes : List ℕ) (at line more : ℕ) → at < length bytes →
    gap more ≡ piece_of (get_or bytes at 0) (take (length bytes - (at + 1)) (drop (at + 1) bytes)) →
    GapFound bytes at line more
gap_found bytes at line more inside h =
    let here : piece_of (get_or bytes at 0) (drop (at + 1) bytes) ≡ gap more = sym (rw to_end at h) in
    let long : length (drop (at + 1) bytes) ≡ length bytes - (at + 1) = length-drop (at + 1) bytes in
    let fits : more ≤ length (drop (at + 1) bytes) = gap_inside _ _ _ here in
    record { within = omega arith; found = gap_step bytes at line more inside here }

pub no_first : (ts : List Token) → None ≡ first ts → ts ≡ []
no_first [] h = refl
no_first (t ∷ ts) h = cc

-- a closing brace is a token of its own
pub brace_end :
    (bytes : List ℕ) (from line : ℕ) (t : Token) → IsPlaced bytes from line t → get_or bytes t.start 0 ≡ byte "}" →
    t.end ≡ t.start + 1
unfolding piece_of is_blank is_run_byte is_mark is_bracket
brace_end bytes from line t p brace =
    let piece : piece_of (byte "}") (drop (t.start + 1) bytes) ≡ token t.kind (t.end - (t.start + 1)) = (rw brace at p.piece) in
    let none : 0 ≡ t.end - (t.start + 1) = ap more_of piece in
    let some : t.start < t.end = p.some in
    omega arith

-- lines are counted by the line feeds before them
no_feeds : (n : ℕ) → line_feeds (take n []) ≡ 0
no_feeds zero = refl
no_feeds (suc n) = refl

pub feeds_range :
    (bytes : List ℕ) (from to : ℕ) → from ≤ to →
    line_feeds (take to bytes) ≡ line_feeds (take from bytes) + line_feeds (take (to - from) (drop from bytes))
feeds_range bytes zero to h = let all : to - 0 ≡ to = omega arith in rw all (omega arith)
feeds_range bytes (suc from) zero h = absurd (omega arith)
feeds_range [] (suc from) (suc to) h = let none = no_feeds (suc to - suc from) in omega arith
feeds_range (b ∷ bytes) (suc from) (suc to) h =
    let left : suc to - suc from ≡ to - from = omega arith in
    let feeds : line_feeds (take to bytes) ≡ line_feeds (take from bytes) + line_feeds (take (to - from) (drop from bytes)) =
    feeds_range bytes from to (omega arith) in
    rw left (omega arith)

pub placed_feeds :
    (bytes : List ℕ) (from line : ℕ) (t : Token) → IsPlaced bytes from line t →
    t.line + line_feeds (take from bytes) ≡ line + line_feeds (take t.start bytes)
placed_feeds bytes from line t p =
    let feeds : line_feeds (take t.start bytes) ≡ line_feeds (take from bytes) + line_feeds (take (t.start - from) (drop from bytes)) =
    feeds_range bytes from t.start p.after in
    let lines : t.line ≡ line + line_feeds (take (t.start - from) (drop from bytes)) = p.lines in
    omega arith

pub line_after_feeds :
    (bytes : List ℕ) (from line : ℕ) (t : Token) → IsPlaced bytes from line t →
    line_after bytes t + line_feeds (take from bytes) ≡ line + line_feeds (take t.end bytes)
line_after_feeds bytes from line t p =
    let some : t.start < t.end = p.some in
    let before : t.line + line_feeds (take from bytes) ≡ line + line_feeds (take t.start bytes) = placed_feeds bytes from line t p in
    let feeds : line_feeds (take t.end bytes) ≡ line_feeds (take t.start bytes) + line_feeds (take (t.end - t.start) (drop t.start bytes)) =
    feeds_range bytes t.start t.end (omega arith) in
    omega arith
