-- A scan by bytes that passes over strings and comments finds the braces that reading by tokens finds.
use Rattle.std.proofs.Common.{inl, inr, ◌≡◌, ℕ, ◌+◌, ◌-◌, ◌<◌, ◌≤◌, ◌==◌, ◌||◌, Bool, true, false, not, cond, List, [], ◌∷◌, length, take, drop, get_or, Option, Some, None, refl, sym, subst, ap, ◌∙◌, arith, length-drop, eqb-true}
use Rattle.std.proofs.lemmas.Bool.{cases_lt, true≢false}
use Rattle.std.proofs.lemmas.List.{drop_all}
use Rattle.std.specs.Char.{is_ascii_alphabetic, is_ascii_digit}
use Rattle.std.specs.List.{prefix_len}
use Rattle.std.specs.Str.{byte}
use Rattle.vfa_ir.proofs.Reading.{pick, to_end}
use Rattle.vfa_ir.specs.Tokens.{Piece, gap, token, after_sigil, group, is_blank, is_bracket, is_mark, is_run_byte, line_len, meta, name_len, piece_of, quoted_len, run_len}
use Rattle.vfa_ir.specs.declared.tokens.Token.{Token}
use Rattle.vfa_ir.specs.declared.tokens.TokenKind.{TokenKind}
use Rattle.vfa_module.proofs.Levels.{positive}
use Rattle.vfa_module.specs.Scan.{begins_global, begins_name, brace_at, line_on, passed, tokens_on}
use Rattle.vfa_module.specs.Split as spec
use Rattle.vfa_module.proofs.ScannedTokens.{Alike, alike_then, alike_back, IsPlain, opens_not, closes_not, or_false, token_on, gap_on, past, same_tokens, same_place, plain_as, differs, run_plain, run_no_other, begins_at, run_byte, run_bytes, quote_plain, string_passed, rest_passed, none_closes, name_passed, name_begins, IsUnclosedName, unclosed_name}

-- The byte at an offset

-- the same brace, where the define is named after the first tokens or not
record NamedAlike (text : List ℕ) (named_after : Bool) (ts us : List Token) : Type 0 where
  define :
      (named : Bool) (parens : ℕ) →
      spec.closing_of_define text named parens ts ≡ spec.closing_of_define text (named || named_after) parens us
  body : (braces : ℕ) → spec.closing_of_body text braces ts ≡ spec.closing_of_body text braces us

no_name : (text : List ℕ) (ts us : List Token) → Alike text ts us → NamedAlike text false ts us
no_name text ts us a = record {
  define = λ named parens. rw (or_false named) (a.define named parens);
  body = a.body;
}

-- what the byte at an offset makes of the search for the brace
pub record ByteStep (text : List ℕ) (start line at : ℕ) : Type 0 where
  pub define :
      (named : Bool) (parens : ℕ) →
      spec.closing_of_define text named parens (tokens_on text start line at) ≡
      cond (spec.opens_body named parens (get_or text at 0))
      (spec.closing_of_body text 0 (tokens_on text start line (at + 1)))
      (spec.closing_of_define text (named || begins_global (get_or text at 0) (drop (at + 1) text))
      (spec.parens_after parens (get_or text at 0))
      (tokens_on text start line (at + 1 + passed (get_or text at 0) (drop (at + 1) text))))
  pub body :
      (braces : ℕ) →
      spec.closing_of_body text braces (tokens_on text start line at) ≡
      cond (spec.closes_body braces (get_or text at 0))
      (let t : Token = record { kind = TokenKind.Mark; start = at; end = at + 1; line = line_on text start line at } in Some t)
      (spec.closing_of_body text (spec.braces_after braces (get_or text at 0))
      (tokens_on text start line (at + 1 + passed (get_or text at 0) (drop (at + 1) text))))

-- a byte that is no bracket
plain_step :
    (text : List ℕ) (start line at to : ℕ) (named_after : Bool) → IsPlain (get_or text at 0) →
    begins_global (get_or text at 0) (drop (at + 1) text) ≡ named_after →
    at + 1 + passed (get_or text at 0) (drop (at + 1) text) ≡ to →
    NamedAlike text named_after (tokens_on text start line at) (tokens_on text start line to) → ByteStep text start line at
plain_step text start line at to named_after plain name ends n = record {
  define = λ named parens.
      n.define named parens
      ∙ rw (opens_not named parens (get_or text at 0) plain.opening, name, ends, plain.left, plain.right) refl;
  body = λ braces.
      n.body braces ∙ rw (closes_not braces (get_or text at 0) plain.closing, ends, plain.opening, plain.closing) refl;
}

-- a byte that stands alone, as brackets do
mark_step :
    (text : List ℕ) (start line at : ℕ) → start ≤ at → at < length text →
    piece_of (get_or text at 0) (drop (at + 1) text) ≡ token TokenKind.Mark 0 →
    begins_global (get_or text at 0) (drop (at + 1) text) ≡ false → passed (get_or text at 0) (drop (at + 1) text) ≡ 0 →
    ByteStep text start line at
mark_step text start line at order inside is name none =
    let one : at + 1 + 0 ≡ at + 1 = omega arith in
    let t : Token = record { kind = TokenKind.Mark; start = at; end = at + 1; line = line_on text start line at } in
    let here : tokens_on text start line at ≡ t ∷ tokens_on text start line (at + 1) =
    token_on text start line at 0 TokenKind.Mark order inside is ∙ rw one refl in
    let ends : at + 1 + passed (get_or text at 0) (drop (at + 1) text) ≡ at + 1 = omega arith in
    record {
      define = λ named parens. ap (spec.closing_of_define text named parens) here ∙ rw (name, or_false named, ends) refl;
      body = λ braces. ap (spec.closing_of_body text braces) here ∙ rw ends refl;
    }

-- The cases

-- a byte that the search passes over without more
record IsAlone (b : ℕ) : Type 0 where
  plain : IsPlain b
  name : (b == byte "@") ≡ false
  quote : (b == byte "\"") ≡ false
  comment : (b == byte ";") ≡ false

passes_alone : (b : ℕ) (rest : List ℕ) → (b == byte "\"") ≡ false → (b == byte ";") ≡ false → passed b rest ≡ 0
unfolding passed
passes_alone b rest quote comment = rw (quote, comment) refl

alone_step :
    (text : List ℕ) (start line at : ℕ) → IsAlone (get_or text at 0) →
    Alike text (tokens_on text start line at) (tokens_on text start line (at + 1)) → ByteStep text start line at
alone_step text start line at alone a =
    let none : passed (get_or text at 0) (drop (at + 1) text) ≡ 0 = passes_alone _ _ alone.quote alone.comment in
    plain_step text start line at (at + 1) false alone.plain (rw alone.name refl) (omega arith) (no_name text _ _ a)

run_alone : (b : ℕ) → is_run_byte b ≡ true → IsAlone b
run_alone b run =
    let o = run_no_other b run in record { plain = run_plain b run; name = o.at_sign; quote = o.quote; comment = o.semicolon }

blank_alone : (b : ℕ) → is_blank b ≡ true → IsAlone b
unfolding is_blank
blank_alone b blank = record {
  plain = record {
    opening = differs is_blank b (byte "{") blank refl;
    closing = differs is_blank b (byte "}") blank refl;
    left = differs is_blank b (byte "(") blank refl;
    right = differs is_blank b (byte ")") blank refl;
  };
  name = differs is_blank b (byte "@") blank refl;
  quote = differs is_blank b (byte "\"") blank refl;
  comment = differs is_blank b (byte ";") blank refl;
}

unmarked_plain : (b : ℕ) → is_mark b ≡ false → IsPlain b
unfolding is_mark is_bracket
unmarked_plain b unmarked = record {
  opening = differs (λ n. not (is_mark n)) b (byte "{") (ap not unmarked) refl;
  closing = differs (λ n. not (is_mark n)) b (byte "}") (ap not unmarked) refl;
  left = differs (λ n. not (is_mark n)) b (byte "(") (ap not unmarked) refl;
  right = differs (λ n. not (is_mark n)) b (byte ")") (ap not unmarked) refl;
}

literal_alone : (b c : ℕ) → (b == c) ≡ true → IsAlone c → IsAlone b
literal_alone b c h alone = subst IsAlone (sym (eqb-true b c h)) alone

one_token :
    (text : List ℕ) (start line at : ℕ) (kind : TokenKind) → start ≤ at → at < length text → IsPlain (get_or text at 0) →
    spec.is_global kind ≡ false → piece_of (get_or text at 0) (drop (at + 1) text) ≡ token kind 0 →
    Alike text (tokens_on text start line at) (tokens_on text start line (at + 1))
one_token text start line at kind order inside plain other is =
    past text start line at 0 (at + 1) kind order inside (omega arith) plain other is

sigil_alone :
    (b : ℕ) → (b == byte "{") ≡ false → (b == byte "}") ≡ false → (b == byte "(") ≡ false → (b == byte ")") ≡ false →
    (b == byte "@") ≡ false → (b == byte "\"") ≡ false → (b == byte ";") ≡ false → IsAlone b
sigil_alone b opening closing left right name quote comment = record {
  plain = record { opening = opening; closing = closing; left = left; right = right };
  name = name;
  quote = quote;
  comment = comment;
}

other_step :
    (text : List ℕ) (start line at : ℕ) → start ≤ at → at < length text → is_mark (get_or text at 0) ≡ false →
    (get_or text at 0 == byte "@") ≡ false → (get_or text at 0 == byte "\"") ≡ false → (get_or text at 0 == byte ";") ≡ false →
    piece_of (get_or text at 0) (drop (at + 1) text) ≡ token TokenKind.Other 0 → ByteStep text start line at
other_step text start line at order inside unmarked name quote comment is =
    alone_step text start line at
    (record { plain = unmarked_plain _ unmarked; name = name; quote = quote; comment = comment })
    (one_token text start line at TokenKind.Other order inside (unmarked_plain _ unmarked) refl is)

local_step :
    (text : List ℕ) (start line at : ℕ) → start ≤ at → at < length text → IsAlone (get_or text at 0) →
    piece_of (get_or text at 0) (drop (at + 1) text) ≡ after_sigil TokenKind.Local (drop (at + 1) text) → ByteStep text start line at
unfolding after_sigil
local_step text start line at order inside alone is =
    alone_step text start line at alone (go (name_len (drop (at + 1) text) == 0) refl is)
  where
    go :
        (b : Bool) → (name_len (drop (at + 1) text) == 0) ≡ b →
        piece_of (get_or text at 0) (drop (at + 1) text) ≡
        cond b (token TokenKind.Other 0) (token TokenKind.Local (name_len (drop (at + 1) text))) →
        Alike text (tokens_on text start line at) (tokens_on text start line (at + 1))
    go true h is = one_token text start line at TokenKind.Other order inside alone.plain refl is
    go false h is =
        alike_back text _ _ _
        (past text start line at (name_len (drop (at + 1) text)) _ TokenKind.Local order inside refl alone.plain refl is)
        (name_passed text start line (at + 1) (omega arith) (positive _ h))

meta_step :
    (text : List ℕ) (start line at : ℕ) → start ≤ at → at < length text → IsAlone (get_or text at 0) →
    piece_of (get_or text at 0) (drop (at + 1) text) ≡ meta (drop (at + 1) text) → ByteStep text start line at
unfolding meta
meta_step text start line at order inside alone is =
    alone_step text start line at alone (go (run_len (drop (at + 1) text) == 0) refl is)
  where
    go :
        (b : Bool) → (run_len (drop (at + 1) text) == 0) ≡ b →
        piece_of (get_or text at 0) (drop (at + 1) text) ≡
        cond b (token TokenKind.Mark 0) (token TokenKind.Meta (run_len (drop (at + 1) text))) →
        Alike text (tokens_on text start line at) (tokens_on text start line (at + 1))
    go true h is = one_token text start line at TokenKind.Mark order inside alone.plain refl is
    go false h is =
        alike_back text _ _ _
        (past text start line at (run_len (drop (at + 1) text)) _ TokenKind.Meta order inside refl alone.plain refl is)
        (run_bytes (run_len (drop (at + 1) text)) text start line (at + 1) (omega arith) (omega arith))

digit_runs : (b : ℕ) → is_ascii_digit b ≡ true → is_run_byte b ≡ true
unfolding is_run_byte
digit_runs b digit = by_letter (is_ascii_alphabetic b) refl
  where
    by_letter : (t : Bool) → is_ascii_alphabetic b ≡ t → is_run_byte b ≡ true
    by_letter true h = rw h refl
    by_letter false h = rw (h, digit) refl

digits_run : (bs : List ℕ) → prefix_len is_ascii_digit bs ≤ run_len bs
digits_run [] = omega arith
digits_run (b ∷ bs) = go (is_ascii_digit b) (is_run_byte b) refl refl (digits_run bs)
  where
    go :
        (digit run : Bool) → is_ascii_digit b ≡ digit → is_run_byte b ≡ run → prefix_len is_ascii_digit bs ≤ run_len bs →
        cond digit (1 + prefix_len is_ascii_digit bs) 0 ≤ cond run (1 + run_len bs) 0
    go false run e h left = omega arith
    go true true e h left = omega arith
    go true false e h left = absurd (true≢false (sym (digit_runs b e) ∙ h))

group_step :
    (text : List ℕ) (start line at : ℕ) → start ≤ at → at < length text → IsAlone (get_or text at 0) →
    piece_of (get_or text at 0) (drop (at + 1) text) ≡ group (drop (at + 1) text) → ByteStep text start line at
unfolding group
group_step text start line at order inside alone is =
    alone_step text start line at alone (go (prefix_len is_ascii_digit (drop (at + 1) text) == 0) is)
  where
    go :
        (b : Bool) →
        piece_of (get_or text at 0) (drop (at + 1) text) ≡
        cond b (token TokenKind.Other 0) (token TokenKind.Group (prefix_len is_ascii_digit (drop (at + 1) text))) →
        Alike text (tokens_on text start line at) (tokens_on text start line (at + 1))
    go true is = one_token text start line at TokenKind.Other order inside alone.plain refl is
    go false is =
        alike_back text _ _ _
        (past text start line at (prefix_len is_ascii_digit (drop (at + 1) text)) _ TokenKind.Group order inside refl alone.plain refl is)
        (run_bytes (prefix_len is_ascii_digit (drop (at + 1) text)) text start line (at + 1) (omega arith)
        (digits_run (drop (at + 1) text)))

comment_passed : (b : ℕ) (rest : List ℕ) → b ≡ byte ";" → passed b rest ≡ line_len rest
unfolding passed
comment_passed b rest e = rw e refl

comment_step :
    (text : List ℕ) (start line at : ℕ) → start ≤ at → at < length text → get_or text at 0 ≡ byte ";" →
    piece_of (get_or text at 0) (drop (at + 1) text) ≡ gap (line_len (drop (at + 1) text)) → ByteStep text start line at
comment_step text start line at order inside here is =
    plain_step text start line at (at + 1 + line_len (drop (at + 1) text)) false
    (plain_as _ _ here (record { opening = refl; closing = refl; left = refl; right = refl }))
    (ap (λ b. begins_global b (drop (at + 1) text)) here)
    (ap (λ n. at + 1 + n) (comment_passed _ (drop (at + 1) text) here))
    (no_name text _ _ (same_tokens text _ _ (gap_on text start line at (line_len (drop (at + 1) text)) order inside is)))

closed_length : (b : ℕ) (rest : List ℕ) (n : ℕ) → b ≡ byte "\"" → quoted_len rest ≡ Some n → passed b rest ≡ n
unfolding passed
closed_length b rest n e closed =
    ap (λ c. passed c rest) e ∙ ap (λ o. elim o [ None ↦ length rest | Some m ↦ m ]) closed

open_length : (b : ℕ) (rest : List ℕ) → b ≡ byte "\"" → quoted_len rest ≡ None → passed b rest ≡ length rest
unfolding passed
open_length b rest e unclosed =
    ap (λ c. passed c rest) e ∙ ap (λ o. elim o [ None ↦ length rest | Some m ↦ m ]) unclosed

string_step :
    (text : List ℕ) (start line at : ℕ) → start ≤ at → at < length text → get_or text at 0 ≡ byte "\"" → ByteStep text start line at
string_step text start line at order inside here = go (quoted_len (drop (at + 1) text)) refl
  where
    go : (o : Option ℕ) → quoted_len (drop (at + 1) text) ≡ o → ByteStep text start line at
    go None e =
        plain_step text start line at (at + 1 + length (drop (at + 1) text)) false (plain_as _ _ here quote_plain)
        (ap (λ b. begins_global b (drop (at + 1) text)) here)
        (ap (λ n. at + 1 + n) (open_length _ (drop (at + 1) text) here e))
        (no_name text _ _ (rest_passed text start line at order inside here e))
    go (Some n) e =
        plain_step text start line at (at + 1 + n) false (plain_as _ _ here quote_plain)
        (ap (λ b. begins_global b (drop (at + 1) text)) here)
        (ap (λ n. at + 1 + n) (closed_length _ (drop (at + 1) text) n here e))
        (no_name text _ _ (string_passed text start line at n order inside here e))

-- after the sigil of a global name the define is named, except where the name is a string without a closing quote, after
-- which nothing closes it
name_after :
    (text : List ℕ) (start line at : ℕ) → start ≤ at → (name_len (drop (at + 1) text) == 0) ≡ true →
    Alike text (tokens_on text start line at) (tokens_on text start line (at + 1)) →
    NamedAlike text (begins_name (drop (at + 1) text)) (tokens_on text start line at) (tokens_on text start line (at + 1))
name_after text start line at order none a = go (begins_name (drop (at + 1) text)) refl
  where
    unclosed :
        at + 1 < length text → begins_name (drop (at + 1) text) ≡ true →
        IsUnclosedName (get_or text (at + 1) 0) (drop (at + 1 + 1) text)
    unclosed inside begins =
        let here : drop (at + 1) text ≡ get_or text (at + 1) 0 ∷ drop (at + 1 + 1) text = begins_at text (at + 1) inside in
        unclosed_name _ _ (ap (λ bs. name_len bs == 0) (sym here) ∙ none) (ap begins_name (sym here) ∙ begins)

    inside_of : begins_name (drop (at + 1) text) ≡ true → at + 1 < length text
    inside_of begins =
        elim (cases_lt (at + 1) (length text)) [
          | inl inside ↦ inside
          | inr past ↦ absurd (true≢false (sym begins ∙ ap begins_name (drop_all (at + 1) text past)))
        ]

    go :
        (b : Bool) → begins_name (drop (at + 1) text) ≡ b →
        NamedAlike text b (tokens_on text start line at) (tokens_on text start line (at + 1))
    go false h = no_name text _ _ a
    go true h =
        let inside : at + 1 < length text = inside_of h in
        let name = unclosed inside h in
        record {
          define = λ named parens.
              a.define named parens
              ∙ (none_closes text start line (at + 1) (omega arith) inside name.quote name.unclosed named parens
              ∙ sym (none_closes text start line (at + 1) (omega arith) inside name.quote name.unclosed (named || true) parens));
          body = a.body;
        }

-- a global name names the define
names :
    (text : List ℕ) (t : Token) (ts : List Token) → IsPlain (spec.first_byte text t) → t.kind ≡ TokenKind.Global →
    NamedAlike text true (t ∷ ts) ts
names text t ts plain is = record {
  define = λ named parens.
      rw (opens_not named parens (spec.first_byte text t) plain.opening, is, plain.left, plain.right) refl;
  body = λ braces. rw (closes_not braces (spec.first_byte text t) plain.closing, plain.opening, plain.closing) refl;
}

name_back :
    (text : List ℕ) (named_after : Bool) (ts us vs : List Token) → NamedAlike text named_after ts vs → Alike text us vs →
    NamedAlike text named_after ts us
name_back text named_after ts us vs n a = record {
  define = λ named parens. n.define named parens ∙ sym (a.define (named || named_after) parens);
  body = λ braces. n.body braces ∙ sym (a.body braces);
}

global_step :
    (text : List ℕ) (start line at : ℕ) → start ≤ at → at < length text → get_or text at 0 ≡ byte "@" →
    piece_of (get_or text at 0) (drop (at + 1) text) ≡ after_sigil TokenKind.Global (drop (at + 1) text) → ByteStep text start line at
unfolding after_sigil
global_step text start line at order inside here is =
    plain_step text start line at (at + 1) (begins_name (drop (at + 1) text)) plain
    (ap (λ b. begins_global b (drop (at + 1) text)) here) (ap (λ n. at + 1 + n) alone ∙ one)
    (go (name_len (drop (at + 1) text) == 0) refl is)
  where
    plain : IsPlain (get_or text at 0)
    plain = plain_as _ _ here (record { opening = refl; closing = refl; left = refl; right = refl })

    alone : passed (get_or text at 0) (drop (at + 1) text) ≡ 0
    alone = passes_alone _ _ (ap (λ b. b == byte "\"") here) (ap (λ b. b == byte ";") here)

    one : at + 1 + 0 ≡ at + 1
    one = omega arith

    go :
        (b : Bool) → (name_len (drop (at + 1) text) == 0) ≡ b →
        piece_of (get_or text at 0) (drop (at + 1) text) ≡
        cond b (token TokenKind.Other 0) (token TokenKind.Global (name_len (drop (at + 1) text))) →
        NamedAlike text (begins_name (drop (at + 1) text)) (tokens_on text start line at) (tokens_on text start line (at + 1))
    go true h is =
        name_after text start line at order h (one_token text start line at TokenKind.Other order inside plain refl is)
    go false h is =
        let more : ℕ = name_len (drop (at + 1) text) in
        let t : Token = record { kind = TokenKind.Global; start = at; end = at + 1 + more; line = line_on text start line at } in
        let named : begins_name (drop (at + 1) text) ≡ true = name_begins (drop (at + 1) text) h in
        let From : List Token → Type 0 = λ ts. NamedAlike text true ts (tokens_on text start line (at + 1 + more)) in
        let To : Bool → Type 0 = λ b. NamedAlike text b (tokens_on text start line at) (tokens_on text start line (at + 1)) in
        subst To (sym named)
        (name_back text true _ _ _
        (subst From (sym (token_on text start line at more TokenKind.Global order inside is))
        (names text t (tokens_on text start line (at + 1 + more)) plain refl))
        (name_passed text start line (at + 1) (omega arith) (positive more h)))

-- what each byte makes of the search
pub byte_step : (text : List ℕ) (start line at : ℕ) → start ≤ at → at < length text → ByteStep text start line at
unfolding piece_of
byte_step text start line at order inside =
    let Q : Piece → Type 0 = λ p. piece_of (get_or text at 0) (drop (at + 1) text) ≡ p → ByteStep text start line at in
    let found : Q (piece_of (get_or text at 0) (drop (at + 1) text)) =
    pick Q (is_blank (get_or text at 0)) _ _ by_blank
    (λ _. pick Q (get_or text at 0 == byte ";") _ _ (λ h is. comment_step text start line at order inside (eqb-true _ _ h) is)
    (λ comment. pick Q (get_or text at 0 == byte "%") _ _
    (λ h is. local_step text start line at order inside (literal_alone _ (byte "%") h (sigil_alone _ refl refl refl refl refl refl refl)) is)
    (λ _. pick Q (get_or text at 0 == byte "@") _ _ (λ h is. global_step text start line at order inside (eqb-true _ _ h) is)
    (λ name. pick Q (get_or text at 0 == byte "!") _ _
    (λ h is. meta_step text start line at order inside (literal_alone _ (byte "!") h (sigil_alone _ refl refl refl refl refl refl refl)) is)
    (λ _. pick Q (get_or text at 0 == byte "#") _ _
    (λ h is. group_step text start line at order inside (literal_alone _ (byte "#") h (sigil_alone _ refl refl refl refl refl refl refl)) is)
    (λ _. pick Q (get_or text at 0 == byte "\"") _ _ (λ h is. string_step text start line at order inside (eqb-true _ _ h))
    (λ quote. pick Q (is_run_byte (get_or text at 0)) _ _
    (λ h is. alone_step text start line at (run_alone _ h) (run_byte text start line at order inside h))
    (λ _. pick Q (is_mark (get_or text at 0)) _ _
    (λ h is. mark_step text start line at order inside is (rw name refl) (passes_alone _ _ quote comment))
    (λ unmarked is. other_step text start line at order inside unmarked name quote comment is))))))))) in
    found refl
  where
    one : at + 1 + 0 ≡ at + 1
    one = omega arith

    by_blank :
        is_blank (get_or text at 0) ≡ true → piece_of (get_or text at 0) (drop (at + 1) text) ≡ gap 0 → ByteStep text start line at
    by_blank h is =
        alone_step text start line at (blank_alone _ h)
        (alike_then text _ _ _ (same_tokens text _ _ (gap_on text start line at 0 order inside is))
        (same_place text start line _ _ one))

-- The same at what the program has

-- how many bytes stand after an offset
pub rest_length : (text : List ℕ) (k : ℕ) → length (take (length text - k) (drop k text)) ≡ length text - k
rest_length text k = rw to_end (length-drop k text)

pub on_start : (text : List ℕ) (start line : ℕ) → line_on text start line start ≡ line
on_start text start line = let none : start - start ≡ 0 = omega arith in rw none (omega arith)

pub header_byte :
    (text : List ℕ) (start line at : ℕ) (named next_named : Bool) (parens next_parens more : ℕ) → start ≤ at →
    at < length text → false ≡ spec.opens_body named parens (get_or text at 0) →
    next_named ≡ (named || begins_global (get_or text at 0) (take (length text - (at + 1)) (drop (at + 1) text))) →
    next_parens ≡ spec.parens_after parens (get_or text at 0) →
    more ≡ passed (get_or text at 0) (take (length text - (at + 1)) (drop (at + 1) text)) →
    spec.closing_of_define text named parens (tokens_on text start line at) ≡
    spec.closing_of_define text next_named next_parens (tokens_on text start line (at + (1 + more)))
header_byte text start line at named next_named parens next_parens more order inside h n p m =
    let step = (byte_step text start line at order inside).define named parens in
    let all : take (length text - (at + 1)) (drop (at + 1) text) ≡ drop (at + 1) text = to_end text (at + 1) in
    let place : at + 1 + passed (get_or text at 0) (drop (at + 1) text) ≡ at + (1 + passed (get_or text at 0) (drop (at + 1) text)) = omega arith in
    rw (n, p, m, all) (step ∙ rw (sym h, place) refl)

pub header_opens :
    (text : List ℕ) (start line at : ℕ) (named : Bool) (parens : ℕ) → start ≤ at → at < length text →
    true ≡ spec.opens_body named parens (get_or text at 0) →
    spec.closing_of_define text named parens (tokens_on text start line at) ≡
    spec.closing_of_body text 0 (tokens_on text start line (at + 1))
header_opens text start line at named parens order inside h =
    (byte_step text start line at order inside).define named parens ∙ rw (sym h) refl

pub header_ended :
    (text : List ℕ) (start line at : ℕ) (named : Bool) (parens : ℕ) → length text ≤ at →
    spec.closing_of_define text named parens (tokens_on text start line at) ≡ None
header_ended text start line at named parens past = rw (drop_all at text past) refl

pub body_byte :
    (text : List ℕ) (start line at braces next_braces more : ℕ) → start ≤ at → at < length text →
    false ≡ spec.closes_body braces (get_or text at 0) → next_braces ≡ spec.braces_after braces (get_or text at 0) →
    more ≡ passed (get_or text at 0) (take (length text - (at + 1)) (drop (at + 1) text)) →
    spec.closing_of_body text braces (tokens_on text start line at) ≡
    spec.closing_of_body text next_braces (tokens_on text start line (at + (1 + more)))
body_byte text start line at braces next_braces more order inside h b m =
    let step = (byte_step text start line at order inside).body braces in
    let all : take (length text - (at + 1)) (drop (at + 1) text) ≡ drop (at + 1) text = to_end text (at + 1) in
    let place : at + 1 + passed (get_or text at 0) (drop (at + 1) text) ≡ at + (1 + passed (get_or text at 0) (drop (at + 1) text)) = omega arith in
    rw (b, m, all) (step ∙ rw (sym h, place) refl)

pub body_closes :
    (text : List ℕ) (start line at braces : ℕ) → start ≤ at → at < length text →
    true ≡ spec.closes_body braces (get_or text at 0) →
    spec.closing_of_body text braces (tokens_on text start line at) ≡ brace_at text start line (Some at)
body_closes text start line at braces order inside h =
    (byte_step text start line at order inside).body braces ∙ rw (sym h) refl

pub body_ended :
    (text : List ℕ) (start line at braces : ℕ) → length text ≤ at →
    spec.closing_of_body text braces (tokens_on text start line at) ≡ None
body_ended text start line at braces past = rw (drop_all at text past) refl
