-- What a scan by bytes passes over where it stands on a token: tokens that are no brackets, runs, strings and names.
use Rattle.std.proofs.Common.{inl, inr, ◌≡◌, ℕ, zero, suc, ◌+◌, ◌-◌, ◌<◌, ◌≤◌, ◌==◌, ◌||◌, Bool, true, false, cond, List, [], ◌∷◌, length, take, drop, get_or, Option, Some, None, refl, sym, subst, ap, add-one, ◌∙◌, arith, drop-cons, length-drop, eqb-true}
use Rattle.std.proofs.lemmas.Bool.{cases_lt, true≢false}
use Rattle.std.proofs.lemmas.List.{drop_all, get_or-drop}
use Rattle.std.proofs.lemmas.List.Sums.{prefix_len-le-length}
use Rattle.std.specs.Str.{byte}
use Rattle.vfa_ir.proofs.Reading.{StaysOnLine, feeds_range, gap_stays, gap_step, token_step}
use Rattle.vfa_ir.specs.Tokens.{Piece, gap, token, has_colon, is_blank, is_bracket, is_mark, is_run_byte, line_feed, line_feeds, name_len, or_label, piece_of, quoted, quoted_len, run_len, run_of}
use Rattle.vfa_ir.specs.Words.{is_number}
use Rattle.vfa_ir.specs.declared.tokens.Token.{Token}
use Rattle.vfa_ir.specs.declared.tokens.TokenKind.{TokenKind}
use Rattle.vfa_module.specs.Scan.{begins_name, line_on, tokens_on}
use Rattle.vfa_module.specs.Split as spec

-- Tokens that are no brackets

-- both lists of tokens give the same brace
pub record Alike (text : List ℕ) (ts us : List Token) : Type 0 where
  pub define :
      (named : Bool) (parens : ℕ) →
      spec.closing_of_define text named parens ts ≡ spec.closing_of_define text named parens us
  pub body : (braces : ℕ) → spec.closing_of_body text braces ts ≡ spec.closing_of_body text braces us

pub alike_then : (text : List ℕ) (ts us vs : List Token) → Alike text ts us → Alike text us vs → Alike text ts vs
alike_then text ts us vs a b = record {
  define = λ named parens. a.define named parens ∙ b.define named parens;
  body = λ braces. a.body braces ∙ b.body braces;
}

pub alike_back : (text : List ℕ) (ts us vs : List Token) → Alike text ts vs → Alike text us vs → Alike text ts us
alike_back text ts us vs a b = record {
  define = λ named parens. a.define named parens ∙ sym (b.define named parens);
  body = λ braces. a.body braces ∙ sym (b.body braces);
}

-- a byte that opens and closes nothing
pub record IsPlain (b : ℕ) : Type 0 where
  pub opening : (b == byte "{") ≡ false
  pub closing : (b == byte "}") ≡ false
  pub left : (b == byte "(") ≡ false
  pub right : (b == byte ")") ≡ false

pub opens_not : (named : Bool) (parens b : ℕ) → (b == byte "{") ≡ false → spec.opens_body named parens b ≡ false
unfolding spec.opens_body
opens_not named parens b h = grind arith

pub closes_not : (braces b : ℕ) → (b == byte "}") ≡ false → spec.closes_body braces b ≡ false
unfolding spec.closes_body
closes_not braces b h = grind arith

pub or_false : (x : Bool) → (x || false) ≡ x
or_false true = refl
or_false false = refl

-- a token that is no bracket and no global name changes nothing
pub passes :
    (text : List ℕ) (t : Token) (ts : List Token) → IsPlain (spec.first_byte text t) → spec.is_global t.kind ≡ false →
    Alike text (t ∷ ts) ts
passes text t ts plain other = record {
  define = λ named parens.
      rw (opens_not named parens (spec.first_byte text t) plain.opening, other, or_false named, plain.left, plain.right) refl;
  body = λ braces. rw (closes_not braces (spec.first_byte text t) plain.closing, plain.opening, plain.closing) refl;
}

-- Reading on

-- the line after more bytes
later_line :
    (text : List ℕ) (start line at more : ℕ) → start ≤ at →
    line_on text start line at + line_feeds (take (1 + more) (drop at text)) ≡ line_on text start line (at + 1 + more)
later_line text start line at more order =
    let here = feeds_range text start at order in
    let there = feeds_range text start (at + 1 + more) (omega arith) in
    let between = feeds_range text at (at + 1 + more) (omega arith) in
    let long : at + 1 + more - at ≡ 1 + more = omega arith in
    let same : line_feeds (take (at + 1 + more - at) (drop at text)) ≡ line_feeds (take (1 + more) (drop at text)) = ap (λ n. line_feeds (take n (drop at text))) long in
    omega arith

pub token_on :
    (text : List ℕ) (start line at more : ℕ) (kind : TokenKind) → start ≤ at → at < length text →
    piece_of (get_or text at 0) (drop (at + 1) text) ≡ token kind more →
    tokens_on text start line at ≡
    (let t : Token = record { kind = kind; start = at; end = at + 1 + more; line = line_on text start line at } in
    t ∷ tokens_on text start line (at + 1 + more))
token_on text start line at more kind order inside is =
    token_step text at (line_on text start line at) more kind inside is ∙ rw (later_line text start line at more order) refl

pub gap_on :
    (text : List ℕ) (start line at more : ℕ) → start ≤ at → at < length text →
    piece_of (get_or text at 0) (drop (at + 1) text) ≡ gap more →
    tokens_on text start line at ≡ tokens_on text start line (at + 1 + more)
gap_on text start line at more order inside is =
    gap_step text at (line_on text start line at) more inside is ∙ rw (place, feeds) refl
  where
    place : at + (1 + more) ≡ at + 1 + more
    place = omega arith

    begins : drop at text ≡ get_or text at 0 ∷ drop (at + 1) text
    begins = rw add-one (drop-cons text at 0 inside)

    feeds : line_on text start line at + line_feed (get_or text at 0) ≡ line_on text start line (at + 1 + more)
    feeds =
        let on = later_line text start line at more order in
        let one : 1 + more ≡ suc more = omega arith in
        let all : line_feeds (take (1 + more) (drop at text)) ≡ line_feed (get_or text at 0) + line_feeds (take more (drop (at + 1) text)) = (rw (begins, one) refl) in
        let none : line_feeds (take more (drop (at + 1) text)) ≡ 0 = (let P : Piece → Type 0 = StaysOnLine (drop (at + 1) text) in subst P is (gap_stays (get_or text at 0) (drop (at + 1) text))) in
        omega arith

-- A token that is no bracket and no global name is passed over.
pub past :
    (text : List ℕ) (start line at more to : ℕ) (kind : TokenKind) → start ≤ at → at < length text → to ≡ at + 1 + more →
    IsPlain (get_or text at 0) → spec.is_global kind ≡ false →
    piece_of (get_or text at 0) (drop (at + 1) text) ≡ token kind more →
    Alike text (tokens_on text start line at) (tokens_on text start line to)
past text start line at more to kind order inside ends plain other is =
    let t : Token = record { kind = kind; start = at; end = at + 1 + more; line = line_on text start line at } in
    let From : List Token → Type 0 = λ ts. Alike text ts (tokens_on text start line (at + 1 + more)) in
    let To : ℕ → Type 0 = λ n. Alike text (tokens_on text start line at) (tokens_on text start line n) in
    subst To (sym ends)
    (subst From (sym (token_on text start line at more kind order inside is)) (passes text t (tokens_on text start line (at + 1 + more)) plain other))

pub same_tokens : (text : List ℕ) (ts us : List Token) → ts ≡ us → Alike text ts us
same_tokens text ts us e = record {
  define = λ named parens. ap (spec.closing_of_define text named parens) e;
  body = λ braces. ap (spec.closing_of_body text braces) e;
}

pub same_place :
    (text : List ℕ) (start line at to : ℕ) → at ≡ to → Alike text (tokens_on text start line at) (tokens_on text start line to)
same_place text start line at to e = same_tokens text _ _ (ap (tokens_on text start line) e)

pub plain_as : (b c : ℕ) → b ≡ c → IsPlain c → IsPlain b
plain_as b c e plain = subst IsPlain (sym e) plain

colon_mark : (rest : List ℕ) → piece_of (byte ":") rest ≡ token TokenKind.Mark 0
unfolding piece_of is_blank is_run_byte is_mark is_bracket
colon_mark rest = refl

colon :
    (text : List ℕ) (start line at : ℕ) → start ≤ at → at < length text → get_or text at 0 ≡ byte ":" →
    Alike text (tokens_on text start line at) (tokens_on text start line (at + 1))
colon text start line at order inside here =
    past text start line at 0 (at + 1) TokenKind.Mark order inside (omega arith)
    (plain_as _ _ here (record { opening = refl; closing = refl; left = refl; right = refl })) refl
    (ap (λ b. piece_of b (drop (at + 1) text)) here ∙ colon_mark (drop (at + 1) text))

colon_at : (rest : List ℕ) (more : ℕ) → has_colon more rest ≡ true → (more < length rest) × (get_or rest more 0 ≡ byte ":")
colon_at [] more h = absurd (cc)
colon_at (b ∷ rest) zero h = (omega arith, eqb-true b (byte ":") h)
colon_at (b ∷ rest) (suc more) h =
    let left = colon_at rest more h in let within : more < length rest = left.0 in (omega arith, left.1)

-- the same of a run or a string that may be a label: its colon is passed over too
labelled :
    (text : List ℕ) (start line at more : ℕ) (kind : TokenKind) → start ≤ at → at < length text →
    IsPlain (get_or text at 0) → spec.is_global kind ≡ false →
    piece_of (get_or text at 0) (drop (at + 1) text) ≡ or_label kind more (drop (at + 1) text) →
    Alike text (tokens_on text start line at) (tokens_on text start line (at + 1 + more))
unfolding or_label
labelled text start line at more kind order inside plain other is = go (has_colon more (drop (at + 1) text)) refl is
  where
    go :
        (b : Bool) → has_colon more (drop (at + 1) text) ≡ b →
        piece_of (get_or text at 0) (drop (at + 1) text) ≡ cond b (token TokenKind.Label (more + 1)) (token kind more) →
        Alike text (tokens_on text start line at) (tokens_on text start line (at + 1 + more))
    go false h is = past text start line at more (at + 1 + more) kind order inside refl plain other is
    go true h is =
        let found = colon_at (drop (at + 1) text) more h in
        let within : more < length (drop (at + 1) text) = found.0 in
        let long : length (drop (at + 1) text) ≡ length text - (at + 1) = length-drop (at + 1) text in
        let here : get_or text (at + 1 + more) 0 ≡ byte ":" = (rw get_or-drop at found.1) in
        alike_back text _ _ _
        (past text start line at (more + 1) (at + 1 + more + 1) TokenKind.Label order inside (omega arith) plain refl is)
        (colon text start line (at + 1 + more) (omega arith) (omega arith) here)

-- Runs

pub differs : (f : ℕ → Bool) (b c : ℕ) → f b ≡ true → f c ≡ false → (b == c) ≡ false
differs f b c holds fails = go (b == c) refl
  where
    go : (t : Bool) → (b == c) ≡ t → t ≡ false
    go true h = absurd (true≢false (sym holds ∙ ap f (eqb-true b c h) ∙ fails))
    go false h = refl

pub run_plain : (b : ℕ) → is_run_byte b ≡ true → IsPlain b
unfolding is_run_byte
run_plain b run = record {
  opening = differs is_run_byte b (byte "{") run refl;
  closing = differs is_run_byte b (byte "}") run refl;
  left = differs is_run_byte b (byte "(") run refl;
  right = differs is_run_byte b (byte ")") run refl;
}

-- what a byte of a run is not
pub record IsNoOther (b : ℕ) : Type 0 where
  pub space : (b == byte " ") ≡ false
  pub tab : (b == byte "\t") ≡ false
  pub carriage : (b == byte "\r") ≡ false
  pub feed : (b == byte "\n") ≡ false
  pub semicolon : (b == byte ";") ≡ false
  pub percent : (b == byte "%") ≡ false
  pub at_sign : (b == byte "@") ≡ false
  pub bang : (b == byte "!") ≡ false
  pub hash : (b == byte "#") ≡ false
  pub quote : (b == byte "\"") ≡ false

pub run_no_other : (b : ℕ) → is_run_byte b ≡ true → IsNoOther b
unfolding is_run_byte
run_no_other b run = record {
  space = differs is_run_byte b (byte " ") run refl;
  tab = differs is_run_byte b (byte "\t") run refl;
  carriage = differs is_run_byte b (byte "\r") run refl;
  feed = differs is_run_byte b (byte "\n") run refl;
  semicolon = differs is_run_byte b (byte ";") run refl;
  percent = differs is_run_byte b (byte "%") run refl;
  at_sign = differs is_run_byte b (byte "@") run refl;
  bang = differs is_run_byte b (byte "!") run refl;
  hash = differs is_run_byte b (byte "#") run refl;
  quote = differs is_run_byte b (byte "\"") run refl;
}

no_blank : (b : ℕ) → IsNoOther b → is_blank b ≡ false
unfolding is_blank
no_blank b o = rw (o.space, o.tab, o.carriage, o.feed) refl

run_piece : (b : ℕ) (rest : List ℕ) → is_run_byte b ≡ true → piece_of b rest ≡ run_of b rest
unfolding piece_of
run_piece b rest run =
    let o = run_no_other b run in
    rw (no_blank b o, o.semicolon, o.percent, o.at_sign, o.bang, o.hash, o.quote, run) refl

pub begins_at : (text : List ℕ) (at : ℕ) → at < length text → drop at text ≡ get_or text at 0 ∷ drop (at + 1) text
begins_at text at inside = rw add-one (drop-cons text at 0 inside)

-- where a run begins, and what it is without its first byte
record IsRun (text : List ℕ) (at : ℕ) : Type 0 where
  inside : at < length text
  run : is_run_byte (get_or text at 0) ≡ true
  more : run_len (drop at text) ≡ 1 + run_len (drop (at + 1) text)

is_run : (text : List ℕ) (at : ℕ) → 0 < run_len (drop at text) → IsRun text at
is_run text at some =
    elim (cases_lt at (length text)) [
      | inl inside ↦ here inside (is_run_byte (get_or text at 0)) refl
      | inr past ↦
          (let short : run_len (drop at text) ≤ length (drop at text) = prefix_len-le-length is_run_byte (drop at text) in
          let long : length (drop at text) ≡ length text - at = length-drop at text in
          absurd (omega arith))
    ]
  where
    here : at < length text → (b : Bool) → is_run_byte (get_or text at 0) ≡ b → IsRun text at
    here inside true h = record { inside = inside; run = h; more = rw (begins_at text at inside, h) refl }
    here inside false h =
        let none : run_len (drop at text) ≡ 0 = (rw (begins_at text at inside, h) refl) in absurd (omega arith)

run_kind : (b : Bool) → spec.is_global (cond b TokenKind.Number TokenKind.Word) ≡ false
run_kind true = refl
run_kind false = refl

-- a run is passed over
run_end :
    (text : List ℕ) (start line at : ℕ) → start ≤ at → at < length text → is_run_byte (get_or text at 0) ≡ true →
    Alike text (tokens_on text start line at) (tokens_on text start line (at + 1 + run_len (drop (at + 1) text)))
unfolding run_of
run_end text start line at order inside run =
    labelled text start line at (run_len (drop (at + 1) text))
    (cond (is_number (get_or text at 0 ∷ take (run_len (drop (at + 1) text)) (drop (at + 1) text))) TokenKind.Number TokenKind.Word)
    order inside (run_plain _ run) (run_kind _) (run_piece _ _ run)

-- and so is its first byte, since the same run goes on after it
pub run_byte :
    (text : List ℕ) (start line at : ℕ) → start ≤ at → at < length text → is_run_byte (get_or text at 0) ≡ true →
    Alike text (tokens_on text start line at) (tokens_on text start line (at + 1))
run_byte text start line at order inside run = go (run_len (drop (at + 1) text)) refl
  where
    go : (n : ℕ) → run_len (drop (at + 1) text) ≡ n → Alike text (tokens_on text start line at) (tokens_on text start line (at + 1))
    go zero e =
        let ends : at + 1 + run_len (drop (at + 1) text) ≡ at + 1 = omega arith in
        alike_then text _ _ _ (run_end text start line at order inside run) (same_place text start line _ _ ends)
    go (suc n) e =
        let next : IsRun text (at + 1) = is_run text (at + 1) (omega arith) in
        let more : run_len (drop (at + 1) text) ≡ 1 + run_len (drop (at + 1 + 1) text) = next.more in
        let ends : at + 1 + 1 + run_len (drop (at + 1 + 1) text) ≡ at + 1 + run_len (drop (at + 1) text) = omega arith in
        alike_back text _ _ _ (run_end text start line at order inside run)
        (alike_then text _ _ _ (run_end text start line (at + 1) (omega arith) next.inside next.run)
        (same_place text start line _ _ ends))

pub run_bytes :
    (k : ℕ) (text : List ℕ) (start line at : ℕ) → start ≤ at → k ≤ run_len (drop at text) →
    Alike text (tokens_on text start line at) (tokens_on text start line (at + k))
run_bytes zero text start line at order short = same_place text start line at (at + 0) (omega arith)
run_bytes (suc k) text start line at order short =
    let here : IsRun text at = is_run text at (omega arith) in
    let more : run_len (drop at text) ≡ 1 + run_len (drop (at + 1) text) = here.more in
    let ends : at + 1 + k ≡ at + suc k = omega arith in
    alike_then text _ _ _ (run_byte text start line at order here.inside here.run)
    (alike_then text _ _ _ (run_bytes k text start line (at + 1) (omega arith) (omega arith)) (same_place text start line _ _ ends))

-- Strings

quote_piece : (rest : List ℕ) → piece_of (byte "\"") rest ≡ quoted rest
unfolding piece_of is_blank
quote_piece rest = refl

pub quote_plain : IsPlain (byte "\"")
quote_plain = record { opening = refl; closing = refl; left = refl; right = refl }

closed_piece : (rest : List ℕ) (n : ℕ) → quoted_len rest ≡ Some n → quoted rest ≡ or_label TokenKind.String n rest
unfolding quoted
closed_piece rest n closed = rw (quoted, closed) refl

unclosed_piece : (rest : List ℕ) → quoted_len rest ≡ None → quoted rest ≡ token TokenKind.Other (length rest)
unfolding quoted
unclosed_piece rest unclosed = rw (quoted, unclosed) refl

pub string_passed :
    (text : List ℕ) (start line at n : ℕ) → start ≤ at → at < length text → get_or text at 0 ≡ byte "\"" →
    quoted_len (drop (at + 1) text) ≡ Some n →
    Alike text (tokens_on text start line at) (tokens_on text start line (at + 1 + n))
string_passed text start line at n order inside here closed =
    labelled text start line at n TokenKind.String order inside (plain_as _ _ here quote_plain) refl
    (ap (λ b. piece_of b (drop (at + 1) text)) here ∙ quote_piece (drop (at + 1) text) ∙ closed_piece (drop (at + 1) text) n closed)

pub rest_passed :
    (text : List ℕ) (start line at : ℕ) → start ≤ at → at < length text → get_or text at 0 ≡ byte "\"" →
    quoted_len (drop (at + 1) text) ≡ None →
    Alike text (tokens_on text start line at) (tokens_on text start line (at + 1 + length (drop (at + 1) text)))
rest_passed text start line at order inside here unclosed =
    past text start line at (length (drop (at + 1) text)) _ TokenKind.Other order inside refl (plain_as _ _ here quote_plain) refl
    (ap (λ b. piece_of b (drop (at + 1) text)) here ∙ quote_piece (drop (at + 1) text) ∙ unclosed_piece (drop (at + 1) text) unclosed)

-- nothing closes a define after a string without a closing quote
pub none_closes :
    (text : List ℕ) (start line at : ℕ) → start ≤ at → at < length text → get_or text at 0 ≡ byte "\"" →
    quoted_len (drop (at + 1) text) ≡ None → (named : Bool) (parens : ℕ) →
    spec.closing_of_define text named parens (tokens_on text start line at) ≡ None
none_closes text start line at order inside here unclosed named parens =
    let long : length (drop (at + 1) text) ≡ length text - (at + 1) = length-drop (at + 1) text in
    let ended : drop (at + 1 + length (drop (at + 1) text)) text ≡ [] = drop_all _ text (omega arith) in
    (rest_passed text start line at order inside here unclosed).define named parens ∙ rw ended refl

-- Names after a sigil

-- a name is passed over as what stands after its sigil
pub name_passed :
    (text : List ℕ) (start line at : ℕ) → start ≤ at → 0 < name_len (drop at text) →
    Alike text (tokens_on text start line at) (tokens_on text start line (at + name_len (drop at text)))
name_passed text start line at order some =
    elim (cases_lt at (length text)) [
      | inl inside ↦ by_first inside (get_or text at 0 == byte "\"") refl
      | inr past ↦
          (let ended : drop at text ≡ [] = drop_all at text past in
          let none : name_len (drop at text) ≡ 0 = ap name_len ended in
          absurd (omega arith))
    ]
  where
    by_string :
        at < length text → (get_or text at 0 == byte "\"") ≡ true → (o : Option ℕ) → quoted_len (drop (at + 1) text) ≡ o →
        Alike text (tokens_on text start line at) (tokens_on text start line (at + name_len (drop at text)))
    by_string inside h None e =
        let none : name_len (drop at text) ≡ 0 = ap name_len (begins_at text at inside) ∙ rw (h, e) refl in absurd (omega arith)
    by_string inside h (Some n) e =
        let long : name_len (drop at text) ≡ n + 1 = ap name_len (begins_at text at inside) ∙ rw (h, e) refl in
        let ends : at + 1 + n ≡ at + name_len (drop at text) = omega arith in
        alike_then text _ _ _ (string_passed text start line at n order inside (eqb-true _ _ h) e)
        (same_place text start line _ _ ends)

    by_first :
        at < length text → (b : Bool) → (get_or text at 0 == byte "\"") ≡ b →
        Alike text (tokens_on text start line at) (tokens_on text start line (at + name_len (drop at text)))
    by_first inside true h = by_string inside h (quoted_len (drop (at + 1) text)) refl
    by_first inside false h =
        let long : name_len (drop at text) ≡ run_len (get_or text at 0 ∷ drop (at + 1) text) = ap name_len (begins_at text at inside) ∙ rw h refl in
        let same : run_len (drop at text) ≡ run_len (get_or text at 0 ∷ drop (at + 1) text) = ap run_len (begins_at text at inside) in
        run_bytes (name_len (drop at text)) text start line at order (omega arith)

pub name_begins : (rest : List ℕ) → (name_len rest == 0) ≡ false → begins_name rest ≡ true
name_begins [] some = absurd (cc)
name_begins (b ∷ rest) some = go (b == byte "\"") (is_run_byte b) some
  where
    go :
        (quote run : Bool) →
        (cond quote (elim (quoted_len rest) [ None ↦ 0 | Some n ↦ n + 1 ]) (cond run (1 + run_len rest) 0) == 0) ≡ false →
        (quote || run) ≡ true
    go true run h = refl
    go false true h = refl
    go false false h = absurd (cc)

-- a name begins, but has no bytes: it is a string without a closing quote
pub record IsUnclosedName (b : ℕ) (rest : List ℕ) : Type 0 where
  pub quote : b ≡ byte "\""
  pub unclosed : quoted_len rest ≡ None

pub unclosed_name : (b : ℕ) (rest : List ℕ) → (name_len (b ∷ rest) == 0) ≡ true → begins_name (b ∷ rest) ≡ true → IsUnclosedName b rest
unclosed_name b rest none begins = go (b == byte "\"") (is_run_byte b) (quoted_len rest) refl refl none begins
  where
    go :
        (quote run : Bool) (o : Option ℕ) → (b == byte "\"") ≡ quote → quoted_len rest ≡ o →
        (cond quote (elim o [ None ↦ 0 | Some n ↦ n + 1 ]) (cond run (1 + run_len rest) 0) == 0) ≡ true →
        (quote || run) ≡ true → IsUnclosedName b rest
    go true run None h e none begins = record { quote = eqb-true b (byte "\"") h; unclosed = e }
    go true run (Some n) h e none begins =
        let some : n + 1 ≡ 0 = eqb-true (n + 1) 0 none in absurd (omega arith)
    go false true o h e none begins =
        let some : 1 + run_len rest ≡ 0 = eqb-true (1 + run_len rest) 0 none in absurd (omega arith)
    go false false o h e none begins = absurd (cc)
