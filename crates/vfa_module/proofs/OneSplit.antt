-- What a text splits into, and where it fails, is what the split computes.
use Rattle.std.proofs.Common.{inl, inr, ◌≡◌, ℕ, zero, suc, ◌+◌, ◌-◌, ◌<◌, ◌≤◌, ◌||◌, nat_lt, Bool, true, false, cond, List, [], ◌∷◌, length, take, drop, Option, Some, None, Result, Ok, Err, get_or, slice_get, length-drop, refl, sym, ap, arith, ◌∙◌, subst}
use Rattle.std.proofs.lemmas.Bool.{cases_lt, true≢false}
use Rattle.std.specs.List.{AllByRecursion}
use Rattle.std.specs.Str.{byte}
use Rattle.vfa_ir.specs.Tokens.{line_feeds}
use Rattle.vfa_ir.specs.declared.tokens.Token.{Token}
use Rattle.vfa_module.proofs.Levels.{closes_exactly}
use Rattle.vfa_module.proofs.Steps.{begins_define_of, begins_no_later, blanks_of, brace_feeds, clear_has_none, closes_byte, define_bad, define_closed, define_unclosed, line_passed, next_after, next_begins, next_feeds, no_line_inside, none_after_brace, unclear_has_more, word_of_line, word_found, word_on_line}
use Rattle.vfa_ir.proofs.Reading.{brace_end, placed_feeds, tokens_placed}
use Rattle.vfa_module.specs.Defines.{AreApart, BeginsDefine, BeginsLine, Closes, HasMore, IsBadLine, IsBrace, IsDefine, IsNextDefine, IsPart, IsSplit, IsUnclosed, line_at, tokens_at}
use Rattle.vfa_module.specs.Split as spec
use Rattle.vfa_module.specs.declared.items.Item.{Item}
use Rattle.vfa_module.specs.declared.items.SplitFault.{SplitFault}

-- Reading lines from an offset on sees what begins from another on: between the two no define begins.
record IsAt (text : List ℕ) (from at line : ℕ) : Type 0 where
  sooner : (q : ℕ) → at ≤ q → q < from → ¬ BeginsDefine text q
  later : (q : ℕ) → from ≤ q → q < at → ¬ BeginsDefine text q
  begins : at < length text → BeginsLine text at
  counted : at < length text → line ≡ line_at text at

nothing : (bs : List ℕ) → length bs ≡ 0 → bs ≡ []
nothing [] e = refl
nothing (b ∷ bs) e = absurd (omega arith)

-- the word of a define stands within the text
pub word_inside : (text : List ℕ) (start : ℕ) → BeginsDefine text start → start < length text
unfolding spec.begins_define
word_inside text start d =
    elim (cases_lt start (length text)) [
      | inl inside ↦ inside
      | inr past ↦
          (let long : length (drop start text) ≡ length text - start = length-drop start text in
          let none : drop start text ≡ [] = nothing (drop start text) (omega arith) in
          let word = d.word in
          absurd (true≢false (sym word ∙ ap spec.begins_define none)))
    ]

-- lines in which no define begins are passed
record Passed (text : List ℕ) (at line to : ℕ) : Type 0 where
  number : ℕ
  same : spec.defines_from text at line ≡ spec.defines_from text to number
  counted : number ≡ line_at text to

-- no define begins on a line before the one of this offset
no_define_here :
    (text : List ℕ) (at to : ℕ) → at < to → BeginsLine text at → (to < length text → BeginsLine text to) →
    ((q : ℕ) → at ≤ q → q < to → ¬ BeginsDefine text q) → spec.define_of_line text at ≡ None
no_define_here text at to sooner begins ends none = by_line (spec.define_of_line text at) refl
  where
    by_line : (o : Option ℕ) → spec.define_of_line text at ≡ o → spec.define_of_line text at ≡ None
    by_line None e = e
    by_line (Some p) e =
        let d = begins_define_of text at p begins e in
        let place : p ≡ at + spec.indent (drop at text) = (word_found text at p e).place in
        let inside : p < length text = word_inside text p d in
        absurd (elim (cases_lt p to) [
          | inl before ↦ none p (omega arith) before d
          | inr past ↦ begins_no_later text at p to (blanks_of text at p (word_found text at p e)) sooner past (ends (omega arith))
        ])

feed_of : (text : List ℕ) (at to : ℕ) → at < to → BeginsLine text to → get_or text (to - 1) 0 ≡ byte "\n"
feed_of text at to sooner (inl zero_at) = absurd (omega arith)
feed_of text at to sooner (inr feed) = feed

-- the next line is no later than a later line
nearer : (text : List ℕ) (at to : ℕ) → at < to → BeginsLine text to → spec.next_line text at ≤ to
nearer text at to sooner ends =
    elim (cases_lt to (spec.next_line text at)) [
      | inl past ↦ absurd (no_line_inside text at to sooner past (feed_of text at to sooner ends))
      | inr near ↦ near
    ]

arrives : (text : List ℕ) (at line to : ℕ) → at ≡ to → line ≡ line_at text at → Passed text at line to
arrives text at line to here counted = record {
  number = line;
  same = ap (λ n. spec.defines_from text n line) here;
  counted = counted ∙ ap (line_at text) here;
}

lines_passed :
    (fuel : ℕ) (text : List ℕ) (at line to : ℕ) → to - at ≤ fuel → at ≤ to → to < length text → BeginsLine text at →
    BeginsLine text to → line ≡ line_at text at → ((q : ℕ) → at ≤ q → q < to → ¬ BeginsDefine text q) → Passed text at line to
lines_passed zero text at line to short order inside begins ends counted none = arrives text at line to (omega arith) counted
lines_passed (suc n) text at line to short order inside begins ends counted none =
    elim (cases_lt at to) [
      | inr same ↦ arrives text at line to (omega arith) counted
      | inl sooner ↦
          (let later : at < spec.next_line text at = next_after text at (omega arith) in
          let near : spec.next_line text at ≤ to = nearer text at to sooner ends in
          let fed : line_feeds (take (spec.next_line text at) text) ≡ line_feeds (take at text) + 1 = next_feeds text at (omega arith) (omega arith) in
          let left =
          lines_passed n text (spec.next_line text at) (line + 1) to (omega arith) near inside
          (next_begins text at (omega arith) (omega arith)) ends (omega arith) (λ q after less. none q (omega arith) less) in
          record {
            number = left.number;
            same =
                line_passed text at line (omega arith) later (no_define_here text at to sooner begins (λ _. ends) none)
                ∙ left.same;
            counted = left.counted;
          })
    ]

no_left : (text : List ℕ) (at : ℕ) → length text ≤ at → drop at text ≡ []
no_left text at past =
    let long : length (drop at text) ≡ length text - at = length-drop at text in nothing (drop at text) (omega arith)

ended : (text : List ℕ) (at line : ℕ) → length text ≤ at → spec.defines_from text at line ≡ Ok []
ended text at line past = ap (spec.defines_after text 0 at line) (no_left text at past)

lines_ended :
    (fuel : ℕ) (text : List ℕ) (at line : ℕ) → length text - at ≤ fuel → (at < length text → BeginsLine text at) →
    ((q : ℕ) → at ≤ q → q < length text → ¬ BeginsDefine text q) → spec.defines_from text at line ≡ Ok []
lines_ended zero text at line short begins none = ended text at line (omega arith)
lines_ended (suc n) text at line short begins none =
    elim (cases_lt at (length text)) [
      | inr past ↦ ended text at line past
      | inl inside ↦
          (let later : at < spec.next_line text at = next_after text at inside in
          line_passed text at line inside later
          (no_define_here text at (length text) inside (begins inside) (λ past. absurd (omega arith)) none)
          ∙ lines_ended n text (spec.next_line text at) (line + 1) (omega arith) (λ more. next_begins text at inside more)
          (λ q after less. none q (omega arith) less))
    ]

-- at the line of the next define
record Arrived (text : List ℕ) (at line start : ℕ) : Type 0 where
  begin : ℕ
  number : ℕ
  inside : begin < length text
  begins : BeginsLine text begin
  same : spec.defines_from text at line ≡ spec.defines_from text begin number
  found : spec.define_of_line text begin ≡ Some start
  counted : number ≡ line_at text start
  order : begin ≤ start

arrived : (text : List ℕ) (at line start : ℕ) → IsAt text start at line → BeginsDefine text start → Arrived text at line start
arrived text at line start here d =
    let inside : start < length text = word_inside text start d in
    let before = d.before in
    let order : at ≤ start =
    elim (cases_lt start at) [ inl past ↦ absurd (here.later start (omega arith) past d) | inr order ↦ order ] in
    let begins = here.begins (omega arith) in
    let on : at ≤ d.line =
    elim (cases_lt d.line at) [
      | inl sooner ↦ absurd (begins_no_later text d.line start at d.blanks sooner order begins)
      | inr on ↦ on
    ] in
    let passed =
    lines_passed (d.line - at) text at line d.line (omega arith) on (omega arith) begins d.begins
    (here.counted (omega arith)) (λ q after less. here.sooner q after (omega arith)) in
    let found = word_of_line text d.line start d.before d.blanks d.word in
    let feeds = word_on_line text d.line start (word_found text d.line start found) in
    let counted = passed.counted in
    record {
      begin = d.line;
      number = passed.number;
      inside = omega arith;
      begins = d.begins;
      same = passed.same;
      found = found;
      counted = omega arith;
      order = d.before;
    }

-- the defines among items
abbrev extents : List Item → List spec.Extent
extents [] = []
extents (Item.Lines _ _ ∷ rest) = extents rest
extents (Item.Define start end line ∷ rest) = record { start = start; end = end; line = line } ∷ extents rest

abbrev with_all : List spec.Extent → Result (List spec.Extent) SplitFault → Result (List spec.Extent) SplitFault
with_all [] r = r
with_all (d ∷ ds) r = spec.with_first d (with_all ds r)

record Gone (text : List ℕ) (at line to : ℕ) (items : List Item) : Type 0 where
  place : ℕ
  number : ℕ
  here : IsAt text to place number
  same : spec.defines_from text at line ≡ with_all (extents items) (spec.defines_from text place number)

byte_of_body : (text : List ℕ) (braces : ℕ) (ts : List Token) (t : Token) → spec.closing_of_body text braces ts ≡ Some t → spec.first_byte text t ≡ byte "}"
byte_of_body text braces [] t e = absurd (cc)
byte_of_body text braces (u ∷ ts) t e =
    by_test (spec.closes_body braces (spec.first_byte text u)) refl e
    (byte_of_body text (spec.braces_after braces (spec.first_byte text u)) ts t)
  where
    by_test :
        (b : Bool) → spec.closes_body braces (spec.first_byte text u) ≡ b →
        cond b (Some u) (spec.closing_of_body text (spec.braces_after braces (spec.first_byte text u)) ts) ≡ Some t →
        (spec.closing_of_body text (spec.braces_after braces (spec.first_byte text u)) ts ≡ Some t → spec.first_byte text t ≡ byte "}") →
        spec.first_byte text t ≡ byte "}"
    by_test true h e left = let same : u ≡ t = (cc) in ap (spec.first_byte text) (sym same) ∙ closes_byte braces (spec.first_byte text u) h
    by_test false h e left = left e

byte_of_define :
    (text : List ℕ) (named : Bool) (parens : ℕ) (ts : List Token) (t : Token) →
    spec.closing_of_define text named parens ts ≡ Some t → spec.first_byte text t ≡ byte "}"
byte_of_define text named parens [] t e = absurd (cc)
byte_of_define text named parens (u ∷ ts) t e =
    by_test (spec.opens_body named parens (spec.first_byte text u)) e
    (byte_of_define text (named || spec.is_global u.kind) (spec.parens_after parens (spec.first_byte text u)) ts t)
  where
    by_test :
        (b : Bool) →
        cond b (spec.closing_of_body text 0 ts)
        (spec.closing_of_define text (named || spec.is_global u.kind) (spec.parens_after parens (spec.first_byte text u)) ts) ≡ Some t →
        (spec.closing_of_define text (named || spec.is_global u.kind) (spec.parens_after parens (spec.first_byte text u)) ts ≡ Some t →
        spec.first_byte text t ≡ byte "}") → spec.first_byte text t ≡ byte "}"
    by_test true e left = byte_of_body text 0 ts t e
    by_test false e left = left e

pub all_at : (P : Token → Type 0) (ts : List Token) (k : ℕ) (t : Token) → AllByRecursion P ts → slice_get ts k ≡ Some t → P t
all_at P [] k t all e = absurd (cc)
all_at P (u ∷ ts) zero t all e = let same : u ≡ t = (cc) in subst P same all.0
all_at P (u ∷ ts) (suc k) t all e = all_at P ts k t all.1 e

-- the brace of a define
brace_of : (text : List ℕ) (start : ℕ) (t : Token) → start ≤ length text → Closes text (tokens_at text start) t → IsBrace text start (line_at text start) t
brace_of text start t inside c =
    let some : spec.closing_of_define text false 0 (tokens_at text start) ≡ Some t = (closes_exactly text (tokens_at text start) t).1 c in
    let byte_is : get_or text t.start 0 ≡ byte "}" = byte_of_define text false 0 (tokens_at text start) t some in
    let placed = all_at _ _ c.closing t (tokens_placed text start (line_at text start) inside) c.token in
    record {
      after = placed.after;
      byte_is = byte_is;
      one = brace_end _ _ _ _ placed byte_is;
      within = placed.within;
      lines = placed_feeds _ _ _ _ placed;
    }

clear_of : (bs : List ℕ) → ¬ HasMore bs → spec.is_clear bs ≡ true
clear_of bs none = by_test (spec.is_clear bs) refl
  where
    by_test : (b : Bool) → spec.is_clear bs ≡ b → spec.is_clear bs ≡ true
    by_test true e = e
    by_test false e = absurd (none (unclear_has_more bs e))

after_brace :
    (text : List ℕ) (start : ℕ) (t : Token) → IsBrace text start (line_at text start) t →
    IsAt text t.end (spec.next_line text t.end) (t.line + 1)
after_brace text start t b = record {
  sooner = λ q order less. absurd (omega arith);
  later = none_after_brace text start (line_at text start) t b;
  begins = λ more.
      let inside : t.end < length text = omega arith in next_begins text t.end inside more;
  counted = λ more.
      let feeds = next_feeds text t.end b.within more in
      let same = brace_feeds text start (line_at text start) t b in
      let lines = b.lines in
      omega arith;
}

-- reading goes on after a define
record DefinePassed (text : List ℕ) (begin line start end number : ℕ) : Type 0 where
  on : ℕ
  here : IsAt text end (spec.next_line text end) on
  same :
      spec.defines_from text begin line ≡
      spec.with_first (record { start = start; end = end; line = number }) (spec.defines_from text (spec.next_line text end) on)

define_passed :
    (text : List ℕ) (begin line start end number : ℕ) → begin < length text → spec.define_of_line text begin ≡ Some start →
    line ≡ line_at text start → begin ≤ start → IsDefine text start end number → DefinePassed text begin line start end number
define_passed text begin line start end number inside found counted order part =
    let t : Token = part.brace in
    let ends : part.brace.end ≡ end = part.ends in
    let some : spec.closing_brace text start line ≡ Some part.brace =
    ap (spec.closing_brace text start) counted ∙ (closes_exactly text (tokens_at text start) part.brace).1 part.closes in
    let begins = word_inside text start part.begins in
    let b = brace_of text start part.brace (omega arith) part.closes in
    let one = b.one in
    let after = b.after in
    let within = b.within in
    let clear : spec.is_clear (drop part.brace.end text) ≡ true = clear_of _ (subst (λ n. ¬ HasMore (drop n text)) (sym ends) part.clear) in
    let later : begin < spec.next_line text part.brace.end = omega arith in
    let numbered : line ≡ number = counted ∙ sym part.lines in
    let passed =
    define_closed text begin line start part.brace inside found some clear later in
    let P : ℕ → Type 0 =
    λ n. spec.defines_from text begin line ≡
    spec.with_first (record { start = start; end = n; line = number }) (spec.defines_from text (spec.next_line text n) (part.brace.line + 1)) in
    let Q : ℕ → Type 0 =
    λ n. spec.defines_from text begin line ≡
    spec.with_first (record { start = start; end = part.brace.end; line = n })
    (spec.defines_from text (spec.next_line text part.brace.end) (part.brace.line + 1)) in
    let R : ℕ → Type 0 = λ n. IsAt text n (spec.next_line text n) (part.brace.line + 1) in
    record {
      on = part.brace.line + 1;
      here = subst R ends (after_brace text start part.brace b);
      same = subst P ends (subst Q numbered passed);
    }

gone :
    (text : List ℕ) (from at line to : ℕ) (items : List Item) → IsAt text from at line → spec.Cover from to items →
    AllByRecursion (IsPart text) items → Gone text at line to items
gone text from at line to [] here cover parts = record {
  place = at;
  number = line;
  here = (let P : ℕ → Type 0 = λ n. IsAt text n at line in subst P cover here);
  same = refl;
}
gone text from at line to (Item.Lines s e ∷ rest) here cover parts =
    let start : s ≡ from = cover.0 in
    let more : from < e = cover.1 in
    let none = parts.0 in
    let there : IsAt text e at line =
    record {
      sooner = λ q order less d.
          elim (cases_lt q from) [ inl before ↦ here.sooner q order before d | inr past ↦ none q (omega arith) less d ];
      later = λ q order less. here.later q (omega arith) less;
      begins = here.begins;
      counted = here.counted;
    } in
    let left = gone text e at line to rest there cover.2 parts.1 in
    record { place = left.place; number = left.number; here = left.here; same = left.same }
gone text from at line to (Item.Define s e l ∷ rest) here cover parts =
    let start : s ≡ from = cover.0 in
    let part = parts.0 in
    let P : ℕ → Type 0 = λ n. IsAt text n at line in
    let a = arrived text at line s (subst P (sym start) here) part.begins in
    let first = define_passed text a.begin a.number s e l a.inside a.found a.counted a.order part in
    let left = gone text e (spec.next_line text e) first.on to rest first.here cover.2 parts.1 in
    record {
      place = left.place;
      number = left.number;
      here = left.here;
      same = a.same ∙ first.same ∙ ap (spec.with_first (record { start = s; end = e; line = l })) left.same;
    }

at_start : (text : List ℕ) → IsAt text 0 0 1
at_start text = record {
  sooner = λ q order less. absurd (omega arith);
  later = λ q order less. absurd (omega arith);
  begins = λ inside. inl refl;
  counted = λ inside. refl;
}

-- the text before a define that fails is passed
passed_err : (ds : List spec.Extent) (fault : SplitFault) → with_all ds (Err fault) ≡ Err fault
passed_err [] fault = refl
passed_err (d ∷ ds) fault = ap (spec.with_first d) (passed_err ds fault)

passed_ok : (ds : List spec.Extent) → with_all ds (Ok []) ≡ Ok ds
passed_ok [] = refl
passed_ok (d ∷ ds) = ap (spec.with_first d) (passed_ok ds)

-- the next define is come to
record Reached (text : List ℕ) (start : ℕ) : Type 0 where
  items : List Item
  begin : ℕ
  number : ℕ
  inside : begin < length text
  found : spec.define_of_line text begin ≡ Some start
  counted : number ≡ line_at text start
  same : spec.defines_from text 0 1 ≡ with_all (extents items) (spec.defines_from text begin number)

reached : (text : List ℕ) (start : ℕ) → IsNextDefine text start → Reached text start
reached text start n =
    let g = gone text 0 0 1 start n.items (at_start text) n.cover n.parts in
    let a = arrived text g.place g.number start g.here n.begins in
    record {
      items = n.items;
      begin = a.begin;
      number = a.number;
      inside = a.inside;
      found = a.found;
      counted = a.counted;
      same = g.same ∙ ap (with_all (extents n.items)) a.same;
    }

fails_so :
    (text : List ℕ) (ds : List spec.Extent) (r : Result (List spec.Extent) SplitFault) (fault : SplitFault) →
    spec.defines_from text 0 1 ≡ with_all ds r → r ≡ Err fault → spec.split_of text ≡ Err fault
fails_so text ds r fault same e =
    let all : spec.defines_from text 0 1 ≡ Err fault = same ∙ (ap (with_all ds) e ∙ passed_err ds fault) in rw (spec.split_of, all) refl

no_token : (text : List ℕ) (start : ℕ) → ((t : Token) → ¬ Closes text (tokens_at text start) t) → spec.closing_brace text start (line_at text start) ≡ None
no_token text start none = by_answer (spec.closing_brace text start (line_at text start)) refl
  where
    by_answer :
        (o : Option Token) → spec.closing_brace text start (line_at text start) ≡ o →
        spec.closing_brace text start (line_at text start) ≡ None
    by_answer None e = e
    by_answer (Some t) e = absurd (none t ((closes_exactly text (tokens_at text start) t).0 e))

pub unclosed_fails : (text : List ℕ) (start : ℕ) → IsUnclosed text start → spec.split_of text ≡ Err (SplitFault.Unclosed start)
unclosed_fails text start u =
    let r = reached text start u.next in
    let none : spec.closing_brace text start r.number ≡ None = ap (spec.closing_brace text start) r.counted ∙ no_token text start u.open_ended in
    fails_so text (extents r.items) _ _ r.same (define_unclosed text r.begin r.number start r.inside r.found none)

has_more_unclear : (bs : List ℕ) → HasMore bs → spec.is_clear bs ≡ false
has_more_unclear bs more = by_test (spec.is_clear bs) refl
  where
    by_test : (b : Bool) → spec.is_clear bs ≡ b → spec.is_clear bs ≡ false
    by_test true e = absurd (clear_has_none bs e more)
    by_test false e = e

pub followed_fails : (text : List ℕ) (line : ℕ) → IsBadLine text line → spec.split_of text ≡ Err (SplitFault.BadLine line)
followed_fails text line b =
    let r = reached text b.start b.next in
    let some : spec.closing_brace text b.start r.number ≡ Some b.brace =
    ap (spec.closing_brace text b.start) r.counted ∙ (closes_exactly text (tokens_at text b.start) b.brace).1 b.closes in
    fails_so text (extents r.items) _ _ r.same
    (define_bad text r.begin r.number b.start b.brace r.inside r.found some (has_more_unclear _ b.more) ∙ ap (λ n. Err (SplitFault.BadLine n)) b.on_line)

to_the_end : (text : List ℕ) (at line : ℕ) → IsAt text (length text) at line → spec.defines_from text at line ≡ Ok []
to_the_end text at line here =
    lines_ended (length text - at) text at line (omega arith) here.begins here.sooner

lines_none : (n : ℕ) → spec.lines_between n n ≡ []
lines_none n = by_test (nat_lt n n) refl
  where
    by_test : (t : Bool) → nat_lt n n ≡ t → cond t (Item.Lines n n ∷ []) [] ≡ []
    by_test true h = absurd (grind arith)
    by_test false h = refl

lines_some : (a b : ℕ) → a < b → spec.lines_between a b ≡ Item.Lines a b ∷ []
lines_some a b less = by_test (nat_lt a b) refl
  where
    by_test : (t : Bool) → nat_lt a b ≡ t → cond t (Item.Lines a b ∷ []) [] ≡ Item.Lines a b ∷ []
    by_test true h = refl
    by_test false h = absurd (grind arith)

items_back :
    (from to : ℕ) (items : List Item) → spec.Cover from to items → AreApart items →
    spec.items_between from to (extents items) ≡ items
items_back from to [] cover apart = let e : to ≡ from = sym cover in rw e (lines_none from)
items_back from to (Item.Define s e l ∷ rest) cover apart =
    let start : s ≡ from = cover.0 in
    rw (start, lines_none from) (ap (λ l'. Item.Define from e l ∷ l') (items_back e to rest cover.2 apart))
items_back from to (Item.Lines s e ∷ []) cover apart =
    let start : s ≡ from = cover.0 in
    let ended : to ≡ e = sym cover.2 in
    rw (ended, start) (lines_some from e cover.1)
items_back from to (Item.Lines s e ∷ Item.Lines _ _ ∷ rest) cover apart = absurd apart
items_back from to (Item.Lines s e ∷ Item.Define s' e' l' ∷ rest) cover apart =
    let start : s ≡ from = cover.0 in
    let next : s' ≡ e = cover.2.0 in
    rw (next, start, lines_some from e cover.1) (ap (λ l. Item.Lines from e ∷ Item.Define e e' l' ∷ l) (items_back e' to rest cover.2.2 apart))

pub one_split : (text : List ℕ) (items : List Item) → IsSplit text items → spec.split_of text ≡ Ok items
one_split text items s =
    let g = gone text 0 0 1 (length text) items (at_start text) s.cover s.parts in
    let ended = to_the_end text g.place g.number g.here in
    let all : spec.defines_from text 0 1 ≡ Ok (extents items) = g.same ∙ (ap (with_all (extents items)) ended ∙ passed_ok (extents items)) in
    rw (spec.split_of, all) (ap Ok (items_back 0 (length text) items s.cover s.apart))
