-- Steps of the loop over the lines of a text.
use Rattle.std.proofs.Common.{inl, inr, ◌≡◌, ℕ, zero, suc, ◌+◌, ◌-◌, ◌<◌, ◌≤◌, ◌==◌, ◌≢◌, ◌&&◌, ◌||◌, Bool, true, false, List, [], ◌∷◌, ◌++◌, append_assoc, Result, Ok, Err, nat_eq, nat_lt, codes, not, cond, length, take, drop, get_or, Some, None, refl, sym, subst, ap, add-one, ◌∙◌, arith, drop-cons, length-drop}
use Rattle.std.proofs.lemmas.Bool.{cases_lt, cases_order, eqb-true, eqb-false, true≢false}
use Rattle.std.proofs.lemmas.List.{drop-drop, get_or-drop}
use Rattle.std.proofs.lemmas.List.Sums.{prefix_len_passes}
use Rattle.vfa_ir.specs.declared.tokens.Token.{Token}
use Rattle.std.specs.List.{AllByRecursion, position_or_len, prefix_len, starts_with}
use Rattle.std.specs.Str.{byte}
use Rattle.vfa_ir.proofs.Reading.{feeds_range}
use Rattle.vfa_ir.specs.Tokens.{is_blank, line_feed, line_feeds}
use Rattle.vfa_module.specs.Defines.{AreApart, BeginsDefine, BeginsLine, HasMore, HasNoDefine, IsBrace, IsPart}
use Rattle.vfa_module.specs.Split as spec
use Rattle.vfa_module.specs.declared.items.Item.{Item}
use Rattle.vfa_module.specs.declared.items.SplitFault.{SplitFault}

-- the bytes of a line or a define are passed over
defines-skip :
    (text : List ℕ) (skip place line : ℕ) (left : List ℕ) →
    spec.defines_after text skip place line left ≡ spec.defines_after text 0 (place + skip) line (drop skip left)
defines-skip text zero place line [] = refl
defines-skip text (suc skip) place line [] = refl
defines-skip text zero place line (b ∷ left) = let at : place + 0 ≡ place = omega arith in rw at refl
defines-skip text (suc skip) place line (b ∷ left) =
    let at : place + 1 + skip ≡ place + suc skip = omega arith in
    defines-skip text skip (place + 1) line left ∙ rw at refl

defines-next :
    (text : List ℕ) (at next line : ℕ) → at < next →
    spec.defines_after text (next - (at + 1)) (at + 1) line (drop (at + 1) text) ≡ spec.defines_from text next line
defines-next text at next line later =
    let on : at + 1 + (next - (at + 1)) ≡ next = omega arith in
    defines-skip text (next - (at + 1)) (at + 1) line (drop (at + 1) text) ∙ rw (drop-drop, on) refl

begins_with : (text : List ℕ) (at : ℕ) → at < length text → drop at text ≡ get_or text at 0 ∷ drop (at + 1) text
begins_with text at inside = rw add-one (drop-cons text at 0 inside)

pub line_passed :
    (text : List ℕ) (at line : ℕ) → at < length text → at < spec.next_line text at →
    spec.define_of_line text at ≡ None →
    spec.defines_from text at line ≡ spec.defines_from text (spec.next_line text at) (line + 1)
line_passed text at line inside later none =
    ap (spec.defines_after text 0 at line) (begins_with text at inside)
    ∙ (rw (none, spec.defines_after) refl ∙ defines-next text at (spec.next_line text at) (line + 1) later)

at_define :
    (text : List ℕ) (at line start : ℕ) → at < length text → spec.define_of_line text at ≡ Some start →
    spec.defines_from text at line ≡
    spec.define_then text start line (spec.closing_brace text start line)
    (λ t. spec.defines_after text (spec.next_line text t.end - (at + 1)) (at + 1) (t.line + 1) (drop (at + 1) text))
at_define text at line start inside some = ap (spec.defines_after text 0 at line) (begins_with text at inside) ∙ rw (some, spec.defines_after) refl

pub define_unclosed :
    (text : List ℕ) (at line start : ℕ) → at < length text → spec.define_of_line text at ≡ Some start →
    spec.closing_brace text start line ≡ None → spec.defines_from text at line ≡ Err (SplitFault.Unclosed start)
define_unclosed text at line start inside some none = at_define text at line start inside some ∙ rw none refl

pub define_bad :
    (text : List ℕ) (at line start : ℕ) (t : Token) → at < length text → spec.define_of_line text at ≡ Some start →
    spec.closing_brace text start line ≡ Some t → spec.is_clear (drop t.end text) ≡ false →
    spec.defines_from text at line ≡ Err (SplitFault.BadLine t.line)
define_bad text at line start t inside some closed bad = at_define text at line start inside some ∙ rw (closed, bad) refl

pub define_closed :
    (text : List ℕ) (at line start : ℕ) (t : Token) → at < length text → spec.define_of_line text at ≡ Some start →
    spec.closing_brace text start line ≡ Some t → spec.is_clear (drop t.end text) ≡ true →
    at < spec.next_line text t.end →
    spec.defines_from text at line ≡
    spec.with_first (record { start = start; end = t.end; line = line })
    (spec.defines_from text (spec.next_line text t.end) (t.line + 1))
define_closed text at line start t inside some closed clear later =
    at_define text at line start inside some
    ∙ rw (closed, clear)
    (ap (spec.with_first (record { start = start; end = t.end; line = line }))
    (defines-next text at (spec.next_line text t.end) (t.line + 1) later))

-- the items so far, and those of the defines that are left
abbrev pub items_then : List Item → ℕ → ℕ → Result (List spec.Extent) SplitFault → Result (List Item) SplitFault
items_then items copied end (Ok defines) = Ok (items ++ spec.items_between copied end defines)
items_then items copied end (Err fault) = Err fault

pub items_then-first :
    (items : List Item) (copied end : ℕ) (d : spec.Extent) (left : Result (List spec.Extent) SplitFault) →
    items_then items copied end (spec.with_first d left) ≡
    items_then ((items ++ spec.lines_between copied d.start) ++ Item.Define d.start d.end d.line ∷ []) d.end end left
items_then-first items copied end d (Ok defines) = ap Ok (simp append_assoc)
items_then-first items copied end d (Err fault) = refl

pub Cover-append : (from at to : ℕ) (xs ys : List Item) → spec.Cover from at xs → spec.Cover at to ys → spec.Cover from to (xs ++ ys)
Cover-append from at to [] ys c d = rw c d
Cover-append from at to (x ∷ xs) ys c d = (c.0, c.1, Cover-append _ at to xs ys c.2 d)

pub Cover-lines : (from to : ℕ) → from ≤ to → spec.Cover from to (spec.lines_between from to)
Cover-lines from to order = by_test (nat_lt from to) refl
  where
    by_test :
        (t : Bool) → nat_lt from to ≡ t → spec.Cover from to (cond t (Item.Lines from to ∷ []) [])
    by_test true h = (refl, grind arith, refl)
    by_test false h = grind arith

pub all-append : (P : Item → Type 0) (xs ys : List Item) → AllByRecursion P xs → AllByRecursion P ys → AllByRecursion P (xs ++ ys)
all-append P [] ys c d = d
all-append P (x ∷ xs) ys c d = (c.0, all-append P xs ys c.1 d)

pub lines_are_parts :
    (text : List ℕ) (from to : ℕ) → HasNoDefine text from to →
    AllByRecursion (IsPart text) (spec.lines_between from to)
lines_are_parts text from to none = by_test (nat_lt from to)
  where
    by_test : (t : Bool) → AllByRecursion (IsPart text) (cond t (Item.Lines from to ∷ []) [])
    by_test true = (none, tt)
    by_test false = tt

pub closes_byte : (braces b : ℕ) → spec.closes_body braces b ≡ true → b ≡ byte "}"
unfolding spec.closes_body
closes_byte braces b h = grind arith

-- the word of a define: where it stands, and that it is one
pub record WordFound (text : List ℕ) (at start : ℕ) : Type 0 where
  pub place : start ≡ at + spec.indent (drop at text)
  pub word : spec.begins_define (drop start text) ≡ true

pub word_found : (text : List ℕ) (at start : ℕ) → spec.define_of_line text at ≡ Some start → WordFound text at start
word_found text at start some = by_test (spec.begins_define (drop (at + spec.indent (drop at text)) text)) refl some
  where
    by_test :
        (t : Bool) → spec.begins_define (drop (at + spec.indent (drop at text)) text) ≡ t →
        cond t (Some (at + spec.indent (drop at text))) None ≡ Some start → WordFound text at start
    by_test true h some =
        let same : at + spec.indent (drop at text) ≡ start = (cc) in
        record { place = sym same; word = (rw same at h) }
    by_test false h some = absurd (cc)

-- an indent has no line feed
indent_cons :
    (b : ℕ) (rest : List ℕ) (t : Bool) → (b == byte " " || b == byte "\t") ≡ t → line_feeds (take (spec.indent rest) rest) ≡ 0 →
    line_feeds (take (cond t (1 + spec.indent rest) 0) (b ∷ rest)) ≡ 0
indent_cons b rest true h left =
    let one : 1 + spec.indent rest ≡ suc (spec.indent rest) = omega arith in
    let none : line_feed b ≡ 0 = grind arith in
    rw one (omega arith)
indent_cons b rest false h left = refl

indent_feeds : (bs : List ℕ) → line_feeds (take (spec.indent bs) bs) ≡ 0
indent_feeds [] = refl
indent_feeds (b ∷ rest) = indent_cons b rest (b == byte " " || b == byte "\t") refl (indent_feeds rest)

pub word_on_line :
    (text : List ℕ) (at start : ℕ) → WordFound text at start →
    line_feeds (take start text) ≡ line_feeds (take at text)
word_on_line text at start w =
    let place : start ≡ at + spec.indent (drop at text) = w.place in
    let long : start - at ≡ spec.indent (drop at text) = omega arith in
    let feeds : line_feeds (take start text) ≡ line_feeds (take at text) + line_feeds (take (start - at) (drop at text)) =
    feeds_range text at start (omega arith) in
    let none : line_feeds (take (start - at) (drop at text)) ≡ 0 = rw long (indent_feeds (drop at text)) in
    omega arith

-- a line that is not the last one has one line feed
line_cons :
    (b : ℕ) (rest : List ℕ) (t : Bool) → (b == byte "\n") ≡ t →
    cond (not t) (1 + position_or_len (λ c. c == byte "\n") rest) 0 < suc (length rest) →
    (position_or_len (λ c. c == byte "\n") rest < length rest →
    line_feeds (take (position_or_len (λ c. c == byte "\n") rest + 1) rest) ≡ 1) →
    line_feeds (take (cond (not t) (1 + position_or_len (λ c. c == byte "\n") rest) 0 + 1) (b ∷ rest)) ≡ 1
line_cons b rest true h inside left =
    let one : line_feed b ≡ 1 = (rw h refl) in omega arith
line_cons b rest false h inside left =
    let n = position_or_len (λ c. c == byte "\n") rest in
    let more : 1 + n + 1 ≡ suc (n + 1) = omega arith in
    let none : line_feed b ≡ 0 = (rw h refl) in
    let rest_feeds : line_feeds (take (n + 1) rest) ≡ 1 = left (omega arith) in
    rw more (omega arith)

line_has_feed :
    (bs : List ℕ) → position_or_len (λ c. c == byte "\n") bs < length bs →
    line_feeds (take (position_or_len (λ c. c == byte "\n") bs + 1) bs) ≡ 1
line_has_feed [] inside = absurd (omega arith)
line_has_feed (b ∷ rest) inside = line_cons b rest (b == byte "\n") refl inside (line_has_feed rest)

next_feeds_from :
    (bs : List ℕ) → spec.line_bytes bs < length bs → line_feeds (take (spec.line_bytes bs) bs) ≡ 1
next_feeds_from bs more = by_test (nat_lt (position_or_len (λ c. c == byte "\n") bs) (length bs)) refl more
  where
    by_test :
        (t : Bool) → nat_lt (position_or_len (λ c. c == byte "\n") bs) (length bs) ≡ t →
        (elim (cond t (Some (position_or_len (λ c. c == byte "\n") bs)) None) [ None ↦ length bs | Some n ↦ n + 1 ]) < length bs →
        line_feeds (take (elim (cond t (Some (position_or_len (λ c. c == byte "\n") bs)) None) [ None ↦ length bs | Some n ↦ n + 1 ]) bs) ≡ 1
    by_test true h more = line_has_feed bs (grind arith)
    by_test false h more = absurd (omega arith)

pub next_feeds :
    (text : List ℕ) (at : ℕ) → at ≤ length text → spec.next_line text at < length text →
    line_feeds (take (spec.next_line text at) text) ≡ line_feeds (take at text) + 1
next_feeds text at inside more =
    let n = spec.line_bytes (drop at text) in
    let long : length (drop at text) ≡ length text - at = length-drop at text in
    let here : at + n - at ≡ n = omega arith in
    let one : line_feeds (take n (drop at text)) ≡ 1 = next_feeds_from (drop at text) (omega arith) in
    feeds_range text at (at + n) (omega arith) ∙ rw (here, one) refl

-- the brace itself ends no line
pub brace_feeds :
    (text : List ℕ) (from line : ℕ) (t : Token) → IsBrace text from line t →
    line_feeds (take t.end text) ≡ line_feeds (take t.start text)
brace_feeds text from line t b =
    let one : t.end - t.start ≡ 1 = (let end = b.one in omega arith) in
    let inside : t.start < length text = (let end = b.one in let within = b.within in omega arith) in
    let none : line_feeds (take (t.end - t.start) (drop t.start text)) ≡ 0 =
    rw (one, begins_with text t.start inside, b.byte_is) refl in
    let feeds = feeds_range text t.start t.end (let end = b.one in omega arith) in
    omega arith

-- the bytes of a line, but for the last one, are no line feeds
no_feed_inside : (bs : List ℕ) (k : ℕ) → k + 1 < spec.line_bytes bs → k < prefix_len (λ c. not (c == byte "\n")) bs
no_feed_inside bs k inside = by_test (nat_lt (position_or_len (λ c. c == byte "\n") bs) (length bs)) refl inside
  where
    by_test :
        (t : Bool) → nat_lt (position_or_len (λ c. c == byte "\n") bs) (length bs) ≡ t →
        k + 1 < (elim (cond t (Some (position_or_len (λ c. c == byte "\n") bs)) None) [ None ↦ length bs | Some n ↦ n + 1 ]) →
        k < prefix_len (λ c. not (c == byte "\n")) bs
    by_test true h inside = omega arith
    by_test false h inside = grind arith

is_no_feed : (b : ℕ) → not (b == byte "\n") ≡ true → b ≡ byte "\n" → ⊥
is_no_feed b h e = grind arith

is_no_feed_of_indent : (b : ℕ) → (b == byte " " || b == byte "\t") ≡ true → b ≡ byte "\n" → ⊥
is_no_feed_of_indent b h e = grind arith

pub no_line_inside :
    (text : List ℕ) (at q : ℕ) → at < q → q < spec.next_line text at → get_or text (q - 1) 0 ≡ 10 → ⊥
no_line_inside text at q later inside feed =
    let k : ℕ = q - 1 - at in
    let here : at + (q - 1 - at) ≡ q - 1 = omega arith in
    let short : q - 1 - at < prefix_len (λ c. not (c == byte "\n")) (drop at text) = no_feed_inside (drop at text) (q - 1 - at) (omega arith) in
    let passes = prefix_len_passes (λ c. not (c == byte "\n")) (drop at text) (q - 1 - at) 0 short in
    is_no_feed (get_or text (q - 1) 0) (rw (get_or-drop, here) at passes) feed

is_blank_no_feed : (b : ℕ) → spec.is_space_or_tab b ≡ true → b ≡ byte "\n" → ⊥
is_blank_no_feed b h e = is_no_feed_of_indent b h e

-- a line does not begin inside the blanks of another
pub begins_no_later :
    (text : List ℕ) (line start at : ℕ) → ((k : ℕ) → line ≤ k → k < start → spec.is_space_or_tab (get_or text k 0) ≡ true) →
    line < at → at ≤ start → BeginsLine text at → ⊥
begins_no_later text line start at blanks later inside (inl zero_at) = omega arith
begins_no_later text line start at blanks later inside (inr feed) =
    is_blank_no_feed (get_or text (at - 1) 0) (blanks (at - 1) (omega arith) (omega arith)) feed

first_is_d : (b : ℕ) (rest : List ℕ) → spec.begins_define (b ∷ rest) ≡ true → b ≡ byte "d"
unfolding spec.begins_define
first_is_d b rest word = go (100 == b) refl word
  where
    go : (t : Bool) → (100 == b) ≡ t → ((t && starts_with nat_eq rest (codes "efine")) && spec.has_blank 6 (b ∷ rest)) ≡ true → b ≡ byte "d"
    go true e h = sym (eqb-true 100 b e)
    go false e h = absurd (cc)

-- spaces and tabs up to the word are the indent
indent_is :
    (bs : List ℕ) (n : ℕ) → ((k : ℕ) → k < n → spec.is_space_or_tab (get_or bs k 0) ≡ true) →
    spec.begins_define (drop n bs) ≡ true → spec.indent bs ≡ n
unfolding spec.begins_define
indent_is [] zero blanks word = refl
indent_is [] (suc n) blanks word = absurd (cc)
indent_is (b ∷ rest) zero blanks word =
    let other : spec.is_space_or_tab b ≡ false = (let first = first_is_d b rest word in rw first refl) in rw other refl
indent_is (b ∷ rest) (suc n) blanks word =
    let here : spec.is_space_or_tab b ≡ true = blanks 0 (omega arith) in
    let left : spec.indent rest ≡ n = indent_is rest n (λ k less. blanks (suc k) (omega arith)) word in
    rw (here, left) (omega arith)

pub word_of_line :
    (text : List ℕ) (at start : ℕ) → at ≤ start →
    ((k : ℕ) → at ≤ k → k < start → spec.is_space_or_tab (get_or text k 0) ≡ true) →
    spec.begins_define (drop start text) ≡ true → spec.define_of_line text at ≡ Some start
word_of_line text at start order blanks word =
    let on : at + (start - at) ≡ start = omega arith in
    let inside : (k : ℕ) → k < start - at → spec.is_space_or_tab (get_or (drop at text) k 0) ≡ true =
    λ k less. (rw get_or-drop (blanks (at + k) (omega arith) (omega arith))) in
    let long : spec.indent (drop at text) ≡ start - at = indent_is (drop at text) (start - at) inside (rw (drop-drop, on) word) in
    rw (long, on, word) refl

pub blanks_of :
    (text : List ℕ) (at start : ℕ) → WordFound text at start → (k : ℕ) → at ≤ k → k < start →
    spec.is_space_or_tab (get_or text k 0) ≡ true
blanks_of text at start w k order less =
    let place : start ≡ at + spec.indent (drop at text) = w.place in
    let here : at + (k - at) ≡ k = omega arith in
    let passes = prefix_len_passes spec.is_space_or_tab (drop at text) (k - at) 0 (omega arith) in
    (rw (get_or-drop, here) at passes)

pub begins_define_of :
    (text : List ℕ) (at start : ℕ) → BeginsLine text at → spec.define_of_line text at ≡ Some start → BeginsDefine text start
begins_define_of text at start line some =
    let w = word_found text at start some in
    let place : start ≡ at + spec.indent (drop at text) = w.place in
    record {
      line = at;
      begins = line;
      before = omega arith;
      blanks = blanks_of text at start w;
      word = w.word;
    }

-- the only line that a define begins on from one line up to the next is this one
pub on_this_line :
    (text : List ℕ) (at q : ℕ) → BeginsLine text at → at ≤ q → q < spec.next_line text at → BeginsDefine text q →
    spec.define_of_line text at ≡ Some q
on_this_line text at q line order inside d =
    elim (cases_order d.line at) [
      | inl same ↦ (let P : ℕ → Type 0 = λ n. (k : ℕ) → n ≤ k → k < q → spec.is_space_or_tab (get_or text k 0) ≡ true in
          word_of_line text at q order (subst P same d.blanks) d.word)
      | inr (inl sooner) ↦ absurd (begins_no_later text d.line q at d.blanks sooner order line)
      | inr (inr later) ↦ absurd (later_fails later d.begins)
    ]
  where
    later_fails : at < d.line → BeginsLine text d.line → ⊥
    later_fails later (inl zero_at) = omega arith
    later_fails later (inr feed) = let before = d.before in no_line_inside text at d.line later (omega arith) feed

pub none_passed :
    (text : List ℕ) (from at : ℕ) → BeginsLine text at → HasNoDefine text from at → spec.define_of_line text at ≡ None →
    HasNoDefine text from (spec.next_line text at)
none_passed text from at line before here q after inside d =
    elim (cases_lt q at) [
      | inl sooner ↦ before q after sooner d
      | inr later ↦ (let some = on_this_line text at q line later inside d in absurd (cc))
    ]

pub none_before_word :
    (text : List ℕ) (from at start : ℕ) → BeginsLine text at → HasNoDefine text from at →
    spec.define_of_line text at ≡ Some start → HasNoDefine text from start
none_before_word text from at start line before here q after inside d =
    elim (cases_lt q at) [
      | inl sooner ↦ before q after sooner d
      | inr later ↦ fails later
    ]
  where
    fails : at ≤ q → ⊥
    fails order =
        elim (cases_order d.line at) [
          | inl same ↦
              (let P : ℕ → Type 0 = λ n. (k : ℕ) → n ≤ k → k < q → spec.is_space_or_tab (get_or text k 0) ≡ true in
              let some = word_of_line text at q order (subst P same d.blanks) d.word in
              let same_word : q ≡ start = (cc) in
              omega arith)
          | inr (inl sooner) ↦ begins_no_later text d.line q at d.blanks sooner order line
          | inr (inr later) ↦
              (let ended = d.before in
              begins_no_later text at start d.line (blanks_of text at start (word_found text at start here)) later (omega arith) d.begins)
        ]

is_no_brace : (b : ℕ) → b ≡ byte "}" → b ≡ byte "\n" → ⊥
is_no_brace b h e = omega arith

is_brace_no_blank : (b : ℕ) → b ≡ byte "}" → spec.is_space_or_tab b ≡ true → ⊥
is_brace_no_blank b h e = grind arith

pub none_after_brace :
    (text : List ℕ) (from line : ℕ) (t : Token) → IsBrace text from line t →
    HasNoDefine text t.end (spec.next_line text t.end)
none_after_brace text from line t b q after inside d =
    elim (cases_lt d.line t.end) [
      | inl sooner ↦ (let one = b.one in
          is_brace_no_blank (get_or text t.start 0) b.byte_is (d.blanks t.start (omega arith) (omega arith)))
      | inr later ↦ fails later d.begins
    ]
  where
    brace_at : d.line ≡ t.end → d.line - 1 ≡ t.start
    brace_at same = let one = b.one in omega arith

    fails : t.end ≤ d.line → BeginsLine text d.line → ⊥
    fails later (inl zero_at) = let one = b.one in omega arith
    fails later (inr feed) =
        elim (cases_order d.line t.end) [
          | inl same ↦ is_no_brace (get_or text (d.line - 1) 0) (rw (brace_at same) b.byte_is) feed
          | inr (inl sooner) ↦ omega arith
          | inr (inr more) ↦ (let before = d.before in no_line_inside text t.end d.line more (omega arith) feed)
        ]

pub none_to_end :
    (text : List ℕ) (from at to : ℕ) → to ≤ at → HasNoDefine text from at → HasNoDefine text from to
none_to_end text from at to ended before q after inside = before q after (omega arith)

-- the first line feed
feed_at : (bs : List ℕ) → position_or_len spec.is_line_feed bs < length bs → get_or bs (position_or_len spec.is_line_feed bs) 0 ≡ 10
feed_at [] inside = absurd (omega arith)
feed_at (b ∷ rest) inside = by_test (b == byte "\n") refl inside (feed_at rest)
  where
    by_test :
        (t : Bool) → (b == byte "\n") ≡ t → cond (not t) (1 + position_or_len spec.is_line_feed rest) 0 < suc (length rest) →
        (position_or_len spec.is_line_feed rest < length rest → get_or rest (position_or_len spec.is_line_feed rest) 0 ≡ 10) →
        get_or (b ∷ rest) (cond (not t) (1 + position_or_len spec.is_line_feed rest) 0) 0 ≡ 10
    by_test true h inside left = eqb-true b (byte "\n") h
    by_test false h inside left =
        let one : 1 + position_or_len spec.is_line_feed rest ≡ suc (position_or_len spec.is_line_feed rest) = omega arith in
        rw one (left (omega arith))

feed_before :
    (bs : List ℕ) → spec.line_bytes bs < length bs → (0 < spec.line_bytes bs) × (get_or bs (spec.line_bytes bs - 1) 0 ≡ 10)
feed_before bs more = by_test (nat_lt (position_or_len spec.is_line_feed bs) (length bs)) refl more
  where
    by_test :
        (t : Bool) → nat_lt (position_or_len spec.is_line_feed bs) (length bs) ≡ t →
        (elim (cond t (Some (position_or_len spec.is_line_feed bs)) None) [ None ↦ length bs | Some n ↦ n + 1 ]) < length bs →
        (0 < (elim (cond t (Some (position_or_len spec.is_line_feed bs)) None) [ None ↦ length bs | Some n ↦ n + 1 ]))
        × (get_or bs ((elim (cond t (Some (position_or_len spec.is_line_feed bs)) None) [ None ↦ length bs | Some n ↦ n + 1 ]) - 1) 0 ≡ 10)
    by_test true h more =
        let at : position_or_len spec.is_line_feed bs + 1 - 1 ≡ position_or_len spec.is_line_feed bs = omega arith in
        (omega arith, rw at (feed_at bs (grind arith)))
    by_test false h more = absurd (omega arith)

-- the next line is later
pub next_after : (text : List ℕ) (at : ℕ) → at < length text → at < spec.next_line text at
next_after text at inside =
    let long : length (drop at text) ≡ length text - at = length-drop at text in
    let some : 0 < spec.line_bytes (drop at text) = by_test (nat_lt (position_or_len spec.is_line_feed (drop at text)) (length (drop at text))) (omega arith) in
    omega arith
  where
    by_test :
        (t : Bool) → 0 < length (drop at text) →
        0 < (elim (cond t (Some (position_or_len spec.is_line_feed (drop at text))) None) [ None ↦ length (drop at text) | Some n ↦ n + 1 ])
    by_test true some = omega arith
    by_test false some = some

-- a line begins after each line feed
pub next_begins :
    (text : List ℕ) (at : ℕ) → at < length text → spec.next_line text at < length text → BeginsLine text (spec.next_line text at)
next_begins text at inside more =
    let long : length (drop at text) ≡ length text - at = length-drop at text in
    let n : ℕ = spec.line_bytes (drop at text) in
    let before = feed_before (drop at text) (omega arith) in
    let some = before.0 in
    let place : at + spec.line_bytes (drop at text) - 1 ≡ at + (spec.line_bytes (drop at text) - 1) = omega arith in
    inr (rw (place, ← get_or-drop) before.1)

-- What follows a define on its last line

followed :
    (blanks : List ℕ) (other : ℕ) (rest : List ℕ) →
    AllByRecursion (λ b. (is_blank b ≡ true) × (b ≢ byte "\n")) blanks → is_blank other ≡ false → other ≢ byte ";" →
    spec.is_clear (blanks ++ other ∷ rest) ≡ false
unfolding is_blank
followed [] other rest all no_blank no_comment = grind arith
followed (b ∷ blanks) other rest all no_blank no_comment =
    let left : spec.is_clear (blanks ++ other ∷ rest) ≡ false = followed blanks other rest all.1 no_blank no_comment in
    let blank = all.0.0 in
    let no_feed = all.0.1 in
    grind arith

pub clear_has_none : (bs : List ℕ) → spec.is_clear bs ≡ true → ¬ HasMore bs
clear_has_none bs clear more =
    let unclear : spec.is_clear (more.blanks ++ more.other ∷ more.rest) ≡ false =
    followed more.blanks more.other more.rest more.on_line more.no_blank more.no_comment in
    let parts : bs ≡ more.blanks ++ more.other ∷ more.rest = more.parts in
    true≢false (sym clear ∙ ap spec.is_clear parts ∙ unclear)

pub unclear_has_more : (bs : List ℕ) → spec.is_clear bs ≡ false → HasMore bs
unclear_has_more [] unclear = absurd (true≢false unclear)
unclear_has_more (b ∷ rest) unclear =
    by_tests (b == byte "\n") (b == byte ";") (is_blank b) refl refl refl unclear (unclear_has_more rest)
  where
    by_tests :
        (feed comment blank : Bool) → (b == byte "\n") ≡ feed → (b == byte ";") ≡ comment → is_blank b ≡ blank →
        ((feed || comment) || (blank && spec.is_clear rest)) ≡ false → (spec.is_clear rest ≡ false → HasMore rest) →
        HasMore (b ∷ rest)
    by_tests true comment blank e f g h left = absurd (cc)
    by_tests false true blank e f g h left = absurd (cc)
    by_tests false false true e f g h left =
        let more = left h in
        record {
          blanks = b ∷ more.blanks;
          other = more.other;
          rest = more.rest;
          parts = ap (λ l. b ∷ l) more.parts;
          on_line = ((g, eqb-false b 10 e), more.on_line);
          no_blank = more.no_blank;
          no_comment = more.no_comment;
        }
    by_tests false false false e f g h left =
        record { blanks = []; other = b; rest = rest; parts = refl; on_line = tt; no_blank = g; no_comment = eqb-false b 59 f }

-- each item of lines has a define after it
abbrev pub AreClosed : List Item → Type 0
AreClosed [] = Unit {0}
AreClosed (Item.Define _ _ _ ∷ rest) = AreClosed rest
AreClosed (Item.Lines _ _ ∷ []) = ⊥
AreClosed (Item.Lines _ _ ∷ Item.Lines _ _ ∷ rest) = ⊥
AreClosed (Item.Lines _ _ ∷ Item.Define _ _ _ ∷ rest) = AreClosed rest

pub closed_append : (xs ys : List Item) → AreClosed xs → AreClosed ys → AreClosed (xs ++ ys)
closed_append [] ys c d = d
closed_append (Item.Define _ _ _ ∷ xs) ys c d = closed_append xs ys c d
closed_append (Item.Lines _ _ ∷ []) ys c d = absurd c
closed_append (Item.Lines _ _ ∷ Item.Lines _ _ ∷ xs) ys c d = absurd c
closed_append (Item.Lines _ _ ∷ Item.Define _ _ _ ∷ xs) ys c d = closed_append xs ys c d

pub apart_append : (xs ys : List Item) → AreClosed xs → AreApart ys → AreApart (xs ++ ys)
apart_append [] ys c d = d
apart_append (Item.Define _ _ _ ∷ xs) ys c d = apart_append xs ys c d
apart_append (Item.Lines _ _ ∷ []) ys c d = absurd c
apart_append (Item.Lines _ _ ∷ Item.Lines _ _ ∷ xs) ys c d = absurd c
apart_append (Item.Lines _ _ ∷ Item.Define _ _ _ ∷ xs) ys c d = apart_append xs ys c d

-- the lines before a define, and the define
pub closed_define :
    (items : List Item) (from start end line : ℕ) → AreClosed items →
    AreClosed ((items ++ spec.lines_between from start) ++ Item.Define start end line ∷ [])
closed_define items from start end line closed =
    rw append_assoc (closed_append items _ closed (by_test (nat_lt from start)))
  where
    by_test : (t : Bool) → AreClosed (cond t (Item.Lines from start ∷ []) [] ++ Item.Define start end line ∷ [])
    by_test true = tt
    by_test false = tt

pub apart_lines : (items : List Item) (from to : ℕ) → AreClosed items → AreApart (items ++ spec.lines_between from to)
apart_lines items from to closed = apart_append items _ closed (by_test (nat_lt from to))
  where
    by_test : (t : Bool) → AreApart (cond t (Item.Lines from to ∷ []) [])
    by_test true = tt
    by_test false = tt
