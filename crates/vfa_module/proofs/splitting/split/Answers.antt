use Rattle.std.proofs.Common.{◌≡◌, ◌+◌, ◌-◌, ◌≤◌, ◌<◌, ◌∙◌, ◌++◌, ℕ, List, Some, None, length, take, ap, refl, sym, arith}
use Rattle.std.specs.List.{AllByRecursion}
use Rattle.vfa_ir.proofs.Reading.{to_end}
use Rattle.vfa_ir.specs.Tokens.{line_feeds}
use Rattle.vfa_ir.specs.declared.tokens.Token.{Token}
use Rattle.vfa_module.specs.Defines.{BeginsLine, Closes, HasNoDefine, IsDefine, IsNextDefine, IsPart, line_at, tokens_at}
use Rattle.vfa_module.specs.Split as spec
use Rattle.vfa_module.specs.declared.items.Item.{Item}
use Rattle.vfa_module.proofs.Levels.{closes, closes_none}
use Rattle.vfa_module.proofs.Steps.{Cover-append, Cover-lines, all-append, apart_lines, begins_define_of, brace_feeds, clear_has_none, closed_define, define_bad, define_closed, define_unclosed, items_then, items_then-first, line_passed, lines_are_parts, next_begins, next_feeds, none_after_brace, none_before_word, none_passed, none_to_end, unclear_has_more, word_found, word_on_line}
use Rattle.vfa_module.proofs.splitting.split.Goals as goal

pub loop-at-preserved-in_default : goal.loop-at-preserved-in_default
loop-at-preserved-in_default c =
    let next = c.next_line-at.ensures.next in
    let order = c.next_line-at.ensures.order in
    let begins = c.loop-at.invariant.begins c.loop-at-test.true in
    let later = c.next_line-at.ensures.later c.loop-at-test.true in
    record {
      within = c.next_line-at.ensures.within;
      lines = omega arith;
      copied = omega arith;
      same =
          c.loop-at.invariant.same
          ∙ ap (items_then _ _ _)
          (line_passed _ _ _ c.loop-at-test.true (rw (← next) later) (sym c.in_default.ensures.define)
          ∙ rw next refl);
      cover = c.loop-at.invariant.cover;
      parts = c.loop-at.invariant.parts;
      none =
          rw next
          (none_passed c.args.bytes.now c.loop-at.copied c.loop-at.at begins c.loop-at.invariant.none
          (sym c.in_default.ensures.define));
      closed = c.loop-at.invariant.closed;
      begins = λ more.
          rw next (next_begins c.args.bytes.now c.loop-at.at c.loop-at-test.true (rw (← next) more));
      counted = λ more.
          let here = c.loop-at.invariant.counted c.loop-at-test.true in
          let feeds = next_feeds c.args.bytes.now c.loop-at.at c.loop-at.invariant.within (rw (← next) more) in
          rw next (omega arith);
    }

pub returns-in_default-closing_brace-clause-fault : goal.returns-in_default-closing_brace-clause-fault
returns-in_default-closing_brace-clause-fault c =
    c.loop-at.invariant.same
    ∙ ap (items_then _ _ _)
    (define_unclosed _ _ _ _ c.loop-at-test.true (sym c.in-Some.ensures.define)
    (sym c.in_default-closing_brace.ensures.brace))

pub returns-then-not-is_clear-clause-fault : goal.returns-then-not-is_clear-clause-fault
returns-then-not-is_clear-clause-fault c =
    let bad = c.if-not-is_clear.ensures in
    c.loop-at.invariant.same
    ∙ ap (items_then _ _ _)
    (define_bad _ _ _ _ _ c.loop-at-test.true (sym c.in-Some.ensures.define)
    (sym c.in-Some-closing_brace.ensures.brace) (sym (rw to_end at bad)))

-- at this define the text before splits
next_define :
    (text : List ℕ) (items : List Item) (copied at start : ℕ) → copied ≤ at → at ≤ start → spec.Cover 0 copied items →
    AllByRecursion (IsPart text) items → HasNoDefine text copied at → BeginsLine text at →
    spec.define_of_line text at ≡ Some start → IsNextDefine text start
next_define text items copied at start order later cover parts none begins some = record {
  items = items ++ spec.lines_between copied start;
  cover = Cover-append _ _ _ _ _ cover (Cover-lines _ _ (omega arith));
  parts = all-append _ _ _ parts (lines_are_parts _ _ _ (none_before_word text copied at start begins none some));
  begins = begins_define_of text at start begins some;
}

-- the line of the word is that of its offset
line_same :
    (text : List ℕ) (at start line : ℕ) → spec.define_of_line text at ≡ Some start → line ≡ 1 + line_feeds (take at text) →
    line ≡ line_at text start
line_same text at start line some counted =
    let on_line = word_on_line text at start (word_found text at start some) in omega arith

no_brace :
    (text : List ℕ) (start line : ℕ) → line ≡ line_at text start → spec.closing_brace text start line ≡ None → (t : Token) →
    ¬ Closes text (tokens_at text start) t
no_brace text start line same none =
    closes_none text (tokens_at text start) (ap (λ n. spec.closing_brace text start n) (sym same) ∙ none)

some_brace :
    (text : List ℕ) (start line : ℕ) (t : Token) → line ≡ line_at text start → spec.closing_brace text start line ≡ Some t →
    Closes text (tokens_at text start) t
some_brace text start line t same some =
    closes text (tokens_at text start) t (ap (λ n. spec.closing_brace text start n) (sym same) ∙ some)

pub returns-in_default-closing_brace-clause-cause : goal.returns-in_default-closing_brace-clause-cause
returns-in_default-closing_brace-clause-cause c =
    let begins = c.loop-at.invariant.begins c.loop-at-test.true in
    let counted = c.loop-at.invariant.counted c.loop-at-test.true in
    let some = sym c.in-Some.ensures.define in
    let within = c.in-Some.ensures.within in
    record {
      next =
          next_define c.args.bytes.now c.loop-at.items.items c.loop-at.copied c.loop-at.at c.in-Some.start
          c.loop-at.invariant.copied within.0 c.loop-at.invariant.cover c.loop-at.invariant.parts c.loop-at.invariant.none begins some;
      open_ended = no_brace _ _ _ (line_same _ _ _ _ some counted) (sym c.in_default-closing_brace.ensures.brace);
    }

pub returns-then-not-is_clear-clause-cause : goal.returns-then-not-is_clear-clause-cause
returns-then-not-is_clear-clause-cause c =
    let bad = c.if-not-is_clear.ensures in
    let begins = c.loop-at.invariant.begins c.loop-at-test.true in
    let counted = c.loop-at.invariant.counted c.loop-at-test.true in
    let some = sym c.in-Some.ensures.define in
    let within = c.in-Some.ensures.within in
    record {
      start = c.in-Some.start;
      next =
          next_define c.args.bytes.now c.loop-at.items.items c.loop-at.copied c.loop-at.at c.in-Some.start
          c.loop-at.invariant.copied within.0 c.loop-at.invariant.cover c.loop-at.invariant.parts c.loop-at.invariant.none begins some;
      brace = c.in-Some-closing_brace.brace;
      closes = some_brace _ _ _ _ (line_same _ _ _ _ some counted) (sym c.in-Some-closing_brace.ensures.brace);
      more = unclear_has_more _ (sym (rw to_end at bad));
      on_line = refl;
    }

pub loop-at-preserved : goal.loop-at-preserved
loop-at-preserved c =
    let next = c.next_line-at-in-loop-at.ensures.next in
    let order = c.next_line-at-in-loop-at.ensures.order in
    let clear = c.if-not-is_clear.ensures in
    let start = c.in-Some.ensures.within in
    let brace = c.in-Some-closing_brace.ensures.found in
    let bound = c.in-Some-closing_brace.ensures.bound in
    let some = sym c.in-Some.ensures.define in
    let begins = c.loop-at.invariant.begins c.loop-at-test.true in
    let counted = c.loop-at.invariant.counted c.loop-at-test.true in
    let on_line = line_same c.args.bytes.now c.loop-at.at c.in-Some.start c.loop-at.line some counted in
    let before_brace : c.in-Some-closing_brace.brace.end - 1 ≡ c.in-Some-closing_brace.brace.start = (let one = brace.one in omega arith) in
    let before_word =
    none_before_word c.args.bytes.now c.loop-at.copied c.loop-at.at c.in-Some.start begins c.loop-at.invariant.none some in
    let part : IsDefine c.args.bytes.now c.in-Some.start c.in-Some-closing_brace.brace.end c.loop-at.line =
    record {
      begins = begins_define_of c.args.bytes.now c.loop-at.at c.in-Some.start begins some;
      lines = on_line;
      brace = c.in-Some-closing_brace.brace;
      closes = some_brace _ _ _ _ on_line (sym c.in-Some-closing_brace.ensures.brace);
      ends = refl;
      last = rw before_brace brace.byte_is;
      clear = clear_has_none _ (sym (rw to_end at clear));
    } in
    let before : c.loop-at.copied ≤ c.in-Some.start = omega arith in
    let later : c.loop-at.at < c.next_line-at-in-loop-at.result = omega arith in
    record {
      within = c.next_line-at-in-loop-at.ensures.within;
      lines = omega arith;
      copied = order;
      same =
          c.loop-at.invariant.same
          ∙ (ap (items_then _ _ _)
          (define_closed _ _ _ _ _ c.loop-at-test.true some
          (sym c.in-Some-closing_brace.ensures.brace) (sym (rw to_end at clear)) (rw (← next) later))
          ∙ (items_then-first _ _ _ _ _ ∙ rw (c.in_ok-push.ensures.items, c.in_ok-push_lines.ensures, next) refl));
      cover =
          rw (c.in_ok-push.ensures.items, c.in_ok-push_lines.ensures)
          (Cover-append _ _ _ _ _
          (Cover-append _ _ _ _ _ c.loop-at.invariant.cover (Cover-lines _ _ before))
          (refl, omega arith, refl));
      parts =
          rw (c.in_ok-push.ensures.items, c.in_ok-push_lines.ensures)
          (all-append _ _ _ (all-append _ _ _ c.loop-at.invariant.parts (lines_are_parts _ _ _ before_word)) (part, tt));
      closed =
          rw (c.in_ok-push.ensures.items, c.in_ok-push_lines.ensures)
          (closed_define c.loop-at.items.items c.loop-at.copied c.in-Some.start c.in-Some-closing_brace.brace.end c.loop-at.line
          c.loop-at.invariant.closed);
      none = rw next (none_after_brace _ _ _ _ brace);
      begins = λ more.
          let inside : c.in-Some-closing_brace.brace.end < length c.args.bytes.now = omega arith in
          rw next (next_begins c.args.bytes.now c.in-Some-closing_brace.brace.end inside (rw (← next) more));
      counted = λ more.
          let feeds = next_feeds c.args.bytes.now c.in-Some-closing_brace.brace.end brace.within (rw (← next) more) in
          let same = brace_feeds _ _ _ _ brace in
          let lines = brace.lines in
          rw next (omega arith);
    }

pub returns-clause-cover : goal.returns-clause-cover
returns-clause-cover c =
    let before : c.loop-at.copied ≤ length c.args.bytes.now = omega arith in
    rw c.in_ok-push_lines-2.ensures (Cover-append _ _ _ _ _ c.loop-at.invariant.cover (Cover-lines _ _ before))

pub returns-clause-parts : goal.returns-clause-parts
returns-clause-parts c =
    let ended = c.loop-at-test.false in
    rw c.in_ok-push_lines-2.ensures
    (all-append _ _ _ c.loop-at.invariant.parts
    (lines_are_parts _ _ _ (none_to_end _ _ _ _ ended c.loop-at.invariant.none)))

pub returns-clause-apart : goal.returns-clause-apart
returns-clause-apart c = rw c.in_ok-push_lines-2.ensures (apart_lines c.loop-at.items.items c.loop-at.copied (length c.args.bytes.now) c.loop-at.invariant.closed)
