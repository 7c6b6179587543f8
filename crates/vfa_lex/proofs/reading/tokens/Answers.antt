use Rattle.std.proofs.Common.{◌≡◌, [], ◌++◌, ◌∙◌, List, arith, append_assoc, append-nil, subst}
use Rattle.std.specs.List.{AllByRecursion}
use Rattle.vfa_ir.proofs.Reading.{line_after_most, no_first, placed_line, tokens_in_order, tokens_placed}
use Rattle.vfa_ir.specs.Tokens as spec
use Rattle.vfa_ir.specs.declared.tokens.Token.{Token}
use Rattle.vfa_lex.proofs.GapsBetween.{tokens_fill}
use Rattle.vfa_lex.specs.Gaps.{Fill}
use Rattle.vfa_lex.proofs.reading.tokens.Goals as goal

pub line_after-line-requires-clause-lines : goal.line_after-line-requires-clause-lines
line_after-line-requires-clause-lines c =
    let placed = c.in-Some.ensures.placed in
    let on = placed_line _ _ _ _ placed in
    omega arith

pub loop-token-preserved : goal.loop-token-preserved
loop-token-preserved c =
    let placed = c.in-Some.ensures.placed in
    let on = line_after_most _ _ _ _ placed in
    let line = c.line_after-line.ensures in
    record {
      within = placed.within;
      lines = omega arith;
      same =
          rw (c.in_ok-push.ensures.items, line, append_assoc)
          (rw (← c.in-Some.ensures.rest) c.loop-token.invariant.same);
    }

-- after the last token nothing is left
all_read : (all left : List Token) (read : List Token) → all ≡ read ++ left → left ≡ [] → all ≡ read
all_read all left read same none = same ∙ rw none (append-nil read)

pub returns-clause-placed : goal.returns-clause-placed
returns-clause-placed c =
    let all = all_read _ _ _ c.loop-token.invariant.same (no_first _ c.in_default.ensures.token) in
    let P : List Token → Type 0 = AllByRecursion (spec.IsPlaced c.args.bytes.now 0 1) in
    subst P all (tokens_placed c.args.bytes.now 0 1 (omega arith))

pub returns-clause-order : goal.returns-clause-order
returns-clause-order c =
    let all = all_read _ _ _ c.loop-token.invariant.same (no_first _ c.in_default.ensures.token) in
    let P : List Token → Type 0 = spec.AreInOrder 0 in
    subst P all (tokens_in_order c.args.bytes.now 0 1)

pub returns-clause-fill : goal.returns-clause-fill
returns-clause-fill c =
    let all = all_read _ _ _ c.loop-token.invariant.same (no_first _ c.in_default.ensures.token) in
    let P : List Token → Type 0 = Fill c.args.bytes.now 0 in
    subst P all (tokens_fill c.args.bytes.now 1)
