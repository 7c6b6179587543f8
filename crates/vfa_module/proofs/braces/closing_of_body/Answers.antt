use Rattle.std.proofs.Common.{◌+◌, ◌≤◌, ◌∙◌, arith, sym}
use Rattle.vfa_module.proofs.Scans.{body_byte, body_closes, body_ended, rest_length}
use Rattle.vfa_module.proofs.Steps.{closes_byte}
use Rattle.vfa_module.proofs.braces.closing_of_body.Goals as goal

pub returns-then-closes_body-clause-brace : goal.returns-then-closes_body-clause-brace
returns-then-closes_body-clause-brace c = λ start line order.
    let after : start ≤ c.loop-at.at = omega arith in
    c.loop-at.invariant.same start line order
    ∙ body_closes _ start line _ _ after c.loop-at-test.true c.if-closes_body.ensures

pub returns-then-closes_body-clause-byte_is : goal.returns-then-closes_body-clause-byte_is
returns-then-closes_body-clause-byte_is c = closes_byte _ _ (sym c.if-closes_body.ensures)

pub loop-at-preserved : goal.loop-at-preserved
loop-at-preserved c =
    let more = c.passed-more.ensures.within in
    let bound = c.braces_after-braces.ensures.bound in
    let long = rest_length c.args.bytes.now (c.loop-at.at + 1) in
    record {
      after = omega arith;
      within = omega arith;
      braces = omega arith;
      same = λ start line order.
          let after : start ≤ c.loop-at.at = omega arith in
          c.loop-at.invariant.same start line order
          ∙ body_byte _ start line _ _ _ _ after c.loop-at-test.true c.if-closes_body.ensures
          c.braces_after-braces.ensures.count c.passed-more.ensures.count;
    }

pub returns-clause-brace : goal.returns-clause-brace
returns-clause-brace c = λ start line order.
    c.loop-at.invariant.same start line order ∙ body_ended _ start line _ _ c.loop-at-test.false
