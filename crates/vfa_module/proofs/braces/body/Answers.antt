use Rattle.std.proofs.Common.{◌+◌, ◌∙◌, arith}
use Rattle.vfa_module.proofs.Scans.{header_byte, header_ended, header_opens, rest_length}
use Rattle.vfa_module.proofs.braces.body.Goals as goal

pub returns-then-opens_body-clause-body : goal.returns-then-opens_body-clause-body
returns-then-opens_body-clause-body c = λ line.
    c.loop-at.invariant.same line
    ∙ header_opens _ _ line _ _ _ c.loop-at.invariant.after c.loop-at-test.true c.if-opens_body.ensures

pub loop-at-preserved : goal.loop-at-preserved
loop-at-preserved c =
    let more = c.passed-more.ensures.within in
    let bound = c.parens_after-parens.ensures.bound in
    let long = rest_length c.args.bytes.now (c.loop-at.at + 1) in
    record {
      after = omega arith;
      within = omega arith;
      parens = omega arith;
      same = λ line.
          c.loop-at.invariant.same line
          ∙ header_byte _ _ line _ _ _ _ _ _ c.loop-at.invariant.after c.loop-at-test.true c.if-opens_body.ensures
          c.is_named-named.ensures c.parens_after-parens.ensures.count c.passed-more.ensures.count;
    }

pub returns-clause-body : goal.returns-clause-body
returns-clause-body c = λ line. c.loop-at.invariant.same line ∙ header_ended _ _ line _ _ _ c.loop-at-test.false
