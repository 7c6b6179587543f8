use Rattle.std.proofs.Common.{◌∙◌, ap, arith}
use Rattle.vfa_ir.proofs.Reading.{first_placed, gap_found, token_found, tokens_rest}
use Rattle.vfa_ir.specs.Tokens as spec
use Rattle.vfa_lex.proofs.reading.token_at.Goals as goal

pub overflow_add-result-in-Token : goal.overflow_add-result-in-Token
overflow_add-result-in-Token c =
    let found = token_found c.args.bytes.now c.loop-at.at c.loop-at.line c.in-Token.more c.in-Token.kind c.loop-at-test.true c.in-Token.ensures in
    omega arith

pub returns-in-Token-clause-placed : goal.returns-in-Token-clause-placed
returns-in-Token-clause-placed c =
    let found = token_found c.args.bytes.now c.loop-at.at c.loop-at.line c.in-Token.more c.in-Token.kind c.loop-at-test.true c.in-Token.ensures in
    first_placed _ _ _ _ c.requires.within (ap spec.first (c.loop-at.invariant.same ∙ found.found))

pub returns-in-Token-clause-rest : goal.returns-in-Token-clause-rest
returns-in-Token-clause-rest c =
    let found = token_found c.args.bytes.now c.loop-at.at c.loop-at.line c.in-Token.more c.in-Token.kind c.loop-at-test.true c.in-Token.ensures in
    tokens_rest _ _ _ _ c.requires.within (ap spec.first (c.loop-at.invariant.same ∙ found.found))

pub overflow_add-at-in-Gap : goal.overflow_add-at-in-Gap
overflow_add-at-in-Gap c =
    let found = gap_found c.args.bytes.now c.loop-at.at c.loop-at.line c.in-Gap.more c.loop-at-test.true c.in-Gap.ensures in
    omega arith

pub overflow_add-at-in-Gap-2 : goal.overflow_add-at-in-Gap-2
overflow_add-at-in-Gap-2 c =
    let found = gap_found c.args.bytes.now c.loop-at.at c.loop-at.line c.in-Gap.more c.loop-at-test.true c.in-Gap.ensures in
    omega arith

pub loop-at-preserved : goal.loop-at-preserved
loop-at-preserved c =
    let found = gap_found c.args.bytes.now c.loop-at.at c.loop-at.line c.in-Gap.more c.loop-at-test.true c.in-Gap.ensures in
    let fed = c.line_feed-line.ensures.count in
    record {
      within = found.within;
      lines = omega arith;
      same = rw fed (c.loop-at.invariant.same ∙ found.found);
    }
