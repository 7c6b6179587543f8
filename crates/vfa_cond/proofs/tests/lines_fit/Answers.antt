use Rattle.std.proofs.Common.{All, subst}
use Rattle.std.proofs.lemmas.List.Elements.{All-more}
use Rattle.vfa_cond.specs.TypedLines.{IsTypedLine}
use Rattle.vfa_cond.proofs.Accepted.{taken_whole}
use Rattle.vfa_cond.proofs.tests.lines_fit.Goals as goal

pub lines-preserved : goal.lines-preserved
lines-preserved c = All-more (IsTypedLine c.args.f.now) c.args.lines.now c.lines.line-index _ c.lines-test.true c.lines.invariant (c.line_fits.ensures c.if-not-line_fits.false)

pub returns : goal.returns
returns c = λ _. subst (All (IsTypedLine c.args.f.now)) (taken_whole c.args.lines.now c.lines.line-index c.lines-test.false) c.lines.invariant
