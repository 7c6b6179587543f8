use Rattle.vfa_rewrite.specs.Expanding.{must_of}
use Rattle.vfa_rewrite.proofs.Expanded.{must_more}
use Rattle.vfa_rewrite.proofs.Numbered.{numbered_all}
use Rattle.vfa_rewrite.proofs.staying.musts_in.Goals as goal

pub each-preserved : goal.each-preserved
each-preserved c =
    must_more c.args.lines.now c.args.insts.now c.each.i _ c.each-test.true _ _ c.line_at.ensures c.must_stay_if.ensures _ _ _ c.in_ok-push.ensures.items c.each.invariant

pub returns : goal.returns
returns c = numbered_all (must_of c.args.lines.now) c.args.insts.now c.each.i c.each-test.false c.each.must.items _ c.each.invariant
