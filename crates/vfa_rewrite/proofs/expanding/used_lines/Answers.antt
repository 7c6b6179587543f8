use Rattle.std.proofs.Common.{◌<◌, ◌∙◌, length, sym}
use Rattle.std.specs.Option.{ForSome}
use Rattle.vfa_ir.specs.declared.operations.ValueId.{ValueId}
use Rattle.vfa_ir.specs.declared.functions.Inst.{Inst}
use Rattle.vfa_mean.specs.Kept.{is_marked}
use Rattle.vfa_walk.proofs.TruthTypes.{each_of}
use Rattle.vfa_rewrite.proofs.Expanded.{used_all, used_more}
use Rattle.vfa_rewrite.proofs.expanding.used_lines.Goals as goal

pub push_used-requires-clause-below : goal.push_used-requires-clause-below
push_used-requires-clause-below c = λ inst is.
    each_of (λ (i : Inst). ForSome i.result (λ (v : ValueId). v.0 < length c.args.f.now.values)) c.args.insts.now c.each.i inst c.requires.below (sym c.inst_at.ensures ∙ is)

pub each-preserved : goal.each-preserved
each-preserved c =
    used_more c.args.f.now (is_marked c.args.used.now) c.args.insts.now c.args.found.now c.args.put.now c.each.i _ c.each-test.true
    _ c.inst_at.ensures _ c.line_at.ensures _ _ _ c.in_ok-push_used.ensures c.each.invariant

pub returns : goal.returns
returns c = used_all c.args.f.now (is_marked c.args.used.now) c.args.insts.now c.args.found.now c.args.put.now c.each.i c.each-test.false c.each.lines.items _ c.each.invariant
