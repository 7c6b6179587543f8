use Rattle.std.proofs.lemmas.List.{drop_all}
use Rattle.vfa_report.proofs.ReportTexts.{goes_on_at, ends, not_at_end, all_written}
use Rattle.vfa_report.proofs.reporting.push_insts.Goals as goal

pub step-requires : goal.step-requires
step-requires c = λ reached. (c.insts.invariant c.requires.names).state

pub returns-in-AtTerm : goal.returns-in-AtTerm
returns-in-AtTerm c = λ t here.
    absurd (not_at_end c.args.f.now c.args.names.now c.requires.names c.args.insts.now c.args.cursor.now c.args.text.now.items c.insts.inst-index c.insts.cursor c.insts.text.items
    c.insts-test.true (c.insts.invariant c.requires.names) c.requires.insts c.in-AtTerm.ensures.moved.behind)

pub returns-in-Bottom : goal.returns-in-Bottom
returns-in-Bottom c =
    ends c.args.f.now c.args.names.now c.requires.names c.args.insts.now c.args.cursor.now c.args.text.now.items c.insts.inst-index c.insts.cursor c.insts.text.items c.insts-test.true
    (c.insts.invariant c.requires.names) c.extend_from_slice.new.self.items c.in-Bottom.ensures.moved.1 c.in_ok-extend_from_slice-in-Bottom.ensures.items

pub insts-preserved : goal.insts-preserved
insts-preserved c = λ same.
    goes_on_at c.args.f.now c.args.names.now same c.args.insts.now c.args.cursor.now c.args.text.now.items c.insts.inst-index c.insts.cursor c.insts.text.items _ c.insts-test.true
    (c.insts.invariant same) c.step.new.self c.state.result.now c.push_result.new.text.items c.in-On.ensures.moved (c.in-On.ensures.state c.in-On.ensures.moved.reached) c.state.ensures
    c.in_ok-push_result-in-On.ensures

pub returns : goal.returns
returns c =
    all_written c.args.f.now c.args.names.now c.requires.names c.args.insts.now c.args.cursor.now c.insts.cursor c.args.text.now.items c.insts.inst-index c.insts.text.items
    (c.insts.invariant c.requires.names) (drop_all _ _ c.insts-test.false)
