use Rattle.std.proofs.Common.{◌≡◌, ◌∙◌, ◌∷◌, ◌++◌, [], length, sym, ap, subst, arith}
use Rattle.vfa_cond.specs.Conditions.{AreFacts}
use Rattle.vfa_cond.specs.States.{known, Stored}
use Rattle.vfa_walk.specs.Kept.{AreStates, kept_entries}
use Rattle.vfa_xfer.specs.declared.any_fact.AnyFact.{AnyFact}
use Rattle.vfa_xfer.specs.AnyFacts.{fact_type, IsAnyFact}
use Rattle.vfa_rewrite.specs.declared.found.LineFinding.{LineFinding}
use Rattle.vfa_rewrite.proofs.Goings.{ready_at, still_going, lines_stopped, end_stopped, lines_done, end_done}
use Rattle.vfa_rewrite.proofs.found.walk.Goals as goal

pub start-requires : goal.start-requires
start-requires c = subst (λ g. AreStates fact_type IsAnyFact g c.args.table.now) c.requires.same c.requires.states

pub line_by-requires-clause-inst : goal.line_by-requires-clause-inst
line_by-requires-clause-inst c =
    ready_at c.args.f.now c.args.checked.now c.requires.same (kept_entries c.args.table.now) c.args.b c.args.block.now c.requires.block c.as_slice-inst-items.result.now c.as_slice-inst-items.ensures
    c.requires.ready c.lines.inst-index _ c.lines-test.true

pub line_by-requires-clause-facts : goal.line_by-requires-clause-facts
line_by-requires-clause-facts c =
    subst (λ (s : Stored AnyFact). AreFacts fact_type IsAnyFact c.args.f.now (known s)) (sym c.state.ensures) c.lines.invariant.standing.has.kept.facts

pub returns-in_default-step : goal.returns-in_default-step
returns-in_default-step c =
    let lines = c.lines.lines.items in
    let put = c.in_ok-push.ensures.items ∙ ap (λ (x : LineFinding). lines ++ (x ∷ [])) c.line_by.ensures in
    record {
      lines = lines_stopped c.args.f.now c.args.checked.now c.requires.same (kept_entries c.args.table.now) c.args.b c.args.block.now c.requires.block c.as_slice-inst-items.result.now
          c.as_slice-inst-items.ensures c.lines.inst-index c.lines.cursor lines c.push.new.self.items _ c.lines-test.true c.lines.invariant c.state.result.now c.state.ensures put
          c.step.result c.step.new.self c.in_default-step.not-On c.step.ensures.moved;
      end = end_stopped c.args.f.now c.args.checked.now c.requires.same (kept_entries c.args.table.now) c.args.b c.args.block.now c.requires.block c.as_slice-inst-items.result.now
          c.as_slice-inst-items.ensures c.lines.inst-index c.lines.cursor lines c.push.new.self.items _ c.lines-test.true c.lines.invariant c.state.result.now c.state.ensures put
          c.step.result c.step.new.self c.in_default-step.not-On c.step.ensures.moved;
    }

pub lines-preserved : goal.lines-preserved
lines-preserved c =
    let lines = c.lines.lines.items in
    still_going c.args.f.now c.args.checked.now c.requires.same (kept_entries c.args.table.now) c.args.b c.args.block.now c.requires.block c.as_slice-inst-items.result.now
    c.as_slice-inst-items.ensures c.lines.inst-index c.lines.cursor lines c.push.new.self.items _ c.lines-test.true c.lines.invariant c.state.result.now c.state.ensures
    (c.in_ok-push.ensures.items ∙ ap (λ (x : LineFinding). lines ++ (x ∷ [])) c.line_by.ensures)
    c.step.new.self c.in-On.ensures.moved c.in-On.ensures.state

pub returns : goal.returns
returns c =
    let all : c.lines.inst-index ≡ length c.as_slice-inst-items.result.now = omega (arith, c.lines-test.false, c.lines.auto.inst-index-end) in
    record {
      lines = lines_done c.args.f.now c.args.checked.now c.requires.same (kept_entries c.args.table.now) c.args.b c.args.block.now c.requires.block c.as_slice-inst-items.result.now
          c.as_slice-inst-items.ensures c.lines.inst-index c.lines.cursor c.lines.lines.items c.lines.invariant all;
      end = end_done c.args.f.now c.args.checked.now c.requires.same (kept_entries c.args.table.now) c.args.b c.args.block.now c.requires.block c.as_slice-inst-items.result.now
          c.as_slice-inst-items.ensures c.lines.inst-index c.lines.cursor c.lines.lines.items c.lines.invariant all;
    }
