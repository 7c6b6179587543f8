use Rattle.std.proofs.Common.{◌≡◌, ◌≤◌, ◌+◌, ◌∙◌, Some, None, drop, get_or, length, refl, sym, ap, subst, arith}
use Rattle.std.specs.Prelude.{slice_get, slice_index_or}
use Rattle.std.specs.Option.{option_or}
use Rattle.vfa_ir.specs.declared.operations.Op.{Op}
use Rattle.vfa_ir.specs.declared.operations.Operand.{Operand}
use Rattle.vfa_ir.specs.declared.functions.Inst.{Inst}
use Rattle.vfa_mean.specs.Moments.{At}
use Rattle.vfa_cond.specs.Conditions.{AreFacts}
use Rattle.vfa_cond.specs.States.{known, Stored}
use Rattle.vfa_walk.specs.Cursors.{HasGoneOn, IsMoved}
use Rattle.vfa_walk.specs.Kept.{AreStates, IsStateOf, kept_entries}
use Rattle.vfa_walk.specs.Stepping.{insts_of}
use Rattle.vfa_xfer.specs.declared.any_fact.AnyFact.{AnyFact}
use Rattle.vfa_xfer.specs.AnyFacts.{fact_type, IsAnyFact}
use Rattle.vfa_xfer.specs.Transfers.{fact_answers}
use Rattle.vfa_rewrite.specs.ByFacts.{fact_state, findings_of}
use Rattle.vfa_rewrite.specs.Putting.{AreNamed, call_in}
use Rattle.vfa_rewrite.proofs.BlocksPut.{args_named}
use Rattle.vfa_rewrite.proofs.Goings.{insts_are, no_state, none_at_end, none_behind, ready_at, stands_at_end, stands_on}
use Rattle.vfa_rewrite.proofs.LinesPut.{calls_in_block, calls_more, calls_stop, in_block, line_named, line_put, lines_done, lines_stop, may_put, none_called, none_left}
use Rattle.vfa_rewrite.proofs.Noting.{noted_all, or_none}
use Rattle.vfa_rewrite.proofs.putting_lines.put_lines.Goals as goal

pub start-requires : goal.start-requires
start-requires c = subst (λ g. AreStates fact_type IsAnyFact g c.args.table.now) c.requires.same c.requires.states

pub make_call-requires-clause-may : goal.make_call-requires-clause-may
make_call-requires-clause-may c =
    may_put c.args.f.now (kept_entries c.args.table.now) c.args.others.now c.requires.ready c.state-state.result.now
    (subst (λ (s : Stored AnyFact). AreFacts fact_type IsAnyFact c.args.f.now (known s)) (sym c.state-state.ensures) c.lines.invariant.standing.has.kept.facts)

pub make_call-requires-clause-named : goal.make_call-requires-clause-named
make_call-requires-clause-named c =
    args_named c.args.f.now (kept_entries c.args.table.now) c.args.others.now c.requires.ready _
    (ready_at c.args.f.now c.args.checked.now c.requires.same (kept_entries c.args.table.now) c.args.b c.args.block.now c.requires.block c.as_slice-all.result.now c.as_slice-all.ensures
    c.requires.ready.ready c.lines.i _ c.lines-test.true).operands

pub make_call-requires-clause-count : goal.make_call-requires-clause-count
make_call-requires-clause-count c = c.lines.invariant.count ∙ c.requires.count

pub put_op-op-requires-clause-may : goal.put_op-op-requires-clause-may
put_op-op-requires-clause-may c =
    may_put c.args.f.now (kept_entries c.args.table.now) c.args.others.now c.requires.ready c.state-state.result.now
    (subst (λ (s : Stored AnyFact). AreFacts fact_type IsAnyFact c.args.f.now (known s)) (sym c.state-state.ensures) c.lines.invariant.standing.has.kept.facts)

pub put_op-op-requires-clause-named : goal.put_op-op-requires-clause-named
put_op-op-requires-clause-named c =
    let f = c.args.f.now in
    let t = kept_entries c.args.table.now in
    subst (AreNamed f) (sym c.worked-old.ensures)
    (line_named f t c.args.others.now c.requires.ready c.args.b c.args.block.now c.requires.block c.as_slice-all.result.now c.as_slice-all.ensures c.args.calls.now.items c.lines.calls.items c.lines.i c.lines.cursor c.lines.insts.items
    c.lines.invariant _ _ refl c.lines-test.true c.state-state.result.now c.state-state.ensures
    c.args.lines.now c.requires.lines c.line_at.result c.line_at.ensures)

pub step-requires : goal.step-requires
step-requires c = λ r. subst (λ g. IsStateOf fact_type IsAnyFact g c.lines.cursor.state) c.requires.same c.lines.invariant.standing.has.kept

pub lines-preserved : goal.lines-preserved
lines-preserved c =
    let f = c.args.f.now in
    let t = kept_entries c.args.table.now in
    let went = subst (λ g. HasGoneOn fact_answers g c.lines.cursor c.step.new.self) (sym c.requires.same) c.in-On.ensures.moved in
    record {
      standing = stands_on f t c.args.b c.lines.i c.lines.cursor c.lines.invariant.standing c.step.new.self went
          (subst (λ g. IsStateOf fact_type IsAnyFact g c.step.new.self.state) (sym c.requires.same) (c.in-On.ensures.state went.reached));
      lines_are = line_put f t c.args.others.now c.requires.ready c.args.b c.args.block.now c.requires.block c.as_slice-all.result.now c.as_slice-all.ensures c.args.calls.now.items c.lines.calls.items c.lines.i c.lines.cursor c.lines.insts.items
          c.lines.invariant _ _ refl c.lines-test.true c.state-state.result.now c.state-state.ensures
          c.args.lines.now c.requires.lines c.line_at.result c.line_at.ensures c.worked-old.result c.worked-old.ensures c.put_op-op.result c.put_op-op.ensures c.push.new.self.items c.in_ok-push.ensures.items;
      count = c.in_ok-make_call.ensures.count ∙ c.lines.invariant.count;
      calls_are = calls_more f t c.args.others.now c.requires.ready c.args.b c.args.block.now c.requires.block c.as_slice-all.result.now c.as_slice-all.ensures c.args.calls.now.items c.lines.calls.items c.lines.i c.lines.cursor c.lines.insts.items
          c.lines.invariant _ _ refl c.lines-test.true c.state-state.result.now c.state-state.ensures
          c.make_call.new.calls.items c.in_ok-make_call.ensures.calls;
    }

pub returns-in_default-step : goal.returns-in_default-step
returns-in_default-step c =
    let f = c.args.f.now in
    let t = kept_entries c.args.table.now in
    let b = c.args.b in
    let k = c.lines.i in
    let insts = c.as_slice-all.result.now in
    let any : Inst = record { result = None; op = Op.Assume Operand.Poison } in
    let here : slice_get (insts_of f b.0) k ≡ Some (get_or insts k any) = in_block f t c.args.others.now c.requires.ready c.args.b c.args.block.now c.requires.block c.as_slice-all.result.now c.as_slice-all.ensures c.args.calls.now.items c.lines.calls.items c.lines.i c.lines.cursor c.lines.insts.items
    c.lines.invariant any (get_or insts k any) refl c.lines-test.true c.state-state.result.now c.state-state.ensures in
    let none : fact_state f t (At b.0 (k + 1)) ≡ None = none_behind f t b k c.lines.cursor c.lines.invariant.standing (get_or insts k any) here c.step.result c.step.new.self c.in_default-step.not-On
    (subst (λ g. IsMoved fact_answers g c.lines.cursor c.step.result c.step.new.self) (sym c.requires.same) c.step.ensures.moved) in
    record {
      insts = λ reached. lines_stop f t c.args.others.now c.requires.ready c.args.b c.args.block.now c.requires.block c.as_slice-all.result.now c.as_slice-all.ensures (k + 1) (drop (k + 1) insts) c.push.new.self.items reached none
          (line_put f t c.args.others.now c.requires.ready c.args.b c.args.block.now c.requires.block c.as_slice-all.result.now c.as_slice-all.ensures c.args.calls.now.items c.lines.calls.items c.lines.i c.lines.cursor c.lines.insts.items
          c.lines.invariant _ _ refl c.lines-test.true c.state-state.result.now c.state-state.ensures
          c.args.lines.now c.requires.lines c.line_at.result c.line_at.ensures c.worked-old.result c.worked-old.ensures c.put_op-op.result c.put_op-op.ensures c.push.new.self.items c.in_ok-push.ensures.items reached);
      end = none_at_end f t b.0 k (get_or insts k any) here none;
      count = c.in_ok-make_call.ensures.count ∙ c.lines.invariant.count;
      calls = λ n.
          calls_stop f t c.args.others.now c.requires.ready c.args.b c.args.block.now c.requires.block c.as_slice-all.result.now c.as_slice-all.ensures n (k + 1) (drop (k + 1) insts) (slice_index_or c.make_call.new.calls.items n None) _ none
          (calls_more f t c.args.others.now c.requires.ready c.args.b c.args.block.now c.requires.block c.as_slice-all.result.now c.as_slice-all.ensures c.args.calls.now.items c.lines.calls.items c.lines.i c.lines.cursor c.lines.insts.items
          c.lines.invariant _ _ refl c.lines-test.true c.state-state.result.now c.state-state.ensures
          c.make_call.new.calls.items c.in_ok-make_call.ensures.calls n)
          ∙ calls_in_block f t c.args.others.now c.requires.ready c.args.b c.args.block.now c.requires.block c.as_slice-all.result.now c.as_slice-all.ensures n (slice_index_or c.args.calls.now.items n None);
    }

pub returns : goal.returns
returns c =
    let f = c.args.f.now in
    let t = kept_entries c.args.table.now in
    let b = c.args.b in
    let k = c.lines.i in
    let insts = c.as_slice-all.result.now in
    let all : k ≡ length insts = omega (arith, c.lines-test.false, c.lines.auto.i-end) in
    let past : length insts ≤ k = omega (arith, all) in
    let own = insts_are f b.0 c.args.block.now c.requires.block in
    record {
      insts = λ reached. lines_done f t c.args.others.now c.requires.ready c.args.b c.args.block.now c.requires.block c.as_slice-all.result.now c.as_slice-all.ensures k c.lines.insts.items reached past (c.lines.invariant.lines_are reached);
      end = stands_at_end f t b k c.lines.cursor c.lines.invariant.standing (all ∙ sym (ap length (own ∙ sym c.as_slice-all.ensures)));
      count = c.lines.invariant.count;
      calls = λ n. noted_all (call_in f (findings_of f t) n b.0) insts k past _ _ (c.lines.invariant.calls_are n)
          ∙ calls_in_block f t c.args.others.now c.requires.ready c.args.b c.args.block.now c.requires.block c.as_slice-all.result.now c.as_slice-all.ensures n (slice_index_or c.args.calls.now.items n None);
    }

pub returns-in_default-clause-insts : goal.returns-in_default-clause-insts
returns-in_default-clause-insts c = λ reached.
    let f = c.args.f.now in
    let t = kept_entries c.args.table.now in
    let none : fact_state f t (At c.args.b.0 0) ≡ None = no_state f t c.args.b.0 0 (rw c.in_default.is at c.in_ok-cursor.ensures.start) in
    c.new-insts.ensures.items ∙ sym (none_left f t c.args.others.now c.requires.ready reached c.args.b.0 0 c.args.block.now.insts none)

pub returns-in_default-clause-calls : goal.returns-in_default-clause-calls
returns-in_default-clause-calls c = λ n.
    let f = c.args.f.now in
    let t = kept_entries c.args.table.now in
    let none : fact_state f t (At c.args.b.0 0) ≡ None = no_state f t c.args.b.0 0 (rw c.in_default.is at c.in_ok-cursor.ensures.start) in
    sym (or_none (slice_index_or c.args.calls.now.items n None))
    ∙ ap (option_or (slice_index_or c.args.calls.now.items n None)) (sym (none_called f t c.args.others.now c.requires.ready n c.args.b.0 0 c.args.block.now.insts none))
