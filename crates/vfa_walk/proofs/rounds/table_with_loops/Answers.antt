use Rattle.std.proofs.Common.{◌≡◌, length, sym, ap, subst, ◌∙◌}
use Rattle.vfa_walk.specs.Analysis.{IsLayout, flow_of}
use Rattle.vfa_walk.specs.Kept.{AreStates, kept_entries, kept_in_order}
use Rattle.vfa_walk.specs.Passes.{pass_table}
use Rattle.vfa_walk.specs.Sending.{layout}
use Rattle.vfa_walk.proofs.LoopFree.{scoped, scoped_layout}
use Rattle.vfa_walk.proofs.Nexts.{same_order}
use Rattle.vfa_walk.proofs.RoundSteps.{gives_table}
use Rattle.vfa_walk.proofs.rounds.table_with_loops.Goals as goal

pub last_next-requires-clause-layout : goal.last_next-requires-clause-layout
last_next-requires-clause-layout g c =
    let order = c.order-order.result.now in
    let scopes = c.order-order.ensures.scopes in
    (scoped order scopes.0, scoped_layout c.args.f.now order scopes.0 c.order-order.ensures.order scopes.1)

pub pass-requires-clause-states : goal.pass-requires-clause-states
pass-requires-clause-states g c =
    subst (AreStates g.V.Values.ty g.V.Values.proper c.args.f.now) (sym c.as_slice.ensures) c.in_ok-next.ensures.states

pub pass-requires-clause-each : goal.pass-requires-clause-each
pass-requires-clause-each g c order is =
    ap length c.as_slice.ensures ∙ (c.in_ok-next.ensures.each ∙ ap length (same_order c.args.f.now c.order-order.result.now order c.order-order.ensures.order is))

pub returns-clause-table : goal.returns-clause-table
returns-clause-table g c =
    let answers = g.V.Values.answers in
    let f = c.args.f.now in
    let order = c.order-order.result.now in
    let scopes = c.order-order.ensures.scopes in
    let l = layout order (scoped order scopes.0) in
    let is : IsLayout f l = scoped_layout f order scopes.0 c.order-order.ensures.order scopes.1 in
    gives_table answers f l c.in_ok-next.next (kept_entries c.in_ok-passed.passed.table) is (c.in_ok-next.ensures.last l is)
    (λ b. subst (λ list. kept_entries c.in_ok-passed.passed.table b ≡ pass_table (flow_of answers f l) (kept_in_order l.order list) b) c.as_slice.ensures (c.in_ok-passed.ensures.table l is b))
