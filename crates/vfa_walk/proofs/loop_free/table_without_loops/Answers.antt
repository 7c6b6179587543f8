use Rattle.std.proofs.Common.{◌≡◌, ℕ, None, true, false, All, length, sym, ◌∙◌, ap, subst}
use Rattle.vfa_cfg.specs.Heads.{is_head}
use Rattle.vfa_cond.proofs.Fitting.{some_of}
use Rattle.vfa_walk.specs.Kept.{kept_entries}
use Rattle.vfa_walk.specs.Sending.{layout}
use Rattle.vfa_walk.proofs.LoopFree.{scoped, table_is}
use Rattle.vfa_walk.proofs.Nexts.{same_order}
use Rattle.vfa_walk.proofs.loop_free.table_without_loops.Goals as goal

pub returns-then-has_head-clause-loops : goal.returns-then-has_head-clause-loops
returns-then-has_head-clause-loops g c order is =
    subst (λ o. (x : ℕ) × (is_head c.args.f.now o x ≡ true)) (same_order c.args.f.now c.order-order.result.now order c.order-order.ensures.order is)
    (subst (λ h. (x : ℕ) × (is_head h c.order-order.result.now x ≡ true)) c.ready.ensures.same c.if-has_head.ensures)

pub pass-requires-clause-each : goal.pass-requires-clause-each
pass-requires-clause-each g c order is =
    ap length c.as_slice.ensures ∙ (c.in_ok-none.ensures.count ∙ ap length (same_order c.args.f.now c.order-order.result.now order c.order-order.ensures.order is))

pub returns-clause-loops : goal.returns-clause-loops
returns-clause-loops g c order is =
    subst (λ o. (b : ℕ) → is_head c.args.f.now o b ≡ false) (same_order c.args.f.now c.order-order.result.now order c.order-order.ensures.order is)
    (subst (λ h. (b : ℕ) → is_head h c.order-order.result.now b ≡ false) c.ready.ensures.same c.if-has_head.ensures)

pub returns-clause-table : goal.returns-clause-table
returns-clause-table g c =
    let f = c.args.f.now in
    let order = c.order-order.result.now in
    let scopes = c.order-order.ensures.scopes in
    let plain = subst (λ h. (b : ℕ) → is_head h order b ≡ false) c.ready.ensures.same c.if-has_head.ensures in
    let none = subst (All (λ e. e ≡ None)) (sym c.as_slice.ensures) c.in_ok-none.ensures.none in
    some_of _ _ (table_is g.V.Values.answers f order scopes.0 c.as_slice.result.now (kept_entries c.in_ok-passed.passed.table) c.order-order.ensures.order scopes.1 plain none
    (λ known_layout b. c.in_ok-passed.ensures.table (layout order (scoped order scopes.0)) known_layout b))

pub returns-clause-states : goal.returns-clause-states
returns-clause-states g c = some_of _ _ c.in_ok-passed.ensures.states.0

pub returns-clause-count : goal.returns-clause-count
returns-clause-count g c = some_of _ _ c.in_ok-passed.ensures.count
