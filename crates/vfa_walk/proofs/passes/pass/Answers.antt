use Rattle.std.proofs.Common.{◌≡◌, ◌<◌, ℕ, Bool, true, length, get_or, sym, subst}
use Rattle.std.specs.Option.{option_map}
use Rattle.vfa_cfg.specs.Heads.{is_head}
use Rattle.vfa_cfg.specs.Order.{numbers}
use Rattle.vfa_cond.specs.States.{known}
use Rattle.vfa_walk.specs.Analysis.{IsLayout, flow_of}
use Rattle.vfa_walk.specs.Kept.{AreStates, entry_in, kept_entries, kept_in_order}
use Rattle.vfa_walk.specs.Passes.{pass_next, pass_table}
use Rattle.vfa_walk.specs.Sending.{got_from, layout, next_at}
use Rattle.vfa_walk.proofs.Nexts.{layout_is, nexts_are, no_block}
use Rattle.vfa_walk.proofs.passes.pass.Goals as goal

pub go-requires-clause-heads : goal.go-requires-clause-heads
go-requires-clause-heads g c =
    subst (λ h. AreStates g.V.Values.ty g.V.Values.proper h c.args.heads.now) (sym c.ready-function.ensures.same) c.requires.states

pub returns-clause-table : goal.returns-clause-table
returns-clause-table g c l is b =
    let answers = g.V.Values.answers in
    let f = c.args.f.now in
    let order = c.order-order.result.now in
    let heads = c.args.heads.now in
    let table = c.in_ok-found.found.table in
    let same = c.ready-function.ensures.same in
    let e = layout_is f order l c.order-order.ensures.order is in
    let told = subst (λ h. (names : ℕ → ℕ → Bool) → IsLayout h (layout order names) → (d : ℕ) →
    kept_entries table d ≡ pass_table (flow_of answers h (layout order names)) (kept_in_order order heads) d) same c.in_ok-found.ensures.table in
    subst (λ k. kept_entries table b ≡ pass_table (flow_of answers f k) (kept_in_order k.order heads) b) (sym e) (told l.in_scope (subst (IsLayout f) e is) b)

pub returns-clause-next : goal.returns-clause-next
returns-clause-next g c l is b =
    let answers = g.V.Values.answers in
    let f = c.args.f.now in
    let order = c.order-order.result.now in
    let heads = c.args.heads.now in
    let table = c.in_ok-found.found.table in
    let got = c.in_ok-found.found.got in
    let same = c.ready-function.ensures.same in
    let e = layout_is f order l c.order-order.ensures.order is in
    let is_here = subst (IsLayout f) e is in
    let told = subst (λ h. (names : ℕ → ℕ → Bool) → IsLayout h (layout order names) → (d : ℕ) →
    kept_entries table d ≡ pass_table (flow_of answers h (layout order names)) (kept_in_order order heads) d) same c.in_ok-found.ensures.table in
    let gets = subst (λ h. (d : ℕ) → is_head h order d ≡ true → kept_entries got d ≡ got_from answers h (kept_entries table) (numbers order) d) same c.in_ok-found.ensures.got in
    let each = subst (λ h. (names : ℕ → ℕ → Bool) → IsLayout h (layout order names) → (k : ℕ) → k < length order →
    option_map known (entry_in c.in_ok-next.next.items k) ≡ next_at h order (kept_entries got) names (get_or order k no_block).0) same c.in_ok-next.ensures.next in
    subst (λ k. kept_in_order k.order c.in_ok-next.next.items b ≡ pass_next (flow_of answers f k) (kept_in_order k.order heads) b) (sym e)
    (nexts_are answers f order l.in_scope (kept_in_order order heads) (kept_entries table) (kept_entries got) c.in_ok-next.next.items c.order-order.ensures.ordered.distinct
    c.in_ok-next.ensures.count gets (told l.in_scope is_here) (each l.in_scope is_here) b)

pub returns-clause-states : goal.returns-clause-states
returns-clause-states g c =
    let same = c.ready-function.ensures.same in (
      subst (λ h. AreStates g.V.Values.ty g.V.Values.proper h c.in_ok-found.found.table) same c.in_ok-found.ensures.states,
      subst (λ h. AreStates g.V.Values.ty g.V.Values.proper h c.in_ok-next.next.items) same c.in_ok-next.ensures.states,
    )

pub returns-clause-count : goal.returns-clause-count
returns-clause-count g c = subst (λ h. length c.in_ok-found.found.table ≡ length h.blocks) c.ready-function.ensures.same c.in_ok-found.ensures.count
