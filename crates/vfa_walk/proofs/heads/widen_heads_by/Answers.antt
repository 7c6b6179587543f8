use Rattle.std.proofs.Common.{◌≡◌, ◌<◌, ℕ, MatchBool, length, min, get_or, sym, subst, arith}
use Rattle.std.specs.Option.{option_map}
use Rattle.vfa_cond.specs.States.{known}
use Rattle.vfa_walk.specs.Analysis.{last_round}
use Rattle.vfa_walk.specs.Heads.{after_round, AreSame, HasChanged}
use Rattle.vfa_walk.specs.Kept.{AreStates, entry_in, kept_in_order}
use Rattle.vfa_walk.proofs.HeadsKept.{heads_are, told_changed}
use Rattle.vfa_walk.proofs.Nexts.{no_block, same_order}
use Rattle.vfa_walk.proofs.heads.widen_heads_by.Goals as goal

pub all_widened-requires-clause-old : goal.all_widened-requires-clause-old
all_widened-requires-clause-old g c = subst (λ h. AreStates g.V.Values.ty g.V.Values.proper h c.args.heads.now) (sym c.ready-function.ensures.same) c.requires.heads

pub all_widened-requires-clause-new : goal.all_widened-requires-clause-new
all_widened-requires-clause-new g c = subst (λ h. AreStates g.V.Values.ty g.V.Values.proper h c.args.next.now) (sym c.ready-function.ensures.same) c.requires.next

pub has_changed-changed-requires-clause-old : goal.has_changed-changed-requires-clause-old
has_changed-changed-requires-clause-old g c = subst (λ h. AreStates g.V.Values.ty g.V.Values.proper h c.args.heads.now) (sym c.ready-function.ensures.same) c.requires.heads

pub has_changed-changed-requires-clause-new : goal.has_changed-changed-requires-clause-new
has_changed-changed-requires-clause-new g c =
    subst (AreStates g.V.Values.ty g.V.Values.proper c.ready-function.result.now) (sym c.as_slice.ensures.value) c.in_ok-after.ensures.states

pub returns-clause-heads : goal.returns-clause-heads
returns-clause-heads g c l is b =
    let answers = g.V.Values.answers in
    let f = c.args.f.now in
    let order = c.order-order.result.now in
    let heads = c.args.heads.now in
    let next = c.args.next.now in
    let list = c.in_ok-after.after.items in
    let round = c.args.round in
    let is_order = c.order-order.ensures.order in
    let fits = c.ranges.round.fits in
    let each = subst (λ h. (k : ℕ) → k < length order → option_map known (entry_in list k)
    ≡ after_round answers h order round (get_or order k no_block).0 (option_map known (entry_in heads k)) (option_map known (entry_in next k))) c.ready-function.ensures.same c.in_ok-after.ensures.after in
    subst (λ o. kept_in_order o list b ≡ after_round answers f o (min round last_round) b (kept_in_order o heads b) (kept_in_order o next b)) (same_order f order l.order is_order is.is_order)
    (heads_are f order c.order-order.ensures.ordered.distinct heads next (c.requires.each_head order is_order) (c.requires.each_next order is_order) answers round list
    c.in_ok-after.ensures.count (omega (arith, fits)) each b)

pub returns-clause-changed : goal.returns-clause-changed
returns-clause-changed g c l is =
    let f = c.args.f.now in
    let order = c.order-order.result.now in
    let heads = c.args.heads.now in
    let list = c.in_ok-after.after.items in
    let changed = c.has_changed-changed.result in
    let here = subst (λ h. MatchBool changed ((x : ℕ) × HasChanged h order heads c.as_slice.result.now x) (AreSame h order heads c.as_slice.result.now)) c.ready-function.ensures.same c.has_changed-changed.ensures in
    let of_list = subst (λ k. MatchBool changed ((x : ℕ) × HasChanged f order heads k x) (AreSame f order heads k)) c.as_slice.ensures.value here in
    told_changed f l.order heads list changed
    (subst (λ o. MatchBool changed ((x : ℕ) × HasChanged f o heads list x) (AreSame f o heads list)) (same_order f order l.order c.order-order.ensures.order is.is_order) of_list)

pub returns-clause-states : goal.returns-clause-states
returns-clause-states g c = subst (λ h. AreStates g.V.Values.ty g.V.Values.proper h c.in_ok-after.after.items) c.ready-function.ensures.same c.in_ok-after.ensures.states
