use Rattle.std.proofs.Common.{◌≡◌, ◌<◌, ℕ, List, Option, length, sym, ◌∙◌, ap, subst, arith}
use Rattle.vfa_cond.specs.States.{Stored}
use Rattle.vfa_walk.specs.Analysis.{IsLayout, flow_of}
use Rattle.vfa_walk.specs.Kept.{AreStates, kept_in_order}
use Rattle.vfa_walk.specs.Passes.{pass_next}
use Rattle.vfa_walk.specs.Sending.{layout}
use Rattle.vfa_walk.proofs.Listed.{none_states}
use Rattle.vfa_walk.proofs.Nexts.{same_order}
use Rattle.vfa_walk.proofs.RoundSteps.{IsAfter, NoneMoved, SomeMoved, begins, ends, goes_on, left_before, less_is_left, made, where_no, where_yes}
use Rattle.vfa_walk.proofs.rounds.last_next.Goals as goal

pub rounds-init : goal.rounds-init
rounds-init g c = record {
  after = λ y is. begins g.V.Values.answers c.args.f.now y c.in_ok-heads.heads c.in_ok-heads.ensures.none;
  states = none_states g.V.Values.ty g.V.Values.proper c.args.f.now c.in_ok-heads.heads c.in_ok-heads.ensures.none;
  each = c.in_ok-heads.ensures.count;
  from_one = omega arith;
}

pub pass-requires-clause-states : goal.pass-requires-clause-states
pass-requires-clause-states g c =
    subst (AreStates g.V.Values.ty g.V.Values.proper c.args.f.now) (sym c.as_slice-states.ensures) c.rounds.invariant.states

pub pass-requires-clause-each : goal.pass-requires-clause-each
pass-requires-clause-each g c order is =
    ap length c.as_slice-states.ensures ∙ (c.rounds.invariant.each ∙ ap length (same_order c.args.f.now c.args.order.now order c.requires.layout.1.is_order is))

pub widen_heads_by-requires-clause-heads : goal.widen_heads_by-requires-clause-heads
widen_heads_by-requires-clause-heads g c =
    subst (AreStates g.V.Values.ty g.V.Values.proper c.args.f.now) (sym c.as_slice-states.ensures) c.rounds.invariant.states

pub widen_heads_by-requires-clause-next : goal.widen_heads_by-requires-clause-next
widen_heads_by-requires-clause-next g c =
    subst (AreStates g.V.Values.ty g.V.Values.proper c.args.f.now) (sym c.as_slice-next.ensures) c.in_ok-passed.ensures.states.1

pub widen_heads_by-requires-clause-each_head : goal.widen_heads_by-requires-clause-each_head
widen_heads_by-requires-clause-each_head g c order is =
    ap length c.as_slice-states.ensures ∙ (c.rounds.invariant.each ∙ ap length (same_order c.args.f.now c.args.order.now order c.requires.layout.1.is_order is))

pub widen_heads_by-requires-clause-each_next : goal.widen_heads_by-requires-clause-each_next
widen_heads_by-requires-clause-each_next g c order is =
    ap length c.as_slice-next.ensures ∙ (c.in_ok-passed.ensures.each ∙ (ap length c.as_slice-states.ensures
    ∙ (c.rounds.invariant.each ∙ ap length (same_order c.args.f.now c.args.order.now order c.requires.layout.1.is_order is))))

pub widen_heads_by-requires-clause-round : goal.widen_heads_by-requires-clause-round
widen_heads_by-requires-clause-round g c = c.rounds.invariant.from_one

pub returns-then-not-widened-clause-last : goal.returns-then-not-widened-clause-last
returns-then-not-widened-clause-last g c l is =
    let answers = g.V.Values.answers in
    let f = c.args.f.now in
    let heads = c.rounds.heads in
    let next = c.in_ok-passed.passed.next in
    let new = c.in_ok-widened.widened.heads in
    let comes = subst (λ (list : List (Option (Stored _))). (b : ℕ) → kept_in_order l.order next b ≡ pass_next (flow_of answers f l) (kept_in_order l.order list) b) c.as_slice-states.ensures (c.in_ok-passed.ensures.next l is) in
    let makes = subst (λ (list : List (Option (Stored _))). (b : ℕ) → kept_in_order l.order new b ≡ made answers f l c.rounds.round heads list b) c.as_slice-next.ensures
    (subst (λ (list : List (Option (Stored _))). (b : ℕ) → kept_in_order l.order new b ≡ made answers f l c.rounds.round list c.as_slice-next.result.now b) c.as_slice-states.ensures (c.in_ok-widened.ensures.heads l is)) in
    let same = subst (λ (list : List (Option (Stored _))). NoneMoved f l list new) c.as_slice-states.ensures (where_no _ _ c.in_ok-widened.widened.changed c.if-not-widened.true (c.in_ok-widened.ensures.changed l is)) in
    ends answers f l heads next new c.rounds.round (c.rounds.invariant.after l is) comes makes same

pub returns-then-not-widened-clause-each : goal.returns-then-not-widened-clause-each
returns-then-not-widened-clause-each g c =
    c.in_ok-passed.ensures.each ∙ (ap length c.as_slice-states.ensures ∙ c.rounds.invariant.each)

pub rounds-smaller : goal.rounds-smaller
rounds-smaller g c =
    let v = g.V.Values in
    let laws = g.met.V.Values.lawful in
    let f = c.args.f.now in
    let order = c.args.order.now in
    let l = layout order c.requires.layout.0 in
    let is : IsLayout f l = c.requires.layout.1 in
    let heads = c.rounds.heads in
    let next = c.in_ok-passed.passed.next in
    let new = c.in_ok-widened.widened.heads in
    let comes = subst (λ (list : List (Option (Stored _))). (b : ℕ) → kept_in_order l.order next b ≡ pass_next (flow_of v.answers f l) (kept_in_order l.order list) b) c.as_slice-states.ensures (c.in_ok-passed.ensures.next l is) in
    let makes = subst (λ (list : List (Option (Stored _))). (b : ℕ) → kept_in_order l.order new b ≡ made v.answers f l c.rounds.round heads list b) c.as_slice-next.ensures
    (subst (λ (list : List (Option (Stored _))). (b : ℕ) → kept_in_order l.order new b ≡ made v.answers f l c.rounds.round list c.as_slice-next.result.now b) c.as_slice-states.ensures (c.in_ok-widened.ensures.heads l is)) in
    let some = subst (λ (list : List (Option (Stored _))). SomeMoved f l list new) c.as_slice-states.ensures (where_yes _ _ c.in_ok-widened.widened.changed c.if-not-widened.false (c.in_ok-widened.ensures.changed l is)) in
    subst (λ r. left_before v.answers f order new r < left_before v.answers f order heads c.rounds.round) (sym c.round_after-round.ensures)
    (less_is_left v.ty v.proper v.answers laws.typed laws.steady f c.was_checked.ensures.checked c.was_checked.ensures.printable l is heads next new c.rounds.round (c.rounds.invariant.after l is) comes makes some)

pub rounds-preserved : goal.rounds-preserved
rounds-preserved g c = record {
  after = λ l is.
      let answers = g.V.Values.answers in
      let f = c.args.f.now in
      let heads = c.rounds.heads in
      let next = c.in_ok-passed.passed.next in
      let new = c.in_ok-widened.widened.heads in
      let comes = subst (λ (list : List (Option (Stored _))). (b : ℕ) → kept_in_order l.order next b ≡ pass_next (flow_of answers f l) (kept_in_order l.order list) b) c.as_slice-states.ensures (c.in_ok-passed.ensures.next l is) in
      let makes = subst (λ (list : List (Option (Stored _))). (b : ℕ) → kept_in_order l.order new b ≡ made answers f l c.rounds.round heads list b) c.as_slice-next.ensures
      (subst (λ (list : List (Option (Stored _))). (b : ℕ) → kept_in_order l.order new b ≡ made answers f l c.rounds.round list c.as_slice-next.result.now b) c.as_slice-states.ensures (c.in_ok-widened.ensures.heads l is)) in
      let some = subst (λ (list : List (Option (Stored _))). SomeMoved f l list new) c.as_slice-states.ensures (where_yes _ _ c.in_ok-widened.widened.changed c.if-not-widened.false (c.in_ok-widened.ensures.changed l is)) in
      subst (IsAfter answers f l new) (sym c.round_after-round.ensures) (goes_on answers f l heads next new c.rounds.round (c.rounds.invariant.after l is) comes makes some);
  states = c.in_ok-widened.ensures.states;
  each = c.in_ok-widened.ensures.each ∙ (ap length c.as_slice-states.ensures ∙ c.rounds.invariant.each);
  from_one = let number = c.round_after-round.ensures in let before = c.rounds.invariant.from_one in omega (arith, number, before);
}
