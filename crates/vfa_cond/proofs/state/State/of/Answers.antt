use Rattle.std.proofs.Common.{◌≡◌, ◌+◌, ◌||◌, ℕ, Bool, drop, length, sym, ◌∙◌, ap, subst}
use Rattle.vfa_cond.specs.States.{known, given, given_fact, is_given}
use Rattle.vfa_cond.proofs.Given.{GivesRest, MarksRest, gives_step, marks_step, nothing_left, mark_none, still_roomy, all_facts, all_marks, state_is}
use Rattle.vfa_cond.proofs.state.State.of.Goals as goal

pub facts-init : goal.facts-init
facts-init g c = record {
  names = c.in_ok-state.ensures.names ∙ ap length c.as_slice.ensures;
  room = c.in_ok-state.ensures.room;
  facts = λ u. subst (λ h. GivesRest c.args.facts.now c.args.facts.now h) (sym (ap (λ s. s.fact) c.in_ok-state.ensures.state)) (λ w. nothing_left (given_fact c.args.facts.now w)) u;
  live = ap (λ s. s.live) c.in_ok-state.ensures.state;
}

pub facts-preserved : goal.facts-preserved
facts-preserved g c =
    let step = gives_step c.args.facts.now c.facts.pair-index c.pair-item.result (known c.facts.state).fact c.requires.facts.distinct c.facts-test.true c.pair-item.is c.facts.invariant.facts in
    record {
      names = c.put.ensures.room.names ∙ c.facts.invariant.names;
      room = still_roomy c.facts.state c.put.new.self c.put.ensures.room c.facts.invariant.room;
      facts = subst (λ h. GivesRest c.args.facts.now (drop (c.facts.pair-index + 1) c.args.facts.now) h) (sym (ap (λ s. s.fact) c.put.ensures.change)) step;
      live = ap (λ s. s.live) c.put.ensures.change ∙ c.facts.invariant.live;
    }

pub live-init : goal.live-init
live-init g c = record {
  names = c.facts.invariant.names;
  room = c.facts.invariant.room;
  facts = all_facts c.args.facts.now c.facts.pair-index (known c.facts.state).fact c.facts-test.false c.facts.invariant.facts;
  live = λ u. subst (λ (h : ℕ → Bool). (is_given c.args.live.now u || h u) ≡ is_given c.args.live.now u) (sym c.facts.invariant.live) (mark_none (is_given c.args.live.now u));
}

pub live-preserved : goal.live-preserved
live-preserved g c =
    let step = marks_step c.args.live.now c.live.name-index _ (known c.live.state).live c.live-test.true c.live.invariant.live in
    record {
      names = c.set_live.ensures.room.names ∙ c.live.invariant.names;
      room = still_roomy c.live.state c.set_live.new.self c.set_live.ensures.room c.live.invariant.room;
      facts = ap (λ s. s.fact) c.set_live.ensures.change ∙ c.live.invariant.facts;
      live = subst (λ h. MarksRest c.args.live.now (drop (c.live.name-index + 1) c.args.live.now) h) (sym (ap (λ s. s.live) c.set_live.ensures.change)) step;
    }

pub returns-clause-state : goal.returns-clause-state
returns-clause-state g c =
    let facts = c.live.invariant.facts in
    let marks = all_marks c.args.live.now c.live.name-index (known c.live.state).live c.live-test.false c.live.invariant.live in
    state_is (known c.live.state) (given c.args.facts.now c.args.live.now) facts marks
