use Rattle.std.proofs.Common.{◌≡◌, [], drop, length}
use Rattle.vfa_cond.specs.States.{known, name_count, IsRoomy, given_fact, is_given}
use Rattle.vfa_cond.proofs.Given.{GivesRest, MarksRest}
use Rattle.vfa_cond.proofs.state.State.of.Given as goal

-- the state has the facts so far, and no equation is live
abbrev pub invariant-facts : goal.invariant-facts
invariant-facts g l = record {
  names : name_count l.state ≡ length l.f.values;
  room : IsRoomy l.state;
  facts : GivesRest l.facts (drop l.pair-index l.facts) (known l.state).fact;
  live : (known l.state).live ≡ is_given [];
}

-- the state has all facts, and the equations so far
abbrev pub invariant-live : goal.invariant-live
invariant-live g l = record {
  names : name_count l.state ≡ length l.f.values;
  room : IsRoomy l.state;
  facts : (known l.state).fact ≡ given_fact l.facts;
  live : MarksRest l.live (drop l.name-index l.live) (known l.state).live;
}
