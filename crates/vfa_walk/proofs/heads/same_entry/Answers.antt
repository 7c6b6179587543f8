use Rattle.vfa_cond.specs.States.{known}
use Rattle.vfa_walk.proofs.HeadsKept.{some_same}
use Rattle.vfa_walk.proofs.heads.same_entry.Goals as goal

pub same_state-requires-clause-first : goal.same_state-requires-clause-first
same_state-requires-clause-first g c = c.requires.first c.in-Some.first c.in-Some.is

pub same_state-requires-clause-second : goal.same_state-requires-clause-second
same_state-requires-clause-second g c = c.requires.second c.in-Some-b.second c.in-Some-b.is

pub returns : goal.returns
returns g c = rw (c.in-Some.is, c.in-Some-b.is) (some_same c.same_state.result (known c.in-Some.first) (known c.in-Some-b.second) c.same_state.ensures)
