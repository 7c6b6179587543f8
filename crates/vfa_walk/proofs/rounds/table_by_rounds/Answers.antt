use Rattle.vfa_walk.proofs.rounds.table_by_rounds.Goals as goal

pub returns-in-Some-clause-states : goal.returns-in-Some-clause-states
returns-in-Some-clause-states g c = c.in_ok-table.ensures.states c.in-Some.table c.in-Some.is
