use Rattle.vfa_walk.proofs.CursorLaws.{begins_there, goes_on_there, stops_there}
use Rattle.vfa_walk.proofs.cursor.cursor_has_the_state_at_its_place.Goals as goal

pub returns-clause-start : goal.returns-clause-start
returns-clause-start g c = begins_there g.V.Values.answers

pub returns-clause-on : goal.returns-clause-on
returns-clause-on g c = goes_on_there g.V.Values.answers

pub returns-clause-bottom : goal.returns-clause-bottom
returns-clause-bottom g c = stops_there g.V.Values.answers
