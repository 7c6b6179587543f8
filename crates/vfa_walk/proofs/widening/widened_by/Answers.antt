use Rattle.std.proofs.Common.{Some, ap}
use Rattle.vfa_walk.proofs.widening.widened_by.Goals as goal

pub widened_copy-requires-clause-new : goal.widened_copy-requires-clause-new
widened_copy-requires-clause-new g c = c.requires.new c.in-Some.new c.in-Some.is

pub returns-in_ok-widened_copy-in-Some-clause-widened : goal.returns-in_ok-widened_copy-in-Some-clause-widened
returns-in_ok-widened_copy-in-Some-clause-widened g c = rw c.in-Some.is (ap Some c.in_ok-widened_copy-in-Some.ensures.widened)
