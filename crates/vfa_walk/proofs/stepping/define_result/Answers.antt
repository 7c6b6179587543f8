use Rattle.vfa_walk.proofs.stepping.define_result.Goals as goal

pub define-requires-clause-name : goal.define-requires-clause-name
define-requires-clause-name g c = c.requires.inst.result c.in-Some.v c.in-Some.is
