use Rattle.vfa_walk.proofs.handing.send.Goals as goal

pub hand_over-requires-clause-state : goal.hand_over-requires-clause-state
hand_over-requires-clause-state g c = c.requires.entry c.in-Some.entry c.in-Some.is
