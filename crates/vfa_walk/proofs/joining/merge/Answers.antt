use Rattle.std.proofs.Common.{Some, ap}
use Rattle.vfa_cond.proofs.Fitting.{some_of}
use Rattle.vfa_walk.specs.Kept.{IsStateOf}
use Rattle.vfa_walk.proofs.joining.merge.Goals as goal

pub returns-in_default-next-clause-state : goal.returns-in_default-next-clause-state
returns-in_default-next-clause-state g c =
    some_of (IsStateOf g.V.Values.ty g.V.Values.proper c.args.f.now) c.in-Some.sum (c.requires.sum c.in-Some.sum c.in-Some.is)

pub join-requires-clause-state : goal.join-requires-clause-state
join-requires-clause-state g c = c.requires.sum c.in-Some.sum c.in-Some.is

pub join-requires-clause-other : goal.join-requires-clause-other
join-requires-clause-other g c = c.requires.next c.in-Some-next.next c.in-Some-next.is

pub returns-clause-merged : goal.returns-clause-merged
returns-clause-merged g c = rw (c.in-Some.is, c.in-Some-next.is) (ap Some c.join.ensures.change)
