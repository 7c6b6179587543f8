use Rattle.std.proofs.Common.{length, sym, ap, subst, arith}
use Rattle.std.specs.Option.{ForSome}
use Rattle.vfa_walk.specs.Joining.{joined}
use Rattle.vfa_walk.specs.Kept.{IsStateOf}
use Rattle.vfa_walk.proofs.Found.{stored_state}
use Rattle.vfa_walk.proofs.Handed.{given_at, set_states}
use Rattle.vfa_walk.proofs.handing.give.Goals as goal

pub merge-requires-clause-sum : goal.merge-requires-clause-sum
merge-requires-clause-sum g c =
    subst (λ o. ForSome o (IsStateOf g.V.Values.ty g.V.Values.proper c.args.f.now)) (sym c.take-sum.ensures.taken)
    (stored_state g.V.Values.ty g.V.Values.proper c.args.f.now c.args.got.now c.args.to.0 c.requires.states)

pub returns-clause-given : goal.returns-clause-given
returns-clause-given g c b _ =
    let count = ap length c.as_slice.ensures in
    given_at (joined g.V.Values.answers) c.args.got.now c.take-sum.new.self c.set.new.self c.args.to.0 c.take-sum.result c.args.next c.merge.result
    (omega (arith, c.if-to-as_slice.false, count)) c.take-sum.ensures.taken c.take-sum.ensures.left c.set.ensures c.merge.ensures.merged b

pub returns-clause-states : goal.returns-clause-states
returns-clause-states g c =
    set_states g.V.Values.ty g.V.Values.proper c.args.f.now c.args.got.now c.take-sum.new.self c.set.new.self c.args.to.0 c.merge.result c.requires.states
    c.take-sum.ensures.left c.set.ensures c.merge.ensures.state
