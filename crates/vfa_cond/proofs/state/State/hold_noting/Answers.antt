use Rattle.std.proofs.Common.{refl}
use Rattle.vfa_cond.specs.Changes.{restored}
use Rattle.vfa_cond.specs.Narrowing.{narrowed, deepest}
use Rattle.vfa_cond.specs.States.{known}
use Rattle.vfa_cond.proofs.Names.{narrowed_keeps, held_keeps, becomes_keeps}
use Rattle.vfa_cond.proofs.Truthful.{narrows, held_met, becomes_met}
use Rattle.vfa_cond.proofs.state.State.hold_noting.Goals as goal

pub returns-clause-truth : goal.returns-clause-truth
returns-clause-truth g c env truth between =
    let domain = g.V.Values in
    let laws = g.met.V.Values.lawful in
    let met = held_met domain.holds domain.ty domain.proper domain.answers laws.typed laws.sound c.args.f.now env (narrowed domain.answers c.args.f.now deepest)
    (narrows domain.holds domain.ty domain.proper domain.answers laws.typed laws.sound c.args.f.now env c.requires.function deepest)
    c.args.a c.args.pred c.args.b c.args.width (known c.args.self.now) c.requires.first c.requires.second (record { truth = truth; facts = c.requires.facts }) between in
    let both = becomes_met _ _ _ _ c.hold_within.ensures.becomes met in
    (both.0, both.1.truth)

pub returns-clause-names : goal.returns-clause-names
returns-clause-names g c =
    becomes_keeps _ _ (known c.args.self.now) _ c.hold_within.ensures.becomes
    (held_keeps g.V.Values.answers (narrowed g.V.Values.answers c.args.f.now deepest) (narrowed_keeps g.V.Values.answers c.args.f.now deepest)
    c.args.a c.args.pred c.args.b c.args.width (known c.args.self.now))

pub returns-clause-undone : goal.returns-clause-undone
returns-clause-undone g c = c.hold_within.ensures.was (restored c.args.changes.now (known c.args.self.now)) refl
