use Rattle.std.proofs.Common.{refl, subst}
use Rattle.vfa_cond.specs.Changes.{restored}
use Rattle.vfa_cond.specs.Narrowing.{deepest}
use Rattle.vfa_cond.specs.States.{known}
use Rattle.vfa_cond.specs.Wants.{IsWantFor}
use Rattle.vfa_cond.proofs.Names.{narrowed_keeps, becomes_keeps}
use Rattle.vfa_cond.proofs.Truthful.{narrows, becomes_met, integer_type}
use Rattle.vfa_cond.proofs.state.State.narrow_noting.Goals as goal

pub returns-clause-truth : goal.returns-clause-truth
returns-clause-truth g c env truth wanted =
    let domain = g.V.Values in
    let laws = g.met.V.Values.lawful in
    let int = integer_type _ c.requires.integer in
    let met = narrows domain.holds domain.ty domain.proper domain.answers laws.typed laws.sound c.args.f.now env c.requires.function deepest c.args.v.0 _ c.args.want.now (known c.args.self.now)
    int (subst (λ t. IsWantFor domain.ty domain.proper t c.args.want.now) int c.requires.wanted) (record { truth = truth; facts = c.requires.facts })
    (record { x = wanted.number; is = wanted.is; wanted = λ _. wanted.wanted }) in
    let both = becomes_met _ _ _ _ c.narrow_within.ensures.becomes met in
    (both.0, both.1.truth)

pub returns-clause-names : goal.returns-clause-names
returns-clause-names g c =
    becomes_keeps _ _ (known c.args.self.now) _ c.narrow_within.ensures.becomes
    (narrowed_keeps g.V.Values.answers c.args.f.now deepest c.args.v.0 c.args.want.now (known c.args.self.now))

pub returns-clause-undone : goal.returns-clause-undone
returns-clause-undone g c = c.narrow_within.ensures.was (restored c.args.changes.now (known c.args.self.now)) refl
