use Rattle.std.proofs.Common.{◌≡◌, ℕ, Bool, sym, ◌∙◌, ap, nat_eq}
use Rattle.vfa_fact.specs.declared.order.Relation.{Relation}
use Rattle.vfa_fact.specs.Compare.{decided}
use Rattle.vfa_fact.specs.Order.{relates}
use Rattle.vfa_fact.specs.Views.{in_fact}
use Rattle.vfa_fact.proofs.Decisions.{decided_turned}
use Rattle.vfa_fact.proofs.Deciding.{negated_is}
use Rattle.vfa_fact.proofs.FactMembers.{fact_members}
use Rattle.vfa_fact.proofs.decide.decide_by.Goals as goal

at : (w : ℕ) (A B : ℕ → Bool) {r s : Relation} → r ≡ s → decided w (relates w s) A B ≡ decided w (relates w r) A B
at w A B e = ap (λ (r : Relation). decided w (relates w r) A B) (sym e)

pub returns-in-Equal : goal.returns-in-Equal
returns-in-Equal g c =
    let A = in_fact g.row.W c.args.a.now in
    let B = in_fact g.row.W c.args.b.now in
    c.equal.ensures ∙ at g.row.W A B c.in-Equal.is

pub returns-in-Unequal : goal.returns-in-Unequal
returns-in-Unequal g c =
    let A = in_fact g.row.W c.args.a.now in
    let B = in_fact g.row.W c.args.b.now in
    negated_is g.row.W nat_eq A B _ _ (fact_members c.args.a.now c.args.b.now) c.negated.ensures c.equal-in-Unequal.ensures
    ∙ at g.row.W A B c.in-Unequal.is

pub returns-in-Before : goal.returns-in-Before
returns-in-Before g c =
    let A = in_fact g.row.W c.args.a.now in
    let B = in_fact g.row.W c.args.b.now in
    c.precedes.ensures ∙ at g.row.W A B c.in-Before.is

pub returns-in-From : goal.returns-in-From
returns-in-From g c =
    let A = in_fact g.row.W c.args.a.now in
    let B = in_fact g.row.W c.args.b.now in
    negated_is g.row.W _ A B _ _ (fact_members c.args.a.now c.args.b.now) c.negated-in-From.ensures c.precedes-in-From.ensures
    ∙ at g.row.W A B c.in-From.is

pub returns-in-After : goal.returns-in-After
returns-in-After g c =
    let A = in_fact g.row.W c.args.a.now in
    let B = in_fact g.row.W c.args.b.now in
    c.precedes-in-After.ensures ∙ decided_turned g.row.W _ A B (fact_members c.args.a.now c.args.b.now)
    ∙ at g.row.W A B c.in-After.is

pub returns-in-UpTo : goal.returns-in-UpTo
returns-in-UpTo g c =
    let A = in_fact g.row.W c.args.a.now in
    let B = in_fact g.row.W c.args.b.now in
    let members = fact_members c.args.a.now c.args.b.now in
    negated_is g.row.W _ A B _ _ members c.negated-in-UpTo.ensures (c.precedes-in-UpTo.ensures ∙ decided_turned g.row.W _ A B members)
    ∙ at g.row.W A B c.in-UpTo.is
