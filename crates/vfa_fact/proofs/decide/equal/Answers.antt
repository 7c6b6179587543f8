use Rattle.std.proofs.Common.{◌≡◌, ℕ, Bool, true, false, not, sym, ◌∙◌, nat_eq, Option, Some, None}
use Rattle.std.specs.Option.{is_some}
use Rattle.vfa_dom.specs.Sets.{meets, single_of}
use Rattle.vfa_fact.specs.Compare.{decided}
use Rattle.vfa_fact.specs.Views.{in_fact}
use Rattle.vfa_fact.proofs.Decisions.{Members}
use Rattle.vfa_fact.proofs.Deciding.{apart, left_several, right_several, one_alike}
use Rattle.vfa_fact.proofs.FactMembers.{fact_members}
use Rattle.vfa_fact.proofs.decide.equal.Goals as goal

no_single : (w : ℕ) (S : ℕ → Bool) (o : Option ℕ) (none : Bool) → o ≡ single_of w S → is_some o ≡ not none → none ≡ true → single_of w S ≡ None
no_single w S (Some x) none e is yes' = absurd (cc)
no_single w S None none e is yes' = sym e

both_single : (w : ℕ) (A B : ℕ → Bool) (o p : Option ℕ) (none none' : Bool) → Members w A B → meets w A B ≡ true →
    o ≡ single_of w A → is_some o ≡ not none → none ≡ false → p ≡ single_of w B → is_some p ≡ not none' → none' ≡ false → Some true ≡ decided w nat_eq A B
both_single w A B (Some x) (Some y) none none' members some e is f e' is' f' = one_alike w A B x y members some (sym e) (sym e')
both_single w A B (Some x) None none none' members some e is f e' is' f' = absurd (cc)
both_single w A B None p none none' members some e is f e' is' f' = absurd (cc)

pub returns-then-not-meet : goal.returns-then-not-meet
returns-then-not-meet g c =
    apart g.row.W (in_fact g.row.W c.args.a.now) (in_fact g.row.W c.args.b.now) (fact_members c.args.a.now c.args.b.now) (sym c.meet.ensures ∙ c.if-not-meet.true)

pub returns-then-is_none : goal.returns-then-is_none
returns-then-is_none g c =
    let A = in_fact g.row.W c.args.a.now in
    let B = in_fact g.row.W c.args.b.now in
    left_several g.row.W A B (fact_members c.args.a.now c.args.b.now) (sym c.meet.ensures ∙ c.if-not-meet.false)
    (no_single g.row.W A _ _ c.single.ensures.exact c.is_none.ensures c.if-is_none.true)

pub returns-then-is_none-2 : goal.returns-then-is_none-2
returns-then-is_none-2 g c =
    let A = in_fact g.row.W c.args.a.now in
    let B = in_fact g.row.W c.args.b.now in
    right_several g.row.W A B (fact_members c.args.a.now c.args.b.now) (sym c.meet.ensures ∙ c.if-not-meet.false)
    (no_single g.row.W B _ _ c.single-2.ensures.exact c.is_none-2.ensures c.if-is_none-2.true)

pub returns : goal.returns
returns g c =
    let A = in_fact g.row.W c.args.a.now in
    let B = in_fact g.row.W c.args.b.now in
    both_single g.row.W A B _ _ _ _ (fact_members c.args.a.now c.args.b.now) (sym c.meet.ensures ∙ c.if-not-meet.false)
    c.single.ensures.exact c.is_none.ensures c.if-is_none.false c.single-2.ensures.exact c.is_none-2.ensures c.if-is_none-2.false
