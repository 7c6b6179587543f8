use Rattle.std.proofs.Common.{sym, ◌∙◌, subst, rules}
use Rattle.vfa_ir.specs.declared.operations.Ty.{Ty}
use Rattle.vfa_values.specs.Conditions.{IsInteger, IsOf}
use Rattle.vfa_cond.specs.declared.want.Want.{Want}
use Rattle.vfa_cond.specs.Conditions.{AreFacts}
use Rattle.vfa_cond.specs.Narrowing.{narrowed}
use Rattle.vfa_cond.specs.States.{known}
use Rattle.vfa_cond.specs.Wants.{IsWantFor}
use Rattle.vfa_cond.proofs.Fitting.{consequence_fits, operand_typed, has_type, typed_name}
use Rattle.vfa_cond.proofs.Keeping.{becomes_some, goes_on, is_given, narrows_to, holds_by, not_live, live_is, follows_nothing, follows_last, follows_by, with_facts, alike, kept_typed}
use Rattle.vfa_cond.proofs.state.State.+narrowing.Goals as goal

pub carry_out-returns-in-One-clause-becomes : goal.carry_out-returns-in-One-clause-becomes
carry_out-returns-in-One-clause-becomes g t c = rw c.in-One.is c.narrow_operand.ensures.becomes

pub carry_out-returns-in-Both-clause-becomes : goal.carry_out-returns-in-Both-clause-becomes
carry_out-returns-in-Both-clause-becomes g t c = rw c.in-Both.is c.narrow_both.ensures.becomes

pub carry_out-returns-in-Holds-clause-becomes : goal.carry_out-returns-in-Holds-clause-becomes
carry_out-returns-in-Holds-clause-becomes g t c = rw c.in-Holds.is c.hold_within.ensures.becomes

pub follow-returns-then-left-eq0-clause-becomes : goal.follow-returns-then-left-eq0-clause-becomes
follow-returns-then-left-eq0-clause-becomes g t c = becomes_some _ _ (follows_last _ _ _ _ _ _ c.if-left-eq0.true)

pub follow-returns-then-not-live-clause-becomes : goal.follow-returns-then-not-live-clause-becomes
follow-returns-then-not-live-clause-becomes g t c =
    becomes_some _ _ (follows_nothing _ _ _ _ _ _ (not_live c.args.f.now (known c.args.self.now) c.args.v.0 (sym c.live.ensures ∙ c.if-not-live.true)))

pub follow-returns-in-None-clause-becomes : goal.follow-returns-in-None-clause-becomes
follow-returns-in-None-clause-becomes g t c =
    becomes_some _ _ (follows_nothing _ _ _ _ _ _ (live_is c.args.f.now (known c.args.self.now) c.args.v.0 (sym c.live.ensures ∙ c.if-not-live.false) ∙ sym c.in-None.ensures))

pub follow-carry_out-requires : goal.follow-carry_out-requires
follow-carry_out-requires g t c =
    let typed = c.requires.function c.args.v.0 c.in-Some.op (sym c.in-Some.ensures) in
    let fits = consequence_fits _ _ _ g.met.V.Values.lawful.typed _ c.args.v.0 c.in-Some.op c.args.fact.now typed c.requires.own in
    λ κs within. (search rules, (search rules, (search rules, (c.requires.function, (c.requires.once, (c.requires.facts, (rw c.consequence_of.ensures fits, c.requires.serves)))))))

pub follow-returns-in-Some-clause-becomes : goal.follow-returns-in-Some-clause-becomes
follow-returns-in-Some-clause-becomes g t c =
    let live = live_is c.args.f.now (known c.args.self.now) c.args.v.0 (sym c.live.ensures ∙ c.if-not-live.false) ∙ sym c.in-Some.ensures in
    follows_by _ _ _ _ _ _ c.in-Some.op _ _ c.if-left-eq0.false live (rw c.consequence_of.ensures at c.carry_out.ensures.becomes)

pub narrow_both-narrow_operand-requires-2 : goal.narrow_both-narrow_operand-requires-2
narrow_both-narrow_operand-requires-2 g t c =
    λ κs within. (search rules, (search rules, (search rules, (c.requires.function, (c.requires.once, (c.narrow_operand.ensures.facts c.if-not-narrow_operand.false, (c.requires.second, (c.requires.wanted, c.narrow_operand.ensures.serves))))))))

pub narrow_both-returns-clause-becomes : goal.narrow_both-returns-clause-becomes
narrow_both-returns-clause-becomes g t c =
    goes_on _ _ _ _ _ (rw c.if-not-narrow_operand.false at c.narrow_operand.ensures.becomes) c.narrow_operand-2.ensures.becomes

pub narrow_operand-returns-in-Value-clause-becomes : goal.narrow_operand-returns-in-Value-clause-becomes
narrow_operand-returns-in-Value-clause-becomes g t c = rw c.in-Value.is c.narrow_within.ensures.becomes

pub narrow_within-keep-requires-clause-integer : goal.narrow_within-keep-requires-clause-integer
narrow_within-keep-requires-clause-integer g t c =
    let of = c.requires.facts c.args.v.0 c.in-Some.fact.now c.in-Some.ensures.fact in
    subst IsInteger (sym of.typed) c.requires.integer

pub narrow_within-keep-requires-clause-wanted : goal.narrow_within-keep-requires-clause-wanted
narrow_within-keep-requires-clause-wanted g t c =
    let of = c.requires.facts c.args.v.0 c.in-Some.fact.now c.in-Some.ensures.fact in
    subst (λ t. IsWantFor g.V.Values.ty g.V.Values.proper t c.args.want.now) (sym of.typed) c.requires.wanted

pub narrow_within-narrow_to-requires : goal.narrow_within-narrow_to-requires
narrow_within-narrow_to-requires g t c =
    let of = c.requires.facts c.args.v.0 c.in-Some.fact.now c.in-Some.ensures.fact in
    let kept = kept_typed _ _ c.args.f.now _ g.met.V.Values.lawful.typed _ c.in-Some.fact.now c.args.want.now c.requires.integer of c.requires.wanted c.in-Some-keep.kept (sym c.in-Some-keep.ensures) in
    let some = is_given _ _ c.in-Some.ensures.fact in
    λ κs within. (search rules, (search rules, (search rules, (c.requires.function, (c.requires.once, (c.requires.facts, (some, (c.place_of-place.ensures.place, (c.place_of-place.ensures.found, (kept, c.requires.serves))))))))))

pub narrow_within-returns-clause-becomes : goal.narrow_within-returns-clause-becomes
narrow_within-returns-clause-becomes g t c =
    narrows_to _ _ _ _ _ _ _ _ _ _ c.in-Some.ensures.fact (sym c.in-Some-keep.ensures) c.narrow_to.ensures.becomes

pub narrow_by-compare-requires-clause-alike : goal.narrow_by-compare-requires-clause-alike
narrow_by-compare-requires-clause-alike g t c =
    alike _ _ c.args.f.now _ _ _ (c.requires.facts c.args.v.0 c.in-Some.fact.now c.in-Some.ensures.fact) c.requires.other

pub narrow_by-compare-requires-clause-integer : goal.narrow_by-compare-requires-clause-integer
narrow_by-compare-requires-clause-integer g t c =
    let of = c.requires.facts c.args.v.0 c.in-Some.fact.now c.in-Some.ensures.fact in
    subst IsInteger (sym of.typed) c.requires.integer

pub narrow_by-narrow_to-requires : goal.narrow_by-narrow_to-requires
narrow_by-narrow_to-requires g t c =
    let of = c.requires.facts c.args.v.0 c.in-Some.fact.now c.in-Some.ensures.fact in
    let kept = kept_typed _ _ c.args.f.now _ g.met.V.Values.lawful.typed _ c.in-Some.fact.now (Want.Compare c.args.pred c.args.other.now) c.requires.integer of c.requires.other c.in-Some-compare.kept (sym c.in-Some-compare.ensures) in
    let some = is_given _ _ c.in-Some.ensures.fact in
    λ κs within. (search rules, (search rules, (search rules, (c.requires.function, (c.requires.once, (c.requires.facts, (some, (c.requires.belongs, (c.requires.found, (kept, c.requires.serves))))))))))

pub narrow_by-returns-clause-becomes : goal.narrow_by-returns-clause-becomes
narrow_by-returns-clause-becomes g t c =
    narrows_to _ _ _ _ (Want.Compare c.args.pred c.args.other.now) _ _ _ _ _ c.in-Some.ensures.fact (sym c.in-Some-compare.ensures) c.narrow_to.ensures.becomes

pub narrow_to-follow-requires : goal.narrow_to-follow-requires
narrow_to-follow-requires g t c =
    let facts = subst (λ s. AreFacts g.V.Values.ty g.V.Values.proper c.args.f.now s) (sym c.replace.ensures.change) (with_facts _ _ c.args.f.now (known c.args.self.now) c.args.v.0 c.args.kept.now c.requires.facts c.requires.own) in
    λ κs within. (search rules, (search rules, (search rules, (c.requires.function, (c.requires.once, (facts, (c.requires.own, c.replace.ensures.serves)))))))

pub narrow_to-returns-clause-becomes : goal.narrow_to-returns-clause-becomes
narrow_to-returns-clause-becomes g t c = rw (← c.replace.ensures.change) c.follow.ensures.becomes

pub narrow_to-returns-clause-was : goal.narrow_to-returns-clause-was
narrow_to-returns-clause-was g t c s was = c.follow.ensures.was s (c.replace.ensures.was s was)

pub narrow_both-returns-clause-was : goal.narrow_both-returns-clause-was
narrow_both-returns-clause-was g t c s was = c.narrow_operand-2.ensures.was s (c.narrow_operand.ensures.was s was)

pub narrow_operand_by-returns-in-Value-clause-becomes : goal.narrow_operand_by-returns-in-Value-clause-becomes
narrow_operand_by-returns-in-Value-clause-becomes g t c = rw c.in-Value.is c.narrow_by.ensures.becomes

pub hold_operands-narrow_operand_by-requires : goal.hold_operands-narrow_operand_by-requires
hold_operands-narrow_operand_by-requires g t c =
    let second = operand_typed _ _ _ g.met.V.Values.lawful.typed _ c.args.width (known c.args.self.now) c.args.b c.requires.facts c.requires.second
    c.in-Some-operand_fact.second (sym c.operand_fact-2.ensures ∙ c.in-Some-operand_fact.is) in
    λ κs within. (search rules, (search rules, (search rules, (c.requires.function, (c.requires.once, (c.requires.facts, (c.requires.first, (second, c.requires.serves))))))))

pub hold_operands-narrow_operand_by-requires-2 : goal.hold_operands-narrow_operand_by-requires-2
hold_operands-narrow_operand_by-requires-2 g t c =
    let first = operand_typed _ _ _ g.met.V.Values.lawful.typed _ c.args.width (known c.args.self.now) c.args.a c.requires.facts c.requires.first
    c.in-Some.first (sym c.operand_fact.ensures ∙ c.in-Some.is) in
    let facts = c.narrow_operand_by.ensures.facts c.if-not-narrow_operand_by.false in
    λ κs within. (search rules, (search rules, (search rules, (c.requires.function, (c.requires.once, (facts, (c.requires.second, (first, c.narrow_operand_by.ensures.serves))))))))

pub hold_operands-returns-clause-was : goal.hold_operands-returns-clause-was
hold_operands-returns-clause-was g t c s was = c.narrow_operand_by-2.ensures.was s (c.narrow_operand_by.ensures.was s was)

pub hold_names-compare-requires-clause-alike : goal.hold_names-compare-requires-clause-alike
hold_names-compare-requires-clause-alike g t c =
    let first = c.requires.facts c.args.x.0 c.in-Some.fact.now c.in-Some.ensures.fact in
    let second = c.requires.facts c.args.y.0 c.in-Some-at.other.now c.in-Some-at.ensures.fact in
    alike _ _ c.args.f.now _ _ _ first (subst (λ k. IsOf g.V.Values.ty g.V.Values.proper k c.in-Some-at.other.now) c.requires.alike second)

pub hold_names-compare-requires-clause-integer : goal.hold_names-compare-requires-clause-integer
hold_names-compare-requires-clause-integer g t c =
    let first = c.requires.facts c.args.x.0 c.in-Some.fact.now c.in-Some.ensures.fact in
    subst IsInteger (sym first.typed) c.requires.integer

pub hold_names-narrow_to-requires : goal.hold_names-narrow_to-requires
hold_names-narrow_to-requires g t c =
    let first = c.requires.facts c.args.x.0 c.in-Some.fact.now c.in-Some.ensures.fact in
    let second = c.requires.facts c.args.y.0 c.in-Some-at.other.now c.in-Some-at.ensures.fact in
    let other = subst (λ k. IsOf g.V.Values.ty g.V.Values.proper k c.in-Some-at.other.now) c.requires.alike second in
    let kept = kept_typed _ _ c.args.f.now _ g.met.V.Values.lawful.typed _ c.in-Some.fact.now (Want.Compare c.args.pred c.in-Some-at.other.now) c.requires.integer first other c.in-Some-compare.kept (sym c.in-Some-compare.ensures) in
    let some = is_given _ _ c.in-Some.ensures.fact in
    λ κs within. (search rules, (search rules, (search rules, (c.requires.function, (c.requires.once, (c.requires.facts, (some, (c.place_of-place.ensures.place, (c.place_of-place.ensures.found, (kept, c.requires.serves))))))))))

pub hold_names-narrow_by-requires : goal.hold_names-narrow_by-requires
hold_names-narrow_by-requires g t c =
    let first = c.requires.facts c.args.x.0 c.in-Some.fact.now c.in-Some.ensures.fact in
    let integer = subst IsInteger (sym c.requires.alike) c.requires.integer in
    let other = subst (λ k. IsOf g.V.Values.ty g.V.Values.proper k c.in-Some.fact.now) (sym c.requires.alike) first in
    let facts = c.narrow_to.ensures.facts c.if-not-narrow_to.false in
    λ κs within. (search rules, (search rules, (search rules, (c.requires.function, (c.requires.once, (facts, (c.place_near-near.ensures.place, (c.place_near-near.ensures.found, (integer, (other, c.narrow_to.ensures.serves))))))))))

pub hold_names-returns-clause-becomes : goal.hold_names-returns-clause-becomes
hold_names-returns-clause-becomes g t c width =
    let answers = g.V.Values.answers in
    let narrow = narrowed answers c.args.f.now c.args.left in
    let s = known c.args.self.now in
    let d = c.in-Some.fact.now in
    let e = c.in-Some-at.other.now in
    let first = narrows_to answers c.args.f.now c.args.left c.args.x.0 (Want.Compare c.args.pred e) s d _ _ _ c.in-Some.ensures.fact (sym c.in-Some-compare.ensures) c.narrow_to.ensures.becomes in
    holds_by answers narrow c.args.x c.args.pred c.args.y width s d e _ _ _ c.in-Some.ensures.fact c.in-Some-at.ensures.fact (rw c.if-not-narrow_to.false at first) (rw c.exchanged.ensures at c.narrow_by.ensures.becomes)

pub hold_names-returns-clause-was : goal.hold_names-returns-clause-was
hold_names-returns-clause-was g t c s was = c.narrow_by.ensures.was s (c.narrow_to.ensures.was s was)

pub hold_within-hold_names-requires : goal.hold_within-hold_names-requires
hold_within-hold_names-requires g t c =
    let first = has_type c.args.f.now c.in-Value.x (Ty.Int c.args.width) (typed_name _ _ _ _ (sym c.in-Value.is) c.requires.first) in
    let second = has_type c.args.f.now c.in-Value-b.y (Ty.Int c.args.width) (typed_name _ _ _ _ (sym c.in-Value-b.is) c.requires.second) in
    λ κs within. (search rules, (search rules, (search rules, (c.requires.function, (c.requires.once, (c.requires.facts, (subst IsInteger (sym first) tt, (second ∙ sym first, c.requires.serves))))))))

pub hold_within-returns-clause-becomes : goal.hold_within-returns-clause-becomes
hold_within-returns-clause-becomes g t c = rw (c.in-Value.is, c.in-Value-b.is) (c.hold_names.ensures.becomes c.args.width)

pub hold_within-returns-in_default-b : goal.hold_within-returns-in_default-b
hold_within-returns-in_default-b g t c =
    let did = c.hold_operands-in_default-b.ensures in
    record { becomes = rw c.in-Value.is did.becomes; facts = did.facts; room = did.room; serves = did.serves; was = did.was }
