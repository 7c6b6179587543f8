use Rattle.std.proofs.Common.{◌≡◌, ℕ, Bool, ◌<◌, ◌≤◌, ◌^◌, sym, ◌∙◌, ap, Option, None, IsTrue}
use Rattle.vfa_dom.specs.Sets.{meet, is_empty}
use Rattle.vfa_ir.specs.declared.operations.Pred.{Pred}
use Rattle.vfa_wrap.specs.Wrapped.{in_arc}
use Rattle.vfa_fact.specs.declared.fact.Fact.{Fact}
use Rattle.vfa_fact.specs.declared.numbers.Numbers.{Numbers}
use Rattle.vfa_fact.specs.declared.order.Relation.{Relation}
use Rattle.vfa_fact.specs.declared.order.Relation.TheVariants.{Equal, Unequal, Before, UpTo, After, From}
use Rattle.vfa_fact.specs.Compare.{Agree, satisfies, partners, restrict_of}
use Rattle.vfa_fact.specs.Fact.{span_in}
use Rattle.vfa_fact.specs.Order.{relates}
use Rattle.vfa_fact.specs.Sharp.{sharp_in}
use Rattle.vfa_fact.specs.Views.{numbers_of, in_fact}
use Rattle.vfa_fact.proofs.FactMembers.{fact_width}
use Rattle.vfa_fact.proofs.Partnered.{equal_partners}
use Rattle.vfa_fact.proofs.Restricted.{none_left, some_left}
use Rattle.vfa_fact.proofs.fact.Fact.restricted.Goals as goal

-- the relation r is s, and says what the comparison asks
module _ {W : ℕ} (a b : Fact W) (pred : Pred) (r s : Relation) (e : r ≡ s)
    (tells : (w x y : ℕ) → 1 ≤ w → x < 2 ^ w → y < 2 ^ w → relates w r x y ≡ satisfies w pred x y) where
  alike : (x y : ℕ) → x < 2 ^ W → y < 2 ^ W → relates W s x y ≡ satisfies W pred x y
  alike x y hx hy = ap (λ (q : Relation). relates W q x y) (sym e) ∙ tells W x y (fact_width a) hx hy

  left : (A : ℕ → Bool) (o : Option Numbers) → Agree W A (partners W (relates W s) (in_fact W b)) → o ≡ sharp_in W (span_in (numbers_of a)) (meet (in_fact W a) A) →
      o ≡ restrict_of W pred (numbers_of a) (in_fact W b)
  unfolding restrict_of
  left A o agree is = is ∙ some_left W (numbers_of a) (in_fact W b) (relates W s) (satisfies W pred) a.sharp alike A agree

  none : (o : Option Numbers) → IsTrue (is_empty W (partners W (relates W s) (in_fact W b))) → o ≡ None → o ≡ restrict_of W pred (numbers_of a) (in_fact W b)
  unfolding restrict_of
  none o empty is = is ∙ none_left W (numbers_of a) (in_fact W b) (relates W s) (satisfies W pred) a.sharp alike empty

pub returns-in-Equal : goal.returns-in-Equal
returns-in-Equal g c = left c.args.self.now c.args.other.now c.args.pred c.relation_of.result Equal c.in-Equal.is c.relation_of.ensures
    (in_fact g.row.W c.args.other.now) c.common.result
    (record { alike = λ x hx. sym (equal_partners g.row.W (in_fact g.row.W c.args.other.now) x hx) }) c.common.ensures

pub returns-in-Unequal : goal.returns-in-Unequal
returns-in-Unequal g c = left c.args.self.now c.args.other.now c.args.pred c.relation_of.result Unequal c.in-Unequal.is c.relation_of.ensures
    (in_arc g.row.W c.arc_unequal.result) c.within.result c.arc_unequal.ensures c.within.ensures

pub returns-in_err-arc_before-in-Before : goal.returns-in_err-arc_before-in-Before
returns-in_err-arc_before-in-Before g c = none c.args.self.now c.args.other.now c.args.pred c.relation_of.result (Before c.in-Before.order) c.in-Before.is c.relation_of.ensures
    c.from_residual.result c.in_err-arc_before-in-Before.ensures c.from_residual.ensures

pub returns-in_ok-arc_before-in-Before : goal.returns-in_ok-arc_before-in-Before
returns-in_ok-arc_before-in-Before g c = left c.args.self.now c.args.other.now c.args.pred c.relation_of.result (Before c.in-Before.order) c.in-Before.is c.relation_of.ensures
    (in_arc g.row.W c.in_ok-arc_before-in-Before.field-0) c.within-in-Before.result c.in_ok-arc_before-in-Before.ensures c.within-in-Before.ensures

pub returns-in-UpTo : goal.returns-in-UpTo
returns-in-UpTo g c = left c.args.self.now c.args.other.now c.args.pred c.relation_of.result (UpTo c.in-UpTo.order) c.in-UpTo.is c.relation_of.ensures
    (in_arc g.row.W c.arc_up_to.result) c.within-in-UpTo.result c.arc_up_to.ensures c.within-in-UpTo.ensures

pub returns-in_err-arc_after-in-After : goal.returns-in_err-arc_after-in-After
returns-in_err-arc_after-in-After g c = none c.args.self.now c.args.other.now c.args.pred c.relation_of.result (After c.in-After.order) c.in-After.is c.relation_of.ensures
    c.from_residual-in_err-arc_after-in-After.result c.in_err-arc_after-in-After.ensures c.from_residual-in_err-arc_after-in-After.ensures

pub returns-in_ok-arc_after-in-After : goal.returns-in_ok-arc_after-in-After
returns-in_ok-arc_after-in-After g c = left c.args.self.now c.args.other.now c.args.pred c.relation_of.result (After c.in-After.order) c.in-After.is c.relation_of.ensures
    (in_arc g.row.W c.in_ok-arc_after-in-After.field-0) c.within-in-After.result c.in_ok-arc_after-in-After.ensures c.within-in-After.ensures

pub returns-in-From : goal.returns-in-From
returns-in-From g c = left c.args.self.now c.args.other.now c.args.pred c.relation_of.result (From c.in-From.order) c.in-From.is c.relation_of.ensures
    (in_arc g.row.W c.arc_from.result) c.within-in-From.result c.arc_from.ensures c.within-in-From.ensures
