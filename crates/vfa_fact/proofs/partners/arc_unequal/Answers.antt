use Rattle.std.proofs.Common.{◌≤◌, ◌<◌, ◌^◌, ℕ, arith, lit<, sym, ◌∙◌, ap}
use Rattle.std.specs.Prelude.{nat_le}
use Rattle.std.proofs.lemmas.Nat.{pow_below}
use Rattle.vfa_wrap.specs.Arc.{steps}
use Rattle.vfa_fact.specs.Views.{in_fact}
use Rattle.vfa_fact.proofs.FactMembers.{fact_width, fact_members}
use Rattle.vfa_fact.proofs.Partnered.{unequal_single, unequal_several}
use Rattle.vfa_fact.proofs.partners.arc_unequal.Goals as goal

wide : (w : ℕ) → 1 ≤ w → 1 < 2 ^ w
wide w h = pow_below 0 w (omega arith)

pub from_on-requires : goal.from_on-requires
from_on-requires g c = (lit< tt, (c.bits.ensures.width, (c.bits.ensures.bound, wide g.row.W (fact_width c.args.fact.now))))

pub returns-in-Some : goal.returns-in-Some
returns-in-Some g c = record {
  alike = λ x hx.
      c.from_on.ensures.alike x hx ∙ ap (λ (n : ℕ). nat_le 1 (steps g.row.W n x)) c.bits.ensures.value
      ∙ unequal_single g.row.W (in_fact g.row.W c.args.fact.now) c.in-Some.only x (sym c.single.ensures.exact ∙ c.in-Some.is) hx;
}

pub returns-in-None : goal.returns-in-None
returns-in-None g c = record {
  alike = λ x hx.
      let m = fact_members c.args.fact.now c.args.fact.now in
      c.any.ensures.all x hx ∙ sym (unequal_several g.row.W (in_fact g.row.W c.args.fact.now) x m.left m.left_fits m.left_in (sym c.single.ensures.exact ∙ c.in-None.is));
}
