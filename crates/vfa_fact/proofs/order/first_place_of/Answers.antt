use Rattle.std.proofs.Common.{◌≡◌, ℕ, ◌^◌, ◌<◌, ◌∙◌}
use Rattle.std.proofs.Common.{rules}
use Rattle.std.proofs.lemmas.Int.{to_z-of_z}
use Rattle.std.specs.Int.{w128}
use mir.Val.{SFits}
use Rattle.vfa_fact.specs.declared.fact.Fact.{Fact}
use Rattle.vfa_fact.specs.declared.order.Order.{Order}
use Rattle.vfa_fact.specs.declared.order.Order.TheVariants.{Unsigned, Signed}
use Rattle.vfa_fact.specs.Order.{base_of, first_place}
use Rattle.vfa_fact.specs.Views.{in_fact}
use Rattle.vfa_fact.proofs.MemberPlaces.{place_fits, least_place, least_signed_place}
use Rattle.vfa_fact.proofs.FactMembers.{fact_width, fact_spread, base_fits}
use Rattle.vfa_fact.proofs.order.first_place_of.Goals as goal

place_below : {W : ℕ} (f : Fact W) (order : Order) → first_place W (base_of W order) (in_fact W f) < 2 ^ W
place_below {W} f order = place_fits W (base_of W order) (in_fact W f) _ (base_fits W order (fact_width f)) (fact_spread f order).first_at

-- what is told of the place in one order, where the order is that one
told : {W : ℕ} (f : Fact W) (order order' : Order) (k : ℕ) → order' ≡ order → k ≡ first_place W (base_of W order) (in_fact W f) →
    (k ≡ first_place W (base_of W order') (in_fact W f)) × (k < 2 ^ W)
told f order order' k e place = rw e (place, rw place (place_below f order))

pub returns-in-Unsigned : goal.returns-in-Unsigned
returns-in-Unsigned g c =
    let f = c.args.fact.now in
    let t = told f Unsigned c.args.order c.least.result c.in-Unsigned.is (c.least.ensures ∙ least_place g.row.W (in_fact g.row.W f)) in
    record { place = t.0; fits = t.1; width = f.known.width }

pub returns-in-Signed : goal.returns-in-Signed
returns-in-Signed g c =
    let f = c.args.fact.now in
    let reading_fits : SFits w128 c.least_signed.result = search rules in
    let place = c.signed_place.ensures.place (first_place g.row.W (base_of g.row.W Signed) (in_fact g.row.W f)) (place_below f Signed)
    (to_z-of_z w128 c.least_signed.result reading_fits ∙ c.least_signed.ensures ∙ least_signed_place g.row.W (in_fact g.row.W f)) in
    let t = told f Signed c.args.order c.signed_place.result c.in-Signed.is place in
    record { place = t.0; fits = t.1; width = f.known.width }
