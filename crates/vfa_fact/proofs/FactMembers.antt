-- The members of facts.
use Rattle.std.proofs.Common.{ℕ, ◌^◌, ◌<◌, ◌≤◌}
use Rattle.std.proofs.lemmas.Nat.{pow_pos}
use Rattle.vfa_fact.specs.declared.fact.Fact.{Fact}
use Rattle.vfa_fact.specs.declared.order.Order.{Order}
use Rattle.vfa_fact.specs.declared.order.Order.TheVariants.{Unsigned, Signed}
use Rattle.vfa_fact.specs.Order.{base_of, first_place, last_place}
use Rattle.vfa_fact.specs.Views.{in_fact}
use Rattle.vfa_fact.proofs.MemberPlaces.{Spread, spread}
use Rattle.vfa_fact.proofs.Decisions.{Members}
use Rattle.vfa_fact.proofs.Orders.{half_fits}

pub fact_width : {W : ℕ} (f : Fact W) → 1 ≤ W
fact_width f = f.known.width.least

pub fact_members : {W : ℕ} (a b : Fact W) → Members W (in_fact W a) (in_fact W b)
fact_members a b = record {
  left = a.arc.first;
  right = b.arc.first;
  left_fits = a.arc.arc.first_fits;
  right_fits = b.arc.arc.first_fits;
  left_in = a.sharp.first_in;
  right_in = b.sharp.first_in;
}

pub base_fits : (w : ℕ) (order : Order) → 1 ≤ w → base_of w order < 2 ^ w
base_fits w Unsigned one = pow_pos w
base_fits w Signed one = half_fits w one

-- where the members of a fact stand in an order
pub fact_spread : {W : ℕ} (f : Fact W) (order : Order) → Spread W (base_of W order) (in_fact W f) (first_place W (base_of W order) (in_fact W f)) (last_place W (base_of W order) (in_fact W f))
fact_spread {W} f order =
    let m = fact_members f f in
    spread W (base_of W order) (in_fact W f) m.left (base_fits W order (fact_width f)) m.left_fits m.left_in
