-- The arcs of the numbers that stand in an order relation to some member of a fact.
use Rattle.std.proofs.Common.{◌≡◌, ℕ, ◌+◌, ◌-◌, ◌^◌, ◌<◌, true, false, not, sym, ◌∙◌, ap, arith}
use Rattle.std.specs.Prelude.{nat_lt, nat_le}
use Rattle.std.proofs.lemmas.Bool.Decides.{nat_tests}
use Rattle.vfa_dom.specs.Sets.{is_empty}
use Rattle.vfa_wrap.specs.Arc.{steps}
use Rattle.vfa_wrap.proofs.Circle.{steps_is}
use Rattle.vfa_wrap.specs.Wrapped.{in_arc}
use Rattle.vfa_wrap.specs.declared.arc.Wrapped.{Wrapped}
use Rattle.vfa_fact.specs.declared.fact.Fact.{Fact}
use Rattle.vfa_fact.specs.declared.order.Order.{Order}
use Rattle.vfa_fact.specs.Compare.{Agree, partners}
use Rattle.vfa_fact.specs.Order.{base_of, comes_before, first_place, last_place}
use Rattle.vfa_fact.specs.Views.{in_fact}
use Rattle.vfa_fact.proofs.FactMembers.{fact_width, base_fits, fact_spread}
use Rattle.vfa_fact.proofs.Partnered.{before_partners, up_to_partners, after_partners, from_partners, empty_from}

below_none : (a last : ℕ) → last ≡ 0 → nat_lt a last ≡ false
below_none a last e = grind (arith, nat_tests)

one_less : (a last : ℕ) → (last ≡ 0 → ⊥) → nat_le a (last - 1) ≡ nat_lt a last
one_less a last some = grind (arith, nat_tests)

above_none : (m a first : ℕ) → first + 1 ≡ m → a < m → nat_lt first a ≡ false
above_none m a first e h = grind (arith, nat_tests)

one_more : (a first : ℕ) → nat_le (first + 1) a ≡ nat_lt first a
one_more a first = grind (arith, nat_tests)

module _ {W : ℕ} (f : Fact W) (order : Order) where
  pub none_before_first : (last : ℕ) → last ≡ last_place W (base_of W order) (in_fact W f) → last ≡ 0 → is_empty W (partners W (comes_before W (base_of W order)) (in_fact W f)) ≡ true
  none_before_first last e zero = empty_from W _ (λ x hx.
      before_partners W (base_of W order) (in_fact W f) _ _ x (fact_spread f order) ∙ below_none _ _ (sym e ∙ zero))

  pub before_arc : (base last : ℕ) (r : Wrapped W) → base ≡ base_of W order → last ≡ last_place W (base_of W order) (in_fact W f) → (last ≡ 0 → ⊥) →
      Agree W (in_arc W r) (λ x. nat_le (steps W base x) (last - 1)) → Agree W (in_arc W r) (partners W (comes_before W (base_of W order)) (in_fact W f))
  before_arc base last r eb e some is = record {
    alike = λ x hx.
        is.alike x hx ∙ one_less (steps W base x) last some ∙ ap (λ (p : ℕ). nat_lt (steps W p x) last) eb ∙ ap (nat_lt (steps W (base_of W order) x)) e
        ∙ sym (before_partners W (base_of W order) (in_fact W f) _ _ x (fact_spread f order));
  }

  pub up_to_arc_is : (base last : ℕ) (r : Wrapped W) → base ≡ base_of W order → last ≡ last_place W (base_of W order) (in_fact W f) →
      Agree W (in_arc W r) (λ x. nat_le (steps W base x) last) → Agree W (in_arc W r) (partners W (λ x y. not (comes_before W (base_of W order) y x)) (in_fact W f))
  up_to_arc_is base last r eb e is = record {
    alike = λ x hx.
        is.alike x hx ∙ ap (λ (p : ℕ). nat_le (steps W p x) last) eb ∙ ap (nat_le (steps W (base_of W order) x)) e
        ∙ sym (up_to_partners W (base_of W order) (in_fact W f) _ _ x (fact_spread f order));
  }

  pub none_after_last : (first : ℕ) → first ≡ first_place W (base_of W order) (in_fact W f) → first + 1 ≡ 2 ^ W → is_empty W (partners W (λ x y. comes_before W (base_of W order) y x) (in_fact W f)) ≡ true
  none_after_last first e top = empty_from W _ (λ x hx.
      after_partners W (base_of W order) (in_fact W f) _ _ x (fact_spread f order)
      ∙ above_none (2 ^ W) _ _ (sym (ap (λ (n : ℕ). n + 1) e) ∙ top) (steps_is W (base_of W order) x (base_fits W order (fact_width f)) hx).0)

  pub after_arc : (base first : ℕ) (r : Wrapped W) → base ≡ base_of W order → first ≡ first_place W (base_of W order) (in_fact W f) →
      Agree W (in_arc W r) (λ x. nat_le (first + 1) (steps W base x)) → Agree W (in_arc W r) (partners W (λ x y. comes_before W (base_of W order) y x) (in_fact W f))
  after_arc base first r eb e is = record {
    alike = λ x hx.
        is.alike x hx ∙ one_more (steps W base x) first ∙ ap (λ (p : ℕ). nat_lt first (steps W p x)) eb ∙ ap (λ (n : ℕ). nat_lt n (steps W (base_of W order) x)) e
        ∙ sym (after_partners W (base_of W order) (in_fact W f) _ _ x (fact_spread f order));
  }

  pub from_arc_is : (base first : ℕ) (r : Wrapped W) → base ≡ base_of W order → first ≡ first_place W (base_of W order) (in_fact W f) →
      Agree W (in_arc W r) (λ x. nat_le first (steps W base x)) → Agree W (in_arc W r) (partners W (λ x y. not (comes_before W (base_of W order) x y)) (in_fact W f))
  from_arc_is base first r eb e is = record {
    alike = λ x hx.
        is.alike x hx ∙ ap (λ (p : ℕ). nat_le first (steps W p x)) eb ∙ ap (λ (n : ℕ). nat_le n (steps W (base_of W order) x)) e
        ∙ sym (from_partners W (base_of W order) (in_fact W f) _ _ x (fact_spread f order));
  }
