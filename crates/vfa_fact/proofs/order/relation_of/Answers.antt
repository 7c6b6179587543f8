use Rattle.std.proofs.Common.{◌≡◌, ℕ, sym, ◌∙◌, ap, not}
use Rattle.vfa_ir.specs.declared.operations.Pred.{Pred}
use Rattle.vfa_ir.specs.Predicates.{by_order}
use Rattle.vfa_fact.specs.Compare.{satisfies}
use Rattle.vfa_fact.proofs.Orders.{unsigned_before, signed_before}
use Rattle.vfa_fact.proofs.order.relation_of.Goals as goal

at : (w x y : ℕ) {p q : Pred} → p ≡ q → satisfies w q x y ≡ satisfies w p x y
at w x y e = ap (λ (p : Pred). satisfies w p x y) (sym e)

pub returns-in-Eq : goal.returns-in-Eq
unfolding satisfies by_order
returns-in-Eq c w x y one hx hy = at w x y c.in-Eq.is

pub returns-in-Ne : goal.returns-in-Ne
unfolding satisfies by_order
returns-in-Ne c w x y one hx hy = at w x y c.in-Ne.is

pub returns-in-Ugt : goal.returns-in-Ugt
unfolding satisfies by_order
returns-in-Ugt c w x y one hx hy = sym (unsigned_before w y x hy hx) ∙ at w x y c.in-Ugt.is

pub returns-in-Uge : goal.returns-in-Uge
unfolding satisfies by_order
returns-in-Uge c w x y one hx hy = sym (ap not (unsigned_before w x y hx hy)) ∙ at w x y c.in-Uge.is

pub returns-in-Ult : goal.returns-in-Ult
unfolding satisfies by_order
returns-in-Ult c w x y one hx hy = sym (unsigned_before w x y hx hy) ∙ at w x y c.in-Ult.is

pub returns-in-Ule : goal.returns-in-Ule
unfolding satisfies by_order
returns-in-Ule c w x y one hx hy = sym (ap not (unsigned_before w y x hy hx)) ∙ at w x y c.in-Ule.is

pub returns-in-Sgt : goal.returns-in-Sgt
unfolding satisfies by_order
returns-in-Sgt c w x y one hx hy = sym (signed_before w y x one hy hx) ∙ at w x y c.in-Sgt.is

pub returns-in-Sge : goal.returns-in-Sge
unfolding satisfies by_order
returns-in-Sge c w x y one hx hy = sym (ap not (signed_before w x y one hx hy)) ∙ at w x y c.in-Sge.is

pub returns-in-Slt : goal.returns-in-Slt
unfolding satisfies by_order
returns-in-Slt c w x y one hx hy = sym (signed_before w x y one hx hy) ∙ at w x y c.in-Slt.is

pub returns-in-Sle : goal.returns-in-Sle
unfolding satisfies by_order
returns-in-Sle c w x y one hx hy = sym (ap not (signed_before w y x one hy hx)) ∙ at w x y c.in-Sle.is
