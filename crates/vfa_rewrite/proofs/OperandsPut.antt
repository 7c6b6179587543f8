-- What is put in place of an operand by a state and by noted operands is what the findings put there.
use Rattle.std.proofs.Common.{◌≡◌, ℕ, zero, suc, Option, Some, None, List, length, refl, sym, ap, ◌∙◌, subst}
use Rattle.vfa_ir.specs.declared.operations.Op.{Op}
use Rattle.vfa_ir.specs.declared.operations.Operand.{Operand}
use Rattle.vfa_ir.specs.declared.operations.Ty.{Ty}
use Rattle.vfa_ir.specs.declared.operations.ValueId.{ValueId}
use Rattle.vfa_ir.specs.declared.functions.Function.{Function}
use Rattle.vfa_mean.specs.Moments.{Place}
use Rattle.vfa_mean.specs.Outcomes.{type_of}
use Rattle.vfa_values.specs.Conditions.{IsType}
use Rattle.vfa_cond.specs.Conditions.{IsNumberOperand}
use Rattle.vfa_walk.specs.Ready.{IsOperandOf, IsReady}
use Rattle.vfa_rewrite.specs.ByFacts.{FactState, decision_in}
use Rattle.vfa_rewrite.specs.Chains.{if_undecided, becoming, other}
use Rattle.vfa_rewrite.specs.Findings.{Decision, OneNumber, NoNumber, Undecided, Findings, IsTypedOperand, IsUsable, AreUsable, AreFitting}
use Rattle.vfa_rewrite.specs.Making.{put_at}
use Rattle.vfa_rewrite.specs.Marks.{IsReplaced}
use Rattle.vfa_rewrite.specs.Putting.{decided_operand, noted, becoming_by, put_by, IsNamed, AreNamed, AreTypedOthers, AreOthers}
use Rattle.vfa_rewrite.proofs.Chains.{other_is, replaced_fits}
use Rattle.vfa_rewrite.proofs.Goings.{ready_inst}
use Rattle.vfa_rewrite.proofs.Ranges.{typed_value}
use Rattle.vfa_ir.specs.Defined.{Defined}
use Rattle.vfa_ir.specs.Printable.{IsPrintable}

-- ---- by a state, and by findings

module _ (f : Function) (found : Findings) (place : Place) (state : Option FactState) (others : List (Option Operand))
    (decision : (ty : Ty) (a : Operand) → found.decision place ty a ≡ decision_in state ty a) (are : AreOthers f found others) where
  noted_is : (a : Operand) → noted others a ≡ other f found a
  noted_is (Operand.Value n) = are n.0
  noted_is (Operand.Literal x) = refl
  noted_is Operand.Poison = refl

  becoming_is : (ty : Ty) (n : ℕ) (a : Operand) → becoming_by others state ty n a ≡ becoming f found place ty n a
  becoming_is ty zero a = ap (λ d. if_undecided d a) (sym (decision ty a))
  becoming_is ty (suc n) a =
      (λ i. if_undecided (sym (decision ty a) i) (elim (noted_is a i) [ None ↦ a | Some u ↦ becoming_by others state ty n u ]))
      ∙ ap (if_undecided (found.decision place ty a)) (by (λ u. becoming_is ty n u) (other f found a))
    where
      by : ((u : Operand) → becoming_by others state ty n u ≡ becoming f found place ty n u) → (o : Option Operand) → ◌≡◌ {A = Operand} (elim o [ None ↦ a | Some u ↦ becoming_by others state ty n u ]) (elim o [ None ↦ a | Some u ↦ becoming f found place ty n u ])
      by again None = refl
      by again (Some u) = again u

  pub put_is : (a : Operand) → put_by f others state a ≡ put_at f found place a
  put_is (Operand.Value n) = becoming_is (type_of f n) (length f.values) (Operand.Value n)
  put_is (Operand.Literal x) = refl
  put_is Operand.Poison = refl

  pub puts_are : put_by f others state ≡ put_at f found place
  puts_are = λ i a. put_is a i

-- ---- the chain, one operand after another

module _ (others : List (Option Operand)) (state : Option FactState) (ty : Ty) where
  by_decision : (d : Decision) (x a b : Operand) → decided_operand d ≡ Some x → if_undecided d b ≡ x
  by_decision (OneNumber n) x a b h = let same : Some (Operand.Literal n) ≡ Some x = h in cc
  by_decision NoNumber x a b h = let same : Some Operand.Poison ≡ Some x = h in cc
  by_decision Undecided x a b h = absurd (cc)

  undecided : (d : Decision) (b : Operand) → decided_operand d ≡ None → if_undecided d b ≡ b
  undecided (OneNumber n) b h = absurd (cc)
  undecided NoNumber b h = absurd (cc)
  undecided Undecided b h = refl

  pub decided_now : (n : ℕ) (a x : Operand) → decided_operand (decision_in state ty a) ≡ Some x → becoming_by others state ty n a ≡ x
  decided_now zero a x h = by_decision (decision_in state ty a) x a a h
  decided_now (suc n) a x h = by_decision (decision_in state ty a) x a (elim (noted others a) [ None ↦ a | Some u ↦ becoming_by others state ty n u ]) h

  pub ends_now : (n : ℕ) (a : Operand) → decided_operand (decision_in state ty a) ≡ None → noted others a ≡ None → becoming_by others state ty n a ≡ a
  ends_now zero a h none = undecided (decision_in state ty a) a h
  ends_now (suc n) a h none =
      undecided (decision_in state ty a) (elim (noted others a) [ None ↦ a | Some u ↦ becoming_by others state ty n u ]) h
      ∙ ap (λ o. elim o [ None ↦ a | Some u ↦ becoming_by others state ty n u ]) none

  pub stops_now : (a : Operand) → decided_operand (decision_in state ty a) ≡ None → becoming_by others state ty zero a ≡ a
  stops_now a h = undecided (decision_in state ty a) a h

  pub goes_on_to : (n : ℕ) (a u : Operand) → decided_operand (decision_in state ty a) ≡ None → noted others a ≡ Some u →
      becoming_by others state ty (suc n) a ≡ becoming_by others state ty n u
  goes_on_to n a u h next =
      undecided (decision_in state ty a) (elim (noted others a) [ None ↦ a | Some v ↦ becoming_by others state ty n v ]) h
      ∙ ap (λ o. elim o [ None ↦ a | Some v ↦ becoming_by others state ty n v ]) next

-- ---- types of names

pub operand_of : (f : Function) (ty : Ty) (a : Operand) → IsType ty → IsTypedOperand f ty a → IsOperandOf f ty a
operand_of f (Ty.Int w) (Operand.Value n) width typed = record { width = width; range = (typed_value f (Ty.Int w) n typed).below; typed = typed }
operand_of f (Ty.Int w) (Operand.Literal x) width typed = record { width = width; range = typed; typed = tt }
operand_of f (Ty.Int w) Operand.Poison width typed = record { width = width; range = tt; typed = tt }
operand_of f (Ty.Pair w) (Operand.Value n) width typed = (width, typed)
operand_of f (Ty.Pair w) (Operand.Literal x) width typed = absurd typed
operand_of f (Ty.Pair w) Operand.Poison width typed = width

pub named_of : (f : Function) (ty : Ty) (a : Operand) → IsType ty → IsTypedOperand f ty a → IsNamed f a
named_of f ty (Operand.Value n) width typed =
    subst (λ t. IsOperandOf f t (Operand.Value n)) (sym (typed_value f ty n typed).typed) (operand_of f ty (Operand.Value n) width typed)
named_of f ty (Operand.Literal x) width typed = tt
named_of f ty Operand.Poison width typed = tt

pub number_named : (f : Function) (w : ℕ) (a : Operand) → IsNumberOperand f w a → IsNamed f a
number_named f w (Operand.Value n) of = named_of f (Ty.Int w) (Operand.Value n) of.width of.typed
number_named f w (Operand.Literal x) of = tt
number_named f w Operand.Poison of = tt

usable_named : (f : Function) (place : Place) (ty : Ty) (a : Operand) → IsUsable f place ty a → IsNamed f a
usable_named f place ty a usable = named_of f ty a usable.is_type usable.typed

pub usables_named : (f : Function) (place : Place) (op : Op) → AreUsable f place op → AreNamed f op
usables_named f place (Op.Bin bin flags w a b) u = (usable_named f place (Ty.Int w) a u.0, usable_named f place (Ty.Int w) b u.1)
usables_named f place (Op.Icmp pred samesign w a b) u = (usable_named f place (Ty.Int w) a u.0, usable_named f place (Ty.Int w) b u.1)
usables_named f place (Op.Select w c a b) u =
    (usable_named f place (Ty.Int 1) c u.0, usable_named f place (Ty.Int w) a u.1, usable_named f place (Ty.Int w) b u.2)
usables_named f place (Op.Cast cast flags v w a) u = usable_named f place (Ty.Int v) a u
usables_named f place (Op.Freeze w a) u = usable_named f place (Ty.Int w) a u
usables_named f place (Op.Two fun w a b) u = (usable_named f place (Ty.Int w) a u.0, usable_named f place (Ty.Int w) b u.1)
usables_named f place (Op.One fun w a strict) u = usable_named f place (Ty.Int w) a u
usables_named f place (Op.Over over w a b) u = (usable_named f place (Ty.Int w) a u.0, usable_named f place (Ty.Int w) b u.1)
usables_named f place (Op.Part w pair index) u = tt
usables_named f place (Op.Assume c) u = usable_named f place (Ty.Int 1) c u
usables_named f place (Op.Call width call) u = tt

-- ---- what stands in place of a name has its type

name_type_of : (f : Function) (ty : Ty) (n : ValueId) → IsOperandOf f ty (Operand.Value n) → type_of f n ≡ ty
name_type_of f (Ty.Int w) n of = (typed_value f (Ty.Int w) n of.typed).typed
name_type_of f (Ty.Pair w) n of = (typed_value f (Ty.Pair w) n of.1).typed

pub noted_of : (f : Function) (others : List (Option Operand)) (ty : Ty) (a u : Operand) → AreTypedOthers f others → IsOperandOf f ty a → noted others a ≡ Some u →
    IsOperandOf f ty u
noted_of f others ty (Operand.Value n) u typed of h = subst (λ t. IsOperandOf f t u) (name_type_of f ty n of) (typed n u h)
noted_of f others ty (Operand.Literal x) u typed of h = absurd (cc)
noted_of f others ty Operand.Poison u typed of h = absurd (cc)

module _ (f : Function) (printable : IsPrintable f) (defined : Defined f) (ready : IsReady f) (found : Findings) (fits : AreFitting f found) where
  replaced_of : (n : ValueId) (u : Operand) → IsReplaced f found n.0 u → IsOperandOf f (type_of f n) u
  replaced_of n u r =
      let of = (ready_inst f r.b r.block r.i r.inst ready r.line.there r.line.stands).result r.name r.result in
      let name_is : r.name ≡ n = ap (λ k. record { 0 = k }) r.same in
      subst (λ m. IsOperandOf f (type_of f m) u) name_is
      (subst (λ t. IsOperandOf f t u) (sym of.type_is) (operand_of f _ u of.width (replaced_fits f printable defined found fits n.0 u r).1))

  pub others_typed : (others : List (Option Operand)) → AreOthers f found others → AreTypedOthers f others
  others_typed others are n u h = replaced_of n u (other_is f found n.0 u (sym (are n.0) ∙ h))
