-- The operands of an operation, as its transfer takes them.
use Rattle.std.specs.Prelude.{⊤}
use Rattle.vfa_ir.specs.declared.operations.Op.{Op}
use Rattle.vfa_ir.specs.declared.operations.Ty.{Ty}
use Rattle.vfa_mean.specs.declared.value.Val.{Val}
use Rattle.vfa_mean.specs.Operands.{AreValuesFor}
use Rattle.vfa_mean.specs.Values.{IsValueOf}
use Rattle.vfa_values.specs.Conditions.{IsOf}

-- What an operation asks of its operands a, b and c: A, B and C of the types that it writes there, as far as it uses them.
abbrev pub EachOperand : Op → (Ty → Type 0) → (Ty → Type 0) → (Ty → Type 0) → Type 0
EachOperand (Op.Bin _ _ w _ _) A B C = A (Ty.Int w) × B (Ty.Int w)
EachOperand (Op.Icmp _ _ w _ _) A B C = A (Ty.Int w) × B (Ty.Int w)
EachOperand (Op.Select w _ _ _) A B C = A (Ty.Int w) × B (Ty.Int w) × C (Ty.Int 1)
EachOperand (Op.Cast _ _ from _ _) A B C = A (Ty.Int from)
EachOperand (Op.Freeze w _) A B C = A (Ty.Int w)
EachOperand (Op.Two _ w _ _) A B C = A (Ty.Int w) × B (Ty.Int w)
EachOperand (Op.One _ w _ _) A B C = A (Ty.Int w)
EachOperand (Op.Over _ w _ _) A B C = A (Ty.Int w) × B (Ty.Int w)
EachOperand (Op.Part w _ _) A B C = C (Ty.Pair w)
EachOperand (Op.Assume _) A B C = C (Ty.Int 1)
EachOperand (Op.Call _ _) A B C = ⊤

-- the values of the domain that the operation uses are proper and of the types that it writes
abbrev pub AreOperandFacts : {V : Type 0} → (V → Ty) → (V → Type 0) → Op → V → V → V → Type 0
AreOperandFacts ty proper op a b c =
    EachOperand op (λ t. IsOf ty proper t a) (λ t. IsOf ty proper t b) (λ t. IsOf ty proper t c)

-- Where each operand that is used is held of by something of its type, and what is of a type holds only of values of that
-- type, the operands are values for the operation.
pub values_for : {V : Type 0} (holds : V → Val → Type 0) (Of : Ty → V → Type 0) →
    ((t : Ty) (d : V) (v : Val) → Of t d → holds d v → IsValueOf t v) → (op : Op) (a b c : V) (x y z : Val) →
    EachOperand op (λ t. Of t a) (λ t. Of t b) (λ t. Of t c) →
    EachOperand op (λ _. holds a x) (λ _. holds b y) (λ _. holds c z) → AreValuesFor op x y z
values_for holds Of within (Op.Bin _ _ w _ _) a b c x y z of h = record { first = within (Ty.Int w) a x of.0 h.0; second = within (Ty.Int w) b y of.1 h.1 }
values_for holds Of within (Op.Icmp _ _ w _ _) a b c x y z of h = record { first = within (Ty.Int w) a x of.0 h.0; second = within (Ty.Int w) b y of.1 h.1 }
values_for holds Of within (Op.Select w _ _ _) a b c x y z of h =
    (record { first = within (Ty.Int w) a x of.0 h.0; second = within (Ty.Int w) b y of.1 h.1 }, within (Ty.Int 1) c z of.2 h.2)
values_for holds Of within (Op.Cast _ _ v _ _) a b c x y z of h = within (Ty.Int v) a x of h
values_for holds Of within (Op.Freeze w _) a b c x y z of h = within (Ty.Int w) a x of h
values_for holds Of within (Op.Two _ w _ _) a b c x y z of h = record { first = within (Ty.Int w) a x of.0 h.0; second = within (Ty.Int w) b y of.1 h.1 }
values_for holds Of within (Op.One _ w _ _) a b c x y z of h = within (Ty.Int w) a x of h
values_for holds Of within (Op.Over _ w _ _) a b c x y z of h = record { first = within (Ty.Int w) a x of.0 h.0; second = within (Ty.Int w) b y of.1 h.1 }
values_for holds Of within (Op.Part w _ _) a b c x y z of h = within (Ty.Pair w) c z of h
values_for holds Of within (Op.Assume _) a b c x y z of h = within (Ty.Int 1) c z of h
values_for holds Of within (Op.Call _ _) a b c x y z of h = tt
