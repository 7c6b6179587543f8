-- Results of operands that are one number each.
use Rattle.std.proofs.Common.{◌≡◌, ℕ, sym, ◌∙◌, subst, refl, Option, Some, None}
use Rattle.vfa_ir.specs.Printable.{op_type}
use Rattle.vfa_ir.specs.declared.operations.Op.{Op}
use Rattle.vfa_mean.specs.Meaning.{done, Allowed, Gave}
use Rattle.vfa_mean.specs.Operands.{IsOperation, AreValuesFor}
use Rattle.vfa_mean.specs.Values.{IsValueOf}
use Rattle.vfa_mean.specs.declared.value.Done.{Done}
use Rattle.vfa_mean.specs.declared.value.Val.{Val}
use Rattle.vfa_mean.proofs.Typing.{done_typed}
use Rattle.vfa_xfer.specs.Constants.{where_single}

-- a value that an operation gives is of its type
pub given_typed : (op : Op) (a b c v : Val) (d : Done) → IsOperation op → AreValuesFor op a b c → d ≡ done op a b c → d ≡ Done.Is v → IsValueOf (op_type op) v
given_typed op a b c v d is values same gave =
    done_typed op a b c v is values (subst (λ e. Allowed e (Gave v)) (sym gave ∙ same) refl)

-- what stands where the numbers are, or are not
pub first_open : {A : Type 0} (p q : Option ℕ) (f : ℕ → ℕ → A) (o : A) → p ≡ None → o ≡ where_single p q f o
first_open None q f o e = refl
first_open (Some x) q f o e = absurd (cc)

pub second_open : {A : Type 0} (p q : Option ℕ) (f : ℕ → ℕ → A) (o : A) → q ≡ None → o ≡ where_single p q f o
second_open None q f o e = refl
second_open (Some x) None f o e = refl
second_open (Some x) (Some y) f o e = absurd (cc)

pub both_single : {A : Type 0} (p q : Option ℕ) (f : ℕ → ℕ → A) (o : A) (x y : ℕ) → p ≡ Some x → q ≡ Some y → f x y ≡ where_single p q f o
both_single p q f o x y e h = λ i. where_single (sym e i) (sym h i) f o
