-- Environments of a function and of the narrowed one: names of which something is asked are poison or agree on what is asked;
-- those that are not changed are poison or the same. Nothing is claimed of names of which nothing is asked.
use Rattle.std.proofs.Common.{◌≡◌, ℕ, Bool, true, false, [], Option, Some, None, slice_get, refl, subst, ap, ◌∙◌}
use Rattle.std.specs.Prelude.{nat_eq, ⊤, IsSomeAnd}
use Rattle.std.specs.Option.{option_map_or}
use Rattle.vfa_ir.specs.declared.operations.ValueId.{ValueId}
use Rattle.vfa_ir.specs.declared.functions.Value.{Value}
use Rattle.vfa_ir.specs.declared.operations.Operand.{Operand}
use Rattle.vfa_ir.specs.declared.operations.Ty.{Ty}
use Rattle.vfa_ir.specs.declared.functions.Function.{Function}
use Rattle.vfa_ir.specs.Defined.{operand_names}
use Rattle.vfa_ir.specs.Printable.{IsOperand}
use Rattle.vfa_ir.specs.Typed.{IsOfType, HasType}
use Rattle.vfa_ir.specs.Walks.{is_in}
use Rattle.vfa_mean.specs.declared.value.Val.{Val}
use Rattle.vfa_mean.specs.Values.{Env, AllowsValue, IsInt, IsValueOf, operand_value}
use Rattle.vfa_mean.specs.Moments.{Place, Moment}
use Rattle.vfa_mean.proofs.FreshOperands.Definitions.{in_first}
use Rattle.vfa_bits.specs.Changed.{name_type}
use Rattle.vfa_bits.proofs.Agreeing.{AgreesOn}

pub record Tied (d : ℕ) (changed : Bool) (v v' : Val) : Type 0 where
  pub agrees : AgreesOn d v v'
  pub allows : changed ≡ false → AllowsValue v v'

-- each name has a value of its type
pub record Fits (f : Function) (env : Env) : Type 0 where
  pub value : (v : ℕ) → IsValueOf (name_type f v) (env v)

pub record Related (f : Function) (masks : ℕ → ℕ) (changed used : ℕ → Bool) (place : Place) (env env' : Env) : Type 0 where
  pub moment : Moment f place env
  pub fits : Fits f env
  pub fits' : Fits f env'
  pub tied : (v : ℕ) → nat_eq (masks v) 0 ≡ false → used v ≡ true → Tied (masks v) (changed v) (env v) (env' v)

-- what holds of the name of an operand, if it is one
abbrev pub ForName : (ℕ → Type 0) → Operand → Type 0
ForName P (Operand.Value v) = P v.0
ForName P (Operand.Literal c) = ⊤
ForName P Operand.Poison = ⊤

pub for_name : (P : ℕ → Type 0) (a : Operand) → ((v : ℕ) → is_in v (operand_names a) ≡ true → P v) → ForName P a
for_name P (Operand.Value v) h = h v.0 (in_first v.0 v.0 [] refl)
for_name P (Operand.Literal c) h = tt
for_name P Operand.Poison h = tt

-- the operand is a number of the width, as it is written
pub record IsTypedOperand (f : Function) (w : ℕ) (a : Operand) : Type 0 where
  pub ty : IsOfType f (Ty.Int w) a
  pub range : IsOperand f w a

pub has_type : (f : Function) (ty : Ty) (v : ValueId) → HasType f ty v → name_type f v.0 ≡ ty
has_type f ty v h = by (slice_get f.values v.0) refl h
  where
    by : (o : Option Value) → slice_get f.values v.0 ≡ o → IsSomeAnd o (λ x. x.ty ≡ ty) → option_map_or (λ (x : Value). x.ty) (slice_get f.values v.0) (Ty.Int 1) ≡ ty
    by None e h = absurd h
    by (Some x) e h = ap (λ o. option_map_or (λ (x : Value). x.ty) o (Ty.Int 1)) e ∙ h

pub name_fits : (f : Function) (env : Env) (ty : Ty) (v : ValueId) → Fits f env → HasType f ty v → IsValueOf ty (env v.0)
name_fits f env ty v fits h = subst (λ t. IsValueOf t (env v.0)) (has_type f ty v h) (fits.value v.0)

pub operand_fits : (f : Function) (env : Env) (w : ℕ) (a : Operand) → Fits f env → IsTypedOperand f w a → IsInt w (operand_value env a)
operand_fits f env w (Operand.Value v) fits typed = name_fits f env (Ty.Int w) v fits typed.ty
operand_fits f env w (Operand.Literal c) fits typed = typed.range
operand_fits f env w Operand.Poison fits typed = tt
