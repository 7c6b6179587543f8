-- Values of names and operands in what was read and in what is left.
use Rattle.std.proofs.Common.{◌≡◌, ℕ, Bool, true, false, nat_eq, if◌then◌else◌, Option, Some, None, refl, sym, subst}
use Rattle.std.proofs.lemmas.Bool.{eqb-true}
use Rattle.vfa_ir.specs.declared.operations.Operand.{Operand}
use Rattle.vfa_ir.specs.declared.operations.Ty.{Ty}
use Rattle.vfa_ir.specs.declared.operations.ValueId.{ValueId}
use Rattle.vfa_ir.specs.declared.functions.Function.{Function}
use Rattle.vfa_mean.specs.declared.value.Val.{Val}
use Rattle.vfa_mean.specs.Values.{Env, IsValueOf, AllowsValue, operand_value}
use Rattle.vfa_mean.specs.Moments.{Place, Moment}
use Rattle.vfa_mean.specs.Outcomes.{with_value, with_result}
use Rattle.vfa_mean.proofs.Refining.{AllowsValue-trans}
use Rattle.vfa_rewrite.specs.Rewritten.{Marks, rewritten}
use Rattle.vfa_cond.specs.Conditions.{name_type}
use Rattle.vfa_rewrite.specs.Sound.{Agrees, IsKept, IsOfTypeIn, MayStandFor, HasNoKeptName}

module _ (f : Function) (m : Marks) where
  -- a kept operand
  pub kept_value : (env env' : Env) (a : Operand) → Agrees f m env env' → IsKept m a → AllowsValue (operand_value env a) (operand_value env' a)
  kept_value env env' (Operand.Value n) agrees kept = agrees.allows n.0 kept
  kept_value env env' (Operand.Literal x) agrees kept = refl
  kept_value env env' Operand.Poison agrees kept = tt

  pub operand_agrees : (place : Place) (env env' : Env) (a a' : Operand) → Moment f place env → Agrees f m env env' →
      MayStandFor f place a a' → IsKept m a' → AllowsValue (operand_value env a) (operand_value env' a')
  operand_agrees place env env' a a' moment agrees allows kept =
      AllowsValue-trans (operand_value env a) (operand_value env a') (operand_value env' a') (allows env moment) (kept_value env env' a' agrees kept)

  pub operand_typed : (env env' : Env) (ty : Ty) (a : Operand) → Agrees f m env env' → IsOfTypeIn (rewritten f m) ty a →
      IsValueOf ty (operand_value env' a)
  operand_typed env env' ty (Operand.Value n) agrees e = subst (λ t. IsValueOf t (env' n.0)) e (agrees.typed n.0)
  operand_typed env env' ty (Operand.Literal x) agrees h = h
  operand_typed env env' ty Operand.Poison agrees h = tt

  -- ---- writing

  one_allows : (t : Bool) (v v' u u' : Val) → AllowsValue v v' → AllowsValue u u' → AllowsValue (if t then v else u) (if t then v' else u')
  one_allows true v v' u u' h k = h
  one_allows false v v' u u' h k = k

  one_typed : (name n : ℕ) (t : Bool) (v u : Val) → nat_eq n name ≡ t → IsValueOf (name_type (rewritten f m) name) v →
      IsValueOf (name_type (rewritten f m) n) u → IsValueOf (name_type (rewritten f m) n) (if t then v else u)
  one_typed name n true v u e h k = subst (λ x. IsValueOf (name_type (rewritten f m) x) v) (sym (eqb-true n name e)) h
  one_typed name n false v u e h k = k

  -- both give a name an allowed value
  pub both_write : (env env' : Env) (name : ℕ) (v v' : Val) → Agrees f m env env' → AllowsValue v v' →
      IsValueOf (name_type (rewritten f m) name) v' → Agrees f m (with_value env name v) (with_value env' name v')
  both_write env env' name v v' agrees h k = record {
    allows = λ n kept. one_allows (nat_eq n name) v v' (env n) (env' n) h (agrees.allows n kept);
    typed = λ n. one_typed name n (nat_eq n name) v' (env' n) refl k (agrees.typed n);
  }

  other_allows : (name n : ℕ) (t : Bool) (v u u' : Val) → nat_eq n name ≡ t → m.keeps name ≡ false → m.keeps n ≡ true → AllowsValue u u' →
      AllowsValue (if t then v else u) u'
  other_allows name n true v u u' e dropped kept h = absurd (let same = eqb-true n name e in cc)
  other_allows name n false v u u' e dropped kept h = h

  -- only what was read gives a name a value, which is not kept
  pub one_writes : (env env' : Env) (name : ℕ) (v : Val) → Agrees f m env env' → m.keeps name ≡ false → Agrees f m (with_value env name v) env'
  one_writes env env' name v agrees dropped = record {
    allows = λ n kept. other_allows name n (nat_eq n name) v (env n) (env' n) refl dropped kept (agrees.allows n kept);
    typed = agrees.typed;
  }

  pub both_results : (env env' : Env) (result : Option ValueId) (v v' : Val) → Agrees f m env env' → AllowsValue v v' →
      ((name : ValueId) → result ≡ Some name → IsValueOf (name_type (rewritten f m) name.0) v') →
      Agrees f m (with_result env result v) (with_result env' result v')
  both_results env env' None v v' agrees h k = agrees
  both_results env env' (Some name) v v' agrees h k = both_write env env' name.0 v v' agrees h (k name refl)

  pub dropped_result : (env env' : Env) (result : Option ValueId) (v : Val) → Agrees f m env env' → HasNoKeptName m result →
      Agrees f m (with_result env result v) env'
  dropped_result env env' None v agrees h = agrees
  dropped_result env env' (Some name) v agrees h = one_writes env env' name.0 v agrees h
