-- What writing a name does to related environments.
use Rattle.std.proofs.Common.{◌≡◌, ℕ, Bool, true, false, Option, Some, None, List, [], ◌∷◌, map, refl, sym, subst}
use Rattle.std.specs.Prelude.{nat_eq, if◌then◌else◌}
use Rattle.std.proofs.lemmas.Bool.{eqb-true}
use Rattle.vfa_ir.specs.declared.operations.Ty.{Ty}
use Rattle.vfa_ir.specs.declared.operations.ValueId.{ValueId}
use Rattle.vfa_ir.specs.declared.functions.Function.{Function}
use Rattle.vfa_ir.specs.declared.functions.Param.{Param}
use Rattle.vfa_mean.specs.declared.value.Val.{Val}
use Rattle.vfa_mean.specs.Values.{Env, IsValueOf}
use Rattle.vfa_mean.specs.Outcomes.{with_value, with_result, start_of, type_of, AreArguments}
use Rattle.vfa_bits.specs.Changed.{name_type}
use Rattle.vfa_bits.proofs.Related.{Tied, Fits}

pub record AreTied (masks : ℕ → ℕ) (changed used : ℕ → Bool) (env env' : Env) : Type 0 where
  pub tied : (v : ℕ) → nat_eq (masks v) 0 ≡ false → used v ≡ true → Tied (masks v) (changed v) (env v) (env' v)

pub fits_with : (f : Function) (env : Env) (name : ℕ) (v : Val) → Fits f env → IsValueOf (name_type f name) v → Fits f (with_value env name v)
fits_with f env name v fits typed = record { value = λ u. by u (nat_eq u name) refl }
  where
    by : (u : ℕ) (t : Bool) → nat_eq u name ≡ t → IsValueOf (name_type f u) (if t then v else env u)
    by u true e = subst (λ n. IsValueOf (name_type f n) v) (sym (eqb-true u name e)) typed
    by u false e = fits.value u

pub fits_result : (f : Function) (env : Env) (result : Option ValueId) (v : Val) → Fits f env → ((r : ValueId) → result ≡ Some r → IsValueOf (name_type f r.0) v) →
    Fits f (with_result env result v)
fits_result f env None v fits typed = fits
fits_result f env (Some r) v fits typed = fits_with f env r.0 v fits (typed r refl)

module _ (masks : ℕ → ℕ) (changed used : ℕ → Bool) where
  pub tied_with : (env env' : Env) (name : ℕ) (v v' : Val) → AreTied masks changed used env env' →
      (nat_eq (masks name) 0 ≡ false → used name ≡ true → Tied (masks name) (changed name) v v') →
      AreTied masks changed used (with_value env name v) (with_value env' name v')
  tied_with env env' name v v' all here = record { tied = λ u some is_used. by u some is_used (nat_eq u name) refl }
    where
      by : (u : ℕ) → nat_eq (masks u) 0 ≡ false → used u ≡ true → (t : Bool) → nat_eq u name ≡ t →
          Tied (masks u) (changed u) (if t then v else env u) (if t then v' else env' u)
      by u some is_used true e =
          let same = eqb-true u name e in
          subst (λ n. Tied (masks n) (changed n) v v') (sym same)
          (here (subst (λ n. nat_eq (masks n) 0 ≡ false) same some) (subst (λ n. used n ≡ true) same is_used))
      by u some is_used false e = all.tied u some is_used

  -- the second function does not write a name that is not used
  pub tied_without : (env env' : Env) (name : ℕ) (v : Val) → AreTied masks changed used env env' → used name ≡ false → AreTied masks changed used (with_value env name v) env'
  tied_without env env' name v all unused = record { tied = λ u some is_used. by u some is_used (nat_eq u name) refl }
    where
      by : (u : ℕ) → nat_eq (masks u) 0 ≡ false → used u ≡ true → (t : Bool) → nat_eq u name ≡ t → Tied (masks u) (changed u) (if t then v else env u) (env' u)
      by u some is_used true e = absurd (let k = subst (λ n. used n ≡ true) (eqb-true u name e) is_used in cc)
      by u some is_used false e = all.tied u some is_used

  pub tied_result : (env env' : Env) (result : Option ValueId) (v v' : Val) → AreTied masks changed used env env' →
      ((r : ValueId) → result ≡ Some r → nat_eq (masks r.0) 0 ≡ false → used r.0 ≡ true → Tied (masks r.0) (changed r.0) v v') →
      AreTied masks changed used (with_result env result v) (with_result env' result v')
  tied_result env env' None v v' all here = all
  tied_result env env' (Some r) v v' all here = tied_with env env' r.0 v v' all (here r refl)

  pub tied_dropped : (env env' : Env) (result : Option ValueId) (v : Val) → AreTied masks changed used env env' →
      ((r : ValueId) → result ≡ Some r → used r.0 ≡ false) → AreTied masks changed used (with_result env result v) env'
  tied_dropped env env' None v all unused = all
  tied_dropped env env' (Some r) v all unused = tied_without env env' r.0 v all (unused r refl)

-- arguments are of the types of the parameters
pub start_fits : (f : Function) (params : List Param) (args : List Val) → AreArguments (map (λ (p : Param). type_of f p.value) params) args → Fits f (start_of params args)
start_fits f [] args fit = record { value = λ v. poison (name_type f v) }
  where
    poison : (ty : Ty) → IsValueOf ty Val.Poison
    poison (Ty.Int w) = tt
    poison (Ty.Pair w) = tt
start_fits f (p ∷ params) [] fit = absurd fit
start_fits f (p ∷ params) (v ∷ args) fit = fits_with f (start_of params args) p.value.0 v (start_fits f params args fit.1) fit.0
