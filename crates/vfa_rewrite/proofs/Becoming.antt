-- What an operand becomes may stand in its place, and is of its type.
use Rattle.std.proofs.Common.{◌≡◌, ℕ, true, false, [], ◌++◌, refl, sym, ap, ◌∙◌, subst, inl, inr}
use Rattle.std.proofs.lemmas.Bool.{cases_Bool}
use Rattle.vfa_ir.specs.declared.operations.Op.{Op}
use Rattle.vfa_ir.specs.declared.operations.Operand.{Operand}
use Rattle.vfa_ir.specs.declared.operations.Ty.{Ty}
use Rattle.vfa_ir.specs.declared.operations.ValueId.{ValueId}
use Rattle.vfa_ir.specs.declared.functions.Function.{Function}
use Rattle.vfa_ir.specs.Defined.{Defined, operand_names, op_names}
use Rattle.vfa_ir.specs.Printable.{IsPrintable, op_type}
use Rattle.vfa_ir.specs.Words.{is_in}
use Rattle.vfa_mean.specs.declared.value.Val.{Val}
use Rattle.vfa_mean.specs.FreshOperands.{IsDefinedAtPlace, IsResultAt}
use Rattle.vfa_mean.specs.Meaning.{operand_a, operand_b}
use Rattle.vfa_mean.specs.Moments.{Place, At, Moment, is_call}
use Rattle.vfa_mean.specs.Values.{Env, AllowsValue, operand_value}
use Rattle.vfa_mean.proofs.FreshOperands.{was_given}
use Rattle.vfa_mean.proofs.FreshOperands.Definitions.{in_left, in_right, in_first}
use Rattle.vfa_mean.proofs.Refining.{AllowsValue-refl, AllowsValue-trans}
use Rattle.vfa_values.specs.Conditions.{IsType}
use Rattle.vfa_cond.specs.Conditions.{name_type}
use Rattle.vfa_walk.proofs.TruthTypes.{line_type}
use Rattle.vfa_rules.specs.declared.change.Change.{Change}
use Rattle.vfa_rewrite.specs.Findings.{Findings, IsTypedOperand, IsDefinedOperand, IsUsable, IsDecisionOf, DecisionHolds, ChangeHolds, AreTrue}
use Rattle.vfa_rewrite.specs.Marks.{IsReplaced, Becomes, number, no_number, replaced, stays}
use Rattle.vfa_rewrite.proofs.LiveOperands.{operand_is_live}
use Rattle.vfa_rewrite.proofs.Ranges.{defines_once, typed_value}

-- ---- the names of the operands a and b are among those that the operation uses

pub names_a : (f : Function) (op : Op) (x : ℕ) → is_in x (operand_names (operand_a op)) ≡ true → is_in x (op_names f op) ≡ true
names_a f (Op.Bin _ _ _ a b) x h = in_left x (operand_names a) (operand_names b) h
names_a f (Op.Icmp _ _ _ a b) x h = in_left x (operand_names a) (operand_names b) h
names_a f (Op.Select _ c a b) x h = in_right x (operand_names c) (operand_names a ++ operand_names b) (in_left x (operand_names a) (operand_names b) h)
names_a f (Op.Cast _ _ _ _ a) x h = h
names_a f (Op.Freeze _ a) x h = h
names_a f (Op.Two _ _ a b) x h = in_left x (operand_names a) (operand_names b) h
names_a f (Op.One _ _ a _) x h = h
names_a f (Op.Over _ _ a b) x h = in_left x (operand_names a) (operand_names b) h
names_a f (Op.Part _ pair _) x h = absurd (cc)
names_a f (Op.Assume c) x h = absurd (cc)
names_a f (Op.Call _ _) x h = absurd (cc)

pub names_b : (f : Function) (op : Op) (x : ℕ) → is_in x (operand_names (operand_b op)) ≡ true → is_in x (op_names f op) ≡ true
names_b f (Op.Bin _ _ _ a b) x h = in_right x (operand_names a) (operand_names b) h
names_b f (Op.Icmp _ _ _ a b) x h = in_right x (operand_names a) (operand_names b) h
names_b f (Op.Select _ c a b) x h = in_right x (operand_names c) (operand_names a ++ operand_names b) (in_right x (operand_names a) (operand_names b) h)
names_b f (Op.Cast _ _ _ _ a) x h = absurd (cc)
names_b f (Op.Freeze _ a) x h = absurd (cc)
names_b f (Op.Two _ _ a b) x h = in_right x (operand_names a) (operand_names b) h
names_b f (Op.One _ _ a _) x h = absurd (cc)
names_b f (Op.Over _ _ a b) x h = in_right x (operand_names a) (operand_names b) h
names_b f (Op.Part _ pair _) x h = absurd (cc)
names_b f (Op.Assume c) x h = absurd (cc)
names_b f (Op.Call _ _) x h = absurd (cc)

module _ (f : Function) (printable : IsPrintable f) (defined : Defined f) (found : Findings) (holds : AreTrue f found) where
  -- ---- a replaced name

  replaced_operation : (n : ℕ) (u : Operand) (r : IsReplaced f found n u) → is_call r.inst.op ≡ false
  replaced_operation n u r = elim (cases_Bool (is_call r.inst.op)) [
    | inr plain ↦ plain
    | inl call ↦ absurd (let kept = holds.call r.b r.block r.i r.inst r.line call in let uses = r.uses in cc)
  ]

  replaced_result : (n : ℕ) (u : Operand) (r : IsReplaced f found n u) → IsResultAt f r.b r.i r.inst r.name
  replaced_result n u r = record { block = r.block; line = r.line; result = r.result; operation = replaced_operation n u r }

  replaced_holds : (n : ℕ) (u : Operand) (r : IsReplaced f found n u) → ChangeHolds f (At r.b r.i) r.inst.op (Change.Uses u)
  replaced_holds n u r =
      subst (λ c. ChangeHolds f (At r.b r.i) r.inst.op c) r.uses (holds.change r.b r.block r.i r.inst r.line r.met (replaced_operation n u r))

  -- it has the type of the operation
  replaced_typed : (ty : Ty) (n : ValueId) (u : Operand) → IsReplaced f found n.0 u → IsTypedOperand f ty (Operand.Value n) → IsTypedOperand f ty u
  replaced_typed ty n u r typed =
      let of_line = line_type f printable r.b r.i r.block r.inst r.name r.line r.result in
      let of_name = (typed_value f ty n typed).typed in
      let same : op_type r.inst.op ≡ ty = sym of_line ∙ ap (name_type f) r.same ∙ of_name in
      subst (λ t. IsTypedOperand f t u) same (replaced_holds n.0 u r).fits.1

  used_operand : (n : ℕ) (u : Operand) (r : IsReplaced f found n u) (x : ℕ) → is_in x (operand_names u) ≡ true → is_in x (op_names f r.inst.op) ≡ true
  used_operand n u r x t = elim (replaced_holds n u r).fits.0 [
    | inl e ↦ names_a f r.inst.op x (subst (λ a. is_in x (operand_names a) ≡ true) e t)
    | inr e ↦ names_b f r.inst.op x (subst (λ a. is_in x (operand_names a) ≡ true) e t)
  ]

  replaced_defined : (place : Place) (n : ℕ) (u : Operand) → IsReplaced f found n u → IsDefinedAtPlace f place n → IsDefinedOperand f place u
  replaced_defined place n (Operand.Value x) r live =
      operand_is_live f (defines_once f printable) defined r.b r.i r.block r.inst r.name r.line r.result x.0
      (used_operand n (Operand.Value x) r x.0 (in_first x.0 x.0 [] refl)) place
      (subst (λ k. IsDefinedAtPlace f place k) (sym r.same) live)
  replaced_defined place n (Operand.Literal x) r live = tt
  replaced_defined place n Operand.Poison r live = tt

  replaced_usable : (place : Place) (ty : Ty) (n : ValueId) (u : Operand) → IsReplaced f found n.0 u → IsUsable f place ty (Operand.Value n) → IsUsable f place ty u
  replaced_usable place ty n u r usable =
      record { is_type = usable.is_type; typed = replaced_typed ty n u r usable.typed; defined = replaced_defined place n.0 u r usable.defined }

  -- the operand has the value that it had when the name got its own
  replaced_allows : (place : Place) (n : ℕ) (u : Operand) → IsReplaced f found n u → IsDefinedAtPlace f place n → (env : Env) → Moment f place env →
      AllowsValue (env n) (operand_value env u)
  replaced_allows place n u r live env moment =
      let given = was_given f (defines_once f printable) defined r.b r.i r.inst r.name place env (replaced_result n u r)
      (subst (λ k. IsDefinedAtPlace f place k) (sym r.same) live) moment in
      let change = replaced_holds n u r in
      let before : AllowsValue (env r.name.0) (operand_value given.before u) = change.replaced given.before given.moment (env r.name.0) given.gave in
      let same : operand_value given.before u ≡ operand_value env u = elim change.fits.0 [
        | inl e ↦ ap (operand_value given.before) e ∙ given.operands.a ∙ ap (operand_value env) (sym e)
        | inr e ↦ ap (operand_value given.before) e ∙ given.operands.b ∙ ap (operand_value env) (sym e)
      ] in
      subst (λ k. AllowsValue (env k) (operand_value env u)) r.same (subst (λ v. AllowsValue (env r.name.0) v) same before)

  -- ---- what an operand becomes

  pub becomes_typed : (place : Place) (ty : Ty) (a a' : Operand) → Becomes f found place ty a a' → IsType ty → IsTypedOperand f ty a → IsTypedOperand f ty a'
  becomes_typed place ty a a' (number b x e) is typed = subst (λ d. IsDecisionOf ty d) e (holds.of_type place ty b is typed)
  becomes_typed place ty a a' (no_number b e) is typed = tt
  becomes_typed place ty a a' (replaced n u c e r rest) is typed = becomes_typed place ty u c rest is (replaced_typed ty n u r typed)
  becomes_typed place ty a a' (stays b e apart) is typed = typed

  pub becomes_allows : (place : Place) (ty : Ty) (a a' : Operand) → Becomes f found place ty a a' → IsUsable f place ty a → (env : Env) → Moment f place env →
      AllowsValue (operand_value env a) (operand_value env a')
  becomes_allows place ty a a' (number b x e) usable env moment =
      subst (λ d. DecisionHolds d (operand_value env b)) e (holds.decision place ty b env usable.is_type usable.typed moment)
  becomes_allows place ty a a' (no_number b e) usable env moment =
      let none = subst (λ d. DecisionHolds d (operand_value env b)) e (holds.decision place ty b env usable.is_type usable.typed moment) in
      subst (λ v. AllowsValue v Val.Poison) (sym none) tt
  becomes_allows place ty a a' (replaced n u c e r rest) usable env moment =
      AllowsValue-trans (env n.0) (operand_value env u) (operand_value env c) (replaced_allows place n.0 u r usable.defined env moment)
      (becomes_allows place ty u c rest (replaced_usable place ty n u r usable) env moment)
  becomes_allows place ty a a' (stays b e apart) usable env moment = AllowsValue-refl (operand_value env b)
