-- An operand becomes one thing.
use Rattle.std.proofs.Common.{◌≡◌, ℕ, refl, sym, ap, ◌∙◌, subst}
use Rattle.vfa_ir.specs.declared.operations.Operand.{Operand}
use Rattle.vfa_ir.specs.declared.operations.Ty.{Ty}
use Rattle.vfa_ir.specs.declared.functions.Function.{Function}
use Rattle.vfa_mean.specs.FreshOperands.{DefinesOnce}
use Rattle.vfa_mean.specs.Moments.{Place}
use Rattle.vfa_rules.specs.declared.change.Change.{Change}
use Rattle.vfa_rewrite.specs.Findings.{Decision, OneNumber, NoNumber, Undecided, Findings}
use Rattle.vfa_rewrite.specs.Marks.{IsReplaced, Becomes, number, no_number, replaced, stays}
use Rattle.vfa_rewrite.proofs.FreshNames.{same_line}

abbrev number_in : Decision → ℕ
number_in (OneNumber x) = x
number_in NoNumber = 0
number_in Undecided = 0

abbrev used_in : Change → Operand
used_in (Change.Uses u) = u
used_in (Change.Keep op) = Operand.Poison
used_in (Change.Narrow op v) = Operand.Poison
used_in Change.Gone = Operand.Poison

module _ (f : Function) (once : DefinesOnce f) (found : Findings) where
  -- a name is the result of one instruction
  pub replaced_one : (n : ℕ) (u u' : Operand) → IsReplaced f found n u → IsReplaced f found n u' → u ≡ u'
  replaced_one n u u' r s =
      let line = same_line f once r.b s.b r.block s.block r.i s.i r.inst s.inst r.name s.name r.line s.line r.result s.result (r.same ∙ sym s.same) in
      let change : found.change r.b r.i r.inst ≡ found.change s.b s.i s.inst = λ j. found.change (line.same_block j) (line.same_place j) (line.same_inst j) in
      ap used_in (sym r.uses ∙ change ∙ s.uses)

  pub becomes_one : (place : Place) (ty : Ty) (a x y : Operand) → Becomes f found place ty a x → Becomes f found place ty a y → x ≡ y
  becomes_one place ty a x y (number b n e) (number c k g) = ap (λ d. Operand.Literal (number_in d)) (sym e ∙ g)
  becomes_one place ty a x y (number b n e) (no_number c g) = absurd (let h : OneNumber n ≡ NoNumber = sym e ∙ g in cc)
  becomes_one place ty a x y (number b n e) (replaced m u c g r rest) = absurd (let h : OneNumber n ≡ Undecided = sym e ∙ g in cc)
  becomes_one place ty a x y (number b n e) (stays m g apart) = absurd (let h : OneNumber n ≡ Undecided = sym e ∙ g in cc)
  becomes_one place ty a x y (no_number b e) (number c k g) = absurd (let h : NoNumber ≡ OneNumber k = sym e ∙ g in cc)
  becomes_one place ty a x y (no_number b e) (no_number c g) = refl
  becomes_one place ty a x y (no_number b e) (replaced m u c g r rest) = absurd (let h : NoNumber ≡ Undecided = sym e ∙ g in cc)
  becomes_one place ty a x y (no_number b e) (stays m g apart) = absurd (let h : NoNumber ≡ Undecided = sym e ∙ g in cc)
  becomes_one place ty a x y (replaced m u c e r rest) (number b k g) = absurd (let h : Undecided ≡ OneNumber k = sym e ∙ g in cc)
  becomes_one place ty a x y (replaced m u c e r rest) (no_number b g) = absurd (let h : Undecided ≡ NoNumber = sym e ∙ g in cc)
  becomes_one place ty a x y (replaced m u c e r rest) (replaced n v d g s more) =
      becomes_one place ty u c d rest (subst (λ o. Becomes f found place ty o d) (sym (replaced_one m.0 u v r s)) more)
  becomes_one place ty a x y (replaced m u c e r rest) (stays n g apart) = absurd (apart u r)
  becomes_one place ty a x y (stays n e apart) (number b k g) = absurd (let h : Undecided ≡ OneNumber k = sym e ∙ g in cc)
  becomes_one place ty a x y (stays n e apart) (no_number b g) = absurd (let h : Undecided ≡ NoNumber = sym e ∙ g in cc)
  becomes_one place ty a x y (stays n e apart) (replaced m u c g r rest) = absurd (apart u r)
  becomes_one place ty a x y (stays n e apart) (stays m g other) = refl
