-- What a fact says of the operands of a typed equation is of their types.
use Rattle.std.proofs.Common.{◌≡◌, ◌<◌, ◌^◌, ℕ, Bool, true, false, ◌&&◌, nat_eq, if◌then◌else◌, Option, Some, None, bit_and, IsSomeAnd, slice_get, refl, sym, subst, eqb-true, arith, lit<, lit≤, ◌≤◌, pow_mono}
use Rattle.std.specs.Option.{ForSome, option_map_or}
use Rattle.vfa_ir.specs.declared.operations.Bin.{Bin}
use Rattle.vfa_ir.specs.declared.operations.Cast.{Cast}
use Rattle.vfa_ir.specs.declared.operations.Op.{Op}
use Rattle.vfa_ir.specs.declared.operations.Operand.{Operand}
use Rattle.vfa_ir.specs.declared.operations.Ty.{Ty}
use Rattle.vfa_ir.specs.declared.operations.ValueId.{ValueId}
use Rattle.vfa_ir.specs.declared.functions.Function.{Function}
use Rattle.vfa_ir.specs.declared.functions.Value.{Value}
use Rattle.vfa_ir.specs.Grammar.{IsWidth as IsWrittenWidth}
use Rattle.vfa_ir.specs.Printable.{AreOperands}
use Rattle.vfa_ir.specs.Typed.{HasType, AreOfWidth}
use Rattle.vfa_word.specs.Numbers.{IsWidth}
use Rattle.vfa_mean.specs.Outcomes.{type_of}
use Rattle.vfa_values.specs.Answers.{Answers}
use Rattle.vfa_values.specs.Conditions.{IsOf}
use Rattle.vfa_values.specs.Laws.{AreTyped}
use Rattle.vfa_cond.specs.declared.consequence.BesideLiteral.{BesideLiteral}
use Rattle.vfa_cond.specs.declared.consequence.Consequence.{Consequence}
use Rattle.vfa_cond.specs.Conditions.{name_type, IsTypedEquation, IsNumberOperand, FitsConsequence, AreFacts}
use Rattle.vfa_cond.specs.Consequences.{beside_literal, is_literal, equal_bit, from_sum, and_by, from_not, from_number, of_binary, of_conversion, of_select, consequence_of}
use Rattle.vfa_cond.specs.Narrowing.{operand_fact}
use Rattle.vfa_cond.specs.States.{AbstractState}
use Rattle.vfa_cond.specs.Wants.{IsWantFor}

pub some_of : {A : Type 0} (P : A → Type 0) (x : A) → P x → ForSome (Some x) P
some_of P x p d e = let same : x ≡ d = cc in subst P same p

pub none_of : {A : Type 0} (P : A → Type 0) → ForSome None P
none_of P d e = cc

pub when : {A : Type 0} (P : A → Type 0) (b : Bool) (x y : A) → (b ≡ true → P x) → P y → P (if b then x else y)
when P true x y p q = p refl
when P false x y p q = q

pub and_first : (a b : Bool) → (a && b) ≡ true → a ≡ true
and_first true b h = refl
and_first false b h = h

pub and_second : (a b : Bool) → (a && b) ≡ true → b ≡ true
and_second true b h = h
and_second false b h = absurd cc

written_width : (w : ℕ) → IsWrittenWidth w → IsWidth w
written_width w h = record { least = h.least; most = h.most }

pub bit_width : IsWidth 1
bit_width = record { least = omega arith; most = lit≤ tt }

abbrev AreNumberOperands : Function → ℕ → Operand → Operand → Type 0
AreNumberOperands f w a b = IsNumberOperand f w a × IsNumberOperand f w b

two_operands : (f : Function) (w : ℕ) (a b : Operand) → AreOperands f w a b → AreOfWidth f w a b → AreNumberOperands f w a b
two_operands f w a b ranges typed = (
  record { width = written_width w ranges.of_width; range = ranges.first; typed = typed.first },
  record { width = written_width w ranges.of_width; range = ranges.second; typed = typed.second },
)

type_in : (values : Option Value) (t : Ty) → IsSomeAnd values (λ x. x.ty ≡ t) → option_map_or (λ (x : Value). x.ty) values (Ty.Int 1) ≡ t
type_in None t has = absurd has
type_in (Some x) t has = has

-- a name that has the type is of this type
pub has_type : (f : Function) (v : ValueId) (t : Ty) → HasType f t v → type_of f v ≡ t
has_type f v t has = type_in (slice_get f.values v.0) t has

-- a name that is an operand of a width is of its type
pub typed_name : (f : Function) (w : ℕ) (x : Operand) (v : ValueId) → Operand.Value v ≡ x → IsNumberOperand f w x → HasType f (Ty.Int w) v
typed_name f w x v is of = (subst (IsNumberOperand f w) (sym is) of).typed

-- an operand beside a literal, and the literal, fit
pub record FitsBeside (f : Function) (w : ℕ) (l : BesideLiteral) : Type 0 where
  pub other : IsNumberOperand f w l.other
  pub literal : l.literal < 2 ^ w

beside_fits : (f : Function) (w : ℕ) (a b : Operand) → IsNumberOperand f w a → IsNumberOperand f w b → ForSome (beside_literal a b) (FitsBeside f w)
beside_fits f w a (Operand.Literal c) of of' = some_of (FitsBeside f w) _ (record { other = of; literal = of'.range })
beside_fits f w (Operand.Literal c) (Operand.Value v) of of' = some_of (FitsBeside f w) _ (record { other = of'; literal = of.range })
beside_fits f w (Operand.Literal c) Operand.Poison of of' = some_of (FitsBeside f w) _ (record { other = of'; literal = of.range })
beside_fits f w (Operand.Value u) (Operand.Value v) of of' = none_of (FitsBeside f w)
beside_fits f w (Operand.Value u) Operand.Poison of of' = none_of (FitsBeside f w)
beside_fits f w Operand.Poison (Operand.Value v) of of' = none_of (FitsBeside f w)
beside_fits f w Operand.Poison Operand.Poison of of' = none_of (FitsBeside f w)

module _ {V : Type 0} (ty : V → Ty) (proper : V → Type 0) (answers : Answers V) (laws : AreTyped (IsOf ty proper) answers) (f : Function) where
  abbrev Fits : Consequence V → Type 0
  Fits = FitsConsequence ty proper f

  pub bit_fits : (bit : ℕ) → bit < 2 → IsWantFor ty proper (Ty.Int 1) (equal_bit answers bit)
  bit_fits bit below = laws.literal 1 bit bit_width below

  both_fit : (w : ℕ) (a b : Operand) (bit : ℕ) → bit < 2 → w ≡ 1 → AreNumberOperands f w a b → Fits (Consequence.Both a b (equal_bit answers bit))
  both_fit w a b bit below one of = let P : ℕ → Type 0 = λ k. AreNumberOperands f k a b in let of' = subst P one of in (of'.0, of'.1, bit_fits bit below)

  sum_fits : (w : ℕ) (d : V) (l : Option BesideLiteral) → IsOf ty proper (Ty.Int w) d → ForSome l (FitsBeside f w) → Fits (from_sum w d l)
  sum_fits w d None of fits = tt
  sum_fits w d (Some l) of fits = let at = fits l refl in (at.other, (of, at.literal))

  and_fits : (w v : ℕ) (a b : Operand) (l : Option BesideLiteral) → v < 2 ^ w → AreNumberOperands f w a b → ForSome l (FitsBeside f w) → Fits (and_by answers w a b v l)
  and_fits w v a b None below of fits =
      when Fits (nat_eq w 1 && nat_eq v 1) _ _ (λ h. both_fit w a b 1 (lit< tt) (eqb-true w 1 (and_first (nat_eq w 1) (nat_eq v 1) h)) of) tt
  and_fits w v a b (Some l) below of fits =
      let at = fits l refl in when Fits (nat_eq (bit_and v l.literal) v) _ _ (λ h. (at.other, (at.literal, below))) tt

  xor_fits : (w v : ℕ) (l : Option BesideLiteral) → ForSome l (FitsBeside f w) → Fits (from_not answers w v l)
  xor_fits w v None fits = tt
  xor_fits w v (Some l) fits =
      when Fits (nat_eq w 1 && nat_eq l.literal 1) _ _
      (λ h. let one : w ≡ 1 = eqb-true w 1 (and_first (nat_eq w 1) (nat_eq l.literal 1) h) in
      let opposite : (if nat_eq v 0 then 1 else 0) < 2 = when (λ k. k < 2) (nat_eq v 0) 1 0 (λ _. lit< tt) (lit< tt) in
      ((fits l refl).other, subst (λ k. IsOf ty proper (Ty.Int k) (answers.literal 1 (if nat_eq v 0 then 1 else 0))) (sym one) (bit_fits _ opposite)))
      tt

  number_fits : (w : ℕ) (row : ℕ → Consequence V) (d : V) → IsOf ty proper (Ty.Int w) d → ((v : ℕ) → v < 2 ^ w → Fits (row v)) → Fits (from_number row (answers.single d))
  number_fits w row d of fits = at (answers.single d) (laws.single w d of)
    where
      at : (x : Option ℕ) → ForSome x (λ v. v < 2 ^ w) → Fits (from_number row x)
      at None below = tt
      at (Some v) below = fits v (below v refl)

  binary_fits : (bin : Bin) (w : ℕ) (a b : Operand) (d : V) → AreNumberOperands f w a b → IsOf ty proper (Ty.Int w) d → Fits (of_binary answers bin w a b d)
  binary_fits Bin.Add w a b d of is = sum_fits w d (beside_literal a b) is (beside_fits f w a b of.0 of.1)
  binary_fits Bin.And w a b d of is = number_fits w _ d is (λ v below. and_fits w v a b (beside_literal a b) below of (beside_fits f w a b of.0 of.1))
  binary_fits Bin.Or w a b d of is = number_fits w _ d is (λ v below.
      when Fits (nat_eq w 1 && nat_eq v 0) _ _ (λ h. both_fit w a b 0 (lit< tt) (eqb-true w 1 (and_first (nat_eq w 1) (nat_eq v 0) h)) of) tt)
  binary_fits Bin.Xor w a b d of is = number_fits w _ d is (λ v below. xor_fits w v (beside_literal a b) (beside_fits f w a b of.0 of.1))
  binary_fits Bin.Sub w a b d of is = tt
  binary_fits Bin.Mul w a b d of is = tt
  binary_fits Bin.Shl w a b d of is = tt
  binary_fits Bin.Udiv w a b d of is = tt
  binary_fits Bin.Sdiv w a b d of is = tt
  binary_fits Bin.Lshr w a b d of is = tt
  binary_fits Bin.Ashr w a b d of is = tt
  binary_fits Bin.Urem w a b d of is = tt
  binary_fits Bin.Srem w a b d of is = tt

  conversion_fits : (cast : Cast) (from to v : ℕ) (a : Operand) → 1 ≤ from → IsNumberOperand f from a → v < 2 ^ to → Fits (of_conversion cast from to a v)
  conversion_fits Cast.Zext from to v a least of below = tt
  conversion_fits Cast.Sext from to v a least of below = tt
  conversion_fits Cast.Trunc from to v a least of below =
      when Fits (nat_eq to 1) _ _
      (λ h. let one : to ≡ 1 = eqb-true to 1 h in
      let two : 2 ^ 1 ≤ 2 ^ from = pow_mono least in
      let small : v < 2 = subst (λ k. v < 2 ^ k) one below in
      (of, (omega arith, omega arith)))
      tt

  select_fits : (w v : ℕ) (c a b : Operand) → IsNumberOperand f 1 c → AreNumberOperands f w a b → Fits (of_select answers w c a b v)
  select_fits w v c a b of-c of =
      when Fits (nat_eq w 1) _ _
      (λ h. let one : w ≡ 1 = eqb-true w 1 h in
      let P : ℕ → Type 0 = λ k. AreNumberOperands f k a b in
      let of' = subst P one of in
      when Fits (nat_eq v 1 && is_literal 0 b) _ _ (λ _. (of-c, of'.0, bit_fits 1 (lit< tt)))
      (when Fits (nat_eq v 0 && is_literal 1 a) _ _ (λ _. (of-c, of'.1, bit_fits 0 (lit< tt))) tt))
      tt

  pub consequence_fits : (v : ℕ) (op : Op) (d : V) → IsTypedEquation f v op → IsOf ty proper (name_type f v) d → Fits (consequence_of answers op d)
  consequence_fits v (Op.Bin bin flags w a b) d eq of =
      binary_fits bin w a b d (two_operands f w a b eq.ranges.1 eq.operands) (subst (λ t. IsOf ty proper t d) eq.result of)
  consequence_fits v (Op.Icmp pred samesign w a b) d eq of =
      number_fits 1 _ d (subst (λ t. IsOf ty proper t d) eq.result of) (λ x below. two_operands f w a b eq.ranges eq.operands)
  consequence_fits v (Op.Select w c a b) d eq of =
      number_fits w _ d (subst (λ t. IsOf ty proper t d) eq.result of)
      (λ x below. select_fits w x c a b (record { width = bit_width; range = eq.ranges.0; typed = eq.operands.0 }) (two_operands f w a b eq.ranges.1 eq.operands.1))
  consequence_fits v (Op.Cast cast flags from to a) d eq of =
      number_fits to _ d (subst (λ t. IsOf ty proper t d) eq.result of)
      (λ x below. conversion_fits cast from to x a eq.ranges.1.least (record { width = written_width from eq.ranges.1; range = eq.ranges.2; typed = eq.operands.0 }) below)
  consequence_fits v (Op.Freeze w a) d eq of = tt
  consequence_fits v (Op.Two fun w a b) d eq of = tt
  consequence_fits v (Op.One fun w a strict) d eq of = tt
  consequence_fits v (Op.Over over w a b) d eq of = tt
  consequence_fits v (Op.Part w pair index) d eq of = tt
  consequence_fits v (Op.Assume c) d eq of = tt
  consequence_fits v (Op.Call width call) d eq of = tt

  -- the fact of an operand is of its type
  pub operand_typed : (w : ℕ) (s : AbstractState V) (x : Operand) → AreFacts ty proper f s → IsNumberOperand f w x
      → ForSome (operand_fact answers w s x) (IsOf ty proper (Ty.Int w))
  operand_typed w s (Operand.Value v) facts of = λ d e. subst (λ t. IsOf ty proper t d) (has_type f v (Ty.Int w) of.typed) (facts v.0 d e)
  operand_typed w s (Operand.Literal bits) facts of = some_of (IsOf ty proper (Ty.Int w)) (answers.literal w bits) (laws.literal w bits of.width of.range)
  operand_typed w s Operand.Poison facts of = some_of (IsOf ty proper (Ty.Int w)) (answers.poison (Ty.Int w)) (laws.poison (Ty.Int w) of.width)
