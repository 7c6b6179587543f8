-- Truth of states along the instructions of a block.
use Rattle.std.proofs.Common.{◌≡◌, ◌<◌, ◌||◌, not, ℕ, Bool, true, false, nat_eq, if◌then◌else◌, Some, None, IsTrue, slice_get, refl, ◌∙◌, ap, arith, eq-eqb, inl, inr}
use Rattle.std.proofs.lemmas.Bool.Decides.{eqb_tells}
use Rattle.vfa_ir.specs.declared.operations.Bin.{Bin}
use Rattle.vfa_ir.specs.declared.operations.Flags.{Flags}
use Rattle.vfa_ir.specs.declared.operations.Op.{Op}
use Rattle.vfa_ir.specs.declared.operations.Operand.{Operand}
use Rattle.vfa_ir.specs.declared.operations.Pred.{Pred}
use Rattle.vfa_ir.specs.declared.operations.Ty.{Ty}
use Rattle.vfa_ir.specs.declared.functions.CallOp.{CallOp}
use Rattle.vfa_ir.specs.declared.functions.Function.{Function}
use Rattle.vfa_ir.specs.Predicates.{by_order}
use Rattle.vfa_word.specs.Operations.{equal, unsigned_less, signed_less}
use Rattle.vfa_mean.specs.declared.value.Done.{Done}
use Rattle.vfa_mean.specs.declared.value.Val.{Val}
use Rattle.vfa_mean.specs.Values.{Env, IsValueOf, operand_value}
use Rattle.vfa_mean.specs.Meaning.{Result, Undefined, Gave, Gives, Allowed, done, unsigned_division, signed_division, assumed}
use Rattle.vfa_mean.specs.Outcomes.{answered, at_width, is_poison, has_noundef, IsAnswer}
use Rattle.vfa_walk.specs.Stepping.{promises, is_division}

-- ---- what a run that goes on tells of operands

-- the value is another number than n
pub record IsOther (n : ℕ) (value : Val) : Type 0 where
  pub number : ℕ
  pub is : value ≡ Val.Number number
  pub other : nat_eq number n ≡ false

some_other : (y n : ℕ) → (nat_eq y n ≡ false) → IsOther n (Val.Number y)
some_other y n apart = record { number = y; is = refl; other = apart }

of_unsigned : (row : ℕ → ℕ → Done) (a b v : Val) → Allowed (unsigned_division row a b) (Gave v) → IsOther 0 b
of_unsigned row (Val.Number x) (Val.Number y) v gives = by (nat_eq y 0) refl gives
  where
    by : (zero_is : Bool) → nat_eq y 0 ≡ zero_is → Allowed (if zero_is then Done.Ub else row x y) (Gave v) → IsOther 0 (Val.Number y)
    by true e gives = absurd cc
    by false e gives = some_other y 0 e
of_unsigned row Val.Poison (Val.Number y) v gives = by (nat_eq y 0) refl gives
  where
    by : (zero_is : Bool) → nat_eq y 0 ≡ zero_is → Allowed (if zero_is then Done.Ub else Done.Is Val.Poison) (Gave v) → IsOther 0 (Val.Number y)
    by true e gives = absurd cc
    by false e gives = some_other y 0 e
of_unsigned row (Val.Pair x o) (Val.Number y) v gives = by (nat_eq y 0) refl gives
  where
    by : (zero_is : Bool) → nat_eq y 0 ≡ zero_is → Allowed (if zero_is then Done.Ub else Done.Is Val.Poison) (Gave v) → IsOther 0 (Val.Number y)
    by true e gives = absurd cc
    by false e gives = some_other y 0 e
of_unsigned row (Val.Number x) Val.Poison v gives = absurd cc
of_unsigned row (Val.Number x) (Val.Pair y o) v gives = absurd cc
of_unsigned row Val.Poison Val.Poison v gives = absurd cc
of_unsigned row Val.Poison (Val.Pair y o) v gives = absurd cc
of_unsigned row (Val.Pair x o) Val.Poison v gives = absurd cc
of_unsigned row (Val.Pair x o) (Val.Pair y q) v gives = absurd cc

of_signed : (w : ℕ) (row : ℕ → ℕ → Done) (a b v : Val) → Allowed (signed_division w row a b) (Gave v) → IsOther 0 b
of_signed w row (Val.Number x) (Val.Number y) v gives = by (nat_eq y 0) _ _ refl gives
  where
    by : (zero_is more : Bool) (d : Done) → nat_eq y 0 ≡ zero_is → Allowed (if zero_is || more then Done.Ub else d) (Gave v) → IsOther 0 (Val.Number y)
    by true more d e gives = absurd cc
    by false more d e gives = some_other y 0 e
of_signed w row Val.Poison (Val.Number y) v gives = by (nat_eq y 0) _ _ refl gives
  where
    by : (zero_is more : Bool) (d : Done) → nat_eq y 0 ≡ zero_is → Allowed (if zero_is || more then Done.Ub else d) (Gave v) → IsOther 0 (Val.Number y)
    by true more d e gives = absurd cc
    by false more d e gives = some_other y 0 e
of_signed w row (Val.Pair x o) (Val.Number y) v gives = by (nat_eq y 0) _ _ refl gives
  where
    by : (zero_is more : Bool) (d : Done) → nat_eq y 0 ≡ zero_is → Allowed (if zero_is || more then Done.Ub else d) (Gave v) → IsOther 0 (Val.Number y)
    by true more d e gives = absurd cc
    by false more d e gives = some_other y 0 e
of_signed w row (Val.Number x) Val.Poison v gives = absurd cc
of_signed w row (Val.Number x) (Val.Pair y o) v gives = absurd cc
of_signed w row Val.Poison Val.Poison v gives = absurd cc
of_signed w row Val.Poison (Val.Pair y o) v gives = absurd cc
of_signed w row (Val.Pair x o) Val.Poison v gives = absurd cc
of_signed w row (Val.Pair x o) (Val.Pair y q) v gives = absurd cc

-- a division gives something only where its divisor is a number other than 0
pub divisor_is_not_zero : (env : Env) (bin : Bin) (flags : Flags) (w : ℕ) (a b : Operand) (v : Val) → is_division bin ≡ true → Gives (Op.Bin bin flags w a b) env (Gave v) → IsOther 0 (operand_value env b)
unfolding done
divisor_is_not_zero env Bin.Udiv flags w a b v division gives = of_unsigned _ (operand_value env a) (operand_value env b) v gives
divisor_is_not_zero env Bin.Urem flags w a b v division gives = of_unsigned _ (operand_value env a) (operand_value env b) v gives
divisor_is_not_zero env Bin.Sdiv flags w a b v division gives = of_signed w _ (operand_value env a) (operand_value env b) v gives
divisor_is_not_zero env Bin.Srem flags w a b v division gives = of_signed w _ (operand_value env a) (operand_value env b) v gives
divisor_is_not_zero env Bin.Add flags w a b v division gives = absurd cc
divisor_is_not_zero env Bin.Sub flags w a b v division gives = absurd cc
divisor_is_not_zero env Bin.Mul flags w a b v division gives = absurd cc
divisor_is_not_zero env Bin.Shl flags w a b v division gives = absurd cc
divisor_is_not_zero env Bin.Lshr flags w a b v division gives = absurd cc
divisor_is_not_zero env Bin.Ashr flags w a b v division gives = absurd cc
divisor_is_not_zero env Bin.And flags w a b v division gives = absurd cc
divisor_is_not_zero env Bin.Or flags w a b v division gives = absurd cc
divisor_is_not_zero env Bin.Xor flags w a b v division gives = absurd cc

pub bit_is_one : (n : ℕ) → n < 2 → nat_eq n 0 ≡ false → n ≡ 1
bit_is_one n below apart = elim (eqb_tells n 0) [
  | inl is ↦ let yes : nat_eq n 0 ≡ true = eq-eqb n 0 is.1 in absurd cc
  | inr other ↦ let not_zero : n ≡ 0 → ⊥ = other.1 in omega (arith, not_zero)
]

of_assumed : (c v : Val) → IsValueOf (Ty.Int 1) c → Allowed (assumed c) (Gave v) → c ≡ Val.Number 1
of_assumed (Val.Number n) v fits gives = by (nat_eq n 0) refl gives
  where
    by : (zero_is : Bool) → nat_eq n 0 ≡ zero_is → Allowed (if zero_is then Done.Ub else Done.Is (Val.Number 1)) (Gave v) → Val.Number n ≡ Val.Number 1
    by true e gives = absurd cc
    by false e gives = ap Val.Number (bit_is_one n fits e)
of_assumed Val.Poison v fits gives = absurd cc
of_assumed (Val.Pair x o) v fits gives = absurd cc

-- an assumption gives something only where its condition is 1
pub assumption_is_one : (env : Env) (c : Operand) (v : Val) → IsValueOf (Ty.Int 1) (operand_value env c) → Gives (Op.Assume c) env (Gave v) → operand_value env c ≡ Val.Number 1
unfolding done
assumption_is_one env c v fits gives = of_assumed (operand_value env c) v fits gives

pub holds_equal : (w x : ℕ) → IsTrue (by_order Pred.Eq equal unsigned_less (signed_less w) x x)
unfolding by_order
holds_equal w x = eq-eqb x x refl

pub holds_apart : (w x y : ℕ) → nat_eq x y ≡ false → IsTrue (by_order Pred.Ne equal unsigned_less (signed_less w) x y)
unfolding by_order
holds_apart w x y apart = ap not apart

-- ---- what a call gives

pub promise_of : (f : Function) (place : ℕ) (call : CallOp) → slice_get f.calls place ≡ Some call → promises f place ≡ has_noundef call.words
promise_of f place call there = ap (λ o. elim o [ None ↦ false | Some c ↦ has_noundef c.words ]) there

cut_poison : (w : ℕ) (answer : Val) → IsAnswer answer → at_width w answer ≡ Val.Poison → is_poison answer ≡ true
cut_poison w (Val.Number x) possible e = absurd cc
cut_poison w Val.Poison possible e = refl
cut_poison w (Val.Pair x o) possible e = absurd possible

pub keeps_promise : (w : ℕ) (promised : Bool) (answer v : Val) → IsAnswer answer → answered (Some w) promised answer ≡ Gave v → v ≡ Val.Poison → promised ≡ false
keeps_promise w false answer v possible gives e = refl
keeps_promise w true answer v possible gives e = by (is_poison answer) refl gives
  where
    value_in : Result → Val
    value_in Undefined = Val.Poison
    value_in (Gave u) = u

    by : (poison : Bool) → is_poison answer ≡ poison → (if poison then Undefined else Gave (at_width w answer)) ≡ Gave v → true ≡ false
    by true is gives = absurd cc
    by false is gives =
        let same : at_width w answer ≡ v = cc in
        let yes : is_poison answer ≡ true = cut_poison w answer possible (same ∙ e) in
        absurd cc
