-- When a state is true of the values that names have.
use Rattle.std.specs.Prelude.{◌≡◌, ℕ, true, IsTrue}
use Rattle.std.specs.Option.{ForSome}
use Rattle.vfa_ir.specs.declared.operations.Pred.{Pred}
use Rattle.vfa_ir.specs.declared.functions.Function.{Function}
use Rattle.vfa_ir.specs.Predicates.{by_order}
use Rattle.vfa_word.specs.Operations.{equal, unsigned_less, signed_less}
use Rattle.vfa_mean.specs.declared.value.Val.{Val}
use Rattle.vfa_mean.specs.Values.{Env}
use Rattle.vfa_mean.specs.Meaning.{Gave, Gives}
use Rattle.vfa_cond.specs.declared.want.Want.{Want}
use Rattle.vfa_cond.specs.Equations.{equation}
use Rattle.vfa_cond.specs.States.{AbstractState}
use Rattle.vfa_cond.specs.Wants.{IsWanted}

-- each fact holds of its name's value, and each live name has a value that its operation gives of its operands' present values
pub record IsTrueState {V : Type 0} (holds : V → Val → Type 0) (f : Function) (s : AbstractState V) (env : Env) : Type 0 where
  pub facts : (v : ℕ) → ForSome (s.fact v) (λ d. holds d (env v))
  pub equations : (v : ℕ) → s.live v ≡ true → ForSome (equation f v) (λ op. Gives op env (Gave (env v)))

-- the value is a wanted number of the width
pub record IsWantedValue {V : Type 0} (holds : V → Val → Type 0) (w : ℕ) (want : Want V) (value : Val) : Type 0 where
  pub number : ℕ
  pub is : value ≡ Val.Number number
  pub wanted : IsWanted holds w want number

-- the operands are numbers of the width of which the predicate holds
pub record HoldsBetween (pred : Pred) (w : ℕ) (a b : Val) : Type 0 where
  pub first : ℕ
  pub second : ℕ
  pub first_is : a ≡ Val.Number first
  pub second_is : b ≡ Val.Number second
  pub holds : IsTrue (by_order pred equal unsigned_less (signed_less w) first second)
