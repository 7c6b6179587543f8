-- What the calls of a domain answer. States, tables and whatever else is defined for a domain are made of these functions.
use Rattle.std.specs.Prelude.{ℕ, Bool, List, Option}
use Rattle.vfa_ir.specs.declared.operations.Op.{Op}
use Rattle.vfa_ir.specs.declared.operations.Pred.{Pred}
use Rattle.vfa_ir.specs.declared.operations.Ty.{Ty}

-- the answer of each call, as a function of its arguments
pub record Answers (V : Type 0) : Type 0 where
  pub literal : ℕ → ℕ → V
  pub any : Ty → Bool → V
  pub poison : Ty → V
  pub transfer : Op → V → V → V → V
  pub join : V → V → V
  pub includes : V → V → Bool
  pub widen : V → V → ℕ → List ℕ → V
  pub compare : V → Pred → V → Option V
  pub with_bits : V → ℕ → ℕ → Option V
  pub moved_from : V → V → ℕ → Option V
  pub single : V → Option ℕ
  pub rank : V → ℕ
