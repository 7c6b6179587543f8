-- When two marks leave the same of a function.
use Rattle.std.specs.Prelude.{ℕ, ◌≡◌}
use Rattle.vfa_ir.specs.declared.functions.Function.{Function}
use Rattle.vfa_rewrite.specs.Rewritten.{Marks, rewritten}

-- the same blocks are left, and the same function
pub record LeaveTheSame (f : Function) (m m' : Marks) : Type 0 where
  pub reached : (b : ℕ) → m.reached b ≡ m'.reached b
  pub function : rewritten f m ≡ rewritten f m'
