-- helper: in no public contract
-- A function that is written anew with all its lines.
use Rattle.std.specs.Prelude.{◌≡◌, ℕ}
use Rattle.vfa_ir.specs.declared.functions.Function.{Function}
use Rattle.vfa_bits.specs.Changed.{AreChanged}
use Rattle.vfa_bits.specs.Narrowed.{AreReached, Choices, rewritten}

pub record IsRewritten (f : Function) (masks : ℕ → ℕ) (g : Function) : Type 0 where
  pub by : Choices
  pub are_reached : AreReached f by.reached
  pub are_changed : AreChanged f masks by.changed
  pub is : g ≡ rewritten f masks by
