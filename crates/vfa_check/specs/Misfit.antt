-- The first block whose phis do not fit the edges of the function.
use Rattle.std.specs.Prelude.{◌<◌, ℕ, length}
use Rattle.vfa_ir.specs.declared.functions.Function.{Function}
use Rattle.vfa_ir.specs.PhisFit.{PhisFitIn}

pub record FirstMisfit (f : Function) (block : ℕ) : Type 0 where
  pub within : block < length f.blocks
  pub before : (b : ℕ) → b < block → PhisFitIn f b
  pub here : PhisFitIn f block → ⊥
