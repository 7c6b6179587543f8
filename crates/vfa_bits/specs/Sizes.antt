-- Functions that are no larger than others.
use Rattle.std.specs.Prelude.{◌≡◌, ◌≤◌, ℕ, length}
use Rattle.vfa_ir.specs.declared.functions.Function.{Function}
use Rattle.vfa_ir.specs.Walks.{successors}

-- it has no more values, as many blocks, and as many edges from each
pub record IsNoLarger (f g : Function) : Type 0 where
  pub values : length g.values ≤ length f.values
  pub blocks : length g.blocks ≡ length f.blocks
  pub edges : (b : ℕ) → length (successors g b) ≡ length (successors f b)
