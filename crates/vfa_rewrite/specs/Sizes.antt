-- How much larger than another a function may be.
use Rattle.std.specs.Prelude.{ℕ, ◌≤◌, ◌*◌, length, All}
use Rattle.vfa_ir.specs.declared.functions.Function.{Function}
use Rattle.vfa_ir.specs.PhisFit.{targets}

-- The second function has at most four values for each one of the first, no more blocks, and no block with more edges than the
-- widest block of the first.
pub record IsLittleLarger (f g : Function) : Type 0 where
  pub values : length g.values ≤ 4 * length f.values
  pub blocks : length g.blocks ≤ length f.blocks
  pub edges : (most : ℕ) → All (λ b. length (targets b.term) ≤ most) f.blocks → All (λ b. length (targets b.term) ≤ most) g.blocks
