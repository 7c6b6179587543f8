-- How large the functions are whose blocks and cases are numbered here.
use Rattle.std.specs.Prelude.{◌≤◌, ◌^◌, ◌+◌, length, All}
use Rattle.vfa_ir.specs.declared.functions.Function.{Function}
use Rattle.vfa_ir.specs.PhisFit.{targets}

pub record HasFewBlocks (f : Function) : Type 0 where
  pub blocks : length f.blocks ≤ 2 ^ 28
  pub cases : All (λ b. length (targets b.term) ≤ 2 ^ 28 + 1) f.blocks
