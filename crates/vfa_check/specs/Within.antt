-- What each function that some text reads as keeps: it has an entry, its edges lead to its blocks, and its parameters and
-- results are among its values.
use Rattle.std.specs.Prelude.{◌<◌, ℕ, length, All}
use Rattle.vfa_ir.specs.declared.functions.Function.{Function}
use Rattle.vfa_ir.specs.Printable.{ids_of}
use Rattle.vfa_ir.specs.Walks.{IsEdge}

pub record IsWithin (f : Function) : Type 0 where
  pub entry : 0 < length f.blocks
  pub edges : (from to : ℕ) → IsEdge f from to → to < length f.blocks
  pub names : All (λ v. v < length f.values) (ids_of f)
