-- What the order gives: its laws in terms of walks and edges.
use Rattle.std.specs.Prelude.{◌≡◌, ◌<◌, ◌↔◌, ℕ, false, IsTrue, nat_eq, List, length, Some, slice_get}
use Rattle.std.specs.List.{IsDistinct}
use Rattle.vfa_ir.specs.declared.operations.BlockId.{BlockId}
use Rattle.vfa_ir.specs.declared.functions.Function.{Function}
use Rattle.vfa_ir.specs.Walks.{is_in, IsEdge, IsReached}
use Rattle.vfa_cfg.specs.Heads.{heads_of}
use Rattle.vfa_cfg.specs.Order.{numbers}

pub record IsOrdered (f : Function) (order : List BlockId) : Type 0 where
  -- the order has exactly the blocks of the function to which some walk comes
  pub reached : (b : ℕ) → IsTrue (is_in b (numbers order)) ↔ ((b < length f.blocks) × IsReached f b)
  -- no block stands in it twice
  pub distinct : IsDistinct nat_eq (numbers order)
  -- the first block of the function stands first
  pub first : 0 < length f.blocks → slice_get (numbers order) 0 ≡ Some 0
  -- an edge to a block that is no head comes from an earlier place
  pub forward : (i j from to : ℕ) → slice_get (numbers order) i ≡ Some from → slice_get (numbers order) j ≡ Some to →
      slice_get (heads_of f order) j ≡ Some false → IsEdge f from to → i < j
