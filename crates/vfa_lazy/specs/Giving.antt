-- helper: in no public contract
-- The results of the instructions of a block, phis aside.
use Rattle.std.specs.Prelude.{ℕ, Bool, false, Some, None, nat_eq, slice_get}
use Rattle.std.specs.List.{list_any}
use Rattle.vfa_ir.specs.declared.functions.Function.{Function}
use Rattle.vfa_ir.specs.declared.functions.Inst.{Inst}

abbrev pub gives_name : ℕ → Inst → Bool
gives_name v inst = elim inst.result [ None ↦ false | Some u ↦ nat_eq v u.0 ]

-- an instruction of the block gives the name
abbrev pub block_gives : Function → ℕ → ℕ → Bool
block_gives f b v = elim (slice_get f.blocks b) [ None ↦ false | Some block ↦ list_any (gives_name v) block.insts ]
