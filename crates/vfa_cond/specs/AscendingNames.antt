-- helper: in no public contract
-- Instructions whose results stand in ascending order.
use Rattle.std.specs.Prelude.{◌≤◌, ℕ, List, nat_eq}
use Rattle.std.specs.List.{AllByRecursion, IsDistinct}
use Rattle.vfa_ir.specs.declared.functions.Inst.{Inst}
use Rattle.vfa_ir.specs.Printable.{inst_ids}

-- no result is below `low`, and no two are the same
pub record IsAscending (low : ℕ) (insts : List Inst) : Type 0 where
  pub from : AllByRecursion (λ v. low ≤ v) (inst_ids insts)
  pub distinct : IsDistinct nat_eq (inst_ids insts)
