-- helper: in no public contract
-- Marks of the names that are operands somewhere in the function.
use Rattle.std.specs.Prelude.{◌≡◌, Bool, false, Some, List, slice_index_or}
use Rattle.vfa_ir.specs.declared.functions.Function.{Function}
use Rattle.vfa_ir.specs.declared.operations.ValueId.{ValueId}
use Rattle.vfa_rules.specs.Uses.{is_used}

abbrev pub AreUses : Function → List Bool → Type 0
AreUses f used = (name : ValueId) → slice_index_or used name.0 false ≡ is_used f (Some name)
