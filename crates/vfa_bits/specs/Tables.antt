-- Tables of the operands that names are replaced by.
use Rattle.std.specs.Prelude.{◌≡◌, ℕ, nat_eq, List, Option, None, length, slice_index_or, if◌then◌else◌}
use Rattle.vfa_ir.specs.declared.operations.Operand.{Operand}
use Rattle.vfa_ir.specs.declared.functions.Function.{Function}
use Rattle.vfa_bits.specs.Standing.{replacement}

-- the table has an entry for each value, with the operand that its name is replaced by, if it is
pub record AreReplacements (f : Function) (masks : ℕ → ℕ) (table : List (Option Operand)) : Type 0 where
  pub whole : length table ≡ length f.values
  pub each : (v : ℕ) → slice_index_or table v None ≡ replacement f v (masks v)

-- the operand that takes the place of another one, where the chain of replaced names goes on
abbrev pub next_operand : (ℕ → ℕ) → List (Option Operand) → Operand → Option Operand
next_operand masks table (Operand.Value v) = if nat_eq (masks v.0) 0 then None else slice_index_or table v.0 None
next_operand masks table (Operand.Literal c) = None
next_operand masks table Operand.Poison = None
