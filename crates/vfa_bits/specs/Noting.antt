-- helper: in no public contract
-- Tables that are filled line by line.
use Rattle.std.specs.Prelude.{◌≡◌, ◌<◌, ℕ, Bool, ◌||◌, List, Option, Some, None, length, slice_index_or}
use Rattle.vfa_ir.specs.declared.operations.Operand.{Operand}
use Rattle.vfa_ir.specs.declared.functions.Inst.{Inst}
use Rattle.vfa_mean.specs.Kept.{is_marked}
use Rattle.vfa_bits.specs.Standing.{operation_among, same_bits_operand}

-- the operand that a name is replaced by, by the first of these lines whose result it is; where it is no line's, what stood
-- there before
abbrev pub noted : (ℕ → ℕ) → List Inst → ℕ → Option Operand → Option Operand
noted masks insts v before = elim (operation_among v insts) [ None ↦ before | Some op ↦ same_bits_operand op (masks v) ]

-- the operands that the results of these lines are replaced by were noted
pub record AreNoted (masks : ℕ → ℕ) (insts : List Inst) (before after : List (Option Operand)) : Type 0 where
  pub whole : length after ≡ length before
  pub each : (v : ℕ) → v < length before → slice_index_or after v None ≡ noted masks insts v (slice_index_or before v None)

-- these numbers were marked
pub record AreMarked (numbers : ℕ → Bool) (before after : List Bool) : Type 0 where
  pub whole : length after ≡ length before
  pub each : (n : ℕ) → n < length before → is_marked after n ≡ (is_marked before n || numbers n)
