-- The functions that may be checked, and what is known of those that were.
use Rattle.std.specs.Prelude.{◌≡◌, ◌≤◌, ◌^◌, length, nat_eq}
use Rattle.std.specs.List.{IsDistinct, range_with_len}
use Rattle.vfa_ir.specs.declared.functions.Function.{Function}
use Rattle.vfa_ir.specs.declared.functions.Lines.{Lines}
use Rattle.vfa_ir.specs.Defined.{Defined}
use Rattle.vfa_ir.specs.PhisFit.{PhisFit}
use Rattle.vfa_ir.specs.Printable.{ids_of}
use Rattle.vfa_ir.specs.Reads.{Fit}
use Rattle.vfa_ir.specs.Typed.{Typed}
use Rattle.vfa_cfg.specs.Sizes.{HasFewBlocks}
use Rattle.vfa_check.specs.Items.{HasItsLines}
use Rattle.vfa_check.specs.Within.{IsWithin}

-- how large functions are: their values, their blocks, and the cases of a switch
pub record IsSmall (f : Function) : Type 0 where
  pub values : length f.values ≤ 2 ^ 28
  pub few : HasFewBlocks f

-- Some text reads as the function, and there is a line for each of its phis, instructions and terminators.
pub record MayBeChecked (f : Function) (lines : Lines) : Type 0 where
  pub fit : Fit f
  pub small : IsSmall f
  pub each_line : HasItsLines f lines

-- The function is well formed (LLVM Language Reference, "Well-Formedness"): operands are of the types that are written,
-- phis fit the edges, and on every walk names are defined before they are used.
pub record IsWellFormed (f : Function) : Type 0 where
  pub typed : Typed f
  pub phis : PhisFit f
  pub defined : Defined f

-- What is known of a function that was checked: some text reads as it; its ids are in range; each value is defined once,
-- and in the order of the values; and it is well formed.
pub record IsChecked (f : Function) : Type 0 where
  pub fit : Fit f
  pub small : IsSmall f
  pub within : IsWithin f
  pub once : IsDistinct nat_eq (ids_of f)
  pub in_order : ids_of f ≡ range_with_len 0 (length f.values)
  pub formed : IsWellFormed f
