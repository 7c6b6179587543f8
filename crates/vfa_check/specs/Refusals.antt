-- Why a function is refused, and the place of the fault: ill-typed items before phis that do not fit, and these before
-- names that are not defined.
use Rattle.std.specs.Prelude.{◌≡◌, ℕ, List, All, Some, slice_get, take}
use Rattle.vfa_ir.specs.declared.functions.Function.{Function}
use Rattle.vfa_ir.specs.declared.functions.Lines.{Lines}
use Rattle.vfa_ir.specs.declared.reasons.Outside.{Outside}
use Rattle.vfa_ir.specs.Defined.{NameUse, UseIsDefined, uses_of}
use Rattle.vfa_ir.specs.PhisFit.{PhisFit}
use Rattle.vfa_ir.specs.Shown.{shown_block_name, shown_value_name}
use Rattle.vfa_ir.specs.Typed.{Typed}
use Rattle.vfa_ir.specs.Walks.{IsMissedAt}
use Rattle.vfa_check.specs.Items.{IllTypedAt}
use Rattle.vfa_check.specs.Misfit.{FirstMisfit}

-- the first block whose phis do not fit the edges is shown so
pub record MisfitAt (f : Function) (name : List ℕ) : Type 0 where
  pub typed : Typed f
  pub block : ℕ
  pub first : FirstMisfit f block
  pub shown : name ≡ shown_block_name f block

-- The first use, in text order, that some walk reaches without a definition of the name: the name and the block of the use
-- are shown so. The operand of a phi is used in its predecessor.
pub record UndefinedAt (f : Function) (name block : List ℕ) : Type 0 where
  pub typed : Typed f
  pub phis : PhisFit f
  pub place : ℕ
  pub missed : NameUse
  pub before : All (UseIsDefined f) (take place (uses_of f))
  pub stands : slice_get (uses_of f) place ≡ Some missed
  pub walk : IsMissedAt f missed.block missed.line missed.name
  pub name_shown : name ≡ shown_value_name f missed.name
  pub block_shown : block ≡ shown_block_name f missed.block

abbrev pub IsRefusal : Function → Lines → Outside → Type 0
IsRefusal f lines (Outside.Types line) = IllTypedAt f lines line
IsRefusal f lines (Outside.Phi block) = MisfitAt f block
IsRefusal f lines (Outside.Undefined name block) = UndefinedAt f name block
IsRefusal f lines _ = ⊥
