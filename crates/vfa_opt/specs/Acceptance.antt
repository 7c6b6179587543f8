-- Which texts of defines are functions of the profile, and why the others stay as they are.
use Rattle.std.specs.Prelude.{◌≡◌, ◌⊎◌, ℕ, ◌+◌, ◌-◌, List}
use Rattle.vfa_ir.specs.declared.functions.Function.{Function}
use Rattle.vfa_ir.specs.declared.functions.Lines.{Lines}
use Rattle.vfa_ir.specs.declared.reasons.Outside.{Outside}
use Rattle.vfa_ir.specs.Reads.{IsAccepted, IsReason}
use Rattle.vfa_ir.specs.Tokens.{tokens_of}
use Rattle.vfa_check.specs.Checked.{IsWellFormed}
use Rattle.vfa_check.specs.Refusals.{IsRefusal as IsRefusedCheck}

-- the text is this function of the profile: it reads as it within the limits, and the function is well formed
pub record IsInside (text : List ℕ) (f : Function) : Type 0 where
  pub lines : Lines
  pub reads : IsAccepted text (tokens_of text) f lines
  pub formed : IsWellFormed f

-- the text reads as a function within the limits that is not well formed, first for this reason
pub record IsIllFormed (text : List ℕ) (reason : Outside) : Type 0 where
  pub function : Function
  pub lines : Lines
  pub reads : IsAccepted text (tokens_of text) function lines
  pub refused : IsRefusedCheck function lines reason

-- the first reason why the text is no function of the profile; its lines count from 1 within the text
abbrev pub IsOutside : List ℕ → Outside → Type 0
IsOutside text reason = IsReason text (tokens_of text) reason ⊎ IsIllFormed text reason

-- The same reason with the line of the module, where the text begins on this one. Line 3 of a define that begins on
-- line 23 is line 25.
abbrev pub in_module : ℕ → Outside → Outside
in_module first (Outside.Shape line) = Outside.Shape (first + line - 1)
in_module first (Outside.Types line) = Outside.Types (first + line - 1)
in_module first reason = reason

-- the define of this text, which begins on the line, stays as it is for the reason
pub record StaysFor (first : ℕ) (text : List ℕ) (reason : Outside) : Type 0 where
  pub within : Outside
  pub outside : IsOutside text within
  pub same : reason ≡ in_module first within

-- the line of a reason that has one
abbrev pub line_of : Outside → ℕ
line_of (Outside.Shape line) = line
line_of (Outside.Types line) = line
line_of reason = 0
