-- helper: in no public contract
-- The first missed use of some uses, part by part.
use Rattle.std.specs.Prelude.{ℕ, not, List, [], All, find, flat_map, MatchOption, MatchBool, Option, Some, None}
use Rattle.vfa_ir.specs.declared.functions.CallOp.{CallOp}
use Rattle.vfa_ir.specs.declared.functions.Function.{Function}
use Rattle.vfa_ir.specs.Defined.{NameUse, UseIsDefined, operand_names}
use Rattle.vfa_ir.specs.Walks.{IsDefinedAt, IsMissedAt}
use Rattle.vfa_check.specs.declared.name_rows.NameRow.{NameRow}
use Rattle.vfa_check.specs.declared.uses.MissedUse.{MissedUse}
use Rattle.vfa_check.specs.MissedUses.{IsFirstMissed}
use Rattle.vfa_check.specs.NameRows.{has_name}

-- the first of some names that a row does not have
abbrev pub first_missed : NameRow → List ℕ → Option ℕ
first_missed row names = find (λ v. not (has_name row v)) names

-- the names that the arguments of a call use
abbrev pub argument_names : Option CallOp → List ℕ
argument_names None = []
argument_names (Some c) = flat_map (λ a. operand_names a.value) c.args

-- the row has the names that are in scope before a line of a block
abbrev pub IsScopeAt : Function → ℕ → ℕ → NameRow → Type 0
IsScopeAt f b line row = (v : ℕ) → MatchBool (has_name row v) (IsDefinedAt f b line v) (IsMissedAt f b line v)

-- all uses are defined, or this is the first that is missed
abbrev pub Tells : Function → List NameUse → Option MissedUse → Type 0
Tells f uses found = MatchOption found (All (UseIsDefined f) uses) (IsFirstMissed f uses)
