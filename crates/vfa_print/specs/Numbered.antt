-- helper: in no public contract
-- The names that values and blocks are shown by, found in one pass over what a function defines.
use Rattle.std.specs.Prelude.{ℕ, ◌+◌, List, [], ◌∷◌, ◌++◌, if◌then◌else◌, unwrap_or, decimal}
use Rattle.vfa_ir.specs.declared.functions.Function.{Function}
use Rattle.vfa_ir.specs.declared.numbering.Local.{Local}
use Rattle.vfa_ir.specs.Resolution.{Scope}
use Rattle.vfa_ir.specs.Shown.{is_unnamed, name_of}

-- the number of the next without a name, after this one
abbrev pub next_number : Function → ℕ → Local → ℕ
next_number f number local = if is_unnamed f local then number + 1 else number

-- the name, or the decimals of this number
abbrev pub name_or_number : Function → ℕ → Local → List ℕ
name_or_number f number local = unwrap_or (name_of f local) (decimal number)

-- one more name
abbrev pub with_name : Scope → Local → List ℕ → Scope
with_name scope (Local.Value _) name = record { values = scope.values ++ name ∷ []; blocks = scope.blocks }
with_name scope (Local.Block _) name = record { values = scope.values; blocks = scope.blocks ++ name ∷ [] }

-- the names of these too, the first without a name having this number
abbrev pub named_from : Function → ℕ → Scope → List Local → Scope
named_from f number scope [] = scope
named_from f number scope (local ∷ rest) =
    named_from f (next_number f number local) (with_name scope local (name_or_number f number local)) rest
