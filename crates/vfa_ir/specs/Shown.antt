-- How the values and blocks of a function are shown: by their names, or by their numbers where they have none
-- (LLVM Language Reference, "Identifiers" and "Functions").
use Rattle.std.specs.Prelude.{ℕ, ◌+◌, Bool, false, nat_eq, not, List, [], ◌∷◌, ◌++◌, map, Option, Some, None, is_none, option_and_then, slice_get, count_by, take_while, decimal}
use Rattle.vfa_ir.specs.declared.functions.Block.{Block}
use Rattle.vfa_ir.specs.declared.functions.Function.{Function}
use Rattle.vfa_ir.specs.declared.functions.Inst.{Inst}
use Rattle.vfa_ir.specs.declared.functions.Param.{Param}
use Rattle.vfa_ir.specs.declared.functions.Phi.{Phi}
use Rattle.vfa_ir.specs.declared.numbering.Local.{Local}

-- the results of the instructions that have one
abbrev pub results_of : List Inst → List Local
results_of [] = []
results_of (i ∷ rest) = elim i.result [ None ↦ results_of rest | Some v ↦ Local.Value v.0 ∷ results_of rest ]

abbrev pub param_locals : List Param → List Local
param_locals = map (λ p. Local.Value p.value.0)

abbrev pub phi_locals : List Phi → List Local
phi_locals = map (λ p. Local.Value p.result.0)

-- a block and what it defines
abbrev pub locals_of_block : ℕ → Block → List Local
locals_of_block place b = Local.Block place ∷ (phi_locals b.phis ++ results_of b.insts)

-- the blocks from the given place on, each with what it defines
abbrev pub locals_of_blocks : ℕ → List Block → List Local
locals_of_blocks place [] = []
locals_of_blocks place (b ∷ rest) = locals_of_block place b ++ locals_of_blocks (place + 1) rest

-- all that a function defines, in text order: the parameters, then each block and its results
abbrev pub locals_of : Function → List Local
locals_of f = param_locals f.params ++ locals_of_blocks 0 f.blocks

abbrev pub name_of : Function → Local → Option (List ℕ)
name_of f (Local.Value v) = option_and_then (λ x. x.name) (slice_get f.values v)
name_of f (Local.Block b) = option_and_then (λ x. x.name) (slice_get f.blocks b)

abbrev pub is_unnamed : Function → Local → Bool
is_unnamed f local = is_none (name_of f local)

abbrev pub same_local : Local → Local → Bool
same_local (Local.Value v) (Local.Value w) = nat_eq v w
same_local (Local.Block b) (Local.Block c) = nat_eq b c
same_local _ _ = false

-- how many stand before it in text order without a name
abbrev pub number_of : Function → Local → ℕ
number_of f local = count_by (is_unnamed f) (take_while (λ other. not (same_local other local)) (locals_of f))

-- the bytes of the name, or the decimal digits of the number
abbrev pub shown_name : Function → Local → List ℕ
shown_name f local = elim (name_of f local) [ None ↦ decimal (number_of f local) | Some name ↦ name ]

abbrev pub shown_value_name : Function → ℕ → List ℕ
shown_value_name f v = shown_name f (Local.Value v)

abbrev pub shown_block_name : Function → ℕ → List ℕ
shown_block_name f b = shown_name f (Local.Block b)
