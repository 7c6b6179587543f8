-- The names of a function as written: those that it defines, in text order, and those that it uses
-- (LLVM Language Reference, "Identifiers" and "Functions").
use Rattle.std.specs.Prelude.{ℕ, ◌+◌, List, [], ◌∷◌, ◌++◌, map, flat_map, filter_map, Bool, true, if◌then◌else◌, Option, Some, None, unwrap_or, decimal, count_by}
use Rattle.vfa_ir.specs.declared.syntax.Written.{Written}
use Rattle.vfa_ir.specs.declared.syntax.Parameter.{Parameter}
use Rattle.vfa_ir.specs.declared.syntax.PhiNode.{PhiNode}
use Rattle.vfa_ir.specs.declared.syntax.Operation.{Operation}
use Rattle.vfa_ir.specs.declared.syntax.TerminatorKind.{TerminatorKind}
use Rattle.vfa_ir.specs.declared.syntax.BasicBlock.{BasicBlock}
use Rattle.vfa_ir.specs.Sentence.{Sentence}
use Rattle.vfa_ir.specs.Words.{is_among, is_digits}

-- a name that a function keeps: one of digits alone is a number, and kept as no name
abbrev pub kept_name : List ℕ → Option (List ℕ)
kept_name name = if is_digits name then None else Some name

-- whether a parameter is numbered: it has no name, or one of digits alone
abbrev pub is_numbered : Parameter → Bool
is_numbered p = elim p.name [ None ↦ true | Some name ↦ is_digits name ]

-- the names of parameters, where k numbered ones stand before them: one without a name is named by that number
abbrev pub parameter_names : ℕ → List Parameter → List (List ℕ)
parameter_names k [] = []
parameter_names k (p ∷ rest) =
    unwrap_or p.name (decimal k) ∷ parameter_names (if is_numbered p then k + 1 else k) rest

-- the name of a block: its label, or for an entry without one the number of numbered parameters
abbrev pub block_name : Sentence → BasicBlock → List ℕ
block_name s b = unwrap_or b.label (decimal (count_by is_numbered s.parameters))

-- the results of a block in text order
abbrev pub block_results : BasicBlock → List (List ℕ)
block_results b = map (λ p. p.result) b.phis ++ filter_map (λ i. i.result) b.instructions

-- the values and the blocks that a function defines, each in text order
abbrev pub value_names : Sentence → List (List ℕ)
value_names s = parameter_names 0 s.parameters ++ flat_map block_results s.blocks

abbrev pub block_names : Sentence → List (List ℕ)
block_names s = map (block_name s) s.blocks

-- all that a function defines, in text order: values and blocks share one set of names
abbrev pub defined_names : Sentence → List (List ℕ)
defined_names s = parameter_names 0 s.parameters ++ flat_map (λ b. block_name s b ∷ block_results b) s.blocks

-- a name that is used as a value, or as a block
pub data Use : Type 0 where
  of_value : List ℕ → Use
  of_block : List ℕ → Use

abbrev pub value_uses : Written → List Use
value_uses (Written.Local name) = of_value name ∷ []
value_uses (Written.Literal _) = []
value_uses Written.Poison = []

-- the operands of a phi in text order
abbrev pub phi_uses : PhiNode → List Use
phi_uses p = flat_map (λ i. value_uses i.value ++ (of_block i.block ∷ [])) p.entries

abbrev pub operation_uses : Operation → List Use
operation_uses (Operation.Binary _ _ _ a b) = value_uses a ++ value_uses b
operation_uses (Operation.Compare _ _ _ a b) = value_uses a ++ value_uses b
operation_uses (Operation.Select c _ a b) = value_uses c ++ (value_uses a ++ value_uses b)
operation_uses (Operation.Convert _ _ _ a _) = value_uses a
operation_uses (Operation.Freeze _ a) = value_uses a
operation_uses (Operation.Extract _ pair _) = of_value pair ∷ []
operation_uses (Operation.Two _ _ _ a b) = value_uses a ++ value_uses b
operation_uses (Operation.One _ _ _ a _) = value_uses a
operation_uses (Operation.Over _ _ _ a b) = value_uses a ++ value_uses b
operation_uses (Operation.Assume _ c) = value_uses c
operation_uses (Operation.Call _ _ _ _ arguments) = flat_map (λ a. value_uses a.value) arguments

abbrev pub terminator_uses : TerminatorKind → List Use
terminator_uses (TerminatorKind.Return _ a) = value_uses a
terminator_uses (TerminatorKind.Always to) = of_block to ∷ []
terminator_uses (TerminatorKind.Condition c taken fallen) = value_uses c ++ (of_block taken ∷ of_block fallen ∷ [])
terminator_uses (TerminatorKind.Switch _ on default cases) = value_uses on ++ (of_block default ∷ map (λ c. of_block c.block) cases)
terminator_uses TerminatorKind.Unreachable = []

abbrev pub block_uses : BasicBlock → List Use
block_uses b =
    flat_map phi_uses b.phis ++ (flat_map (λ i. operation_uses i.operation) b.instructions ++ terminator_uses b.terminator.kind)

-- all uses in text order
abbrev pub uses : Sentence → List Use
uses s = flat_map block_uses s.blocks

-- the first name that is defined a second time, by the place of its second definition; those in seen stand before
abbrev pub first_repeated : List (List ℕ) → List (List ℕ) → Option (List ℕ)
first_repeated seen [] = None
first_repeated seen (name ∷ rest) = if is_among name seen then Some name else first_repeated (name ∷ seen) rest

-- the first use of a name that is not defined as the use needs
abbrev pub used_name : Use → List ℕ
used_name (of_value name) = name
used_name (of_block name) = name

abbrev pub is_known : List (List ℕ) → List (List ℕ) → Use → Bool
is_known values blocks (of_value name) = is_among name values
is_known values blocks (of_block name) = is_among name blocks

abbrev pub first_unknown : List (List ℕ) → List (List ℕ) → List Use → Option (List ℕ)
first_unknown values blocks [] = None
first_unknown values blocks (u ∷ rest) =
    if is_known values blocks u then first_unknown values blocks rest else Some (used_name u)

abbrev pub duplicate_of : Sentence → Option (List ℕ)
duplicate_of s = first_repeated [] (defined_names s)

abbrev pub unknown_of : Sentence → Option (List ℕ)
unknown_of s = first_unknown (value_names s) (block_names s) (uses s)
