-- What decides limits, names and ids: the parameters and the blocks of a function.
use Rattle.std.specs.Prelude.{◌≡◌, ℕ, List, [], ◌∷◌, ◌++◌, Option, Some, None, Result, Ok, Err, map, flat_map, unwrap_or, decimal}
use Rattle.vfa_ir.specs.declared.syntax.BasicBlock.{BasicBlock}
use Rattle.vfa_ir.specs.declared.syntax.Incoming.{Incoming}
use Rattle.vfa_ir.specs.declared.syntax.Parameter.{Parameter}
use Rattle.vfa_ir.specs.declared.syntax.Operation.{Operation}
use Rattle.vfa_ir.specs.declared.functions.CallOp.{CallOp}
use Rattle.vfa_ir.specs.declared.operations.BlockId.{BlockId}
use Rattle.vfa_ir.specs.declared.operations.Operand.{Operand}
use Rattle.vfa_ir.specs.declared.reasons.Outside.{Outside}
use Rattle.vfa_ir.specs.DefinedNames.{first_repeated, block_results, Use, first_unknown, value_uses}
use Rattle.vfa_ir.specs.DefinedNames.Use.{of_block}
use Rattle.vfa_ir.specs.Resolution.{Scope, block_id, call_of, operand_of}
use Rattle.vfa_ir.specs.Sentence.{Sentence}

-- the tree of these parameters and blocks, with nothing else
abbrev pub tree : List Parameter → List BasicBlock → Sentence
tree parameters blocks = record { lead = []; width = 0; name = []; parameters = parameters; tail = []; blocks = blocks }

-- the names of values and blocks, which share one set
abbrev pub defined_in : Scope → List (List ℕ)
defined_in scope = scope.values ++ scope.blocks

-- names to define: all in text order, and those of values and of blocks
pub record Names : Type 0 where
  pub all : List (List ℕ)
  pub values : List (List ℕ)
  pub blocks : List (List ℕ)

abbrev pub only_values : List (List ℕ) → Names
only_values names = record { all = names; values = names; blocks = [] }

abbrev pub no_names : Names
no_names = record { all = []; values = []; blocks = [] }

abbrev pub one_block : List ℕ → Names
one_block name = record { all = name ∷ []; values = []; blocks = name ∷ [] }

-- these and after them those
abbrev pub joined : Names → Names → Names
joined these those = record { all = these.all ++ those.all; values = these.values ++ those.values; blocks = these.blocks ++ those.blocks }

-- the names of blocks, where n parameters are numbered
abbrev pub label_of : ℕ → BasicBlock → List ℕ
label_of n b = unwrap_or b.label (decimal n)

abbrev pub names_of_blocks : ℕ → List BasicBlock → Names
names_of_blocks n bs = record {
  all = flat_map (λ b. label_of n b ∷ block_results b) bs;
  values = flat_map block_results bs;
  blocks = map (label_of n) bs;
}

abbrev pub names_of_block : ℕ → BasicBlock → Names
names_of_block n b = record { all = label_of n b ∷ block_results b; values = block_results b; blocks = label_of n b ∷ [] }

-- Of these names, where the scope was old, those that are left are still to be defined: none of the others is
-- defined a second time, and the scope has them.
pub record Left (old : Scope) (names : Names) (now : Scope) (left : Names) : Type 0 where
  pub repeats : (more : List (List ℕ)) → first_repeated (defined_in old) (names.all ++ more) ≡ first_repeated (defined_in now) (left.all ++ more)
  pub values : now.values ++ left.values ≡ old.values ++ names.values
  pub blocks : now.blocks ++ left.blocks ≡ old.blocks ++ names.blocks

-- why these names cannot be defined: this one is the first that is defined a second time, or memory is out
abbrev pub IsRepeated : Scope → List (List ℕ) → Outside → Type 0
IsRepeated old names Outside.Memory = Unit {0}
IsRepeated old names (Outside.Duplicate name) = (more : List (List ℕ)) → first_repeated (defined_in old) (names ++ more) ≡ Some name
IsRepeated old names _ = ⊥

-- the error for the first name that is defined a second time; out of memory aside
abbrev pub IsDuplicate : Option (List ℕ) → Outside → Type 0
IsDuplicate found Outside.Memory = Unit {0}
IsDuplicate found (Outside.Duplicate name) = found ≡ Some name
IsDuplicate found _ = ⊥

-- the first of these uses that is not defined as it needs
abbrev pub unknown_in : Scope → List Use → Option (List ℕ)
unknown_in scope uses = first_unknown scope.values scope.blocks uses

-- the error for it; out of memory aside
abbrev pub IsUnknown : Option (List ℕ) → Outside → Type 0
IsUnknown found Outside.Memory = Unit {0}
IsUnknown found (Outside.Unknown name) = found ≡ Some name
IsUnknown found _ = ⊥

-- These uses are all defined as they need, and the result is this value; or the error names the first that is not.
abbrev pub Resolves : {A : Type 0} → Scope → List Use → A → Result A Outside → Type 0
Resolves scope uses value (Ok x) = (unknown_in scope uses ≡ None) × (x ≡ value)
Resolves scope uses value (Err e) = IsUnknown (unknown_in scope uses) e

-- the uses of an operand of a phi, and the operand of ids with its predecessor
abbrev pub entry_uses : Incoming → List Use
entry_uses i = value_uses i.value ++ (of_block i.block ∷ [])

abbrev pub entry_of : Scope → ℕ → Incoming → Operand × BlockId
entry_of scope width i = (operand_of scope width i.value, block_id scope i.block)

-- the call of an operation, where it is one
abbrev pub operation_calls : Scope → Operation → List CallOp
operation_calls scope op = elim (call_of scope op) [ None ↦ [] | Some call ↦ call ∷ [] ]
