-- helper: in no public contract
-- Where names are defined: for each value its phis and instructions, by their blocks and their places there.
use Rattle.std.specs.Prelude.{◌≡◌, ◌<◌, ℕ, List, [], ◌∷◌, Some, get_or, length, slice_get, ◌⊎◌}
use Rattle.vfa_ir.specs.declared.operations.ValueId.{ValueId}
use Rattle.vfa_ir.specs.declared.functions.Block.{Block}
use Rattle.vfa_ir.specs.declared.functions.Function.{Function}
use Rattle.vfa_ir.specs.declared.functions.Inst.{Inst}
use Rattle.vfa_ir.specs.declared.functions.Phi.{Phi}
use Rattle.vfa_demand.specs.declared.definitions.Definition.{Definition}

-- one of a list of definitions
abbrev pub IsAmong : Definition → List Definition → Type 0
IsAmong d [] = ⊥
IsAmong d (e ∷ rest) = (e ≡ d) ⊎ IsAmong d rest

-- a definition is one of those of a name, where this is a name of a value
abbrev pub IsPutTo : ℕ → Definition → List (List Definition) → Type 0
IsPutTo v d all = v < length all → IsAmong d (get_or all v [])

-- all definitions are still there
pub record IsMore (before after : List (List Definition)) : Type 0 where
  pub whole : length after ≡ length before
  pub kept : (v : ℕ) (d : Definition) → IsAmong d (get_or before v []) → IsAmong d (get_or after v [])

-- one was put to those of a name
pub record IsPut (v : ℕ) (d : Definition) (before after : List (List Definition)) : Type 0 where
  pub more : IsMore before after
  pub put : IsPutTo v d after

-- those of these phis and instructions of a block
abbrev pub PhisPut : ℕ → List Phi → List (List Definition) → Type 0
PhisPut b phis all = (j : ℕ) (p : Phi) → slice_get phis j ≡ Some p → IsPutTo p.result.0 (Definition.Phi b j) all

abbrev pub LinesPut : ℕ → List Inst → List (List Definition) → Type 0
LinesPut b insts all = (i : ℕ) (inst : Inst) (v : ValueId) → slice_get insts i ≡ Some inst → inst.result ≡ Some v →
    IsPutTo v.0 (Definition.Line b i) all

pub record BlockPut (b : ℕ) (block : Block) (all : List (List Definition)) : Type 0 where
  pub phis : PhisPut b block.phis all
  pub lines : LinesPut b block.insts all

abbrev pub BlocksPut : List Block → List (List Definition) → Type 0
BlocksPut blocks all = (b : ℕ) (block : Block) → slice_get blocks b ≡ Some block → BlockPut b block all

-- all definitions of each name
pub record AreDefinitions (f : Function) (all : List (List Definition)) : Type 0 where
  pub whole : length all ≡ length f.values
  pub blocks : BlocksPut f.blocks all
