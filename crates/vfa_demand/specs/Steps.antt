-- helper: in no public contract
-- Steps of the search for the least masks: masks grow by what some uses ask for, and a name whose mask grew waits for its
-- definitions to be asked anew.
use Rattle.std.specs.Prelude.{◌≡◌, ◌<◌, ◌≤◌, ℕ, ◌+◌, ◌-◌, ◌*◌, ◌^◌, Bool, true, false, List, [], ◌∷◌, ◌++◌, flat_map, length, Option, Some, None, slice_get, if◌then◌else◌, ◌⊎◌, zero, suc}
use Rattle.vfa_ir.specs.declared.operations.Op.{Op}
use Rattle.vfa_ir.specs.declared.operations.ValueId.{ValueId}
use Rattle.vfa_ir.specs.declared.functions.Block.{Block}
use Rattle.vfa_ir.specs.declared.functions.Function.{Function}
use Rattle.vfa_ir.specs.declared.functions.Inst.{Inst}
use Rattle.vfa_ir.specs.declared.functions.Phi.{Phi}
use Rattle.vfa_ir.specs.Operands.{operands_of}
use Rattle.vfa_ir.specs.Words.{is_in}
use Rattle.vfa_mean.specs.Kept.{is_marked}
use Rattle.vfa_demand.specs.Masks.{Ask, Have, HaveWhatIsAsked, IsPartOf, ask_of, inst_asks, mask_in, number_width, operand_asks, phi_asks, seen_in, whole_asks}
use Rattle.vfa_demand.specs.Rows.{asked, needs_all}
use Rattle.vfa_demand.specs.declared.definitions.Definition.{Definition}
use Rattle.vfa_demand.specs.Definitions.{IsAmong}
use Rattle.vfa_demand.specs.Reach.{AreTaken}

-- how far the masks are from all bits
abbrev pub room_in : List ℕ → ℕ
room_in [] = 0
room_in (m ∷ rest) = (2 ^ 128 - m) + room_in rest

-- what a turn of the search makes less: each mask that grows puts one name to those ahead
abbrev pub left_of : List ℕ → List ℕ → ℕ
left_of bits ahead = 2 * room_in bits + length ahead

-- a name was put to those that wait, if it was not one of them
pub record IsPutAhead (name : ℕ) (waiting waiting_after : List Bool) (ahead ahead_after : List ℕ) : Type 0 where
  pub taken : AreTaken (name ∷ []) waiting waiting_after ahead ahead_after
  pub one_more : length ahead_after ≤ length ahead + 1

-- A step by these asks, with the names that wait and the same names ahead.
pub record IsStep (asks : List Ask) (before after : List ℕ) (waiting waiting_after : List Bool) (ahead ahead_after : List ℕ) : Type 0 where
  pub same_length : length after ≡ length before
  pub same_names : length waiting_after ≡ length waiting
  pub have : Have asks (mask_in after)
  pub grown : (v : ℕ) → IsPartOf (mask_in before v) (mask_in after v)
  -- a name whose mask grew waits
  pub put : (v : ℕ) → (mask_in after v ≡ mask_in before v) ⊎ (is_marked waiting_after v ≡ true)
  pub still : (v : ℕ) → is_marked waiting v ≡ true → is_marked waiting_after v ≡ true
  pub met : ((v : ℕ) → is_marked waiting v ≡ true → is_in v ahead ≡ true) → (v : ℕ) → is_marked waiting_after v ≡ true → is_in v ahead_after ≡ true
  pub within : ((v : ℕ) → is_in v ahead ≡ true → v < length waiting) → (v : ℕ) → is_in v ahead_after ≡ true → v < length waiting
  pub fits : ((v : ℕ) → mask_in before v < 2 ^ 128) → (v : ℕ) → mask_in after v < 2 ^ 128
  -- masks that have what is asked for are not passed
  pub least : (other : ℕ → ℕ) → Have asks other → ((v : ℕ) → IsPartOf (mask_in before v) (other v)) → (v : ℕ) → IsPartOf (mask_in after v) (other v)
  pub room : left_of after ahead_after ≤ left_of before ahead

-- what an operand of a place asks for
abbrev pub place_asks : Function → Op → ℕ → ℕ → List Ask
place_asks f op place d = elim (slice_get (operands_of f op) place) [
  | None ↦ []
  | Some o ↦ ask_of (asked op (number_width o.0) place d) o.1
]

-- those of the places below one
abbrev pub asks_below : (ℕ → List Ask) → ℕ → List Ask
asks_below asks zero = []
asks_below asks (suc n) = asks_below asks n ++ asks n

-- what a definition asks for
abbrev pub phi_asks_at : (ℕ → ℕ) → List Phi → ℕ → List Ask
phi_asks_at masks phis j = elim (slice_get phis j) [ None ↦ [] | Some p ↦ phi_asks masks p ]

abbrev pub line_asks_at : Function → (ℕ → ℕ) → List Inst → ℕ → List Ask
line_asks_at f masks insts i = elim (slice_get insts i) [ None ↦ [] | Some inst ↦ inst_asks f masks inst ]

abbrev pub definition_asks : Function → (ℕ → ℕ) → Definition → List Ask
definition_asks f masks (Definition.Phi b j) = elim (slice_get f.blocks b) [ None ↦ [] | Some block ↦ phi_asks_at masks block.phis j ]
definition_asks f masks (Definition.Line b i) = elim (slice_get f.blocks b) [ None ↦ [] | Some block ↦ line_asks_at f masks block.insts i ]

-- ---- what is asked for whatever is asked of results: by operations that need all bits, and by terminators

abbrev pub root_asks : Function → Inst → List Ask
root_asks f i = if needs_all i.op then operand_asks i.op 0 0 (operands_of f i.op) else []

abbrev pub block_root_asks : Function → Block → List Ask
block_root_asks f b = flat_map (root_asks f) b.insts ++ whole_asks (seen_in b.term)

-- ---- the search

-- the name of a result waits
abbrev pub Waits : List Bool → Option ValueId → Type 0
Waits waiting None = ⊥
Waits waiting (Some v) = is_marked waiting v.0 ≡ true

-- A definition is settled: it is still to be asked, its name waits, or the masks have what it asks for.
abbrev pub IsSettled : Definition → List Definition → List Bool → Option ValueId → List Ask → (ℕ → ℕ) → Type 0
IsSettled d left waiting result asks masks = IsAmong d left ⊎ (Waits waiting result ⊎ Have asks masks)

pub record IsBlockSettled (f : Function) (b : ℕ) (block : Block) (left : List Definition) (bits : List ℕ) (waiting : List Bool) : Type 0 where
  pub phis : (j : ℕ) (p : Phi) → slice_get block.phis j ≡ Some p →
      IsSettled (Definition.Phi b j) left waiting (Some p.result) (phi_asks (mask_in bits) p) (mask_in bits)
  pub lines : (i : ℕ) (inst : Inst) → slice_get block.insts i ≡ Some inst →
      IsSettled (Definition.Line b i) left waiting inst.result (inst_asks f (mask_in bits) inst) (mask_in bits)
  pub end : Have (whole_asks (seen_in block.term)) (mask_in bits)

-- The masks so far are not greater than any that have what is asked for, and all definitions but those left are settled.
pub record IsSearched (f : Function) (left : List Definition) (bits : List ℕ) (waiting : List Bool) (ahead : List ℕ) : Type 0 where
  pub same_length : length bits ≡ length f.values
  pub same_names : length waiting ≡ length f.values
  pub fits : (v : ℕ) → mask_in bits v < 2 ^ 128
  pub least : (other : ℕ → ℕ) → HaveWhatIsAsked f other → (v : ℕ) → IsPartOf (mask_in bits v) (other v)
  pub met : (v : ℕ) → is_marked waiting v ≡ true → is_in v ahead ≡ true
  pub within : (v : ℕ) → is_in v ahead ≡ true → v < length waiting
  pub settled : (b : ℕ) (block : Block) → slice_get f.blocks b ≡ Some block → IsBlockSettled f b block left bits waiting
