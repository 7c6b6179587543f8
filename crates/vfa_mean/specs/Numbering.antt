-- Functions whose values, blocks and calls are numbered in text order.
use Rattle.std.specs.Prelude.{◌≡◌, ◌<◌, ℕ, ◌++◌, Bool, true, bytes_eq, nat_eq, IsTrue, IsSomeAnd, List, [], map, filter, flat_map, length, All, AllPairs, Some, slice_get, count_by}
use Rattle.std.specs.List.{IsDistinct, range_with_len}
use Rattle.vfa_ir.specs.declared.operations.Ty.{Ty}
use Rattle.vfa_ir.specs.declared.functions.Block.{Block}
use Rattle.vfa_ir.specs.declared.functions.Function.{Function}
use Rattle.vfa_ir.specs.declared.functions.Phi.{Phi}
use Rattle.vfa_ir.specs.Defined.{op_names, operand_names, term_names}
use Rattle.vfa_ir.specs.Grammar.{AreWords, IsWidth}
use Rattle.vfa_ir.specs.PhisFit.{edge_count, targets}
use Rattle.vfa_ir.specs.Printable.{IsIntegerType, IsKeptName, IsTail, PrintableBlock, PrintableCall, block_call_places, block_ids, block_types, call_places, ids_of, kept_names}
use Rattle.vfa_ir.specs.Typed.{TypedBlock}
use Rattle.vfa_ir.specs.Walks.{IsEdge, is_in}
use Rattle.vfa_ir.specs.Words.{lead_words, parameter_words}
use Rattle.vfa_mean.specs.Outcomes.{first_block, type_of}
use Rattle.vfa_mean.specs.Renaming.{Order, at_places, renamed}

-- each number of the one list is one of the other
abbrev pub AreAmong : List ℕ → List ℕ → Type 0
AreAmong numbers others = (n : ℕ) → IsTrue (is_in n numbers) → IsTrue (is_in n others)

abbrev pub block_targets : Block → List ℕ
block_targets b = map (λ t. t.0) (targets b.term)

-- The order has what a run may come to in the block: the names that it defines, its calls, and the blocks that its edges
-- lead to.
pub record CoversBlock (o : Order) (block : Block) : Type 0 where
  pub results : AreAmong (block_ids block) o.values
  pub calls : AreAmong (block_call_places block) o.calls
  pub targets : AreAmong (block_targets block) o.blocks

-- The order has values, blocks and calls of the function alone, the entry first, and all that a run may come to.
pub record Covers (o : Order) (f : Function) : Type 0 where
  pub values : (v : ℕ) → IsTrue (is_in v o.values) → v < length f.values
  pub blocks : (b : ℕ) → IsTrue (is_in b o.blocks) → b < length f.blocks
  pub calls : (c : ℕ) → IsTrue (is_in c o.calls) → c < length f.calls
  pub entry : slice_get o.blocks first_block ≡ Some first_block
  pub parameters : AreAmong (map (λ p. p.value.0) f.params) o.values
  pub each_block : (b : ℕ) (block : Block) → IsTrue (is_in b o.blocks) → slice_get f.blocks b ≡ Some block → CoversBlock o block

-- ---- text order

-- the blocks that are kept, in text order, by their numbers
abbrev pub kept_numbers : Function → (ℕ → Bool) → List ℕ
kept_numbers f keeps = filter keeps (range_with_len 0 (length f.blocks))

abbrev pub kept_blocks : Function → (ℕ → Bool) → List Block
kept_blocks f keeps = at_places f.blocks (kept_numbers f keeps)

-- the parameters and the results of the kept blocks, in text order
abbrev pub kept_values : Function → (ℕ → Bool) → List ℕ
kept_values f keeps = map (λ p. p.value.0) f.params ++ flat_map block_ids (kept_blocks f keeps)

abbrev pub kept_calls : Function → (ℕ → Bool) → List ℕ
kept_calls f keeps = flat_map block_call_places (kept_blocks f keeps)

abbrev pub text_order : Function → (ℕ → Bool) → Order
text_order f keeps = record { values = kept_values f keeps; blocks = kept_numbers f keeps; calls = kept_calls f keeps }

-- The function with these blocks alone, and the values that they and the parameters define, numbered in text order.
abbrev pub numbered : Function → (ℕ → Bool) → Function
numbered f keeps = renamed (text_order f keeps) f

abbrev pub each_number : ℕ → Bool
each_number n = true

-- The ids stand in text order, the parameters first and then the results block by block, and so do the calls; and there
-- are no others.
pub record IsInTextOrder (f : Function) : Type 0 where
  pub ids : ids_of f ≡ range_with_len 0 (length f.values)
  pub calls : call_places f ≡ range_with_len 0 (length f.calls)

-- ---- what numbering asks for

-- The entry is kept, and with a block those that its edges lead to; what is kept is the function's.
pub record MayBeNumbered (f : Function) (keeps : ℕ → Bool) : Type 0 where
  pub some : first_block < length f.blocks
  pub entry : IsTrue (keeps first_block)
  pub edges : (from to : ℕ) → IsTrue (keeps from) → IsEdge f from to → IsTrue (keeps to) × (to < length f.blocks)
  pub values : (v : ℕ) → IsTrue (is_in v (kept_values f keeps)) → v < length f.values
  pub calls : (c : ℕ) → IsTrue (is_in c (kept_calls f keeps)) → c < length f.calls

-- No name is defined twice in what is kept, and no call made twice.
pub record DefinesKeptOnce (f : Function) (keeps : ℕ → Bool) : Type 0 where
  pub names : IsDistinct nat_eq (kept_values f keeps)
  pub calls : IsDistinct nat_eq (kept_calls f keeps)

-- the names that a block uses: those of its phis, its instructions and its terminator
abbrev pub names_used : Function → Block → List ℕ
names_used f block = flat_map (λ p. flat_map (λ e. operand_names e.0) p.entries) block.phis
    ++ (flat_map (λ i. op_names f i.op) block.insts ++ term_names block.term)

-- each name that a kept block uses is defined in what is kept
abbrev pub HasItsNames : Function → (ℕ → Bool) → Type 0
HasItsNames f keeps = AreAmong (flat_map (names_used f) (kept_blocks f keeps)) (kept_values f keeps)

abbrev pub KeptIsTyped : Function → (ℕ → Bool) → Type 0
KeptIsTyped f keeps = All (TypedBlock f) (kept_blocks f keeps)

-- A phi of the block names kept predecessors alone, each once for each edge, with one operand where it names it more than
-- once.
pub record KeptPhiFits (f : Function) (keeps : ℕ → Bool) (block : ℕ) (p : Phi) : Type 0 where
  pub kept : All (λ e. IsTrue (is_in e.1.0 (kept_numbers f keeps))) p.entries
  pub each_edge : (from : ℕ) → IsTrue (keeps from) → count_by (λ e. nat_eq e.1.0 from) p.entries ≡ edge_count f from block
  pub one_operand : AllPairs (λ d e. d.1 ≡ e.1 → d.0 ≡ e.0) p.entries

-- The phis of kept blocks fit the edges from kept blocks, and none of these leads to the entry.
pub record KeptPhisFit (f : Function) (keeps : ℕ → Bool) : Type 0 where
  pub phis : (b : ℕ) (block : Block) → IsTrue (keeps b) → slice_get f.blocks b ≡ Some block → All (KeptPhiFits f keeps b) block.phis
  pub entry : (from : ℕ) → IsTrue (keeps from) → edge_count f from first_block ≡ 0

-- the types of values by their ids; of one that the function does not have it is i1
abbrev pub types_at : Function → List ℕ → List Ty
types_at f ids = map (λ v. type_of f (record { 0 = v })) ids

-- The header, the names and what is kept may be printed, but for the order of the ids and of the calls: widths and numbers
-- lie in their ranges, and each value has the type of what defines it.
pub record KeptIsPrintable (f : Function) (keeps : ℕ → Bool) : Type 0 where
  pub name : f.name ≡ [] → ⊥
  pub lead : AreWords lead_words f.lead
  pub width : IsWidth f.width
  pub words : All (λ p. AreWords parameter_words p.words) f.params
  pub tail : IsTail f.tail
  pub parameters : All (λ p. IsIntegerType (type_of f p.value)) f.params
  pub results : All (λ b. types_at f (block_ids b) ≡ block_types b) (kept_blocks f keeps)
  pub names : All IsKeptName (kept_names f)
  pub distinct : IsDistinct bytes_eq (kept_names f)
  pub blocks : All (PrintableBlock f) (kept_blocks f keeps)
  pub calls : All (λ c. IsSomeAnd (slice_get f.calls c) (PrintableCall f)) (kept_calls f keeps)
