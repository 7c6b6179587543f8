-- A function narrowed by the bits that are asked for: operands that stand for the same bits, a `zext` in place of a `sext`
-- whose sign nobody asks for, no flags where an operand may have changed, and no lines that nothing hangs on.
use Rattle.std.specs.Prelude.{◌≡◌, ℕ, suc, Bool, true, false, ◌&&◌, ◌||◌, List, [], ◌∷◌, map, filter, Option, Some, None, slice_get, if◌then◌else◌, ◌↔◌}
use Rattle.std.specs.List.{list_any}
use Rattle.vfa_ir.specs.declared.operations.BlockId.{BlockId}
use Rattle.vfa_ir.specs.declared.operations.Cast.{Cast}
use Rattle.vfa_ir.specs.declared.operations.Op.{Op}
use Rattle.vfa_ir.specs.declared.operations.Operand.{Operand}
use Rattle.vfa_ir.specs.declared.operations.ValueId.{ValueId}
use Rattle.vfa_ir.specs.declared.functions.Block.{Block}
use Rattle.vfa_ir.specs.declared.functions.CallArg.{CallArg}
use Rattle.vfa_ir.specs.declared.functions.CallOp.{CallOp}
use Rattle.vfa_ir.specs.declared.functions.Function.{Function}
use Rattle.vfa_ir.specs.declared.functions.Inst.{Inst}
use Rattle.vfa_ir.specs.declared.functions.Phi.{Phi}
use Rattle.vfa_ir.specs.declared.functions.Term.{Term}
use Rattle.vfa_ir.specs.Defined.{op_names}
use Rattle.vfa_ir.specs.Operands.{no_cast_flags, without_flags}
use Rattle.vfa_ir.specs.Printable.{block_call_places}
use Rattle.vfa_ir.specs.Walks.{IsReached, is_in}
use Rattle.vfa_mean.specs.Numbering.{each_number, numbered}
use Rattle.vfa_demand.specs.Masks.{result_mask}
use Rattle.vfa_demand.specs.Rows.{needs_all}
use Rattle.vfa_demand.specs.Used.{AreUsed}
use Rattle.vfa_bits.specs.Standing.{put_for}
use Rattle.vfa_bits.specs.Changed.{AreChanged, has_unseen_sign}

-- ---- an operation, with other operands; the pair of an `extractvalue` and the arguments of a call are no operands here

abbrev pub with_operands : (Operand → Operand) → Op → Op
with_operands put (Op.Bin bin flags w a b) = Op.Bin bin flags w (put a) (put b)
with_operands put (Op.Icmp pred samesign w a b) = Op.Icmp pred samesign w (put a) (put b)
with_operands put (Op.Select w c a b) = Op.Select w (put c) (put a) (put b)
with_operands put (Op.Cast cast flags v w a) = Op.Cast cast flags v w (put a)
with_operands put (Op.Freeze w a) = Op.Freeze w (put a)
with_operands put (Op.Two fun w a b) = Op.Two fun w (put a) (put b)
with_operands put (Op.One fun w a strict) = Op.One fun w (put a) strict
with_operands put (Op.Over over w a b) = Op.Over over w (put a) (put b)
with_operands put (Op.Part w pair index) = Op.Part w pair index
with_operands put (Op.Assume c) = Op.Assume (put c)
with_operands put (Op.Call width place) = Op.Call width place

-- a `sext` as `zext`
abbrev pub with_zeros : Op → Op
with_zeros (Op.Cast Cast.Sext _ v w a) = Op.Cast Cast.Zext no_cast_flags v w a
with_zeros op = op

abbrev pub narrowed_cast : Op → ℕ → Op
narrowed_cast op d = if has_unseen_sign op d then with_zeros op else op

-- without flags, where an operand may have changed
abbrev pub lost_flags : Bool → Op → Op
lost_flags changed op = if changed then without_flags op else op

abbrev pub has_changed : Function → (ℕ → Bool) → Op → Bool
has_changed f changed op = list_any changed (op_names f op)

-- ---- the lines of a function, as they are written anew: `reached` says of a block whether some walk comes to it, `changed` of
-- a name whether it may have changed

-- what these lines are written by
pub record Choices : Type 0 where
  pub reached : ℕ → Bool
  pub changed : ℕ → Bool

abbrev pub new_operation : Function → (ℕ → ℕ) → Choices → ℕ → Inst → Op
new_operation f masks by b i =
    with_operands (put_for f masks (by.reached b))
    (lost_flags (has_changed f by.changed i.op) (narrowed_cast i.op (result_mask masks i)))

abbrev pub new_line : Function → (ℕ → ℕ) → Choices → ℕ → Inst → Inst
new_line f masks by b i = record { result = i.result; op = new_operation f masks by b i }

-- a phi's operand is used at the end of its predecessor
abbrev pub new_entry : Function → (ℕ → ℕ) → Choices → (Operand × BlockId) → Operand × BlockId
new_entry f masks by e = (put_for f masks (by.reached e.1.0) e.0, e.1)

abbrev pub new_phi : Function → (ℕ → ℕ) → Choices → Phi → Phi
new_phi f masks by p = record { result = p.result; width = p.width; entries = map (new_entry f masks by) p.entries }

abbrev pub with_operand : (Operand → Operand) → Term → Term
with_operand put (Term.Ret w a) = Term.Ret w (put a)
with_operand put (Term.Br to) = Term.Br to
with_operand put (Term.CondBr c taken fallen) = Term.CondBr (put c) taken fallen
with_operand put (Term.Switch w on other cases) = Term.Switch w (put on) other cases
with_operand put Term.Unreachable = Term.Unreachable

abbrev pub new_block : Function → (ℕ → ℕ) → Choices → ℕ → Block → Block
new_block f masks by b block = record {
  name = block.name;
  phis = map (new_phi f masks by) block.phis;
  insts = map (new_line f masks by b) block.insts;
  term = with_operand (put_for f masks (by.reached b)) block.term;
}

-- the blocks, the first of which has number b
abbrev pub new_blocks : Function → (ℕ → ℕ) → Choices → ℕ → List Block → List Block
new_blocks f masks by b [] = []
new_blocks f masks by b (block ∷ rest) = new_block f masks by b block ∷ new_blocks f masks by (suc b) rest

-- whether the call of a place stands in a block that a walk comes to
abbrev pub is_reached_call : Choices → ℕ → ℕ → List Block → Bool
is_reached_call by place b [] = false
is_reached_call by place b (block ∷ rest) =
    by.reached b && is_in place (block_call_places block) || is_reached_call by place (suc b) rest

abbrev pub new_argument : (Operand → Operand) → CallArg → CallArg
new_argument put a = record { width = a.width; words = a.words; value = put a.value }

abbrev pub new_call : Function → (ℕ → ℕ) → Choices → ℕ → CallOp → CallOp
new_call f masks by place c = record {
  callee = c.callee;
  words = c.words;
  args = map (new_argument (put_for f masks (is_reached_call by place 0 f.blocks))) c.args;
}

-- the calls, the first of which has this place
abbrev pub new_calls : Function → (ℕ → ℕ) → Choices → ℕ → List CallOp → List CallOp
new_calls f masks by place [] = []
new_calls f masks by place (c ∷ rest) = new_call f masks by place c ∷ new_calls f masks by (suc place) rest

-- the function with all its lines
abbrev pub rewritten : Function → (ℕ → ℕ) → Choices → Function
rewritten f masks by = record {
  name = f.name;
  lead = f.lead;
  width = f.width;
  params = f.params;
  tail = f.tail;
  values = f.values;
  blocks = new_blocks f masks by 0 f.blocks;
  calls = new_calls f masks by 0 f.calls;
}

-- ---- the lines that stay: those of used names, and all divisions, calls and assumptions

-- whether such an instruction stands at this place of a block
abbrev pub must_stay : Function → ℕ → ℕ → Bool
must_stay f b i = elim (slice_get f.blocks b) [
  | None ↦ false
  | Some block ↦ elim (slice_get block.insts i) [ None ↦ false | Some inst ↦ needs_all inst.op ]
]

abbrev pub is_used : (ℕ → Bool) → Option ValueId → Bool
is_used used None = false
is_used used (Some v) = used v.0

abbrev pub stays : (ℕ → Bool) → Inst → Bool
stays used i = needs_all i.op || is_used used i.result

abbrev pub block_left : (ℕ → Bool) → Block → Block
block_left used block = record {
  name = block.name;
  phis = filter (λ p. used p.result.0) block.phis;
  insts = filter (stays used) block.insts;
  term = block.term;
}

-- the function with the lines that stay; its values are not numbered anew
abbrev pub left : (ℕ → Bool) → Function → Function
left used f = record {
  name = f.name;
  lead = f.lead;
  width = f.width;
  params = f.params;
  tail = f.tail;
  values = f.values;
  blocks = map (block_left used) f.blocks;
  calls = f.calls;
}

-- ---- the narrowed function

-- the test is of the blocks that some walk comes to
abbrev pub AreReached : Function → (ℕ → Bool) → Type 0
AreReached f reached = (b : ℕ) → (reached b ≡ true) ↔ IsReached f b

-- The second function is the first one narrowed, with its values numbered in text order.
pub record IsNarrowed (f : Function) (masks : ℕ → ℕ) (g : Function) : Type 0 where
  pub by : Choices
  pub used : ℕ → Bool
  pub are_reached : AreReached f by.reached
  pub are_changed : AreChanged f masks by.changed
  pub are_used : AreUsed (rewritten f masks by) (must_stay (rewritten f masks by)) used
  pub is : g ≡ numbered (left used (rewritten f masks by)) each_number
