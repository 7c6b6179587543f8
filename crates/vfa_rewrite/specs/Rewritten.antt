-- The function that rewriting leaves, given what was decided of each place, edge, line and name: the marks. What decides
-- them stands in `Marks`. Values, blocks and calls keep their numbers here, and names that narrowing adds stand past the
-- others; a block that is gone is empty. What is left is then numbered in text order (`Numbering` of the meaning's crate).
use Rattle.std.specs.Prelude.{ℕ, zero, suc, ◌-◌, ◌%◌, ◌^◌, Bool, true, false, nat_eq, if◌then◌else◌, Option, Some, None, List, [], ◌∷◌, ◌++◌, length, map, slice_get}
use Rattle.vfa_ir.specs.declared.operations.BlockId.{BlockId}
use Rattle.vfa_ir.specs.declared.operations.Cast.{Cast}
use Rattle.vfa_ir.specs.declared.operations.Op.{Op}
use Rattle.vfa_ir.specs.declared.operations.Operand.{Operand}
use Rattle.vfa_ir.specs.declared.operations.ValueId.{ValueId}
use Rattle.vfa_ir.specs.declared.functions.Block.{Block}
use Rattle.vfa_ir.specs.declared.functions.CallArg.{CallArg}
use Rattle.vfa_ir.specs.declared.functions.CallOp.{CallOp}
use Rattle.vfa_ir.specs.declared.functions.Function.{Function}
use Rattle.vfa_ir.specs.declared.functions.Inst.{Inst}
use Rattle.vfa_ir.specs.declared.functions.Phi.{Phi}
use Rattle.vfa_ir.specs.declared.functions.Term.{Term}
use Rattle.vfa_ir.specs.declared.functions.Value.{Value}
use Rattle.vfa_ir.specs.Operands.{no_cast_flags}
use Rattle.vfa_ir.specs.PhisFit.{targets}
use Rattle.vfa_mean.specs.Moments.{Place, Into, At}
use Rattle.vfa_rules.specs.declared.change.Change.{Change}

-- ---- what is decided

pub record Marks : Type 0 where
  -- some run may come to instruction i of block b, or to its terminator, if i is the number of its instructions
  pub met : ℕ → ℕ → Bool
  -- some run may take edge k of block b
  pub left : ℕ → ℕ → Bool
  -- the blocks that are left
  pub reached : ℕ → Bool
  -- the names whose phi or instruction is left, and the instructions that are left
  pub keeps : ℕ → Bool
  pub stays : ℕ → ℕ → Bool
  -- the operand that is put in place of another at a place, and in place of an argument of a call
  pub put : Place → Operand → Operand
  pub put_call : ℕ → Operand → Operand
  -- what becomes of instruction i of block b
  pub change : ℕ → ℕ → Change
  -- the names that narrowing adds for it: the first operand, the second, and the result, at the lesser width
  pub fresh : ℕ → ℕ → ℕ → ℕ
  -- their types
  pub added : List Value

-- ---- lists

abbrev pub if_left : {A : Type 0} → Bool → A → List A → List A
if_left true x rest = x ∷ rest
if_left false x rest = rest

-- each element as what is made of it and its number, where the first has number i
abbrev pub with_numbers : {A B : Type 0} → (ℕ → A → B) → ℕ → List A → List B
with_numbers make i [] = []
with_numbers make i (x ∷ rest) = make i x ∷ with_numbers make (suc i) rest

-- ---- an instruction

-- the operation on other operands; the pair of an `extractvalue` stays, and the arguments of a call are put in the call
abbrev pub with_operands : (Operand → Operand) → Op → Op
with_operands put (Op.Bin bin flags w a b) = Op.Bin bin flags w (put a) (put b)
with_operands put (Op.Icmp pred samesign w a b) = Op.Icmp pred samesign w (put a) (put b)
with_operands put (Op.Select w c a b) = Op.Select w (put c) (put a) (put b)
with_operands put (Op.Cast cast flags v w a) = Op.Cast cast flags v w (put a)
with_operands put (Op.Freeze w a) = Op.Freeze w (put a)
with_operands put (Op.Two fun w a b) = Op.Two fun w (put a) (put b)
with_operands put (Op.One fun w a strict) = Op.One fun w (put a) strict
with_operands put (Op.Over over w a b) = Op.Over over w (put a) (put b)
with_operands put (Op.Part w pair index) = Op.Part w pair index
with_operands put (Op.Assume c) = Op.Assume (put c)
with_operands put (Op.Call w call) = Op.Call w call

-- an instruction that gives a name this operation's result
abbrev pub line_of : Option ValueId → Op → Inst
line_of result op = record { result = result; op = op }

abbrev pub name_of : ℕ → ValueId
name_of n = record { 0 = n }

-- a name is truncated from width w to v under a new name, a literal at once
abbrev pub truncation : ℕ → ℕ → Operand → ℕ → List Inst
truncation w v (Operand.Value n) name = line_of (Some (name_of name)) (Op.Cast Cast.Trunc no_cast_flags w v (Operand.Value n)) ∷ []
truncation w v (Operand.Literal x) name = []
truncation w v Operand.Poison name = []

abbrev pub truncated_operand : ℕ → Operand → ℕ → Operand
truncated_operand v (Operand.Value n) name = Operand.Value (name_of name)
truncated_operand v (Operand.Literal x) name = Operand.Literal (x % 2 ^ v)
truncated_operand v Operand.Poison name = Operand.Poison

-- A division at the lesser width v, for the operands truncated to it: of `%q = udiv i32 %x, 3` at width 8 the lines are
-- `%0 = trunc i32 %x to i8`, `%1 = udiv i8 %0, 3` and `%q = zext i8 %1 to i32`. Its result is widened again. Only a division is
-- narrowed: for any other operation this is the operation itself.
abbrev pub narrowed : (ℕ → ℕ) → ℕ → Option ValueId → Op → List Inst
narrowed fresh v result (Op.Bin bin flags w a b) =
    truncation w v a (fresh 0) ++ (truncation w v b (fresh 1)
    ++ (line_of (Some (name_of (fresh 2))) (Op.Bin bin flags v (truncated_operand v a (fresh 0)) (truncated_operand v b (fresh 1)))
    ∷ line_of result (Op.Cast Cast.Zext no_cast_flags v w (Operand.Value (name_of (fresh 2)))) ∷ []))
narrowed fresh v result op = line_of result op ∷ []

-- the lines in place of an instruction, with the operands that are put there
abbrev pub changed_by : Change → Marks → ℕ → ℕ → Inst → List Inst
changed_by (Change.Keep op) m b i inst = line_of inst.result (with_operands (m.put (At b i)) op) ∷ []
changed_by (Change.Narrow op v) m b i inst = narrowed (m.fresh b i) v inst.result (with_operands (m.put (At b i)) op)
changed_by (Change.Uses a) m b i inst = line_of inst.result (with_operands (m.put (At b i)) inst.op) ∷ []
changed_by Change.Gone m b i inst = []

abbrev pub changed : Marks → ℕ → ℕ → Inst → List Inst
changed m b i inst = changed_by (m.change b i) m b i inst

abbrev pub if_stays : Bool → List Inst → List Inst → List Inst
if_stays true lines rest = lines ++ rest
if_stays false lines rest = rest

-- behind a place that no run comes to nothing is left of the block
abbrev pub if_met : Bool → List Inst → List Inst
if_met true lines = lines
if_met false lines = []

-- What is left of the instructions of block b, the first of which has number i: after `call void @llvm.assume(i1 false)` no run
-- comes to the next instruction, so that one and all behind it go.
abbrev pub lines_left : Marks → ℕ → ℕ → List Inst → List Inst
lines_left m b i [] = []
lines_left m b i (inst ∷ rest) = if_met (m.met b i) (if_stays (m.stays b i) (changed m b i inst) (lines_left m b (suc i) rest))

-- the call of this number, with the arguments that are put there
abbrev pub argument_left : (Operand → Operand) → CallArg → CallArg
argument_left put a = record { width = a.width; words = a.words; value = put a.value }

abbrev pub call_left : Marks → ℕ → CallOp → CallOp
call_left m k call = record { callee = call.callee; words = call.words; args = map (argument_left (m.put_call k)) call.args }

-- ---- a terminator

-- A branch by a condition has the edges 0 and 1. Where just one is left it goes there always, and where none is left
-- nothing comes behind.
abbrev pub two_ways : Bool → Bool → Operand → BlockId → BlockId → Term
two_ways true true c taken fallen = Term.CondBr c taken fallen
two_ways true false c taken fallen = Term.Br taken
two_ways false true c taken fallen = Term.Br fallen
two_ways false false c taken fallen = Term.Unreachable

abbrev pub one_way : Bool → BlockId → Term
one_way true to = Term.Br to
one_way false to = Term.Unreachable

-- the cases that are left, the first of which is edge k
abbrev pub cases_left : (ℕ → Bool) → ℕ → List (ℕ × BlockId) → List (ℕ × BlockId)
cases_left left k [] = []
cases_left left k (e ∷ rest) = if_left (left k) e (cases_left left (suc k) rest)

-- the cases but the last, and where the last goes
abbrev pub but_last : ℕ × BlockId → List (ℕ × BlockId) → List (ℕ × BlockId)
but_last e [] = []
but_last e (d ∷ rest) = e ∷ but_last d rest

abbrev pub last_target : ℕ × BlockId → List (ℕ × BlockId) → BlockId
last_target e [] = e.1
last_target e (d ∷ rest) = last_target d rest

-- A switch keeps its cases that are left: of the cases 1, 2 and 3, of which 1 and 3 are left, these two. Where its other edge, of
-- number 0, is gone, the last of them becomes the other one.
abbrev pub many_ways : Bool → ℕ → Operand → BlockId → List (ℕ × BlockId) → Term
many_ways true w on other [] = Term.Br other
many_ways true w on other (e ∷ cases) = Term.Switch w on other (e ∷ cases)
many_ways false w on other [] = Term.Unreachable
many_ways false w on other (e ∷ []) = Term.Br e.1
many_ways false w on other (e ∷ (d ∷ rest)) = Term.Switch w on (last_target d rest) (e ∷ but_last d rest)

abbrev pub shrunk : (Operand → Operand) → (ℕ → Bool) → Term → Term
shrunk put left (Term.Ret w a) = Term.Ret w (put a)
shrunk put left (Term.Br to) = one_way (left 0) to
shrunk put left (Term.CondBr c taken fallen) = two_ways (left 0) (left 1) (put c) taken fallen
shrunk put left (Term.Switch w on other cases) = many_ways (left 0) w (put on) other (cases_left left 1 cases)
shrunk put left Term.Unreachable = Term.Unreachable

-- a terminator that no run comes to is unreachable
abbrev pub term_if_met : Bool → Term → Term
term_if_met true term = term
term_if_met false term = Term.Unreachable

abbrev pub term_left : Marks → ℕ → Block → Term
term_left m b block = term_if_met (m.met b (length block.insts)) (shrunk (m.put (At b (length block.insts))) (m.left b) block.term)

-- ---- phis

-- how many edges to a block are left of these targets, the first of which is edge k
abbrev pub edge_to : Bool → Bool → ℕ → ℕ
edge_to true true n = suc n
edge_to true false n = n
edge_to false there n = n

abbrev pub edges_from : (ℕ → Bool) → ℕ → ℕ → List BlockId → ℕ
edges_from left b k [] = 0
edges_from left b k (to ∷ rest) = edge_to (left k) (nat_eq to.0 b) (edges_from left b (suc k) rest)

abbrev pub if_reached : Bool → ℕ → ℕ
if_reached true n = n
if_reached false n = 0

-- how many edges from block p to block b are left; of a block that is not left, none
abbrev pub edges_of : Function → Marks → ℕ → ℕ → ℕ
edges_of f m b p = if_reached (m.reached p) (elim (slice_get f.blocks p) [ None ↦ 0 | Some block ↦ edges_from (m.left p) b 0 (targets block.term) ])

-- one entry fewer of block p
abbrev pub one_fewer : (ℕ → ℕ) → ℕ → ℕ → ℕ
one_fewer count p q = if nat_eq q p then count q - 1 else count q

abbrev pub if_counted : ℕ → List (Operand × BlockId) → List (Operand × BlockId) → List (Operand × BlockId)
if_counted zero kept gone = gone
if_counted (suc n) kept gone = kept

-- A phi keeps as many entries of a predecessor as edges from it are left, and these are the first that are written: of
-- `[ %x, %p ], [ %y, %q ], [ %x, %p ]`, where one edge from p is left and none from q, `[ %x, %p ]` alone.
abbrev pub entries_left : Marks → ℕ → List (Operand × BlockId) → (ℕ → ℕ) → List (Operand × BlockId)
entries_left m b [] count = []
entries_left m b (e ∷ rest) count = if_counted (count e.1.0)
    ((m.put (Into (Some e.1.0) b) e.0, e.1) ∷ entries_left m b rest (one_fewer count e.1.0))
    (entries_left m b rest count)

abbrev pub phi_left : Function → Marks → ℕ → Phi → Phi
phi_left f m b phi = record { result = phi.result; width = phi.width; entries = entries_left m b phi.entries (edges_of f m b) }

-- the phis whose names are kept
abbrev pub kept_phis : Function → Marks → ℕ → List Phi → List Phi
kept_phis f m b [] = []
kept_phis f m b (phi ∷ rest) = if_left (m.keeps phi.result.0) (phi_left f m b phi) (kept_phis f m b rest)

-- of a block that no run comes to the phis go too
abbrev pub phis_if_met : Bool → List Phi → List Phi
phis_if_met true phis = phis
phis_if_met false phis = []

abbrev pub phis_left : Function → Marks → ℕ → List Phi → List Phi
phis_left f m b phis = phis_if_met (m.met b 0) (kept_phis f m b phis)

-- ---- the function

abbrev pub rewritten_block : Function → Marks → ℕ → Block → Block
rewritten_block f m b block = record {
  name = block.name;
  phis = phis_left f m b block.phis;
  insts = lines_left m b 0 block.insts;
  term = term_left m b block;
}

-- a block that is gone
abbrev pub emptied : Block → Block
emptied block = record { name = block.name; phis = []; insts = []; term = Term.Unreachable }

abbrev pub if_block_left : Bool → Block → Block → Block
if_block_left true block empty = block
if_block_left false block empty = empty

abbrev pub block_left : Function → Marks → ℕ → Block → Block
block_left f m b block = if_block_left (m.reached b) (rewritten_block f m b block) (emptied block)

abbrev pub rewritten : Function → Marks → Function
rewritten f m = record {
  name = f.name;
  lead = f.lead;
  width = f.width;
  params = f.params;
  tail = f.tail;
  values = f.values ++ m.added;
  blocks = with_numbers (block_left f m) 0 f.blocks;
  calls = with_numbers (call_left m) 0 f.calls;
}
