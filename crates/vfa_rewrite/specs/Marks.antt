-- The marks that what was found out gives: each rule of rewriting by facts (LLVM's CorrelatedValuePropagation).
use Rattle.std.specs.Prelude.{ℕ, ◌+◌, ◌*◌, ◌≡◌, ◌<◌, ◌↔◌, ◌⊎◌, Bool, true, Option, Some, None, List, [], ◌∷◌, length, slice_get, ⊤}
use Rattle.std.specs.List.{AllByRecursion}
use Rattle.vfa_ir.specs.declared.operations.BlockId.{BlockId}
use Rattle.vfa_ir.specs.declared.operations.Op.{Op}
use Rattle.vfa_ir.specs.declared.operations.Operand.{Operand}
use Rattle.vfa_ir.specs.declared.operations.Ty.{Ty}
use Rattle.vfa_ir.specs.declared.operations.ValueId.{ValueId}
use Rattle.vfa_ir.specs.declared.functions.Block.{Block}
use Rattle.vfa_ir.specs.declared.functions.Function.{Function}
use Rattle.vfa_ir.specs.declared.functions.Inst.{Inst}
use Rattle.vfa_ir.specs.declared.functions.Phi.{Phi}
use Rattle.vfa_ir.specs.declared.functions.Term.{Term}
use Rattle.vfa_ir.specs.declared.functions.Value.{Value}
use Rattle.vfa_ir.specs.Defined.{op_names, operand_names, term_names}
use Rattle.vfa_ir.specs.Operands.{operands_of}
use Rattle.vfa_ir.specs.PhisFit.{targets}
use Rattle.vfa_ir.specs.Words.{is_in}
use Rattle.vfa_mean.specs.Moments.{Place, Into, At, IsLine}
use Rattle.vfa_mean.specs.Outcomes.{first_block}
use Rattle.vfa_rewrite.specs.Findings.{OneNumber, NoNumber, Undecided, Findings, operation_of}
use Rattle.vfa_rules.specs.declared.change.Change.{Change}
use Rattle.vfa_rewrite.specs.Rewritten.{Marks, with_operands, term_left, edges_of, rewritten}

-- ---- replaced names: the name of an instruction that gives one of its operands, or is frozen already

pub record IsReplaced (f : Function) (found : Findings) (n : ℕ) (u : Operand) : Type 0 where
  pub b : ℕ
  pub i : ℕ
  pub block : Block
  pub inst : Inst
  pub name : ValueId
  pub line : IsLine f b block i inst
  pub met : found.met b i ≡ true
  pub result : inst.result ≡ Some name
  pub same : name.0 ≡ n
  pub uses : found.change b i inst ≡ Change.Uses u

-- no operand takes the place of this one
abbrev pub HasNoOther : Function → Findings → Operand → Type 0
HasNoOther f found (Operand.Value n) = (u : Operand) → IsReplaced f found n.0 u → ⊥
HasNoOther f found (Operand.Literal x) = ⊤
HasNoOther f found Operand.Poison = ⊤

-- ---- operands: what an operand of a type becomes at a place that a run may come to

-- In `%a = and i8 %x, 15`, `%b = and i8 %a, 31`, `ret i8 %b` the uses of %b become %a, since the second `and` drops nothing; so
-- the `ret` takes %a.
--
-- One number becomes that literal, and what has no number becomes poison. Else the operand that takes a replaced name's place
-- becomes what it becomes there, and any other operand stays.
pub data Becomes (f : Function) (found : Findings) (place : Place) (ty : Ty) : Operand → Operand → Type 0 where
  number : (a : Operand) (x : ℕ) → found.decision place ty a ≡ OneNumber x → Becomes f found place ty a (Operand.Literal x)
  no_number : (a : Operand) → found.decision place ty a ≡ NoNumber → Becomes f found place ty a Operand.Poison
  replaced : (n : ValueId) (u a' : Operand) → found.decision place ty (Operand.Value n) ≡ Undecided → IsReplaced f found n.0 u →
      Becomes f found place ty u a' → Becomes f found place ty (Operand.Value n) a'
  stays : (a : Operand) → found.decision place ty a ≡ Undecided → HasNoOther f found a → Becomes f found place ty a a

-- an operand of integer type; the pair of an `extractvalue` stays
abbrev pub IsPut : Function → Findings → Place → (Operand → Operand) → Ty × Operand → Type 0
IsPut f found place put (Ty.Int w, a) = Becomes f found place (Ty.Int w) a (put a)
IsPut f found place put (Ty.Pair w, a) = ⊤

-- the operand of a terminator with its type
abbrev pub term_operands : Term → List (Ty × Operand)
term_operands (Term.Ret w a) = (Ty.Int w, a) ∷ []
term_operands (Term.Br to) = []
term_operands (Term.CondBr c taken fallen) = (Ty.Int 1, c) ∷ []
term_operands (Term.Switch w on other cases) = (Ty.Int w, on) ∷ []
term_operands Term.Unreachable = []

-- ---- blocks left: those that are reached from the entry over edges left

pub data Reached (f : Function) (found : Findings) : ℕ → Type 0 where
  first : Reached f found first_block
  next : (b : ℕ) (block : Block) (k : ℕ) (to : BlockId) → Reached f found b → slice_get f.blocks b ≡ Some block →
      slice_get (targets block.term) k ≡ Some to → found.left b k ≡ true → Reached f found to.0

-- ---- instructions left

-- what has to stay though nothing uses it: a call, an `assume` that is left, and a division that may be undefined
abbrev pub HasEffect : Op → Bool → Type 0
HasEffect (Op.Call width call) undefined = ⊤
HasEffect (Op.Assume c) undefined = ⊤
HasEffect (Op.Bin bin flags w a b) undefined = undefined ≡ true
HasEffect op undefined = ⊥

abbrev pub IsGone : Change → Type 0
IsGone Change.Gone = ⊤
IsGone (Change.Keep op) = ⊥
IsGone (Change.Narrow op v) = ⊥
IsGone (Change.Uses u) = ⊥

pub record MustStay (found : Findings) (b i : ℕ) (inst : Inst) : Type 0 where
  pub effect : HasEffect inst.op (found.may_be_undefined b i inst)
  pub left : IsGone (found.change b i inst) → ⊥

-- an instruction of a block that is left, which a run may come to
pub record IsLeftLine (f : Function) (m : Marks) (b : ℕ) (block : Block) (i : ℕ) (inst : Inst) : Type 0 where
  pub line : IsLine f b block i inst
  pub reached : m.reached b ≡ true
  pub met : m.met b i ≡ true

-- the names that the lines in place of an instruction use
abbrev pub UsesName : Function → Findings → Marks → ℕ → ℕ → Inst → ℕ → Type 0
UsesName f found m b i inst n =
    is_in n (op_names (rewritten f m) (with_operands (m.put (At b i)) (operation_of (found.change b i inst) inst.op))) ≡ true

-- In `%q = udiv i8 %x, %y`, `%r = add i8 %q, 1`, `ret i8 0` no name is used, but where %y may be 0 the division has to stay, so %x and
-- %y are kept; %q and %r are not.
--
-- The names that are kept: the least set that has those that terminators use, those that instructions use which have to stay,
-- and with a name those that its instruction or phi uses.
pub data Kept (f : Function) (found : Findings) (m : Marks) : ℕ → Type 0 where
  by_end : (b : ℕ) (block : Block) (n : ℕ) → slice_get f.blocks b ≡ Some block → m.reached b ≡ true →
      is_in n (term_names (term_left m b block)) ≡ true → Kept f found m n
  by_effect : (b : ℕ) (block : Block) (i : ℕ) (inst : Inst) (n : ℕ) → IsLeftLine f m b block i inst → MustStay found b i inst →
      UsesName f found m b i inst n → Kept f found m n
  by_line : (b : ℕ) (block : Block) (i : ℕ) (inst : Inst) (name : ValueId) (n : ℕ) → IsLeftLine f m b block i inst → inst.result ≡ Some name →
      Kept f found m name.0 → UsesName f found m b i inst n → Kept f found m n
  by_phi : (b : ℕ) (block : Block) (j : ℕ) (phi : Phi) (k : ℕ) (e : Operand × BlockId) (n : ℕ) → slice_get f.blocks b ≡ Some block →
      m.reached b ≡ true → m.met b 0 ≡ true → slice_get block.phis j ≡ Some phi → Kept f found m phi.result.0 →
      slice_get phi.entries k ≡ Some e → (edges_of f m b e.1.0 ≡ 0 → ⊥) →
      is_in n (operand_names (m.put (Into (Some e.1.0) b) e.0)) ≡ true → Kept f found m n

abbrev pub ResultIsKept : Marks → Option ValueId → Type 0
ResultIsKept m None = ⊥
ResultIsKept m (Some name) = m.keeps name.0 ≡ true

-- ---- the marks

-- what is put at an instruction that a run may come to
pub record LineIsMarked (f : Function) (found : Findings) (m : Marks) (b i : ℕ) (inst : Inst) : Type 0 where
  pub change : m.change b i ≡ found.change b i inst
  pub operands : AllByRecursion (IsPut f found (At b i) (m.put (At b i))) (operands_of f (operation_of (found.change b i inst) inst.op))
  pub arguments : (width : Option ℕ) (k : ℕ) → inst.op ≡ Op.Call width k → (a : Operand) → m.put_call k a ≡ m.put (At b i) a
  pub stays : (m.stays b i ≡ true) ↔ (MustStay found b i inst ⊎ ResultIsKept m inst.result)

pub record EntryIsMarked (f : Function) (found : Findings) (m : Marks) (b width : ℕ) (e : Operand × BlockId) : Type 0 where
  pub put : (edges_of f m b e.1.0 ≡ 0 → ⊥) → Becomes f found (Into (Some e.1.0) b) (Ty.Int width) e.0 (m.put (Into (Some e.1.0) b) e.0)

-- The names that narrowing adds for a division with result n stand behind all names of the function: in one of 5 values those
-- for %3 are 14, the first operand at the lesser width, 15, the second, and 16, the result.
abbrev pub fresh_name : Function → ℕ → ℕ → ℕ
fresh_name f n k = length f.values + 3 * n + k

pub record AreFresh (f : Function) (m : Marks) (b i n : ℕ) : Type 0 where
  pub fresh : (k : ℕ) → m.fresh b i k ≡ fresh_name f n k

pub record BlockIsMarked (f : Function) (found : Findings) (m : Marks) (b : ℕ) (block : Block) : Type 0 where
  pub phis : AllByRecursion (λ (phi : Phi). AllByRecursion (EntryIsMarked f found m b phi.width) phi.entries) block.phis
  pub lines : (i : ℕ) (inst : Inst) → slice_get block.insts i ≡ Some inst → m.met b i ≡ true → LineIsMarked f found m b i inst
  pub fresh : (i : ℕ) (inst : Inst) (name : ValueId) (op : Op) (v : ℕ) → slice_get block.insts i ≡ Some inst → m.met b i ≡ true → inst.result ≡ Some name →
      found.change b i inst ≡ Change.Narrow op v → AreFresh f m b i name.0
  pub term : m.met b (length block.insts) ≡ true →
      AllByRecursion (IsPut f found (At b (length block.insts)) (m.put (At b (length block.insts)))) (term_operands block.term)

-- ---- names that narrowing adds

-- an instruction of a block that is left, which a run may come to, gives the name, and is narrowed to width v
pub record IsNarrowed (f : Function) (found : Findings) (m : Marks) (n v : ℕ) : Type 0 where
  pub b : ℕ
  pub i : ℕ
  pub block : Block
  pub inst : Inst
  pub name : ValueId
  pub op : Op
  pub left : IsLeftLine f m b block i inst
  pub result : inst.result ≡ Some name
  pub same : name.0 ≡ n
  pub narrows : found.change b i inst ≡ Change.Narrow op v

-- the type of the names that are added for n; where nothing is narrowed they stand for nothing, and are of type i1
pub data AddedType (f : Function) (found : Findings) (m : Marks) (n : ℕ) : Ty → Type 0 where
  at_width : (v : ℕ) → IsNarrowed f found m n v → AddedType f found m n (Ty.Int v)
  not_narrowed : ((v : ℕ) → IsNarrowed f found m n v → ⊥) → AddedType f found m n (Ty.Int 1)

-- a value without a name in the text
abbrev pub unnamed : Ty → Value
unnamed ty = record { name = None; ty = ty }

pub record IsAdded (f : Function) (found : Findings) (m : Marks) (n k : ℕ) : Type 0 where
  pub ty : Ty
  pub is_type : AddedType f found m n ty
  pub stands : slice_get m.added (3 * n + k) ≡ Some (unnamed ty)

pub record AreAdded (f : Function) (found : Findings) (m : Marks) : Type 0 where
  pub count : length m.added ≡ 3 * length f.values
  pub each : (n k : ℕ) → n < length f.values → k < 3 → IsAdded f found m n k

-- ---- calls

-- an instruction of a block that is left, which a run may come to, makes the call
pub record IsLeftCall (f : Function) (m : Marks) (k : ℕ) : Type 0 where
  pub b : ℕ
  pub i : ℕ
  pub block : Block
  pub inst : Inst
  pub width : Option ℕ
  pub left : IsLeftLine f m b block i inst
  pub calls : inst.op ≡ Op.Call width k

pub record AreMarks (f : Function) (found : Findings) (m : Marks) : Type 0 where
  pub met : (b i : ℕ) → m.met b i ≡ found.met b i
  pub left : (b k : ℕ) → m.left b k ≡ found.left b k
  pub reached : (b : ℕ) → (m.reached b ≡ true) ↔ Reached f found b
  pub keeps : (n : ℕ) → (m.keeps n ≡ true) ↔ Kept f found m n
  pub blocks : (b : ℕ) (block : Block) → slice_get f.blocks b ≡ Some block → m.reached b ≡ true → BlockIsMarked f found m b block
  pub added : AreAdded f found m
  -- a call that no instruction left makes keeps its arguments
  pub calls : (k : ℕ) → (IsLeftCall f m k → ⊥) → (a : Operand) → m.put_call k a ≡ a
