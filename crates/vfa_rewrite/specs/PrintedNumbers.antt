-- Operands that can be one number alone are printed as that number (after LLVM's Correlated Value Propagation).
--
-- The function that is printed is laid beside the one that was read. Its blocks are some of the blocks, in order; in each of them
-- its phis and its instructions stand in place of some of the block's, in order, and its terminator in place of the block's.
-- Wherever something of the function is printed so, each of its operands that the table knows to be one number is printed as it.
--
-- In
--   %a = and i8 %x, 15
--   %b = and i8 %a, -16
--   %c = add i8 %x, %b
--   ret i8 %c
-- %b is 0 alone where %c is made of it, so `%c = add nuw nsw i8 %x, 0` is printed. The other two are gone, and nothing is said of
-- their operands.
use Rattle.std.specs.Prelude.{◌≡◌, ◌⊎◌, ⊤, ℕ, suc, ◌<◌, ◌%◌, ◌^◌, true, Option, Some, None, List, [], ◌∷◌, ◌++◌, length, slice_get}
use Rattle.std.specs.List.{AllByRecursion}
use Rattle.vfa_ir.specs.declared.operations.BlockId.{BlockId}
use Rattle.vfa_ir.specs.declared.operations.Cast.{Cast}
use Rattle.vfa_ir.specs.declared.operations.Op.{Op}
use Rattle.vfa_ir.specs.declared.operations.Operand.{Operand}
use Rattle.vfa_ir.specs.declared.operations.Ty.{Ty}
use Rattle.vfa_ir.specs.declared.operations.ValueId.{ValueId}
use Rattle.vfa_ir.specs.declared.functions.Block.{Block}
use Rattle.vfa_ir.specs.declared.functions.Function.{Function}
use Rattle.vfa_ir.specs.declared.functions.Inst.{Inst}
use Rattle.vfa_ir.specs.declared.functions.Phi.{Phi}
use Rattle.vfa_ir.specs.declared.functions.Term.{Term}
use Rattle.vfa_ir.specs.Operands.{operands_of}
use Rattle.vfa_fact.specs.Cells.{CellValue, in_cell}
use Rattle.vfa_fact.specs.declared.cell.Parts.{Parts}
use Rattle.vfa_mean.specs.Moments.{Place, Into, At}
use Rattle.vfa_cond.specs.States.{AbstractState}
use Rattle.vfa_xfer.specs.declared.any_fact.AnyFact.{AnyFact}
use Rattle.vfa_xfer.specs.Transfers.{fact_answers}
use Rattle.vfa_walk.specs.Stepping.{fact_of, is_division}
use Rattle.vfa_walk.specs.Tables.{States, state_at}
use Rattle.vfa_rewrite.specs.Marks.{term_operands}

-- ---- operands that are one number

-- x is a number of the cell, and there is no other
pub record IsOnlyNumber (c : CellValue) (x : ℕ) : Type 0 where
  pub fits : x < 2 ^ c.width
  pub member : in_cell c x ≡ true
  pub only : (y : ℕ) → y < 2 ^ c.width → in_cell c y ≡ true → y ≡ x

abbrev pub HaveOnlyNumber : Parts → ℕ → Type 0
HaveOnlyNumber (Parts.One c) x = IsOnlyNumber c x
HaveOnlyNumber (Parts.Two c d) x = ⊥

-- by the state of the table at the place x is the only number that the operand of this width may be there
pub record IsOneNumber (f : Function) (t : States AnyFact) (place : Place) (w : ℕ) (a : Operand) (x : ℕ) : Type 0 where
  pub state : AbstractState AnyFact
  pub is_state : state_at fact_answers f t place ≡ Some state
  pub only : HaveOnlyNumber (fact_of fact_answers state (Ty.Int w) a).parts x

-- each of these operands that is one number is printed as it, at its place and at its width
abbrev pub PrintNumbers : Function → States AnyFact → Place → List (Ty × Operand) → List (Ty × Operand) → Type 0
PrintNumbers f t place operands printed =
    (k w x : ℕ) (a : Operand) → slice_get operands k ≡ Some (Ty.Int w, a) → IsOneNumber f t place w a x →
    slice_get printed k ≡ Some (Ty.Int w, Operand.Literal x)

-- the same at a lesser width v
abbrev pub PrintNumbersAt : ℕ → Function → States AnyFact → Place → List (Ty × Operand) → List (Ty × Operand) → Type 0
PrintNumbersAt v f t place operands printed =
    (k w x : ℕ) (a : Operand) → slice_get operands k ≡ Some (Ty.Int w, a) → IsOneNumber f t place w a x →
    slice_get printed k ≡ Some (Ty.Int v, Operand.Literal (x % 2 ^ v))

-- ---- instructions

-- the result is the same value: of the same name, if it has one, and of the same type
abbrev pub IsSameResult : Function → Function → Option ValueId → Option ValueId → Type 0
IsSameResult f g None None = ⊤
IsSameResult f g (Some v) (Some v') = slice_get g.values v'.0 ≡ slice_get f.values v.0
IsSameResult f g None (Some v') = ⊥
IsSameResult f g (Some v) None = ⊥

pub record IsPrintedAs (f : Function) (t : States AnyFact) (g : Function) (place : Place) (inst line : Inst) : Type 0 where
  pub result : IsSameResult f g inst.result line.result
  pub operands : PrintNumbers f t place (operands_of f inst.op) (operands_of g line.op)

abbrev pub IsCast : Cast → ℕ → ℕ → Op → Type 0
IsCast cast from to (Op.Cast cast' _ from' to' _) = (cast' ≡ cast) × (from' ≡ from) × (to' ≡ to)
IsCast cast from to _ = ⊥

-- a division or remainder of this width
abbrev pub IsDivision : ℕ → Op → Type 0
IsDivision w (Op.Bin bin _ w' _ _) = (is_division bin ≡ true) × (w' ≡ w)
IsDivision w _ = ⊥

-- In place of a division of width w stands one of a lesser width v. Names are truncated before it, and its result is extended
-- behind it where it is used.
pub record IsNarrowedTo (f : Function) (t : States AnyFact) (g : Function) (place : Place) (inst : Inst) (lines : List Inst) (w v : ℕ) : Type 0 where
  pub lesser : v < w
  pub before : List Inst
  pub division : Inst
  pub behind : List Inst
  pub are : lines ≡ before ++ (division ∷ behind)
  pub truncate : AllByRecursion (λ (line : Inst). IsCast Cast.Trunc w v line.op) before
  pub divides : IsDivision v division.op
  pub extend : AllByRecursion (λ (line : Inst). IsSameResult f g inst.result line.result × IsCast Cast.Zext v w line.op) behind
  pub operands : PrintNumbersAt v f t place (operands_of f inst.op) (operands_of g division.op)

-- what is printed in place of an instruction: nothing, a line, or the lines of a division of a lesser width
pub data AreInPlaceOf (f : Function) (t : States AnyFact) (g : Function) (place : Place) (inst : Inst) : List Inst → Type 0 where
  nothing : AreInPlaceOf f t g place inst []
  one_line : (line : Inst) → IsPrintedAs f t g place inst line → AreInPlaceOf f t g place inst (line ∷ [])
  division_lines : (lines : List Inst) (w v : ℕ) → IsNarrowedTo f t g place inst lines w v → AreInPlaceOf f t g place inst lines

-- the instructions of block b, the first of which has number i, and the printed ones
pub data ArePrinted (f : Function) (t : States AnyFact) (g : Function) (b : ℕ) : ℕ → List Inst → List Inst → Type 0 where
  end : (i : ℕ) → ArePrinted f t g b i [] []
  next : (i : ℕ) (inst : Inst) (rest lines later : List Inst) → AreInPlaceOf f t g (At b i) inst lines → ArePrinted f t g b (suc i) rest later →
      ArePrinted f t g b i (inst ∷ rest) (lines ++ later)

-- ---- phis

-- each of the second list stands in place of one of the first, in order
pub data StandForSome {A B : Type 0} (InPlaceOf : A → B → Type 0) : List A → List B → Type 0 where
  none : StandForSome InPlaceOf [] []
  gone : (x : A) (xs : List A) (ys : List B) → StandForSome InPlaceOf xs ys → StandForSome InPlaceOf (x ∷ xs) ys
  stands : (x : A) (xs : List A) (y : B) (ys : List B) → InPlaceOf x y → StandForSome InPlaceOf xs ys → StandForSome InPlaceOf (x ∷ xs) (y ∷ ys)

-- an entry for the same block; where its operand is one number along the edges from there, it is printed as it. `kept` has the
-- numbers of the blocks that are printed, in order
pub record IsEntryFor (f : Function) (t : States AnyFact) (kept : List ℕ) (b w : ℕ) (e e' : Operand × BlockId) : Type 0 where
  pub from : slice_get kept e'.1.0 ≡ Some e.1.0
  pub number : (x : ℕ) → IsOneNumber f t (Into (Some e.1.0) b) w e.0 x → e'.0 ≡ Operand.Literal x

pub record IsPhiFor (f : Function) (t : States AnyFact) (g : Function) (kept : List ℕ) (b : ℕ) (phi printed : Phi) : Type 0 where
  pub result : slice_get g.values printed.result.0 ≡ slice_get f.values phi.result.0
  pub width : printed.width ≡ phi.width
  pub entries : StandForSome (IsEntryFor f t kept b phi.width) phi.entries printed.entries

-- ---- the function

-- a terminator that is left has its operand; one in place of which a branch without a condition or `unreachable` stands has none
abbrev pub IsEndFor : Function → States AnyFact → Place → Term → Term → Type 0
IsEndFor f t place term printed = (term_operands printed ≡ []) ⊎ PrintNumbers f t place (term_operands term) (term_operands printed)

pub record IsBlockFor (f : Function) (t : States AnyFact) (g : Function) (kept : List ℕ) (b : ℕ) (block printed : Block) : Type 0 where
  pub name : printed.name ≡ block.name
  pub phis : StandForSome (IsPhiFor f t g kept b) block.phis printed.phis
  pub insts : ArePrinted f t g b 0 block.insts printed.insts
  pub term : IsEndFor f t (At b (length block.insts)) block.term printed.term

-- each number is greater than the one before it
abbrev pub IsAscending : List ℕ → Type 0
IsAscending [] = ⊤
IsAscending (n ∷ rest) = AllByRecursion (λ m. n < m) rest × IsAscending rest

-- g is printed in place of f so, by the table
pub record PrintsNumbers (f : Function) (t : States AnyFact) (g : Function) : Type 0 where
  pub kept : List ℕ
  pub in_order : IsAscending kept
  pub count : length kept ≡ length g.blocks
  pub blocks : (j b : ℕ) (printed : Block) → slice_get kept j ≡ Some b → slice_get g.blocks j ≡ Some printed →
      (block : Block) × (slice_get f.blocks b ≡ Some block) × IsBlockFor f t g kept b block printed
