-- Known bits that are the best ones. Of the result of an `and`, `or`, `xor`, `add` or `sub`, whatever its flags, a report leaves no
-- bit unknown that the known bits of the operands decide (LLVM's KnownBits: "optimal").
--
-- Where the bits of %x are 00?1, `add i4 %x, 1` has the bits 0??0: 1 + 1 is 2, and 3 + 1 is 4.
use Rattle.std.specs.Prelude.{◌≡◌, ℕ, zero, suc, ◌<◌, ◌^◌, Bool, Some, IsSomeAnd, All, ⊤}
use Rattle.std.specs.Int.{bit_at}
use Rattle.vfa_ir.specs.declared.operations.Bin.{Bin}
use Rattle.vfa_ir.specs.declared.operations.Op.{Op}
use Rattle.vfa_ir.specs.declared.operations.Operand.{Operand}
use Rattle.vfa_ir.specs.declared.functions.Block.{Block}
use Rattle.vfa_ir.specs.declared.functions.Function.{Function}
use Rattle.vfa_ir.specs.declared.functions.Inst.{Inst}
use Rattle.vfa_mean.specs.Meaning.{binary}
use Rattle.vfa_mean.specs.Moments.{Place, Into, At, IsLine}
use Rattle.vfa_mean.specs.declared.value.Done.{Done}
use Rattle.vfa_mean.specs.declared.value.Val.{Val}
use Rattle.vfa_fact.specs.Cells.{in_cell}
use Rattle.vfa_cond.specs.Conditions.{id}
use Rattle.vfa_cond.specs.States.{AbstractState}
use Rattle.vfa_xfer.specs.Overflows.{no_flags}
use Rattle.vfa_xfer.specs.Transfers.{cell_in, first_of, fact_answers}
use Rattle.vfa_xfer.specs.declared.any_fact.AnyFact.{AnyFact}
use Rattle.vfa_walk.specs.Tables.{States, IsTableOf, state_at}
use Rattle.vfa_report.specs.Report.{Known, ReportLine, report_lines}
use Rattle.vfa_report.specs.Showing.{EachHas, Differ}

-- the operations of whose results the best bits are known
abbrev pub HasBestBits : Bin → Type 0
HasBestBits Bin.And = ⊤
HasBestBits Bin.Or = ⊤
HasBestBits Bin.Xor = ⊤
HasBestBits Bin.Add = ⊤
HasBestBits Bin.Sub = ⊤
HasBestBits _ = ⊥

-- x agrees with the known bits of a set: where all its numbers have the same digit, x has it too
pub record AgreesWith (w : ℕ) (S : ℕ → Bool) (x : ℕ) : Type 0 where
  pub fits : x < 2 ^ w
  pub zero : (i : ℕ) → i < w → EachHas S 0 i → bit_at x i ≡ 0
  pub one : (i : ℕ) → i < w → EachHas S 1 i → bit_at x i ≡ 1

-- x agrees with the bits that a state knows of an operand: a name has a fact, a literal is its number, and `poison` is none
abbrev pub Agrees : ℕ → AbstractState AnyFact → Operand → ℕ → Type 0
Agrees w s (Operand.Value v) x = IsSomeAnd (s.fact v.0) (λ fact. AgreesWith w (in_cell (cell_in fact)) x)
Agrees w s (Operand.Literal bits) x = x ≡ bits
Agrees w s Operand.Poison x = ⊥

-- numbers that agree with the operands, each with its own, of which the operation, without its flags, gives one with this digit
-- at place i
pub record GivesDigit (s : AbstractState AnyFact) (bin : Bin) (w : ℕ) (a b : Operand) (i digit : ℕ) : Type 0 where
  pub left : ℕ
  pub right : ℕ
  pub result : ℕ
  pub left_agrees : Agrees w s a left
  pub right_agrees : Agrees w s b right
  pub gives : binary bin no_flags w (Val.Number left) (Val.Number right) ≡ Done.Is (Val.Number result)
  pub has : bit_at result i ≡ digit

-- where the numbers that are shown differ at a bit, so that it is unknown, both digits come about
abbrev pub IsBestOf : AbstractState AnyFact → Known → Op → Type 0
IsBestOf s k (Op.Bin bin flags w a b) =
    HasBestBits bin → (i : ℕ) → i < w → Differ (in_cell (first_of k.parts)) i → GivesDigit s bin w a b i 0 × GivesDigit s bin w a b i 1
IsBestOf s k _ = ⊤

-- The line stands right behind an instruction, whose result its name is. Right before it the table has a state, and by that what
-- is shown is the best.
pub record IsBestBehind (f : Function) (t : States AnyFact) (k : Known) (b i : ℕ) : Type 0 where
  pub block : Block
  pub inst : Inst
  pub line : IsLine f b block i inst
  pub result : inst.result ≡ Some (id k.name)
  pub before : AbstractState AnyFact
  pub is_before : state_at fact_answers f t (At b i) ≡ Some before
  pub best : IsBestOf before k inst.op

-- each line of the result of an instruction stands so; that of a phi stands at the entry of its block, and none before the phis
abbrev pub IsBestAt : Function → States AnyFact → Known → Place → Type 0
IsBestAt f t k (At b (suc i)) = IsBestBehind f t k b i
IsBestAt f t k (At b zero) = ⊤
IsBestAt f t k (Into from b) = ⊥

abbrev pub LineIsBest : Function → States AnyFact → ReportLine → Type 0
LineIsBest f t (ReportLine.defined k) = IsBestAt f t k k.place
LineIsBest f t _ = ⊤

-- so it is of each line of the report by the table of a function
abbrev pub ReportIsBest : Function → Type 0
ReportIsBest f = (t : States AnyFact) → IsTableOf fact_answers f t → All (LineIsBest f t) (report_lines f t)
