-- The report on a function: what a table says of its names. Each line stands for a place, and shows what the state of the table
-- there says.
use Rattle.std.specs.Prelude.{◌≡◌, ℕ, suc, Option, Some, None, List, [], ◌∷◌, ◌++◌, flat_map, codes}
use Rattle.vfa_fact.specs.declared.cell.Parts.{Parts}
use Rattle.vfa_ir.specs.declared.operations.ValueId.{ValueId}
use Rattle.vfa_ir.specs.declared.functions.Block.{Block}
use Rattle.vfa_ir.specs.declared.functions.Function.{Function}
use Rattle.vfa_ir.specs.declared.functions.Inst.{Inst}
use Rattle.vfa_ir.specs.Shown.{shown_value_name, shown_block_name}
use Rattle.vfa_mean.specs.Moments.{Place, At}
use Rattle.vfa_mean.specs.Outcomes.{first_block}
use Rattle.vfa_print.specs.Layout.{name_text, line_feed}
use Rattle.vfa_cond.specs.States.{AbstractState}
use Rattle.vfa_xfer.specs.declared.any_fact.AnyFact.{AnyFact}
use Rattle.vfa_xfer.specs.Transfers.{fact_answers}
use Rattle.vfa_walk.specs.Tables.{States, IsTableOf, state_at}
use Rattle.vfa_report.specs.FactLines.{fact_lines, local_text}
use Rattle.vfa_report.specs.Uses.{names_in}

-- what a state says of a name at a place
pub record Known : Type 0 where
  pub place : Place
  pub name : ℕ
  pub parts : Parts

pub data ReportLine : Type 0 where
  -- the name of the function
  function : ReportLine
  -- a parameter, where the function begins
  parameter : Known → ReportLine
  -- a block, one that a run may come to
  block : ℕ → ReportLine
  -- a block that no run comes to
  never_reached : ℕ → ReportLine
  -- a name that a block uses and does not define, at the entry of the block after its phis
  used : Known → ReportLine
  -- a result, right after its definition
  defined : Known → ReportLine
  -- no run goes on behind this instruction of the block
  never_past : ℕ → ℕ → ReportLine

-- ---- the lines

-- the line for a name at a place where the table has this state; a name without a fact has none
abbrev pub known_at : (Known → ReportLine) → Place → AbstractState AnyFact → ℕ → List ReportLine
known_at line place s v =
    elim (s.fact v) [ None ↦ [] | Some fact ↦ line (record { place = place; name = v; parts = fact.parts }) ∷ [] ]

abbrev pub parameter_lines : Function → States AnyFact → List ReportLine
parameter_lines f t = elim (t first_block) [
  | None ↦ []
  | Some s ↦ flat_map (λ p. known_at ReportLine.parameter (At first_block 0) s p.value.0) f.params
]

abbrev pub used_lines : Function → ℕ → Block → AbstractState AnyFact → List ReportLine
used_lines f b body s = flat_map (known_at ReportLine.used (At b 0) s) (names_in f body)

abbrev pub phi_lines : ℕ → Block → AbstractState AnyFact → List ReportLine
phi_lines b body s = flat_map (λ p. known_at ReportLine.defined (At b 0) s p.result.0) body.phis

abbrev pub result_lines : ℕ → ℕ → Option ValueId → AbstractState AnyFact → List ReportLine
result_lines b after None s = []
result_lines b after (Some v) s = known_at ReportLine.defined (At b after) s v.0

-- the lines of the instructions from number i on, up to one that no run goes on behind
abbrev pub inst_lines : Function → States AnyFact → ℕ → ℕ → List Inst → List ReportLine
inst_lines f t b i [] = []
inst_lines f t b i (inst ∷ rest) = elim (state_at fact_answers f t (At b (suc i))) [
  | None ↦ ReportLine.never_past b i ∷ []
  | Some s ↦ result_lines b (suc i) inst.result s ++ inst_lines f t b (suc i) rest
]

abbrev pub block_lines : Function → States AnyFact → ℕ → Block → List ReportLine
block_lines f t b body = elim (t b) [
  | None ↦ ReportLine.never_reached b ∷ []
  | Some s ↦ ReportLine.block b ∷ (used_lines f b body s ++ (phi_lines b body s ++ inst_lines f t b 0 body.insts))
]

-- the lines of these blocks, the first of which has number b
abbrev pub lines_from : Function → States AnyFact → ℕ → List Block → List ReportLine
lines_from f t b [] = []
lines_from f t b (body ∷ rest) = block_lines f t b body ++ lines_from f t (suc b) rest

abbrev pub report_lines : Function → States AnyFact → List ReportLine
report_lines f t = ReportLine.function ∷ (parameter_lines f t ++ lines_from f t 0 f.blocks)

-- ---- the text

-- the line, or the two lines of a pair, each with what stands before it
abbrev pub known_lines : Function → List ℕ → Known → List ℕ
known_lines f before k =
    flat_map (λ line. before ++ (line ++ line_feed)) (fact_lines (local_text (shown_value_name f k.name)) k.parts)

abbrev pub block_text : Function → ℕ → List ℕ
block_text f b = codes "  block " ++ local_text (shown_block_name f b)

abbrev pub line_text : Function → ReportLine → List ℕ
line_text f ReportLine.function = codes "function @" ++ (name_text f.name ++ line_feed)
line_text f (ReportLine.parameter k) = known_lines f (codes "  param ") k
line_text f (ReportLine.block b) = block_text f b ++ line_feed
line_text f (ReportLine.never_reached b) = block_text f b ++ (codes " never-reached" ++ line_feed)
line_text f (ReportLine.used k) = known_lines f (codes "    in ") k
line_text f (ReportLine.defined k) = known_lines f (codes "    def ") k
line_text f (ReportLine.never_past b i) = codes "    never-past-here" ++ line_feed

-- the report on the function by a table
abbrev pub report_text : Function → States AnyFact → List ℕ
report_text f t = flat_map (line_text f) (report_lines f t)

-- the text is the report on the function by its table
pub record IsReport (f : Function) (text : List ℕ) : Type 0 where
  pub table : States AnyFact
  pub is_table : IsTableOf fact_answers f table
  pub is : text ≡ report_text f table
