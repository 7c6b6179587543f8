-- The lines of a report show what the states of the table have, and so the best bits.
use Rattle.std.proofs.Common.{◌≡◌, ◌+◌, ◌<◌, ◌^◌, ◌++◌, ℕ, suc, true, false, if◌then◌else◌, Option, Some, None, List, [], ◌∷◌, flat_map, slice_get, All, unwrap_or, refl, sym, ap, subst, ◌∙◌, arith, eq-eqb}
use Rattle.std.specs.Prelude.{IsSome, IsSomeAnd}
use Rattle.std.specs.List.{AllByRecursion}
use Rattle.std.specs.Option.{ForSome, option_map}
use Rattle.std.proofs.lemmas.List.Elements.{All-from_recursion}
use Rattle.std.proofs.lemmas.Option.{same_Some}
use Rattle.vfa_ir.specs.declared.operations.Bin.{Bin}
use Rattle.vfa_ir.specs.declared.operations.Flags.{Flags}
use Rattle.vfa_ir.specs.declared.operations.Op.{Op}
use Rattle.vfa_ir.specs.declared.operations.Operand.{Operand}
use Rattle.vfa_ir.specs.declared.operations.Ty.{Ty}
use Rattle.vfa_ir.specs.declared.operations.ValueId.{ValueId}
use Rattle.vfa_ir.specs.declared.functions.Block.{Block}
use Rattle.vfa_ir.specs.declared.functions.Function.{Function}
use Rattle.vfa_ir.specs.declared.functions.Inst.{Inst}
use Rattle.vfa_ir.specs.declared.functions.Param.{Param}
use Rattle.vfa_ir.specs.declared.functions.Phi.{Phi}
use Rattle.vfa_ir.specs.Defined.{operand_names, op_names}
use Rattle.vfa_ir.specs.Printable.{IsPrintable}
use Rattle.vfa_ir.specs.Walks.{is_in}
use Rattle.vfa_known.specs.Cube.{in_masks}
use Rattle.vfa_fact.specs.declared.cell.Parts.{Parts}
use Rattle.vfa_fact.specs.declared.numbers.Numbers.{Numbers}
use Rattle.vfa_fact.specs.Cells.{CellValue, IsCell, in_cell, in_option, only_number}
use Rattle.vfa_fact.specs.Fact.{IsFact, masks_in}
use Rattle.vfa_mean.specs.Moments.{Place, At, IsLine}
use Rattle.vfa_mean.specs.Outcomes.{first_block}
use Rattle.vfa_mean.proofs.FreshOperands.Definitions.{in_left, in_right, in_first}
use Rattle.vfa_mean.proofs.FreshOperands.Walking.{use_is_defined}
use Rattle.vfa_check.specs.Checked.{IsChecked}
use Rattle.vfa_values.specs.Conditions.{IsOf}
use Rattle.vfa_cond.specs.Conditions.{AreFacts, id}
use Rattle.vfa_cond.specs.Narrowing.{and_then}
use Rattle.vfa_cond.specs.States.{AbstractState, with_live}
use Rattle.vfa_xfer.specs.AnyFacts.{fact_type, type_of_parts, AreCells, IsAnyFact}
use Rattle.vfa_xfer.specs.Binary.{binary_cell}
use Rattle.vfa_xfer.specs.FactAnswers.{one_fact}
use Rattle.vfa_xfer.specs.TransferLaws.{fact_laws}
use Rattle.vfa_xfer.specs.Transfers.{cell_in, first_of, fact_answers}
use Rattle.vfa_xfer.specs.declared.any_fact.AnyFact.{AnyFact}
use Rattle.vfa_walk.specs.Passes.{followed}
use Rattle.vfa_walk.specs.Stepping.{fact_of, insts_of, before_line, redefined, with_result, is_division, told_apart, survived, after_inst, transferred}
use Rattle.vfa_walk.specs.Tables.{States, IsTableOf, state_at}
use Rattle.vfa_walk.specs.TruthLaws.{IsStateAt}
use Rattle.vfa_walk.proofs.TruthBlocks.{after_more}
use Rattle.vfa_walk.proofs.TruthFacts.{fact_typed}
use Rattle.vfa_walk.proofs.TruthShape.{table_shape, place_state}
use Rattle.vfa_walk.proofs.TruthTypes.{IsTypedOp, line_is_typed, number_operand}
use Rattle.vfa_report.specs.BestBits.{HasBestBits, AgreesWith, Agrees, GivesDigit, IsBestOf, IsBestBehind, LineIsBest}
use Rattle.vfa_report.specs.Report.{Known, ReportLine, known_at, parameter_lines, used_lines, phi_lines, result_lines, inst_lines, block_lines, lines_from, report_lines}
use Rattle.vfa_report.specs.Showing.{Differ}
use Rattle.vfa_report.specs.Uses.{names_in}
use Rattle.vfa_report.proofs.BestRows.{only_alone, agrees_with, Given, CellsGive, cell_tells}
use Rattle.vfa_report.proofs.ReportTrue.{all_append, all_flat}

abbrev State : Type 0
State = AbstractState AnyFact

-- ---- operands

-- the cell of a fact of a number
record IsCellOf (w : ℕ) (c : CellValue) : Type 0 where
  cell : IsCell c
  width : c.width ≡ w

cell_of_parts : (w : ℕ) (parts : Parts) → AreCells parts → type_of_parts parts ≡ Ty.Int w → IsCellOf w (first_of parts)
cell_of_parts w (Parts.One c) are same = record { cell = are; width = int_width c.width w same }
  where
    int_width : (v w : ℕ) → Ty.Int v ≡ Ty.Int w → v ≡ w
    int_width v w same = cc
cell_of_parts w (Parts.Two c d) are same = absurd cc

number_cell : (w : ℕ) (fact : AnyFact) → IsOf fact_type IsAnyFact (Ty.Int w) fact → IsCellOf w (cell_in fact)
number_cell w fact of = cell_of_parts w fact.parts of.is_proper of.typed

cell_agrees : (w : ℕ) (c : CellValue) (n : Numbers) (x : ℕ) → IsCellOf w c → c.numbers ≡ Some n → in_masks w (masks_in n) x ≡ true → AgreesWith w (in_cell c) x
cell_agrees w c n x is same member =
    subst (λ k. AgreesWith w (in_option k c.numbers) x) (sym is.width)
    (subst (λ o. AgreesWith w (in_option w o) x) (sym same) (agrees_with w n x (subst (λ k. IsFact k n) is.width (is.cell.fact n same)) member))

value_agrees : (w : ℕ) (o : Option AnyFact) (other : AnyFact) (n : Numbers) (x : ℕ) → IsSome o → IsOf fact_type IsAnyFact (Ty.Int w) (unwrap_or o other) →
    (cell_in (unwrap_or o other)).numbers ≡ Some n → in_masks w (masks_in n) x ≡ true → IsSomeAnd o (λ fact. AgreesWith w (in_cell (cell_in fact)) x)
value_agrees w None other n x some of same member = absurd cc
value_agrees w (Some fact) other n x some of same member = cell_agrees w (cell_in fact) n x (number_cell w fact of) same member

operand_agrees : (w : ℕ) (s : State) (operand : Operand) (n : Numbers) (x : ℕ) → ((v : ℕ) → is_in v (operand_names operand) ≡ true → IsSome (s.fact v)) →
    IsOf fact_type IsAnyFact (Ty.Int w) (fact_of fact_answers s (Ty.Int w) operand) → (cell_in (fact_of fact_answers s (Ty.Int w) operand)).numbers ≡ Some n →
    in_masks w (masks_in n) x ≡ true → Agrees w s operand x
operand_agrees w s (Operand.Value v) n x known of same member =
    value_agrees w (s.fact v.0) (fact_answers.any (Ty.Int w) false) n x (known v.0 (in_first v.0 v.0 [] refl)) of same member
operand_agrees w s (Operand.Literal bits) n x known of same member =
    let fits : bits < 2 ^ w = (of.is_proper.fact (only_number w bits) refl).arc.first_fits in
    only_alone w bits x fits (subst (λ (m : Numbers). in_masks w (masks_in m) x ≡ true) (sym (same_Some (only_number w bits) n same)) member)
operand_agrees w s Operand.Poison n x known of same member = absurd cc

-- ---- one instruction

no_division : (bin : Bin) → HasBestBits bin → is_division bin ≡ false
no_division Bin.Add best = refl
no_division Bin.Sub best = refl
no_division Bin.Mul best = refl
no_division Bin.Shl best = refl
no_division Bin.Udiv best = absurd best
no_division Bin.Sdiv best = absurd best
no_division Bin.Lshr best = refl
no_division Bin.Ashr best = refl
no_division Bin.Urem best = absurd best
no_division Bin.Srem best = absurd best
no_division Bin.And best = refl
no_division Bin.Or best = refl
no_division Bin.Xor best = refl

module _ (f : Function) where
  -- what an operation makes of a state, where its result has this name
  abbrev Made : Op → ℕ → State → Option State
  Made op v s = option_map (with_result fact_answers f op (Some (id v))) (survived fact_answers f op s)

  made_fact : (bin : Bin) (flags : Flags) (w : ℕ) (a b : Operand) (v : ℕ) (s after : State) (fact : AnyFact) → HasBestBits bin →
      Made (Op.Bin bin flags w a b) v s ≡ Some after → after.fact v ≡ Some fact → fact ≡ transferred fact_answers (Op.Bin bin flags w a b) s
  made_fact bin flags w a b v s after fact best made known =
      let op : Op = Op.Bin bin flags w a b in
      let d : AnyFact = transferred fact_answers op s in
      let is : State = with_live (redefined f v d s) v true in
      let stays : Made op v s ≡ Some is =
      ap (λ division. option_map (with_result fact_answers f op (Some (id v))) (if division then told_apart fact_answers f b w 0 s else Some s)) (no_division bin best) in
      let same : after ≡ is = same_Some after is (sym made ∙ stays) in
      let there : is.fact v ≡ Some d = ap (λ here. if here then Some d else s.fact v) (eq-eqb v v refl) in
      same_Some fact d (sym known ∙ (ap (λ (u : State). u.fact v) same ∙ there))

  module _ (place : Place) (v : ℕ) (s after : State) (fact : AnyFact) (facts : AreFacts fact_type IsAnyFact f s) (known : after.fact v ≡ Some fact) (is : IsAnyFact fact) where
    binary_best : (bin : Bin) (flags : Flags) (w : ℕ) (a b : Operand) → IsTypedOp f (Op.Bin bin flags w a b) →
        ((n : ℕ) → is_in n (op_names f (Op.Bin bin flags w a b)) ≡ true → IsSome (s.fact n)) → Made (Op.Bin bin flags w a b) v s ≡ Some after →
        IsBestOf s (record { place = place; name = v; parts = fact.parts }) (Op.Bin bin flags w a b)
    binary_best bin flags w a b typed names made best i less differ =
        let left_of = fact_typed fact_type IsAnyFact fact_answers fact_laws.typed f s w a facts (number_operand f w a typed.ranges.1.of_width typed.ranges.1.first typed.operands.first) in
        let right_of = fact_typed fact_type IsAnyFact fact_answers fact_laws.typed f s w b facts (number_operand f w b typed.ranges.1.of_width typed.ranges.1.second typed.operands.second) in
        let left : CellValue = cell_in (fact_of fact_answers s (Ty.Int w) a) in
        let right : CellValue = cell_in (fact_of fact_answers s (Ty.Int w) b) in
        let left_cell = number_cell w (fact_of fact_answers s (Ty.Int w) a) left_of in
        let shown : fact ≡ one_fact (binary_cell bin flags left right) = made_fact bin flags w a b v s after fact best made known in
        let cells : CellsGive bin left right i =
        cell_tells bin best flags left right i (subst (λ k. i < k) (sym left_cell.width) less) (subst IsAnyFact shown is)
        (subst (λ (d : AnyFact). Differ (in_cell (first_of d.parts)) i) shown differ) in
        let digit : (d : ℕ) → Given bin left.width cells.first cells.second i d → GivesDigit s bin w a b i d =
        λ d g.
        let here : Given bin w cells.first cells.second i d = subst (λ k. Given bin k cells.first cells.second i d) left_cell.width g in
        record {
          left = here.left;
          right = here.right;
          result = here.result;
          left_agrees = operand_agrees w s a cells.first here.left (λ n used. names n (in_left n (operand_names a) (operand_names b) used)) left_of cells.first_is here.left_in;
          right_agrees = operand_agrees w s b cells.second here.right (λ n used. names n (in_right n (operand_names a) (operand_names b) used)) right_of cells.second_is here.right_in;
          gives = here.gives;
          has = here.has;
        } in
        (digit 0 cells.both.zero, digit 1 cells.both.one)

    operation_best : (op : Op) → IsTypedOp f op → ((n : ℕ) → is_in n (op_names f op) ≡ true → IsSome (s.fact n)) → Made op v s ≡ Some after →
        IsBestOf s (record { place = place; name = v; parts = fact.parts }) op
    operation_best (Op.Bin bin flags w a b) typed names made = binary_best bin flags w a b typed names made
    operation_best (Op.Icmp pred samesign w a b) typed names made = tt
    operation_best (Op.Select w c a b) typed names made = tt
    operation_best (Op.Cast cast flags from to a) typed names made = tt
    operation_best (Op.Freeze w a) typed names made = tt
    operation_best (Op.Two fun w a b) typed names made = tt
    operation_best (Op.One fun w a strict) typed names made = tt
    operation_best (Op.Over over w a b) typed names made = tt
    operation_best (Op.Part w pair index) typed names made = tt
    operation_best (Op.Assume c) typed names made = tt
    operation_best (Op.Call width call) typed names made = tt

-- ---- the states of the table

module _ (f : Function) (checked : IsChecked f) (printable : IsPrintable f) (t : States AnyFact) (table : IsTableOf fact_answers f t) where
  placed : (place : Place) → ForSome (state_at fact_answers f t place) (IsStateAt fact_type IsAnyFact f place)
  placed =
      let formed = checked.formed in
      place_state fact_type IsAnyFact fact_answers fact_laws.typed f printable formed.typed formed.phis checked.within.edges table.layout table.is_layout t
      (table_shape fact_type IsAnyFact fact_answers fact_laws.typed f printable formed.typed formed.phis checked.within.edges table.layout table.is_layout t table.is_table)

  -- the step over an instruction
  step : (b i : ℕ) (block : Block) (inst : Inst) → IsLine f b block i inst →
      state_at fact_answers f t (At b (suc i)) ≡ and_then (state_at fact_answers f t (At b i)) (after_inst fact_answers f inst)
  step b i block inst line = of (t b)
    where
      stands : slice_get (insts_of f b) i ≡ Some inst
      stands = subst (λ o. slice_get (elim o [ None ↦ [] | Some body ↦ body.insts ]) i ≡ Some inst) (sym line.there) line.stands

      of : (o : Option State) → followed (before_line fact_answers f b (suc i)) o ≡ and_then (followed (before_line fact_answers f b i) o) (after_inst fact_answers f inst)
      of None = refl
      of (Some s) = after_more fact_answers f (insts_of f b) i inst s stands

  defined_best : (b i : ℕ) (block : Block) (inst : Inst) (v : ValueId) (s : State) (fact : AnyFact) → IsLine f b block i inst → inst.result ≡ Some v →
      state_at fact_answers f t (At b (suc i)) ≡ Some s → s.fact v.0 ≡ Some fact → LineIsBest f t (ReportLine.defined (record { place = At b (suc i); name = v.0; parts = fact.parts }))
  defined_best b i block inst v s fact line result behind known = of (state_at fact_answers f t (At b i)) refl
    where
      of : (o : Option State) → state_at fact_answers f t (At b i) ≡ o → IsBestBehind f t (record { place = At b (suc i); name = v.0; parts = fact.parts }) b i
      of None none =
          let gone : and_then None (after_inst fact_answers f inst) ≡ Some s =
          ap (λ o. and_then o (after_inst fact_answers f inst)) (sym none) ∙ (sym (step b i block inst line) ∙ behind) in
          absurd cc
      of (Some u) is =
          let made : after_inst fact_answers f inst u ≡ Some s =
          ap (λ o. and_then o (after_inst fact_answers f inst)) (sym is) ∙ (sym (step b i block inst line) ∙ behind) in
          let before = placed (At b i) u is in
          let after = placed (At b (suc i)) s behind in
          record {
            block = block;
            inst = inst;
            line = line;
            result = result;
            before = u;
            is_before = is;
            best = operation_best f (At b (suc i)) v.0 u s fact before.facts known (after.facts v.0 fact known).is_proper inst.op
                (line_is_typed f printable checked.formed.typed b i block inst line)
                (λ n used. before.names n (use_is_defined f b block i inst n checked.formed.defined line used))
                (subst (λ r. option_map (with_result fact_answers f inst.op r) (survived fact_answers f inst.op u) ≡ Some s) result made);
          }

  -- ---- the lines

  abbrev Best : ReportLine → Type 0
  Best line = LineIsBest f t line

  known_best : (line : Known → ReportLine) (place : Place) (s : State) (v : ℕ) →
      ((fact : AnyFact) → s.fact v ≡ Some fact → Best (line (record { place = place; name = v; parts = fact.parts }))) → AllByRecursion Best (known_at line place s v)
  known_best line place s v each = of (s.fact v) refl
    where
      of : (o : Option AnyFact) → s.fact v ≡ o → AllByRecursion Best (elim o [ None ↦ [] | Some fact ↦ line (record { place = place; name = v; parts = fact.parts }) ∷ [] ])
      of None e = tt
      of (Some fact) e = (each fact e, tt)

  module _ (b : ℕ) (block : Block) (there : slice_get f.blocks b ≡ Some block) where
    result_best : (i : ℕ) (inst : Inst) (result : Option ValueId) (s : State) → slice_get block.insts i ≡ Some inst → inst.result ≡ result →
        state_at fact_answers f t (At b (suc i)) ≡ Some s → AllByRecursion Best (result_lines b (suc i) result s)
    result_best i inst None s stands is behind = tt
    result_best i inst (Some v) s stands is behind =
        known_best ReportLine.defined (At b (suc i)) s v.0 (λ fact known. defined_best b i block inst v s fact (record { there = there; stands = stands }) is behind known)

    -- the instructions from number i on
    insts_best : (i : ℕ) (insts : List Inst) → ((j : ℕ) → slice_get insts j ≡ slice_get block.insts (j + i)) → AllByRecursion Best (inst_lines f t b i insts)
    insts_best i [] same = tt
    insts_best i (inst ∷ rest) same =
        of (state_at fact_answers f t (At b (suc i))) refl
        (insts_best (suc i) rest (λ j. let next : suc j + i ≡ j + suc i = omega arith in same (suc j) ∙ ap (slice_get block.insts) next))
      where
        of : (o : Option State) → state_at fact_answers f t (At b (suc i)) ≡ o → AllByRecursion Best (inst_lines f t b (suc i) rest) →
            AllByRecursion Best (elim o [ None ↦ ReportLine.never_past b i ∷ [] | Some s ↦ result_lines b (suc i) inst.result s ++ inst_lines f t b (suc i) rest ])
        of None e later = (tt, tt)
        of (Some s) e later =
            let here : i ≡ 0 + i = omega arith in
            all_append Best (result_lines b (suc i) inst.result s) (inst_lines f t b (suc i) rest)
            (result_best i inst inst.result s (ap (slice_get block.insts) here ∙ sym (same 0)) refl e) later

    block_best : AllByRecursion Best (block_lines f t b block)
    block_best = of (t b)
      where
        of : (o : Option State) →
            AllByRecursion Best (elim o [ None ↦ ReportLine.never_reached b ∷ [] | Some s ↦ ReportLine.block b ∷ (used_lines f b block s ++ (phi_lines b block s ++ inst_lines f t b 0 block.insts)) ])
        of None = (tt, tt)
        of (Some s) = (
          tt,
          all_append Best (used_lines f b block s) (phi_lines b block s ++ inst_lines f t b 0 block.insts)
              (all_flat Best (known_at ReportLine.used (At b 0) s) (names_in f block) (λ v. known_best ReportLine.used (At b 0) s v (λ fact known. tt)))
              (all_append Best (phi_lines b block s) (inst_lines f t b 0 block.insts)
              (all_flat Best (λ (p : Phi). known_at ReportLine.defined (At b 0) s p.result.0) block.phis
              (λ p. known_best ReportLine.defined (At b 0) s p.result.0 (λ fact known. tt)))
              (insts_best 0 block.insts (λ j. let same : j ≡ j + 0 = omega arith in ap (slice_get block.insts) same))),
        )

  -- the blocks from number b on
  blocks_best : (b : ℕ) (blocks : List Block) → ((j : ℕ) → slice_get blocks j ≡ slice_get f.blocks (j + b)) → AllByRecursion Best (lines_from f t b blocks)
  blocks_best b [] same = tt
  blocks_best b (block ∷ rest) same =
      let here : b ≡ 0 + b = omega arith in
      all_append Best (block_lines f t b block) (lines_from f t (suc b) rest) (block_best b block (ap (slice_get f.blocks) here ∙ sym (same 0)))
      (blocks_best (suc b) rest (λ j. let next : suc j + b ≡ j + suc b = omega arith in same (suc j) ∙ ap (slice_get f.blocks) next))

  parameters_best : AllByRecursion Best (parameter_lines f t)
  parameters_best = of (t first_block)
    where
      of : (o : Option State) → AllByRecursion Best (elim o [ None ↦ [] | Some s ↦ flat_map (λ p. known_at ReportLine.parameter (At first_block 0) s p.value.0) f.params ])
      of None = tt
      of (Some s) = all_flat Best (λ (p : Param). known_at ReportLine.parameter (At first_block 0) s p.value.0) f.params
          (λ p. known_best ReportLine.parameter (At first_block 0) s p.value.0 (λ fact known. tt))

  pub report_best : All (LineIsBest f t) (report_lines f t)
  report_best = All-from_recursion (LineIsBest f t) (report_lines f t) (tt, all_append Best (parameter_lines f t) (lines_from f t 0 f.blocks) parameters_best (blocks_best 0 f.blocks (λ j. let same : j ≡ j + 0 = omega arith in ap (slice_get f.blocks) same)))
