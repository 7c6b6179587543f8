-- The text of a report, line by line.
use Rattle.std.proofs.Common.{◌≡◌, ◌<◌, ◌+◌, ◌⊎◌, ℕ, zero, suc, Bool, true, false, Option, Some, None, inl, inr, List, [], ◌∷◌, ◌++◌, length, map, flat_map, drop, drop-cons, get_or, add-one, codes, refl, sym, ap, ap₂, subst, ◌∙◌, arith}
use Rattle.std.specs.Prelude.{slice_get, MatchOption}
use Rattle.std.proofs.lemmas.Bool.{cases_lt}
use Rattle.std.proofs.lemmas.List.{append_assoc, append-nil, get_or_default}
use Rattle.vfa_ir.specs.declared.operations.BlockId.{BlockId}
use Rattle.vfa_ir.specs.declared.operations.ValueId.{ValueId}
use Rattle.vfa_ir.specs.declared.functions.Block.{Block}
use Rattle.vfa_ir.specs.declared.functions.Function.{Function}
use Rattle.vfa_ir.specs.declared.functions.Inst.{Inst}
use Rattle.vfa_ir.specs.Resolution.{Scope}
use Rattle.vfa_ir.specs.Shown.{shown_value_name, shown_block_name}
use Rattle.vfa_mean.specs.Moments.{Place, At}
use Rattle.vfa_mean.specs.Outcomes.{first_block}
use Rattle.vfa_print.specs.Layout.{line_feed}
use Rattle.vfa_print.specs.Trees.{name_at, block_name_at, shown_scope}
use Rattle.vfa_print.proofs.NameNumbers.{name_at-range}
use Rattle.vfa_cond.specs.States.{AbstractState, Stored, known}
use Rattle.vfa_xfer.specs.AnyFacts.{fact_type, IsAnyFact}
use Rattle.vfa_xfer.specs.declared.any_fact.AnyFact.{AnyFact}
use Rattle.vfa_xfer.specs.Transfers.{fact_answers}
use Rattle.vfa_walk.specs.declared.cursor.Cursor.{Cursor}
use Rattle.vfa_walk.specs.Cursors.{HasGoneOn, IsAtEntry, Stops}
use Rattle.vfa_walk.specs.Kept.{IsStateOf}
use Rattle.vfa_walk.specs.Stepping.{insts_of}
use Rattle.vfa_walk.specs.Tables.{States, state_at}
use Rattle.vfa_walk.proofs.CursorLaws.{begins_there, goes_on_there, stops_there}
use Rattle.vfa_report.specs.FactLines.{fact_lines, local_text}
use Rattle.vfa_report.specs.Report.{Known, ReportLine, known_at, known_lines, line_text, parameter_lines, used_lines, phi_lines, result_lines, inst_lines, block_lines, lines_from, report_text, block_text}
use Rattle.vfa_report.specs.Uses.{names_in}
use Rattle.vfa_report.specs.Writing.{lines_at, result_lines_at}
use Rattle.vfa_report.proofs.LineTexts.{put_four}

-- ---- lists

flat_append : {A B : Type 0} (g : A → List B) (xs ys : List A) → flat_map g (xs ++ ys) ≡ flat_map g xs ++ flat_map g ys
flat_append g [] ys = refl
flat_append g (x ∷ xs) ys = ap (λ l. g x ++ l) (flat_append g xs ys) ∙ sym (append_assoc (g x) (flat_map g xs) (flat_map g ys))

flat_of_flat : {A B C : Type 0} (g : B → List C) (h : A → List B) (xs : List A) → flat_map g (flat_map h xs) ≡ flat_map (λ x. flat_map g (h x)) xs
flat_of_flat g h [] = refl
flat_of_flat g h (x ∷ xs) = flat_append g (h x) (flat_map h xs) ∙ ap (λ l. flat_map g (h x) ++ l) (flat_of_flat g h xs)

flat_same : {A B : Type 0} (g h : A → List B) (xs : List A) → ((x : A) → g x ≡ h x) → flat_map g xs ≡ flat_map h xs
flat_same g h [] same = refl
flat_same g h (x ∷ xs) same = ap₂ (λ a b. a ++ b) (same x) (flat_same g h xs same)

flat_mapped : {A B C : Type 0} (g : B → List C) (k : A → B) (xs : List A) → flat_map g (map k xs) ≡ flat_map (λ x. g (k x)) xs
flat_mapped g k [] = refl
flat_mapped g k (x ∷ xs) = ap (λ l. g (k x) ++ l) (flat_mapped g k xs)

pub item_stands : {A : Type 0} (xs : List A) (i : ℕ) (x : A) → i < length xs → x ≡ get_or xs i x → slice_get xs i ≡ Some x
item_stands xs i x less is = found xs i x less ∙ ap (λ y. Some y) (sym is)
  where
    found : {A : Type 0} (xs : List A) (i : ℕ) (d : A) → i < length xs → slice_get xs i ≡ Some (get_or xs i d)
    found [] i d less = absurd (omega arith)
    found (x ∷ xs) zero d less = refl
    found (x ∷ xs) (suc i) d less = found xs i d (omega arith)

pub item_stands_at : {A : Type 0} (xs : List A) (i : ℕ) (d : A) → i < length xs → slice_get xs i ≡ Some (get_or xs i d)
item_stands_at xs i d less = item_stands xs i (get_or xs i d) less (get_or_default xs i d (get_or xs i d) less)

stands_below : {A : Type 0} (xs : List A) (i : ℕ) (x : A) → slice_get xs i ≡ Some x → i < length xs
stands_below [] i x is = absurd cc
stands_below (x ∷ xs) zero y is = omega arith
stands_below (x ∷ xs) (suc i) y is = let less : i < length xs = stands_below xs i y is in omega (arith, less)

none_stands : {A : Type 0} (xs : List A) (i : ℕ) → slice_get xs i ≡ None → i < length xs → ⊥
none_stands [] i none less = omega arith
none_stands (x ∷ xs) zero none less = cc
none_stands (x ∷ xs) (suc i) none less = none_stands xs i none (omega arith)

-- ---- names

not_some : (fact : AnyFact) → ◌≡◌ {A = Option AnyFact} None (Some fact) → ⊥
not_some fact e = cc

below_count : (f : Function) (s : Stored AnyFact) (v : ℕ) (fact : AnyFact) → IsStateOf fact_type IsAnyFact f s → (known s).fact v ≡ Some fact → v < length f.values
below_count f s v fact is e = elim (cases_lt v (length f.values)) [
  | inl less ↦ less
  | inr more ↦ absurd (not_some fact (sym (is.within v more) ∙ e))
]

module _ (f : Function) (names : Scope) (same : names ≡ shown_scope f) where
  value_shown : (v : ℕ) → v < length f.values → name_at names.values v ≡ shown_value_name f v
  value_shown v below = ap (λ (n : Scope). name_at n.values v) same ∙ name_at-range (shown_value_name f) (length f.values) v below

  pub block_shown : (b : BlockId) → b.0 < length f.blocks → block_name_at names b ≡ shown_block_name f b.0
  block_shown b below = ap (λ (n : Scope). name_at n.blocks b.0) same ∙ name_at-range (shown_block_name f) (length f.blocks) b.0 below

  lines_are : (line : Known → ReportLine) (before : List ℕ) → ((k : Known) → line_text f (line k) ≡ known_lines f before k) → (place : Place) (s : Stored AnyFact) → IsStateOf fact_type IsAnyFact f s → (v : ℕ) →
      lines_at names before (known s) v ≡ flat_map (line_text f) (known_at line place (known s) v)
  lines_are line before says place s is v = of ((known s).fact v) refl
    where
      of : (o : Option AnyFact) → (known s).fact v ≡ o →
          (elim o [ None ↦ [] | Some fact ↦ flat_map (λ l. before ++ (l ++ line_feed)) (fact_lines (local_text (name_at names.values v)) fact.parts) ])
          ≡ flat_map (line_text f) (elim o [ None ↦ [] | Some fact ↦ line (record { place = place; name = v; parts = fact.parts }) ∷ [] ])
      of None e = refl
      of (Some fact) e =
          let k : Known = record { place = place; name = v; parts = fact.parts } in
          ap (λ shown. flat_map (λ l. before ++ (l ++ line_feed)) (fact_lines (local_text shown) fact.parts)) (value_shown v (below_count f s v fact is e))
          ∙ sym (says k)
          ∙ sym (append-nil (line_text f (line k)))

  pub parameters_are : (t : States AnyFact) (s : Stored AnyFact) → t first_block ≡ Some (known s) → IsStateOf fact_type IsAnyFact f s →
      flat_map (λ p. lines_at names (codes "  param ") (known s) p.value.0) f.params ≡ flat_map (line_text f) (parameter_lines f t)
  parameters_are t s here is =
      flat_same (λ p. lines_at names (codes "  param ") (known s) p.value.0) (λ p. flat_map (line_text f) (known_at ReportLine.parameter (At first_block 0) (known s) p.value.0)) f.params
      (λ p. lines_are ReportLine.parameter (codes "  param ") (λ k. refl) (At first_block 0) s is p.value.0)
      ∙ sym (flat_of_flat (line_text f) (λ p. known_at ReportLine.parameter (At first_block 0) (known s) p.value.0) f.params)
      ∙ ap (λ o. flat_map (line_text f) (elim o [ None ↦ [] | Some u ↦ flat_map (λ p. known_at ReportLine.parameter (At first_block 0) u p.value.0) f.params ])) (sym here)

  pub no_parameters : (t : States AnyFact) → t first_block ≡ None → flat_map (line_text f) (parameter_lines f t) ≡ []
  no_parameters t none = ap (λ o. flat_map (line_text f) (elim o [ None ↦ [] | Some u ↦ flat_map (λ p. known_at ReportLine.parameter (At first_block 0) u p.value.0) f.params ])) none

  pub uses_are : (b : ℕ) (block : Block) (s : Stored AnyFact) (ids : List ValueId) → IsStateOf fact_type IsAnyFact f s → map (λ v. v.0) ids ≡ names_in f block →
      flat_map (λ v. lines_at names (codes "    in ") (known s) v.0) ids ≡ flat_map (line_text f) (used_lines f b block (known s))
  uses_are b block s ids is met =
      sym (flat_mapped (lines_at names (codes "    in ") (known s)) (λ v. v.0) ids)
      ∙ ap (flat_map (lines_at names (codes "    in ") (known s))) met
      ∙ flat_same (lines_at names (codes "    in ") (known s)) (λ v. flat_map (line_text f) (known_at ReportLine.used (At b 0) (known s) v)) (names_in f block)
      (lines_are ReportLine.used (codes "    in ") (λ k. refl) (At b 0) s is)
      ∙ sym (flat_of_flat (line_text f) (known_at ReportLine.used (At b 0) (known s)) (names_in f block))

  pub phis_are : (b : ℕ) (block : Block) (s : Stored AnyFact) → IsStateOf fact_type IsAnyFact f s →
      flat_map (λ p. lines_at names (codes "    def ") (known s) p.result.0) block.phis ≡ flat_map (line_text f) (phi_lines b block (known s))
  phis_are b block s is =
      flat_same (λ p. lines_at names (codes "    def ") (known s) p.result.0) (λ p. flat_map (line_text f) (known_at ReportLine.defined (At b 0) (known s) p.result.0)) block.phis
      (λ p. lines_are ReportLine.defined (codes "    def ") (λ k. refl) (At b 0) s is p.result.0)
      ∙ sym (flat_of_flat (line_text f) (λ p. known_at ReportLine.defined (At b 0) (known s) p.result.0) block.phis)

  result_is : (b after : ℕ) (s : Stored AnyFact) → IsStateOf fact_type IsAnyFact f s → (r : Option ValueId) →
      result_lines_at names (known s) r ≡ flat_map (line_text f) (result_lines b after r (known s))
  result_is b after s is None = refl
  result_is b after s is (Some v) = lines_are ReportLine.defined (codes "    def ") (λ k. refl) (At b after) s is v.0

  -- ---- instructions

  -- the lines of the first i instructions of a block are written, behind the text from before
  pub record HasWritten (insts : List Inst) (start : Cursor AnyFact) (before : List ℕ) (i : ℕ) (c : Cursor AnyFact) (text : List ℕ) : Type 0 where
    pub reached : c.is_reached ≡ true
    pub block : c.block ≡ start.block
    pub line : c.line ≡ i
    pub state : IsStateOf fact_type IsAnyFact f c.state
    pub lines : (t : States AnyFact) → state_at fact_answers f t (At start.block.0 0) ≡ Some (known start.state) →
        (state_at fact_answers f t (At start.block.0 i) ≡ Some (known c.state))
        × (text ++ flat_map (line_text f) (inst_lines f t start.block.0 i (drop i insts)) ≡ before ++ flat_map (line_text f) (inst_lines f t start.block.0 0 insts))

  drop_none : (insts : List Inst) → drop 0 insts ≡ insts
  drop_none [] = refl
  drop_none (i ∷ rest) = refl

  pub none_written : (insts : List Inst) (start : Cursor AnyFact) (before : List ℕ) → start.is_reached ≡ true → start.line ≡ 0 → IsStateOf fact_type IsAnyFact f start.state →
      HasWritten insts start before 0 start before
  none_written insts start before reached line state = record { reached = reached; block = refl; line = line; state = state; lines = λ t here. (here, ap (λ l. before ++ flat_map (line_text f) (inst_lines f t start.block.0 0 l)) (drop_none insts)) }

  -- the lines from an instruction on, by the state behind it
  from_state : (t : States AnyFact) (b i : ℕ) (inst : Inst) (rest : List Inst) (o : Option (AbstractState AnyFact)) → state_at fact_answers f t (At b (suc i)) ≡ o →
      inst_lines f t b i (inst ∷ rest)
      ≡ (elim o [ None ↦ ReportLine.never_past b i ∷ [] | Some s ↦ result_lines b (suc i) inst.result s ++ inst_lines f t b (suc i) rest ])
  from_state t b i inst rest o e =
      ap (λ r. elim r [ None ↦ ReportLine.never_past b i ∷ [] | Some s ↦ result_lines b (suc i) inst.result s ++ inst_lines f t b (suc i) rest ]) e

  module _ (insts : List Inst) (start : Cursor AnyFact) (before : List ℕ) (i : ℕ) (c : Cursor AnyFact) (text : List ℕ) (inst : Inst)
      (less : i < length insts) (is : inst ≡ get_or insts i inst) (so_far : HasWritten insts start before i c text) where
    items : drop i insts ≡ inst ∷ drop (suc i) insts
    items = drop-cons insts i inst less ∙ ap (λ y. y ∷ drop (suc i) insts) (sym is)

    -- the table has the cursor's state where it stands
    stands : (t : States AnyFact) → state_at fact_answers f t (At start.block.0 0) ≡ Some (known start.state) → state_at fact_answers f t (At c.block.0 c.line) ≡ Some (known c.state)
    stands t here = ap₂ (λ (b : BlockId) j. state_at fact_answers f t (At b.0 j)) so_far.block so_far.line ∙ (so_far.lines t here).0

    one_more : (new : Cursor AnyFact) (text' : List ℕ) → HasGoneOn fact_answers f c new → IsStateOf fact_type IsAnyFact f new.state → text' ≡ text ++ result_lines_at names (known new.state) inst.result →
        HasWritten insts start before (suc i) new text'
    one_more new text' went state put = record {
      reached = went.reached;
      block = went.block ∙ so_far.block;
      line = went.line ∙ ap (λ j. j + 1) so_far.line ∙ add-one i;
      state = state;
      lines = λ t here.
          let b = start.block.0 in
          let lt = line_text f in
          let rest = inst_lines f t b (suc i) (drop (suc i) insts) in
          let there : state_at fact_answers f t (At b (suc i)) ≡ Some (known new.state) =
          ap₂ (λ (d : BlockId) j. state_at fact_answers f t (At d.0 j)) (sym (went.block ∙ so_far.block)) (sym (went.line ∙ ap (λ j. j + 1) so_far.line ∙ add-one i))
          ∙ goes_on_there fact_answers f t c new went (stands t here) in (
            there,
            ap (λ l. l ++ flat_map lt rest) put
                ∙ append_assoc text (result_lines_at names (known new.state) inst.result) (flat_map lt rest)
                ∙ ap (λ l. text ++ l)
                (ap (λ l. l ++ flat_map lt rest) (result_is b (suc i) new.state state inst.result)
                ∙ sym (flat_append lt (result_lines b (suc i) inst.result (known new.state)) rest)
                ∙ ap (flat_map lt) (sym (from_state t b i inst (drop (suc i) insts) (Some (known new.state)) there) ∙ ap (inst_lines f t b i) (sym items)))
                ∙ (so_far.lines t here).1,
          );
    }

    pub goes_on : (new : Cursor AnyFact) (text' : List ℕ) → HasGoneOn fact_answers f c new → IsStateOf fact_type IsAnyFact f new.state → text' ≡ text ++ result_lines_at names (known new.state) inst.result →
        HasWritten insts start before (i + 1) new text'
    goes_on new text' went state put = subst (λ j. HasWritten insts start before j new text') (sym (add-one i)) (one_more new text' went state put)

    pub stops : (text' : List ℕ) → Stops fact_answers f c → text' ≡ text ++ codes "    never-past-here\n" → (t : States AnyFact) → state_at fact_answers f t (At start.block.0 0) ≡ Some (known start.state) →
        text' ≡ before ++ flat_map (line_text f) (inst_lines f t start.block.0 0 insts)
    stops text' stop put t here =
        let b = start.block.0 in
        let none : state_at fact_answers f t (At b (suc i)) ≡ None =
        ap₂ (λ (d : BlockId) j. state_at fact_answers f t (At d.0 j)) (sym so_far.block) (sym (ap (λ j. j + 1) so_far.line ∙ add-one i))
        ∙ stops_there fact_answers f t c stop (stands t here) in
        put
        ∙ ap (λ ls. text ++ flat_map (line_text f) ls) (sym (from_state t b i inst (drop (suc i) insts) None none) ∙ ap (inst_lines f t b i) (sym items))
        ∙ (so_far.lines t here).1

  pub goes_on_at : (insts : List Inst) (start : Cursor AnyFact) (before : List ℕ) (i : ℕ) (c : Cursor AnyFact) (text : List ℕ) (d : Inst) → i < length insts → HasWritten insts start before i c text →
      (new : Cursor AnyFact) (s : Stored AnyFact) (text' : List ℕ) → HasGoneOn fact_answers f c new → IsStateOf fact_type IsAnyFact f new.state → s ≡ new.state →
      text' ≡ text ++ result_lines_at names (known s) (get_or insts i d).result → HasWritten insts start before (i + 1) new text'
  goes_on_at insts start before i c text d less so_far new s text' went state same_state put =
      goes_on insts start before i c text (get_or insts i d) less (get_or_default insts i d (get_or insts i d) less) so_far new text' went state
      (put ∙ ap (λ (u : Stored AnyFact). text ++ result_lines_at names (known u) (get_or insts i d).result) same_state)

  stops_at : (insts : List Inst) (start : Cursor AnyFact) (before : List ℕ) (i : ℕ) (c : Cursor AnyFact) (text : List ℕ) (d : Inst) → i < length insts → HasWritten insts start before i c text →
      (text' : List ℕ) → Stops fact_answers f c → text' ≡ text ++ codes "    never-past-here\n" → (t : States AnyFact) → state_at fact_answers f t (At start.block.0 0) ≡ Some (known start.state) →
      text' ≡ before ++ flat_map (line_text f) (inst_lines f t start.block.0 0 insts)
  stops_at insts start before i c text d less so_far = stops insts start before i c text (get_or insts i d) less (get_or_default insts i d (get_or insts i d) less) so_far

  head_of : (insts : List Inst) (i : ℕ) → i < length insts → Inst
  head_of [] i less = absurd (omega arith)
  head_of (inst ∷ rest) i less = inst

  was_reached : (b : Bool) → b ≡ true → b ≡ false → ⊥
  was_reached b is isnt = cc

  pub ends : (insts : List Inst) (start : Cursor AnyFact) (before : List ℕ) (i : ℕ) (c : Cursor AnyFact) (text : List ℕ) → i < length insts → HasWritten insts start before i c text →
      (text' : List ℕ) → (c.is_reached ≡ false) ⊎ Stops fact_answers f c → text' ≡ text ++ codes "    never-past-here\n" → (t : States AnyFact) → state_at fact_answers f t (At start.block.0 0) ≡ Some (known start.state) →
      text' ≡ before ++ flat_map (line_text f) (inst_lines f t start.block.0 0 insts)
  ends insts start before i c text less so_far text' (inl none) = absurd (was_reached c.is_reached so_far.reached none)
  ends insts start before i c text less so_far text' (inr stop) = stops_at insts start before i c text (head_of insts i less) less so_far text' stop

  -- a cursor before an instruction of the block does not stand before the terminator
  pub not_at_end : (insts : List Inst) (start : Cursor AnyFact) (before : List ℕ) (i : ℕ) (c : Cursor AnyFact) (text : List ℕ) → i < length insts → HasWritten insts start before i c text →
      insts_of f start.block.0 ≡ insts → slice_get (insts_of f c.block.0) c.line ≡ None → ⊥
  not_at_end insts start before i c text less so_far own none =
      none_stands insts i (subst (λ l. slice_get l i ≡ None) (ap (λ (b : BlockId). insts_of f b.0) so_far.block ∙ own) (subst (λ j. slice_get (insts_of f c.block.0) j ≡ None) so_far.line none)) less

  pub all_written : (insts : List Inst) (start c : Cursor AnyFact) (before : List ℕ) (i : ℕ) (text : List ℕ) → HasWritten insts start before i c text → drop i insts ≡ [] →
      (t : States AnyFact) → state_at fact_answers f t (At start.block.0 0) ≡ Some (known start.state) → text ≡ before ++ flat_map (line_text f) (inst_lines f t start.block.0 0 insts)
  all_written insts start c before i text so_far past t here =
      sym (append-nil text) ∙ ap (λ l. text ++ flat_map (line_text f) (inst_lines f t start.block.0 i l)) (sym past) ∙ (so_far.lines t here).1

  -- the lines of a block behind its name, as they are written piece by piece
  pub block_written : (b : ℕ) (block : Block) (s : Stored AnyFact) (t : States AnyFact) (old fed used phis new : List ℕ) → IsStateOf fact_type IsAnyFact f s → fed ≡ old ++ line_feed →
      used ≡ fed ++ flat_map (line_text f) (used_lines f b block (known s)) →
      phis ≡ used ++ flat_map (λ p. lines_at names (codes "    def ") (known s) p.result.0) block.phis →
      new ≡ phis ++ flat_map (line_text f) (inst_lines f t b 0 block.insts) →
      new ≡ old ++ (line_feed ++ (flat_map (line_text f) (used_lines f b block (known s)) ++ (flat_map (line_text f) (phi_lines b block (known s)) ++ flat_map (line_text f) (inst_lines f t b 0 block.insts))))
  block_written b block s t old fed used phis new is feed put_used put_phis put_insts =
      put_four old fed used phis new _ _ _ _ feed put_used (put_phis ∙ ap (λ l. used ++ l) (phis_are b block s is)) put_insts

  -- the line of a block as far as its name
  pub headed : (b : BlockId) (block : Block) → slice_get f.blocks b.0 ≡ Some block → codes "  block " ++ local_text (block_name_at names b) ≡ block_text f b.0
  headed b block stands = ap (λ n. codes "  block " ++ local_text n) (block_shown b (stands_below f.blocks b.0 block stands))

-- ---- blocks

pub never_text : (f : Function) (t : States AnyFact) (b : ℕ) (block : Block) → t b ≡ None → block_text f b ++ codes " never-reached\n" ≡ flat_map (line_text f) (block_lines f t b block)
never_text f t b block none =
    sym (append-nil (block_text f b ++ codes " never-reached\n"))
    ∙ ap (λ o. flat_map (line_text f) (elim o [ None ↦ ReportLine.never_reached b ∷ [] | Some s ↦ ReportLine.block b ∷ (used_lines f b block s ++ (phi_lines b block s ++ inst_lines f t b 0 block.insts)) ])) (sym none)

pub reached_text : (f : Function) (t : States AnyFact) (b : ℕ) (block : Block) (s : AbstractState AnyFact) → t b ≡ Some s →
    block_text f b ++ (line_feed ++ (flat_map (line_text f) (used_lines f b block s) ++ (flat_map (line_text f) (phi_lines b block s) ++ flat_map (line_text f) (inst_lines f t b 0 block.insts))))
    ≡ flat_map (line_text f) (block_lines f t b block)
reached_text f t b block s here =
    let lt = line_text f in
    let used = used_lines f b block s in
    let phis = phi_lines b block s in
    let insts = inst_lines f t b 0 block.insts in
    sym (append_assoc (block_text f b) line_feed (flat_map lt used ++ (flat_map lt phis ++ flat_map lt insts)))
    ∙ ap (λ l. (block_text f b ++ line_feed) ++ l)
    (ap (λ l. flat_map lt used ++ l) (sym (flat_append lt phis insts)) ∙ sym (flat_append lt used (phis ++ insts)))
    ∙ ap (λ o. flat_map lt (elim o [ None ↦ ReportLine.never_reached b ∷ [] | Some u ↦ ReportLine.block b ∷ (used_lines f b block u ++ (phi_lines b block u ++ inst_lines f t b 0 block.insts)) ])) (sym here)

-- what a match says of an option that is known
pub of_none : {A : Type 0} (N : Type 0) (P : A → Type 0) (o : Option A) → MatchOption o N P → o ≡ None → N
of_none N P None says is = says
of_none N P (Some x) says is = absurd cc

pub of_some : {A : Type 0} (N : Type 0) (P : A → Type 0) (o : Option A) (x : A) → MatchOption o N P → o ≡ Some x → P x
of_some N P o x says is = subst (λ q. MatchOption q N P) is says

-- a block that no run comes to
pub never_block : (f : Function) (t : States AnyFact) (b : ℕ) (block : Block) (old headed new : List ℕ) → t b ≡ None → headed ≡ old ++ block_text f b → new ≡ headed ++ codes " never-reached\n" →
    new ≡ old ++ flat_map (line_text f) (block_lines f t b block)
never_block f t b block old headed new none head put =
    put
    ∙ ap (λ l. l ++ codes " never-reached\n") head
    ∙ append_assoc old (block_text f b) (codes " never-reached\n")
    ∙ ap (λ l. old ++ l) (never_text f t b block none)

-- a block that a cursor was started in
pub started_block : (f : Function) (t : States AnyFact) (b : BlockId) (block : Block) (c : Cursor AnyFact) (old headed new : List ℕ) → IsAtEntry t b c → headed ≡ old ++ block_text f b.0 →
    (state_at fact_answers f t (At c.block.0 0) ≡ Some (known c.state) → new ≡ headed ++ (line_feed
    ++ (flat_map (line_text f) (used_lines f c.block.0 block (known c.state))
    ++ (flat_map (line_text f) (phi_lines c.block.0 block (known c.state))
    ++ flat_map (line_text f) (inst_lines f t c.block.0 0 block.insts))))) →
    new ≡ old ++ flat_map (line_text f) (block_lines f t b.0 block)
started_block f t b block c old headed new at head put =
    let rest : BlockId → List ℕ = λ (d : BlockId). line_feed
    ++ (flat_map (line_text f) (used_lines f d.0 block (known c.state))
    ++ (flat_map (line_text f) (phi_lines d.0 block (known c.state))
    ++ flat_map (line_text f) (inst_lines f t d.0 0 block.insts))) in
    put (ap (λ j. state_at fact_answers f t (At c.block.0 j)) (sym at.line) ∙ begins_there fact_answers f t c b at)
    ∙ ap (λ l. l ++ rest c.block) head
    ∙ append_assoc old (block_text f b.0) (rest c.block)
    ∙ ap (λ (d : BlockId). old ++ (block_text f b.0 ++ rest d)) at.block
    ∙ ap (λ l. old ++ l) (reached_text f t b.0 block (known c.state) at.entry)

-- one block more is written
pub blocks_more : (f : Function) (t : States AnyFact) (blocks : List Block) (i : ℕ) (block : Block) (before text next : List ℕ) → i < length blocks → block ≡ get_or blocks i block →
    next ≡ text ++ flat_map (line_text f) (block_lines f t i block) →
    text ++ flat_map (line_text f) (lines_from f t i (drop i blocks)) ≡ before →
    next ++ flat_map (line_text f) (lines_from f t (i + 1) (drop (i + 1) blocks)) ≡ before
blocks_more f t blocks i block before text next less is put so_far =
    let lt = line_text f in
    let one = block_lines f t i block in
    let rest = lines_from f t (suc i) (drop (suc i) blocks) in
    ap (λ j. next ++ flat_map lt (lines_from f t j (drop j blocks))) (add-one i)
    ∙ ap (λ l. l ++ flat_map lt rest) put
    ∙ append_assoc text (flat_map lt one) (flat_map lt rest)
    ∙ ap (λ l. text ++ l)
    (sym (flat_append lt one rest)
    ∙ ap (λ l. flat_map lt (lines_from f t i l)) (sym (drop-cons blocks i block less ∙ ap (λ y. y ∷ drop (suc i) blocks) (sym is))))
    ∙ so_far

pub blocks_more_at : (f : Function) (t : States AnyFact) (blocks : List Block) (i b : ℕ) (d : Block) (before text next : List ℕ) → i < length blocks → b ≡ i →
    next ≡ text ++ flat_map (line_text f) (block_lines f t b (get_or blocks i d)) →
    text ++ flat_map (line_text f) (lines_from f t b (drop i blocks)) ≡ before →
    next ++ flat_map (line_text f) (lines_from f t (b + 1) (drop (i + 1) blocks)) ≡ before
blocks_more_at f t blocks i b d before text next less same put so_far =
    let lt = line_text f in
    let block = get_or blocks i d in
    ap (λ k. next ++ flat_map lt (lines_from f t (k + 1) (drop (i + 1) blocks))) same
    ∙ blocks_more f t blocks i block before text next less (get_or_default blocks i d block less) (put ∙ ap (λ k. text ++ flat_map lt (block_lines f t k block)) same)
    (ap (λ k. text ++ flat_map lt (lines_from f t k (drop i blocks))) (sym same) ∙ so_far)

pub blocks_all : (f : Function) (t : States AnyFact) (blocks : List Block) (i b : ℕ) (before text : List ℕ) → drop i blocks ≡ [] →
    text ++ flat_map (line_text f) (lines_from f t b (drop i blocks)) ≡ before → text ≡ before
blocks_all f t blocks i b before text past so_far =
    sym (append-nil text) ∙ ap (λ l. text ++ flat_map (line_text f) (lines_from f t b l)) (sym past) ∙ so_far

-- ---- all

pub whole_report : (f : Function) (t : States AnyFact) (new titled entered text : List ℕ) → new ≡ [] → titled ≡ new ++ line_text f ReportLine.function →
    entered ≡ titled ++ flat_map (line_text f) (parameter_lines f t) → text ≡ entered ++ flat_map (line_text f) (lines_from f t 0 f.blocks) → text ≡ report_text f t
whole_report f t new titled entered text none title entry blocks =
    let lt = line_text f in
    blocks
    ∙ ap (λ l. l ++ flat_map lt (lines_from f t 0 f.blocks)) (entry ∙ ap (λ l. l ++ flat_map lt (parameter_lines f t)) (title ∙ ap (λ l. l ++ lt ReportLine.function) none))
    ∙ append_assoc (lt ReportLine.function) (flat_map lt (parameter_lines f t)) (flat_map lt (lines_from f t 0 f.blocks))
    ∙ ap (λ l. lt ReportLine.function ++ l) (sym (flat_append lt (parameter_lines f t) (lines_from f t 0 f.blocks)))
