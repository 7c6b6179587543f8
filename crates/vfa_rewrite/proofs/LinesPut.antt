-- A cursor that goes through a block puts what the marks put at each of its instructions.
use Rattle.std.proofs.Common.{◌≡◌, ◌<◌, ◌≤◌, ◌+◌, ℕ, suc, Bool, true, false, if◌then◌else◌, Option, Some, None, is_some, List, [], ◌∷◌, ◌++◌, drop, length, get_or, refl, sym, ap, ◌∙◌, subst, add-one, append_assoc}
use Rattle.std.specs.Prelude.{slice_get, slice_index_or}
use Rattle.std.specs.Option.{option_map, option_or}
use Rattle.std.proofs.lemmas.List.{append-nil, drop_all, drop_more}
use Rattle.std.proofs.lemmas.Option.{same_Some, slice_get-get_or}
use Rattle.vfa_ir.specs.declared.operations.BlockId.{BlockId}
use Rattle.vfa_ir.specs.declared.operations.Op.{Op}
use Rattle.vfa_ir.specs.declared.operations.Operand.{Operand}
use Rattle.vfa_ir.specs.declared.functions.Block.{Block}
use Rattle.vfa_ir.specs.declared.functions.CallOp.{CallOp}
use Rattle.vfa_ir.specs.declared.functions.Function.{Function}
use Rattle.vfa_ir.specs.declared.functions.Inst.{Inst}
use Rattle.vfa_mean.specs.Moments.{At, IsLine, is_call}
use Rattle.vfa_cond.specs.Conditions.{AreFacts}
use Rattle.vfa_cond.specs.States.{known, Stored}
use Rattle.vfa_walk.specs.declared.cursor.Cursor.{Cursor}
use Rattle.vfa_walk.specs.Cursors.{IsAtEntry}
use Rattle.vfa_walk.specs.Kept.{IsStateOf}
use Rattle.vfa_walk.specs.Stepping.{insts_of}
use Rattle.vfa_xfer.specs.declared.any_fact.AnyFact.{AnyFact}
use Rattle.vfa_xfer.specs.AnyFacts.{fact_type, IsAnyFact}
use Rattle.vfa_rules.specs.declared.change.Change.{Change}
use Rattle.vfa_rules.specs.Uses.{first_found}
use Rattle.vfa_rewrite.specs.declared.found.LineFinding.{LineFinding}
use Rattle.vfa_rewrite.specs.ByFacts.{FactState, FactTable, decision_in, fact_state, findings_of}
use Rattle.vfa_rewrite.specs.Chains.{itself}
use Rattle.vfa_rewrite.specs.Findings.{Findings, operation_of}
use Rattle.vfa_rewrite.specs.Found.{kept_line, only_if}
use Rattle.vfa_rewrite.specs.Making.{first_marks, line_at, makes_call, put_at, work_at}
use Rattle.vfa_rewrite.specs.Putting.{AreNamed, IsReadyToPut, MayPut, call_in, call_with, put_by, worked}
use Rattle.vfa_rewrite.specs.Replacing.{AreKeptLines}
use Rattle.vfa_rewrite.specs.Rewritten.{changed_by, if_met, if_stays, line_of, lines_left, with_numbers, with_operands}
use Rattle.vfa_rewrite.proofs.CallsPut.{made_here, none_here}
use Rattle.vfa_rewrite.proofs.Goings.{IsStanding, insts_are, none_next, stands_first}
use Rattle.vfa_rewrite.proofs.Lines.{call_tells}
use Rattle.vfa_rewrite.proofs.Noting.{noted_one, or_none}
use Rattle.vfa_rewrite.proofs.OperandsPut.{puts_are, usables_named}

module _ (f : Function) (t : FactTable) (others : List (Option Operand)) (ready : IsReadyToPut f t others) where
  abbrev found : Findings
  found = findings_of f t

  -- ---- by the state at a place

  puts_at : (b i : ℕ) (s : FactState) → fact_state f t (At b i) ≡ Some s → put_by f others (Some s) ≡ put_at f found (At b i)
  puts_at b i s e = puts_are f found (At b i) (Some s) others (λ ty a. ap (λ o. decision_in o ty a) e) ready.in_place

  met_is : (b i : ℕ) (s : FactState) → fact_state f t (At b i) ≡ Some s → found.met b i ≡ true
  met_is b i s e = ap is_some e

  unmet_is : (b i : ℕ) → fact_state f t (At b i) ≡ None → found.met b i ≡ false
  unmet_is b i e = ap is_some e

  -- ---- the operation that does the work

  pub worked_is : (b i : ℕ) (inst : Inst) (s : FactState) → fact_state f t (At b i) ≡ Some s → (line : Option LineFinding) → line ≡ kept_line found b i inst →
      worked line inst.op ≡ operation_of (found.change b i inst) inst.op
  worked_is b i inst s e line here =
      ap (λ l. worked l inst.op) here
      ∙ ap (λ m. worked (only_if m (record { change = found.change b i inst; may_be_undefined = found.may_be_undefined b i inst })) inst.op) (met_is b i s e)

  work_named : (b i : ℕ) (block : Block) (inst : Inst) (s : FactState) → IsLine f b block i inst → fact_state f t (At b i) ≡ Some s →
      AreNamed f (operation_of (found.change b i inst) inst.op)
  work_named b i block inst s line e = by (is_call inst.op) refl
    where
      by : (c : Bool) → is_call inst.op ≡ c → AreNamed f (operation_of (found.change b i inst) inst.op)
      by true call =
          let is = call_tells inst.op call in
          subst (λ c. AreNamed f (operation_of c inst.op)) (sym (ready.fits.call b block i inst line call)) (subst (AreNamed f) (sym is.is) tt)
      by false plain =
          usables_named f (At b i) (operation_of (found.change b i inst) inst.op) (ready.fits.change b block i inst line (met_is b i s e) plain).usable

  pub worked_named : (b i : ℕ) (block : Block) (inst : Inst) (s : FactState) → IsLine f b block i inst → fact_state f t (At b i) ≡ Some s →
      (line : Option LineFinding) → line ≡ kept_line found b i inst → AreNamed f (worked line inst.op)
  worked_named b i block inst s line e kept here = subst (AreNamed f) (sym (worked_is b i inst s e kept here)) (work_named b i block inst s line e)

  -- ---- one instruction more

  module _ (reached : ℕ → Bool) where
    line_left : (b i : ℕ) (inst : Inst) (rest : List Inst) (s : FactState) → line_at f b i ≡ Some inst → fact_state f t (At b i) ≡ Some s →
        lines_left (first_marks f found reached) b i (inst ∷ rest)
        ≡ line_of inst.result (with_operands (put_at f found (At b i)) (operation_of (found.change b i inst) inst.op)) ∷ lines_left (first_marks f found reached) b (suc i) rest
    line_left b i inst rest s there e =
        ap (λ t. if_met t (if_stays true (changed_by (work_at f found b i) (first_marks f found reached) b i inst) (lines_left (first_marks f found reached) b (suc i) rest))) (met_is b i s e)
        ∙ ap (λ o. changed_by (elim o [ None ↦ Change.Gone | Some x ↦ Change.Keep (operation_of (found.change b i x) x.op) ]) (first_marks f found reached) b i inst ++ lines_left (first_marks f found reached) b (suc i) rest) there

    -- where no run comes nothing is left
    pub none_left : (b i : ℕ) (rest : List Inst) → fact_state f t (At b i) ≡ None → lines_left (first_marks f found reached) b i rest ≡ []
    none_left b i [] e = refl
    none_left b i (inst ∷ rest) e =
        ap (λ t. if_met t (if_stays true (changed_by (work_at f found b i) (first_marks f found reached) b i inst) (lines_left (first_marks f found reached) b (suc i) rest))) (unmet_is b i e)

  pub none_called : (k b i : ℕ) (rest : List Inst) → fact_state f t (At b i) ≡ None → first_found itself (with_numbers (call_in f found k b) i rest) ≡ None
  none_called k b i [] e = refl
  none_called k b i (inst ∷ rest) e =
      ap (λ o. option_or o (first_found itself (with_numbers (call_in f found k b) (suc i) rest))) (none_here f found k b i inst (unmet_is b i e))
      ∙ none_called k b (suc i) rest (none_next f t b i e)

-- ---- through a block

pub may_put : (f : Function) (t : FactTable) (others : List (Option Operand)) → IsReadyToPut f t others → (s : Stored AnyFact) → AreFacts fact_type IsAnyFact f (known s) →
    MayPut f others (Some (known s))
may_put f t others ready s facts = record { of_type = ready.of_type; facts = λ x e. subst (AreFacts fact_type IsAnyFact f) (same_Some (known s) x e) facts }

-- what is put so far, and what is left of the rest, is what is left of all; and so with calls
pub record IsPut (f : Function) (t : FactTable) (b : BlockId) (insts : List Inst) (initial calls : List (Option CallOp)) (k : ℕ) (c : Cursor AnyFact) (lines : List Inst) : Type 0 where
  pub standing : IsStanding f t b k c
  pub lines_are : (reached : ℕ → Bool) → lines ++ lines_left (first_marks f (findings_of f t) reached) b.0 k (drop k insts)
      ≡ lines_left (first_marks f (findings_of f t) reached) b.0 0 insts
  pub count : length calls ≡ length initial
  pub calls_are : (n : ℕ) → option_or (slice_index_or calls n None) (first_found itself (with_numbers (call_in f (findings_of f t) n b.0) k (drop k insts)))
      ≡ option_or (slice_index_or initial n None) (first_found itself (with_numbers (call_in f (findings_of f t) n b.0) 0 insts))

module _ (f : Function) (t : FactTable) (others : List (Option Operand)) (ready : IsReadyToPut f t others) (b : BlockId) (block : Block) (there : slice_get f.blocks b.0 ≡ Some block)
    (insts : List Inst) (are : insts ≡ block.insts) where
  abbrev all_found : Findings
  all_found = findings_of f t

  own : insts_of f b.0 ≡ insts
  own = insts_are f b.0 block there ∙ sym are

  pub put_first : (initial : List (Option CallOp)) (c : Cursor AnyFact) → IsAtEntry t b c → IsStateOf fact_type IsAnyFact f c.state → IsPut f t b insts initial initial 0 c []
  put_first initial c at kept = record { standing = stands_first f t b c at kept; lines_are = λ reached. refl; count = refl; calls_are = λ n. refl }

  module _ (initial calls : List (Option CallOp)) (k : ℕ) (c : Cursor AnyFact) (lines : List Inst) (so_far : IsPut f t b insts initial calls k c lines) (d inst : Inst) (is : inst ≡ get_or insts k d) (less : k < length insts)
      (s : Stored AnyFact) (at : s ≡ c.state) where
    abbrev state : FactState
    state = known s

    state_is : fact_state f t (At b.0 k) ≡ Some state
    state_is = so_far.standing.has.known ∙ ap (λ (x : Stored AnyFact). Some (known x)) (sym at)

    stands : slice_get insts k ≡ Some inst
    stands = slice_get-get_or insts k d less ∙ ap Some (sym is)

    pub is_line : IsLine f b.0 block k inst
    is_line = record { there = there; stands = ap (λ l. slice_get l k) (sym are) ∙ stands }

    pub op_named : (kept : Option LineFinding) → kept ≡ kept_line all_found b.0 k inst → AreNamed f (worked kept inst.op)
    op_named kept kept_is = worked_named f t others ready b.0 k block inst state is_line state_is kept kept_is

    pub in_block : slice_get (insts_of f b.0) k ≡ Some inst
    in_block = ap (λ l. slice_get l k) own ∙ stands

    rest_is : drop k insts ≡ inst ∷ drop (k + 1) insts
    rest_is = drop_more insts k d less ∙ ap (λ x. x ∷ drop (k + 1) insts) (sym is)

    pub lines_more : (kept : Option LineFinding) → kept ≡ kept_line all_found b.0 k inst → (new : List Inst) (op : Op) → op ≡ with_operands (put_by f others (Some state)) (worked kept inst.op) → new ≡ lines ++ (line_of inst.result op ∷ []) → (reached : ℕ → Bool) →
        new ++ lines_left (first_marks f all_found reached) b.0 (k + 1) (drop (k + 1) insts) ≡ lines_left (first_marks f all_found reached) b.0 0 insts
    lines_more kept kept_is new op op_is put reached =
        let m = first_marks f all_found reached in
        let rest = lines_left m b.0 (k + 1) (drop (k + 1) insts) in
        let made : line_of inst.result op ≡ line_of inst.result (with_operands (put_at f all_found (At b.0 k)) (operation_of (all_found.change b.0 k inst) inst.op)) =
        ap (line_of inst.result) op_is ∙ (λ i. line_of inst.result (with_operands (puts_at f t others ready b.0 k state state_is i) (worked_is f t others ready b.0 k inst state state_is kept kept_is i))) in
        let now : lines_left m b.0 k (drop k insts) ≡ line_of inst.result op ∷ rest =
        ap (lines_left m b.0 k) rest_is
        ∙ (line_left f t others ready reached b.0 k inst (drop (k + 1) insts) state (ap (λ l. slice_get l k) own ∙ stands) state_is
        ∙ (ap (λ x. x ∷ lines_left m b.0 (suc k) (drop (k + 1) insts)) (sym made)
        ∙ ap (λ n. line_of inst.result op ∷ lines_left m b.0 n (drop (k + 1) insts)) (sym (add-one k)))) in
        ap (λ l. l ++ rest) put ∙ (append_assoc lines (line_of inst.result op ∷ []) rest ∙ (ap (λ l. lines ++ l) (sym now) ∙ so_far.lines_are reached))

    pub calls_more : (new : List (Option CallOp)) → ((n : ℕ) → slice_index_or new n None ≡
        option_or (slice_index_or calls n None) (if makes_call n inst.op then option_map (call_with (put_by f others (Some state))) (slice_get f.calls n) else None)) → (n : ℕ) →
        option_or (slice_index_or new n None) (first_found itself (with_numbers (call_in f all_found n b.0) (k + 1) (drop (k + 1) insts)))
        ≡ option_or (slice_index_or initial n None) (first_found itself (with_numbers (call_in f all_found n b.0) 0 insts))
    calls_more new put n =
        noted_one (call_in f all_found n b.0) insts k d less (slice_index_or calls n None) (slice_index_or new n None) _ (so_far.calls_are n)
        (put n ∙ ap (option_or (slice_index_or calls n None))
        (made_here f all_found n b.0 k inst (met_is f t others ready b.0 k state state_is) (put_by f others (Some state)) (puts_at f t others ready b.0 k state state_is)
        ∙ ap (call_in f all_found n b.0 k) is))

    -- the same by what was found out of all of them
    module _ (findings : List LineFinding) (all_are : AreKeptLines all_found b.0 block.insts findings) (kept : Option LineFinding) (here : kept ≡ slice_get findings k) where
      kept_here : kept ≡ kept_line all_found b.0 k inst
      kept_here = here ∙ all_are k inst is_line.stands

      pub line_named : AreNamed f (worked kept inst.op)
      line_named = op_named kept kept_here

      pub line_put : (old : Op) → old ≡ worked kept inst.op → (op : Op) → op ≡ with_operands (put_by f others (Some state)) old → (new : List Inst) → new ≡ lines ++ (line_of inst.result op ∷ []) →
          (reached : ℕ → Bool) →
          new ++ lines_left (first_marks f all_found reached) b.0 (k + 1) (drop (k + 1) insts) ≡ lines_left (first_marks f all_found reached) b.0 0 insts
      line_put old old_is op op_is new put =
          lines_more kept kept_here new op (op_is ∙ ap (with_operands (put_by f others (Some state))) old_is) put

  -- behind the last one that a run comes to
  pub lines_stop : (k : ℕ) (rest lines : List Inst) (reached : ℕ → Bool) → fact_state f t (At b.0 k) ≡ None →
      lines ++ lines_left (first_marks f all_found reached) b.0 k rest ≡ lines_left (first_marks f all_found reached) b.0 0 insts → lines ≡ lines_left (first_marks f all_found reached) b.0 0 block.insts
  lines_stop k rest lines reached none h =
      sym (append-nil lines) ∙ (ap (λ l. lines ++ l) (sym (none_left f t others ready reached b.0 k rest none)) ∙ (h ∙ ap (lines_left (first_marks f all_found reached) b.0 0) are))

  pub calls_stop : (n k : ℕ) (rest : List Inst) (now all : Option CallOp) → fact_state f t (At b.0 k) ≡ None →
      option_or now (first_found itself (with_numbers (call_in f all_found n b.0) k rest)) ≡ all → now ≡ all
  calls_stop n k rest now all none h = sym (or_none now) ∙ (ap (option_or now) (sym (none_called f t others ready n b.0 k rest none)) ∙ h)

  pub lines_done : (k : ℕ) (lines : List Inst) (reached : ℕ → Bool) → length insts ≤ k →
      lines ++ lines_left (first_marks f all_found reached) b.0 k (drop k insts) ≡ lines_left (first_marks f all_found reached) b.0 0 insts → lines ≡ lines_left (first_marks f all_found reached) b.0 0 block.insts
  lines_done k lines reached past h =
      sym (append-nil lines)
      ∙ (ap (λ l. lines ++ lines_left (first_marks f all_found reached) b.0 k l) (sym (drop_all k insts past)) ∙ (h ∙ ap (lines_left (first_marks f all_found reached) b.0 0) are))

  pub calls_in_block : (n : ℕ) (initial : Option CallOp) → option_or initial (first_found itself (with_numbers (call_in f all_found n b.0) 0 insts))
      ≡ option_or initial (first_found itself (with_numbers (call_in f all_found n b.0) 0 block.insts))
  calls_in_block n initial = ap (λ l. option_or initial (first_found itself (with_numbers (call_in f all_found n b.0) 0 l))) are
