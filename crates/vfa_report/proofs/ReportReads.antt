-- A report reads the names of its family alone: tables that agree on these have the same report.
use Rattle.std.proofs.Common.{◌≡◌, ◌+◌, ℕ, zero, suc, Bool, true, false, not, ◌&&◌, nat_eq, if◌then◌else◌, Option, Some, None, IsTrue, List, [], ◌∷◌, ◌++◌, map, take, flat_map, slice_get, unwrap_or, inl, inr, refl, sym, ap, ap₂, subst, ◌∙◌, arith, eq-eqb}
use Rattle.std.specs.Bool.{⊤}
use Rattle.std.specs.Option.{option_map}
use Rattle.std.proofs.lemmas.Option.{same_Some}
use Rattle.vfa_ir.specs.declared.operations.Op.{Op}
use Rattle.vfa_ir.specs.declared.operations.Operand.{Operand}
use Rattle.vfa_ir.specs.declared.operations.Ty.{Ty}
use Rattle.vfa_ir.specs.declared.operations.ValueId.{ValueId}
use Rattle.vfa_ir.specs.declared.functions.Block.{Block}
use Rattle.vfa_ir.specs.declared.functions.Function.{Function}
use Rattle.vfa_ir.specs.declared.functions.Inst.{Inst}
use Rattle.vfa_ir.specs.declared.functions.Param.{Param}
use Rattle.vfa_ir.specs.declared.functions.Phi.{Phi}
use Rattle.vfa_ir.specs.Defined.{op_names, term_names}
use Rattle.vfa_ir.specs.Printable.{block_ids}
use Rattle.vfa_ir.specs.Walks.{is_in}
use Rattle.vfa_mean.specs.Meaning.{operand_a, operand_b, operand_c}
use Rattle.vfa_mean.specs.Moments.{Place, At, is_call}
use Rattle.vfa_mean.specs.Outcomes.{first_block}
use Rattle.vfa_mean.proofs.FreshOperands.Definitions.{in_left, in_right, in_first, in_rest, first_or_rest}
use Rattle.vfa_values.specs.Answers.{Answers}
use Rattle.vfa_cond.specs.declared.want.Want.{Want}
use Rattle.vfa_cond.specs.Narrowing.{and_then, deepest, narrowed}
use Rattle.vfa_cond.specs.States.{AbstractState, with_live}
use Rattle.vfa_xfer.specs.declared.any_fact.AnyFact.{AnyFact}
use Rattle.vfa_xfer.specs.Transfers.{fact_answers}
use Rattle.vfa_walk.specs.Passes.{followed}
use Rattle.vfa_walk.specs.Stepping.{fact_of, sides_type, third_type, transferred, result_fact, mentions, ended, redefined, with_result, is_division, told, survived, after_inst, after_insts, insts_of, before_line}
use Rattle.vfa_walk.specs.Tables.{States, state_at}
use Rattle.vfa_walk.specs.TruthReads.{AgreeOn, EntriesAgree}
use Rattle.vfa_walk.proofs.TruthBlocks.{after_more}
use Rattle.vfa_report.specs.Reads.{uses_in, IsReported, AgreeWhereReported}
use Rattle.vfa_report.specs.Report.{Known, ReportLine, known_at, parameter_lines, used_lines, phi_lines, result_lines, inst_lines, block_lines, lines_from, line_text, report_text}
use Rattle.vfa_report.specs.Uses.{first_uses, names_in}
use Rattle.vfa_walk.proofs.NarrowingReads.{IsAmong, AreAmong, are_among_more, operands_among, IsClosed, closed_self, if_agree, then_agree, with_fact_agree, operand_agrees, narrowed_agrees}

-- ---- lists

at_in : (xs : List ℕ) (k x : ℕ) → slice_get xs k ≡ Some x → is_in x xs ≡ true
at_in [] k x e = absurd cc
at_in (y ∷ xs) zero x e = in_first x y xs (sym (same_Some y x e))
at_in (y ∷ xs) (suc k) x e = in_rest x y xs (at_in xs k x e)

at_in_map : {A : Type 0} (g : A → ℕ) (xs : List A) (k : ℕ) (x : A) → slice_get xs k ≡ Some x → is_in (g x) (map g xs) ≡ true
at_in_map g [] k x e = absurd cc
at_in_map g (y ∷ xs) zero x e = in_first (g x) (g y) (map g xs) (ap g (sym (same_Some y x e)))
at_in_map g (y ∷ xs) (suc k) x e = in_rest (g x) (g y) (map g xs) (at_in_map g xs k x e)

at_in_flat : {A : Type 0} (g : A → List ℕ) (xs : List A) (k : ℕ) (x : A) (u : ℕ) → slice_get xs k ≡ Some x → is_in u (g x) ≡ true → is_in u (flat_map g xs) ≡ true
at_in_flat g [] k x u e h = absurd cc
at_in_flat g (y ∷ xs) zero x u e h = in_left u (g y) (flat_map g xs) (subst (λ z. is_in u (g z) ≡ true) (sym (same_Some y x e)) h)
at_in_flat g (y ∷ xs) (suc k) x u e h = in_right u (g y) (flat_map g xs) (at_in_flat g xs k x u e h)

flat_same : {A B : Type 0} (g h : A → List B) (xs : List A) → ((k : ℕ) (x : A) → slice_get xs k ≡ Some x → g x ≡ h x) → flat_map g xs ≡ flat_map h xs
flat_same g h [] same = refl
flat_same g h (x ∷ xs) same = ap₂ (λ l m. l ++ m) (same 0 x refl) (flat_same g h xs (λ k y e. same (suc k) y e))

first_uses_in : (xs seen : List ℕ) (v : ℕ) → is_in v (first_uses seen xs) ≡ true → is_in v xs ≡ true
first_uses_in [] seen v h = h
first_uses_in (x ∷ xs) seen v h = at (is_in x seen) (first_uses_in xs seen v) (first_uses_in xs (x ∷ seen) v) h
  where
    at : (b : Bool) → (is_in v (first_uses seen xs) ≡ true → is_in v xs ≡ true) → (is_in v (first_uses (x ∷ seen) xs) ≡ true → is_in v xs ≡ true) →
        is_in v (if b then first_uses seen xs else x ∷ first_uses (x ∷ seen) xs) ≡ true → is_in v (x ∷ xs) ≡ true
    at true old new h = in_rest v x xs (old h)
    at false old new h = elim (first_or_rest v x (first_uses (x ∷ seen) xs) h) [ inl e ↦ in_first v x xs e | inr t ↦ in_rest v x xs (new t) ]

-- ---- instructions

module _ {V : Type 0} (answers : Answers V) (f : Function) (N : ℕ → Type 0) where
  abbrev State : Type 0
  State = AbstractState V

  -- what is read of an operation is among the names
  abbrev pub Reads : Op → Type 0
  Reads op = AreAmong (IsClosed f N deepest) op

  read_names : (op : Op) → Reads op → AreAmong N op
  read_names op reads = are_among_more (IsClosed f N deepest) N (closed_self f N deepest) op reads

  told_agrees : (x : Operand) (w : ℕ) (want : Want V) (s s' : State) → IsAmong (IsClosed f N deepest) x → AgreeOn N s s' →
      EntriesAgree N (told answers f x w want s) (told answers f x w want s')
  told_agrees x w want s s' inside agree =
      operand_agrees answers f N (IsClosed f N deepest) (narrowed answers f deepest) (narrowed_agrees answers f N deepest) x w want s s' inside agree

  survived_agrees : (op : Op) (s s' : State) → Reads op → AgreeOn N s s' → EntriesAgree N (survived answers f op s) (survived answers f op s')
  survived_agrees (Op.Bin bin flags w a b) s s' reads agree = if_agree N (is_division bin) _ _ (Some s) (Some s') (told_agrees b w _ s s' reads.b agree) agree
  survived_agrees (Op.Assume c) s s' reads agree = told_agrees c 1 _ s s' reads.c agree
  survived_agrees (Op.Icmp pred samesign w a b) s s' reads agree = agree
  survived_agrees (Op.Select w c a b) s s' reads agree = agree
  survived_agrees (Op.Cast cast flags from to a) s s' reads agree = agree
  survived_agrees (Op.Freeze w a) s s' reads agree = agree
  survived_agrees (Op.Two fun w a b) s s' reads agree = agree
  survived_agrees (Op.One fun w a strict) s s' reads agree = agree
  survived_agrees (Op.Over over w a b) s s' reads agree = agree
  survived_agrees (Op.Part w pair index) s s' reads agree = agree
  survived_agrees (Op.Call width call) s s' reads agree = agree

  fact_of_same : (t : Ty) (x : Operand) (s s' : State) → IsAmong N x → AgreeOn N s s' → fact_of answers s t x ≡ fact_of answers s' t x
  fact_of_same t (Operand.Value v) s s' inside agree = ap (λ o. unwrap_or o (answers.any t false)) (agree v.0 inside).0
  fact_of_same t (Operand.Literal bits) s s' inside agree = refl
  fact_of_same t Operand.Poison s s' inside agree = refl

  transferred_same : (op : Op) (s s' : State) → AreAmong N op → AgreeOn N s s' → transferred answers op s ≡ transferred answers op s'
  transferred_same op s s' among agree =
      ap (λ x. answers.transfer op x (fact_of answers s (sides_type op) (operand_b op)) (fact_of answers s (third_type op) (operand_c op)))
      (fact_of_same (sides_type op) (operand_a op) s s' among.a agree)
      ∙ (ap (λ y. answers.transfer op (fact_of answers s' (sides_type op) (operand_a op)) y (fact_of answers s (third_type op) (operand_c op)))
      (fact_of_same (sides_type op) (operand_b op) s s' among.b agree)
      ∙ ap (λ z. answers.transfer op (fact_of answers s' (sides_type op) (operand_a op)) (fact_of answers s' (sides_type op) (operand_b op)) z)
      (fact_of_same (third_type op) (operand_c op) s s' among.c agree))

  result_fact_same : (op : Op) (s s' : State) → AreAmong N op → AgreeOn N s s' → result_fact answers f op s ≡ result_fact answers f op s'
  result_fact_same (Op.Call width call) s s' among agree = refl
  result_fact_same (Op.Bin bin flags w a b) s s' among agree = transferred_same (Op.Bin bin flags w a b) s s' among agree
  result_fact_same (Op.Icmp pred samesign w a b) s s' among agree = transferred_same (Op.Icmp pred samesign w a b) s s' among agree
  result_fact_same (Op.Select w c a b) s s' among agree = transferred_same (Op.Select w c a b) s s' among agree
  result_fact_same (Op.Cast cast flags from to a) s s' among agree = transferred_same (Op.Cast cast flags from to a) s s' among agree
  result_fact_same (Op.Freeze w a) s s' among agree = transferred_same (Op.Freeze w a) s s' among agree
  result_fact_same (Op.Two fun w a b) s s' among agree = transferred_same (Op.Two fun w a b) s s' among agree
  result_fact_same (Op.One fun w a strict) s s' among agree = transferred_same (Op.One fun w a strict) s s' among agree
  result_fact_same (Op.Over over w a b) s s' among agree = transferred_same (Op.Over over w a b) s s' among agree
  result_fact_same (Op.Part w pair index) s s' among agree = transferred_same (Op.Part w pair index) s s' among agree
  result_fact_same (Op.Assume c) s s' among agree = transferred_same (Op.Assume c) s s' among agree

  redefined_agrees : (v : ℕ) (d : V) (s s' : State) → AgreeOn N s s' → AgreeOn N (redefined f v d s) (redefined f v d s')
  redefined_agrees v d s s' agree =
      with_fact_agree N (ended f v s) (ended f v s') v (Some d) (λ u inside. ((agree u inside).0, ap (λ b. b && not (mentions f u v)) (agree u inside).1))

  with_live_agrees : (v : ℕ) (live : Bool) (s s' : State) → AgreeOn N s s' → AgreeOn N (with_live s v live) (with_live s' v live)
  with_live_agrees v live s s' agree u inside = ((agree u inside).0, ap (λ b. if nat_eq u v then live else b) (agree u inside).1)

  -- states that agree on the names, and on the result of an instruction
  pub record AgreeBehind (result : Option ValueId) (s s' : State) : Type 0 where
    pub names : AgreeOn N s s'
    pub on_result : (v : ValueId) → result ≡ Some v → s.fact v.0 ≡ s'.fact v.0

  abbrev pub EndsAgree : Option ValueId → Option State → Option State → Type 0
  EndsAgree result None None = ⊤
  EndsAgree result (Some s) (Some s') = AgreeBehind result s s'
  EndsAgree result None (Some s') = ⊥
  EndsAgree result (Some s) None = ⊥

  own_fact : (v : ℕ) (d : V) (o o' : Option V) → (if nat_eq v v then Some d else o) ≡ (if nat_eq v v then Some d else o')
  own_fact v d o o' = let same : nat_eq v v ≡ true = eq-eqb v v refl in rw same

  given_agrees : (v : ℕ) (call : Bool) (d : V) (s s' : State) → AgreeOn N s s' →
      AgreeOn N (if call then redefined f v d s else with_live (redefined f v d s) v true) (if call then redefined f v d s' else with_live (redefined f v d s') v true)
  given_agrees v true d s s' agree = redefined_agrees v d s s' agree
  given_agrees v false d s s' agree = with_live_agrees v true (redefined f v d s) (redefined f v d s') (redefined_agrees v d s s' agree)

  given_result : (v : ℕ) (call : Bool) (d : V) (s s' : State) →
      (if call then redefined f v d s else with_live (redefined f v d s) v true).fact v ≡ (if call then redefined f v d s' else with_live (redefined f v d s') v true).fact v
  given_result v true d s s' = own_fact v d (s.fact v) (s'.fact v)
  given_result v false d s s' = own_fact v d (s.fact v) (s'.fact v)

  result_agrees : (op : Op) (result : Option ValueId) (s s' : State) → AreAmong N op → AgreeOn N s s' →
      AgreeBehind result (with_result answers f op result s) (with_result answers f op result s')
  result_agrees op None s s' among agree = record { names = agree; on_result = λ v e. absurd cc }
  result_agrees op (Some v) s s' among agree =
      subst (λ d. AgreeBehind (Some v) (with_result answers f op (Some v) s) (if is_call op then redefined f v.0 d s' else with_live (redefined f v.0 d s') v.0 true))
      (result_fact_same op s s' among agree)
      (record {
        names = given_agrees v.0 (is_call op) (result_fact answers f op s) s s' agree;
        on_result = λ u e.
            let same : v ≡ u = same_Some v u e in
            subst (λ (k : ValueId). (with_result answers f op (Some v) s).fact k.0
            ≡ (if is_call op then redefined f v.0 (result_fact answers f op s) s' else with_live (redefined f v.0 (result_fact answers f op s) s') v.0 true).fact k.0) same
            (given_result v.0 (is_call op) (result_fact answers f op s) s s');
      })

  mapped_agree : (g : State → State) (result : Option ValueId) (r r' : Option State) → EntriesAgree N r r' →
      ((s s' : State) → AgreeOn N s s' → AgreeBehind result (g s) (g s')) → EndsAgree result (option_map g r) (option_map g r')
  mapped_agree g result None None agree each = tt
  mapped_agree g result None (Some s') agree each = absurd agree
  mapped_agree g result (Some s) None agree each = absurd agree
  mapped_agree g result (Some s) (Some s') agree each = each s s' agree

  inst_agrees : (i : Inst) (s s' : State) → Reads i.op → AgreeOn N s s' → EndsAgree i.result (after_inst answers f i s) (after_inst answers f i s')
  inst_agrees i s s' reads agree =
      mapped_agree (with_result answers f i.op i.result) i.result (survived answers f i.op s) (survived answers f i.op s') (survived_agrees i.op s s' reads agree)
      (λ t t' agree'. result_agrees i.op i.result t t' (read_names i.op reads) agree')

  ends_agree : (result : Option ValueId) (r r' : Option State) → EndsAgree result r r' → EntriesAgree N r r'
  ends_agree result None None ends = tt
  ends_agree result None (Some s') ends = absurd ends
  ends_agree result (Some s) None ends = absurd ends
  ends_agree result (Some s) (Some s') ends = ends.names

  abbrev pub AllRead : List Inst → Type 0
  AllRead [] = ⊤
  AllRead (i ∷ rest) = Reads i.op × AllRead rest

  pub all_read : (insts : List Inst) → ((k : ℕ) (i : Inst) → slice_get insts k ≡ Some i → Reads i.op) → AllRead insts
  all_read [] each = tt
  all_read (i ∷ rest) each = (each 0 i refl, all_read rest (λ k j e. each (suc k) j e))

  first_read : (n : ℕ) (insts : List Inst) → AllRead insts → AllRead (take n insts)
  first_read zero [] all = tt
  first_read (suc n) [] all = tt
  first_read zero (i ∷ rest) all = tt
  first_read (suc n) (i ∷ rest) all = (all.0, first_read n rest all.1)

  insts_agree : (insts : List Inst) (s s' : State) → AllRead insts → AgreeOn N s s' → EntriesAgree N (after_insts answers f insts s) (after_insts answers f insts s')
  insts_agree [] s s' all agree = agree
  insts_agree (i ∷ rest) s s' all agree =
      then_agree N (after_inst answers f i s) (after_inst answers f i s') (after_insts answers f rest) (ends_agree i.result _ _ (inst_agrees i s s' all.0 agree))
      (λ t t' agree'. insts_agree rest t t' all.1 agree')

  then_ends : (i : Inst) (r r' : Option State) → EntriesAgree N r r' → Reads i.op → EndsAgree i.result (and_then r (after_inst answers f i)) (and_then r' (after_inst answers f i))
  then_ends i None None agree reads = tt
  then_ends i None (Some s') agree reads = absurd agree
  then_ends i (Some s) None agree reads = absurd agree
  then_ends i (Some s) (Some s') agree reads = inst_agrees i s s' reads agree

  -- behind an instruction of a list
  lines_agree : (insts : List Inst) (i : ℕ) (inst : Inst) (s s' : State) → slice_get insts i ≡ Some inst → AllRead insts → Reads inst.op → AgreeOn N s s' →
      EndsAgree inst.result (after_insts answers f (take (suc i) insts) s) (after_insts answers f (take (suc i) insts) s')
  lines_agree insts i inst s s' stands all reads agree =
      subst (λ r. EndsAgree inst.result r (after_insts answers f (take (suc i) insts) s')) (sym (after_more answers f insts i inst s stands))
      (subst (λ r'. EndsAgree inst.result (and_then (after_insts answers f (take i insts) s) (after_inst answers f inst)) r') (sym (after_more answers f insts i inst s' stands))
      (then_ends inst (after_insts answers f (take i insts) s) (after_insts answers f (take i insts) s') (insts_agree (take i insts) s s' (first_read i insts all) agree) reads))

  pub place_agrees : (b i : ℕ) (inst : Inst) (o o' : Option State) → slice_get (insts_of f b) i ≡ Some inst → AllRead (insts_of f b) → Reads inst.op → EntriesAgree N o o' →
      EndsAgree inst.result (followed (before_line answers f b (suc i)) o) (followed (before_line answers f b (suc i)) o')
  place_agrees b i inst None None stands all reads agree = tt
  place_agrees b i inst None (Some s') stands all reads agree = absurd agree
  place_agrees b i inst (Some s) None stands all reads agree = absurd agree
  place_agrees b i inst (Some s) (Some s') stands all reads agree = lines_agree (insts_of f b) i inst s s' stands all reads agree

-- ---- lines

known_same : (line : Known → ReportLine) (place : Place) (s s' : AbstractState AnyFact) (v : ℕ) → s.fact v ≡ s'.fact v → known_at line place s v ≡ known_at line place s' v
known_same line place s s' v same = ap (λ o. elim o [ None ↦ [] | Some fact ↦ line (record { place = place; name = v; parts = fact.parts }) ∷ [] ]) same

result_same : (b after : ℕ) (result : Option ValueId) (s s' : AbstractState AnyFact) → ((v : ValueId) → result ≡ Some v → s.fact v.0 ≡ s'.fact v.0) →
    result_lines b after result s ≡ result_lines b after result s'
result_same b after None s s' same = refl
result_same b after (Some v) s s' same = known_same ReportLine.defined (At b after) s s' v.0 (same v refl)

module _ (f : Function) (t u : States AnyFact) (agree : AgreeWhereReported f t u) where
  module _ (b : ℕ) (block : Block) (there : slice_get f.blocks b ≡ Some block) where
    used_closed : (v : ℕ) → is_in v (uses_in f block) ≡ true → IsClosed f (IsReported f b) deepest v
    used_closed v member w follows = IsReported.used block v there member follows

    used_reported : (v : ℕ) → is_in v (uses_in f block) ≡ true → IsReported f b v
    used_reported v member = closed_self f (IsReported f b) deepest v (used_closed v member)

    inst_reads : (k : ℕ) (i : Inst) → slice_get block.insts k ≡ Some i → Reads fact_answers f (IsReported f b) i.op
    inst_reads k i stands =
        are_among_more (λ v. IsTrue (is_in v (op_names f i.op))) (IsClosed f (IsReported f b) deepest)
        (λ v member. used_closed v (in_left v (flat_map (λ (j : Inst). op_names f j.op) block.insts) (term_names block.term)
        (at_in_flat (λ (j : Inst). op_names f j.op) block.insts k i v stands member)))
        i.op (operands_among f i.op)

    insts_are : insts_of f b ≡ block.insts
    insts_are = ap (λ o. elim o [ None ↦ [] | Some x ↦ x.insts ]) there

    behind_agrees : (i : ℕ) (inst : Inst) → slice_get block.insts i ≡ Some inst →
        EndsAgree fact_answers f (IsReported f b) inst.result (state_at fact_answers f t (At b (suc i))) (state_at fact_answers f u (At b (suc i)))
    behind_agrees i inst stands =
        place_agrees fact_answers f (IsReported f b) b i inst (t b) (u b) (ap (λ l. slice_get l i) insts_are ∙ stands)
        (subst (AllRead fact_answers f (IsReported f b)) (sym insts_are) (all_read fact_answers f (IsReported f b) block.insts inst_reads))
        (inst_reads i inst stands) (agree b)

    inst_same : (i : ℕ) (inst : Inst) (rest : List Inst) (r r' : Option (AbstractState AnyFact)) → EndsAgree fact_answers f (IsReported f b) inst.result r r' →
        inst_lines f t b (suc i) rest ≡ inst_lines f u b (suc i) rest →
        ◌≡◌ {A = List ReportLine}
        (elim r [ None ↦ ReportLine.never_past b i ∷ [] | Some s ↦ result_lines b (suc i) inst.result s ++ inst_lines f t b (suc i) rest ])
        (elim r' [ None ↦ ReportLine.never_past b i ∷ [] | Some s ↦ result_lines b (suc i) inst.result s ++ inst_lines f u b (suc i) rest ])
    inst_same i inst rest None None ends later = refl
    inst_same i inst rest None (Some s') ends later = absurd ends
    inst_same i inst rest (Some s) None ends later = absurd ends
    inst_same i inst rest (Some s) (Some s') ends later = ap₂ (λ l m. l ++ m) (result_same b (suc i) inst.result s s' ends.on_result) later

    insts_same : (i : ℕ) (insts : List Inst) → ((j : ℕ) → slice_get insts j ≡ slice_get block.insts (j + i)) → inst_lines f t b i insts ≡ inst_lines f u b i insts
    insts_same i [] same = refl
    insts_same i (inst ∷ rest) same =
        let here : i ≡ 0 + i = omega arith in
        inst_same i inst rest (state_at fact_answers f t (At b (suc i))) (state_at fact_answers f u (At b (suc i)))
        (behind_agrees i inst (ap (slice_get block.insts) here ∙ sym (same 0)))
        (insts_same (suc i) rest (λ j. let next : suc j + i ≡ j + suc i = omega arith in same (suc j) ∙ ap (slice_get block.insts) next))

    used_same : (s s' : AbstractState AnyFact) → AgreeOn (IsReported f b) s s' → used_lines f b block s ≡ used_lines f b block s'
    used_same s s' agrees =
        flat_same (known_at ReportLine.used (At b 0) s) (known_at ReportLine.used (At b 0) s') (names_in f block)
        (λ k v stands. known_same ReportLine.used (At b 0) s s' v
        ((agrees v (used_reported v (first_uses_in (uses_in f block) (block_ids block) v (at_in (names_in f block) k v stands)))).0))

    phis_same : (s s' : AbstractState AnyFact) → AgreeOn (IsReported f b) s s' → phi_lines b block s ≡ phi_lines b block s'
    phis_same s s' agrees =
        flat_same (λ (p : Phi). known_at ReportLine.defined (At b 0) s p.result.0) (λ (p : Phi). known_at ReportLine.defined (At b 0) s' p.result.0) block.phis
        (λ k p stands. known_same ReportLine.defined (At b 0) s s' p.result.0
        ((agrees p.result.0 (IsReported.of_phi block there (at_in_map (λ (q : Phi). q.result.0) block.phis k p stands))).0))

    entries_same : (r r' : Option (AbstractState AnyFact)) → EntriesAgree (IsReported f b) r r' →
        ◌≡◌ {A = List ReportLine}
        (elim r [ None ↦ ReportLine.never_reached b ∷ [] | Some s ↦ ReportLine.block b ∷ (used_lines f b block s ++ (phi_lines b block s ++ inst_lines f t b 0 block.insts)) ])
        (elim r' [ None ↦ ReportLine.never_reached b ∷ [] | Some s ↦ ReportLine.block b ∷ (used_lines f b block s ++ (phi_lines b block s ++ inst_lines f u b 0 block.insts)) ])
    entries_same None None agrees = refl
    entries_same None (Some s') agrees = absurd agrees
    entries_same (Some s) None agrees = absurd agrees
    entries_same (Some s) (Some s') agrees =
        ap (λ l. ReportLine.block b ∷ l)
        (ap₂ (λ l m. l ++ m) (used_same s s' agrees)
        (ap₂ (λ l m. l ++ m) (phis_same s s' agrees)
        (insts_same 0 block.insts (λ j. let same : j ≡ j + 0 = omega arith in ap (slice_get block.insts) same))))

    block_same : block_lines f t b block ≡ block_lines f u b block
    block_same = entries_same (t b) (u b) (agree b)

  blocks_same : (b : ℕ) (blocks : List Block) → ((j : ℕ) → slice_get blocks j ≡ slice_get f.blocks (j + b)) → lines_from f t b blocks ≡ lines_from f u b blocks
  blocks_same b [] same = refl
  blocks_same b (block ∷ rest) same =
      let here : b ≡ 0 + b = omega arith in
      ap₂ (λ l m. l ++ m) (block_same b block (ap (slice_get f.blocks) here ∙ sym (same 0)))
      (blocks_same (suc b) rest (λ j. let next : suc j + b ≡ j + suc b = omega arith in same (suc j) ∙ ap (slice_get f.blocks) next))

  parameters_same : parameter_lines f t ≡ parameter_lines f u
  parameters_same = at (t first_block) (u first_block) (agree first_block)
    where
      at : (r r' : Option (AbstractState AnyFact)) → EntriesAgree (IsReported f first_block) r r' →
          ◌≡◌ {A = List ReportLine}
          (elim r [ None ↦ [] | Some s ↦ flat_map (λ p. known_at ReportLine.parameter (At first_block 0) s p.value.0) f.params ])
          (elim r' [ None ↦ [] | Some s ↦ flat_map (λ p. known_at ReportLine.parameter (At first_block 0) s p.value.0) f.params ])
      at None None agrees = refl
      at None (Some s') agrees = absurd agrees
      at (Some s) None agrees = absurd agrees
      at (Some s) (Some s') agrees =
          flat_same (λ (p : Param). known_at ReportLine.parameter (At first_block 0) s p.value.0) (λ (p : Param). known_at ReportLine.parameter (At first_block 0) s' p.value.0) f.params
          (λ k p stands. known_same ReportLine.parameter (At first_block 0) s s' p.value.0
          ((agrees p.value.0 (IsReported.parameter refl (at_in_map (λ (q : Param). q.value.0) f.params k p stands))).0))

  pub report_same : report_text f t ≡ report_text f u
  report_same =
      ap (λ l. flat_map (line_text f) (ReportLine.function ∷ l))
      (ap₂ (λ l m. l ++ m) parameters_same (blocks_same 0 f.blocks (λ j. let same : j ≡ j + 0 = omega arith in ap (slice_get f.blocks) same)))
