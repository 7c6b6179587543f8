-- What instructions and edges make of states that agree on the names that are read at a block.
use Rattle.std.proofs.Common.{◌≡◌, ◌+◌, ℕ, zero, suc, Bool, true, false, not, ◌&&◌, nat_eq, if◌then◌else◌, Option, Some, None, is_some, List, [], ◌∷◌, take, slice_get, unwrap_or, refl, sym, ap, ap₂, subst, ◌∙◌, eq-eqb}
use Rattle.std.specs.Bool.{⊤}
use Rattle.std.specs.List.{AllByRecursion}
use Rattle.std.specs.Option.{option_map}
use Rattle.std.proofs.lemmas.Option.{same_Some}
use Rattle.vfa_ir.specs.declared.operations.BlockId.{BlockId}
use Rattle.vfa_ir.specs.declared.operations.Op.{Op}
use Rattle.vfa_ir.specs.declared.operations.Operand.{Operand}
use Rattle.vfa_ir.specs.declared.operations.Ty.{Ty}
use Rattle.vfa_ir.specs.declared.operations.ValueId.{ValueId}
use Rattle.vfa_ir.specs.declared.functions.Block.{Block}
use Rattle.vfa_ir.specs.declared.functions.Function.{Function}
use Rattle.vfa_ir.specs.declared.functions.Inst.{Inst}
use Rattle.vfa_ir.specs.declared.functions.Term.{Term}
use Rattle.vfa_mean.specs.Meaning.{operand_a, operand_b, operand_c}
use Rattle.vfa_mean.specs.Moments.{is_call}
use Rattle.vfa_cfg.specs.declared.listing.Edge.{Edge}
use Rattle.vfa_cfg.specs.declared.listing.Way.{Way}
use Rattle.vfa_cfg.specs.Edges.{case_edges, block_edges}
use Rattle.vfa_values.specs.Answers.{Answers}
use Rattle.vfa_cond.specs.declared.want.Want.{Want}
use Rattle.vfa_cond.specs.Narrowing.{and_then, deepest, narrowed}
use Rattle.vfa_cond.specs.States.{AbstractState, with_live}
use Rattle.vfa_walk.specs.Joining.{of_both, joined}
use Rattle.vfa_walk.specs.Leaving.{told_no_case, told_case, along_way, along_edge, joined_edges, edges_out, paired, left_to}
use Rattle.vfa_walk.specs.Passes.{merged, followed}
use Rattle.vfa_walk.specs.Stepping.{fact_of, sides_type, third_type, transferred, result_fact, mentions, ended, redefined, with_result, is_division, told, survived, after_inst, after_insts, insts_of, before_line, before_end}
use Rattle.vfa_walk.specs.TruthReads.{AgreeOn, EntriesAgree}
use Rattle.vfa_walk.proofs.NarrowingReads.{IsAmong, AreAmong, are_among_more, IsClosed, closed_self, if_agree, then_agree, with_fact_agree, operand_agrees, narrowed_agrees}
use Rattle.vfa_walk.proofs.TruthBlocks.{after_more}

-- ---- instructions

module _ {V : Type 0} (answers : Answers V) (f : Function) (N : ℕ → Type 0) where
  abbrev State : Type 0
  State = AbstractState V

  -- what is read of an operation is among the names
  abbrev pub Reads : Op → Type 0
  Reads op = AreAmong (IsClosed f N deepest) op

  read_names : (op : Op) → Reads op → AreAmong N op
  read_names op reads = are_among_more (IsClosed f N deepest) N (closed_self f N deepest) op reads

  told_agrees : (x : Operand) (w : ℕ) (want : Want V) (s s' : State) → IsAmong (IsClosed f N deepest) x → AgreeOn N s s' →
      EntriesAgree N (told answers f x w want s) (told answers f x w want s')
  told_agrees x w want s s' inside agree =
      operand_agrees answers f N (IsClosed f N deepest) (narrowed answers f deepest) (narrowed_agrees answers f N deepest) x w want s s' inside agree

  survived_agrees : (op : Op) (s s' : State) → Reads op → AgreeOn N s s' → EntriesAgree N (survived answers f op s) (survived answers f op s')
  survived_agrees (Op.Bin bin flags w a b) s s' reads agree = if_agree N (is_division bin) _ _ (Some s) (Some s') (told_agrees b w _ s s' reads.b agree) agree
  survived_agrees (Op.Assume c) s s' reads agree = told_agrees c 1 _ s s' reads.c agree
  survived_agrees (Op.Icmp pred samesign w a b) s s' reads agree = agree
  survived_agrees (Op.Select w c a b) s s' reads agree = agree
  survived_agrees (Op.Cast cast flags from to a) s s' reads agree = agree
  survived_agrees (Op.Freeze w a) s s' reads agree = agree
  survived_agrees (Op.Two fun w a b) s s' reads agree = agree
  survived_agrees (Op.One fun w a strict) s s' reads agree = agree
  survived_agrees (Op.Over over w a b) s s' reads agree = agree
  survived_agrees (Op.Part w pair index) s s' reads agree = agree
  survived_agrees (Op.Call width call) s s' reads agree = agree

  pub fact_of_same : (t : Ty) (x : Operand) (s s' : State) → IsAmong N x → AgreeOn N s s' → fact_of answers s t x ≡ fact_of answers s' t x
  fact_of_same t (Operand.Value v) s s' inside agree = ap (λ o. unwrap_or o (answers.any t false)) (agree v.0 inside).0
  fact_of_same t (Operand.Literal bits) s s' inside agree = refl
  fact_of_same t Operand.Poison s s' inside agree = refl

  transferred_same : (op : Op) (s s' : State) → AreAmong N op → AgreeOn N s s' → transferred answers op s ≡ transferred answers op s'
  transferred_same op s s' among agree =
      ap (λ x. answers.transfer op x (fact_of answers s (sides_type op) (operand_b op)) (fact_of answers s (third_type op) (operand_c op)))
      (fact_of_same (sides_type op) (operand_a op) s s' among.a agree)
      ∙ (ap (λ y. answers.transfer op (fact_of answers s' (sides_type op) (operand_a op)) y (fact_of answers s (third_type op) (operand_c op)))
      (fact_of_same (sides_type op) (operand_b op) s s' among.b agree)
      ∙ ap (λ z. answers.transfer op (fact_of answers s' (sides_type op) (operand_a op)) (fact_of answers s' (sides_type op) (operand_b op)) z)
      (fact_of_same (third_type op) (operand_c op) s s' among.c agree))

  result_fact_same : (op : Op) (s s' : State) → AreAmong N op → AgreeOn N s s' → result_fact answers f op s ≡ result_fact answers f op s'
  result_fact_same (Op.Call width call) s s' among agree = refl
  result_fact_same (Op.Bin bin flags w a b) s s' among agree = transferred_same (Op.Bin bin flags w a b) s s' among agree
  result_fact_same (Op.Icmp pred samesign w a b) s s' among agree = transferred_same (Op.Icmp pred samesign w a b) s s' among agree
  result_fact_same (Op.Select w c a b) s s' among agree = transferred_same (Op.Select w c a b) s s' among agree
  result_fact_same (Op.Cast cast flags from to a) s s' among agree = transferred_same (Op.Cast cast flags from to a) s s' among agree
  result_fact_same (Op.Freeze w a) s s' among agree = transferred_same (Op.Freeze w a) s s' among agree
  result_fact_same (Op.Two fun w a b) s s' among agree = transferred_same (Op.Two fun w a b) s s' among agree
  result_fact_same (Op.One fun w a strict) s s' among agree = transferred_same (Op.One fun w a strict) s s' among agree
  result_fact_same (Op.Over over w a b) s s' among agree = transferred_same (Op.Over over w a b) s s' among agree
  result_fact_same (Op.Part w pair index) s s' among agree = transferred_same (Op.Part w pair index) s s' among agree
  result_fact_same (Op.Assume c) s s' among agree = transferred_same (Op.Assume c) s s' among agree

  redefined_agrees : (v : ℕ) (d : V) (s s' : State) → AgreeOn N s s' → AgreeOn N (redefined f v d s) (redefined f v d s')
  redefined_agrees v d s s' agree =
      with_fact_agree N (ended f v s) (ended f v s') v (Some d) (λ u inside. ((agree u inside).0, ap (λ b. b && not (mentions f u v)) (agree u inside).1))

  with_live_agrees : (v : ℕ) (live : Bool) (s s' : State) → AgreeOn N s s' → AgreeOn N (with_live s v live) (with_live s' v live)
  with_live_agrees v live s s' agree u inside = ((agree u inside).0, ap (λ b. if nat_eq u v then live else b) (agree u inside).1)

  -- states that agree on the names, and on the result of an instruction
  pub record AgreeBehind (result : Option ValueId) (s s' : State) : Type 0 where
    pub names : AgreeOn N s s'
    pub on_result : (v : ValueId) → result ≡ Some v → s.fact v.0 ≡ s'.fact v.0

  abbrev pub EndsAgree : Option ValueId → Option State → Option State → Type 0
  EndsAgree result None None = ⊤
  EndsAgree result (Some s) (Some s') = AgreeBehind result s s'
  EndsAgree result None (Some s') = ⊥
  EndsAgree result (Some s) None = ⊥

  own_fact : (v : ℕ) (d : V) (o o' : Option V) → (if nat_eq v v then Some d else o) ≡ (if nat_eq v v then Some d else o')
  own_fact v d o o' = let same : nat_eq v v ≡ true = eq-eqb v v refl in rw same

  given_agrees : (v : ℕ) (call : Bool) (d : V) (s s' : State) → AgreeOn N s s' →
      AgreeOn N (if call then redefined f v d s else with_live (redefined f v d s) v true) (if call then redefined f v d s' else with_live (redefined f v d s') v true)
  given_agrees v true d s s' agree = redefined_agrees v d s s' agree
  given_agrees v false d s s' agree = with_live_agrees v true (redefined f v d s) (redefined f v d s') (redefined_agrees v d s s' agree)

  given_result : (v : ℕ) (call : Bool) (d : V) (s s' : State) →
      (if call then redefined f v d s else with_live (redefined f v d s) v true).fact v ≡ (if call then redefined f v d s' else with_live (redefined f v d s') v true).fact v
  given_result v true d s s' = own_fact v d (s.fact v) (s'.fact v)
  given_result v false d s s' = own_fact v d (s.fact v) (s'.fact v)

  result_agrees : (op : Op) (result : Option ValueId) (s s' : State) → AreAmong N op → AgreeOn N s s' →
      AgreeBehind result (with_result answers f op result s) (with_result answers f op result s')
  result_agrees op None s s' among agree = record { names = agree; on_result = λ v e. absurd cc }
  result_agrees op (Some v) s s' among agree =
      subst (λ d. AgreeBehind (Some v) (with_result answers f op (Some v) s) (if is_call op then redefined f v.0 d s' else with_live (redefined f v.0 d s') v.0 true))
      (result_fact_same op s s' among agree)
      (record {
        names = given_agrees v.0 (is_call op) (result_fact answers f op s) s s' agree;
        on_result = λ u e.
            let same : v ≡ u = same_Some v u e in
            subst (λ (k : ValueId). (with_result answers f op (Some v) s).fact k.0
            ≡ (if is_call op then redefined f v.0 (result_fact answers f op s) s' else with_live (redefined f v.0 (result_fact answers f op s) s') v.0 true).fact k.0) same
            (given_result v.0 (is_call op) (result_fact answers f op s) s s');
      })

  mapped_agree : (g : State → State) (result : Option ValueId) (r r' : Option State) → EntriesAgree N r r' →
      ((s s' : State) → AgreeOn N s s' → AgreeBehind result (g s) (g s')) → EndsAgree result (option_map g r) (option_map g r')
  mapped_agree g result None None agree each = tt
  mapped_agree g result None (Some s') agree each = absurd agree
  mapped_agree g result (Some s) None agree each = absurd agree
  mapped_agree g result (Some s) (Some s') agree each = each s s' agree

  inst_agrees : (i : Inst) (s s' : State) → Reads i.op → AgreeOn N s s' → EndsAgree i.result (after_inst answers f i s) (after_inst answers f i s')
  inst_agrees i s s' reads agree =
      mapped_agree (with_result answers f i.op i.result) i.result (survived answers f i.op s) (survived answers f i.op s') (survived_agrees i.op s s' reads agree)
      (λ t t' agree'. result_agrees i.op i.result t t' (read_names i.op reads) agree')

  ends_agree : (result : Option ValueId) (r r' : Option State) → EndsAgree result r r' → EntriesAgree N r r'
  ends_agree result None None ends = tt
  ends_agree result None (Some s') ends = absurd ends
  ends_agree result (Some s) None ends = absurd ends
  ends_agree result (Some s) (Some s') ends = ends.names

  abbrev pub AllRead : List Inst → Type 0
  AllRead [] = ⊤
  AllRead (i ∷ rest) = Reads i.op × AllRead rest

  pub all_read : (insts : List Inst) → ((k : ℕ) (i : Inst) → slice_get insts k ≡ Some i → Reads i.op) → AllRead insts
  all_read [] each = tt
  all_read (i ∷ rest) each = (each 0 i refl, all_read rest (λ k j e. each (suc k) j e))

  first_read : (n : ℕ) (insts : List Inst) → AllRead insts → AllRead (take n insts)
  first_read zero [] all = tt
  first_read (suc n) [] all = tt
  first_read zero (i ∷ rest) all = tt
  first_read (suc n) (i ∷ rest) all = (all.0, first_read n rest all.1)

  insts_agree : (insts : List Inst) (s s' : State) → AllRead insts → AgreeOn N s s' → EntriesAgree N (after_insts answers f insts s) (after_insts answers f insts s')
  insts_agree [] s s' all agree = agree
  insts_agree (i ∷ rest) s s' all agree =
      then_agree N (after_inst answers f i s) (after_inst answers f i s') (after_insts answers f rest) (ends_agree i.result _ _ (inst_agrees i s s' all.0 agree))
      (λ t t' agree'. insts_agree rest t t' all.1 agree')

  then_ends : (i : Inst) (r r' : Option State) → EntriesAgree N r r' → Reads i.op → EndsAgree i.result (and_then r (after_inst answers f i)) (and_then r' (after_inst answers f i))
  then_ends i None None agree reads = tt
  then_ends i None (Some s') agree reads = absurd agree
  then_ends i (Some s) None agree reads = absurd agree
  then_ends i (Some s) (Some s') agree reads = inst_agrees i s s' reads agree

  -- behind an instruction of a list
  lines_agree : (insts : List Inst) (i : ℕ) (inst : Inst) (s s' : State) → slice_get insts i ≡ Some inst → AllRead insts → Reads inst.op → AgreeOn N s s' →
      EndsAgree inst.result (after_insts answers f (take (suc i) insts) s) (after_insts answers f (take (suc i) insts) s')
  lines_agree insts i inst s s' stands all reads agree =
      subst (λ r. EndsAgree inst.result r (after_insts answers f (take (suc i) insts) s')) (sym (after_more answers f insts i inst s stands))
      (subst (λ r'. EndsAgree inst.result (and_then (after_insts answers f (take i insts) s) (after_inst answers f inst)) r') (sym (after_more answers f insts i inst s' stands))
      (then_ends inst (after_insts answers f (take i insts) s) (after_insts answers f (take i insts) s') (insts_agree (take i insts) s s' (first_read i insts all) agree) reads))

  pub place_agrees : (b i : ℕ) (inst : Inst) (o o' : Option State) → slice_get (insts_of f b) i ≡ Some inst → AllRead (insts_of f b) → Reads inst.op → EntriesAgree N o o' →
      EndsAgree inst.result (followed (before_line answers f b (suc i)) o) (followed (before_line answers f b (suc i)) o')
  place_agrees b i inst None None stands all reads agree = tt
  place_agrees b i inst None (Some s') stands all reads agree = absurd agree
  place_agrees b i inst (Some s) None stands all reads agree = absurd agree
  place_agrees b i inst (Some s) (Some s') stands all reads agree = lines_agree (insts_of f b) i inst s s' stands all reads agree

  before_agrees : (b i : ℕ) (o o' : Option State) → AllRead (insts_of f b) → EntriesAgree N o o' → EntriesAgree N (followed (before_line answers f b i) o) (followed (before_line answers f b i) o')
  before_agrees b i None None all agree = tt
  before_agrees b i None (Some s') all agree = absurd agree
  before_agrees b i (Some s) None all agree = absurd agree
  before_agrees b i (Some s) (Some s') all agree = insts_agree (take i (insts_of f b)) s s' (first_read i (insts_of f b) all) agree

  -- ---- edges

  -- what is read of a terminator is among the names
  abbrev pub TermReads : Term → Type 0
  TermReads (Term.Ret w a) = ⊤
  TermReads (Term.Br to) = ⊤
  TermReads (Term.CondBr c taken fallen) = IsAmong (IsClosed f N deepest) c
  TermReads (Term.Switch w on other cases) = IsAmong (IsClosed f N deepest) on
  TermReads Term.Unreachable = ⊤

  -- and so of the one of a block
  abbrev pub EndReads : ℕ → Type 0
  EndReads b = (block : Block) → slice_get f.blocks b ≡ Some block → TermReads block.term

  no_case_agrees : (on : Operand) (w : ℕ) (cases : List (ℕ × BlockId)) (s s' : State) → IsAmong (IsClosed f N deepest) on → AgreeOn N s s' →
      EntriesAgree N (told_no_case answers f on w cases s) (told_no_case answers f on w cases s')
  no_case_agrees on w [] s s' inside agree = agree
  no_case_agrees on w (c ∷ rest) s s' inside agree =
      then_agree N _ _ (told_no_case answers f on w rest) (told_agrees on w _ s s' inside agree) (λ t t' agree'. no_case_agrees on w rest t t' inside agree')

  case_agrees : (on : Operand) (w : ℕ) (c : Option (ℕ × BlockId)) (s s' : State) → IsAmong (IsClosed f N deepest) on → AgreeOn N s s' →
      EntriesAgree N (told_case answers f on w c s) (told_case answers f on w c s')
  case_agrees on w None s s' inside agree = agree
  case_agrees on w (Some c) s s' inside agree = told_agrees on w _ s s' inside agree

  way_agrees : (term : Term) (way : Way) (s s' : State) → TermReads term → AgreeOn N s s' → EntriesAgree N (along_way answers f term way s) (along_way answers f term way s')
  way_agrees (Term.Ret w a) way s s' reads agree = agree
  way_agrees (Term.Br to) way s s' reads agree = agree
  way_agrees (Term.CondBr c taken fallen) Way.Yes s s' reads agree = told_agrees c 1 _ s s' reads agree
  way_agrees (Term.CondBr c taken fallen) Way.No s s' reads agree = told_agrees c 1 _ s s' reads agree
  way_agrees (Term.CondBr c taken fallen) Way.Always s s' reads agree = agree
  way_agrees (Term.CondBr c taken fallen) Way.Other s s' reads agree = agree
  way_agrees (Term.CondBr c taken fallen) (Way.Case k) s s' reads agree = agree
  way_agrees (Term.Switch w on other cases) Way.Other s s' reads agree = no_case_agrees on w cases s s' reads agree
  way_agrees (Term.Switch w on other cases) (Way.Case k) s s' reads agree = case_agrees on w (slice_get cases k) s s' reads agree
  way_agrees (Term.Switch w on other cases) Way.Always s s' reads agree = agree
  way_agrees (Term.Switch w on other cases) Way.Yes s s' reads agree = agree
  way_agrees (Term.Switch w on other cases) Way.No s s' reads agree = agree
  way_agrees Term.Unreachable way s s' reads agree = agree

  edge_agrees : (e : Edge) (s s' : State) → EndReads e.from.0 → AgreeOn N s s' → EntriesAgree N (along_edge answers f e s) (along_edge answers f e s')
  edge_agrees e s s' reads agree = by (slice_get f.blocks e.from.0) reads
    where
      by : (o : Option Block) → ((block : Block) → o ≡ Some block → TermReads block.term) →
          EntriesAgree N (elim o [ None ↦ Some s | Some block ↦ along_way answers f block.term e.way s ]) (elim o [ None ↦ Some s' | Some block ↦ along_way answers f block.term e.way s' ])
      by None reads = agree
      by (Some block) reads = way_agrees block.term e.way s s' (reads block refl) agree

  merged_agree : (r r' q q' : Option State) → EntriesAgree N r r' → EntriesAgree N q q' → EntriesAgree N (merged (joined answers) r q) (merged (joined answers) r' q')
  merged_agree None None q q' first second = second
  merged_agree (Some s) (Some s') None None first second = first
  merged_agree (Some s) (Some s') (Some t) (Some t') first second = λ v inside.
      (ap₂ (of_both answers.join) (first v inside).0 (second v inside).0, ap₂ (λ a b. a && b) (first v inside).1 (second v inside).1)
  merged_agree (Some s) (Some s') None (Some t') first second = absurd second
  merged_agree (Some s) (Some s') (Some t) None first second = absurd second
  merged_agree None (Some s') q q' first second = absurd first
  merged_agree (Some s) None q q' first second = absurd first

  -- the edges lead from a block
  abbrev pub AllFrom : ℕ → List Edge → Type 0
  AllFrom b es = AllByRecursion (λ (e : Edge). e.from.0 ≡ b) es

  joined_agree : (b to : ℕ) (s s' : State) → EndReads b → AgreeOn N s s' → (es : List Edge) (r r' : Option State) → AllFrom b es → EntriesAgree N r r' →
      EntriesAgree N (joined_edges answers f to s es r) (joined_edges answers f to s' es r')
  joined_agree b to s s' reads agree [] r r' from sums = sums
  joined_agree b to s s' reads agree (e ∷ rest) r r' from sums =
      joined_agree b to s s' reads agree rest _ _ from.1
      (if_agree N (nat_eq e.to.0 to) _ _ r r' (merged_agree r r' _ _ sums (edge_agrees e s s' (subst EndReads (sym from.0) reads) agree)) sums)

  cases_from : (b k : ℕ) (cases : List (ℕ × BlockId)) → AllFrom b (case_edges b k cases)
  cases_from b k [] = tt
  cases_from b k (c ∷ rest) = (refl, cases_from b (k + 1) rest)

  pub edges_from : (b : ℕ) → AllFrom b (edges_out f b)
  edges_from b = by (slice_get f.blocks b)
    where
      of : (term : Term) → AllFrom b (block_edges b term)
      of (Term.Ret w a) = tt
      of (Term.Br to) = (refl, tt)
      of (Term.CondBr c taken fallen) = (refl, (refl, tt))
      of (Term.Switch w on other cases) = (refl, cases_from b 0 cases)
      of Term.Unreachable = tt

      by : (o : Option Block) → AllFrom b (elim o [ None ↦ [] | Some block ↦ block_edges b block.term ])
      by None = tt
      by (Some block) = of block.term

  paired_agree : (b to : ℕ) (s s' : State) → EndReads b → AgreeOn N s s' → EntriesAgree N (paired answers f b to s) (paired answers f b to s')
  paired_agree b to s s' reads agree = joined_agree b to s s' reads agree (edges_out f b) None None (edges_from b) tt

  -- ---- places

  -- what is read of a block, but for its phis, is among the names
  pub record BlockReads (b : ℕ) : Type 0 where
    pub insts : AllRead (insts_of f b)
    pub end : EndReads b

  pub line_agrees : (b i : ℕ) (o o' : Option State) → BlockReads b → EntriesAgree N o o' →
      EntriesAgree N (followed (before_line answers f b i) o) (followed (before_line answers f b i) o')
  line_agrees b i o o' reads agree = before_agrees b i o o' reads.insts agree

  pub behind_edge_agrees : (b : ℕ) (e : Edge) (o o' : Option State) → e.from.0 ≡ b → BlockReads b → EntriesAgree N o o' →
      EntriesAgree N (followed (along_edge answers f e) o) (followed (along_edge answers f e) o')
  behind_edge_agrees b e None None from reads agree = tt
  behind_edge_agrees b e None (Some s') from reads agree = absurd agree
  behind_edge_agrees b e (Some s) None from reads agree = absurd agree
  behind_edge_agrees b e (Some s) (Some s') from reads agree = edge_agrees e s s' (subst EndReads (sym from) reads.end) agree

  pub left_agrees : (b to : ℕ) (o o' : Option State) → BlockReads b → EntriesAgree N o o' →
      EntriesAgree N (followed (left_to answers f b to) o) (followed (left_to answers f b to) o')
  left_agrees b to None None reads agree = tt
  left_agrees b to None (Some s') reads agree = absurd agree
  left_agrees b to (Some s) None reads agree = absurd agree
  left_agrees b to (Some s) (Some s') reads agree =
      then_agree N (before_end answers f b s) (before_end answers f b s') (paired answers f b to) (insts_agree (insts_of f b) s s' reads.insts agree)
      (λ t t' agree'. paired_agree b to t t' reads.end agree')

  pub some_alike : (o o' : Option State) → EntriesAgree N o o' → is_some o ≡ is_some o'
  some_alike None None agree = refl
  some_alike None (Some s') agree = absurd agree
  some_alike (Some s) None agree = absurd agree
  some_alike (Some s) (Some s') agree = refl
