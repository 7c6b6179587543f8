-- Each state of a table has facts of exactly the names in scope at the entry of its block, each of its name's type.
use Rattle.std.proofs.Common.{◌≡◌, ◌<◌, ◌≤◌, ◌||◌, ◌⊎◌, ℕ, Bool, true, false, min, nat_eq, if◌then◌else◌, Option, Some, None, is_some, MatchBool, List, [], ◌∷◌, ◌++◌, map, take, length, slice_get, refl, sym, ◌∙◌, ap, subst, arith, inl, inr, take_all, le_refl}
use Rattle.std.specs.Option.{ForSome}
use Rattle.std.specs.List.{AllByRecursion, list_any}
use Rattle.vfa_ir.specs.declared.operations.Ty.{Ty}
use Rattle.vfa_ir.specs.declared.functions.Block.{Block}
use Rattle.vfa_ir.specs.declared.functions.Function.{Function}
use Rattle.vfa_ir.specs.declared.functions.Inst.{Inst}
use Rattle.vfa_ir.specs.declared.functions.Param.{Param}
use Rattle.vfa_ir.specs.declared.functions.Phi.{Phi}
use Rattle.vfa_ir.specs.Defined.{line_count}
use Rattle.vfa_ir.specs.PhisFit.{PhisFit}
use Rattle.vfa_ir.specs.Printable.{IsPrintable, inst_ids}
use Rattle.vfa_ir.specs.Typed.{Typed}
use Rattle.vfa_ir.specs.Walks.{is_in, is_parameter, IsEdge, IsReached, IsDefinedAt, IsMissedAt, defined_over, results_before, results_in, successors}
use Rattle.vfa_cfg.specs.Order.{numbers}
use Rattle.vfa_cfg.specs.Ordered.{IsOrdered}
use Rattle.vfa_cfg.proofs.InOrder.{is_ordered}
use Rattle.vfa_cfg.proofs.Members.{or_left, or_right, or_cases, in_left}
use Rattle.vfa_mean.specs.Moments.{Place, Into, At}
use Rattle.vfa_mean.specs.Outcomes.{type_of, has_noundef, first_block}
use Rattle.vfa_mean.proofs.FreshOperands.Definitions.{results_to_end, in_cases}
use Rattle.vfa_values.specs.Answers.{Answers}
use Rattle.vfa_values.specs.Conditions.{IsOf, width_of}
use Rattle.vfa_values.specs.Laws.{AreTyped}
use Rattle.vfa_cond.specs.Conditions.{name_type, AreFacts}
use Rattle.vfa_cond.specs.Narrowing.{and_then}
use Rattle.vfa_cond.specs.States.{AbstractState}
use Rattle.vfa_cond.proofs.Fitting.{none_of, and_first, and_second}
use Rattle.vfa_walk.specs.Rounds.{IsTable}
use Rattle.vfa_walk.specs.Landmarks.{landmarks}
use Rattle.vfa_walk.specs.Joining.{of_both, joined, widened, kept_names}
use Rattle.vfa_walk.specs.Stepping.{insts_of, before_line, before_end}
use Rattle.vfa_walk.specs.Leaving.{paired, phis_of, with_phis, left_to, handed_on}
use Rattle.vfa_walk.specs.Analysis.{Layout, IsLayout, parameter_fact, start_state, last_round, flow_of}
use Rattle.vfa_walk.specs.Passes.{followed}
use Rattle.vfa_walk.specs.Tables.{IsEntryState, States, HasShape, state_at}
use Rattle.vfa_walk.specs.TruthLaws.{IsStateAt}
use Rattle.vfa_walk.proofs.RoundsEnd.{table_is_pass}
use Rattle.vfa_walk.proofs.TruthEdges.{turned}
use Rattle.vfa_walk.proofs.TruthFacts.{all_from_gets, all_taken, start_typed, line_typed, left_typed, handed_typed, joined_typed, cut_typed, widened_typed, at_least_one}
use Rattle.vfa_walk.proofs.TruthFlow.{handed_nothing, is_forward}
use Rattle.vfa_walk.proofs.TruthKept.{KeepsStates, table_is_good, mapped_is}
use Rattle.vfa_walk.proofs.TruthNames.{Knows, HasOwnEquation, has_own_equation, insts_know, paired_knows, phis_know, covered_knows}
use Rattle.vfa_walk.proofs.TruthTables.{first_has_no_phis}

-- ---- scopes

match_true : (A B : Type 0) (b : Bool) → b ≡ true → MatchBool b A B → A
match_true A B true e m = m
match_true A B false e m = absurd cc

match_false : (A B : Type 0) (b : Bool) → b ≡ false → MatchBool b A B → B
match_false A B true e m = absurd cc
match_false A B false e m = m

-- what is defined at the entry of a block, and is no result of its phis, is defined at the end of each block before it
next_scope : (f : Function) (p b v : ℕ) → IsEdge f p b → IsDefinedAt f b 0 v → (is_in v (results_before f b 0) ≡ true) ⊎ IsDefinedAt f p (line_count f p) v
next_scope f p b v edge live = of (is_in v (results_before f b 0)) refl
  where
    of : (phi : Bool) → is_in v (results_before f b 0) ≡ phi → (is_in v (results_before f b 0) ≡ true) ⊎ IsDefinedAt f p (line_count f p) v
    of true e = inl e
    of false e = inr (λ passed walk.
        let earlier : Bool = list_any (λ c. is_in v (results_in f c)) passed in
        let here : Bool = is_in v (results_in f p) in
        elim (or_cases (defined_over f (p ∷ passed) v) (is_in v (results_before f b 0)) (live (p ∷ passed) (edge, walk))) [
          | inr phi ↦ absurd cc
          | inl over ↦ elim (or_cases (is_parameter f v) (here || earlier) over) [
            | inl parameter ↦ or_left (defined_over f passed v) (is_in v (results_before f p (line_count f p))) (or_left (is_parameter f v) earlier parameter)
            | inr block ↦ elim (or_cases here earlier block) [
              | inl own ↦ or_right (defined_over f passed v) (is_in v (results_before f p (line_count f p))) (ap (is_in v) (results_to_end f p) ∙ own)
              | inr before ↦ or_left (defined_over f passed v) (is_in v (results_before f p (line_count f p))) (or_right (is_parameter f v) earlier before)
            ]
          ]
        ])

take_none : (insts : List Inst) → inst_ids (take 0 insts) ≡ []
take_none [] = refl
take_none (i ∷ rest) = refl

append_none : (xs : List ℕ) → xs ++ [] ≡ xs
append_none [] = refl
append_none (x ∷ xs) = ap (λ l. x ∷ l) (append_none xs)

-- the results before the first instruction are those of the phis
phis_first : (f : Function) (b : ℕ) → results_before f b 0 ≡ map (λ (p : Phi). p.result.0) (phis_of f b)
phis_first f b = of (slice_get f.blocks b)
  where
    of : (o : Option Block) → elim o [ None ↦ [] | Some block ↦ map (λ p. p.result.0) block.phis ++ inst_ids (take 0 block.insts) ] ≡ map (λ (p : Phi). p.result.0) (elim o [ None ↦ [] | Some block ↦ block.phis ])
    of None = refl
    of (Some block) = ap (λ l. map (λ (p : Phi). p.result.0) block.phis ++ l) (take_none block.insts) ∙ append_none (map (λ (p : Phi). p.result.0) block.phis)

abbrev names_before : ℕ → Option Block → List ℕ
names_before n o = elim o [ None ↦ [] | Some block ↦ map (λ p. p.result.0) block.phis ++ inst_ids (take n block.insts) ]

abbrev lines_in : Option Block → ℕ
lines_in o = elim o [ None ↦ 0 | Some block ↦ length block.insts ]

abbrev insts_in : Option Block → List Inst
insts_in o = elim o [ None ↦ [] | Some block ↦ block.insts ]

results_split : (f : Function) (b i v : ℕ) → is_in v (results_before f b i) ≡ true → (is_in v (results_before f b 0) ≡ true) ⊎ (is_in v (inst_ids (take i (insts_of f b))) ≡ true)
results_split f b i v here = of (slice_get f.blocks b) here
  where
    of : (o : Option Block) → is_in v (names_before i o) ≡ true → (is_in v (names_before 0 o) ≡ true) ⊎ (is_in v (inst_ids (take i (insts_in o))) ≡ true)
    of None here = absurd cc
    of (Some block) here = elim (in_cases v (map (λ p. p.result.0) block.phis) (inst_ids (take i block.insts)) here) [
      | inl phi ↦ inl (in_left v (map (λ p. p.result.0) block.phis) (inst_ids (take 0 block.insts)) phi)
      | inr line ↦ inr line
    ]

-- what is defined before an instruction is a result of those before it, or is defined at the entry of the block
pub line_scope : (f : Function) (p i v : ℕ) → IsDefinedAt f p i v → (is_in v (inst_ids (take i (insts_of f p))) ≡ true) ⊎ IsDefinedAt f p 0 v
line_scope f p i v live = of (is_in v (inst_ids (take i (insts_of f p)))) refl
  where
    of : (line : Bool) → is_in v (inst_ids (take i (insts_of f p))) ≡ line → (is_in v (inst_ids (take i (insts_of f p))) ≡ true) ⊎ IsDefinedAt f p 0 v
    of true e = inl e
    of false e = inr (λ passed walk. elim (or_cases (defined_over f passed v) (is_in v (results_before f p i)) (live passed walk)) [
      | inl over ↦ or_left (defined_over f passed v) (is_in v (results_before f p 0)) over
      | inr here ↦ elim (results_split f p i v here) [
        | inl phi ↦ or_right (defined_over f passed v) (is_in v (results_before f p 0)) phi
        | inr line ↦ absurd cc
      ]
    ])

all_insts : (f : Function) (b : ℕ) → take (line_count f b) (insts_of f b) ≡ insts_of f b
all_insts f b = of (slice_get f.blocks b)
  where
    of : (o : Option Block) → take (lines_in o) (insts_in o) ≡ insts_in o
    of None = refl
    of (Some block) = take_all (length block.insts) block.insts (le_refl (length block.insts))

-- what is defined at the end of a block is a result of its instructions, or is defined at its entry
end_scope : (f : Function) (p v : ℕ) → IsDefinedAt f p (line_count f p) v → (is_in v (inst_ids (insts_of f p)) ≡ true) ⊎ IsDefinedAt f p 0 v
end_scope f p v live = subst (λ insts. (is_in v (inst_ids insts) ≡ true) ⊎ IsDefinedAt f p 0 v) (all_insts f p) (line_scope f p (line_count f p) v live)

-- ---- the states of a table

module _ {V : Type 0} (ty : V → Ty) (proper : V → Type 0) (answers : Answers V) (types : AreTyped (IsOf ty proper) answers) (f : Function)
    (printable : IsPrintable f) (typed : Typed f) (phis : PhisFit f) (within : (from to : ℕ) → IsEdge f from to → to < length f.blocks) (l : Layout) (is : IsLayout f l) where
  abbrev pub InScope : ℕ → ℕ → Type 0
  InScope b v = l.in_scope b v ≡ true

  -- at the entry of a block of the order
  pub record IsEntry (b : ℕ) (s : AbstractState V) : Type 0 where
    pub ordered : is_in b (numbers l.order) ≡ true
    pub state : IsEntryState ty proper f (l.in_scope b) s

  -- what is handed on to it
  pub record IsHanded (b : ℕ) (s : AbstractState V) : Type 0 where
    pub ordered : is_in b (numbers l.order) ≡ true
    pub knows : Knows f (InScope b) s
    pub facts : AreFacts ty proper f s

  own_equations : (b : ℕ) → AllByRecursion (HasOwnEquation f) (insts_of f b)
  own_equations b = of (slice_get f.blocks b) refl
    where
      of : (o : Option Block) → slice_get f.blocks b ≡ o → AllByRecursion (HasOwnEquation f) (elim o [ None ↦ [] | Some block ↦ block.insts ])
      of None e = tt
      of (Some block) e = all_from_gets (HasOwnEquation f) block.insts (λ i inst stands. has_own_equation f b i block inst (record { there = e; stands = stands }))

  -- the names defined at the end of a block
  abbrev AtEnd : ℕ → ℕ → Type 0
  AtEnd p v = (l.in_scope p v ≡ true) ⊎ (is_in v (inst_ids (insts_of f p)) ≡ true)

  end_knows : (p : ℕ) (s : AbstractState V) → IsEntry p s → ForSome (before_end answers f p s) (Knows f (AtEnd p))
  end_knows p s entry = insts_know answers f (InScope p) (insts_of f p) s (own_equations p) (record { names = λ v scope. entry.state.names v ∙ scope; live = entry.state.live })

  left_knows : (p b : ℕ) (s : AbstractState V) → IsEntry p s → ForSome (left_to answers f p b s) (Knows f (AtEnd p))
  left_knows p b s entry = of (before_end answers f p s) (end_knows p s entry)
    where
      of : (o : Option (AbstractState V)) → ForSome o (Knows f (AtEnd p)) → ForSome (and_then o (paired answers f p b)) (Knows f (AtEnd p))
      of None knows = none_of (Knows f (AtEnd p))
      of (Some t) knows = paired_knows answers f (AtEnd p) p b t (knows t refl)

  in_end : (p v : ℕ) → is_in p (numbers l.order) ≡ true → IsDefinedAt f p (line_count f p) v → AtEnd p v
  in_end p v ordered live = elim (end_scope f p v live) [
    | inl line ↦ inr line
    | inr entry ↦ inl (yes (l.in_scope p v) refl entry)
  ]
    where
      yes : (b : Bool) → l.in_scope p v ≡ b → IsDefinedAt f p 0 v → l.in_scope p v ≡ true
      yes true e live = e
      yes false e live = let missed : IsMissedAt f p 0 v = match_false (IsDefinedAt f p 0 v) (IsMissedAt f p 0 v) (l.in_scope p v) e (is.scopes p v ordered) in absurd (missed.missed (live missed.passed missed.walk))

  handed_knows : (p b : ℕ) (s : AbstractState V) → IsEntry p s → IsEdge f p b → is_in b (numbers l.order) ≡ true → ForSome (handed_on answers f p b s) (Knows f (InScope b))
  handed_knows p b s entry edge ordered =
      mapped_is (Knows f (AtEnd p)) (Knows f (InScope b)) (with_phis answers f p b) (left_to answers f p b s)
      (λ t knows. let new = phis_know answers f (AtEnd p) p t (phis_of f b) t knows in record { names = λ v scope. new.names v (named v scope); live = new.live })
      (left_knows p b s entry)
    where
      named : (v : ℕ) → InScope b v → AtEnd p v ⊎ (is_in v (map (λ (p : Phi). p.result.0) (phis_of f b)) ≡ true)
      named v scope = elim (next_scope f p b v edge (match_true (IsDefinedAt f b 0 v) (IsMissedAt f b 0 v) (l.in_scope b v) scope (is.scopes b v ordered))) [
        | inl phi ↦ inr (ap (is_in v) (sym (phis_first f b)) ∙ phi)
        | inr end ↦ inl (in_end p v entry.ordered end)
      ]

  next_ordered : (p b : ℕ) → is_in p (numbers l.order) ≡ true → IsEdge f p b → is_in b (numbers l.order) ≡ true
  next_ordered p b ordered edge =
      let order : IsOrdered f l.order = is_ordered f l.order is.is_order in
      let reached : IsReached f p = ((order.reached p).0 ordered).1 in
      (order.reached b).1 (within p b edge, record { passed = p ∷ reached.passed; walk = (edge, reached.walk) })

  handed_is : (p b : ℕ) (s : AbstractState V) → IsEntry p s → ForSome (handed_on answers f p b s) (IsHanded b)
  handed_is p b s entry = of (is_in b (successors f p)) refl
    where
      of : (edge : Bool) → is_in b (successors f p) ≡ edge → ForSome (handed_on answers f p b s) (IsHanded b)
      of true e = λ t given. record {
        ordered = next_ordered p b entry.ordered e;
        knows = handed_knows p b s entry e (next_ordered p b entry.ordered e) t given;
        facts = handed_typed ty proper answers types f printable typed p b s entry.state.facts t given;
      }
      of false e = λ t given. absurd (let none = handed_nothing answers f p b s e in cc)

  -- ---- where the function begins

  first_names : results_before f first_block 0 ≡ []
  first_names = phis_first f first_block ∙ of (slice_get f.blocks first_block) refl
    where
      of : (o : Option Block) → slice_get f.blocks first_block ≡ o → map (λ (p : Phi). p.result.0) (elim o [ None ↦ [] | Some block ↦ block.phis ]) ≡ []
      of None e = refl
      of (Some block) e = ap (map (λ (p : Phi). p.result.0)) (first_has_no_phis f printable phis block e)

  first_ordered : is_in first_block (numbers l.order) ≡ true
  first_ordered =
      let order : IsOrdered f l.order = is_ordered f l.order is.is_order in
      (order.reached first_block).1 (some f.blocks printable.some, record { passed = []; walk = refl })
    where
      some : (blocks : List Block) → (blocks ≡ [] → ⊥) → 0 < length blocks
      some [] h = absurd (h refl)
      some (b ∷ rest) h = omega arith

  parameter_known : (params : List Param) (v : ℕ) → is_some (parameter_fact answers f params v) ≡ is_in v (map (λ p. p.value.0) params)
  parameter_known [] v = refl
  parameter_known (p ∷ rest) v = of (nat_eq p.value.0 v) refl (parameter_known rest v)
    where
      of : (same : Bool) → nat_eq p.value.0 v ≡ same → is_some (parameter_fact answers f rest v) ≡ is_in v (map (λ p. p.value.0) rest) →
          is_some (if same then Some (answers.any (type_of f p.value) (has_noundef p.words)) else parameter_fact answers f rest v) ≡ is_in v (p.value.0 ∷ map (λ p. p.value.0) rest)
      of true e later = sym (or_left (nat_eq v p.value.0) (is_in v (map (λ p. p.value.0) rest)) (turned p.value.0 v true e))
      of false e later = later ∙ ap (λ b. b || is_in v (map (λ p. p.value.0) rest)) (sym (turned p.value.0 v false e))

  first_scope : (v : ℕ) → l.in_scope first_block v ≡ is_parameter f v
  first_scope v = of (l.in_scope first_block v) (is_parameter f v) refl refl
    where
      of : (scope parameter : Bool) → l.in_scope first_block v ≡ scope → is_parameter f v ≡ parameter → scope ≡ parameter
      of true true e p = refl
      of false false e p = refl
      of true false e p =
          let live : IsDefinedAt f first_block 0 v = match_true (IsDefinedAt f first_block 0 v) (IsMissedAt f first_block 0 v) (l.in_scope first_block v) e (is.scopes first_block v first_ordered) in
          elim (or_cases (defined_over f [] v) (is_in v (results_before f first_block 0)) (live [] refl)) [
            | inl over ↦ elim (or_cases (is_parameter f v) false over) [ inl is ↦ absurd cc | inr other ↦ absurd cc ]
            | inr phi ↦ absurd (let none : is_in v (results_before f first_block 0) ≡ false = ap (is_in v) first_names in cc)
          ]
      of false true e p =
          let missed : IsMissedAt f first_block 0 v = match_false (IsDefinedAt f first_block 0 v) (IsMissedAt f first_block 0 v) (l.in_scope first_block v) e (is.scopes first_block v first_ordered) in
          absurd (missed.missed (or_left (defined_over f missed.passed v) (is_in v (results_before f first_block 0)) (or_left (is_parameter f v) (list_any (λ b. is_in v (results_in f b)) missed.passed) p)))

  start_is : IsEntry first_block (start_state answers f)
  start_is = record {
    ordered = first_ordered;
    state = record {
      names = λ v. parameter_known f.params v ∙ sym (first_scope v);
      facts = start_typed ty proper answers types f printable typed;
      live = λ v live. absurd cc;
    };
  }

  -- ---- joins, cuts and widenings

  joined_is : (b : ℕ) (s t : AbstractState V) → IsHanded b s → IsHanded b t → IsHanded b (joined answers s t)
  joined_is b s t first second = record {
    ordered = first.ordered;
    knows = covered_knows answers f (InScope b) (λ _. answers.join) s t first.knows second.knows;
    facts = joined_typed ty proper answers types f s t first.facts second.facts;
  }

  cut_names : (scope : Bool) (o : Option V) → (scope ≡ true → is_some o ≡ true) → is_some (if scope then o else None) ≡ scope
  cut_names true o h = h refl
  cut_names false o h = refl

  cut_is : (b : ℕ) (s : AbstractState V) → IsHanded b s → IsEntry b (kept_names (l.in_scope b) s)
  cut_is b s handed = record {
    ordered = handed.ordered;
    state = record {
      names = λ v. cut_names (l.in_scope b v) (s.fact v) (handed.knows.names v);
      facts = cut_typed ty proper answers types f (l.in_scope b) s handed.facts;
      live = λ v live.
          let scope : l.in_scope b v ≡ true = and_first (l.in_scope b v) (s.live v) live in
          let was = handed.knows.live v (and_second (l.in_scope b v) (s.live v) live) in
          (ap (λ c. is_some (if c then s.fact v else None)) scope ∙ was.0, was.1);
    };
  }

  both_names : (cover : V → V → V) (o o' : Option V) (scope : Bool) → is_some o ≡ scope → is_some o' ≡ scope → is_some (of_both cover o o') ≡ scope
  both_names cover None o' scope e e' = e
  both_names cover (Some a) None scope e e' = e'
  both_names cover (Some a) (Some b) scope e e' = e

  widened_is : (b round : ℕ) (s t : AbstractState V) → 1 ≤ round → IsEntry b s → IsEntry b t → IsEntry b (widened answers f (min round last_round) s t)
  widened_is b round s t one first second =
      let knows = covered_knows answers f (InScope b) (λ v old new. answers.widen old new (min round last_round) (landmarks f (width_of (name_type f v)))) s t
      (record { names = λ v scope. first.state.names v ∙ scope; live = first.state.live }) (record { names = λ v scope. second.state.names v ∙ scope; live = second.state.live }) in
      record {
        ordered = first.ordered;
        state = record {
          names = λ v. both_names (λ old new. answers.widen old new (min round last_round) (landmarks f (width_of (name_type f v)))) (s.fact v) (t.fact v) (l.in_scope b v) (first.state.names v) (second.state.names v);
          facts = widened_typed ty proper answers types f (min round last_round) s t (at_least_one round one) first.state.facts second.state.facts;
          live = knows.live;
        };
      }

  pub shapes_are_kept : KeepsStates (flow_of answers f l) IsEntry IsHanded
  shapes_are_kept = record {
    start = start_is;
    along = handed_is;
    join = joined_is;
    cut = cut_is;
    widen = widened_is;
  }

  pub table_shape : (t : States V) → IsTable (flow_of answers f l) t → HasShape ty proper f l t
  table_shape t table = record {
    outside = λ b absent. (table_is_pass (flow_of answers f l) t table.rounds (is_forward answers f l is.is_order) table.entries).outside b absent;
    inside = λ b s e. (table_is_good (flow_of answers f l) IsEntry IsHanded shapes_are_kept t table b s e).state;
  }

  -- ---- states at places

  in_line : (b i v : ℕ) → is_in b (numbers l.order) ≡ true → IsDefinedAt f b i v → (l.in_scope b v ≡ true) ⊎ (is_in v (inst_ids (take i (insts_of f b))) ≡ true)
  in_line b i v ordered live = elim (line_scope f b i v live) [
    | inl line ↦ inr line
    | inr entry ↦ inl (by (l.in_scope b v) refl entry)
  ]
    where
      by : (c : Bool) → l.in_scope b v ≡ c → IsDefinedAt f b 0 v → l.in_scope b v ≡ true
      by true e live = e
      by false e live = let missed : IsMissedAt f b 0 v = match_false (IsDefinedAt f b 0 v) (IsMissedAt f b 0 v) (l.in_scope b v) e (is.scopes b v ordered) in absurd (missed.missed (live missed.passed missed.walk))

  follows : (P : AbstractState V → Type 0) (o : Option (AbstractState V)) (next : AbstractState V → Option (AbstractState V)) → ((s : AbstractState V) → o ≡ Some s → ForSome (next s) P) → ForSome (followed next o) P
  follows P None next each = none_of P
  follows P (Some s) next each = each s refl

  module _ (t : States V) (shape : HasShape ty proper f l t) where
    ordered_at : (b : ℕ) (s : AbstractState V) → t b ≡ Some s → is_in b (numbers l.order) ≡ true
    ordered_at b s e = of (is_in b (numbers l.order)) refl
      where
        of : (here : Bool) → is_in b (numbers l.order) ≡ here → is_in b (numbers l.order) ≡ true
        of true h = h
        of false h = absurd (let none = shape.outside b h in cc)

    entry_at : (b : ℕ) (s : AbstractState V) → t b ≡ Some s → IsEntry b s
    entry_at b s e = record { ordered = ordered_at b s e; state = shape.inside b s e }

    line_state : (b i : ℕ) (s : AbstractState V) → IsEntry b s → ForSome (before_line answers f b i s) (IsStateAt ty proper f (At b i))
    line_state b i s entry u e =
        let own = all_taken (HasOwnEquation f) (insts_of f b) i (own_equations b) in
        let knows = insts_know answers f (InScope b) (take i (insts_of f b)) s own (record { names = λ v scope. entry.state.names v ∙ scope; live = entry.state.live }) u e in
        record {
          names = λ v live. knows.names v (in_line b i v entry.ordered live);
          facts = line_typed ty proper answers types f printable typed b i s entry.state.facts u e;
          live = knows.live;
        }

    pair_state : (p b : ℕ) (s : AbstractState V) → IsEntry p s → ForSome (left_to answers f p b s) (IsStateAt ty proper f (Into (Some p) b))
    pair_state p b s entry u e =
        let knows = left_knows p b s entry u e in
        record {
          names = λ v live. knows.names v (in_end p v entry.ordered live);
          facts = left_typed ty proper answers types f printable typed p b s entry.state.facts u e;
          live = knows.live;
        }

    pub place_state : (place : Place) → ForSome (state_at answers f t place) (IsStateAt ty proper f place)
    place_state (At b i) = follows (IsStateAt ty proper f (At b i)) (t b) (before_line answers f b i) (λ s e. line_state b i s (entry_at b s e))
    place_state (Into (Some p) b) = follows (IsStateAt ty proper f (Into (Some p) b)) (t p) (left_to answers f p b) (λ s e. pair_state p b s (entry_at p s e))
    place_state (Into None b) = λ s e.
        let entry = entry_at b s e in
        record { names = λ v parameter. entry.state.names v ∙ parameter_scope b v entry.ordered parameter; facts = entry.state.facts; live = entry.state.live }
      where
        parameter_scope : (b v : ℕ) → is_in b (numbers l.order) ≡ true → is_parameter f v ≡ true → l.in_scope b v ≡ true
        parameter_scope b v ordered parameter = by (l.in_scope b v) refl
          where
            by : (c : Bool) → l.in_scope b v ≡ c → l.in_scope b v ≡ true
            by true e = e
            by false e =
                let missed : IsMissedAt f b 0 v = match_false (IsDefinedAt f b 0 v) (IsMissedAt f b 0 v) (l.in_scope b v) e (is.scopes b v ordered) in
                absurd (missed.missed (or_left (defined_over f missed.passed v) (is_in v (results_before f b 0)) (or_left (is_parameter f v) (list_any (λ b. is_in v (results_in f b)) missed.passed) parameter)))
