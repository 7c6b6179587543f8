-- The flow of an analysis: it goes forward, runs follow its order, and its moves keep truth.
use Rattle.std.proofs.Common.{◌≡◌, ◌<◌, ◌+◌, ◌&&◌, ◌||◌, ℕ, zero, suc, Bool, true, false, min, nat_eq, if◌then◌else◌, Option, Some, None, IsSomeAnd, List, [], ◌∷◌, map, length, slice_get, count_by, cond, refl, sym, ◌∙◌, ap, subst, arith, inl, inr, eqb-true, eq-eqb}
use Rattle.std.specs.Option.{ForSome, option_map}
use Rattle.std.specs.List.{AllByRecursion, IsDistinct}
use Rattle.std.proofs.lemmas.List.Sums.{sum_by-cons}
use Rattle.vfa_ir.specs.declared.operations.BlockId.{BlockId}
use Rattle.vfa_ir.specs.declared.operations.Ty.{Ty}
use Rattle.vfa_ir.specs.declared.functions.Block.{Block}
use Rattle.vfa_ir.specs.declared.functions.Function.{Function}
use Rattle.vfa_ir.specs.declared.functions.Param.{Param}
use Rattle.vfa_ir.specs.declared.functions.Term.{Term}
use Rattle.vfa_ir.specs.Defined.{Defined}
use Rattle.vfa_ir.specs.PhisFit.{PhisFit, targets, edge_count}
use Rattle.vfa_ir.specs.Printable.{IsPrintable, IsIntegerType}
use Rattle.vfa_ir.specs.Typed.{Typed}
use Rattle.vfa_ir.specs.Walks.{is_in, successors, is_parameter, IsEdge}
use Rattle.vfa_cfg.specs.declared.listing.Edge.{Edge}
use Rattle.vfa_cfg.specs.Edges.{case_edges, block_edges}
use Rattle.vfa_cfg.specs.Heads.{is_head, has_edge_from}
use Rattle.vfa_cfg.specs.Order.{IsOrder, numbers}
use Rattle.vfa_cfg.specs.Ordered.{IsOrdered}
use Rattle.vfa_cfg.proofs.InOrder.{is_ordered}
use Rattle.vfa_cfg.proofs.Members.{or_left, or_right, first_or_rest, in_first, in_rest, no_truth, false_is_no_truth, apart_in}
use Rattle.vfa_mean.specs.declared.value.Val.{Val}
use Rattle.vfa_mean.specs.Values.{Env}
use Rattle.vfa_mean.specs.Moments.{Into, Moment, leaves}
use Rattle.vfa_mean.specs.FreshOperands.{DefinesOnce}
use Rattle.vfa_mean.specs.Outcomes.{type_of, has_noundef, is_poison, AreArguments, breaks_promise, start_of, first_block, after_phis}
use Rattle.vfa_mean.proofs.FreshOperands.Definitions.{phi_definition}
use Rattle.vfa_mean.proofs.FreshOperands.Places.{entered, moment_on_walk, phis_keep}
use Rattle.vfa_values.specs.Answers.{Answers}
use Rattle.vfa_values.specs.Conditions.{IsOf}
use Rattle.vfa_values.specs.Laws.{AreTyped, AreSound}
use Rattle.vfa_cond.specs.Conditions.{AreFacts}
use Rattle.vfa_cond.specs.Narrowing.{and_then}
use Rattle.vfa_cond.specs.States.{AbstractState}
use Rattle.vfa_cond.specs.Truth.{IsTrueState}
use Rattle.vfa_cond.proofs.Fitting.{none_of, some_of}
use Rattle.vfa_cond.proofs.Truthful.{Met}
use Rattle.vfa_walk.specs.Flow.{GoesForward, IsForward}
use Rattle.vfa_walk.specs.Passes.{merged}
use Rattle.vfa_walk.specs.Joining.{joined}
use Rattle.vfa_walk.specs.Stepping.{before_end}
use Rattle.vfa_walk.specs.Leaving.{along_edge, joined_edges, paired, with_phis, handed_on}
use Rattle.vfa_walk.specs.Analysis.{Layout, parameter_fact, start_state, last_round, flow_of}
use Rattle.vfa_walk.proofs.PassEquations.{or_none, if_yes, if_no}
use Rattle.vfa_walk.proofs.TruthEdges.{turned, joined_first, joined_second, widened_old, widened_new, cut_true, passes_met}
use Rattle.vfa_walk.proofs.TruthFacts.{at_least_one}
use Rattle.vfa_walk.proofs.TruthPasses.{KeepsTruth, GoesInOrder}
use Rattle.vfa_walk.proofs.TruthRuns.{Begins, Passes, through_moment}
use Rattle.vfa_walk.proofs.TruthTypes.{parameters_are_integers, integer_is_type}

-- ---- where no edge leads, nothing is handed on

cases_apart : (from k to : ℕ) (cases : List (ℕ × BlockId)) → is_in to (map (λ t. t.0) (map (λ c. c.1) cases)) ≡ false → AllByRecursion (λ (e : Edge). nat_eq e.to.0 to ≡ false) (case_edges from k cases)
cases_apart from k to [] none = tt
cases_apart from k to (c ∷ rest) none =
    let parts = or_none (nat_eq to c.1.0) (is_in to (map (λ t. t.0) (map (λ c. c.1) rest))) none in
    (turned to c.1.0 false parts.0, cases_apart from (k + 1) to rest parts.1)

edges_apart : (from to : ℕ) (term : Term) → is_in to (map (λ t. t.0) (targets term)) ≡ false → AllByRecursion (λ (e : Edge). nat_eq e.to.0 to ≡ false) (block_edges from term)
edges_apart from to (Term.Ret w a) none = tt
edges_apart from to (Term.Br target) none = (turned to target.0 false (or_none (nat_eq to target.0) false none).0, tt)
edges_apart from to (Term.CondBr c taken fallen) none =
    let parts = or_none (nat_eq to taken.0) (is_in to (fallen.0 ∷ [])) none in
    (turned to taken.0 false parts.0, (turned to fallen.0 false (or_none (nat_eq to fallen.0) false parts.1).0, tt))
edges_apart from to (Term.Switch w on other cases) none =
    let parts = or_none (nat_eq to other.0) (is_in to (map (λ t. t.0) (map (λ c. c.1) cases))) none in
    (turned to other.0 false parts.0, cases_apart from 0 to cases parts.1)
edges_apart from to Term.Unreachable none = tt

module _ {V : Type 0} (answers : Answers V) (f : Function) where
  joined_none : (to : ℕ) (s : AbstractState V) (edges : List Edge) → AllByRecursion (λ (e : Edge). nat_eq e.to.0 to ≡ false) edges → joined_edges answers f to s edges None ≡ None
  joined_none to s [] apart = refl
  joined_none to s (e ∷ rest) apart =
      ap (joined_edges answers f to s rest) (if_no (nat_eq e.to.0 to) (merged (joined answers) None (along_edge answers f e s)) None apart.0) ∙ joined_none to s rest apart.1

  paired_none : (from to : ℕ) (s : AbstractState V) → is_in to (successors f from) ≡ false → paired answers f from to s ≡ None
  paired_none from to s none = of (slice_get f.blocks from) none
    where
      of : (o : Option Block) → is_in to (elim o [ None ↦ [] | Some block ↦ map (λ t. t.0) (targets block.term) ]) ≡ false →
          joined_edges answers f to s (elim o [ None ↦ [] | Some block ↦ block_edges from block.term ]) None ≡ None
      of None none = refl
      of (Some block) none = joined_none to s (block_edges from block.term) (edges_apart from to block.term none)

  pub handed_nothing : (from to : ℕ) (s : AbstractState V) → is_in to (successors f from) ≡ false → handed_on answers f from to s ≡ None
  handed_nothing from to s none = ap (option_map (with_phis answers f from to)) (of (before_end answers f from s))
    where
      of : (o : Option (AbstractState V)) → and_then o (paired answers f from to) ≡ None
      of None = refl
      of (Some t) = paired_none from to t none

-- ---- the order

not_from : (f : Function) (list : List BlockId) (from to : ℕ) → has_edge_from f list to ≡ false → is_in from (numbers list) ≡ true → is_in to (successors f from) ≡ false
not_from f [] from to none here = absurd cc
not_from f (c ∷ rest) from to none here =
    let parts = or_none (is_in to (successors f c.0)) (has_edge_from f rest to) none in
    elim (first_or_rest from c.0 (numbers rest) here) [
      | inl same ↦ subst (λ k. is_in to (successors f k) ≡ false) (sym same) parts.0
      | inr later ↦ not_from f rest from to parts.1 later
    ]

pub head_is_in : (f : Function) (list : List BlockId) (b : ℕ) → is_head f list b ≡ true → is_in b (numbers list) ≡ true
head_is_in f [] b head = absurd cc
head_is_in f (c ∷ rest) b head = of (nat_eq c.0 b) refl head (head_is_in f rest b)
  where
    of : (same : Bool) → nat_eq c.0 b ≡ same → (if same then has_edge_from f (c ∷ rest) b else is_head f rest b) ≡ true → (is_head f rest b ≡ true → is_in b (numbers rest) ≡ true) → is_in b (c.0 ∷ numbers rest) ≡ true
    of true e head later = or_left (nat_eq b c.0) (is_in b (numbers rest)) (turned c.0 b true e)
    of false e head later = or_right (nat_eq b c.0) (is_in b (numbers rest)) (later head)

parts_of_distinct : (b : ℕ) (rest : List ℕ) → IsDistinct nat_eq (b ∷ rest) → (is_in b rest ≡ false) × IsDistinct nat_eq rest
unfolding IsDistinct
parts_of_distinct b rest distinct = (apart_in b rest distinct.0, distinct.1)

module _ {V : Type 0} (answers : Answers V) (f : Function) (l : Layout) where
  goes_forward : (list : List BlockId) → IsDistinct nat_eq (numbers list) → ((b : ℕ) → is_in b (numbers list) ≡ true → is_head f l.order b ≡ is_head f list b) →
      GoesForward (flow_of answers f l) (numbers list)
  goes_forward [] distinct same = tt
  goes_forward (c ∷ rest) distinct same =
      let parts : (is_in c.0 (numbers rest) ≡ false) × IsDistinct nat_eq (numbers rest) = parts_of_distinct c.0 (numbers rest) distinct in
      let here : is_head f l.order c.0 ≡ has_edge_from f (c ∷ rest) c.0 =
      same c.0 (in_first c.0 (numbers rest)) ∙ if_yes (nat_eq c.0 c.0) (has_edge_from f (c ∷ rest) c.0) (is_head f rest c.0) (eq-eqb c.0 c.0 refl) in (
        (λ given from there s.
            let no_head : is_head f l.order c.0 ≡ false = (or_none (nat_eq c.0 first_block) (is_head f l.order c.0) given).1 in
            handed_nothing answers f from c.0 s (not_from f (c ∷ rest) from c.0 (sym here ∙ no_head) there)),
        goes_forward rest parts.1 (λ b there.
            let apart : nat_eq c.0 b ≡ false = no_truth (nat_eq c.0 b) (λ e. false_is_no_truth {X = ⊥} (subst (λ k. is_in k (numbers rest) ≡ true) (sym (eqb-true c.0 b e)) there) parts.0) in
            same b (in_rest b c.0 (numbers rest) there) ∙ if_no (nat_eq c.0 b) (has_edge_from f (c ∷ rest) b) (is_head f rest b) apart),
      )

  pub is_forward : IsOrder f l.order → IsForward (flow_of answers f l)
  is_forward order =
      let ordered : IsOrdered f l.order = is_ordered f l.order order in
      record {
        distinct = ordered.distinct;
        forward = goes_forward l.order ordered.distinct (λ b there. refl);
        heads = λ b head. head_is_in f l.order b head;
      }

-- ---- runs follow the order

none_counted : (to : ℕ) (xs : List BlockId) → count_by (λ (t : BlockId). nat_eq t.0 to) xs ≡ 0 → is_in to (map (λ (t : BlockId). t.0) xs) ≡ false
none_counted to [] none = refl
none_counted to (x ∷ xs) none =
    of (nat_eq x.0 to) (count_by (λ (t : BlockId). nat_eq t.0 to) xs) refl (sym (sum_by-cons (λ (t : BlockId). cond (nat_eq t.0 to) 1 0) x xs) ∙ none) (none_counted to xs)
  where
    of : (same : Bool) (n : ℕ) → nat_eq x.0 to ≡ same → cond same 1 0 + n ≡ 0 → (n ≡ 0 → is_in to (map (λ (t : BlockId). t.0) xs) ≡ false) →
        is_in to (x.0 ∷ map (λ (t : BlockId). t.0) xs) ≡ false
    of true n e none later = absurd (omega arith)
    of false n e none later = ap (λ b. b || is_in to (map (λ (t : BlockId). t.0) xs)) (turned x.0 to false e) ∙ later (omega arith)

abbrev counted_in : ℕ → Option Block → ℕ
counted_in to o = elim o [ None ↦ 0 | Some b ↦ count_by (λ (t : BlockId). nat_eq t.0 to) (targets b.term) ]

no_edge_to : (f : Function) (from to : ℕ) → edge_count f from to ≡ 0 → is_in to (successors f from) ≡ false
no_edge_to f from to none = of (slice_get f.blocks from) none
  where
    of : (o : Option Block) → counted_in to o ≡ 0 → is_in to (elim o [ None ↦ [] | Some block ↦ map (λ t. t.0) (targets block.term) ]) ≡ false
    of None none = refl
    of (Some block) none = none_counted to (targets block.term) none

some_blocks : (blocks : List Block) → (blocks ≡ [] → ⊥) → 0 < length blocks
some_blocks [] some = absurd (some refl)
some_blocks (b ∷ rest) some = omega arith

pub there_is : (blocks : List Block) (b : ℕ) (block : Block) → slice_get blocks b ≡ Some block → b < length blocks
there_is [] b block e = absurd cc
there_is (c ∷ rest) zero block e = omega arith
there_is (c ∷ rest) (suc b) block e = let less = there_is rest b block e in omega arith

-- the moment before the phis of the next block
pub passes_moment : (f : Function) (p : ℕ) (entry : Env) (b : ℕ) (next : Env) → (run : Passes f p entry b next) → Moment f (Into (Some p) b) run.end
passes_moment f p entry b next run =
    leaves p run.leaves.block run.end run.leaves.edge b (through_moment f p entry (length run.leaves.block.insts) run.end run.leaves.through) run.leaves.there run.leaves.exit

module _ {V : Type 0} (answers : Answers V) (f : Function) (printable : IsPrintable f) (phis : PhisFit f) (l : Layout) (order : IsOrder f l.order) where
  entry_exists : 0 < length f.blocks
  entry_exists = some_blocks f.blocks printable.some

  comes_back : (p b : ℕ) (entry env : Env) → Passes f p entry b env → nat_eq b first_block ≡ true → ⊥
  comes_back p b entry env run same =
      let on = moment_on_walk f (Into (Some p) b) run.end (passes_moment f p entry b env run) in
      let is : b ≡ 0 = eqb-true b 0 same in
      let edge : IsEdge f p 0 = subst (IsEdge f p) is on.0 in
      let none : is_in 0 (successors f p) ≡ false = no_edge_to f p 0 ((phis 0 entry_exists).entry refl p) in
      false_is_no_truth edge none

  pub goes_in_order : GoesInOrder f (flow_of answers f l)
  goes_in_order = record {
    first = λ b env begins. begins.is_first;
    first_in = ((is_ordered f l.order order).reached 0).1 (entry_exists, record { passed = []; walk = refl });
    next_in = λ p b entry env run there.
        ((is_ordered f l.order order).reached b).1 (there_is f.blocks b run.block run.there, entered f (Some p) b (moment_on_walk f (Into (Some p) b) run.end (passes_moment f p entry b env run)));
    no_return = λ p b entry env run. no_truth (nat_eq b first_block) (comes_back p b entry env run);
  }

-- ---- where the function begins

parameter_is_in : {V : Type 0} (answers : Answers V) (f : Function) (params : List Param) (v : ℕ) (d : V) → parameter_fact answers f params v ≡ Some d → is_in v (map (λ p. p.value.0) params) ≡ true
parameter_is_in answers f [] v d e = absurd cc
parameter_is_in {V = V} answers f (p ∷ rest) v d e = of (nat_eq p.value.0 v) refl e (parameter_is_in answers f rest v d)
  where
    of : (same : Bool) → nat_eq p.value.0 v ≡ same → (if same then Some (answers.any (type_of f p.value) (has_noundef p.words)) else parameter_fact answers f rest v) ≡ Some d →
        (parameter_fact answers f rest v ≡ Some d → is_in v (map (λ p. p.value.0) rest) ≡ true) → is_in v (p.value.0 ∷ map (λ p. p.value.0) rest) ≡ true
    of true is e later = or_left (nat_eq v p.value.0) (is_in v (map (λ p. p.value.0) rest)) (turned p.value.0 v true is)
    of false is e later = or_right (nat_eq v p.value.0) (is_in v (map (λ p. p.value.0) rest)) (later e)

module _ {V : Type 0} (holds : V → Val → Type 0) (ty : V → Ty) (proper : V → Type 0) (answers : Answers V)
    (types : AreTyped (IsOf ty proper) answers) (sound : AreSound holds (IsOf ty proper) answers) (f : Function) where
  kept_promise : (promised : Bool) (a : Val) (rest : Bool) → (promised && is_poison a || rest) ≡ false → a ≡ Val.Poison → promised ≡ false
  kept_promise promised a rest kept poison = of promised (or_none (promised && is_poison a) rest kept).0
    where
      of : (b : Bool) → (b && is_poison a) ≡ false → b ≡ false
      of true none = absurd (let yes : is_poison a ≡ true = ap is_poison poison in cc)
      of false none = refl

  rest_kept : (first rest : Bool) → (first || rest) ≡ false → rest ≡ false
  rest_kept first rest kept = (or_none first rest kept).1

  parameter_holds : (params : List Param) (args : List Val) (v : ℕ) → AllByRecursion (λ (p : Param). IsIntegerType (type_of f p.value)) params → AreArguments (map (λ (p : Param). type_of f p.value) params) args →
      breaks_promise params args ≡ false → ForSome (parameter_fact answers f params v) (λ d. holds d (start_of params args v))
  parameter_holds [] args v integers fit kept = none_of (λ d. holds d (start_of [] args v))
  parameter_holds (p ∷ rest) [] v integers fit kept = absurd fit
  parameter_holds (p ∷ rest) (a ∷ args) v integers fit kept =
      of (nat_eq p.value.0 v) refl (parameter_holds rest args v integers.1 fit.1 (rest_kept (has_noundef p.words && is_poison a) (breaks_promise rest args) kept))
    where
      any_holds : holds (answers.any (type_of f p.value) (has_noundef p.words)) a
      any_holds = sound.any (type_of f p.value) (has_noundef p.words) a (integer_is_type (type_of f p.value) integers.0) fit.0 (kept_promise (has_noundef p.words) a (breaks_promise rest args) kept)

      of : (same : Bool) → nat_eq p.value.0 v ≡ same → ForSome (parameter_fact answers f rest v) (λ d. holds d (start_of rest args v)) →
          ForSome (if same then Some (answers.any (type_of f p.value) (has_noundef p.words)) else parameter_fact answers f rest v) (λ d. holds d (start_of (p ∷ rest) (a ∷ args) v))
      of true e later =
          subst (λ b. ForSome (Some (answers.any (type_of f p.value) (has_noundef p.words))) (λ d. holds d (if b then a else start_of rest args v))) (sym (turned p.value.0 v true e))
          (some_of (λ d. holds d a) (answers.any (type_of f p.value) (has_noundef p.words)) any_holds)
      of false e later =
          subst (λ b. ForSome (parameter_fact answers f rest v) (λ d. holds d (if b then a else start_of rest args v))) (sym (turned p.value.0 v false e)) later

  module _ (once : DefinesOnce f) (defined : Defined f) (printable : IsPrintable f) (typed : Typed f) where
    phis_keep_parameters : (b : ℕ) (block : Block) (env : Env) (v : ℕ) → slice_get f.blocks b ≡ Some block → is_parameter f v ≡ true → after_phis None block.phis env env v ≡ env v
    phis_keep_parameters b block env v there parameter = phis_keep None block.phis env env v (λ here. (phi_definition f b block v once there here).result parameter)

    pub start_true : (b : ℕ) (block : Block) (env : Env) → Begins f b env → slice_get f.blocks b ≡ Some block → IsTrueState holds f (start_state answers f) (after_phis None block.phis env env)
    start_true b block env run there = record {
      facts = λ v d e.
          let same : after_phis None block.phis env env v ≡ start_of f.params run.args v =
          phis_keep_parameters b block env v there (parameter_is_in answers f f.params v d e) ∙ ap (λ (n : Env). n v) run.env_is in
          subst (holds d) (sym same) (parameter_holds f.params run.args v (parameters_are_integers f printable) run.fit run.kept d e);
      equations = λ v live. absurd cc;
    }

    abbrev pub Facts : ℕ → AbstractState V → Type 0
    Facts b s = AreFacts ty proper f s

    only_true : (env : Env) (o : Option (AbstractState V)) → IsSomeAnd o (Met holds ty proper answers types sound f env) → IsSomeAnd o (λ s. IsTrueState holds f s env)
    only_true env None met = absurd met
    only_true env (Some s) met = met.truth

    pub keeps_truth : (l : Layout) → KeepsTruth f (flow_of answers f l) Facts Facts (λ s env. IsTrueState holds f s env)
    keeps_truth l = record {
      start = start_true;
      along = λ p b s entry env facts is_true run.
          only_true env (handed_on answers f p b s) (passes_met holds ty proper answers types sound f once printable typed defined p entry b env s (record { truth = is_true; facts = facts }) run);
      join_first = λ b s s' env facts facts' t. joined_first holds ty proper answers types sound f s s' env facts facts' t;
      join_second = λ b s s' env facts facts' t. joined_second holds ty proper answers types sound f s s' env facts facts' t;
      cut = λ b s env t. cut_true holds ty proper answers types sound f (l.in_scope b) s env t;
      widen_old = λ b round old new env one facts facts' t. widened_old holds ty proper answers types sound f (min round last_round) old new env (at_least_one round one) facts facts' t;
      widen_new = λ b round old new env one facts facts' t. widened_new holds ty proper answers types sound f (min round last_round) old new env (at_least_one round one) facts facts' t;
    }
