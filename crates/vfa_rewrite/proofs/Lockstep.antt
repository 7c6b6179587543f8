-- Both functions enter the same blocks in step, so what is left refines what was read.
use Rattle.std.proofs.Common.{◌≡◌, ℕ, zero, suc, ◌+◌, ◌<◌, ◌++◌, Bool, true, false, nat_eq, if◌then◌else◌, MatchBool, Option, Some, None, List, [], ◌∷◌, All, length, map, slice_get, option_and_then, refl, sym, subst, ap, ◌∙◌, arith}
use Rattle.std.proofs.lemmas.Bool.{eqb-true, eq-eqb}
use Rattle.std.proofs.lemmas.Option.{same_Some}
use Rattle.std.specs.List.{AllByRecursion}
use Rattle.std.specs.Option.{option_map_or}
use Rattle.vfa_ir.specs.declared.operations.BlockId.{BlockId}
use Rattle.vfa_ir.specs.declared.operations.Ty.{Ty}
use Rattle.vfa_ir.specs.declared.functions.Block.{Block}
use Rattle.vfa_ir.specs.declared.functions.Function.{Function}
use Rattle.vfa_ir.specs.declared.functions.Param.{Param}
use Rattle.vfa_ir.specs.declared.functions.Value.{Value}
use Rattle.vfa_ir.specs.PhisFit.{targets}
use Rattle.vfa_mean.specs.declared.value.Val.{Val}
use Rattle.vfa_mean.specs.Values.{Env, IsValueOf, AllowsValue}
use Rattle.vfa_mean.specs.Moments.{Into, At, Moment, starts, reads, leaves}
use Rattle.vfa_mean.specs.Outcomes.{Going, Ub, Returned, Outcome, only, Ends, has_noundef, Lines, after_phis, Exit, Invalid, Return, Edge, exit_of, returned, Leaves, InBlock, Enter, type_of, parameter_types, AreArguments, IsAnswer, start_of, breaks_promise, first_block}
use Rattle.vfa_mean.specs.Refines.{Allows, ParameterHead, parameter_head, Refines}
use Rattle.vfa_mean.proofs.Refining.{AllowsValue-refl}
use Rattle.vfa_rewrite.specs.Rewritten.{Marks, emptied, if_block_left, block_left, edge_to, edges_from, edges_of, if_reached, phis_if_met, kept_phis, lines_left, shrunk, term_if_met, term_left, rewritten_block, rewritten}
use Rattle.vfa_cond.specs.Conditions.{name_type}
use Rattle.vfa_rewrite.specs.Sound.{Agrees, IsKept, IsEntered, term_operand, BlockIsSound, AreSound}
use Rattle.vfa_rewrite.proofs.Left.{made_at, get_before}
use Rattle.vfa_rewrite.proofs.Agreement.{operand_agrees}
use Rattle.vfa_rewrite.proofs.Phis.{phis_agree, first_phis_agree}
use Rattle.vfa_rewrite.proofs.Instructions.{Meets, GoesOn, undefined_meets}
use Rattle.vfa_rewrite.proofs.Lines.{lines_go}
use Rattle.vfa_rewrite.proofs.Terminators.{LeadsTo, edge_leads, AllowsExit, term_goes}

-- ---- an edge that is left is counted

edge_counts : (s t : Bool) (n : ℕ) → s ≡ true → t ≡ true → edge_to s t n ≡ 0 → ⊥
edge_counts true true n e g z = absurd (cc)
edge_counts true false n e g z = absurd (cc)
edge_counts false t n e g z = absurd (cc)

no_more : (s t : Bool) (n : ℕ) → edge_to s t n ≡ 0 → n ≡ 0
no_more true true n z = absurd (cc)
no_more true false n z = z
no_more false t n z = z

edges_some : (left : ℕ → Bool) (b k : ℕ) (ts : List BlockId) (i j : ℕ) (to : BlockId) → slice_get ts i ≡ Some to → to.0 ≡ b → j ≡ k + i → left j ≡ true →
    edges_from left b k ts ≡ 0 → ⊥
edges_some left b k [] i j to there same e l z = absurd (cc)
edges_some left b k (t ∷ ts) zero j to there same e l z =
    let is : t ≡ to = same_Some t to there in
    edge_counts (left k) (nat_eq t.0 b) (edges_from left b (suc k) ts) (subst (λ n. left n ≡ true) (omega (arith, e)) l)
    (eq-eqb t.0 b (ap (λ (x : BlockId). x.0) is ∙ same)) z
edges_some left b k (t ∷ ts) (suc i) j to there same e l z =
    edges_some left b (suc k) ts i j to there same (omega (arith, e)) l (no_more (left k) (nat_eq t.0 b) (edges_from left b (suc k) ts) z)

edge_enters : (f : Function) (m : Marks) (b : ℕ) (block : Block) (k target : ℕ) → slice_get f.blocks b ≡ Some block → m.reached b ≡ true →
    m.left b k ≡ true → LeadsTo (targets block.term) k target → IsEntered f m target b
edge_enters f m b block k target there reached l leads z =
    let count : Option Block → ℕ = λ o. elim o [ None ↦ 0 | Some block ↦ edges_from (m.left b) target 0 (targets block.term) ] in
    let e : edges_of f m target b ≡ edges_from (m.left b) target 0 (targets block.term) =
    ap (λ t. if_reached t (count (slice_get f.blocks b))) reached ∙ ap count there in
    edges_some (m.left b) target 0 (targets block.term) k k leads.to leads.there leads.same (omega arith) l (sym e ∙ z)

-- ---- returns

returned_allowed : (promised : Bool) (v v' : Val) → AllowsValue v v' → Allows (only (returned promised v)) (only (returned promised v'))
returned_allowed false v v' h = h
returned_allowed true Val.Poison v' h = tt
returned_allowed true (Val.Number x) v' h = subst (λ u. Allows (only (Returned (Val.Number x))) (only (returned true u))) h refl
returned_allowed true (Val.Pair x o) v' h = subst (λ u. Allows (only (Returned (Val.Pair x o))) (only (returned true u))) h refl

-- ---- blocks

module _ (f : Function) (m : Marks) (sound : AreSound f m) where
  -- the block is entered where the function begins, or by an edge that is left
  abbrev IsEntry : Option ℕ → ℕ → Type 0
  IsEntry None b = Unit {0}
  IsEntry (Some p) b = IsEntered f m b p

  -- entering a block from related environments
  abbrev EntersAlike : Option ℕ → ℕ → Ends → Ends → Type 0
  EntersAlike p b next next' = (env env' : Env) (answers : List Val) (o' : Outcome) → Moment f (Into p b) env → Agrees f m env env' → IsEntry p b →
      m.reached b ≡ true → All IsAnswer answers → next' env' answers o' → Meets next env answers o'

  module _ (n b : ℕ) (block : Block) (there : slice_get f.blocks b ≡ Some block) (reached : m.reached b ≡ true) (own : BlockIsSound f m b block)
      (again : (target : ℕ) → EntersAlike (Some b) target (Enter f n (Some b) target) (Enter (rewritten f m) n (Some b) target)) where
    leave_by : (promised : Bool) (env env' : Env) (answers : List Val) (o' : Outcome) → Moment f (At b (length block.insts)) env → Agrees f m env env' → All IsAnswer answers →
        (exit exit' : Exit) → exit_of block.term env ≡ exit → AllowsExit m (m.left b) exit exit' →
        Leaves promised exit' (Enter (rewritten f m) n (Some b)) env' answers o' → Meets (Leaves promised exit (Enter f n (Some b))) env answers o'
    leave_by promised env env' answers o' moment agrees all Invalid exit' e allowed h = undefined_meets (Leaves promised Invalid (Enter f n (Some b))) env answers o' refl
    leave_by promised env env' answers o' moment agrees all (Return v) (Return v') e allowed h =
        (only (returned promised v), refl, subst (λ o. Allows (only (returned promised v)) o) (sym h) (returned_allowed promised v v' allowed))
    leave_by promised env env' answers o' moment agrees all (Return v) Invalid e allowed h = absurd allowed
    leave_by promised env env' answers o' moment agrees all (Return v) (Edge k' target') e allowed h = absurd allowed
    leave_by promised env env' answers o' moment agrees all (Edge k target) Invalid e allowed h = absurd allowed
    leave_by promised env env' answers o' moment agrees all (Edge k target) (Return v') e allowed h = absurd allowed
    leave_by promised env env' answers o' moment agrees all (Edge k target) (Edge k' target') e allowed h =
        let leads = edge_leads block.term env k target e in
        let left = sound.left b block env k target moment there e in
        let target_left : m.reached target ≡ true = subst (λ t. m.reached t ≡ true) leads.same (own.targets k leads.to leads.there left) in
        again target env env' answers o' (leaves b block env k target moment there e) agrees
        (edge_enters f m b block k target there reached left leads) target_left all
        (subst (λ t. Enter (rewritten f m) n (Some b) t env' answers o') allowed h)

    end_goes : (promised : Bool) → GoesOn f m b (length block.insts) (λ env. Leaves promised (exit_of block.term env) (Enter f n (Some b)) env)
        (λ env'. Leaves promised (exit_of (term_left m b block) env') (Enter (rewritten f m) n (Some b)) env')
    end_goes promised env env' answers o' moment agrees all h =
        let end = length block.insts in
        let met = sound.met b end env moment in
        let put = m.put (At b end) in
        let term' = shrunk put (m.left b) block.term in
        let stands = own.term met in
        let kept : IsKept m (term_operand term') = subst (λ t. IsKept m (term_operand (term_if_met t term'))) met stands.kept in
        let allowed = term_goes m (m.left b) put block.term env env' (λ k target e. sound.left b block env k target moment there e)
        (λ k. operand_agrees f m (At b end) env env' (term_operand block.term) (put (term_operand block.term)) moment agrees stands.allows k) kept in
        leave_by promised env env' answers o' moment agrees all (exit_of block.term env) (exit_of term' env') refl allowed
        (subst (λ t. Leaves promised (exit_of (term_if_met t term') env') (Enter (rewritten f m) n (Some b)) env' answers o') met h)

    phis_step : m.met b 0 ≡ true → (p : Option ℕ) (env env' : Env) → Moment f (Into p b) env → Agrees f m env env' → IsEntry p b →
        Agrees f m (after_phis p block.phis env env) (after_phis p (kept_phis f m b block.phis) env' env')
    phis_step met None env env' moment agrees entry = first_phis_agree f m b block.phis env env' agrees (own.phis met)
    phis_step met (Some p) env env' moment agrees entry = phis_agree f m b p block.phis env env' moment agrees entry (own.phis met)

    block_goes : (p : Option ℕ) → EntersAlike p b (InBlock f (Some block) p (Enter f n (Some b)))
        (InBlock (rewritten f m) (Some (rewritten_block f m b block)) p (Enter (rewritten f m) n (Some b)))
    block_goes p env env' answers o' moment agrees entry left all h =
        let start = reads p b block env moment there in
        let met = sound.met b 0 (after_phis p block.phis env env) start in
        let promised = has_noundef f.lead in
        let next : Ends = λ env. Leaves promised (exit_of block.term env) (Enter f n (Some b)) env in
        let next' : Ends = λ env'. Leaves promised (exit_of (term_left m b block) env') (Enter (rewritten f m) n (Some b)) env' in
        lines_go f m b block there next next' (λ i env moment. sound.met b i env moment) own.lines (end_goes promised)
        (after_phis p block.phis env env) (after_phis p (kept_phis f m b block.phis) env' env') answers o' start
        (phis_step met p env env' moment agrees entry) all
        (subst (λ t. Lines (rewritten f m).calls (lines_left m b 0 block.insts) next' (after_phis p (phis_if_met t (kept_phis f m b block.phis)) env' env') answers o') met h)

  by_block : (n : ℕ) (p : Option ℕ) (b : ℕ) →
      ((target : ℕ) → EntersAlike (Some b) target (Enter f n (Some b) target) (Enter (rewritten f m) n (Some b) target)) →
      (block : Option Block) → slice_get f.blocks b ≡ block →
      EntersAlike p b (InBlock f block p (Enter f n (Some b))) (Enter (rewritten f m) (suc n) p b)
  by_block n p b again None there env env' answers o' moment agrees entry left all h = undefined_meets (InBlock f None p (Enter f n (Some b))) env answers o' refl
  by_block n p b again (Some block) there env env' answers o' moment agrees entry left all h =
      let there' : slice_get (rewritten f m).blocks b ≡ Some (rewritten_block f m b block) =
      made_at (block_left f m) f.blocks b block there ∙ ap (λ t. Some (if_block_left t (rewritten_block f m b block) (emptied block))) left in
      block_goes n b block there left (sound.blocks b block there left) again p env env' answers o' moment agrees entry left all
      (subst (λ c. InBlock (rewritten f m) c p (Enter (rewritten f m) n (Some b)) env' answers o') there' h)

  enter_goes : (n : ℕ) (p : Option ℕ) (b : ℕ) → EntersAlike p b (Enter f n p b) (Enter (rewritten f m) n p b)
  enter_goes zero p b = λ env env' answers o' moment agrees entry left all h. (only Going, refl, subst (λ o. Allows (only Going) o) (sym h) refl)
  enter_goes (suc n) p b = by_block n p b (λ target. enter_goes n (Some b) target) (slice_get f.blocks b) refl

  -- ---- the function

  abbrev type_at : Option Value → Ty
  type_at o = option_map_or (λ (value : Value). value.ty) o (Ty.Int 1)

  same_value : (p : Param) → p.value.0 < length f.values → slice_get (f.values ++ m.added) p.value.0 ≡ slice_get f.values p.value.0
  same_value p h = get_before f.values m.added p.value.0 h

  first_typed : (p : Param) (v : Val) (n : ℕ) → n ≡ p.value.0 → p.value.0 < length f.values → IsValueOf (type_of f p.value) v →
      IsValueOf (name_type (rewritten f m) n) v
  first_typed p v n e within h = subst (λ k. IsValueOf (name_type (rewritten f m) k) v) (sym e)
      (subst (λ o. IsValueOf (type_at o) v) (sym (same_value p within)) h)

  start_typed : (params : List Param) (args : List Val) (n : ℕ) → AllByRecursion (λ (p : Param). p.value.0 < length f.values) params →
      AreArguments (map (λ (p : Param). type_of f p.value) params) args → IsValueOf (name_type (rewritten f m) n) (start_of params args n)
  start_typed [] args n within fit = tt
  start_typed (p ∷ params) [] n within fit = tt
  start_typed (p ∷ params) (v ∷ args) n within fit = by (nat_eq n p.value.0) refl (start_typed params args n within.1 fit.1)
    where
      by : (t : Bool) → nat_eq n p.value.0 ≡ t → IsValueOf (name_type (rewritten f m) n) (start_of params args n) →
          IsValueOf (name_type (rewritten f m) n) (if t then v else start_of params args n)
      by true e rest = first_typed p v n (eqb-true n p.value.0 e) within.0 fit.0
      by false e rest = rest

  abbrev head_of : Option Value → List (List ℕ) → ParameterHead
  head_of o words = record { name = option_and_then (λ (v : Value). v.name) o; ty = type_at o; words = words }

  same_parameters : (params : List Param) → AllByRecursion (λ (p : Param). p.value.0 < length f.values) params →
      map (parameter_head f) params ≡ map (parameter_head (rewritten f m)) params
  same_parameters [] within = refl
  same_parameters (p ∷ params) within =
      let e : head_of (slice_get f.values p.value.0) p.words ≡ head_of (slice_get (f.values ++ m.added) p.value.0) p.words =
      ap (λ o. head_of o p.words) (sym (same_value p within.0)) in
      ap (λ h. h ∷ map (parameter_head f) params) e ∙ ap (λ rest. parameter_head (rewritten f m) p ∷ rest) (same_parameters params within.1)

  run_meets : (args answers : List Val) (n : ℕ) (o' : Outcome) → AreArguments (parameter_types f) args → All IsAnswer answers → (t : Bool) → breaks_promise f.params args ≡ t →
      MatchBool t (o' ≡ only Ub) (Enter (rewritten f m) n None first_block (start_of f.params args) answers o') →
      (o : Outcome) × MatchBool t (o ≡ only Ub) (Enter f n None first_block (start_of f.params args) answers o) × Allows o o'
  run_meets args answers n o' fit all true e h = (only Ub, refl, tt)
  run_meets args answers n o' fit all false e h =
      let start = start_of f.params args in
      enter_goes n None first_block start start answers o' (starts args fit e)
      (record { allows = λ k kept. AllowsValue-refl (start k); typed = λ k. start_typed f.params args k sound.params fit }) tt sound.entry all h

  pub refines : Refines f (rewritten f m)
  refines = record {
    header = record { name = refl; lead = refl; width = refl; parameters = same_parameters f.params sound.params; tail = refl };
    outcomes = λ args fit answers all n o' out. run_meets args answers n o' fit all (breaks_promise f.params args) refl out;
  }
