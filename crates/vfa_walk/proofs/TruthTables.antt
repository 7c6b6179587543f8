-- The table of a function is true, and a true table is true at every place.
use Rattle.std.proofs.Common.{◌≡◌, ◌+◌, ℕ, Bool, true, false, nat_eq, cond, count_by, Option, Some, None, IfSome, IsSomeAnd, MatchBool, List, [], ◌∷◌, take, length, slice_get, All, refl, sym, ◌∙◌, ap, ap₂, subst, arith, eq-eqb}
use Rattle.std.specs.Option.{ForSome}
use Rattle.std.proofs.lemmas.List.Elements.{All-head}
use Rattle.std.proofs.lemmas.List.Sums.{sum_by-cons}
use Rattle.vfa_ir.specs.declared.operations.BlockId.{BlockId}
use Rattle.vfa_ir.specs.declared.operations.Operand.{Operand}
use Rattle.vfa_ir.specs.declared.operations.Ty.{Ty}
use Rattle.vfa_ir.specs.declared.functions.Block.{Block}
use Rattle.vfa_ir.specs.declared.functions.Function.{Function}
use Rattle.vfa_ir.specs.declared.functions.Phi.{Phi}
use Rattle.vfa_ir.specs.Defined.{Defined}
use Rattle.vfa_ir.specs.PhisFit.{PhisFit, PhiFits, HasNoEdgeTo}
use Rattle.vfa_ir.specs.Printable.{IsPrintable, PrintableBlock, PrintablePhi}
use Rattle.vfa_ir.specs.Typed.{Typed}
use Rattle.vfa_ir.specs.Walks.{is_in, IsDefinedAt, IsMissedAt}
use Rattle.vfa_cfg.specs.Order.{numbers}
use Rattle.vfa_cfg.proofs.Visiting.{same_visits}
use Rattle.vfa_mean.specs.declared.value.Val.{Val}
use Rattle.vfa_mean.specs.Values.{Env}
use Rattle.vfa_mean.specs.Moments.{Place, Into, At, Moment, reads}
use Rattle.vfa_mean.specs.FreshOperands.{DefinesOnce}
use Rattle.vfa_mean.specs.Outcomes.{after_phis}
use Rattle.vfa_values.specs.Answers.{Answers}
use Rattle.vfa_values.specs.Conditions.{IsOf}
use Rattle.vfa_values.specs.Laws.{AreTyped, AreSound}
use Rattle.vfa_cond.specs.Conditions.{AreFacts}
use Rattle.vfa_cond.specs.States.{AbstractState}
use Rattle.vfa_cond.specs.Truth.{IsTrueState}
use Rattle.vfa_cond.proofs.Truthful.{Met}
use Rattle.vfa_walk.specs.Passes.{followed, pass_table, pass_next, IsPass}
use Rattle.vfa_walk.specs.Flow.{Flow, IsForward}
use Rattle.vfa_walk.specs.Rounds.{IsTable}
use Rattle.vfa_walk.specs.Stepping.{after_insts, insts_of, before_line}
use Rattle.vfa_walk.specs.Leaving.{along_edge, left_to}
use Rattle.vfa_walk.specs.Analysis.{Layout, IsLayout, flow_of}
use Rattle.vfa_walk.specs.Tables.{States, IsTableOf, state_at, IsTrueTable}
use Rattle.vfa_walk.proofs.PassEquations.{one_pass}
use Rattle.vfa_walk.proofs.RoundsEnd.{one_table}
use Rattle.vfa_walk.proofs.TruthBlocks.{through_met}
use Rattle.vfa_walk.proofs.TruthEdges.{left_met, takes_edge_of}
use Rattle.vfa_walk.proofs.TruthFacts.{types_are_kept}
use Rattle.vfa_walk.proofs.TruthFlow.{is_forward, goes_in_order, keeps_truth, there_is}
use Rattle.vfa_walk.proofs.TruthTypes.{each_of}
use Rattle.vfa_walk.proofs.TruthKept.{table_is_good}
use Rattle.vfa_walk.proofs.TruthPasses.{IsTrueAtEntries, TrueSome, table_true, covering_pass_true, narrowed_pass_true}
use Rattle.vfa_walk.proofs.TruthRuns.{Through, moment_comes, through_start, through_none, entered_block, Begins, Leaves}
use Rattle.vfa_walk.specs.TruthLaws.{HasTypedFacts, IsTrueAtPlaces, TakesTrueEdge, IsTrueAlongEdges, IsNeverMet, CoverNext}

-- ---- the first block has no phis

some_first : (blocks : List Block) → (blocks ≡ [] → ⊥) → (block : Block) × (slice_get blocks 0 ≡ Some block)
some_first [] some = absurd (some refl)
some_first (b ∷ rest) some = (b, refl)

some_entry : (entries : List (Operand × BlockId)) → (entries ≡ [] → ⊥) → (e : Operand × BlockId) × (count_by (λ (d : Operand × BlockId). nat_eq d.1.0 e.1.0) entries ≡ 0 → ⊥)
some_entry [] some = absurd (some refl)
some_entry (e ∷ rest) some =
    let sum = sum_by-cons (λ (d : Operand × BlockId). cond (nat_eq d.1.0 e.1.0) 1 0) e rest in
    (e, λ none. counted (nat_eq e.1.0 e.1.0) (count_by (λ (d : Operand × BlockId). nat_eq d.1.0 e.1.0) rest) (eq-eqb e.1.0 e.1.0 refl) (sym sum ∙ none))
  where
    counted : (same : Bool) (n : ℕ) → same ≡ true → cond same 1 0 + n ≡ 0 → ⊥
    counted true n is none = omega arith
    counted false n is none = absurd cc

no_phis : (f : Function) (phis : List Phi) → HasNoEdgeTo f 0 → All (PhiFits f 0) phis → All (PrintablePhi f) phis → phis ≡ []
no_phis f [] none fit printable = refl
no_phis f (p ∷ rest) none fit printable =
    let e = some_entry p.entries (All-head (PrintablePhi f) p rest printable).some in
    absurd (e.1 ((All-head (PhiFits f 0) p rest fit).each_edge e.0.1.0 ∙ none e.0.1.0))

pub first_has_no_phis : (f : Function) → IsPrintable f → PhisFit f → (block : Block) → slice_get f.blocks 0 ≡ Some block → block.phis ≡ []
first_has_no_phis f printable phis block there =
    let fit = phis 0 (there_is f.blocks 0 block there) in
    no_phis f block.phis (fit.entry refl) (subst (λ o. IfSome o (λ (b : Block). All (PhiFits f 0) b.phis)) there fit.phis)
    (each_of (PrintableBlock f) f.blocks 0 block printable.blocks there).phis

module _ {V : Type 0} (holds : V → Val → Type 0) (ty : V → Ty) (proper : V → Type 0) (answers : Answers V)
    (types : AreTyped (IsOf ty proper) answers) (sound : AreSound holds (IsOf ty proper) answers)
    (f : Function) (once : DefinesOnce f) (printable : IsPrintable f) (typed : Typed f) (defined : Defined f) where
  entry_moment : (t : States V) → IsTrueAtEntries f (λ s env. IsTrueState holds f s env) t → IsTrueTable holds f t
  entry_moment t is_true b env m =
      let c = moment_comes f (At b 0) env m in
      let same : c.0 ≡ env = through_none f b c.0 0 env c.2 refl in
      subst (λ e. IsSomeAnd (t b) (λ s. IsTrueState holds f s e)) same (is_true b c.0 c.1)

  -- the table of the function
  pub table_is_true : PhisFit f → (t : States V) → IsTableOf answers f t → IsTrueTable holds f t
  table_is_true phis t is =
      entry_moment t
      (table_true f (flow_of answers f is.layout) (λ _. AreFacts ty proper f) (λ _. AreFacts ty proper f) (λ s env. IsTrueState holds f s env)
      (types_are_kept ty proper answers types f printable typed is.layout) (keeps_truth holds ty proper answers types sound f once defined printable typed is.layout)
      (goes_in_order answers f printable phis is.layout is.is_layout.is_order) t (is_forward answers f is.layout is.is_layout.is_order) is.is_table)

  pub table_is_typed : (t : States V) → IsTableOf answers f t → (b : ℕ) → ForSome (t b) (AreFacts ty proper f)
  table_is_typed t is = table_is_good (flow_of answers f is.layout) (λ _. AreFacts ty proper f) (λ _. AreFacts ty proper f) (types_are_kept ty proper answers types f printable typed is.layout) t is.is_table

  -- ---- a true table, at every place

  is_met : (env : Env) (o : Option (AbstractState V)) → ForSome o (AreFacts ty proper f) → IsSomeAnd o (λ s. IsTrueState holds f s env) → IsSomeAnd o (Met holds ty proper answers types sound f env)
  is_met env None facts is_true = absurd is_true
  is_met env (Some s) facts is_true = record { truth = is_true; facts = facts s refl }

  only_true : (env : Env) (o : Option (AbstractState V)) → IsSomeAnd o (Met holds ty proper answers types sound f env) → IsSomeAnd o (λ s. IsTrueState holds f s env)
  only_true env None met = absurd met
  only_true env (Some s) met = met.truth

  follows_met : (entry env : Env) (o : Option (AbstractState V)) (next : AbstractState V → Option (AbstractState V)) → IsSomeAnd o (Met holds ty proper answers types sound f entry) →
      ((s : AbstractState V) → Met holds ty proper answers types sound f entry s → IsSomeAnd (next s) (Met holds ty proper answers types sound f env)) → IsSomeAnd (followed next o) (Met holds ty proper answers types sound f env)
  follows_met entry env None next met after = absurd met
  follows_met entry env (Some s) next met after = after s met

  module _ (t : States V) (facts : HasTypedFacts ty proper f t) (is_true : IsTrueTable holds f t) where
    line_met : (b : ℕ) (block : Block) (entry : Env) (i : ℕ) (env : Env) → slice_get f.blocks b ≡ Some block → Through f b entry i env →
        IsSomeAnd (state_at answers f t (At b i)) (Met holds ty proper answers types sound f env)
    line_met b block entry i env there run =
        let insts : insts_of f b ≡ block.insts = ap (λ o. elim o [ None ↦ [] | Some block ↦ block.insts ]) there in
        follows_met entry env (t b) (before_line answers f b i) (is_met entry (t b) (facts b) (is_true b entry (through_start f b entry i env run)))
        (λ s met. subst (λ l. IsSomeAnd (after_insts answers f (take i l) s) (Met holds ty proper answers types sound f env)) (sym insts)
        (through_met holds ty proper answers types sound f once defined printable typed b block entry s there met i env run))

    left_is_met : (p b : ℕ) (entry env : Env) → Leaves f p entry b env → IsSomeAnd (state_at answers f t (Into (Some p) b)) (Met holds ty proper answers types sound f env)
    left_is_met p b entry env run =
        follows_met entry env (t p) (left_to answers f p b) (is_met entry (t p) (facts p) (is_true p entry (through_start f p entry (length run.block.insts) env run.through)))
        (λ s met. left_met holds ty proper answers types sound f once printable typed defined p entry b env s met run)

    pub place_met : PhisFit f → (place : Place) (env : Env) → Moment f place env → IsSomeAnd (state_at answers f t place) (Met holds ty proper answers types sound f env)
    place_met phis (At b i) env m =
        let c = moment_comes f (At b i) env m in
        let block = entered_block f b c.0 c.1 in
        line_met b block.block c.0 i env block.there c.2
    place_met phis (Into (Some p) b) env m = let c = moment_comes f (Into (Some p) b) env m in left_is_met p b c.0 env c.2
    place_met phis (Into None b) env m =
        let c : Begins f b env = moment_comes f (Into None b) env m in
        let first = some_first f.blocks printable.some in
        let there : slice_get f.blocks b ≡ Some first.0 = ap (slice_get f.blocks) c.is_first ∙ first.1 in
        let next : Moment f (At b 0) (after_phis None first.0.phis env env) = reads None b first.0 env m there in
        let same : after_phis None first.0.phis env env ≡ env = ap (λ phis. after_phis None phis env env) (first_has_no_phis f printable phis first.0 first.1) in
        is_met env (t b) (facts b) (is_true b env (subst (Moment f (At b 0)) same next))

    pub places_are_true : PhisFit f → IsTrueAtPlaces holds answers f t
    places_are_true phis place env m = only_true env (state_at answers f t place) (place_met phis place env m)

    pub edges_are_true : IsTrueAlongEdges holds answers f t
    edges_are_true b block env k target there m exit =
        let c = moment_comes f (At b (length block.insts)) env m in
        by (state_at answers f t (At b (length block.insts))) refl (line_met b block c.0 (length block.insts) env there c.2)
      where
        by : (o : Option (AbstractState V)) → state_at answers f t (At b (length block.insts)) ≡ o → IsSomeAnd o (Met holds ty proper answers types sound f env) → TakesTrueEdge holds answers f t b block env k target
        by None e met = absurd met
        by (Some s) e met =
            let taken = takes_edge_of holds ty proper answers types sound f printable typed env b block k target s there m exit met in
            record {
              taken = taken.taken;
              stands = taken.stands;
              goes = taken.to_is;
              is_true = subst (λ o. IsSomeAnd (followed (along_edge answers f taken.taken) o) (λ s. IsTrueState holds f s env)) (sym e) (only_true env (along_edge answers f taken.taken s) taken.met);
            }

    pub never_met : PhisFit f → (place : Place) → state_at answers f t place ≡ None → IsNeverMet f place
    never_met phis place none env m = subst (λ o. IsSomeAnd o (λ s. IsTrueState holds f s env)) none (places_are_true phis place env m)

  -- ---- any states that cover what comes to the heads

  covers_next : (m : Flow (AbstractState V)) (x : States V) → CoverNext holds f m x → (b : ℕ) (env : Env) → m.is_head b ≡ true → TrueSome (λ s env. IsTrueState holds f s env) (pass_next m x b) env →
      TrueSome (λ s env. IsTrueState holds f s env) (x b) env
  covers_next m x covers b env head is_true = covers b env head is_true

  pub covered_is_true : PhisFit f → (l : Layout) → IsLayout f l → (x t : States V) → HasTypedFacts ty proper f x → CoverNext holds f (flow_of answers f l) x → IsPass (flow_of answers f l) x t → IsTrueTable holds f t
  covered_is_true phis l is x t facts covers pass =
      let m : Flow (AbstractState V) = flow_of answers f l in
      let forward : IsForward m = is_forward answers f l is.is_order in
      let of_pass : IsTrueAtEntries f (λ s env. IsTrueState holds f s env) (pass_table m x) =
      covering_pass_true f m (λ _. AreFacts ty proper f) (λ _. AreFacts ty proper f) (λ s env. IsTrueState holds f s env)
      (types_are_kept ty proper answers types f printable typed l) (keeps_truth holds ty proper answers types sound f once defined printable typed l)
      (goes_in_order answers f printable phis l is.is_order) x forward facts (covers_next m x covers) in
      entry_moment t (λ b env entered. subst (λ o. TrueSome (λ s env. IsTrueState holds f s env) o env) (sym (one_pass m x t forward pass b)) (of_pass b env entered))

  pub narrowed_is_true : PhisFit f → (l : Layout) → IsLayout f l → (x t : States V) → HasTypedFacts ty proper f x → CoverNext holds f (flow_of answers f l) x →
      IsPass (flow_of answers f l) (pass_next (flow_of answers f l) x) t → IsTrueTable holds f t
  narrowed_is_true phis l is x t facts covers pass =
      let m : Flow (AbstractState V) = flow_of answers f l in
      entry_moment t
      (narrowed_pass_true f m (λ _. AreFacts ty proper f) (λ _. AreFacts ty proper f) (λ s env. IsTrueState holds f s env)
      (types_are_kept ty proper answers types f printable typed l) (keeps_truth holds ty proper answers types sound f once defined printable typed l)
      (goes_in_order answers f printable phis l is.is_order) x t (is_forward answers f l is.is_order) facts (covers_next m x covers) pass)

-- ---- a function has one table

same_bool_by : (a b : Bool) (A B : Type 0) → (A → B → ⊥) → MatchBool a A B → MatchBool b A B → a ≡ b
same_bool_by true true A B apart p q = refl
same_bool_by false false A B apart p q = refl
same_bool_by true false A B apart p q = absurd (apart p q)
same_bool_by false true A B apart p q = absurd (apart q p)

defined_and_missed : (f : Function) (b v : ℕ) → IsDefinedAt f b 0 v → IsMissedAt f b 0 v → ⊥
defined_and_missed f b v is missed = missed.missed (is missed.passed missed.walk)

pub same_scope : (f : Function) (l k : Layout) → IsLayout f l → IsLayout f k → l.order ≡ k.order → (b v : ℕ) → l.in_scope b v ≡ k.in_scope b v
same_scope f l k is is' same b v = of (is_in b (numbers l.order)) refl
  where
    of : (here : Bool) → is_in b (numbers l.order) ≡ here → l.in_scope b v ≡ k.in_scope b v
    of true h =
        same_bool_by (l.in_scope b v) (k.in_scope b v) (IsDefinedAt f b 0 v) (IsMissedAt f b 0 v) (defined_and_missed f b v) (is.scopes b v h)
        (is'.scopes b v (subst (λ order. is_in b (numbers order) ≡ true) same h))
    of false h = is.outside b v h ∙ sym (is'.outside b v (subst (λ order. is_in b (numbers order) ≡ false) same h))

same_layout : (f : Function) (l k : Layout) → l.order ≡ k.order → ((b v : ℕ) → l.in_scope b v ≡ k.in_scope b v) → l ≡ k
same_layout f l k order scopes = λ i. record { order = order i; in_scope = λ b v. scopes b v i }

same_blocks : (xs ys : List BlockId) → numbers xs ≡ numbers ys → xs ≡ ys
same_blocks [] [] e = refl
same_blocks [] (y ∷ ys) e = absurd cc
same_blocks (x ∷ xs) [] e = absurd cc
same_blocks (x ∷ xs) (y ∷ ys) e =
    let first : x.0 ≡ y.0 = cc in
    let rest : xs ≡ ys = same_blocks xs ys cc in
    ap₂ (λ (n : ℕ) (blocks : List BlockId). (let b : BlockId = record { 0 = n } in b) ∷ blocks) first rest

-- a function has one layout
pub one_layout : (f : Function) (l k : Layout) → IsLayout f l → IsLayout f k → l ≡ k
one_layout f l k is is' =
    let order : l.order ≡ k.order = same_blocks l.order k.order (same_visits is.is_order.visits is'.is_order.visits).1 in
    same_layout f l k order (same_scope f l k is is' order)

pub one_table_of : {V : Type 0} (answers : Answers V) (f : Function) (t u : States V) → IsTableOf answers f t → IsTableOf answers f u → (b : ℕ) → t b ≡ u b
one_table_of answers f t u is is' b =
    let same : is.layout ≡ is'.layout = one_layout f is.layout is'.layout is.is_layout is'.is_layout in
    one_table (flow_of answers f is'.layout) t u (subst (λ l. IsTable (flow_of answers f l) t) same is.is_table) is'.is_table b
