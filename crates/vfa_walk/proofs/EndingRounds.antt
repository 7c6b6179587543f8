-- The rounds of a function: in each the heads keep their states, or less is left.
use Rattle.std.proofs.Common.{◌≡◌, ◌<◌, ◌+◌, ◌*◌, ◌-◌, ◌||◌, ◌⊎◌, ℕ, zero, suc, Bool, true, false, min, if◌then◌else◌, Option, Some, None, MatchBool, List, [], ◌∷◌, ◌++◌, map, take, length, slice_get, All, refl, sym, ◌∙◌, ap, subst, arith, inl, inr}
use Rattle.std.specs.List.{list_any, flat_map}
use Rattle.std.proofs.lemmas.List.Elements.{All-head, All-tail}
use Rattle.std.proofs.lemmas.Option.{same_Some}
use Rattle.vfa_ir.specs.declared.operations.Ty.{Ty}
use Rattle.vfa_ir.specs.declared.functions.Block.{Block}
use Rattle.vfa_ir.specs.declared.functions.Function.{Function}
use Rattle.vfa_ir.specs.declared.functions.Inst.{Inst}
use Rattle.vfa_ir.specs.PhisFit.{PhisFit}
use Rattle.vfa_ir.specs.Printable.{IsPrintable, ids_of, block_ids, inst_ids}
use Rattle.vfa_ir.specs.Typed.{Typed}
use Rattle.vfa_ir.specs.Walks.{is_in, is_parameter, IsEdge, IsDefinedAt, IsMissedAt, defined_over, results_before, results_in}
use Rattle.vfa_cfg.specs.Heads.{is_head}
use Rattle.vfa_cfg.specs.Order.{numbers}
use Rattle.vfa_cfg.specs.Ordered.{IsOrdered}
use Rattle.vfa_cfg.proofs.InOrder.{is_ordered}
use Rattle.vfa_cfg.proofs.Members.{or_cases, first_or_rest, in_left, in_right}
use Rattle.vfa_mean.proofs.FreshOperands.Definitions.{in_cases}
use Rattle.vfa_values.specs.Answers.{Answers}
use Rattle.vfa_values.specs.Conditions.{IsOf}
use Rattle.vfa_values.specs.Laws.{AreTyped, AreSteady, first_falling_round}
use Rattle.vfa_walk.specs.Flow.{Flow}
use Rattle.vfa_walk.specs.Passes.{merged, met, pass_table, pass_next}
use Rattle.vfa_walk.specs.Rounds.{after_rounds, IsStill}
use Rattle.vfa_walk.specs.Analysis.{Layout, IsLayout, last_round, flow_of}
use Rattle.vfa_walk.specs.Tables.{States}
use Rattle.vfa_walk.proofs.Ending.{heaviest, weight, rounds_left, AreEntries, round_falls}
use Rattle.vfa_walk.proofs.TruthFlow.{head_is_in}
use Rattle.vfa_walk.proofs.TruthKept.{rounds_are_good, next_is_good}
use Rattle.vfa_walk.proofs.TruthShape.{shapes_are_kept}

-- ---- names in scope are names of the function

member_is : (P : ℕ → Type 0) (xs : List ℕ) (v : ℕ) → All P xs → is_in v xs ≡ true → P v
member_is P [] v all here = absurd cc
member_is P (x ∷ xs) v all here = elim (first_or_rest v x xs here) [
  | inl same ↦ subst P (sym same) (All-head P x xs all)
  | inr later ↦ member_is P xs v (All-tail P x xs all) later
]

in_block : (blocks : List Block) (b : ℕ) (block : Block) (v : ℕ) → slice_get blocks b ≡ Some block → is_in v (block_ids block) ≡ true → is_in v (flat_map block_ids blocks) ≡ true
in_block [] b block v there here = absurd cc
in_block (c ∷ rest) zero block v there here =
    in_left v (block_ids c) (flat_map block_ids rest) (subst (λ (x : Block). is_in v (block_ids x) ≡ true) (sym (same_Some c block there)) here)
in_block (c ∷ rest) (suc b) block v there here = in_right v (block_ids c) (flat_map block_ids rest) (in_block rest b block v there here)

result_is_id : (f : Function) (b v : ℕ) → is_in v (results_in f b) ≡ true → is_in v (ids_of f) ≡ true
result_is_id f b v here = in_right v (map (λ p. p.value.0) f.params) (flat_map block_ids f.blocks) (of (slice_get f.blocks b) refl here)
  where
    of : (o : Option Block) → slice_get f.blocks b ≡ o → is_in v (elim o [ None ↦ [] | Some block ↦ block_ids block ]) ≡ true → is_in v (flat_map block_ids f.blocks) ≡ true
    of None there here = absurd cc
    of (Some block) there here = in_block f.blocks b block v there here

any_is_id : (f : Function) (passed : List ℕ) (v : ℕ) → list_any (λ b. is_in v (results_in f b)) passed ≡ true → is_in v (ids_of f) ≡ true
any_is_id f [] v here = absurd cc
any_is_id f (b ∷ rest) v here = elim (or_cases (is_in v (results_in f b)) (list_any (λ b. is_in v (results_in f b)) rest) here) [
  | inl own ↦ result_is_id f b v own
  | inr later ↦ any_is_id f rest v later
]

before_is_id : (f : Function) (b v : ℕ) → is_in v (results_before f b 0) ≡ true → is_in v (ids_of f) ≡ true
before_is_id f b v here = result_is_id f b v (of (slice_get f.blocks b) here)
  where
    of : (o : Option Block) → is_in v (elim o [ None ↦ [] | Some block ↦ map (λ p. p.result.0) block.phis ++ inst_ids (take 0 block.insts) ]) ≡ true → is_in v (elim o [ None ↦ [] | Some block ↦ block_ids block ]) ≡ true
    of None here = here
    of (Some block) here = elim (in_cases v (map (λ p. p.result.0) block.phis) (inst_ids (take 0 block.insts)) here) [
      | inl phi ↦ in_left v (map (λ p. p.result.0) block.phis) (inst_ids block.insts) phi
      | inr line ↦ absurd (nothing block.insts line)
    ]
      where
        nothing : (insts : List Inst) → is_in v (inst_ids (take 0 insts)) ≡ true → ⊥
        nothing [] h = cc
        nothing (i ∷ rest) h = cc

defined_is_id : (f : Function) (passed : List ℕ) (b v : ℕ) → (defined_over f passed v || is_in v (results_before f b 0)) ≡ true → is_in v (ids_of f) ≡ true
defined_is_id f passed b v here = elim (or_cases (defined_over f passed v) (is_in v (results_before f b 0)) here) [
  | inr phi ↦ before_is_id f b v phi
  | inl over ↦ elim (or_cases (is_parameter f v) (list_any (λ b. is_in v (results_in f b)) passed) over) [
    | inl parameter ↦ in_left v (map (λ p. p.value.0) f.params) (flat_map block_ids f.blocks) parameter
    | inr earlier ↦ any_is_id f passed v earlier
  ]
]

pub scope_is_below : (f : Function) (l : Layout) → IsLayout f l → All (λ v. v < length f.values) (ids_of f) → (b v : ℕ) → l.in_scope b v ≡ true → v < length f.values
scope_is_below f l is ids b v scope = of (is_in b (numbers l.order)) refl
  where
    live : (c : Bool) → c ≡ true → MatchBool c (IsDefinedAt f b 0 v) (IsMissedAt f b 0 v) → IsDefinedAt f b 0 v
    live true e m = m
    live false e m = absurd cc

    of : (here : Bool) → is_in b (numbers l.order) ≡ here → v < length f.values
    of true h =
        let order : IsOrdered f l.order = is_ordered f l.order is.is_order in
        let reached = ((order.reached b).0 h).1 in
        member_is (λ v. v < length f.values) (ids_of f) v ids (defined_is_id f reached.passed b v (live (l.in_scope b v) scope (is.scopes b v h) reached.passed reached.walk))
    of false h = absurd (let out = is.outside b v h in cc)

-- ---- blocks that are no heads have no states in rounds

pub no_head_no_state : {S : Type 0} (m : Flow S) (n b : ℕ) → m.is_head b ≡ false → after_rounds m n b ≡ None
no_head_no_state m zero b plain = refl
no_head_no_state m (suc n) b plain = both (after_rounds m n b) (pass_next m (after_rounds m n) b) (no_head_no_state m n b plain) (nothing (m.is_head b) plain)
  where
    nothing : (head : Bool) → head ≡ false → (if head then met m (pass_table m (after_rounds m n)) b else None) ≡ None
    nothing true e = absurd cc
    nothing false e = refl

    both : (x y : Option _) → x ≡ None → y ≡ None → merged (m.widen (suc n)) x y ≡ None
    both None None e e' = refl
    both (Some s) y e e' = absurd cc
    both None (Some t) e e' = absurd cc

-- where the heads of the order keep their states, the round changes nothing
pub still_on_order : {V : Type 0} (answers : Answers V) (f : Function) (l : Layout) (n : ℕ) →
    ((b : ℕ) → is_in b (numbers l.order) ≡ true → after_rounds (flow_of answers f l) (suc n) b ≡ after_rounds (flow_of answers f l) n b) → IsStill (flow_of answers f l) n
still_on_order answers f l n same b = of (is_head f l.order b) refl
  where
    of : (head : Bool) → is_head f l.order b ≡ head → after_rounds (flow_of answers f l) (suc n) b ≡ after_rounds (flow_of answers f l) n b
    of true e = same b (head_is_in f l.order b e)
    of false e = no_head_no_state (flow_of answers f l) (suc n) b e ∙ sym (no_head_no_state (flow_of answers f l) n b e)

-- the number of a round may be cut at the last one of which the widening takes note
pub left_at_last : {V : Type 0} (answers : Answers V) (names : ℕ) (blocks : List ℕ) (round : ℕ) (x : States V) → rounds_left answers names blocks (min round last_round) x ≡ rounds_left answers names blocks round x
unfolding rounds_left
left_at_last answers names blocks round x =
    let same : first_falling_round - min round last_round ≡ first_falling_round - round = omega arith in
    ap (λ k. k * suc (length blocks * heaviest names) + weight answers names x blocks) same

module _ {V : Type 0} (ty : V → Ty) (proper : V → Type 0) (answers : Answers V) (types : AreTyped (IsOf ty proper) answers) (steady : AreSteady (IsOf ty proper) answers) (f : Function)
    (printable : IsPrintable f) (typed : Typed f) (phis : PhisFit f) (within : (from to : ℕ) → IsEdge f from to → to < length f.blocks) (ids : All (λ v. v < length f.values) (ids_of f)) (l : Layout) (is : IsLayout f l) where
  pub rounds_are_entries : (n : ℕ) → AreEntries ty proper answers types steady f l (length f.values) (scope_is_below f l is ids) (after_rounds (flow_of answers f l) n)
  rounds_are_entries n b s e = (rounds_are_good (flow_of answers f l) _ _ (shapes_are_kept ty proper answers types f printable typed phis within l is) n b s e).state

  pub next_are_entries : (n : ℕ) → AreEntries ty proper answers types steady f l (length f.values) (scope_is_below f l is ids) (pass_next (flow_of answers f l) (after_rounds (flow_of answers f l) n))
  next_are_entries n b s e =
      (next_is_good (flow_of answers f l) _ _ (shapes_are_kept ty proper answers types f printable typed phis within l is) (after_rounds (flow_of answers f l) n)
      (rounds_are_good (flow_of answers f l) _ _ (shapes_are_kept ty proper answers types f printable typed phis within l is) n) b s e).state

  -- the round after this many changes nothing, or less is left after it
  pub still_or_less : (n : ℕ) → IsStill (flow_of answers f l) n ⊎
      (rounds_left answers (length f.values) (numbers l.order) (suc (suc n)) (after_rounds (flow_of answers f l) (suc n)) < rounds_left answers (length f.values) (numbers l.order) (suc n) (after_rounds (flow_of answers f l) n))
  still_or_less n = elim (round_falls ty proper answers types steady f l (length f.values) (scope_is_below f l is ids) (suc n) (suc (suc n)) (after_rounds (flow_of answers f l) n) (pass_next (flow_of answers f l) (after_rounds (flow_of answers f l) n)) (omega arith) (omega arith) (rounds_are_entries n) (next_are_entries n) (numbers l.order)) [
    | inl same ↦ inl (still_on_order answers f l n same)
    | inr less ↦ inr less
  ]

  ends_within : (fuel n : ℕ) → rounds_left answers (length f.values) (numbers l.order) (suc n) (after_rounds (flow_of answers f l) n) < fuel → (k : ℕ) × IsStill (flow_of answers f l) k
  ends_within zero n less = absurd (omega arith)
  ends_within (suc fuel) n less = elim (still_or_less n) [
    | inl still ↦ (n, still)
    | inr falls ↦ ends_within fuel (suc n) (omega (arith, less, falls))
  ]

  -- some round changes nothing
  pub rounds_end : (k : ℕ) × IsStill (flow_of answers f l) k
  rounds_end = ends_within (suc (rounds_left answers (length f.values) (numbers l.order) 1 (after_rounds (flow_of answers f l) 0))) 0 (omega arith)
