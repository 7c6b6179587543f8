-- The edges of a block by their numbers, and which of them a run may take.
use Rattle.std.proofs.Common.{◌≡◌, ◌<◌, ◌≤◌, ◌+◌, ◌-◌, ℕ, zero, suc, false, Option, Some, None, is_some, List, [], ◌∷◌, ◌++◌, length, map, refl, sym, ap, ◌∙◌, inl, inr, ◌⊎◌, arith}
use Rattle.std.specs.Prelude.{slice_get, slice_index_or, Bool}
use Rattle.std.specs.Option.{option_map}
use Rattle.std.proofs.lemmas.List.{length_push}
use Rattle.std.proofs.lemmas.Option.{slice_get_past, slice_get-map, same_Some}
use Rattle.vfa_ir.specs.declared.operations.BlockId.{BlockId}
use Rattle.vfa_ir.specs.declared.functions.Block.{Block}
use Rattle.vfa_ir.specs.declared.functions.Function.{Function}
use Rattle.vfa_ir.specs.PhisFit.{targets}
use Rattle.vfa_ir.specs.Walks.{successors}
use Rattle.vfa_cfg.specs.declared.listing.Way.{Way}
use Rattle.vfa_cfg.specs.Edges.{edge, case_edges, block_edges}
use Rattle.vfa_walk.specs.Leaving.{edges_out}
use Rattle.vfa_walk.proofs.Edges.{case_edge, edges_count}
use Rattle.vfa_rewrite.specs.ByFacts.{FactState, edge_state}

-- ---- the edge of a number

case_target : (default : BlockId) (cases : List (ℕ × BlockId)) (k : ℕ) (to : BlockId) → (k ≡ 0 → ⊥) →
    slice_get (default ∷ map (λ (c : ℕ × BlockId). c.1) cases) k ≡ Some to → option_map (λ (c : ℕ × BlockId). c.1) (slice_get cases (k - 1)) ≡ Some to
case_target default cases zero to some h = absurd (some refl)
case_target default cases (suc k) to some h =
    let back : suc k - 1 ≡ k = omega arith in
    ap (λ n. option_map (λ (c : ℕ × BlockId). c.1) (slice_get cases n)) back ∙ (sym (slice_get-map (λ (c : ℕ × BlockId). c.1) cases k) ∙ h)

pub switch_edge : (from : ℕ) (default : BlockId) (cases : List (ℕ × BlockId)) (k : ℕ) (to : BlockId) → (k ≡ 0 → ⊥) →
    slice_get (default ∷ map (λ (c : ℕ × BlockId). c.1) cases) k ≡ Some to →
    slice_get (edge from default Way.Other ∷ case_edges from 0 cases) k ≡ Some (edge from to (Way.Case (k - 1)))
switch_edge from default cases k to some h =
    case_edge from (edge from default Way.Other) cases k some ∙ by (slice_get cases (k - 1)) (case_target default cases k to some h)
  where
    by : (o : Option (ℕ × BlockId)) → option_map (λ (c : ℕ × BlockId). c.1) o ≡ Some to →
        option_map (λ (c : ℕ × BlockId). edge from c.1 (Way.Case (k - 1))) o ≡ Some (edge from to (Way.Case (k - 1)))
    by None h = absurd (cc)
    by (Some c) h = ap (λ t. Some (edge from t (Way.Case (k - 1)))) (same_Some c.1 to h)

-- ---- the edges of a block

pub mapped_get : (xs : List BlockId) (k : ℕ) (to : BlockId) → slice_get (map (λ (t : BlockId). t.0) xs) k ≡ Some to.0 → slice_get xs k ≡ Some to
mapped_get [] k to h = absurd (cc)
mapped_get (x ∷ xs) zero to h = let same : x.0 ≡ to.0 = same_Some x.0 to.0 h in ap (λ n. Some (record { 0 = n })) same
mapped_get (x ∷ xs) (suc k) to h = mapped_get xs k to h

mapped_none : (xs : List BlockId) (k : ℕ) → slice_get (map (λ (t : BlockId). t.0) xs) k ≡ None → length xs ≤ k
mapped_none [] k h = omega arith
mapped_none (x ∷ xs) zero h = absurd (cc)
mapped_none (x ∷ xs) (suc k) h = let rest = mapped_none xs k h in omega (arith, rest)

pub some_mapped : {A B : Type 0} (g : A → B) (o : Option A) → is_some o ≡ is_some (option_map g o)
some_mapped g None = refl
some_mapped g (Some x) = refl

-- the first k edges have their marks
pub record AreLeftBelow (f : Function) (b : ℕ) (s : FactState) (k : ℕ) (left : List Bool) : Type 0 where
  pub count : length left ≡ k
  pub made : (j : ℕ) → j < k → slice_index_or left j false ≡ is_some (edge_state f (Some s) (slice_get (edges_out f b) j))

pub no_edges : (f : Function) (b : ℕ) (s : FactState) → AreLeftBelow f b s 0 []
no_edges f b s = record { count = refl; made = λ j less. absurd (omega (arith, less)) }

index_in_front : (xs : List Bool) (y : Bool) (j : ℕ) → j < length xs → slice_index_or (xs ++ (y ∷ [])) j false ≡ slice_index_or xs j false
index_in_front [] y j less = absurd (omega (arith, less))
index_in_front (x ∷ xs) y zero less = refl
index_in_front (x ∷ xs) y (suc j) less = index_in_front xs y j (omega (arith, less))

index_at_end : (xs : List Bool) (y : Bool) (j : ℕ) → length xs ≡ j → slice_index_or (xs ++ (y ∷ [])) j false ≡ y
index_at_end [] y zero h = refl
index_at_end [] y (suc j) h = absurd (omega (arith, h))
index_at_end (x ∷ xs) y zero h = absurd (omega (arith, h))
index_at_end (x ∷ xs) y (suc j) h = index_at_end xs y j (omega (arith, h))

index_past : (xs : List Bool) (j : ℕ) → length xs ≤ j → slice_index_or xs j false ≡ false
index_past [] j h = refl
index_past (x ∷ xs) zero h = absurd (omega (arith, h))
index_past (x ∷ xs) (suc j) h = index_past xs j (omega (arith, h))

up_to : (j k : ℕ) → j < k + 1 → (j < k) ⊎ (j ≡ k)
up_to j zero h = inr (omega (arith, h))
up_to zero (suc k) h = inl (omega arith)
up_to (suc j) (suc k) h = elim (up_to j k (omega (arith, h))) [ inl less ↦ inl (omega (arith, less)) | inr same ↦ inr (ap suc same) ]

pub one_edge_more : (f : Function) (b : ℕ) (s : FactState) (k : ℕ) (left : List Bool) (mark : Bool) → AreLeftBelow f b s k left →
    mark ≡ is_some (edge_state f (Some s) (slice_get (edges_out f b) k)) → AreLeftBelow f b s (k + 1) (left ++ (mark ∷ []))
one_edge_more f b s k left mark so_far is = record {
  count = length_push left mark ∙ ap (λ n. n + 1) so_far.count;
  made = λ j less. elim (up_to j k less) [
    | inl before ↦ index_in_front left mark j (let n = so_far.count in omega (arith, n, before)) ∙ so_far.made j before
    | inr same ↦ index_at_end left mark j (so_far.count ∙ sym same) ∙ (is ∙ ap (λ n. is_some (edge_state f (Some s) (slice_get (edges_out f b) n))) (sym same))
  ];
}

module _ (f : Function) (b : ℕ) (block : Block) (there : slice_get f.blocks b ≡ Some block) where
  pub successors_are : successors f b ≡ map (λ (t : BlockId). t.0) (targets block.term)
  successors_are = ap (λ o. elim o [ None ↦ [] | Some x ↦ map (λ (t : BlockId). t.0) (targets x.term) ]) there

  pub out_are : edges_out f b ≡ block_edges b block.term
  out_are = ap (λ o. elim o [ None ↦ [] | Some x ↦ block_edges b x.term ]) there

  pub target_is : (k : ℕ) (to : BlockId) → Some to.0 ≡ slice_get (successors f b) k → slice_get (targets block.term) k ≡ Some to
  target_is k to h = mapped_get (targets block.term) k to (ap (λ list. slice_get list k) (sym successors_are) ∙ sym h)

  past_out : (k : ℕ) → length (targets block.term) ≤ k → slice_get (edges_out f b) k ≡ None
  past_out k past =
      ap (λ list. slice_get list k) out_are ∙ slice_get_past (block_edges b block.term) k (let n = edges_count b block.term in omega (arith, n, past))

  pub no_edge : (s : FactState) (k : ℕ) → None ≡ slice_get (successors f b) k → false ≡ is_some (edge_state f (Some s) (slice_get (edges_out f b) k))
  no_edge s k h =
      let none = ap (λ list. slice_get list k) (sym successors_are) ∙ sym h in
      ap (λ e. is_some (edge_state f (Some s) e)) (sym (past_out k (mapped_none (targets block.term) k none)))

  pub all_edges : (s : FactState) (k : ℕ) (left : List Bool) → AreLeftBelow f b s k left → length (targets block.term) ≤ k → (j : ℕ) →
      slice_index_or left j false ≡ is_some (edge_state f (Some s) (slice_get (edges_out f b) j))
  all_edges s k left so_far all j = elim (below_or_past j k) [
    | inl inside ↦ so_far.made j inside
    | inr past ↦
        index_past left j (let n = so_far.count in omega (arith, n, past))
        ∙ ap (λ e. is_some (edge_state f (Some s) e)) (sym (past_out j (omega (arith, all, past))))
  ]
    where
      below_or_past : (j k : ℕ) → (j < k) ⊎ (k ≤ j)
      below_or_past j zero = inr (omega arith)
      below_or_past zero (suc k) = inl (omega arith)
      below_or_past (suc j) (suc k) = elim (below_or_past j k) [ inl h ↦ inl (omega (arith, h)) | inr h ↦ inr (omega (arith, h)) ]
