-- From each block to what each function that some text reads as keeps.
use Rattle.std.proofs.Common.{◌≡◌, ℕ, ◌+◌, ◌<◌, ◌≤◌, true, List, [], ◌∷◌, length, take, map, flat_map, get_or, All, refl, sym, ap, ◌∙◌, subst, inl, inr, Option, Some, None}
use Rattle.std.specs.List.{slice_get}
use Rattle.std.proofs.lemmas.List.Concat.{flat_map-cons}
use Rattle.std.proofs.lemmas.List.Elements.{All-nil, All-cons, All-map, All-more, All-head, All-tail, All-append, All-get_or}
use Rattle.std.proofs.lemmas.List.{get_or_default, take_all}
use Rattle.std.proofs.lemmas.Option.{slice_get_within, get_or_from_slice_get}
use Rattle.vfa_ir.specs.declared.functions.Block.{Block}
use Rattle.vfa_ir.specs.declared.functions.Function.{Function}
use Rattle.vfa_ir.specs.declared.functions.Inst.{Inst}
use Rattle.vfa_ir.specs.declared.functions.Param.{Param}
use Rattle.vfa_ir.specs.declared.functions.Phi.{Phi}
use Rattle.vfa_ir.specs.declared.functions.Value.{Value}
use Rattle.vfa_ir.specs.declared.operations.BlockId.{BlockId}
use Rattle.vfa_ir.specs.PhisFit.{targets}
use Rattle.vfa_ir.specs.Printable.{block_ids, inst_ids}
use Rattle.vfa_ir.specs.Walks.{is_in, successors, IsEdge}
use Rattle.vfa_cfg.proofs.Members.{first_or_rest}
use Rattle.vfa_check.specs.Within.{IsWithin}
use Rattle.vfa_check.proofs.Adding.{ids_more}

pub more_ids : (n : ℕ) (insts : List Inst) (k : ℕ) (d : Inst) → k < length insts → All (λ v. v < n) (inst_ids (take k insts)) →
    All (λ v. v < n) (inst_ids (get_or insts k d ∷ [])) → All (λ v. v < n) (inst_ids (take (k + 1) insts))
more_ids n insts k d within so_far here =
    let i = get_or insts k d in
    subst (All (λ v. v < n)) (sym (ids_more insts k i within (get_or_default insts k d i within)))
    (All-append (λ v. v < n) (inst_ids (take k insts)) (inst_ids (i ∷ [])) so_far here)

all_of_blocks : (P : ℕ → Type 0) (bs : List Block) → All (λ b. All P (block_ids b)) bs → All P (flat_map block_ids bs)
all_of_blocks P [] h = All-nil P
all_of_blocks P (b ∷ bs) h =
    let Q : Block → Type 0 = λ x. All P (block_ids x) in
    subst (All P) (sym (flat_map-cons block_ids b bs))
    (All-append P (block_ids b) (flat_map block_ids bs) (All-head Q b bs h) (all_of_blocks P bs (All-tail Q b bs h)))

below : (n to : ℕ) (ts : List BlockId) → All (λ t. t.0 < n) ts → is_in to (map (λ t. t.0) ts) ≡ true → to < n
below n to [] h e = absurd (cc)
below n to (t ∷ ts) h e = elim (first_or_rest to t.0 (map (λ t. t.0) ts) e) [
  | inl same ↦ subst (λ x. x < n) (sym same) (All-head (λ t. t.0 < n) t ts h)
  | inr later ↦ below n to ts (All-tail (λ t. t.0 < n) t ts h) later
]

of_targets : Option Block → List ℕ
of_targets None = []
of_targets (Some b) = map (λ t. t.0) (targets b.term)

below_targets : (n to : ℕ) (o : Option Block) → ((b : Block) → o ≡ Some b → All (λ t. t.0 < n) (targets b.term)) → is_in to (of_targets o) ≡ true → to < n
unfolding of_targets
below_targets n to None h e = absurd (cc)
below_targets n to (Some b) h e = below n to (targets b.term) (h b refl) e

edges_within : (f : Function) (n : ℕ) → All (λ b. All (λ t. t.0 < n) (targets b.term)) f.blocks → (from to : ℕ) → IsEdge f from to → to < n
unfolding of_targets
edges_within f n h from to e =
    let Q : Block → Type 0 = λ b. All (λ t. t.0 < n) (targets b.term) in
    let same : successors f from ≡ of_targets (slice_get f.blocks from) =
    elim (slice_get f.blocks from) as (λ o. (elim o [ None ↦ [] | Some b ↦ map (λ t. t.0) (targets b.term) ]) ≡ of_targets o) [ None ↦ refl | Some b ↦ refl ] in
    below_targets n to (slice_get f.blocks from) (λ b at.
    subst Q (get_or_from_slice_get f.blocks from b b at) (All-get_or Q f.blocks from b (slice_get_within f.blocks from b at) h))
    (sym (ap (is_in to) same) ∙ e)

pub made_within : (f : Function) → 0 < length f.blocks → All (λ v. v < length f.values) (map (λ p. p.value.0) f.params) →
    All (λ b. All (λ v. v < length f.values) (block_ids b)) f.blocks → All (λ b. All (λ t. t.0 < length f.blocks) (targets b.term)) f.blocks → IsWithin f
made_within f some params blocks leads = record {
  entry = some;
  edges = edges_within f (length f.blocks) leads;
  names = All-append (λ v. v < length f.values) (map (λ p. p.value.0) f.params) (flat_map block_ids f.blocks) params
      (all_of_blocks (λ v. v < length f.values) f.blocks blocks);
}

pub all_ids : (n : ℕ) (insts : List Inst) (k : ℕ) → length insts ≤ k → All (λ v. v < n) (inst_ids (take k insts)) → All (λ v. v < n) (inst_ids insts)
all_ids n insts k h a = subst (λ is. All (λ v. v < n) (inst_ids is)) (take_all k insts h) a

pub switch_below : (n : ℕ) (other : BlockId) (cases read : List (ℕ × BlockId)) → other.0 < n → read ≡ cases → All (λ c. c.1.0 < n) read →
    All (λ t. t.0 < n) (other ∷ map (λ c. c.1) cases)
switch_below n other cases read h same a =
    All-cons (λ t. t.0 < n) other (map (λ c. c.1) cases) h
    (All-map (λ t. t.0 < n) (λ c. c.1) cases (subst (All (λ c. c.1.0 < n)) same a))

pub block_ids_below : (n : ℕ) (block : Block) (phis : List Phi) (insts : List Inst) → phis ≡ block.phis → insts ≡ block.insts →
    All (λ p. p.result.0 < n) phis → All (λ v. v < n) (inst_ids insts) → All (λ v. v < n) (block_ids block)
block_ids_below n block phis insts same_phis same_insts a b =
    All-append (λ v. v < n) (map (λ p. p.result.0) block.phis) (inst_ids block.insts)
    (All-map (λ v. v < n) (λ p. p.result.0) block.phis (subst (All (λ p. p.result.0 < n)) same_phis a))
    (subst (λ is. All (λ v. v < n) (inst_ids is)) same_insts b)

pub all_more : (P : Block → Type 0) (bs : List Block) (k : ℕ) (b : Block) → k < length bs → b ≡ get_or bs k b → All P (take k bs) → P b →
    All P (take (k + 1) bs)
all_more P bs k b within is so_far here = All-more P bs k b within so_far (subst P is here)

pub all_whole : (P : Block → Type 0) (bs : List Block) (k : ℕ) → length bs ≤ k → All P (take k bs) → All P bs
all_whole P bs k h a = subst (All P) (take_all k bs h) a

pub read_within : (f : Function) (values : List Value) (blocks : List Block) (params : List Param) (count : ℕ) → values ≡ f.values → blocks ≡ f.blocks →
    params ≡ f.params → count ≡ length f.blocks → 0 < length f.blocks → All (λ p. p.value.0 < length values) params →
    All (λ b. All (λ v. v < length values) (block_ids b)) blocks → All (λ b. All (λ t. t.0 < count) (targets b.term)) blocks → IsWithin f
read_within f values blocks params count same_values same_blocks same_params same_count some ps ids leads =
    let here : All (λ p. p.value.0 < length f.values) f.params =
    subst (λ n. All (λ p. p.value.0 < n) f.params) (ap length same_values) (subst (All (λ p. p.value.0 < length values)) same_params ps) in
    made_within f some (All-map (λ v. v < length f.values) (λ p. p.value.0) f.params here)
    (subst (λ n. All (λ b. All (λ v. v < n) (block_ids b)) f.blocks) (ap length same_values)
    (subst (All (λ b. All (λ v. v < length values) (block_ids b))) same_blocks ids))
    (subst (λ n. All (λ b. All (λ t. t.0 < n) (targets b.term)) f.blocks) same_count
    (subst (All (λ b. All (λ t. t.0 < count) (targets b.term))) same_blocks leads))
