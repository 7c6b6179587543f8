-- The search over edges left of a function: what it marks is what is reached.
use Rattle.std.proofs.Common.{◌≡◌, ◌<◌, ◌≤◌, ◌↔◌, ℕ, zero, suc, Bool, true, false, Option, Some, None, List, [], ◌∷◌, length, map, refl, sym, ap, ◌∙◌, subst, arith}
use Rattle.std.specs.Prelude.{slice_get, slice_index_or}
use Rattle.std.specs.Option.{option_map}
use Rattle.std.proofs.lemmas.Option.{slice_get_within, slice_get-map, same_Some}
use Rattle.vfa_ir.specs.declared.operations.BlockId.{BlockId}
use Rattle.vfa_ir.specs.declared.functions.Block.{Block}
use Rattle.vfa_ir.specs.declared.functions.Function.{Function}
use Rattle.vfa_ir.specs.PhisFit.{targets}
use Rattle.vfa_ir.specs.Walks.{successors}
use Rattle.vfa_cfg.proofs.Members.{in_from_place}
use Rattle.vfa_check.specs.Within.{IsWithin}
use Rattle.vfa_rewrite.specs.declared.found.BlockFindings.{BlockFindings}
use Rattle.vfa_rewrite.specs.Findings.{Findings}
use Rattle.vfa_rewrite.specs.Found.{AreKeptOf}
use Rattle.vfa_rewrite.specs.Marks.{Reached, first, next}
use Rattle.vfa_rewrite.specs.Spread.{Spread, is_marked}
use Rattle.vfa_rewrite.proofs.SpreadLaws.{IsSpread, closed}

-- the marks of the edges of a block
abbrev pub left_of : List BlockFindings → ℕ → List Bool
left_of kept b = elim (slice_get kept b) [ None ↦ [] | Some block ↦ block.left.items ]

pub left_in : (kept : List BlockFindings) (b : ℕ) (block : BlockFindings) → slice_get kept b ≡ Some block → left_of kept b ≡ block.left.items
left_in kept b block e = ap (λ o. elim o [ None ↦ [] | Some x ↦ x.left.items ]) e

get_some : {A : Type 0} (xs : List A) (i : ℕ) → i < length xs → (x : A) × (slice_get xs i ≡ Some x)
get_some [] i h = absurd (omega (arith, h))
get_some (x ∷ xs) zero h = (x, refl)
get_some (x ∷ xs) (suc i) h = get_some xs i (omega (arith, h))

record IsTarget (block : Block) (k to : ℕ) : Type 0 where
  target : BlockId
  there : slice_get (targets block.term) k ≡ Some target
  is : target.0 ≡ to

target_of : (block : Block) (k to : ℕ) → slice_get (map (λ (t : BlockId). t.0) (targets block.term)) k ≡ Some to → IsTarget block k to
target_of block k to h = by (slice_get (targets block.term) k) refl (sym (slice_get-map (λ (t : BlockId). t.0) (targets block.term) k) ∙ h)
  where
    by : (o : Option BlockId) → slice_get (targets block.term) k ≡ o → option_map (λ (t : BlockId). t.0) o ≡ Some to → IsTarget block k to
    by None e g = absurd (cc)
    by (Some t) e g = record { target = t; there = e; is = same_Some t.0 to g }

pub targets_within : (f : Function) → IsWithin f → (b k to : ℕ) → slice_get (successors f b) k ≡ Some to → to < length f.blocks
targets_within f within b k to h = within.edges b to (in_from_place (successors f b) k to h)

module _ (f : Function) (within : IsWithin f) (kept : List BlockFindings) (count : length kept ≡ length f.blocks) (found : Findings) (are : AreKeptOf f found kept) where
  left_is : (b k : ℕ) → slice_index_or (left_of kept b) k false ≡ true → found.left b k ≡ true
  left_is b k h = by (slice_get kept b) refl h
    where
      by : (o : Option BlockFindings) → slice_get kept b ≡ o → slice_index_or (elim o [ None ↦ [] | Some block ↦ block.left.items ]) k false ≡ true → found.left b k ≡ true
      by None e g = absurd (cc)
      by (Some block) e g = sym ((are.each b block e).left k) ∙ g

  is_left : (b k : ℕ) → b < length f.blocks → found.left b k ≡ true → slice_index_or (left_of kept b) k false ≡ true
  is_left b k inside h =
      let there = get_some kept b (omega (arith, count, inside)) in
      ap (λ o. slice_index_or (elim o [ None ↦ [] | Some block ↦ block.left.items ]) k false) there.1 ∙ ((are.each b there.0 there.1).left k ∙ h)

  pub reaches_next : (b k to : ℕ) → Reached f found b → slice_get (successors f b) k ≡ Some to → slice_index_or (left_of kept b) k false ≡ true → Reached f found to
  reaches_next b k to r h l = by (slice_get f.blocks b) refl h
    where
      by : (o : Option Block) → slice_get f.blocks b ≡ o → slice_get (elim o [ None ↦ [] | Some block ↦ map (λ (t : BlockId). t.0) (targets block.term) ]) k ≡ Some to → Reached f found to
      by None e g = absurd (cc)
      by (Some block) e g =
          let t = target_of block k to g in
          subst (Reached f found) t.is (next b block k t.target r e t.there (left_is b k l))

  successor_is : (b k : ℕ) (block : Block) (to : BlockId) → slice_get f.blocks b ≡ Some block → slice_get (targets block.term) k ≡ Some to →
      slice_get (successors f b) k ≡ Some to.0
  successor_is b k block to there e =
      ap (λ o. slice_get (elim o [ None ↦ [] | Some x ↦ map (λ (t : BlockId). t.0) (targets x.term) ]) k) there
      ∙ (slice_get-map (λ (t : BlockId). t.0) (targets block.term) k ∙ ap (option_map (λ (t : BlockId). t.0)) e)

  module _ (s : Spread) (done : ℕ) (is : IsSpread (successors f) (left_of kept) (length f.blocks) (Reached f found) s done) (all : length s.order ≤ done) (entry : is_marked s 0 ≡ true) where
    all_marked : (b : ℕ) → Reached f found b → is_marked s b ≡ true
    all_marked b first = entry
    all_marked b (next p block k to r there e l) =
        closed (successors f) (left_of kept) (length f.blocks) (targets_within f within) (Reached f found) first reaches_next s done is all p k to.0 (all_marked p r)
        (successor_is p k block to there e) (is_left p k (slice_get_within f.blocks p block there) l)

    pub marks_are : (b : ℕ) → (is_marked s b ≡ true) ↔ Reached f found b
    marks_are b = (is.sound b, all_marked b)
