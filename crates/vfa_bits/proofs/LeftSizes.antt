-- A narrowed function is no larger.
use Rattle.std.proofs.Common.{◌≡◌, ℕ, zero, suc, ◌+◌, ◌≤◌, ◌^◌, Bool, Option, Some, None, List, [], ◌∷◌, map, slice_get, length, refl, sym, ◌∙◌, ap, subst, arith}
use Rattle.std.specs.Prelude.{filter_map}
use Rattle.std.specs.List.{cons_option, range_with_len}
use Rattle.vfa_ir.specs.declared.operations.BlockId.{BlockId}
use Rattle.vfa_ir.specs.declared.functions.Block.{Block}
use Rattle.vfa_ir.specs.declared.functions.Function.{Function}
use Rattle.vfa_ir.specs.declared.functions.Term.{Term}
use Rattle.vfa_ir.specs.PhisFit.{targets}
use Rattle.vfa_ir.specs.Printable.{ids_of}
use Rattle.vfa_ir.specs.Walks.{successors}
use Rattle.vfa_cfg.specs.Sizes.{HasFewBlocks}
use Rattle.vfa_mean.specs.Numbering.{each_number, numbered, kept_values, text_order}
use Rattle.vfa_mean.specs.Renaming.{Order, renamed_block, renamed_case, renamed_term}
use Rattle.vfa_bits.specs.Narrowed.{Choices, new_blocks, rewritten, block_left, left}
use Rattle.vfa_bits.specs.Sizes.{IsNoLarger}
use Rattle.vfa_bits.proofs.Chains.{all_at}
use Rattle.vfa_bits.proofs.Kept.{IsSublist, end, skip, keep, all_kept, all_values, same_length, same_successors, results_left}
use Rattle.vfa_bits.proofs.LeftBlocks.{all_get}

length_filtered : {A B : Type 0} (h : A → Option B) (xs : List A) → length (filter_map h xs) ≤ length xs
length_filtered h [] = omega arith
length_filtered {A} {B} h (x ∷ xs) = by (h x) (length_filtered h xs)
  where
    by : (o : Option B) → length (filter_map h xs) ≤ length xs → length (cons_option o (filter_map h xs)) ≤ suc (length xs)
    by None l = omega arith
    by (Some y) l = omega arith

length_sublist : (xs ys : List ℕ) → IsSublist xs ys → length xs ≤ length ys
length_sublist xs ys end = omega arith
length_sublist xs ys (skip x cs ds s) = let l = length_sublist cs ds s in omega arith
length_sublist xs ys (keep x cs ds s) = let l = length_sublist cs ds s in omega arith

length_range : (a n : ℕ) → length (range_with_len a n) ≡ n
length_range a zero = refl
length_range a (suc n) = ap suc (length_range (a + 1) n)

length_mapped : {A B : Type 0} (h : A → B) (xs : List A) → length (map h xs) ≡ length xs
length_mapped h [] = refl
length_mapped h (x ∷ xs) = ap suc (length_mapped h xs)

targets_count : (o : Order) (term : Term) → length (targets (renamed_term o term)) ≡ length (targets term)
targets_count o (Term.Ret w a) = refl
targets_count o (Term.Br to) = refl
targets_count o (Term.CondBr c taken fallen) = refl
targets_count o (Term.Switch w on other cases) = ap suc (length_mapped (λ (c : ℕ × BlockId). c.1) (map (renamed_case o) cases) ∙ length_mapped (renamed_case o) cases ∙ sym (length_mapped (λ (c : ℕ × BlockId). c.1) cases))
targets_count o Term.Unreachable = refl

module _ (f : Function) (masks : ℕ → ℕ) (by : Choices) (used : ℕ → Bool) (ids : ids_of f ≡ range_with_len 0 (length f.values)) where
  abbrev order : Order
  order = text_order (left used (rewritten f masks by)) each_number

  values_count : length (numbered (left used (rewritten f masks by)) each_number).values ≤ length f.values
  values_count =
      let most = length_filtered (slice_get f.values) (kept_values (left used (rewritten f masks by)) each_number) in
      let same = ap length (all_values (left used (rewritten f masks by))) in
      let within = length_sublist (ids_of (left used (rewritten f masks by))) (ids_of f) (results_left f masks by used) in
      let count = ap length ids ∙ length_range 0 (length f.values) in
      omega (arith, most, same, within, count)

  blocks_are : (numbered (left used (rewritten f masks by)) each_number).blocks ≡ map (renamed_block (text_order (left used (rewritten f masks by)) each_number)) (map (block_left used) (new_blocks f masks by 0 f.blocks))
  blocks_are = ap (map (renamed_block (text_order (left used (rewritten f masks by)) each_number))) (all_kept (left used (rewritten f masks by)))

  blocks_count : length (numbered (left used (rewritten f masks by)) each_number).blocks ≡ length f.blocks
  blocks_count = ap length blocks_are ∙ length_mapped (renamed_block (text_order (left used (rewritten f masks by)) each_number)) (map (block_left used) (new_blocks f masks by 0 f.blocks)) ∙ same_length f masks by used

  abbrev successors_in : Option Block → List ℕ
  successors_in o = elim o [ None ↦ [] | Some block ↦ map (λ t. t.0) (targets block.term) ]

  abbrev edges_in : Option Block → ℕ
  edges_in o = length (successors_in o)

  renamed_at : (blocks : List Block) (b : ℕ) → edges_in (slice_get (map (renamed_block (text_order (left used (rewritten f masks by)) each_number)) blocks) b) ≡ edges_in (slice_get blocks b)
  renamed_at [] b = refl
  renamed_at (c ∷ blocks) zero =
      length_mapped (λ (t : BlockId). t.0) (targets (renamed_term (text_order (left used (rewritten f masks by)) each_number) c.term))
      ∙ targets_count (text_order (left used (rewritten f masks by)) each_number) c.term ∙ sym (length_mapped (λ (t : BlockId). t.0) (targets c.term))
  renamed_at (c ∷ blocks) (suc b) = renamed_at blocks b

  edges_count : (b : ℕ) → length (successors (numbered (left used (rewritten f masks by)) each_number) b) ≡ length (successors f b)
  edges_count b = ap (λ bs. edges_in (slice_get bs b)) blocks_are ∙ renamed_at (map (block_left used) (new_blocks f masks by 0 f.blocks)) b ∙ ap length (same_successors f masks by used b)

  pub no_larger : IsNoLarger f (numbered (left used (rewritten f masks by)) each_number)
  no_larger = record { values = values_count; blocks = blocks_count; edges = edges_count }

  pub few_blocks : HasFewBlocks f → HasFewBlocks (numbered (left used (rewritten f masks by)) each_number)
  few_blocks few = record {
    blocks = subst (λ n. n ≤ 2 ^ 28) (sym blocks_count) few.blocks;
    cases = all_get (λ (b : Block). length (targets b.term) ≤ 2 ^ 28 + 1) (numbered (left used (rewritten f masks by)) each_number).blocks (λ b block e.
        let count = ap edges_in (sym e) ∙ edges_count b in
        let here : length (map (λ (t : BlockId). t.0) (targets block.term)) ≡ length (targets block.term) = length_mapped (λ (t : BlockId). t.0) (targets block.term) in
        old b (slice_get f.blocks b) refl (length (targets block.term)) (sym here ∙ count));
  }
    where
      old : (b : ℕ) (o : Option Block) → slice_get f.blocks b ≡ o → (n : ℕ) → n ≡ edges_in (slice_get f.blocks b) → n ≤ 2 ^ 28 + 1
      old b None e n is = let none : n ≡ 0 = is ∙ ap edges_in e in omega (arith, none)
      old b (Some c) e n is =
          let some : edges_in (slice_get f.blocks b) ≡ length (targets c.term) = ap edges_in e ∙ length_mapped (λ (t : BlockId). t.0) (targets c.term) in
          let most = all_at (λ (d : Block). length (targets d.term) ≤ 2 ^ 28 + 1) f.blocks b c few.cases e in
          subst (λ m. m ≤ 2 ^ 28 + 1) (sym (is ∙ some)) most
