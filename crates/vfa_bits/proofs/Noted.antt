-- Tables of the operands that names are replaced by, filled from the last line to the first.
use Rattle.std.proofs.Common.{◌≡◌, ℕ, suc, ◌+◌, ◌<◌, ◌≤◌, Bool, true, false, cond, Option, Some, None, List, [], ◌∷◌, ◌++◌, drop, flat_map, get_or, replicate, length, refl, sym, ap, ◌∙◌, subst, inl, inr, ◌⊎◌, arith}
use Rattle.std.specs.Prelude.{slice_index_or}
use Rattle.std.proofs.Math.Seq.{drop-cons}
use Rattle.std.proofs.lemmas.Bool.{cases_lt}
use Rattle.std.proofs.lemmas.List.{get_or_past, get_or-replicate, length-replicate}
use Rattle.vfa_ir.specs.declared.operations.Op.{Op}
use Rattle.vfa_ir.specs.declared.operations.Operand.{Operand}
use Rattle.vfa_ir.specs.declared.functions.Block.{Block}
use Rattle.vfa_ir.specs.declared.functions.Function.{Function}
use Rattle.vfa_ir.specs.declared.functions.Inst.{Inst}
use Rattle.vfa_check.specs.Within.{IsWithin}
use Rattle.vfa_bits.specs.Noting.{AreNoted, noted}
use Rattle.vfa_bits.specs.Standing.{is_result, operation_among, replacement, same_bits_operand}
use Rattle.vfa_bits.specs.Tables.{AreReplacements}
use Rattle.vfa_bits.proofs.ResultsBelow.{replaced_below}

module _ (masks : ℕ → ℕ) where
  noted_append : (xs ys : List Inst) (v : ℕ) (before : Option Operand) →
      noted masks xs v (noted masks ys v before) ≡ noted masks (xs ++ ys) v before
  noted_append [] ys v before = refl
  noted_append (i ∷ xs) ys v before = by (is_result v i.result) (noted_append xs ys v before)
    where
      found : Option Op → Option Operand → Option Operand
      found o old = elim o [ None ↦ old | Some op ↦ same_bits_operand op (masks v) ]

      by : (t : Bool) → noted masks xs v (noted masks ys v before) ≡ noted masks (xs ++ ys) v before →
          found (cond t (Some i.op) (operation_among v xs)) (noted masks ys v before) ≡ found (cond t (Some i.op) (operation_among v (xs ++ ys))) before
      by true again = refl
      by false again = again

  -- lines, and those that stand before them
  pub noted_then : (xs ys : List Inst) (a b c : List (Option Operand)) → AreNoted masks ys a b → AreNoted masks xs b c → AreNoted masks (xs ++ ys) a c
  noted_then xs ys a b c one two = record {
    whole = two.whole ∙ one.whole;
    each = λ v l. two.each v (subst (λ k. v < k) (sym one.whole) l) ∙ ap (noted masks xs v) (one.each v l) ∙ noted_append xs ys v (slice_index_or a v None);
  }

  -- ---- one line more, and one block more, at the front

  pub lines_noted : (insts : List Inst) (i n : ℕ) (d : Inst) (a b c : List (Option Operand)) → n ≡ i + 1 → n ≤ length insts →
      AreNoted masks (drop n insts) a b → AreNoted masks (get_or insts i d ∷ []) b c → AreNoted masks (drop i insts) a c
  lines_noted insts i n d a b c next within one two =
      let step : n ≡ suc i = omega (arith, next) in
      subst (λ xs. AreNoted masks xs a c) (sym (drop-cons insts i d (omega (arith, next, within))))
      (noted_then (get_or insts i d ∷ []) (drop (suc i) insts) a b c (subst (λ k. AreNoted masks (drop k insts) a b) step one) two)

  pub blocks_noted : (blocks : List Block) (i n : ℕ) (x : Block) (insts : List Inst) (a b c : List (Option Operand)) → n ≡ i + 1 → n ≤ length blocks →
      x ≡ get_or blocks i x → insts ≡ x.insts → AreNoted masks (flat_map (λ (y : Block). y.insts) (drop n blocks)) a b → AreNoted masks insts b c →
      AreNoted masks (flat_map (λ (y : Block). y.insts) (drop i blocks)) a c
  blocks_noted blocks i n x insts a b c next within is same one two =
      let step : n ≡ suc i = omega (arith, next) in
      subst (λ bs. AreNoted masks (flat_map (λ (y : Block). y.insts) bs) a c) (sym (drop-cons blocks i x (omega (arith, next, within))))
      (noted_then (get_or blocks i x).insts (flat_map (λ (y : Block). y.insts) (drop (suc i) blocks)) a b c
      (subst (λ k. AreNoted masks (flat_map (λ (y : Block). y.insts) (drop k blocks)) a b) step one)
      (subst (λ xs. AreNoted masks xs b c) (same ∙ ap (λ (y : Block). y.insts) is) two))

-- ---- the whole table

module _ (f : Function) (masks : ℕ → ℕ) where
  pub table_is : (table : List (Option Operand)) → IsWithin f →
      AreNoted masks (flat_map (λ (b : Block). b.insts) f.blocks) (replicate (length f.values) None) table → AreReplacements f masks table
  table_is table within are = record {
    whole = are.whole ∙ length-replicate (length f.values) None;
    each = λ v. by v (cases_lt v (length f.values));
  }
    where
      none_there : (v : ℕ) → length f.values ≤ v → (o : Option Operand) → replacement f v (masks v) ≡ o → None ≡ o
      none_there v past None is = refl
      none_there v past (Some x) is = absurd (let l = replaced_below f within v (masks v) x is in omega (arith, l, past))

      by : (v : ℕ) → (v < length f.values) ⊎ (length f.values ≤ v) → slice_index_or table v None ≡ replacement f v (masks v)
      by v (inl l) =
          are.each v (subst (λ k. v < k) (sym (length-replicate (length f.values) None)) l)
          ∙ ap (noted masks (flat_map (λ (b : Block). b.insts) f.blocks) v) (get_or-replicate (length f.values) v None None l)
      by v (inr past) =
          get_or_past table v None (let whole = are.whole ∙ length-replicate (length f.values) None in omega (arith, whole, past))
          ∙ none_there v past (replacement f v (masks v)) refl
