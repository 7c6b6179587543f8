-- The names that are operands somewhere are those in the list of all names used.
use Rattle.std.proofs.Common.{◌≡◌, ◌<◌, ◌≤◌, ◌+◌, ℕ, Bool, true, false, ◌||◌, nat_eq, Some, List, [], ◌∷◌, ◌++◌, drop, flat_map, get_or, length, refl, sym, ap, ◌∙◌, add-one, drop-cons}
use Rattle.std.specs.List.{list_any}
use Rattle.std.proofs.lemmas.List.Folds.{list_any-append}
use Rattle.vfa_ir.specs.declared.operations.BlockId.{BlockId}
use Rattle.vfa_ir.specs.declared.operations.Operand.{Operand}
use Rattle.vfa_ir.specs.declared.operations.ValueId.{ValueId}
use Rattle.vfa_ir.specs.declared.functions.Block.{Block}
use Rattle.vfa_ir.specs.declared.functions.Function.{Function}
use Rattle.vfa_ir.specs.declared.functions.Inst.{Inst}
use Rattle.vfa_ir.specs.declared.functions.Phi.{Phi}
use Rattle.vfa_ir.specs.Defined.{op_names, operand_names, term_names}
use Rattle.vfa_ir.specs.Words.{is_in}
use Rattle.vfa_mean.specs.Numbering.{names_used}
use Rattle.vfa_demand.specs.Behind.{phi_names}
use Rattle.vfa_rules.specs.BlockUses.{phi_has, inst_has, block_has}
use Rattle.vfa_rules.specs.Uses.{is_used}
use Rattle.vfa_rules.proofs.NameUses.{in_blocks}

any_joined : {A : Type 0} (p : A → Bool) (h : A → List ℕ) (v : ℕ) → ((x : A) → p x ≡ is_in v (h x)) → (xs : List A) → list_any p xs ≡ is_in v (flat_map h xs)
any_joined p h v each [] = refl
any_joined p h v each (x ∷ xs) = (λ i. each x i || any_joined p h v each xs i) ∙ sym (list_any-append (nat_eq v) (h x) (flat_map h xs))

module _ (f : Function) (v : ℕ) where
  in_phi : (p : Phi) → phi_has v p ≡ is_in v (phi_names p)
  in_phi p = any_joined (λ (e : Operand × BlockId). is_in v (operand_names e.0)) (λ (e : Operand × BlockId). operand_names e.0) v (λ e. refl) p.entries

  in_block : (b : Block) → block_has f v b ≡ is_in v (names_used f b)
  in_block b =
      (λ i. any_joined (phi_has v) phi_names v in_phi b.phis i
      || ((λ j. any_joined (inst_has f v) (λ (i : Inst). op_names f i.op) v (λ i. refl) b.insts j || is_in v (term_names b.term))
      ∙ sym (list_any-append (nat_eq v) (flat_map (λ (i : Inst). op_names f i.op) b.insts) (term_names b.term))) i)
      ∙ sym (list_any-append (nat_eq v) (flat_map phi_names b.phis) (flat_map (λ (i : Inst). op_names f i.op) b.insts ++ term_names b.term))

pub used_is : (f : Function) (name : ValueId) → is_used f (Some name) ≡ is_in name.0 (flat_map (names_used f) f.blocks)
used_is f name = in_blocks f name.0 0 f.blocks ∙ any_joined (block_has f name.0) (names_used f) name.0 (in_block f name.0) f.blocks

-- ---- marks, one name after another

moved : (x rest old : Bool) → (rest || ((x || false) || old)) ≡ ((x || rest) || old)
moved true true old = refl
moved true false old = refl
moved false true old = refl
moved false false old = refl

pub marked_more : (names : List ℕ) (i d n : ℕ) (old new all : Bool) → i < length names → (is_in n (drop i names) || old) ≡ all →
    new ≡ (is_in n (get_or names i d ∷ []) || old) → (is_in n (drop (i + 1) names) || new) ≡ all
marked_more names i d n old new all less so_far step =
    ap (λ t. is_in n (drop (i + 1) names) || t) step
    ∙ (moved (nat_eq n (get_or names i d)) (is_in n (drop (i + 1) names)) old
    ∙ (ap (λ (rest : List ℕ). is_in n rest || old) (sym (drop-cons names i d less ∙ ap (λ k. get_or names i d ∷ drop k names) (sym (add-one i)))) ∙ so_far))
