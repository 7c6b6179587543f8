-- The uses of a name, block by block.
use Rattle.std.proofs.Common.{◌≡◌, ℕ, ◌+◌, Bool, true, false, ◌||◌, refl, sym, ◌∙◌, ap, arith, Option, Some, None, List, [], ◌∷◌, ◌++◌}
use Rattle.std.specs.Prelude.{nat_eq, map, flat_map, length, slice_get}
use Rattle.std.specs.List.{list_any}
use Rattle.std.proofs.lemmas.Bool.Decides.{nat_tests}
use Rattle.std.proofs.lemmas.List.Folds.{list_any-append}
use Rattle.vfa_ir.specs.declared.functions.Block.{Block}
use Rattle.vfa_ir.specs.declared.functions.CallArg.{CallArg}
use Rattle.vfa_ir.specs.declared.functions.CallOp.{CallOp}
use Rattle.vfa_ir.specs.declared.functions.Function.{Function}
use Rattle.vfa_ir.specs.declared.functions.Inst.{Inst}
use Rattle.vfa_ir.specs.declared.functions.Phi.{Phi}
use Rattle.vfa_ir.specs.declared.operations.BlockId.{BlockId}
use Rattle.vfa_ir.specs.declared.operations.Op.{Op}
use Rattle.vfa_ir.specs.declared.operations.Operand.{Operand}
use Rattle.vfa_ir.specs.Defined.{NameUse, uses_at, phi_uses, inst_uses, block_uses, uses_from, op_names, operand_names, term_names, line_count}
use Rattle.vfa_ir.specs.Words.{is_in}
use Rattle.vfa_rules.specs.BlockUses.{phi_has, inst_has, block_has}

module _ (f : Function) (v : ℕ) where
  abbrev of_name : NameUse → Bool
  of_name u = nat_eq u.name v

  turned : (a b : ℕ) → nat_eq a b ≡ nat_eq b a
  turned a b = grind (arith, nat_tests)

  at_names : (b n : ℕ) (names : List ℕ) → list_any of_name (uses_at b n names) ≡ is_in v names
  at_names b n [] = refl
  at_names b n (x ∷ rest) = λ i. turned x v i || at_names b n rest i

  in_entries : (es : List (Operand × BlockId)) →
      list_any of_name (flat_map (λ (e : Operand × BlockId). uses_at e.1.0 (line_count f e.1.0) (operand_names e.0)) es) ≡ list_any (λ (e : Operand × BlockId). is_in v (operand_names e.0)) es
  in_entries [] = refl
  in_entries (e ∷ rest) =
      list_any-append of_name (uses_at e.1.0 (line_count f e.1.0) (operand_names e.0)) _
      ∙ (λ i. at_names e.1.0 (line_count f e.1.0) (operand_names e.0) i || in_entries rest i)

  in_phis : (ps : List Phi) → list_any of_name (flat_map (phi_uses f) ps) ≡ list_any (phi_has v) ps
  in_phis [] = refl
  in_phis (p ∷ rest) = list_any-append of_name (phi_uses f p) _ ∙ (λ i. in_entries p.entries i || in_phis rest i)

  in_insts : (b n : ℕ) (is : List Inst) → list_any of_name (inst_uses f b n is) ≡ list_any (inst_has f v) is
  in_insts b n [] = refl
  in_insts b n (i ∷ rest) = list_any-append of_name (uses_at b n (op_names f i.op)) _ ∙ (λ j. at_names b n (op_names f i.op) j || in_insts b (n + 1) rest j)

  in_block : (b : ℕ) (block : Block) → list_any of_name (block_uses f b block) ≡ block_has f v block
  in_block b block =
      list_any-append of_name (flat_map (phi_uses f) block.phis) _
      ∙ (λ i. in_phis block.phis i || (list_any-append of_name (inst_uses f b 0 block.insts) (uses_at b (length block.insts) (term_names block.term))
      ∙ (λ j. in_insts b 0 block.insts j || at_names b (length block.insts) (term_names block.term) j)) i)

  pub in_blocks : (b : ℕ) (blocks : List Block) → list_any of_name (uses_from f b blocks) ≡ list_any (block_has f v) blocks
  in_blocks b [] = refl
  in_blocks b (block ∷ rest) = list_any-append of_name (block_uses f b block) _ ∙ (λ i. in_block b block i || in_blocks (b + 1) rest i)

  in_arguments : (args : List CallArg) → list_any (λ (a : CallArg). is_in v (operand_names a.value)) args ≡ is_in v (flat_map (λ (a : CallArg). operand_names a.value) args)
  in_arguments [] = refl
  in_arguments (a ∷ rest) = (λ i. is_in v (operand_names a.value) || in_arguments rest i) ∙ sym (list_any-append (nat_eq v) (operand_names a.value) _)

  names_at : Option CallOp → List ℕ
  names_at None = []
  names_at (Some c) = flat_map (λ (a : CallArg). operand_names a.value) c.args

  names_is : (call : ℕ) (o : Option CallOp) → slice_get f.calls call ≡ o → names_at o ≡ op_names f (Op.Call None call)
  unfolding names_at
  names_is call o e = at (slice_get f.calls call) o e
    where
      at : (s o : Option CallOp) → s ≡ o → names_at o ≡ elim s [ None ↦ [] | Some c ↦ flat_map (λ (a : CallArg). operand_names a.value) c.args ]
      at None o e = ap names_at (sym e)
      at (Some c) o e = ap names_at (sym e)

  pub no_call : (call : ℕ) → slice_get f.calls call ≡ None → false ≡ is_in v (op_names f (Op.Call None call))
  unfolding names_at
  no_call call e = ap (is_in v) (names_is call None e)

  pub some_call : (call : ℕ) (c : CallOp) → slice_get f.calls call ≡ Some c →
      list_any (λ (a : CallArg). is_in v (operand_names a.value)) c.args ≡ is_in v (op_names f (Op.Call None call))
  unfolding names_at
  some_call call c e = in_arguments c.args ∙ ap (is_in v) (names_is call (Some c) e)
