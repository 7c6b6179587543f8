-- The names that a function uses with all its lines written anew are its values.
use Rattle.std.proofs.Common.{◌≡◌, ℕ, zero, suc, ◌+◌, ◌<◌, true, Bool, Some, List, [], ◌∷◌, map, flat_map, slice_get, length, refl, sym, ap, ◌∙◌, subst, arith, inl, inr}
use Rattle.std.proofs.lemmas.Option.{same_Some}
use Rattle.vfa_ir.specs.declared.operations.BlockId.{BlockId}
use Rattle.vfa_ir.specs.declared.operations.Operand.{Operand}
use Rattle.vfa_ir.specs.declared.functions.Block.{Block}
use Rattle.vfa_ir.specs.declared.functions.Function.{Function}
use Rattle.vfa_ir.specs.declared.functions.Inst.{Inst}
use Rattle.vfa_ir.specs.declared.functions.Phi.{Phi}
use Rattle.vfa_ir.specs.Defined.{op_names, operand_names, term_names}
use Rattle.vfa_ir.specs.Walks.{is_in}
use Rattle.vfa_mean.specs.Numbering.{names_used}
use Rattle.vfa_mean.proofs.FreshOperands.Definitions.{in_cases}
use Rattle.vfa_demand.specs.Used.{UsesItsValues}
use Rattle.vfa_demand.proofs.Members.{out_joined}
use Rattle.vfa_bits.specs.Standing.{put_for}
use Rattle.vfa_bits.specs.Narrowed.{Choices, left, new_block, new_blocks, new_entry, new_line, new_operation, new_phi, rewritten, with_operand}
use Rattle.vfa_bits.proofs.Chains.{Known}
use Rattle.vfa_bits.proofs.LeftBlocks.{entry_types, left_printable, mapped_at}
use Rattle.vfa_bits.proofs.LeftNames.{line_names_below, names_left, operand_below, term_below}

module _ (f : Function) (masks : ℕ → ℕ) (by : Choices) where
  record IsNewBlock (b : ℕ) (made : Block) : Type 0 where
    pub block : Block
    pub there : slice_get f.blocks b ≡ Some block
    pub is : new_block f masks by b block ≡ made

  record IsNewAt (n i : ℕ) (blocks : List Block) (made : Block) : Type 0 where
    pub block : Block
    pub there : slice_get blocks i ≡ Some block
    pub is : new_block f masks by (n + i) block ≡ made

  new_at : (blocks : List Block) (n i : ℕ) (made : Block) → slice_get (new_blocks f masks by n blocks) i ≡ Some made → IsNewAt n i blocks made
  new_at [] n i made e = absurd (cc)
  new_at (c ∷ blocks) n zero made e =
      let same : n ≡ n + 0 = omega arith in
      record { block = c; there = refl; is = ap (λ k. new_block f masks by k c) (sym same) ∙ same_Some (new_block f masks by n c) made e }
  new_at (c ∷ blocks) n (suc i) made e =
      let r = new_at blocks (suc n) i made e in
      let same : n + suc i ≡ suc n + i = omega arith in
      record { block = r.block; there = r.there; is = ap (λ k. new_block f masks by k r.block) same ∙ r.is }

  new_block_at : (b : ℕ) (made : Block) → slice_get (new_blocks f masks by 0 f.blocks) b ≡ Some made → IsNewBlock b made
  new_block_at b made e =
      let r = new_at f.blocks 0 b made e in
      let same : b ≡ 0 + b = omega arith in
      record { block = r.block; there = r.there; is = ap (λ k. new_block f masks by k r.block) same ∙ r.is }

  module _ (known : Known f masks by.changed) (b : ℕ) (block : Block) (there : slice_get f.blocks b ≡ Some block) (u : ℕ) where
    -- as if each name were used
    all : ℕ → Bool
    all v = true

    phi_names_below : is_in u (flat_map (λ (p : Phi). flat_map (λ (e : Operand × BlockId). operand_names e.0) p.entries) (map (new_phi f masks by) block.phis)) ≡ true → u < length f.values
    phi_names_below t =
        let k = out_joined (λ (p : Phi). flat_map (λ (e : Operand × BlockId). operand_names e.0) p.entries) (map (new_phi f masks by) block.phis) u t in
        let l = mapped_at (new_phi f masks by) block.phis k.place k.from k.there in
        let inside : is_in u (flat_map (λ (e : Operand × BlockId). operand_names e.0) (map (new_entry f masks by) l.from.entries)) ≡ true =
        subst (λ (p : Phi). is_in u (flat_map (λ (e : Operand × BlockId). operand_names e.0) p.entries) ≡ true) (sym l.is) k.inside in
        let e = out_joined (λ (e : Operand × BlockId). operand_names e.0) (map (new_entry f masks by) l.from.entries) u inside in
        let m = mapped_at (new_entry f masks by) l.from.entries e.place e.from e.there in
        operand_below (left all (rewritten f masks by)) l.from.width u (put_for f masks (by.reached m.from.1.0) m.from.0)
        (entry_types f masks by all known b block there k.place l.from l.there e.place m.from m.there).range
        (subst (λ (d : Operand × BlockId). is_in u (operand_names d.0) ≡ true) (sym m.is) e.inside)

    inst_names_below : is_in u (flat_map (λ (i : Inst). op_names (rewritten f masks by) i.op) (map (new_line f masks by b) block.insts)) ≡ true → u < length f.values
    inst_names_below t =
        let k = out_joined (λ (i : Inst). op_names (rewritten f masks by) i.op) (map (new_line f masks by b) block.insts) u t in
        let l = mapped_at (new_line f masks by b) block.insts k.place k.from k.there in
        let name : is_in u (op_names (rewritten f masks by) (new_operation f masks by b l.from)) ≡ true =
        subst (λ (i : Inst). is_in u (op_names (rewritten f masks by) i.op) ≡ true) (sym l.is) k.inside in
        line_names_below f masks by all known b block k.place l.from u (record { there = there; stands = l.there })
        (subst (λ xs. is_in u xs ≡ true) (sym (names_left all (rewritten f masks by) (new_operation f masks by b l.from))) name)

    term_names_below : is_in u (term_names (with_operand (put_for f masks (by.reached b)) block.term)) ≡ true → u < length f.values
    term_names_below t =
        term_below (left all (rewritten f masks by)) (with_operand (put_for f masks (by.reached b)) block.term) u (left_printable f masks by all known b block there).term t

    block_names_below : is_in u (names_used (rewritten f masks by) (new_block f masks by b block)) ≡ true → u < length f.values
    block_names_below t = elim (in_cases u (flat_map (λ (p : Phi). flat_map (λ (e : Operand × BlockId). operand_names e.0) p.entries) (map (new_phi f masks by) block.phis)) _ t) [
      | inl k ↦ phi_names_below k
      | inr k ↦ elim (in_cases u (flat_map (λ (i : Inst). op_names (rewritten f masks by) i.op) (map (new_line f masks by b) block.insts)) _ k) [
        | inl h ↦ inst_names_below h
        | inr h ↦ term_names_below h
      ]
    ]

  pub uses_its_values : Known f masks by.changed → UsesItsValues (rewritten f masks by)
  uses_its_values known u t =
      let k = out_joined (names_used (rewritten f masks by)) (new_blocks f masks by 0 f.blocks) u t in
      let n = new_block_at k.place k.from k.there in
      block_names_below known k.place n.block n.there u (subst (λ (c : Block). is_in u (names_used (rewritten f masks by) c) ≡ true) (sym n.is) k.inside)
