-- The results of a function are its values.
use Rattle.std.proofs.Common.{◌≡◌, ℕ, zero, suc, ◌<◌, true, Option, Some, None, List, [], ◌∷◌, map, slice_get, length, sym, ap, ◌∙◌, subst, inl, inr}
use Rattle.std.specs.List.{AllByRecursion, cons_option}
use Rattle.std.proofs.lemmas.List.Elements.{recursion_from_All}
use Rattle.std.proofs.lemmas.Option.{same_Some}
use Rattle.vfa_ir.specs.declared.operations.Operand.{Operand}
use Rattle.vfa_ir.specs.declared.operations.ValueId.{ValueId}
use Rattle.vfa_ir.specs.declared.functions.Block.{Block}
use Rattle.vfa_ir.specs.declared.functions.Function.{Function}
use Rattle.vfa_ir.specs.declared.functions.Inst.{Inst}
use Rattle.vfa_ir.specs.declared.functions.Param.{Param}
use Rattle.vfa_ir.specs.declared.functions.Phi.{Phi}
use Rattle.vfa_ir.specs.Printable.{block_ids, ids_of, inst_ids}
use Rattle.vfa_ir.specs.Walks.{is_in}
use Rattle.vfa_check.specs.Within.{IsWithin}
use Rattle.vfa_mean.specs.Moments.{IsLine}
use Rattle.vfa_mean.proofs.FreshOperands.Definitions.{in_left, in_right, in_first, in_rest, first_or_rest}
use Rattle.vfa_demand.proofs.Members.{in_joined}
use Rattle.vfa_bits.specs.Standing.{replacement}
use Rattle.vfa_bits.proofs.StandsFor.{replaced_by}

each : (P : ℕ → Type 0) (xs : List ℕ) (n : ℕ) → AllByRecursion P xs → is_in n xs ≡ true → P n
each P [] n all t = absurd (cc)
each P (x ∷ xs) n all t = elim (first_or_rest n x xs t) [ inl e ↦ subst P (sym e) all.0 | inr u ↦ each P xs n all.1 u ]

in_option : (o : Option ValueId) (x : ℕ) (xs : List ℕ) → is_in x xs ≡ true → is_in x (cons_option (elim o [ None ↦ None | Some v ↦ Some v.0 ]) xs) ≡ true
in_option None x xs h = h
in_option (Some v) x xs h = in_rest x v.0 xs h

is_option : (o : Option ValueId) (v : ValueId) (xs : List ℕ) → o ≡ Some v → is_in v.0 (cons_option (elim o [ None ↦ None | Some v ↦ Some v.0 ]) xs) ≡ true
is_option None v xs e = absurd (cc)
is_option (Some w) v xs e = in_first v.0 w.0 xs (ap (λ (z : ValueId). z.0) (sym (same_Some w v e)))

in_results : (insts : List Inst) (i : ℕ) (inst : Inst) (v : ValueId) → slice_get insts i ≡ Some inst → inst.result ≡ Some v → is_in v.0 (inst_ids insts) ≡ true
in_results [] i inst v e r = absurd (cc)
in_results (c ∷ rest) zero inst v e r = is_option c.result v (inst_ids rest) (ap (λ (z : Inst). z.result) (same_Some c inst e) ∙ r)
in_results (c ∷ rest) (suc i) inst v e r = in_option c.result v.0 (inst_ids rest) (in_results rest i inst v e r)

in_phis : (phis : List Phi) (j : ℕ) (phi : Phi) → slice_get phis j ≡ Some phi → is_in phi.result.0 (map (λ (p : Phi). p.result.0) phis) ≡ true
in_phis [] j phi e = absurd (cc)
in_phis (p ∷ rest) zero phi e = in_first phi.result.0 p.result.0 (map (λ (p : Phi). p.result.0) rest) (ap (λ (k : Phi). k.result.0) (sym (same_Some p phi e)))
in_phis (p ∷ rest) (suc j) phi e = in_rest phi.result.0 p.result.0 (map (λ (p : Phi). p.result.0) rest) (in_phis rest j phi e)

module _ (f : Function) (within : IsWithin f) where
  in_block_below : (b : ℕ) (block : Block) (v : ℕ) → slice_get f.blocks b ≡ Some block → is_in v (block_ids block) ≡ true → v < length f.values
  in_block_below b block v there t =
      each (λ n. n < length f.values) (ids_of f) v (recursion_from_All (λ n. n < length f.values) (ids_of f) within.names)
      (in_right v (map (λ (p : Param). p.value.0) f.params) _ (in_joined block_ids f.blocks b block v there t))

  pub result_below : (b : ℕ) (block : Block) (i : ℕ) (inst : Inst) (v : ValueId) → IsLine f b block i inst → inst.result ≡ Some v → v.0 < length f.values
  result_below b block i inst v line r =
      in_block_below b block v.0 line.there
      (in_right v.0 (map (λ (p : Phi). p.result.0) block.phis) (inst_ids block.insts) (in_results block.insts i inst v line.stands r))

  pub phi_below : (b : ℕ) (block : Block) (j : ℕ) (phi : Phi) → slice_get f.blocks b ≡ Some block → slice_get block.phis j ≡ Some phi → phi.result.0 < length f.values
  phi_below b block j phi there stands =
      in_block_below b block phi.result.0 there
      (in_left phi.result.0 (map (λ (p : Phi). p.result.0) block.phis) (inst_ids block.insts) (in_phis block.phis j phi stands))

  pub replaced_below : (v d : ℕ) (x : Operand) → replacement f v d ≡ Some x → v < length f.values
  replaced_below v d x e =
      let r = replaced_by f v d x e in
      subst (λ n. n < length f.values) r.is_name (result_below r.number r.at.block r.line r.inst r.result r.at.line r.at.result)
