-- What the uses of a function ask for is among the masks.
use Rattle.std.proofs.Common.{◌≡◌, ℕ, zero, suc, List, [], ◌∷◌, ◌++◌, flat_map, Some, slice_get, subst}
use Rattle.std.proofs.lemmas.Option.{same_Some}
use Rattle.vfa_ir.specs.declared.operations.BlockId.{BlockId}
use Rattle.vfa_ir.specs.declared.operations.Operand.{Operand}
use Rattle.vfa_ir.specs.declared.functions.Block.{Block}
use Rattle.vfa_ir.specs.declared.functions.Function.{Function}
use Rattle.vfa_ir.specs.declared.functions.Inst.{Inst}
use Rattle.vfa_ir.specs.declared.functions.Phi.{Phi}
use Rattle.vfa_demand.specs.Masks.{Ask, IsPartOf, Have, ask_of, inst_asks, phi_asks, whole_asks, seen_in, block_asks, AreMasks}
use Rattle.vfa_bits.proofs.Related.{ForName}

pub have_left : (masks : ℕ → ℕ) (xs ys : List Ask) → Have (xs ++ ys) masks → Have xs masks
have_left masks [] ys h = tt
have_left masks (x ∷ xs) ys h = (h.0, have_left masks xs ys h.1)

pub have_right : (masks : ℕ → ℕ) (xs ys : List Ask) → Have (xs ++ ys) masks → Have ys masks
have_right masks [] ys h = h
have_right masks (x ∷ xs) ys h = have_right masks xs ys h.1

pub have_each : {A : Type 0} (masks : ℕ → ℕ) (h : A → List Ask) (xs : List A) (i : ℕ) (x : A) → Have (flat_map h xs) masks → slice_get xs i ≡ Some x → Have (h x) masks
have_each masks h [] i x all there = absurd (cc)
have_each masks h (y ∷ xs) zero x all there = subst (λ z. Have (h z) masks) (same_Some y x there) (have_left masks (h y) (flat_map h xs) all)
have_each masks h (y ∷ xs) (suc i) x all there = have_each masks h xs i x (have_right masks (h y) (flat_map h xs) all) there

pub name_asked : (masks : ℕ → ℕ) (bits : ℕ) (a : Operand) (rest : List Ask) → Have (ask_of bits a ++ rest) masks → ForName (λ v. IsPartOf bits (masks v)) a
name_asked masks bits (Operand.Value v) rest h = h.0
name_asked masks bits (Operand.Literal c) rest h = tt
name_asked masks bits Operand.Poison rest h = tt

pub only_asked : (masks : ℕ → ℕ) (bits : ℕ) (a : Operand) → Have (ask_of bits a) masks → ForName (λ v. IsPartOf bits (masks v)) a
only_asked masks bits (Operand.Value v) h = h.0
only_asked masks bits (Operand.Literal c) h = tt
only_asked masks bits Operand.Poison h = tt

module _ (f : Function) (masks : ℕ → ℕ) (are : AreMasks f masks) (b : ℕ) (block : Block) (there : slice_get f.blocks b ≡ Some block) where
  block_has : Have (block_asks f masks block) masks
  block_has = have_each masks (block_asks f masks) f.blocks b block are.enough.have there

  pub line_has : (i : ℕ) (inst : Inst) → slice_get block.insts i ≡ Some inst → Have (inst_asks f masks inst) masks
  line_has i inst stands =
      let rest = have_right masks (flat_map (phi_asks masks) block.phis) _ block_has in
      have_each masks (inst_asks f masks) block.insts i inst (have_left masks (flat_map (inst_asks f masks) block.insts) _ rest) stands

  pub term_has : Have (whole_asks (seen_in block.term)) masks
  term_has =
      have_right masks (flat_map (inst_asks f masks) block.insts) _ (have_right masks (flat_map (phi_asks masks) block.phis) _ block_has)

  pub entry_has : (j : ℕ) (phi : Phi) (k : ℕ) (entry : Operand × BlockId) → slice_get block.phis j ≡ Some phi → slice_get phi.entries k ≡ Some entry →
      ForName (λ v. IsPartOf (masks phi.result.0) (masks v)) entry.0
  entry_has j phi k entry stands at =
      let all = have_each masks (phi_asks masks) block.phis j phi (have_left masks (flat_map (phi_asks masks) block.phis) _ block_has) stands in
      only_asked masks (masks phi.result.0) entry.0 (have_each masks (λ (e : Operand × BlockId). ask_of (masks phi.result.0) e.0) phi.entries k entry all at)
