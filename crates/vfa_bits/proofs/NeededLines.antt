-- The instructions that have to stay, in lists.
use Rattle.std.proofs.Common.{◌≡◌, ℕ, zero, suc, Bool, false, List, [], ◌∷◌, map, get_or, slice_get, Some, None, refl, sym, ◌∙◌}
use Rattle.vfa_ir.specs.declared.functions.Block.{Block}
use Rattle.vfa_ir.specs.declared.functions.Function.{Function}
use Rattle.vfa_ir.specs.declared.functions.Inst.{Inst}
use Rattle.vfa_demand.specs.Rows.{needs_all}
use Rattle.vfa_demand.specs.Used.{AreUsed, IsUsed, by_need, by_phi, by_result, by_terminator, must_in}
use Rattle.vfa_bits.specs.Narrowed.{must_stay}

abbrev pub needed_lines : List Block → List (List Bool)
needed_lines blocks = map (λ (b : Block). map (λ (i : Inst). needs_all i.op) b.insts) blocks

line_needed : (insts : List Inst) (i : ℕ) → get_or (map (λ (i : Inst). needs_all i.op) insts) i false ≡ elim (slice_get insts i) [ None ↦ false | Some inst ↦ needs_all inst.op ]
line_needed [] i = refl
line_needed (x ∷ insts) zero = refl
line_needed (x ∷ insts) (suc i) = line_needed insts i

block_needed : (blocks : List Block) (b i : ℕ) → get_or (get_or (needed_lines blocks) b []) i false ≡
    elim (slice_get blocks b) [ None ↦ false | Some block ↦ elim (slice_get block.insts i) [ None ↦ false | Some inst ↦ needs_all inst.op ] ]
block_needed [] b i = refl
block_needed (x ∷ blocks) zero i = line_needed x.insts i
block_needed (x ∷ blocks) (suc b) i = block_needed blocks b i

needed_is : (f : Function) (b i : ℕ) → must_in (needed_lines f.blocks) b i ≡ must_stay f b i
needed_is f b i = block_needed f.blocks b i

used_alike : (f : Function) (m n : ℕ → ℕ → Bool) → ((b i : ℕ) → m b i ≡ n b i) → (v : ℕ) → IsUsed f m v → IsUsed f n v
used_alike f m n same _ (by_terminator b block v there t) = by_terminator b block v there t
used_alike f m n same _ (by_need b block i inst v line needs t) = by_need b block i inst v line (sym (same b i) ∙ needs) t
used_alike f m n same _ (by_result b block i inst r v line result used t) = by_result b block i inst r v line result (used_alike f m n same r.0 used) t
used_alike f m n same _ (by_phi b block j phi k entry v there stands used at t) = by_phi b block j phi k entry v there stands (used_alike f m n same phi.result.0 used) at t

pub are_used : (f : Function) (used : ℕ → Bool) → AreUsed f (must_in (needed_lines f.blocks)) used → AreUsed f (must_stay f) used
are_used f used are v = (
  (λ t. used_alike f (must_in (needed_lines f.blocks)) (must_stay f) (needed_is f) v ((are v).0 t)),
  (λ is. (are v).1 (used_alike f (must_stay f) (must_in (needed_lines f.blocks)) (λ b i. sym (needed_is f b i)) v is)),
)
