-- Names of a printable function are names of its values, and have their types in what is left of it.
use Rattle.std.proofs.Common.{◌≡◌, ℕ, zero, suc, ◌+◌, ◌<◌, true, nat_eq, Option, Some, None, List, [], ◌∷◌, ◌++◌, map, flat_map, length, IsSomeAnd, slice_get, refl, sym, ap, ◌∙◌, subst, inl, inr, arith}
use Rattle.std.proofs.lemmas.Option.{same_Some, slice_get_within}
use Rattle.std.specs.List.{AllByRecursion, IsDistinct, cons_option, range_with_len}
use Rattle.std.specs.Option.{option_map_or}
use Rattle.vfa_ir.specs.declared.operations.Operand.{Operand}
use Rattle.vfa_ir.specs.declared.operations.Ty.{Ty}
use Rattle.vfa_ir.specs.declared.operations.ValueId.{ValueId}
use Rattle.vfa_ir.specs.declared.functions.Block.{Block}
use Rattle.vfa_ir.specs.declared.functions.Function.{Function}
use Rattle.vfa_ir.specs.declared.functions.Inst.{Inst}
use Rattle.vfa_ir.specs.declared.functions.Param.{Param}
use Rattle.vfa_ir.specs.declared.functions.Phi.{Phi}
use Rattle.vfa_ir.specs.declared.functions.Value.{Value}
use Rattle.vfa_ir.specs.Printable.{IsPrintable, inst_ids, block_ids, ids_of}
use Rattle.vfa_ir.specs.Typed.{HasType}
use Rattle.vfa_ir.specs.Words.{is_in}
use Rattle.vfa_mean.specs.FreshOperands.{DefinesOnce}
use Rattle.vfa_mean.specs.Moments.{IsLine}
use Rattle.vfa_mean.proofs.FreshOperands.Definitions.{in_left, in_right, first_or_rest, in_first, in_rest, range_distinct}
use Rattle.vfa_cond.specs.Conditions.{name_type}
use Rattle.vfa_rewrite.specs.Findings.{IsTypedOperand}
use Rattle.vfa_rewrite.specs.Rewritten.{Marks, rewritten}
use Rattle.vfa_rewrite.specs.Sound.{IsOfTypeIn}
use Rattle.vfa_rewrite.proofs.Left.{get_before}

in_range : (x a n : ℕ) → is_in x (range_with_len a n) ≡ true → x < a + n
in_range x a zero t = absurd (cc)
in_range x a (suc n) t = elim (first_or_rest x a (range_with_len (a + 1) n) t) [
  | inl e ↦ omega (arith, e)
  | inr r ↦ let l = in_range x (a + 1) n r in omega (arith, l)
]

block_in : (blocks : List Block) (b : ℕ) (block : Block) (x : ℕ) → slice_get blocks b ≡ Some block → is_in x (block_ids block) ≡ true →
    is_in x (flat_map block_ids blocks) ≡ true
block_in [] b block x there t = absurd (cc)
block_in (c ∷ blocks) zero block x there t =
    in_left x (block_ids c) (flat_map block_ids blocks) (subst (λ z. is_in x (block_ids z) ≡ true) (sym (same_Some c block there)) t)
block_in (c ∷ blocks) (suc b) block x there t = in_right x (block_ids c) (flat_map block_ids blocks) (block_in blocks b block x there t)

phi_in : (phis : List Phi) (j : ℕ) (phi : Phi) → slice_get phis j ≡ Some phi → is_in phi.result.0 (map (λ (p : Phi). p.result.0) phis) ≡ true
phi_in [] j phi there = absurd (cc)
phi_in (q ∷ phis) zero phi there = in_first phi.result.0 q.result.0 (map (λ (p : Phi). p.result.0) phis) (ap (λ (p : Phi). p.result.0) (sym (same_Some q phi there)))
phi_in (q ∷ phis) (suc j) phi there = in_rest phi.result.0 q.result.0 (map (λ (p : Phi). p.result.0) phis) (phi_in phis j phi there)

in_option : (o : Option ValueId) (x : ℕ) (xs : List ℕ) → is_in x xs ≡ true → is_in x (cons_option (elim o [ None ↦ None | Some v ↦ Some v.0 ]) xs) ≡ true
in_option None x xs h = h
in_option (Some v) x xs h = in_rest x v.0 xs h

is_option : (o : Option ValueId) (v : ValueId) (xs : List ℕ) → o ≡ Some v → is_in v.0 (cons_option (elim o [ None ↦ None | Some v ↦ Some v.0 ]) xs) ≡ true
is_option None v xs e = absurd (cc)
is_option (Some w) v xs e = in_first v.0 w.0 xs (ap (λ (z : ValueId). z.0) (sym (same_Some w v e)))

result_in : (insts : List Inst) (i : ℕ) (inst : Inst) (v : ValueId) → slice_get insts i ≡ Some inst → inst.result ≡ Some v → is_in v.0 (inst_ids insts) ≡ true
result_in [] i inst v there r = absurd (cc)
result_in (j ∷ insts) zero inst v there r = is_option j.result v (inst_ids insts) (ap (λ (z : Inst). z.result) (same_Some j inst there) ∙ r)
result_in (j ∷ insts) (suc i) inst v there r = in_option j.result v.0 (inst_ids insts) (result_in insts i inst v there r)

params_in : (params : List Param) (all : List ℕ) (bound : ℕ) → ((x : ℕ) → is_in x (map (λ (p : Param). p.value.0) params ++ all) ≡ true → x < bound) →
    AllByRecursion (λ (p : Param). p.value.0 < bound) params
params_in [] all bound h = tt
params_in (p ∷ params) all bound h = (
  h p.value.0 (in_first p.value.0 p.value.0 (map (λ (p : Param). p.value.0) params ++ all) refl),
  params_in params all bound (λ x t. h x (in_rest x p.value.0 (map (λ (p : Param). p.value.0) params ++ all) t)),
)

module _ (f : Function) (printable : IsPrintable f) where
  pub defines_once : DefinesOnce f
  defines_once = subst (λ xs. IsDistinct nat_eq xs) (sym printable.ids) (range_distinct 0 (length f.values))

  id_below : (x : ℕ) → is_in x (ids_of f) ≡ true → x < length f.values
  id_below x t = let l = in_range x 0 (length f.values) (subst (λ xs. is_in x xs ≡ true) printable.ids t) in omega (arith, l)

  pub parameters_below : AllByRecursion (λ (p : Param). p.value.0 < length f.values) f.params
  parameters_below = params_in f.params (flat_map block_ids f.blocks) (length f.values) id_below

  in_block_below : (b : ℕ) (block : Block) (x : ℕ) → slice_get f.blocks b ≡ Some block → is_in x (block_ids block) ≡ true → x < length f.values
  in_block_below b block x there t = id_below x (in_right x (map (λ p. p.value.0) f.params) (flat_map block_ids f.blocks) (block_in f.blocks b block x there t))

  pub result_below : (b i : ℕ) (block : Block) (inst : Inst) (v : ValueId) → IsLine f b block i inst → inst.result ≡ Some v → v.0 < length f.values
  result_below b i block inst v line r =
      in_block_below b block v.0 line.there
      (in_right v.0 (map (λ (p : Phi). p.result.0) block.phis) (inst_ids block.insts) (result_in block.insts i inst v line.stands r))

  pub phi_below : (b j : ℕ) (block : Block) (phi : Phi) → slice_get f.blocks b ≡ Some block → slice_get block.phis j ≡ Some phi → phi.result.0 < length f.values
  phi_below b j block phi there stands =
      in_block_below b block phi.result.0 there
      (in_left phi.result.0 (map (λ (p : Phi). p.result.0) block.phis) (inst_ids block.insts) (phi_in block.phis j phi stands))

-- ---- types

abbrev pub type_at : Option Value → Ty
type_at o = option_map_or (λ (value : Value). value.ty) o (Ty.Int 1)

pub same_type : (f : Function) (m : Marks) (n : ℕ) → n < length f.values → name_type (rewritten f m) n ≡ name_type f n
same_type f m n h = ap type_at (get_before f.values m.added n h)

pub record IsValueAt (f : Function) (n : ℕ) (ty : Ty) : Type 0 where
  pub below : n < length f.values
  pub typed : name_type f n ≡ ty

pub typed_value : (f : Function) (ty : Ty) (v : ValueId) → HasType f ty v → IsValueAt f v.0 ty
typed_value f ty v h = by (slice_get f.values v.0) refl h
  where
    by : (o : Option Value) → slice_get f.values v.0 ≡ o → IsSomeAnd o (λ x. x.ty ≡ ty) → IsValueAt f v.0 ty
    by None e h = absurd h
    by (Some x) e h = record { below = slice_get_within f.values v.0 x e; typed = ap type_at e ∙ h }

-- an operand of the function has its type in what is left
pub typed_in : (f : Function) (m : Marks) (ty : Ty) (a : Operand) → IsTypedOperand f ty a → IsOfTypeIn (rewritten f m) ty a
typed_in f m ty (Operand.Value v) h = let is = typed_value f ty v h in same_type f m v.0 is.below ∙ is.typed
typed_in f m ty (Operand.Literal x) h = h
typed_in f m ty Operand.Poison h = tt
