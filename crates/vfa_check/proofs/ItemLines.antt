-- The lines of the items of a block.
use Rattle.std.proofs.Common.{◌≡◌, ◌∙◌, ◌<◌, ℕ, List, [], length, map, take, get_or, All, IsSomeAnd, Some, ap, arith, sym, subst}
use Rattle.std.proofs.lemmas.List.{length-map}
use Rattle.std.proofs.lemmas.Option.{get_or_from_slice_get, same_Some, slice_get-map}
use Rattle.std.specs.List.{slice_get}
use Rattle.std.specs.Option.{option_map}
use Rattle.vfa_ir.specs.declared.functions.Block.{Block}
use Rattle.vfa_ir.specs.declared.functions.Function.{Function}
use Rattle.vfa_ir.specs.declared.functions.Lines.{Lines}
use Rattle.vfa_check.specs.Items.{HasItsLines, IllTypedAt, IsIllTypedOn, item_count}
use Rattle.vfa_ir.specs.Typed.{TypedBlock}

-- a block has a line for each item
pub row_long : (f : Function) (lines : Lines) (i : ℕ) (row : List ℕ) (b : Block) → HasItsLines f lines →
    slice_get lines.of i ≡ Some row → slice_get f.blocks i ≡ Some b → length row ≡ item_count b
row_long f lines i row b has at here =
    let rows : slice_get (map length lines.of) i ≡ Some (length row) = slice_get-map length lines.of i ∙ ap (option_map length) at in
    let blocks : slice_get (map item_count f.blocks) i ≡ Some (item_count b) = slice_get-map item_count f.blocks i ∙ ap (option_map item_count) here in
    same_Some (length row) (item_count b) (sym rows ∙ ap (λ l. slice_get l i) has ∙ blocks)

pub ill_typed_at : (f : Function) (lines : Lines) (i line : ℕ) (row : List ℕ) (b : Block) → slice_get lines.of i ≡ Some row →
    slice_get f.blocks i ≡ Some b → All (TypedBlock f) (take i f.blocks) → IsIllTypedOn f row line b → IllTypedAt f lines line
ill_typed_at f lines i line row b at here before ill = record {
  block = i;
  before = before;
  here = subst (λ o. IsSomeAnd o (IsIllTypedOn f (get_or lines.of i []) line)) (sym here)
      (subst (λ r. IsIllTypedOn f r line b) (sym (get_or_from_slice_get lines.of i row [] at)) ill);
}

pub row_within : (f : Function) (lines : Lines) (rows : List (List ℕ)) (blocks : List Block) (i : ℕ) → HasItsLines f lines →
    rows ≡ lines.of → blocks ≡ f.blocks → i < length blocks → i < length rows
row_within f lines rows blocks i has a b within =
    let same : length lines.of ≡ length f.blocks = sym (length-map lines.of length) ∙ ap length has ∙ length-map f.blocks item_count in
    let long : length rows ≡ length lines.of = ap length a in
    let many : length blocks ≡ length f.blocks = ap length b in
    omega arith
