-- Numbers that rewriting leaves in place of operands stay when the function is narrowed and numbered.
use Rattle.std.specs.Prelude.{filter}
use Rattle.std.proofs.Common.{◌≡◌, ◌<◌, ℕ, zero, suc, ◌+◌, Some, List, [], ◌∷◌, length, slice_get, refl, sym, ap, ◌∙◌, subst, arith}
use Rattle.std.specs.List.{range_with_len}
use Rattle.std.proofs.lemmas.Option.{slice_get_within}
use Rattle.vfa_ir.specs.declared.functions.Function.{Function}
use Rattle.vfa_ir.specs.Printable.{IsPrintable}
use Rattle.vfa_check.specs.Checked.{IsChecked}
use Rattle.vfa_mean.specs.Numbering.{each_number, kept_numbers, numbered, text_order}
use Rattle.vfa_mean.specs.Renaming.{renamed_block}
use Rattle.vfa_demand.specs.Masks.{AreMasks}
use Rattle.vfa_bits.specs.Narrowed.{IsNarrowed, block_left, left, new_block, rewritten}
use Rattle.vfa_bits.specs.Sizes.{IsNoLarger}
use Rattle.vfa_bits.proofs.Chains.{Known}
use Rattle.vfa_bits.proofs.Kept.{may_be_numbered, same_length}
use Rattle.vfa_bits.proofs.LeftBlocks.{kept_phis_fit, left_block}
use Rattle.vfa_rewrite.specs.ByFacts.{FactTable}
use Rattle.vfa_rewrite.specs.PrintedNumbers.{IsBlockFor, PrintsNumbers}
use Rattle.vfa_rewrite.proofs.PrintedNumbers.{kept_block_at}
use Rattle.vfa_rewrite.proofs.Stepped.{block_stands}
use Rattle.vfa_rewrite.proofs.SteppedNumbers.{IsFrom, numbered_stands}
use Rattle.vfa_opt.proofs.NarrowedNumbers.{IsItself, narrowed_stands}

-- all blocks are kept

all_pass : (xs : List ℕ) → filter each_number xs ≡ xs
all_pass [] = refl
all_pass (x ∷ xs) = ap (λ rest. x ∷ rest) (all_pass xs)

range_is : (a n i x : ℕ) → slice_get (range_with_len a n) i ≡ Some x → x ≡ a + i
range_is a zero i x e = absurd (cc)
range_is a (suc n) zero x e = let s : a ≡ x = cc in omega (arith, s)
range_is a (suc n) (suc i) x e = let s = range_is (a + 1) n i x e in omega (arith, s)

range_at : (a n i : ℕ) → i < n → slice_get (range_with_len a n) i ≡ Some (a + i)
range_at a zero i l = absurd (omega arith)
range_at a (suc n) zero l = ap Some (omega arith)
range_at a (suc n) (suc i) l = range_at (a + 1) n i (omega arith) ∙ ap Some (omega arith)

itself_at : (g : Function) (i x : ℕ) → slice_get (kept_numbers g each_number) i ≡ Some x → x ≡ i
itself_at g i x e =
    let s = range_is 0 (length g.blocks) i x (ap (λ xs. slice_get xs i) (sym (all_pass (range_with_len 0 (length g.blocks)))) ∙ e) in
    omega (arith, s)

stands_itself : (g : Function) (i : ℕ) → i < length g.blocks → slice_get (kept_numbers g each_number) i ≡ Some i
stands_itself g i l =
    let at : 0 + i ≡ i = omega arith in
    ap (λ xs. slice_get xs i) (all_pass (range_with_len 0 (length g.blocks))) ∙ (range_at 0 (length g.blocks) i l ∙ ap Some at)

pub narrowed_numbers : (f : Function) (t : FactTable) (g : Function) (masks : ℕ → ℕ) (g' : Function) → PrintsNumbers f t g → IsChecked g → IsPrintable g → AreMasks g masks →
    IsNarrowed g masks g' → IsNoLarger g g' → PrintsNumbers f t g'
narrowed_numbers f t g masks g' p checked printable are n less =
    let h = left n.used (rewritten g masks n.by) in
    let known : Known g masks n.by.changed = record {
      printable = printable;
      typed = checked.formed.typed;
      once = checked.once;
      defined = checked.formed.defined;
      are = are;
      are_changed = n.are_changed;
    } in
    let may = may_be_numbered g masks n.by n.used checked.within printable.call_places in
    let fit = kept_phis_fit g masks n.by n.used known checked.formed.phis checked.within.entry in
    let same_place : (k q q' : ℕ) → slice_get p.kept q ≡ Some k → IsItself g masks n.by n.used q q' → slice_get p.kept q' ≡ Some k = λ k q q' e same. ap (slice_get p.kept) (sym same) ∙ e in
    let same_number : (k q q' : ℕ) → slice_get p.kept q ≡ Some k → IsFrom h each_number may q q' → slice_get p.kept q' ≡ Some k =
    λ k q q' e from. ap (slice_get p.kept) (sym (itself_at h q' q from)) ∙ e in
    record {
      kept = p.kept;
      in_order = p.in_order;
      count = p.count ∙ sym less.blocks;
      blocks = λ j b printed e there.
          let there' : slice_get (numbered h each_number).blocks j ≡ Some printed = subst (λ (x : Function). slice_get x.blocks j ≡ Some printed) n.is there in
          let within = slice_get_within g'.blocks j printed there in
          let blocks = less.blocks in
          let count : length h.blocks ≡ length g.blocks = same_length g masks n.by n.used in
          let k = kept_block_at h each_number may j j printed (stands_itself h j (omega (arith, within, blocks, count))) there' in
          let l = left_block g masks n.by n.used known j k.block k.there in
          let was = p.blocks j b l.block e l.there in
          let narrow = block_stands f t g h p.kept p.kept (IsItself g masks n.by n.used) same_place b was.0 l.block (block_left n.used (new_block g masks n.by j l.block)) was.2
          (narrowed_stands g masks n.by n.used j l.block) in
          let first : IsBlockFor f t h p.kept b was.0 k.block = subst (IsBlockFor f t h p.kept b was.0) l.is narrow in
          let second = block_stands f t h (numbered h each_number) p.kept p.kept (IsFrom h each_number may) same_number b was.0 k.block (renamed_block (text_order h each_number) k.block) first
          (numbered_stands h each_number may fit j k.block k.kept k.below k.there) in (
            was.0,
            was.1,
            subst (λ (x : Function). IsBlockFor f t x p.kept b was.0 printed) (sym n.is) (subst (IsBlockFor f t (numbered h each_number) p.kept b was.0) (sym k.is) second),
          );
    }
