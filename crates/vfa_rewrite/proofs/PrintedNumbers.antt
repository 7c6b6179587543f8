-- What is rewritten by a table of facts, and numbered, prints operands that are one number as that number.
use Rattle.std.specs.Prelude.{filter}
use Rattle.std.proofs.Common.{◌≡◌, ◌<◌, ℕ, zero, suc, ◌+◌, Bool, true, false, cond, Some, List, [], ◌∷◌, length, slice_get, refl, sym, ap, ◌∙◌, subst, arith}
use Rattle.std.specs.List.{AllByRecursion, range_with_len}
use Rattle.std.proofs.lemmas.Option.{same_Some, slice_get_within}
use Rattle.vfa_ir.specs.declared.functions.Block.{Block}
use Rattle.vfa_ir.specs.declared.functions.Function.{Function}
use Rattle.vfa_ir.specs.Walks.{is_in}
use Rattle.vfa_mean.specs.Numbering.{MayBeNumbered, kept_numbers, numbered, text_order}
use Rattle.vfa_mean.specs.Renaming.{place_among, renamed_block}
use Rattle.vfa_mean.proofs.FreshOperands.Definitions.{in_first, in_rest}
use Rattle.vfa_mean.proofs.KeptParts.{covers_kept, kept_number}
use Rattle.vfa_mean.proofs.PlacesAmong.{place_found}
use Rattle.vfa_mean.proofs.RenamedFlow.{count_of_blocks, kept_at}
use Rattle.vfa_mean.proofs.RenamedRuns.{block_there}
use Rattle.vfa_check.specs.Within.{IsWithin}
use Rattle.vfa_rewrite.specs.ByFacts.{FactTable, findings_of}
use Rattle.vfa_rewrite.specs.PrintedNumbers.{IsAscending, IsBlockFor, PrintsNumbers}
use Rattle.vfa_rewrite.specs.Rewritten.{Marks, rewritten, rewritten_block}
use Rattle.vfa_rewrite.proofs.CheckedLeft.{kept_phis_fit, may_be_numbered}
use Rattle.vfa_rewrite.proofs.EdgesLeft.{left_block, reached_block}
use Rattle.vfa_rewrite.proofs.LeftLines.{Known}
use Rattle.vfa_rewrite.proofs.PrintedLines.{block_is_left}
use Rattle.vfa_rewrite.proofs.Stepped.{block_stands}
use Rattle.vfa_rewrite.proofs.SteppedNumbers.{IsFrom, numbered_stands}

-- ---- numbers in order

below_all : (a n b : ℕ) → b < a → AllByRecursion (λ m. b < m) (range_with_len a n)
below_all a zero b l = tt
below_all a (suc n) b l = (l, below_all (a + 1) n b (omega (arith, l)))

filter_below : (keeps : ℕ → Bool) (b : ℕ) (xs : List ℕ) → AllByRecursion (λ m. b < m) xs → AllByRecursion (λ m. b < m) (filter keeps xs)
filter_below keeps b [] all = tt
filter_below keeps b (x ∷ xs) all = by (keeps x) (filter_below keeps b xs all.1)
  where
    by : (t : Bool) → AllByRecursion (λ m. b < m) (filter keeps xs) → AllByRecursion (λ m. b < m) (cond t (x ∷ filter keeps xs) (filter keeps xs))
    by true rest = (all.0, rest)
    by false rest = rest

filter_ascends : (keeps : ℕ → Bool) (a n : ℕ) → IsAscending (filter keeps (range_with_len a n))
filter_ascends keeps a zero = tt
filter_ascends keeps a (suc n) = by (keeps a) (filter_ascends keeps (a + 1) n)
  where
    by : (t : Bool) → IsAscending (filter keeps (range_with_len (a + 1) n)) →
        IsAscending (cond t (a ∷ filter keeps (range_with_len (a + 1) n)) (filter keeps (range_with_len (a + 1) n)))
    by true rest = (filter_below keeps a (range_with_len (a + 1) n) (below_all (a + 1) n a (omega arith)), rest)
    by false rest = rest

-- ---- what is kept of a function

pub there_is_in : (xs : List ℕ) (i x : ℕ) → slice_get xs i ≡ Some x → is_in x xs ≡ true
there_is_in [] i x e = absurd (cc)
there_is_in (y ∷ xs) zero x e = in_first x y xs (sym (same_Some y x e))
there_is_in (y ∷ xs) (suc i) x e = in_rest x y xs (there_is_in xs i x e)

range_is : (a n i x : ℕ) → slice_get (range_with_len a n) i ≡ Some x → x ≡ a + i
range_is a zero i x e = absurd (cc)
range_is a (suc n) zero x e = let s = same_Some a x e in omega (arith, s)
range_is a (suc n) (suc i) x e = let s = range_is (a + 1) n i x e in omega (arith, s)

-- block j of a numbered function is the one that is kept as its number j
pub record IsKeptAt (g : Function) (keeps : ℕ → Bool) (b : ℕ) (c' : Block) : Type 0 where
  pub kept : keeps b ≡ true
  pub below : b < length g.blocks
  pub block : Block
  pub there : slice_get g.blocks b ≡ Some block
  pub is : c' ≡ renamed_block (text_order g keeps) block

stands : {A : Type 0} (xs : List A) (i : ℕ) → i < length xs → (x : A) × (slice_get xs i ≡ Some x)
stands [] i l = absurd (omega (arith, l))
stands (x ∷ xs) zero l = (x, refl)
stands (x ∷ xs) (suc i) l = stands xs i (omega (arith, l))

pub kept_block_at : (g : Function) (keeps : ℕ → Bool) → MayBeNumbered g keeps → (j b : ℕ) (c' : Block) → slice_get (kept_numbers g keeps) j ≡ Some b →
    slice_get (numbered g keeps).blocks j ≡ Some c' → IsKeptAt g keeps b c'
kept_block_at g keeps may j b c' e there =
    let at = kept_at g keeps j (slice_get_within (kept_numbers g keeps) j b e) in
    let same : at.number ≡ b = same_Some at.number b (sym (place_found (kept_numbers g keeps) at.number at.among) ∙ (ap (slice_get (kept_numbers g keeps)) at.is ∙ e)) in
    let among = there_is_in (kept_numbers g keeps) j b e in
    let k = kept_number g keeps b among in
    let block = stands g.blocks b k.within in
    let place : place_among (kept_numbers g keeps) b ≡ j = ap (place_among (kept_numbers g keeps)) (sym same) ∙ at.is in
    let is : slice_get (numbered g keeps).blocks j ≡ Some (renamed_block (text_order g keeps) block.0) =
    subst (λ i. slice_get (numbered g keeps).blocks i ≡ Some (renamed_block (text_order g keeps) block.0)) place
    (block_there (text_order g keeps) g (covers_kept g keeps may) b block.0 among block.1) in
    record {
      kept = k.kept;
      below = k.within;
      block = block.0;
      there = block.1;
      is = same_Some c' (renamed_block (text_order g keeps) block.0) (sym there ∙ is);
    }

-- ---- the rewritten function

pub prints_numbers : (f : Function) (t : FactTable) (m : Marks) → Known f (findings_of f t) m → IsWithin f → PrintsNumbers f t (numbered (rewritten f m) m.reached)
prints_numbers f t m known within =
    let r = rewritten f m in
    let may = may_be_numbered f (findings_of f t) m known within in
    let fit = kept_phis_fit f (findings_of f t) m known within in
    let all = range_with_len 0 (length f.blocks) in
    let turned : (n q q' : ℕ) → slice_get all q ≡ Some n → IsFrom r m.reached may q q' → slice_get (kept_numbers r m.reached) q' ≡ Some n =
    λ n q q' e from. (let same : q ≡ n = (let s = range_is 0 (length f.blocks) q n e in omega (arith, s)) in from ∙ ap Some same) in
    record {
      kept = kept_numbers r m.reached;
      in_order = filter_ascends m.reached 0 (length r.blocks);
      count = sym (count_of_blocks r m.reached may);
      blocks = λ j b printed e there.
          let k = kept_block_at r m.reached may j b printed e there in
          let l = left_block f m b k.block k.there in
          let own : k.block ≡ rewritten_block f m b l.block = sym l.is ∙ reached_block f m b l.block k.kept in
          let first : IsBlockFor f t r all b l.block k.block = subst (IsBlockFor f t r all b l.block) (sym own) (block_is_left f t m known b l.block l.there k.kept) in
          let step = numbered_stands r m.reached may fit b k.block k.kept k.below k.there in
          let second = block_stands f t r (numbered r m.reached) all (kept_numbers r m.reached) (IsFrom r m.reached may) turned b l.block k.block (renamed_block (text_order r m.reached) k.block) first step in
          (l.block, l.there, subst (IsBlockFor f t (numbered r m.reached) (kept_numbers r m.reached) b l.block) (sym k.is) second);
    }
