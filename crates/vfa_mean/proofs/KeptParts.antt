-- The blocks of a function that are kept, and what stands in them.
use Rattle.std.proofs.Common.{◌≡◌, ℕ, zero, suc, ◌+◌, ◌<◌, ◌≤◌, Bool, true, false, cond, nat_eq, List, [], ◌∷◌, map, flat_map, length, Option, Some, None, refl, sym, ap, ◌∙◌, inl, inr, arith}
use Rattle.std.proofs.lemmas.Bool.{eqb-true, eq-eqb}
use Rattle.std.specs.List.{cons_option, filter, range_with_len, slice_get}
use Rattle.vfa_ir.specs.declared.functions.Block.{Block}
use Rattle.vfa_ir.specs.declared.functions.Function.{Function}
use Rattle.vfa_ir.specs.declared.functions.Param.{Param}
use Rattle.vfa_ir.specs.PhisFit.{targets}
use Rattle.vfa_ir.specs.Printable.{block_call_places, block_ids}
use Rattle.vfa_ir.specs.Walks.{IsEdge, is_in}
use Rattle.vfa_mean.specs.Refines.{Refines}
use Rattle.vfa_mean.specs.Renaming.{at_places}
use Rattle.vfa_mean.specs.Numbering.{Covers, MayBeNumbered, block_targets, kept_blocks, kept_numbers, numbered, text_order}
use Rattle.vfa_mean.proofs.FreshOperands.Definitions.{first_or_rest, in_first, in_left, in_rest, in_right}
use Rattle.vfa_mean.proofs.RenamedRuns.{renaming_refines, renaming_is_refined}

-- ---- numbers that pass a test, and ranges

pub record Passes (keeps : ℕ → Bool) (n : ℕ) (xs : List ℕ) : Type 0 where
  pub kept : keeps n ≡ true
  pub among : is_in n xs ≡ true

pub from_filter : (keeps : ℕ → Bool) (n : ℕ) (xs : List ℕ) → is_in n (filter keeps xs) ≡ true → Passes keeps n xs
from_filter keeps n [] h = absurd (cc)
from_filter keeps n (x ∷ xs) h = by (keeps x) refl h (from_filter keeps n xs)
  where
    by : (t : Bool) → keeps x ≡ t → is_in n (cond t (x ∷ filter keeps xs) (filter keeps xs)) ≡ true →
        (is_in n (filter keeps xs) ≡ true → Passes keeps n xs) → Passes keeps n (x ∷ xs)
    by true e k again = elim (first_or_rest n x (filter keeps xs) k) [
      | inl s ↦ record { kept = ap keeps s ∙ e; among = in_first n x xs s }
      | inr t ↦ let p = again t in record { kept = p.kept; among = in_rest n x xs p.among }
    ]
    by false e k again = let p = again k in record { kept = p.kept; among = in_rest n x xs p.among }

pub to_filter : (keeps : ℕ → Bool) (n : ℕ) (xs : List ℕ) → keeps n ≡ true → is_in n xs ≡ true → is_in n (filter keeps xs) ≡ true
to_filter keeps n [] k h = h
to_filter keeps n (x ∷ xs) k h = by (keeps x) refl (to_filter keeps n xs k)
  where
    by : (t : Bool) → keeps x ≡ t → (is_in n xs ≡ true → is_in n (filter keeps xs) ≡ true) →
        is_in n (cond t (x ∷ filter keeps xs) (filter keeps xs)) ≡ true
    by true e again = elim (first_or_rest n x xs h) [
      | inl s ↦ in_first n x (filter keeps xs) s
      | inr t ↦ in_rest n x (filter keeps xs) (again t)
    ]
    by false e again = elim (first_or_rest n x xs h) [
      | inl s ↦ absurd (let f : keeps n ≡ keeps x = ap keeps s in cc)
      | inr t ↦ again t
    ]

pub from_range : (a n x : ℕ) → is_in x (range_with_len a n) ≡ true → x < a + n
from_range a zero x h = absurd (cc)
from_range a (suc n) x h = elim (first_or_rest x a (range_with_len (a + 1) n) h) [
  | inl s ↦ omega arith
  | inr t ↦ let below = from_range (a + 1) n x t in omega arith
]

pub to_range : (a n x : ℕ) → a ≤ x → x < a + n → is_in x (range_with_len a n) ≡ true
to_range a zero x l h = absurd (omega arith)
to_range a (suc n) x l h = by (nat_eq x a) refl (to_range (a + 1) n x)
  where
    apart : nat_eq x a ≡ false → x ≡ a → ⊥
    apart e s = let f = eq-eqb x a s in cc

    by : (t : Bool) → nat_eq x a ≡ t → (a + 1 ≤ x → x < a + 1 + n → is_in x (range_with_len (a + 1) n) ≡ true) →
        is_in x (a ∷ range_with_len (a + 1) n) ≡ true
    by true e again = in_first x a (range_with_len (a + 1) n) (eqb-true x a e)
    by false e again =
        let other = apart e in in_rest x a (range_with_len (a + 1) n) (again (omega (arith, other)) (omega arith))

pub record IsKept (f : Function) (keeps : ℕ → Bool) (b : ℕ) : Type 0 where
  pub kept : keeps b ≡ true
  pub within : b < length f.blocks

pub kept_number : (f : Function) (keeps : ℕ → Bool) (b : ℕ) → is_in b (kept_numbers f keeps) ≡ true → IsKept f keeps b
kept_number f keeps b h =
    let p = from_filter keeps b (range_with_len 0 (length f.blocks)) h in
    let below = from_range 0 (length f.blocks) b p.among in
    record { kept = p.kept; within = omega arith }

pub number_kept : (f : Function) (keeps : ℕ → Bool) (b : ℕ) → keeps b ≡ true → b < length f.blocks → is_in b (kept_numbers f keeps) ≡ true
number_kept f keeps b k l = to_filter keeps b (range_with_len 0 (length f.blocks)) k (to_range 0 (length f.blocks) b (omega arith) (omega arith))

-- ---- what stands in kept blocks

-- a member of what a kept block has is a member of what the kept blocks have
pub in_block : (g : Block → List ℕ) (blocks : List Block) (places : List ℕ) (b : ℕ) (block : Block) (n : ℕ) → is_in b places ≡ true →
    slice_get blocks b ≡ Some block → is_in n (g block) ≡ true → is_in n (flat_map g (at_places blocks places)) ≡ true
in_block g blocks [] b block n there is h = absurd (cc)
in_block g blocks (m ∷ places) b block n there is h = elim (first_or_rest b m places there) [
  | inl s ↦
      let first : slice_get blocks m ≡ Some block = ap (slice_get blocks) (sym s) ∙ is in
      ap (λ o. is_in n (flat_map g (cons_option o (at_places blocks places)))) first ∙ in_left n (g block) (flat_map g (at_places blocks places)) h
  | inr t ↦ behind (slice_get blocks m) (in_block g blocks places b block n t is h)
]
  where
    behind : (o : Option Block) → is_in n (flat_map g (at_places blocks places)) ≡ true → is_in n (flat_map g (cons_option o (at_places blocks places))) ≡ true
    behind None k = k
    behind (Some x) k = in_right n (g x) (flat_map g (at_places blocks places)) k

first_kept : (keeps : ℕ → Bool) (n : ℕ) → 0 < n → keeps 0 ≡ true → slice_get (filter keeps (range_with_len 0 n)) 0 ≡ Some 0
first_kept keeps zero l k = absurd (omega arith)
first_kept keeps (suc n) l k =
    let rest : List ℕ = filter keeps (range_with_len 1 n) in
    ap (λ t. slice_get (cond t (0 ∷ rest) rest) 0) k

-- a target of a block is the end of an edge
edge_of : (f : Function) (b : ℕ) (block : Block) (target : ℕ) → slice_get f.blocks b ≡ Some block → is_in target (block_targets block) ≡ true →
    IsEdge f b target
edge_of f b block target is h = ap (λ o. is_in target (elim o [ None ↦ [] | Some x ↦ map (λ t. t.0) (targets x.term) ])) is ∙ h

pub covers_kept : (f : Function) (keeps : ℕ → Bool) → MayBeNumbered f keeps → Covers (text_order f keeps) f
covers_kept f keeps h =
    let params : List ℕ = map (λ (p : Param). p.value.0) f.params in
    record {
      values = h.values;
      blocks = λ b there. (kept_number f keeps b there).within;
      calls = h.calls;
      entry = first_kept keeps (length f.blocks) h.some h.entry;
      parameters = λ n t. in_left n params (flat_map block_ids (kept_blocks f keeps)) t;
      each_block = λ b block there is. record {
        results = λ n t. in_right n params (flat_map block_ids (kept_blocks f keeps)) (in_block block_ids f.blocks (kept_numbers f keeps) b block n there is t);
        calls = λ n t. in_block block_call_places f.blocks (kept_numbers f keeps) b block n there is t;
        targets = λ n t.
            let to = h.edges b n (kept_number f keeps b there).kept (edge_of f b block n is t) in
            number_kept f keeps n to.0 to.1;
      };
    }

pub numbering_refines : (f : Function) (keeps : ℕ → Bool) → MayBeNumbered f keeps → Refines f (numbered f keeps)
numbering_refines f keeps h = renaming_refines f (text_order f keeps) (covers_kept f keeps h)

pub numbering_is_refined : (f : Function) (keeps : ℕ → Bool) → MayBeNumbered f keeps → Refines (numbered f keeps) f
numbering_is_refined f keeps h = renaming_is_refined f (text_order f keeps) (covers_kept f keeps h)
