-- What is kept of a rewritten function defines each name once, names of the function and new ones, and makes each call once.
use Rattle.std.proofs.Common.{◌≡◌, ◌<◌, ◌≤◌, ℕ, zero, suc, ◌+◌, ◌*◌, ◌++◌, Bool, true, false, cond, nat_eq, All, Option, Some, None, List, [], ◌∷◌, map, flat_map, length, slice_get, refl, sym, ap, ◌∙◌, subst, inl, inr, ◌⊎◌, arith, ne_eqb}
use Rattle.std.specs.Prelude.{filter}
use Rattle.std.specs.List.{AllByRecursion, IsDistinct, cons_option, range_with_len}
use Rattle.std.proofs.lemmas.List.Elements.{All-from_recursion}
use Rattle.vfa_ir.specs.declared.functions.Block.{Block}
use Rattle.vfa_ir.specs.declared.functions.Function.{Function}
use Rattle.vfa_ir.specs.declared.functions.Param.{Param}
use Rattle.vfa_ir.specs.Printable.{block_ids, block_call_places}
use Rattle.vfa_ir.specs.Words.{is_in}
use Rattle.vfa_mean.specs.Numbering.{kept_numbers, kept_blocks, kept_values, kept_calls}
use Rattle.vfa_mean.specs.Renaming.{at_places}
use Rattle.vfa_mean.proofs.FreshOperands.Definitions.{in_cases, first_or_rest, in_first, in_rest, range_distinct}
use Rattle.vfa_mean.proofs.KeptParts.{kept_number}
use Rattle.vfa_rewrite.specs.Findings.{Findings}
use Rattle.vfa_rewrite.specs.Rewritten.{Marks, with_numbers, rewritten_block, emptied, if_block_left, block_left, rewritten}
use Rattle.vfa_rewrite.proofs.BlocksLeft.{flat_both, block_ids_left, block_places_left}
use Rattle.vfa_rewrite.proofs.EdgesLeft.{left_block, reached_block}
use Rattle.vfa_rewrite.proofs.LeftLines.{Known}
use Rattle.vfa_rewrite.proofs.LeftParts.{with_fresh}
use Rattle.vfa_rewrite.proofs.Sublists.{IsSublist, end, skip, keep, sublist_append, sublist_self, sublist_none, sublist_behind, sublist_trans, sublist_in, sublist_distinct, sublist_length}

-- ---- names with those that narrowing may add for them

-- such a name is one of the names, or stands behind all of them
abbrev IsFreshFrom : ℕ → ℕ → ℕ → ℕ → Type 0
IsFreshFrom n a k z = ((a ≤ z) × (z < a + k)) ⊎ ((n + 3 * a ≤ z) × (z < n + 3 * (a + k)))

fresh_within : (n a k z : ℕ) → a + k ≤ n → is_in z (flat_map (with_fresh n) (range_with_len a k)) ≡ true → ((a ≤ z) × (z < a + k)) ⊎ ((n + 3 * a ≤ z) × (z < n + 3 * (a + k)))
fresh_within n a zero z l t = absurd (cc)
fresh_within n a (suc k) z l t = elim (in_cases z (with_fresh n a) (flat_map (with_fresh n) (range_with_len (a + 1) k)) t) [
  | inr r ↦ elim (fresh_within n (a + 1) k z (omega (arith, l)) r) [
    | inl h ↦ let p = h.0 in let q = h.1 in inl (omega (arith, p), omega (arith, q))
    | inr h ↦ let p = h.0 in let q = h.1 in inr (omega (arith, p), omega (arith, q))
  ]
  | inl h ↦ elim (first_or_rest z (n + 3 * a + 0) ((n + 3 * a + 1) ∷ ((n + 3 * a + 2) ∷ (a ∷ []))) h) [
    | inl e ↦ inr (omega (arith, e), omega (arith, e))
    | inr h ↦ elim (first_or_rest z (n + 3 * a + 1) ((n + 3 * a + 2) ∷ (a ∷ [])) h) [
      | inl e ↦ inr (omega (arith, e), omega (arith, e))
      | inr h ↦ elim (first_or_rest z (n + 3 * a + 2) (a ∷ []) h) [
        | inl e ↦ inr (omega (arith, e), omega (arith, e))
        | inr h ↦ elim (first_or_rest z a [] h) [
          | inl e ↦ inl (omega (arith, e), omega (arith, e))
          | inr r ↦ absurd (let s : false ≡ true = r in cc)
        ]
      ]
    ]
  ]
]

all_apart : (y : ℕ) (xs : List ℕ) → ((z : ℕ) → is_in z xs ≡ true → y ≡ z → ⊥) → AllByRecursion (λ z. nat_eq y z ≡ false) xs
all_apart y [] h = tt
all_apart y (x ∷ xs) h = (ne_eqb y x (h x (in_first x x xs refl)), all_apart y xs (λ z t. h z (in_rest z x xs t)))

fresh_distinct : (n a k : ℕ) → a + k ≤ n → IsDistinct nat_eq (flat_map (with_fresh n) (range_with_len a k))
unfolding IsDistinct
fresh_distinct n a zero l = tt
fresh_distinct n a (suc k) l =
    let rest = flat_map (with_fresh n) (range_with_len (a + 1) k) in
    let far : (z : ℕ) → is_in z rest ≡ true → IsFreshFrom n (a + 1) k z = λ z t. fresh_within n (a + 1) k z (omega (arith, l)) t in
    let new_apart : (j : ℕ) → j < 3 → AllByRecursion (λ z. nat_eq (n + 3 * a + j) z ≡ false) rest =
    λ j less. all_apart (n + 3 * a + j) rest (λ z t e. elim (far z t) [
      | inl h ↦ let q = h.1 in omega (arith, l, q, e)
      | inr h ↦ let p = h.0 in omega (arith, less, p, e)
    ]) in
    let own_apart : AllByRecursion (λ z. nat_eq a z ≡ false) rest =
    all_apart a rest (λ z t e. elim (far z t) [
      | inl h ↦ let p = h.0 in omega (arith, p, e)
      | inr h ↦ let p = h.0 in omega (arith, p, e)
    ]) in (
      (
        ne_eqb (n + 3 * a + 0) (n + 3 * a + 1) (λ e. omega (arith, e)),
        (ne_eqb (n + 3 * a + 0) (n + 3 * a + 2) (λ e. omega (arith, e)), (ne_eqb (n + 3 * a + 0) a (λ e. omega (arith, l, e)), new_apart 0 (omega arith))),
      ),
      (
        (ne_eqb (n + 3 * a + 1) (n + 3 * a + 2) (λ e. omega (arith, e)), (ne_eqb (n + 3 * a + 1) a (λ e. omega (arith, l, e)), new_apart 1 (omega arith))),
        ((ne_eqb (n + 3 * a + 2) a (λ e. omega (arith, l, e)), new_apart 2 (omega arith)), (own_apart, fresh_distinct n (a + 1) k (omega (arith, l)))),
      ),
    )

fresh_count : (n : ℕ) (xs : List ℕ) → length (flat_map (with_fresh n) xs) ≡ 4 * length xs
fresh_count n [] = refl
fresh_count n (x ∷ xs) = let e = fresh_count n xs in omega (arith, e)

own_names : (n : ℕ) (xs : List ℕ) → IsSublist xs (flat_map (with_fresh n) xs)
own_names n [] = end
own_names n (x ∷ xs) = skip _ _ _ (skip _ _ _ (skip _ _ _ (keep x _ _ (own_names n xs))))

pub range_count : (a k : ℕ) → length (range_with_len a k) ≡ k
range_count a zero = refl
range_count a (suc k) = ap suc (range_count (a + 1) k)

-- ---- kept blocks

each_at : (P : Block → Type 0) (all : List Block) (places : List ℕ) → ((n : ℕ) (block : Block) → is_in n places ≡ true → slice_get all n ≡ Some block → P block) → AllByRecursion P (at_places all places)
each_at P all [] h = tt
each_at P all (n ∷ places) h = by (slice_get all n) refl (each_at P all places (λ k block t e. h k block (in_rest k n places t) e))
  where
    by : (o : Option Block) → slice_get all n ≡ o → AllByRecursion P (at_places all places) → AllByRecursion P (cons_option o (at_places all places))
    by None e later = later
    by (Some block) e later = (h n block (in_first n n places refl) e, later)

-- what a kept block has
pub record IsInKept (h : Block → List ℕ) (all : List Block) (places : List ℕ) (x : ℕ) : Type 0 where
  pub number : ℕ
  pub kept : is_in number places ≡ true
  pub block : Block
  pub there : slice_get all number ≡ Some block
  pub inside : is_in x (h block) ≡ true

pub out_kept : (h : Block → List ℕ) (all : List Block) (places : List ℕ) (x : ℕ) → is_in x (flat_map h (at_places all places)) ≡ true → IsInKept h all places x
out_kept h all [] x t = absurd (cc)
out_kept h all (n ∷ places) x t = by (slice_get all n) refl t (out_kept h all places x)
  where
    later : IsInKept h all places x → IsInKept h all (n ∷ places) x
    later r = record { number = r.number; kept = in_rest r.number n places r.kept; block = r.block; there = r.there; inside = r.inside }

    by : (o : Option Block) → slice_get all n ≡ o → is_in x (flat_map h (cons_option o (at_places all places))) ≡ true →
        (is_in x (flat_map h (at_places all places)) ≡ true → IsInKept h all places x) → IsInKept h all (n ∷ places) x
    by None e t again = later (again t)
    by (Some block) e t again = elim (in_cases x (h block) (flat_map h (at_places all places)) t) [
      | inl k ↦ record { number = n; kept = in_first n n places refl; block = block; there = e; inside = k }
      | inr k ↦ later (again k)
    ]

filtered : (h : Block → List ℕ) (keeps : ℕ → Bool) (all xs : List Block) (a : ℕ) → ((j : ℕ) → slice_get all (a + j) ≡ slice_get xs j) →
    IsSublist (flat_map h (at_places all (filter keeps (range_with_len a (length xs))))) (flat_map h xs)
filtered h keeps all [] a same = end
filtered h keeps all (x ∷ xs) a same = by (keeps a) (filtered h keeps all xs (a + 1) (λ j. let z : a + 1 + j ≡ a + suc j = omega arith in ap (slice_get all) z ∙ same (suc j)))
  where
    first : slice_get all a ≡ Some x
    first = let z : a ≡ a + 0 = omega arith in ap (slice_get all) z ∙ same 0

    by : (t : Bool) → IsSublist (flat_map h (at_places all (filter keeps (range_with_len (a + 1) (length xs))))) (flat_map h xs) →
        IsSublist (flat_map h (at_places all (cond t (a ∷ filter keeps (range_with_len (a + 1) (length xs))) (filter keeps (range_with_len (a + 1) (length xs)))))) (h x ++ flat_map h xs)
    by true s = subst (λ o. IsSublist (flat_map h (cons_option o (at_places all (filter keeps (range_with_len (a + 1) (length xs)))))) (h x ++ flat_map h xs)) (sym first)
        (sublist_append (h x) (h x) _ _ (sublist_self (h x)) s)
    by false s = sublist_behind _ _ (h x) s

pub kept_among : (h : Block → List ℕ) (g : Function) (keeps : ℕ → Bool) → IsSublist (flat_map h (kept_blocks g keeps)) (flat_map h g.blocks)
kept_among h g keeps = filtered h keeps g.blocks g.blocks 0 (λ j. let z : 0 + j ≡ j = omega arith in ap (slice_get g.blocks) z)

module _ (f : Function) (found : Findings) (m : Marks) (known : Known f found m) where
  pub at_kept : (P : Block → Type 0) → ((b : ℕ) (block : Block) → slice_get f.blocks b ≡ Some block → m.reached b ≡ true → P (rewritten_block f m b block)) →
      All P (kept_blocks (rewritten f m) m.reached)
  at_kept P h = All-from_recursion P (kept_blocks (rewritten f m) m.reached)
      (each_at P (rewritten f m).blocks (kept_numbers (rewritten f m) m.reached) (λ b block' t there.
      let l = left_block f m b block' there in
      let r = (kept_number (rewritten f m) m.reached b t).kept in
      subst P (sym (reached_block f m b l.block r) ∙ l.is) (h b l.block l.there r)))

  module _ (one more : Block → List ℕ) (nothing : (c : Block) → one (emptied c) ≡ [])
      (each : (b : ℕ) (block : Block) → slice_get f.blocks b ≡ Some block → m.reached b ≡ true → IsSublist (one (rewritten_block f m b block)) (more block)) where
    all_left : (blocks : List Block) (n : ℕ) → ((j : ℕ) (c : Block) → slice_get blocks j ≡ Some c → slice_get f.blocks (n + j) ≡ Some c) →
        IsSublist (flat_map one (with_numbers (block_left f m) n blocks)) (flat_map more blocks)
    all_left [] n at = end
    all_left (c ∷ blocks) n at =
        sublist_append (one (block_left f m n c)) (more c) _ _ (by (m.reached n) refl (let z : n + 0 ≡ n = omega arith in sym (ap (slice_get f.blocks) z) ∙ at 0 c refl))
        (all_left blocks (suc n) (λ j d e. let z : suc n + j ≡ n + suc j = omega arith in ap (slice_get f.blocks) z ∙ at (suc j) d e))
      where
        by : (t : Bool) → m.reached n ≡ t → slice_get f.blocks n ≡ Some c → IsSublist (one (if_block_left t (rewritten_block f m n c) (emptied c))) (more c)
        by true r there = each n c there r
        by false r there = subst (λ xs. IsSublist xs (more c)) (sym (nothing c)) (sublist_none (more c))

    pub left_among : IsSublist (flat_map one (kept_blocks (rewritten f m) m.reached)) (flat_map more f.blocks)
    left_among = sublist_trans _ _ _ (kept_among one (rewritten f m) m.reached)
        (all_left f.blocks 0 (λ j c e. let z : 0 + j ≡ j = omega arith in ap (slice_get f.blocks) z ∙ e))

  each_flat : (n : ℕ) (blocks : List Block) → flat_map (λ (c : Block). flat_map (with_fresh n) (block_ids c)) blocks ≡ flat_map (with_fresh n) (flat_map block_ids blocks)
  each_flat n [] = refl
  each_flat n (c ∷ blocks) = ap (λ rest. flat_map (with_fresh n) (block_ids c) ++ rest) (each_flat n blocks) ∙ sym (flat_both (with_fresh n) (block_ids c) (flat_map block_ids blocks))

  -- the names that are kept are names of the function, and new ones for them
  pub names_among : IsSublist (kept_values (rewritten f m) m.reached) (flat_map (with_fresh (length f.values)) (range_with_len 0 (length f.values)))
  names_among =
      let results = subst (IsSublist (flat_map block_ids (kept_blocks (rewritten f m) m.reached))) (each_flat (length f.values) f.blocks)
      (left_among block_ids (λ (c : Block). flat_map (with_fresh (length f.values)) (block_ids c)) (λ c. refl) (block_ids_left f found m known)) in
      subst (λ xs. IsSublist (kept_values (rewritten f m) m.reached) (flat_map (with_fresh (length f.values)) xs)) known.printable.ids
      (subst (IsSublist (kept_values (rewritten f m) m.reached)) (sym (flat_both (with_fresh (length f.values)) (map (λ (p : Param). p.value.0) f.params) (flat_map block_ids f.blocks)))
      (sublist_append (map (λ (p : Param). p.value.0) f.params) _ _ _ (own_names (length f.values) (map (λ (p : Param). p.value.0) f.params)) results))

  pub names_distinct : IsDistinct nat_eq (kept_values (rewritten f m) m.reached)
  names_distinct = sublist_distinct _ _ names_among (fresh_distinct (length f.values) 0 (length f.values) (omega arith))

  pub name_below : (v : ℕ) → is_in v (kept_values (rewritten f m) m.reached) ≡ true → v < length f.values + 3 * length f.values
  name_below v t = elim (fresh_within (length f.values) 0 (length f.values) v (omega arith) (sublist_in _ _ v names_among t)) [
    | inl h ↦ let q = h.1 in omega (arith, q)
    | inr h ↦ let q = h.1 in omega (arith, q)
  ]

  pub names_count : length (kept_values (rewritten f m) m.reached) ≤ 4 * length f.values
  names_count =
      let l = sublist_length _ _ names_among in
      let c = fresh_count (length f.values) (range_with_len 0 (length f.values)) in
      let r = range_count 0 (length f.values) in
      omega (arith, l, c, r)

  pub calls_among : IsSublist (kept_calls (rewritten f m) m.reached) (range_with_len 0 (length f.calls))
  calls_among =
      subst (IsSublist (kept_calls (rewritten f m) m.reached)) known.printable.call_places
      (left_among block_call_places block_call_places (λ c. refl) (block_places_left f found m known))

  pub calls_distinct : IsDistinct nat_eq (kept_calls (rewritten f m) m.reached)
  calls_distinct = sublist_distinct _ _ calls_among (range_distinct 0 (length f.calls))
