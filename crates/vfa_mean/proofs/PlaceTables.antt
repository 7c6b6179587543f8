-- Tables of places, filled from the last number on.
use Rattle.std.proofs.Common.{◌≡◌, ℕ, zero, suc, ◌+◌, ◌<◌, ◌≤◌, ◌^◌, Bool, true, false, ◌||◌, nat_eq, if◌then◌else◌, List, [], ◌∷◌, drop, length, replicate, set, get_or, refl, sym, ap, ◌∙◌, subst, inl, inr, ◌⊎◌, arith, add-one}
use Rattle.std.proofs.Math.Seq.{drop-cons}
use Rattle.std.proofs.lemmas.Bool.{eqb-true, eq-eqb}
use Rattle.std.proofs.lemmas.Cmp.{nat_eq_equiv}
use Rattle.std.proofs.lemmas.List.{get_or-set_other, get_or-set_same, length-replicate, length-set}
use Rattle.std.proofs.lemmas.List.FromFn.{length-range_with_len}
use Rattle.std.proofs.lemmas.Map.Made.{length-le_from_is_member}
use Rattle.std.proofs.lemmas.Option.{get_or_from_slice_get}
use Rattle.std.specs.List.{AllByRecursion, IsDistinct, range_with_len}
use Rattle.vfa_ir.specs.Walks.{is_in}
use Rattle.vfa_mean.specs.Renaming.{place_among}
use Rattle.vfa_mean.specs.Places.{ArePlaces, no_place}
use Rattle.vfa_mean.proofs.FreshOperands.Definitions.{first_or_rest, in_first, in_rest}
use Rattle.vfa_mean.proofs.KeptParts.{to_range}
use Rattle.vfa_mean.proofs.PlacesAmong.{nat_eq_sym, place_found, place_past}

-- the place of a number from a place of the list on, or else none
abbrev pub place_from : ℕ → ℕ → List ℕ → ℕ → ℕ
place_from none place numbers n = if is_in n numbers then place + place_among numbers n else none

-- the table has the places of the numbers from this place on
pub record TableFrom (numbers table : List ℕ) (count place : ℕ) : Type 0 where
  pub long : length table ≡ count
  pub above : place ≤ length numbers
  pub each : (n : ℕ) → get_or table n (no_place numbers) ≡ place_from (no_place numbers) place (drop place numbers) n

-- ---- how many distinct numbers of 32 bits there may be

abbrev AreBelow : ℕ → List ℕ → Type 0
AreBelow limit numbers = (n : ℕ) → is_in n numbers ≡ true → n < limit

few_of : (limit : ℕ) (numbers : List ℕ) → IsDistinct nat_eq numbers → AreBelow limit numbers → length numbers ≤ limit
few_of limit numbers once below =
    let fits : length numbers ≤ length (range_with_len 0 limit) =
    length-le_from_is_member nat_eq_equiv numbers (range_with_len 0 limit) once
    (λ q t. let small = below q t in to_range 0 limit q (omega arith) (omega arith)) in
    subst (λ n. length numbers ≤ n) (length-range_with_len 0 limit) fits

numbers_below : (limit : ℕ) (numbers : List ℕ) → ((i : ℕ) → get_or numbers i 0 < limit) → AreBelow limit numbers
numbers_below limit numbers below n t =
    let here : get_or numbers (place_among numbers n) 0 ≡ n = get_or_from_slice_get numbers (place_among numbers n) n 0 (place_found numbers n t) in
    subst (λ m. m < limit) here (below (place_among numbers n))

pub few_numbers : (numbers : List ℕ) → IsDistinct nat_eq numbers → ((i : ℕ) → get_or numbers i 0 < 2 ^ 32) → length numbers ≤ 2 ^ 32
few_numbers numbers once small = few_of (2 ^ 32) numbers once (numbers_below (2 ^ 32) numbers small)

-- where a number of 32 bits is not there they are fewer than all
apart_from : (n : ℕ) (numbers : List ℕ) → is_in n numbers ≡ false → AllByRecursion (λ m. nat_eq n m ≡ false) numbers
apart_from n [] h = tt
apart_from n (x ∷ numbers) h = by (nat_eq n x) refl (is_in n numbers) refl (apart_from n numbers)
  where
    by : (t : Bool) → nat_eq n x ≡ t → (u : Bool) → is_in n numbers ≡ u → (is_in n numbers ≡ false → AllByRecursion (λ m. nat_eq n m ≡ false) numbers) →
        (nat_eq n x ≡ false) × AllByRecursion (λ m. nat_eq n m ≡ false) numbers
    by true e u k again = absurd (let s = in_first n x numbers (eqb-true n x e) in cc)
    by false e true k again = absurd (let s = in_rest n x numbers k in cc)
    by false e false k again = (e, again k)

fewer : (limit : ℕ) (numbers : List ℕ) (n : ℕ) → IsDistinct nat_eq numbers → ((i : ℕ) → get_or numbers i 0 < limit) → n < limit →
    is_in n numbers ≡ false → suc (length numbers) ≤ limit
unfolding IsDistinct
fewer limit numbers n once small below gone =
    few_of limit (n ∷ numbers) (apart_from n numbers gone, once)
    (λ m t. elim (first_or_rest m n numbers t) [ inl e ↦ subst (λ k. k < limit) (sym e) below | inr u ↦ numbers_below limit numbers small m u ])

-- ---- the table

all_none : (count n none : ℕ) → get_or (replicate count none) n none ≡ none
all_none zero n none = refl
all_none (suc count) zero none = refl
all_none (suc count) (suc n) none = all_none count n none

nothing_left : (xs : List ℕ) → drop (length xs) xs ≡ []
nothing_left [] = refl
nothing_left (x ∷ xs) = nothing_left xs

pub table_none : (numbers table : List ℕ) (count : ℕ) → table ≡ replicate count (no_place numbers) → TableFrom numbers table count (length numbers)
table_none numbers table count e = record {
  long = ap length e ∙ length-replicate count (no_place numbers);
  above = omega arith;
  each = λ n. ap (λ t. get_or t n (no_place numbers)) e ∙ all_none count n (no_place numbers)
      ∙ sym (ap (λ xs. place_from (no_place numbers) (length numbers) xs n) (nothing_left numbers));
}

place_first : (none i x n : ℕ) (rest : List ℕ) → (nat_eq n x ≡ true) ⊎ (nat_eq n x ≡ false) →
    place_from none i (x ∷ rest) n ≡ (if nat_eq n x then i else place_from none (i + 1) rest n)
place_first none i x n rest (inl e) =
    let same : nat_eq x n ≡ true = nat_eq_sym x n ∙ e in
    let there : is_in n (x ∷ rest) ≡ true = in_first n x rest (eqb-true n x e) in
    let none_more : i + 0 ≡ i = omega arith in
    ap (λ t. if t then i + place_among (x ∷ rest) n else none) there
    ∙ ap (λ t. i + (if t then 0 else suc (place_among rest n))) same
    ∙ none_more
    ∙ sym (ap (λ t. if t then i else place_from none (i + 1) rest n) e)
place_first none i x n rest (inr e) =
    let other : nat_eq x n ≡ false = nat_eq_sym x n ∙ e in
    let one_more : i + suc (place_among rest n) ≡ i + 1 + place_among rest n = omega arith in
    ap (λ t. if t || is_in n rest then i + place_among (x ∷ rest) n else none) e
    ∙ ap (λ t. if is_in n rest then i + (if t then 0 else suc (place_among rest n)) else none) other
    ∙ ap (λ k. if is_in n rest then k else none) one_more
    ∙ sym (ap (λ t. if t then i else place_from none (i + 1) rest n) e)

true_or_false : (b : Bool) → (b ≡ true) ⊎ (b ≡ false)
true_or_false true = inl refl
true_or_false false = inr refl

set_test : (table : List ℕ) (x i n none : ℕ) → x < length table → (nat_eq n x ≡ true) ⊎ (nat_eq n x ≡ false) →
    get_or (set table x i) n none ≡ (if nat_eq n x then i else get_or table n none)
set_test table x i n none l (inl e) =
    ap (λ m. get_or (set table x i) m none) (eqb-true n x e) ∙ get_or-set_same table x i none l ∙ sym (ap (λ t. if t then i else get_or table n none) e)
set_test table x i n none l (inr e) =
    get_or-set_other table x n i none (λ s. let t = eq-eqb n x s in cc) ∙ sym (ap (λ t. if t then i else get_or table n none) e)

pub table_more : (numbers table : List ℕ) (count place i : ℕ) → place ≡ i + 1 → TableFrom numbers table count place → get_or numbers i 0 < count →
    TableFrom numbers (set table (get_or numbers i 0) i) count i
table_more numbers table count place i next h below =
    let x : ℕ = get_or numbers i 0 in
    let long = h.long in
    let above = h.above in
    let none : ℕ = no_place numbers in
    let rest : drop i numbers ≡ x ∷ drop (i + 1) numbers = drop-cons numbers i 0 (omega arith) ∙ ap (λ k. x ∷ drop k numbers) (sym (add-one i)) in
    record {
      long = length-set table x i ∙ long;
      above = omega arith;
      each = λ n.
          let test = true_or_false (nat_eq n x) in
          set_test table x i n none (omega arith) test
          ∙ ap (λ y. if nat_eq n x then i else y) (h.each n ∙ ap (λ p. place_from none p (drop p numbers) n) next)
          ∙ sym (place_first none i x n (drop (i + 1) numbers) test)
          ∙ sym (ap (λ xs. place_from none i xs n) rest);
    }

pub table_done : (numbers table : List ℕ) (count place : ℕ) → place ≤ 0 → TableFrom numbers table count place → IsDistinct nat_eq numbers →
    ((i : ℕ) → get_or numbers i 0 < 2 ^ 32) → ArePlaces numbers table
table_done numbers table count place end h once small n below =
    let first : place ≡ 0 = omega arith in
    h.each n ∙ ap (λ p. place_from (no_place numbers) p (drop p numbers) n) first ∙ by (is_in n numbers) refl
  where
    by : (t : Bool) → is_in n numbers ≡ t → (if t then 0 + place_among numbers n else no_place numbers) ≡ place_among numbers n
    by true there = omega arith
    by false gone =
        let few = fewer (2 ^ 32) numbers n once small below gone in
        let all : no_place numbers ≡ length numbers = omega arith in
        all ∙ sym (place_past numbers n gone)

pub number_there : (numbers : List ℕ) (i : ℕ) → i < length numbers → is_in (get_or numbers i 0) numbers ≡ true
number_there [] i l = absurd (omega arith)
number_there (x ∷ numbers) zero l = in_first x x numbers refl
number_there (x ∷ numbers) (suc i) l = in_rest (get_or numbers i 0) x numbers (number_there numbers i (omega arith))
