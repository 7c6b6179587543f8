-- What is known over a set of amounts is what is known alike for each of them.
use Rattle.std.proofs.Common.{◌≡◌, ℕ, ◌+◌, ◌-◌, ◌*◌, ◌/◌, ◌%◌, ◌^◌, ◌<◌, ◌≤◌, Bool, min, max, refl, sym, ◌∙◌, ap, subst, arith, ◌⊎◌, inl, inr, bit_and, bit_or, bit_xor}
use Rattle.std.specs.Int.{bit_at, w128, trailing_zeros, trailing_ones}
use Rattle.std.proofs.lemmas.Bool.{cases_eq, cases_lt}
use Rattle.std.proofs.lemmas.Nat.{pow_pos, pow_below, or_disjoint, one_shl, shr_le}
use Rattle.std.proofs.lemmas.Nat.Bits.{bit_at_mask_inside, bit_at_mask_below, bit_at_mask_above, ones_shr, bit_at-lt, bit_at_and, bit_at_or, bit_at_xor, bit_at_above, bit_at-zero, same_from_bits, bit_at-trailing_zeros}
use Rattle.vfa_dom.specs.Best.{Masks, zeros_of, ones_of, best_of, IsBest}
use Rattle.vfa_dom.specs.Results.{images, results_over, IsImage, IsResultOver}
use Rattle.vfa_dom.proofs.Bests.{digit_cases, best_has}
use Rattle.vfa_dom.proofs.ResultSets.{images_test, best_over}
use Rattle.vfa_word.specs.Numbers.{IsWidth}
use Rattle.vfa_known.specs.declared.shift.Shift.{Shift}
use Rattle.vfa_known.specs.AmountRuns.{IsLowestRun, IsRest, AreKnownOverRun}
use Rattle.vfa_known.specs.Shift.{shift_of}
use Rattle.vfa_known.proofs.Places.{shift_moves, bit_at_shr}
use Rattle.vfa_known.proofs.Products.{IsOnesRun, ones_run}
use Rattle.vfa_known.proofs.Cubes.{apart_from_bits}

-- ---- a run taken out of a number

clear_from_one : (a b c : ℕ) → c ≡ (a + b) % 2 → a ≡ 1 → b ≡ 1 → c ≡ 0
clear_from_one a b c e f g = grind arith

same_with_none : (a b c : ℕ) → a < 2 → c ≡ (a + b) % 2 → b ≡ 0 → c ≡ a
same_with_none a b c l e g = grind arith

largest_of : (a b c d : ℕ) → c ≡ max a b → a ≡ d → b ≡ 0 → c ≡ d
largest_of a b c d e f g = grind arith

largest_one : (a b c : ℕ) → c ≡ max a b → a ≡ 0 → b ≡ 1 → c ≡ 1
largest_one a b c e f g = grind arith

-- where the places from lo up to below hi are ones of n, it is n without them
module _ (n lo hi : ℕ) (some : lo < hi) (inside : (t : ℕ) → lo ≤ t → t < hi → bit_at n t ≡ 1) where
  taken_here : (t : ℕ) → lo ≤ t → t < hi → bit_at (bit_xor n (2 ^ hi - 2 ^ lo)) t ≡ 0
  taken_here t from below =
      clear_from_one (bit_at n t) (bit_at (2 ^ hi - 2 ^ lo) t) (bit_at (bit_xor n (2 ^ hi - 2 ^ lo)) t) (bit_at_xor n (2 ^ hi - 2 ^ lo) t)
      (inside t from below) (bit_at_mask_inside lo hi t from below)

  mask_other : (t : ℕ) → (t < lo) ⊎ (hi ≤ t) → bit_at (2 ^ hi - 2 ^ lo) t ≡ 0
  mask_other t (inl low) = bit_at_mask_below lo hi t low
  mask_other t (inr high) = bit_at_mask_above lo hi t high

  taken_other : (t : ℕ) → (t < lo) ⊎ (hi ≤ t) → bit_at (bit_xor n (2 ^ hi - 2 ^ lo)) t ≡ bit_at n t
  taken_other t other =
      same_with_none (bit_at n t) (bit_at (2 ^ hi - 2 ^ lo) t) (bit_at (bit_xor n (2 ^ hi - 2 ^ lo)) t) (bit_at-lt n t) (bit_at_xor n (2 ^ hi - 2 ^ lo) t)
      (mask_other t other)

  place_cases : (t : ℕ) → ((lo ≤ t) × (t < hi)) ⊎ ((t < lo) ⊎ (hi ≤ t))
  place_cases t = elim (cases_lt t lo) [
    | inl low ↦ inr (inl low)
    | inr from ↦ elim (cases_lt t hi) [ inl below ↦ inl (from, below) | inr high ↦ inr (inr high) ]
  ]

  taken_less : bit_xor n (2 ^ hi - 2 ^ lo) < n
  taken_less =
      let apart : bit_and (bit_xor n (2 ^ hi - 2 ^ lo)) (2 ^ hi - 2 ^ lo) ≡ 0 = apart_from_bits (bit_xor n (2 ^ hi - 2 ^ lo)) (2 ^ hi - 2 ^ lo) (λ t one. elim (place_cases t) [
        | inl here ↦ absurd (let off = taken_here t here.0 here.1 in omega arith)
        | inr other ↦ mask_other t other
      ]) in
      let back : bit_or (bit_xor n (2 ^ hi - 2 ^ lo)) (2 ^ hi - 2 ^ lo) ≡ n = same_from_bits (bit_or (bit_xor n (2 ^ hi - 2 ^ lo)) (2 ^ hi - 2 ^ lo)) n (λ t. elim (place_cases t) [
        | inl here ↦ largest_one (bit_at (bit_xor n (2 ^ hi - 2 ^ lo)) t) (bit_at (2 ^ hi - 2 ^ lo) t) (bit_at (bit_or (bit_xor n (2 ^ hi - 2 ^ lo)) (2 ^ hi - 2 ^ lo)) t)
            (bit_at_or (bit_xor n (2 ^ hi - 2 ^ lo)) (2 ^ hi - 2 ^ lo) t) (taken_here t here.0 here.1) (bit_at_mask_inside lo hi t here.0 here.1)
            ∙ sym (inside t here.0 here.1)
        | inr other ↦ largest_of (bit_at (bit_xor n (2 ^ hi - 2 ^ lo)) t) (bit_at (2 ^ hi - 2 ^ lo) t) (bit_at (bit_or (bit_xor n (2 ^ hi - 2 ^ lo)) (2 ^ hi - 2 ^ lo)) t) (bit_at n t)
            (bit_at_or (bit_xor n (2 ^ hi - 2 ^ lo)) (2 ^ hi - 2 ^ lo) t) (taken_other t other) (mask_other t other)
      ]) in
      less_of (bit_xor n (2 ^ hi - 2 ^ lo)) (2 ^ hi - 2 ^ lo) n
      (sym (or_disjoint (bit_xor n (2 ^ hi - 2 ^ lo)) (2 ^ hi - 2 ^ lo) apart) ∙ back) (let power = pow_below lo hi some in omega arith)
    where
      less_of : (a b c : ℕ) → a + b ≡ c → 0 < b → a < c
      less_of a b c e p = omega arith

-- the rest as the code computes it
module _ (w n first count : ℕ) (width : IsWidth w) (run : IsLowestRun w n first count) where
  below_128 : first + count ≤ 128
  below_128 = let below = run.below in let most = width.most in omega arith

  up_to_is : (2 ^ 128 - 1) / 2 ^ (128 - (first + count)) ≡ 2 ^ (first + count) - 1
  up_to_is = let within = below_128 in ones_shr 128 (128 - (first + count)) (omega arith) ∙ ap (λ k. 2 ^ k - 1) (omega arith)

  first_power : 1 * 2 ^ first % 2 ^ 128 ≡ 2 ^ first
  first_power = let within = below_128 in let some = run.some in one_shl first 128 (omega arith)

  pub below_le : 1 * 2 ^ first % 2 ^ 128 - 1 ≤ (2 ^ 128 - 1) / 2 ^ (128 - (first + count))
  below_le =
      let some = run.some in let power = pow_below first (first + count) (omega arith) in
      let a = up_to_is in let b = first_power in omega arith

  mask_is : (2 ^ 128 - 1) / 2 ^ (128 - (first + count)) - (1 * 2 ^ first % 2 ^ 128 - 1) ≡ 2 ^ (first + count) - 2 ^ first
  mask_is = let a = up_to_is in let b = first_power in let some = pow_pos first in omega arith

  pub rest_is : IsRest n first count (bit_xor n ((2 ^ 128 - 1) / 2 ^ (128 - (first + count)) - (1 * 2 ^ first % 2 ^ 128 - 1)))
  rest_is = subst (λ m. IsRest n first count (bit_xor n m)) (sym mask_is) (record {
    less = taken_less n first (first + count) some_more run.inside;
    kept = λ t on. elim (place_cases n first (first + count) some_more run.inside t) [
      | inl here ↦ run.inside t here.0 here.1
      | inr other ↦ sym (taken_other n first (first + count) some_more run.inside t other) ∙ on
    ];
    clear = taken_here n first (first + count) some_more run.inside;
    taken = λ t on off. elim (place_cases n first (first + count) some_more run.inside t) [
      | inl here ↦ here
      | inr other ↦ absurd (let same = taken_other n first (first + count) some_more run.inside t other in omega arith)
    ];
  })
    where
      some_more : first < first + count
      some_more = let some = run.some in omega arith

-- ---- the masks over the amounts seen so far

-- the set of results by amount t is S t; left has the amounts that are still to come
pub record IsMeetOver (w : ℕ) (S : ℕ → ℕ → Bool) (amounts left zeros ones : ℕ) : Type 0 where
  pub left_fits : left < 2 ^ w
  pub from_amounts : (t : ℕ) → bit_at left t ≡ 1 → bit_at amounts t ≡ 1
  pub zero_all : (t i : ℕ) → bit_at amounts t ≡ 1 → bit_at left t ≡ 0 → bit_at zeros i ≡ 1 → bit_at (zeros_of w (S t)) i ≡ 1
  pub one_all : (t i : ℕ) → bit_at amounts t ≡ 1 → bit_at left t ≡ 0 → bit_at ones i ≡ 1 → bit_at (ones_of w (S t)) i ≡ 1
  pub zero_some : (i : ℕ) → i < w → bit_at zeros i ≡ 0 → (t : ℕ) × (bit_at amounts t ≡ 1) × (bit_at (zeros_of w (S t)) i ≡ 0)
  pub one_some : (i : ℕ) → i < w → bit_at ones i ≡ 0 → (t : ℕ) × (bit_at amounts t ≡ 1) × (bit_at (ones_of w (S t)) i ≡ 0)

pub best_zeros : (w : ℕ) (S : ℕ → Bool) (m : Masks) → m ≡ best_of w S → m.zeros ≡ zeros_of w S
unfolding best_of
best_zeros w S m e = ap (λ masks. masks.zeros) e

pub best_ones : (w : ℕ) (S : ℕ → Bool) (m : Masks) → m ≡ best_of w S → m.ones ≡ ones_of w S
unfolding best_of
best_ones w S m e = ap (λ masks. masks.ones) e

module _ (w : ℕ) (S : ℕ → ℕ → Bool) (amounts : ℕ) where
  -- of the first run alone
  pub first_meet : (first count left : ℕ) (m : Masks) → IsLowestRun w amounts first count → IsRest amounts first count left → amounts < 2 ^ w →
      AreKnownOverRun w S first count m → IsMeetOver w S amounts left m.zeros m.ones
  first_meet first count left m run rest fits known = record {
    left_fits = let less = rest.less in omega arith;
    from_amounts = rest.kept;
    zero_all = λ t i one off on. let at = rest.taken t one off in known.zero_all t i at.0 at.1 on;
    one_all = λ t i one off on. let at = rest.taken t one off in known.one_all t i at.0 at.1 on;
    zero_some = λ i below clear. let t = known.zero_some i below clear in (t.0, run.inside t.0 t.1 t.2, t.3);
    one_some = λ i below clear. let t = known.one_some i below clear in (t.0, run.inside t.0 t.1 t.2, t.3);
  }

  both_one : (a b c : ℕ) → a < 2 → b < 2 → c ≡ min a b → c ≡ 1 → (a ≡ 1) × (b ≡ 1)
  both_one a b c k l e f = (grind arith, grind arith)

  one_none : (a b c : ℕ) → c ≡ min a b → c ≡ 0 → (a ≡ 0) ⊎ (b ≡ 0)
  one_none a b c e f = elim (cases_eq a 0) [ inl none ↦ inl none | inr some ↦ inr (grind arith) ]

  pub parts_on : (a b i : ℕ) → bit_at (bit_and a b) i ≡ 1 → (bit_at a i ≡ 1) × (bit_at b i ≡ 1)
  parts_on a b i on = both_one (bit_at a i) (bit_at b i) (bit_at (bit_and a b) i) (bit_at-lt a i) (bit_at-lt b i) (bit_at_and a b i) on

  pub parts_off : (a b i : ℕ) → bit_at (bit_and a b) i ≡ 0 → (bit_at a i ≡ 0) ⊎ (bit_at b i ≡ 0)
  parts_off a b i off = one_none (bit_at a i) (bit_at b i) (bit_at (bit_and a b) i) (bit_at_and a b i) off

  -- and of a run of those left
  next_meet : (left zeros ones first count rest : ℕ) (m : Masks) → IsMeetOver w S amounts left zeros ones → IsLowestRun w left first count →
      IsRest left first count rest → AreKnownOverRun w S first count m → IsMeetOver w S amounts rest (bit_and zeros m.zeros) (bit_and ones m.ones)
  next_meet left zeros ones first count rest m before run is_rest known = record {
    left_fits = let less = is_rest.less in let fits = before.left_fits in omega arith;
    from_amounts = λ t one. before.from_amounts t (is_rest.kept t one);
    zero_all = λ t i one off on. let parts = parts_on zeros m.zeros i on in elim (digit_cases left t) [
      | inl seen ↦ before.zero_all t i one seen parts.0
      | inr here ↦ let at = is_rest.taken t here off in known.zero_all t i at.0 at.1 parts.1
    ];
    one_all = λ t i one off on. let parts = parts_on ones m.ones i on in elim (digit_cases left t) [
      | inl seen ↦ before.one_all t i one seen parts.0
      | inr here ↦ let at = is_rest.taken t here off in known.one_all t i at.0 at.1 parts.1
    ];
    zero_some = λ i below clear. elim (parts_off zeros m.zeros i clear) [
      | inl old ↦ before.zero_some i below old
      | inr new ↦ let t = known.zero_some i below new in (t.0, before.from_amounts t.0 (run.inside t.0 t.1 t.2), t.3)
    ];
    one_some = λ i below clear. elim (parts_off ones m.ones i clear) [
      | inl old ↦ before.one_some i below old
      | inr new ↦ let t = known.one_some i below new in (t.0, before.from_amounts t.0 (run.inside t.0 t.1 t.2), t.3)
    ];
  }

  -- the same of the masks known alike
  pub next_meet_at : (left first count rest : ℕ) (old m n : Masks) → IsMeetOver w S amounts left old.zeros old.ones → IsLowestRun w left first count →
      IsRest left first count rest → AreKnownOverRun w S first count m → n ≡ record { zeros = bit_and old.zeros m.zeros; ones = bit_and old.ones m.ones } →
      IsMeetOver w S amounts rest n.zeros n.ones
  next_meet_at left first count rest old m n before run is_rest known alike =
      subst (λ k. IsMeetOver w S amounts rest k.zeros k.ones) (sym alike) (next_meet left old.zeros old.ones first count rest m before run is_rest known)

  -- what is known of the shift by each amount is known over all of them
  pub meet_whole : (left : ℕ) (m : Masks) → IsMeetOver w S amounts left m.zeros m.ones →
      ((t i : ℕ) → bit_at amounts t ≡ 1 → bit_at m.zeros i ≡ 1 → bit_at (zeros_of w (S t)) i ≡ 1) →
      ((t i : ℕ) → bit_at amounts t ≡ 1 → bit_at m.ones i ≡ 1 → bit_at (ones_of w (S t)) i ≡ 1) → IsMeetOver w S amounts 0 m.zeros m.ones
  meet_whole left m meet zeros ones = record {
    left_fits = pow_pos w;
    from_amounts = λ t one. absurd (let none = bit_at-zero t in omega arith);
    zero_all = λ t i one off known. zeros t i one known;
    one_all = λ t i one off known. ones t i one known;
    zero_some = meet.zero_some;
    one_some = meet.one_some;
  }

-- the least amount is seen
pub record HasSeenLeast (amounts left : ℕ) : Type 0 where
  pub first : ℕ
  pub inside : bit_at amounts first ≡ 1
  pub least : (t : ℕ) → bit_at amounts t ≡ 1 → first ≤ t
  pub seen : bit_at left first ≡ 0

pub least_seen : (w amounts first count left : ℕ) → IsLowestRun w amounts first count → IsRest amounts first count left → HasSeenLeast amounts left
least_seen w amounts first count left run rest = let some = run.some in record {
  first = first;
  inside = run.inside first (omega arith) (omega arith);
  least = run.least;
  seen = rest.clear first (omega arith) (omega arith);
}

pub still_seen : (amounts left first count rest : ℕ) → HasSeenLeast amounts left → IsRest left first count rest → HasSeenLeast amounts rest
still_seen amounts left first count rest before is = record {
  first = before.first;
  inside = before.inside;
  least = before.least;
  seen = elim (digit_cases rest before.first) [
    | inl off ↦ off
    | inr on ↦ absurd (let there = is.kept before.first on in let seen = before.seen in omega arith)
  ];
}

-- ---- the amounts all seen

-- an operation by an amount below the width stays in the width
pub record StaysOver (w : ℕ) (op : ℕ → ℕ → ℕ) : Type 0 where
  pub fits : (x t : ℕ) → x < 2 ^ w → t < w → op x t < 2 ^ w

module _ (w : ℕ) (op : ℕ → ℕ → ℕ) (A : ℕ → Bool) (amounts : ℕ) (stays : StaysOver w op) (below_width : amounts < 2 ^ w) where
  amount_below : (t : ℕ) → bit_at amounts t ≡ 1 → t < w
  amount_below t on = elim (cases_lt t w) [
    | inl below ↦ below
    | inr above ↦ absurd (let none = bit_at_above amounts w t below_width above in omega arith)
  ]

  best_at : (t : ℕ) → t < w → IsBest w (IsImage w (λ x. op x t) A) (zeros_of w (images w (λ x. op x t) A)) (ones_of w (images w (λ x. op x t) A))
  best_at t below = best_has w (IsImage w (λ x. op x t) A) (images w (λ x. op x t) A)
      (images_test w (λ x. op x t) A w (λ x fits. stays.fits x t fits below))

  image_of : (r : ℕ) → (m : IsResultOver w op A amounts r) → IsImage w (λ x. op x m.amount) A r
  image_of r m = record { from = m.from; fits = m.from_fits; from_in = m.from_in; is = m.is }

  result_of : (r t : ℕ) → bit_at amounts t ≡ 1 → IsImage w (λ x. op x t) A r → IsResultOver w op A amounts r
  result_of r t on m = record {
    from = m.from;
    amount = t;
    from_fits = m.fits;
    amount_fits = amount_below t on;
    from_in = m.from_in;
    amount_in = on;
    is = m.is;
  }

  pub over_best : (zeros ones : ℕ) → zeros < 2 ^ w → ones < 2 ^ w → IsMeetOver w (λ t. images w (λ x. op x t) A) amounts 0 zeros ones →
      IsBest w (IsResultOver w op A amounts) zeros ones
  over_best zeros ones zeros_fit ones_fit meet = record {
    zeros_fit = zeros_fit;
    ones_fit = ones_fit;
    zero = λ r i m known. (best_at m.amount m.amount_fits).zero r i (image_of r m) (meet.zero_all m.amount i m.amount_in (bit_at-zero m.amount) known);
    one = λ r i m known. (best_at m.amount m.amount_fits).one r i (image_of r m) (meet.one_all m.amount i m.amount_in (bit_at-zero m.amount) known);
    some_one = λ i below clear.
        let t = meet.zero_some i below clear in
        let witness = (best_at t.0 (amount_below t.0 t.1)).some_one i below t.2 in
        (witness.0, result_of witness.0 t.0 t.1 witness.1, witness.2);
    some_zero = λ i below clear.
        let t = meet.one_some i below clear in
        let witness = (best_at t.0 (amount_below t.0 t.1)).some_zero i below t.2 in
        (witness.0, result_of witness.0 t.0 t.1 witness.1, witness.2);
  }

  pub over_masks : (m : Masks) → m.zeros < 2 ^ w → m.ones < 2 ^ w → IsMeetOver w (λ t. images w (λ x. op x t) A) amounts 0 m.zeros m.ones →
      m ≡ best_of w (results_over w op A amounts)
  over_masks m zeros_fit ones_fit meet = best_over w op A amounts stays.fits m.zeros m.ones (over_best m.zeros m.ones zeros_fit ones_fit meet)

  pub over_masks_at : (left : ℕ) (m : Masks) → m.zeros < 2 ^ w → m.ones < 2 ^ w → left ≡ 0 →
      IsMeetOver w (λ t. images w (λ x. op x t) A) amounts left m.zeros m.ones → m ≡ best_of w (results_over w op A amounts)
  over_masks_at left m zeros_fit ones_fit none meet = over_masks m zeros_fit ones_fit
      (subst (λ k. IsMeetOver w (λ t. images w (λ x. op x t) A) amounts k m.zeros m.ones) none meet)

pub shift_stays : (shift : Shift) (w : ℕ) → IsWidth w → StaysOver w (shift_of shift w)
shift_stays shift w width = record { fits = λ x t fits below. (shift_moves shift w t width below).fits x fits }

-- ---- the least amount of a set

-- the next amount: it is in the set and below the width
pub record IsAmount (w n t : ℕ) : Type 0 where
  pub below : t < w
  pub inside : bit_at n t ≡ 1

pub lowest_amount : (w n : ℕ) → 0 < n → n < 2 ^ w → n < 2 ^ 128 → IsAmount w n (trailing_zeros w128 n)
lowest_amount w n some fits fits128 =
    let lowest = bit_at-trailing_zeros w128 n some fits128 in
    record {
      below = elim (cases_lt (trailing_zeros w128 n) w) [
        | inl below ↦ below
        | inr above ↦ absurd (let none = bit_at_above n w (trailing_zeros w128 n) fits above in let one = lowest.1 in omega arith)
      ];
      inside = lowest.1;
    }

-- no amount comes before it
pub lowest_from : (n t : ℕ) → 0 < n → n < 2 ^ 128 → bit_at n t ≡ 1 → trailing_zeros w128 n ≤ t
lowest_from n t some fits on = elim (cases_lt t (trailing_zeros w128 n)) [
  | inl before ↦ absurd (let lowest = bit_at-trailing_zeros w128 n some fits in let none = lowest.2 t before in omega arith)
  | inr from ↦ from
]

-- the run of amounts from the least one on
run_from : (w n : ℕ) → IsWidth w → 0 < n → n < 2 ^ w → n < 2 ^ 128 →
    IsLowestRun w n (trailing_zeros w128 n) (trailing_ones w128 (n / 2 ^ trailing_zeros w128 n))
run_from w n width some fits fits128 = record {
  some = elim (cases_lt 0 count) [
    | inl more ↦ more
    | inr none ↦ absurd (let stop = run.stops (let least = width.least in omega arith) in let zero_count : count ≡ 0 = omega arith in
        let here : bit_at rest 0 ≡ 0 = ap (bit_at rest) (sym zero_count) ∙ stop in let one = amount.inside in let moved = at 0 in let place : first + 0 ≡ first = omega arith in
        let there : bit_at n (first + 0) ≡ 1 = ap (bit_at n) place ∙ one in omega arith)
  ];
  below = elim (cases_lt w (first + count)) [
    | inl past ↦ absurd (let on = inside w (omega (arith, amount.below)) past in let none = bit_at_above n w w fits (omega arith) in omega arith)
    | inr fine ↦ fine
  ];
  inside = inside;
  least = λ t on. lowest_from n t some fits128 on;
}
  where
    first : ℕ
    first = trailing_zeros w128 n

    rest : ℕ
    rest = n / 2 ^ trailing_zeros w128 n

    count : ℕ
    count = trailing_ones w128 (n / 2 ^ trailing_zeros w128 n)

    amount : IsAmount w n (trailing_zeros w128 n)
    amount = lowest_amount w n some fits fits128

    rest_fits : n / 2 ^ trailing_zeros w128 n < 2 ^ w
    rest_fits = let less = shr_le n (trailing_zeros w128 n) in omega arith

    run : IsOnesRun w (n / 2 ^ trailing_zeros w128 n) (trailing_ones w128 (n / 2 ^ trailing_zeros w128 n))
    run = ones_run w (n / 2 ^ trailing_zeros w128 n) (trailing_ones w128 (n / 2 ^ trailing_zeros w128 n)) width.most rest_fits refl

    at : (i : ℕ) → bit_at (n / 2 ^ trailing_zeros w128 n) i ≡ bit_at n (trailing_zeros w128 n + i)
    at i = bit_at_shr n (trailing_zeros w128 n) i

    inside : (t : ℕ) → trailing_zeros w128 n ≤ t → t < trailing_zeros w128 n + trailing_ones w128 (n / 2 ^ trailing_zeros w128 n) → bit_at n t ≡ 1
    inside t from below =
        let place : trailing_zeros w128 n + (t - trailing_zeros w128 n) ≡ t = omega arith in
        ap (bit_at n) (sym place) ∙ sym (at (t - trailing_zeros w128 n)) ∙ run.each (t - trailing_zeros w128 n) (omega arith)

pub lowest_run_is : (w n c : ℕ) → IsWidth w → 0 < n → n < 2 ^ w → n < 2 ^ 128 → c ≡ trailing_ones w128 (n / 2 ^ trailing_zeros w128 n) →
    IsLowestRun w n (trailing_zeros w128 n) c
lowest_run_is w n c width some fits fits128 is = subst (IsLowestRun w n (trailing_zeros w128 n)) (sym is) (run_from w n width some fits fits128)
