-- The best known bits of the numbers of a cube from one member up to another.
use Rattle.std.proofs.Common.{◌≡◌, ℕ, ◌+◌, ◌-◌, ◌*◌, ◌/◌, ◌%◌, ◌^◌, ◌<◌, ◌≤◌, max, true, sym, ◌∙◌, ap, arith, inl, inr, bit_and, bit_or, bit_xor, mod-eq_of_lt, Option, Some, None}
use Rattle.std.specs.Prelude.{nat_le}
use Rattle.std.specs.Int.{bit_at}
use Rattle.std.proofs.Math.Nat.{div-mul-le_self}
use Rattle.std.proofs.lemmas.Bool.{cases_eq, cases_lt, and_parts, and_from, leb-true, le-leb}
use Rattle.std.proofs.lemmas.Nat.{pow_below, or_lt, le_or_l, and_le_l}
use Rattle.std.proofs.lemmas.Nat.Bits.{bit_at-lt, bit_at_and, bit_at_or, bit_at_above, bit_at-pow_same, bit_at-pow_other}
use Rattle.vfa_word.specs.Numbers.{IsWidth}
use Rattle.vfa_dom.specs.Sets.{meet, at_or_after, at_or_before, least_of, greatest_of}
use Rattle.vfa_dom.specs.Best.{Masks, IsBest}
use Rattle.vfa_dom.proofs.Bests.{digit_cases}
use Rattle.vfa_dom.proofs.ResultSets.{IsBest-alike}
use Rattle.vfa_dom.proofs.SetSearches.{meet_from, meet_parts, after_from, after_parts, before_from, before_parts, least_of_tells, least_of_none_tells, greatest_of_tells, greatest_of_none_tells, not_above, not_below}
use Rattle.vfa_known.specs.Cube.{IsCube, InCube, in_masks}
use Rattle.vfa_known.proofs.Cubes.{in_masks_from, in_masks_at}
use Rattle.vfa_known.proofs.Members.{turned_at, turned_fits, complement_at}
use Rattle.vfa_known.proofs.Places.{bit_at_shr, bit_at_shl_low, bit_at_shl_high}
use Rattle.vfa_known.proofs.Searched.{x_below}
use Rattle.vfa_wrap.specs.Arc.{steps}
use Rattle.vfa_wrap.proofs.Circle.{steps_is}
use Rattle.vfa_wrap.proofs.Truth.{untrue}
use Rattle.vfa_fact.specs.declared.numbers.Numbers.{Numbers}
use Rattle.vfa_fact.specs.Sharp.{sharp_of}
use Rattle.vfa_fact.specs.Interval.{interval}
use Rattle.vfa_fact.proofs.SharpSets.{Member, sharp_is, sharp_none}
use Rattle.vfa_fact.proofs.Turns.{IsTurn, turn_is, turn_below}

-- ---- the bits of a number from place k on

abbrev pub kept : ℕ → ℕ → ℕ
kept n k = n / 2 ^ k * 2 ^ k % 2 ^ 128

module _ (w n k : ℕ) (within : w ≤ 128) (fits : n < 2 ^ w) where
  kept_is : kept n k ≡ n / 2 ^ k * 2 ^ k
  kept_is =
      let less = div-mul-le_self n (2 ^ k) in
      let small = x_below w 128 n within fits in
      mod-eq_of_lt (omega arith)

  kept_fits : kept n k < 2 ^ w
  kept_fits = let is = kept_is in let less = div-mul-le_self n (2 ^ k) in omega arith

  kept_low : (i : ℕ) → i < k → bit_at (kept n k) i ≡ 0
  kept_low i low = ap (λ m. bit_at m i) kept_is ∙ bit_at_shl_low (n / 2 ^ k) k i low

  kept_high : (i : ℕ) → k ≤ i → bit_at (kept n k) i ≡ bit_at n i
  kept_high i high =
      let place : k + (i - k) ≡ i = omega arith in
      ap (λ m. bit_at m i) kept_is ∙ bit_at_shl_high (n / 2 ^ k) k i high ∙ bit_at_shr n k (i - k) ∙ ap (bit_at n) place

-- ---- one bit of a member changed

module _ (w zeros ones : ℕ) where
  raised_in : (a i : ℕ) → i < w → bit_at zeros i ≡ 0 → InCube w zeros ones a → InCube w zeros ones (bit_or a (2 ^ i))
  raised_in a i below clear member = record {
    fits = or_lt w a (2 ^ i) member.fits (pow_below i w below);
    zero = λ k known. elim (cases_eq k i) [
      | inl same ↦ absurd (let here = ap (bit_at zeros) same in omega arith)
      | inr other ↦
          let law = bit_at_or a (2 ^ i) k in let none = bit_at-pow_other i k other in let off = member.zero k known in grind arith
    ];
    one = λ k known.
        let law = bit_at_or a (2 ^ i) k in let small = bit_at-lt (2 ^ i) k in let on = member.one k known in grind arith;
  }

  raised_at : (a i : ℕ) → bit_at (bit_or a (2 ^ i)) i ≡ 1
  raised_at a i = let law = bit_at_or a (2 ^ i) i in let one = bit_at-pow_same i in let small = bit_at-lt a i in grind arith

  lowered_in : (b i : ℕ) → i < w → bit_at ones i ≡ 0 → InCube w zeros ones b → InCube w zeros ones (bit_and b (2 ^ w - 1 - 2 ^ i))
  lowered_in b i below clear member = record {
    fits = let less = and_le_l b (2 ^ w - 1 - 2 ^ i) in let fits = member.fits in omega arith;
    zero = λ k known. let law = bit_at_and b (2 ^ w - 1 - 2 ^ i) k in let off = member.zero k known in grind arith;
    one = λ k known. elim (cases_eq k i) [
      | inl same ↦ absurd (let here = ap (bit_at ones) same in omega arith)
      | inr other ↦ elim (cases_lt k w) [
        | inl inside ↦
            let law = bit_at_and b (2 ^ w - 1 - 2 ^ i) k in
            let turned = complement_at w (2 ^ i) k (pow_below i w below) inside in
            let none = bit_at-pow_other i k other in let on = member.one k known in grind arith
        | inr past ↦ absurd (let on = member.one k known in let none = bit_at_above b w k member.fits past in omega arith)
      ]
    ];
  }

  lowered_at : (b i : ℕ) → i < w → bit_at (bit_and b (2 ^ w - 1 - 2 ^ i)) i ≡ 0
  lowered_at b i below =
      let law = bit_at_and b (2 ^ w - 1 - 2 ^ i) i in
      let turned = complement_at w (2 ^ i) i (pow_below i w below) below in
      let one = bit_at-pow_same i in grind arith

-- ---- the best known bits

-- a number of the cube from a up to b
pub record InCut (w zeros ones a b x : ℕ) : Type 0 where
  pub cube : InCube w zeros ones x
  pub from : a ≤ x
  pub upto : x ≤ b

or_first : (z p q : ℕ) → z ≡ max p q → z ≡ 0 → p ≡ 0
or_first z p q e none = grind arith

or_second : (z p q : ℕ) → z ≡ max p q → z ≡ 0 → q ≡ 0
or_second z p q e none = grind arith

or_other : (z p q : ℕ) → z ≡ max p q → z ≡ 1 → p ≡ 0 → q ≡ 1
or_other z p q e some none = grind arith

module _ (w most zeros ones a b k : ℕ) (within : w ≤ 128) (top : most + 1 ≡ 2 ^ w) (cube : IsCube w zeros ones) (turn : IsTurn w a b k)
    (low : InCube w zeros ones a) (high : InCube w zeros ones b) (less : a ≤ b) where
  zeros_at : (i : ℕ) → bit_at (bit_or zeros (kept (bit_xor most b) k)) i ≡ max (bit_at zeros i) (bit_at (kept (bit_xor most b) k) i)
  zeros_at i = bit_at_or zeros (kept (bit_xor most b) k) i

  ones_at : (i : ℕ) → bit_at (bit_or ones (kept a k)) i ≡ max (bit_at ones i) (bit_at (kept a k) i)
  ones_at i = bit_at_or ones (kept a k) i

  turned : bit_xor most b < 2 ^ w
  turned = turned_fits w most b top high.fits

  -- a bit of b from place k on, by the bit of its complement
  last_zero : (i : ℕ) → bit_at (kept (bit_xor most b) k) i ≡ 1 → (k ≤ i) × (bit_at b i ≡ 0)
  last_zero i on = elim (cases_lt i k) [
    | inl small ↦ absurd (let none = kept_low w (bit_xor most b) k within turned i small in omega arith)
    | inr large ↦
        let same = kept_high w (bit_xor most b) k within turned i large in
        elim (cases_lt i w) [
          | inl below ↦ let flips = turned_at w most b top high.fits i below in (large, omega arith)
          | inr past ↦ absurd (let none = bit_at_above (bit_xor most b) w i turned past in omega arith)
        ]
  ]

  first_one : (i : ℕ) → bit_at (kept a k) i ≡ 1 → (k ≤ i) × (bit_at a i ≡ 1)
  first_one i on = elim (cases_lt i k) [
    | inl small ↦ absurd (let none = kept_low w a k within low.fits i small in omega arith)
    | inr large ↦ (large, sym (kept_high w a k within low.fits i large) ∙ on)
  ]

  cut_zero : (x i : ℕ) → InCut w zeros ones a b x → bit_at (bit_or zeros (kept (bit_xor most b) k)) i ≡ 1 → bit_at x i ≡ 0
  cut_zero x i member known = elim (digit_cases zeros i) [
    | inr on ↦ member.cube.zero i on
    | inl off ↦
        let last = last_zero i (or_other _ (bit_at zeros i) _ (zeros_at i) known off) in
        elim (cases_eq i k) [
          | inl same ↦ ap (bit_at x) same ∙ turn.zero_at x member.from member.upto (ap (bit_at b) (sym same) ∙ last.1)
          | inr other ↦
              let more : k < i = let large = last.0 in omega arith in
              turn.alike x i member.from member.upto more ∙ sym (turn.alike_last i more) ∙ last.1
        ]
  ]

  cut_one : (x i : ℕ) → InCut w zeros ones a b x → bit_at (bit_or ones (kept a k)) i ≡ 1 → bit_at x i ≡ 1
  cut_one x i member known = elim (digit_cases ones i) [
    | inr on ↦ member.cube.one i on
    | inl off ↦
        let first = first_one i (or_other _ (bit_at ones i) _ (ones_at i) known off) in
        elim (cases_eq i k) [
          | inl same ↦ ap (bit_at x) same ∙ turn.one_at x member.from member.upto (ap (bit_at a) (sym same) ∙ first.1)
          | inr other ↦ turn.alike x i member.from member.upto (let large = first.0 in omega arith) ∙ first.1
        ]
  ]

  pub cut_best : IsBest w (InCut w zeros ones a b) (bit_or zeros (kept (bit_xor most b) k)) (bit_or ones (kept a k))
  cut_best = record {
    zeros_fit = or_lt w zeros (kept (bit_xor most b) k) cube.zeros_fit (kept_fits w (bit_xor most b) k within turned);
    ones_fit = or_lt w ones (kept a k) cube.ones_fit (kept_fits w a k within low.fits);
    zero = cut_zero;
    one = cut_one;
    some_one = λ i below clear.
        let off = or_first _ (bit_at zeros i) _ (zeros_at i) clear in
        elim (cases_lt i k) [
          | inl small ↦ (
            bit_or a (2 ^ i),
            record { cube = raised_in w zeros ones a i below off low; from = le_or_l a (2 ^ i); upto = turn.raised i small },
            raised_at w zeros ones a i,
          )
          | inr large ↦
              let none = or_second _ (bit_at zeros i) _ (zeros_at i) clear in
              let same = kept_high w (bit_xor most b) k within turned i large in
              let flips = turned_at w most b top high.fits i below in
              let small = bit_at-lt b i in
              (b, record { cube = high; from = less; upto = omega arith }, omega arith)
        ];
    some_zero = λ i below clear.
        let off = or_first _ (bit_at ones i) _ (ones_at i) clear in
        elim (cases_lt i k) [
          | inl small ↦ (
            bit_and b (2 ^ w - 1 - 2 ^ i),
            record { cube = lowered_in w zeros ones b i below off high; from = turn.lowered i small; upto = and_le_l b (2 ^ w - 1 - 2 ^ i) },
            lowered_at w zeros ones b i below,
          )
          | inr large ↦
              let none = or_second _ (bit_at ones i) _ (ones_at i) clear in
              let same = kept_high w a k within low.fits i large in
              (a, record { cube = low; from = omega arith; upto = less }, omega arith)
        ];
  }

-- ---- the numbers of a cube in an interval

pub interval_from : (lo hi x : ℕ) → lo ≤ x → x ≤ hi → interval lo hi x ≡ true
unfolding interval
interval_from lo hi x from upto = and_from (nat_le lo x) (nat_le x hi) (le-leb lo x from) (le-leb x hi upto)

pub interval_parts : (lo hi x : ℕ) → interval lo hi x ≡ true → (lo ≤ x) × (x ≤ hi)
unfolding interval
interval_parts lo hi x member =
    let parts = and_parts (nat_le lo x) (nat_le x hi) member in (leb-true lo x parts.0, leb-true x hi parts.1)

pub from_zero : (w x : ℕ) → x < 2 ^ w → steps w 0 x ≡ x
from_zero w x fits = let is = steps_is w 0 x (omega arith) fits in grind (arith, is)

same_masks : (z z' o o' p q a b : ℕ) → z ≡ z' → o ≡ o' →
    ◌≡◌ {A = Option Numbers} (Some (record { zeros = bit_or z p; ones = bit_or o q; first = a; last = b })) (Some (record { zeros = bit_or z' p; ones = bit_or o' q; first = a; last = b }))
same_masks z z' o o' p q a b ez eo = cc

module _ (w lo hi : ℕ) (m : Masks) (cube : IsCube w m.zeros m.ones) where
  in_interval : (x : ℕ) → meet (interval lo hi) (in_masks w m) x ≡ true → (lo ≤ x) × (x ≤ hi) × (in_masks w m x ≡ true)
  in_interval x member =
      let parts = meet_parts (interval lo hi) (in_masks w m) x member in
      let ends = interval_parts lo hi x parts.0 in (ends.0, ends.1, parts.1)

  pub none_after : least_of w (at_or_after lo (in_masks w m)) ≡ None → sharp_of w 0 (meet (interval lo hi) (in_masks w m)) ≡ None
  none_after none = sharp_none w 0 (meet (interval lo hi) (in_masks w m)) (λ x fits. untrue _ (λ member.
      let is = in_interval x member in
      let out = least_of_none_tells w (at_or_after lo (in_masks w m)) none x fits in
      let into = after_from lo (in_masks w m) x is.2 is.0 in cc))

  pub none_before : greatest_of w (at_or_before hi (in_masks w m)) ≡ None → sharp_of w 0 (meet (interval lo hi) (in_masks w m)) ≡ None
  none_before none = sharp_none w 0 (meet (interval lo hi) (in_masks w m)) (λ x fits. untrue _ (λ member.
      let is = in_interval x member in
      let out = greatest_of_none_tells w (at_or_before hi (in_masks w m)) none x fits in
      let into = before_from hi (in_masks w m) x is.2 is.1 in cc))

  module _ (a b : ℕ) (first : least_of w (at_or_after lo (in_masks w m)) ≡ Some a) (last : greatest_of w (at_or_before hi (in_masks w m)) ≡ Some b) where
    after_first : (x : ℕ) → meet (interval lo hi) (in_masks w m) x ≡ true → a ≤ x
    after_first x member =
        let is = in_interval x member in
        not_above (2 ^ w) (at_or_after lo (in_masks w m)) x (least_of_tells w (at_or_after lo (in_masks w m)) a first) (after_from lo (in_masks w m) x is.2 is.0)

    before_last : (x : ℕ) → x < 2 ^ w → meet (interval lo hi) (in_masks w m) x ≡ true → x ≤ b
    before_last x fits member =
        let is = in_interval x member in
        not_below (2 ^ w) (at_or_before hi (in_masks w m)) x fits (greatest_of_tells w (at_or_before hi (in_masks w m)) b last) (before_from hi (in_masks w m) x is.2 is.1)

    pub none_between : b < a → sharp_of w 0 (meet (interval lo hi) (in_masks w m)) ≡ None
    none_between crossed = sharp_none w 0 (meet (interval lo hi) (in_masks w m)) (λ x fits. untrue _ (λ member.
        let from = after_first x member in let upto = before_last x fits member in omega arith))

    pub first_member : InCube w m.zeros m.ones a × (lo ≤ a)
    first_member =
        let least = least_of_tells w (at_or_after lo (in_masks w m)) a first in
        let parts = after_parts lo (in_masks w m) a least.passes in
        (in_masks_at w m.zeros m.ones cube a parts.0, parts.1)

    pub last_member : InCube w m.zeros m.ones b × (b ≤ hi)
    last_member =
        let greatest = greatest_of_tells w (at_or_before hi (in_masks w m)) b last in
        let parts = before_parts hi (in_masks w m) b greatest.passes in
        (in_masks_at w m.zeros m.ones cube b parts.0, parts.1)

    cut_in : (x : ℕ) → InCut w m.zeros m.ones a b x → Member w (meet (interval lo hi) (in_masks w m)) x
    cut_in x member = record {
      fits = member.cube.fits;
      is = let from = first_member.1 in let upto = last_member.1 in let more = member.from in let less = member.upto in
          meet_from (interval lo hi) (in_masks w m) x (interval_from lo hi x (omega arith) (omega arith)) (in_masks_from w m.zeros m.ones cube x member.cube);
    }

    in_cut : (x : ℕ) → Member w (meet (interval lo hi) (in_masks w m)) x → InCut w m.zeros m.ones a b x
    in_cut x member = record {
      cube = in_masks_at w m.zeros m.ones cube x ((in_interval x member.is).2);
      from = after_first x member.is;
      upto = before_last x member.fits member.is;
    }

    pub cut_sharp : (most k : ℕ) → w ≤ 128 → most + 1 ≡ 2 ^ w → a ≤ b → IsTurn w a b k →
        sharp_of w 0 (meet (interval lo hi) (in_masks w m)) ≡
        Some (record { zeros = bit_or m.zeros (kept (bit_xor most b) k); ones = bit_or m.ones (kept a k); first = a; last = b })
    cut_sharp most k within top less turn =
        let low = first_member.0 in let high = last_member.0 in
        let here : InCut w m.zeros m.ones a b a = record { cube = low; from = omega arith; upto = less } in
        let there : InCut w m.zeros m.ones a b b = record { cube = high; from = less; upto = omega arith } in
        sharp_is w 0 (meet (interval lo hi) (in_masks w m)) _ (let fits = low.fits in omega arith) (record {
          best = IsBest-alike w (InCut w m.zeros m.ones a b) (Member w (meet (interval lo hi) (in_masks w m))) _ _ cut_in in_cut
              (cut_best w most m.zeros m.ones a b k within top cube turn low high less);
          first = record {
            fits = low.fits;
            member = (cut_in a here).is;
            first = λ y hy member. let from = after_first y member in let sa = from_zero w a low.fits in let sy = from_zero w y hy in omega arith;
          };
          last = record {
            fits = high.fits;
            member = (cut_in b there).is;
            last = λ y hy member. let upto = before_last y hy member in let sb = from_zero w b high.fits in let sy = from_zero w y hy in omega arith;
          };
        })

    -- the same as the code makes it
    pub cut_made : (most k z o : ℕ) → IsWidth w → most + 1 ≡ 2 ^ w → a ≤ b → z ≡ m.zeros → o ≡ m.ones →
        2 ^ k ≤ bit_or (bit_xor a b) 1 → bit_or (bit_xor a b) 1 < 2 * 2 ^ k →
        Some (record { zeros = bit_or z (kept (bit_xor most b) k); ones = bit_or o (kept a k); first = a; last = b })
        ≡ sharp_of w 0 (meet (interval lo hi) (in_masks w m))
    cut_made most k z o width top less ez eo reach bound =
        let turn = turn_is w a b k less last_member.0.fits (turn_below w a b k width.least first_member.0.fits last_member.0.fits reach) reach bound in
        same_masks z m.zeros o m.ones (kept (bit_xor most b) k) (kept a k) a b ez eo
        ∙ sym (cut_sharp most k width.most top less turn)
