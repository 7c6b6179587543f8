-- The next member of a cube. Where x is no member, let `turn` be its highest bit that the masks contradict. A member
-- above x has more than x from `turn` up, so it turns a zero of x that may be one at some place from there on, and the
-- lowest such place, `rise`, gives the least member.
use Rattle.std.proofs.Common.{◌≡◌, ℕ, zero, suc, ◌+◌, ◌-◌, ◌*◌, ◌/◌, ◌%◌, ◌^◌, ◌<◌, ◌≤◌, sym, ◌∙◌, ap, subst, arith, inl, inr, Some, None, pow-suc}
use Rattle.std.specs.Int.{bit_at}
use Rattle.std.proofs.Math.Nat.{lt-div-mul-add, div-mul-le_self}
use Rattle.std.proofs.lemmas.Bool.{cases_Bool, cases_eq, cases_lt, cases_order}
use Rattle.std.proofs.lemmas.Nat.{pow_pos, pow-add, shr-shr, le-div, div-add-mod', and_le_l, mul-le, mul-add-lt, mod_below, shr_below}
use Rattle.std.proofs.lemmas.Nat.Bits.{bit_at_above, bit_at_cat_low, bit_at_cat_high, bit_at-suc, bit_at_lowest}
use Rattle.vfa_dom.specs.Sets.{at_or_after, least_of}
use Rattle.vfa_dom.proofs.Bests.{digit_cases}
use Rattle.vfa_dom.proofs.SetSearches.{after_from, after_parts, least_of_is, least_of_none}
use Rattle.vfa_known.specs.Cube.{IsCube, InCube, in_masks}
use Rattle.vfa_known.proofs.Cubes.{ones_in, in_masks_from, in_masks_at}
use Rattle.vfa_known.proofs.Members.{subset_from}
use Rattle.vfa_known.proofs.Sums.{bit_at-mod, low_le}

-- ---- high parts

-- the bits of n from place k on are those of n / 2 ^ k
bit_at-high : (n k j : ℕ) → bit_at (n / 2 ^ k) j ≡ bit_at n (k + j)
bit_at-high n k j = ap (λ m. m % 2) (shr-shr n k j)

high_le : (x y k : ℕ) → x ≤ y → x / 2 ^ k ≤ y / 2 ^ k
high_le x y k less = let part = div-mul-le_self x (2 ^ k) in le-div (x / 2 ^ k) y (2 ^ k) (pow_pos k) (omega arith)

-- a number with no bit from place k on that the other lacks is no greater there
high_part_le : (x y k : ℕ) → ((i : ℕ) → k ≤ i → bit_at y i ≡ 1 → bit_at x i ≡ 1) → y / 2 ^ k ≤ x / 2 ^ k
high_part_le x y k inside =
    let part = subset_from (x / 2 ^ k) (y / 2 ^ k) (λ j on.
    bit_at-high x k j ∙ inside (k + j) (omega arith) (sym (bit_at-high y k j) ∙ on)) in
    let less = and_le_l (x / 2 ^ k) (y / 2 ^ k) in
    omega arith

same_high_at : (x y k i : ℕ) → x / 2 ^ k ≡ y / 2 ^ k → k ≤ i → bit_at y i ≡ bit_at x i
same_high_at x y k i same above =
    let place : i ≡ k + (i - k) = omega arith in
    ap (bit_at y) place ∙ sym (bit_at-high y k (i - k)) ∙ ap (λ n. bit_at n (i - k)) (sym same) ∙ bit_at-high x k (i - k) ∙ ap (bit_at x) (sym place)

-- ---- the number with one more at place r and the low bits of another

unfoldable pub risen : ℕ → ℕ → ℕ → ℕ
risen x low r = (x / 2 ^ r + 1) * 2 ^ r + low % 2 ^ r

plus_one_high : (n j : ℕ) → n % 2 ≡ 0 → 0 < j → bit_at (n + 1) j ≡ bit_at n j
plus_one_high n zero even positive = absurd (omega arith)
plus_one_high n (suc j) even positive =
    let same : (n + 1) / 2 ≡ n / 2 = omega arith in
    bit_at-suc (n + 1) j ∙ ap (λ m. bit_at m j) same ∙ sym (bit_at-suc n j)

pub risen_low : (x low r i : ℕ) → i < r → bit_at (risen x low r) i ≡ bit_at low i
unfolding risen
risen_low x low r i below = bit_at_cat_low (x / 2 ^ r + 1) r (low % 2 ^ r) i below ∙ bit_at-mod low r i below

pub risen_at : (x low r : ℕ) → bit_at x r ≡ 0 → bit_at (risen x low r) r ≡ 1
unfolding risen
risen_at x low r off =
    let none : r - r ≡ 0 = omega arith in
    bit_at_cat_high (x / 2 ^ r + 1) r (low % 2 ^ r) r (mod_below low (2 ^ r) (pow_pos r)) (omega arith)
    ∙ ap (bit_at (x / 2 ^ r + 1)) none ∙ bit_at_lowest (x / 2 ^ r + 1) ∙ odd (x / 2 ^ r) off
  where
    odd : (n : ℕ) → n % 2 ≡ 0 → (n + 1) % 2 ≡ 1
    odd n even = omega arith

pub risen_high : (x low r i : ℕ) → bit_at x r ≡ 0 → r < i → bit_at (risen x low r) i ≡ bit_at x i
unfolding risen
risen_high x low r i off above =
    let place : r + (i - r) ≡ i = omega arith in
    bit_at_cat_high (x / 2 ^ r + 1) r (low % 2 ^ r) i (mod_below low (2 ^ r) (pow_pos r)) (omega arith)
    ∙ plus_one_high (x / 2 ^ r) (i - r) off (omega arith) ∙ bit_at-high x r (i - r) ∙ ap (bit_at x) place

pub risen_above : (x low r : ℕ) → x < risen x low r
unfolding risen
risen_above x low r =
    let less = lt-div-mul-add {a = x} {b = 2 ^ r} (pow_pos r) in
    let split : (x / 2 ^ r + 1) * 2 ^ r ≡ x / 2 ^ r * 2 ^ r + 2 ^ r = one_more (x / 2 ^ r) (2 ^ r) in
    omega arith
  where
    one_more : (a p : ℕ) → (a + 1) * p ≡ a * p + p
    one_more a p = grind arith

pub risen_fits : (w x low r : ℕ) → x < 2 ^ w → r < w → bit_at x r ≡ 0 → risen x low r < 2 ^ w
unfolding risen
risen_fits w x low r fits below off =
    let width : (w - r) + r ≡ w = omega arith in
    let high : x / 2 ^ r < 2 ^ (w - r) = shr_below x (w - r) r (subst (λ n. x < 2 ^ n) (sym width) fits) in
    let half : 2 ^ (w - r) ≡ 2 * 2 ^ (w - r - 1) = halve (w - r) (omega arith) in
    let room : x / 2 ^ r + 1 < 2 ^ (w - r) = omega arith in
    let product : 2 ^ r * 2 ^ (w - r) ≡ 2 ^ w = sym (pow-add 2 r (w - r)) ∙ ap (λ n. 2 ^ n) (omega arith) in
    let bound = mul-add-lt (x / 2 ^ r + 1) (2 ^ r) (low % 2 ^ r) (2 ^ (w - r)) room (mod_below low (2 ^ r) (pow_pos r)) in
    subst (λ n. (x / 2 ^ r + 1) * 2 ^ r + low % 2 ^ r < n) product bound
  where
    halve : (k : ℕ) → 0 < k → 2 ^ k ≡ 2 * 2 ^ (k - 1)
    halve zero positive = absurd (omega arith)
    halve (suc k) positive = let same : suc k - 1 ≡ k = omega arith in pow-suc 2 k ∙ (rw same (grind arith))

-- a greater high part and no less a low part
risen_least : (x y low r : ℕ) → x / 2 ^ r < y / 2 ^ r → low % 2 ^ r ≤ y % 2 ^ r → risen x low r ≤ y
unfolding risen
risen_least x y low r high less =
    let split = div-add-mod' y (2 ^ r) in
    let scaled = mul-le (x / 2 ^ r + 1) (2 ^ r) (y / 2 ^ r) (2 ^ r) (omega arith) (omega arith) in
    omega arith

-- ---- where to turn and where to rise

-- the highest place where x contradicts the masks
pub record IsTurn (zeros ones x turn : ℕ) : Type 0 where
  pub clash : (d : ℕ) → d ≡ bit_at x turn → (bit_at zeros turn ≡ 1 → d ≡ 0) → (bit_at ones turn ≡ 1 → d ≡ 1) → ⊥
  pub zero : (i : ℕ) → turn < i → bit_at zeros i ≡ 1 → bit_at x i ≡ 0
  pub one : (i : ℕ) → turn < i → bit_at ones i ≡ 1 → bit_at x i ≡ 1

-- from place turn up to place limit, x has each bit that may be one
pub record IsFull (zeros x turn limit : ℕ) : Type 0 where
  pub full : (i : ℕ) → turn ≤ i → i < limit → bit_at zeros i ≡ 0 → bit_at x i ≡ 1

-- the lowest place from turn on where x has a zero that may be a one
pub record IsRise (w zeros x turn rise : ℕ) : Type 0 where
  pub below : rise < w
  pub after : turn ≤ rise
  pub off : bit_at x rise ≡ 0
  pub free : bit_at zeros rise ≡ 0
  pub full : IsFull zeros x turn rise

module _ (w zeros ones x turn : ℕ) (cube : IsCube w zeros ones) (fits : x < 2 ^ w) (turns : IsTurn zeros ones x turn) where
  -- a member from x on has some bit that x lacks, from turn on
  not_after : (y : ℕ) → InCube w zeros ones y → x ≤ y → ((i : ℕ) → turn ≤ i → bit_at y i ≡ 1 → bit_at x i ≡ 1) → ⊥
  not_after y member above inside =
      let low = high_part_le x y turn inside in
      let high = high_le x y turn above in
      let same : y / 2 ^ turn ≡ x / 2 ^ turn = omega arith in
      turns.clash (bit_at y turn) (ap (λ n. n % 2) same) (member.zero turn) (member.one turn)

  -- where x has all such bits no member is left
  pub none_after : IsFull zeros x turn w → (y : ℕ) → InCube w zeros ones y → x ≤ y → ⊥
  none_after full y member above = not_after y member above (λ i after on.
      elim (cases_lt i w) [
        | inl below ↦ elim (digit_cases zeros i) [
          | inl clear ↦ full.full i after below clear
          | inr known ↦ absurd (let off = member.zero i known in omega arith)
        ]
        | inr beyond ↦ absurd (let off = bit_at_above y w i member.fits beyond in omega arith)
      ])

  module _ (rise : ℕ) (rises : IsRise w zeros x turn rise) where
    pub risen_in : InCube w zeros ones (risen x ones rise)
    risen_in = record {
      fits = risen_fits w x ones rise fits rises.below rises.off;
      zero = λ i known. elim (cases_order i rise) [
        | inl here ↦ absurd (let same = ap (bit_at zeros) here in let free = rises.free in omega arith)
        | inr apart ↦ elim apart [
          | inl below ↦ risen_low x ones rise i below ∙ (ones_in w zeros ones cube).zero i known
          | inr above ↦ risen_high x ones rise i rises.off above ∙ turns.zero i (let after = rises.after in omega arith) known
        ]
      ];
      one = λ i known. elim (cases_order i rise) [
        | inl here ↦ ap (bit_at (risen x ones rise)) here ∙ risen_at x ones rise rises.off
        | inr apart ↦ elim apart [
          | inl below ↦ risen_low x ones rise i below ∙ known
          | inr above ↦ risen_high x ones rise i rises.off above ∙ turns.one i (let after = rises.after in omega arith) known
        ]
      ];
    }

    pub risen_first : (y : ℕ) → InCube w zeros ones y → x ≤ y → risen x ones rise ≤ y
    risen_first y member above = risen_least x y ones rise
        (elim (cases_eq (x / 2 ^ rise) (y / 2 ^ rise)) [
          | inl same ↦ absurd (not_after y member above (λ i after on.
              elim (cases_lt i rise) [
                | inl below ↦ elim (digit_cases zeros i) [
                  | inl clear ↦ rises.full.full i after below clear
                  | inr known ↦ absurd (let off = member.zero i known in omega arith)
                ]
                | inr beyond ↦ sym (same_high_at x y rise i same beyond) ∙ on
              ]))
          | inr other ↦ let less = high_le x y rise above in grind arith
        ])
        (low_le ones y rise (subset_from y ones member.one))

    pub least_after : least_of w (at_or_after x (in_masks w (record { zeros = zeros; ones = ones }))) ≡ Some (risen x ones rise)
    least_after = least_of_is w (at_or_after x (in_masks w (record { zeros = zeros; ones = ones }))) (risen x ones rise) (record {
      below = risen_in.fits;
      passes = after_from x (in_masks w (record { zeros = zeros; ones = ones })) (risen x ones rise)
          (in_masks_from w zeros ones cube (risen x ones rise) risen_in) (let above = risen_above x ones rise in omega arith);
      first = λ k less. elim (cases_Bool (at_or_after x (in_masks w (record { zeros = zeros; ones = ones })) k)) [
        | inl passes ↦
            let parts = after_parts x (in_masks w (record { zeros = zeros; ones = ones })) k passes in
            let least = risen_first k (in_masks_at w zeros ones cube k parts.0) parts.1 in
            absurd (omega arith)
        | inr fails ↦ fails
      ];
    })

  pub none_left : IsFull zeros x turn w → least_of w (at_or_after x (in_masks w (record { zeros = zeros; ones = ones }))) ≡ None
  none_left full = least_of_none w (at_or_after x (in_masks w (record { zeros = zeros; ones = ones }))) (λ k below.
      elim (cases_Bool (at_or_after x (in_masks w (record { zeros = zeros; ones = ones })) k)) [
        | inl passes ↦
            let parts = after_parts x (in_masks w (record { zeros = zeros; ones = ones })) k passes in
            absurd (none_after full k (in_masks_at w zeros ones cube k parts.0) parts.1)
        | inr fails ↦ fails
      ])

-- where x is a member it is the answer
pub member_itself : (w zeros ones x : ℕ) → IsCube w zeros ones → InCube w zeros ones x →
    least_of w (at_or_after x (in_masks w (record { zeros = zeros; ones = ones }))) ≡ Some x
member_itself w zeros ones x cube member =
    least_of_is w (at_or_after x (in_masks w (record { zeros = zeros; ones = ones }))) x (record {
      below = member.fits;
      passes = after_from x (in_masks w (record { zeros = zeros; ones = ones })) x (in_masks_from w zeros ones cube x member) (omega arith);
      first = λ k less. elim (cases_Bool (at_or_after x (in_masks w (record { zeros = zeros; ones = ones })) k)) [
        | inl passes ↦ let parts = after_parts x (in_masks w (record { zeros = zeros; ones = ones })) k passes in let above = parts.1 in absurd (omega arith)
        | inr fails ↦ fails
      ];
    })
