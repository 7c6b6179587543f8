-- Operations that move the digits of a number: what is known of a digit is known of it at its new place.
use Rattle.std.proofs.Common.{◌≡◌, ℕ, ◌+◌, ◌^◌, ◌<◌, ◌≤◌, max, refl, sym, ◌∙◌, ap, subst, arith, ◌⊎◌, inl, inr, bit_and, bit_or}
use Rattle.std.specs.Int.{bit_at}
use Rattle.std.proofs.lemmas.Bool.{cases_eq, cases_lt}
use Rattle.std.proofs.lemmas.Nat.{or_lt, and_le_r, or_disjoint}
use Rattle.std.proofs.lemmas.Nat.Bits.{bit_at-lt, bit_at_or, bit_at_above}
use Rattle.vfa_dom.specs.Best.{best_of, IsBest}
use Rattle.vfa_dom.specs.Results.{images, IsImage}
use Rattle.vfa_dom.proofs.ResultSets.{best_images}
use Rattle.vfa_known.specs.Cube.{IsCube, InCube, in_masks}
use Rattle.vfa_known.proofs.Cubes.{ones_in, with_bit_in, with_bit_at, in_masks_from, in_masks_at, best_cube}

-- f gives at each place i below w the digit that stood at `place i`, or 0 where that is no place below v; fill has the
-- places of these zeros
pub record MovesDigits (v w : ℕ) (f place : ℕ → ℕ) (fill : ℕ) : Type 0 where
  pub fits : (x : ℕ) → x < 2 ^ v → f x < 2 ^ w
  pub digit : (x i : ℕ) → x < 2 ^ v → i < w → bit_at (f x) i ≡ bit_at x (place i)
  pub fill_fits : fill < 2 ^ w
  pub filled : (i : ℕ) → i < w → v ≤ place i → bit_at fill i ≡ 1
  pub unfilled : (i : ℕ) → i < w → place i < v → bit_at fill i ≡ 0

either : (a b : ℕ) → a < 2 → b < 2 → max a b ≡ 1 → (a ≡ 1) ⊎ (b ≡ 1)
either a b p q e = elim (cases_eq a 1) [ inl one ↦ inl one | inr other ↦ inr (grind arith) ]

module _ (v w : ℕ) (f place : ℕ → ℕ) (fill zeros ones : ℕ) (moves : MovesDigits v w f place fill) (cube : IsCube v zeros ones) where
  image : (x : ℕ) → InCube v zeros ones x → IsImage v f (in_masks v (record { zeros = zeros; ones = ones })) (f x)
  image x member = record { from = x; fits = member.fits; from_in = in_masks_from v zeros ones cube x member; is = refl }

  digit_of : (r i : ℕ) → (m : IsImage v f (in_masks v (record { zeros = zeros; ones = ones })) r) → i < w →
      bit_at r i ≡ bit_at m.from (place i)
  digit_of r i m below = ap (λ n. bit_at n i) (sym m.is) ∙ moves.digit m.from i m.fits below

  below_from : (m i : ℕ) → m < 2 ^ w → bit_at m i ≡ 1 → i < w
  below_from m i fits on = elim (cases_lt i w) [
    | inl below ↦ below
    | inr above ↦ absurd (let none = bit_at_above m w i fits above in omega arith)
  ]

  zeros_moved_fit : bit_or (f zeros) fill < 2 ^ w
  zeros_moved_fit = or_lt w (f zeros) fill (moves.fits zeros cube.zeros_fit) moves.fill_fits

  moved_zero : (r i : ℕ) → IsImage v f (in_masks v (record { zeros = zeros; ones = ones })) r →
      bit_at (bit_or (f zeros) fill) i ≡ 1 → bit_at r i ≡ 0
  moved_zero r i m on =
      let below = below_from (bit_or (f zeros) fill) i zeros_moved_fit on in
      let member = in_masks_at v zeros ones cube m.from m.from_in in
      let law = bit_at_or (f zeros) fill i in
      digit_of r i m below ∙ elim (either (bit_at (f zeros) i) (bit_at fill i) (bit_at-lt (f zeros) i) (bit_at-lt fill i) (sym law ∙ on)) [
        | inl moved ↦ member.zero (place i) (sym (moves.digit zeros i cube.zeros_fit below) ∙ moved)
        | inr filled ↦ elim (cases_lt (place i) v) [
          | inl inside ↦ absurd (let none = moves.unfilled i below inside in omega arith)
          | inr outside ↦ bit_at_above m.from v (place i) m.fits outside
        ]
      ]

  moved_one : (r i : ℕ) → IsImage v f (in_masks v (record { zeros = zeros; ones = ones })) r → bit_at (f ones) i ≡ 1 → bit_at r i ≡ 1
  moved_one r i m on =
      let below = below_from (f ones) i (moves.fits ones cube.ones_fit) on in
      let member = in_masks_at v zeros ones cube m.from m.from_in in
      digit_of r i m below ∙ member.one (place i) (sym (moves.digit ones i cube.ones_fit below) ∙ on)

  none_set : (a b : ℕ) → max a b ≡ 0 → (a ≡ 0) × (b ≡ 0)
  none_set a b e = (omega arith, omega arith)

  pub moved_best : IsBest w (IsImage v f (in_masks v (record { zeros = zeros; ones = ones }))) (bit_or (f zeros) fill) (f ones)
  moved_best = record {
    zeros_fit = zeros_moved_fit;
    ones_fit = moves.fits ones cube.ones_fit;
    zero = moved_zero;
    one = moved_one;
    some_one = λ i below clear.
        let parts = none_set (bit_at (f zeros) i) (bit_at fill i) (sym (bit_at_or (f zeros) fill i) ∙ clear) in
        elim (cases_lt (place i) v) [
          | inl inside ↦
              let free : bit_at zeros (place i) ≡ 0 = sym (moves.digit zeros i cube.zeros_fit below) ∙ parts.0 in
              let member = with_bit_in v zeros ones cube (place i) inside free in (
                f (bit_or ones (2 ^ place i)),
                image (bit_or ones (2 ^ place i)) member,
                moves.digit (bit_or ones (2 ^ place i)) i member.fits below ∙ with_bit_at v zeros ones cube (place i),
              )
          | inr outside ↦ absurd (let full = moves.filled i below outside in let none = parts.1 in omega arith)
        ];
    some_zero = λ i below clear. (f ones, image ones (ones_in v zeros ones cube), clear);
  }

  pub moved_is : record { zeros = bit_or (f zeros) fill; ones = f ones } ≡
      best_of w (images v f (in_masks v (record { zeros = zeros; ones = ones })))
  moved_is = best_images v f (in_masks v (record { zeros = zeros; ones = ones })) w moves.fits (bit_or (f zeros) fill) (f ones) moved_best

  pub moved_cube : IsCube w (bit_or (f zeros) fill) (f ones)
  moved_cube = best_cube w (IsImage v f (in_masks v (record { zeros = zeros; ones = ones }))) (bit_or (f zeros) fill) (f ones)
      (f ones) moved_best (image ones (ones_in v zeros ones cube))

  -- the same of masks that equal these
  pub moved_cube_is : (z o : ℕ) → z ≡ bit_or (f zeros) fill → o ≡ f ones → IsCube w z o
  moved_cube_is z o p q = subst (λ n. IsCube w n o) (sym p) (subst (λ n. IsCube w (bit_or (f zeros) fill) n) (sym q) moved_cube)

  pub moved_masks : (z o : ℕ) → z ≡ bit_or (f zeros) fill → o ≡ f ones →
      record { zeros = z; ones = o } ≡ best_of w (images v f (in_masks v (record { zeros = zeros; ones = ones })))
  moved_masks z o p q =
      let same : record { zeros = z; ones = o } ≡ record { zeros = bit_or (f zeros) fill; ones = f ones } = cc in
      same ∙ moved_is

pub or_none : (n : ℕ) → n ≡ bit_or n 0
or_none n =
    let none : bit_and n 0 ≡ 0 = omega (arith, and_le_r n 0) in
    let sum : bit_or n 0 ≡ n + 0 = or_disjoint n 0 none in
    omega arith
