-- The first and the last member of a cube in an arc, going up from 0 and in the signed order.
use Rattle.std.proofs.Common.{◌≡◌, ℕ, ◌+◌, ◌-◌, ◌%◌, ◌^◌, ◌<◌, ◌≤◌, Bool, true, sym, ◌∙◌, ap, arith, inl, inr, bit_xor, Some, None}
use Rattle.std.proofs.lemmas.Bool.{cases_lt, true≢false}
use Rattle.std.proofs.lemmas.Int.{ints}
use Rattle.std.proofs.lemmas.Nat.{and_le_l, pow_pos}
use Rattle.std.proofs.lemmas.Nat.Bits.{bit_at-lt, bit_at_above}
use Rattle.vfa_word.specs.Numbers.{signed_of}
use Rattle.vfa_word.proofs.Readings.{reading_low, reading_high}
use Rattle.vfa_dom.specs.Search.{least_below, greatest_below}
use Rattle.vfa_dom.specs.Sets.{at_or_after, at_or_before, least_of, greatest_of}
use Rattle.vfa_dom.proofs.Searches.{IsLeast, IsGreatest, least_is, greatest_is}
use Rattle.vfa_dom.proofs.SetSearches.{after_from, after_parts, before_from, before_parts, least_of_tells, least_of_none_tells, greatest_of_tells, greatest_of_none_tells, not_above, not_below}
use Rattle.vfa_known.specs.Cube.{IsCube, InCube, in_masks}
use Rattle.vfa_known.proofs.Cubes.{apart_at, ones_in, in_masks_from, in_masks_at}
use Rattle.vfa_known.proofs.Members.{in_cube_ones, turned_at, turned_fits, subset_from}
use Rattle.vfa_wrap.specs.Arc.{Span, steps, in_span, IsArc}
use Rattle.vfa_wrap.specs.Places.{in_signed_order, reading_at}
use Rattle.vfa_wrap.proofs.Circle.{steps_is, ahead, in_from, in_to, steps_back}
use Rattle.vfa_wrap.proofs.RowArcs.{half_twice}
use Rattle.vfa_wrap.proofs.Truth.{untrue}
use Rattle.vfa_fact.proofs.Going.{IsFirst, IsLast}
use Rattle.vfa_fact.proofs.CubeCuts.{from_zero}

-- ---- members of a set in an arc, where S is C and the arc together

module _ (w q : ℕ) (s : Span) (C S : ℕ → Bool) (arc : IsArc w s) (hq : q < 2 ^ w)
    (in_set : (x : ℕ) → C x ≡ true → in_span w s x ≡ true → S x ≡ true) (of_set : (x : ℕ) → S x ≡ true → (C x ≡ true) × (in_span w s x ≡ true))
    (first_in : S s.first ≡ true) (last_in : S s.last ≡ true) where
  first_steps : steps w q s.first < 2 ^ w
  first_steps = (steps_is w q s.first hq arc.first_fits).0

  -- where the arc does not pass q, its ends are the first and the last member
  pub plain_first : steps w q s.first ≤ steps w q s.last → IsFirst w q S s.first
  plain_first whole = record {
    fits = arc.first_fits;
    member = first_in;
    first = λ y hy member.
        let within = in_from w s y ((of_set y member).1) in
        let qf = steps_is w q s.first hq arc.first_fits in
        let ql = steps_is w q s.last hq arc.last_fits in
        let qy = steps_is w q y hq hy in
        let fl = steps_is w s.first s.last arc.first_fits arc.last_fits in
        let fy = steps_is w s.first y arc.first_fits hy in
        grind (arith, qf, ql, qy, fl, fy, within);
  }

  pub plain_last : steps w q s.first ≤ steps w q s.last → IsLast w q S s.last
  plain_last whole = record {
    fits = arc.last_fits;
    member = last_in;
    last = λ y hy member.
        let within = in_from w s y ((of_set y member).1) in
        let qf = steps_is w q s.first hq arc.first_fits in
        let ql = steps_is w q s.last hq arc.last_fits in
        let qy = steps_is w q y hq hy in
        let fl = steps_is w s.first s.last arc.first_fits arc.last_fits in
        let fy = steps_is w s.first y arc.first_fits hy in
        grind (arith, qf, ql, qy, fl, fy, within);
  }

  -- where it does, they are those of the cube
  pub split_first : (x : ℕ) → steps w q s.last < steps w q s.first → IsFirst w q C x → IsFirst w q S x
  split_first x turned is = record {
    fits = is.fits;
    member =
        let less = is.first s.last arc.last_fits ((of_set s.last last_in).0) in
        let qf = steps_is w q s.first hq arc.first_fits in
        let ql = steps_is w q s.last hq arc.last_fits in
        let qx = steps_is w q x hq is.fits in
        let fl = steps_is w s.first s.last arc.first_fits arc.last_fits in
        let fx = steps_is w s.first x arc.first_fits is.fits in
        in_set x is.member (in_to w s x is.fits (grind (arith, qf, ql, qx, fl, fx)));
    first = λ y hy member. is.first y hy ((of_set y member).0);
  }

  pub split_last : (x : ℕ) → steps w q s.last < steps w q s.first → IsLast w q C x → IsLast w q S x
  split_last x turned is = record {
    fits = is.fits;
    member =
        let more = is.last s.first arc.first_fits ((of_set s.first first_in).0) in
        let qf = steps_is w q s.first hq arc.first_fits in
        let ql = steps_is w q s.last hq arc.last_fits in
        let qx = steps_is w q x hq is.fits in
        let fl = steps_is w s.first s.last arc.first_fits arc.last_fits in
        let fx = steps_is w s.first x arc.first_fits is.fits in
        in_set x is.member (in_to w s x is.fits (grind (arith, qf, ql, qx, fl, fx)));
    last = λ y hy member. is.last y hy ((of_set y member).0);
  }

-- ---- members of a cube

module _ (w zeros ones : ℕ) (cube : IsCube w zeros ones) where
  pub cube_first : IsFirst w 0 (in_masks w (record { zeros = zeros; ones = ones })) ones
  cube_first = record {
    fits = cube.ones_fit;
    member = in_masks_from w zeros ones cube ones (ones_in w zeros ones cube);
    first = λ y hy member.
        let part = in_cube_ones w zeros ones cube y (in_masks_at w zeros ones cube y member) in
        let less = and_le_l y ones in
        let so = from_zero w ones cube.ones_fit in let sy = from_zero w y hy in
        omega arith;
  }

  pub turned_in : (most : ℕ) → most + 1 ≡ 2 ^ w → InCube w zeros ones (bit_xor most zeros)
  turned_in most top = record {
    fits = turned_fits w most zeros top cube.zeros_fit;
    zero = λ i known. elim (cases_lt i w) [
      | inl below ↦ let flips = turned_at w most zeros top cube.zeros_fit i below in omega arith
      | inr past ↦ bit_at_above (bit_xor most zeros) w i (turned_fits w most zeros top cube.zeros_fit) past
    ];
    one = λ i known. elim (cases_lt i w) [
      | inl below ↦
          let flips = turned_at w most zeros top cube.zeros_fit i below in
          let apart = apart_at w zeros ones cube i in let small = bit_at-lt zeros i in grind arith
      | inr past ↦ absurd (let none = bit_at_above ones w i cube.ones_fit past in omega arith)
    ];
  }

  pub cube_last : (most : ℕ) → most + 1 ≡ 2 ^ w → IsLast w 0 (in_masks w (record { zeros = zeros; ones = ones })) (bit_xor most zeros)
  cube_last most top = record {
    fits = turned_fits w most zeros top cube.zeros_fit;
    member = in_masks_from w zeros ones cube (bit_xor most zeros) (turned_in most top);
    last = λ y hy member.
        let is = in_masks_at w zeros ones cube y member in
        let part = subset_from (bit_xor most zeros) y (λ i on. elim (cases_lt i w) [
          | inl below ↦
              let flips = turned_at w most zeros top cube.zeros_fit i below in
              let small = bit_at-lt zeros i in let off = is.zero i in
              grind arith
          | inr past ↦ absurd (let none = bit_at_above y w i hy past in omega arith)
        ]) in
        let less = and_le_l (bit_xor most zeros) y in
        let so = from_zero w (bit_xor most zeros) (turned_fits w most zeros top cube.zeros_fit) in let sy = from_zero w y hy in
        omega arith;
  }

-- going up from the least signed number, a set's first member is its first one from there on, or else its first one
module _ (w h : ℕ) (C : ℕ → Bool) (hh : h < 2 ^ w) where
  pub first_after : (x : ℕ) → least_of w (at_or_after h C) ≡ Some x → IsFirst w h C x
  first_after x is =
      let least = least_of_tells w (at_or_after h C) x is in
      let parts = after_parts h C x least.passes in
      record {
        fits = least.below;
        member = parts.0;
        first = λ y hy member.
            let sx = steps_is w h x hh least.below in
            let sy = steps_is w h y hh hy in
            elim (cases_lt y h) [
              | inl low ↦ let from = parts.1 in grind (arith, sx, sy)
              | inr high ↦
                  let less = not_above (2 ^ w) (at_or_after h C) y least (after_from h C y member high) in
                  let from = parts.1 in grind (arith, sx, sy)
            ];
      }

  pub first_below : (x : ℕ) → least_of w (at_or_after h C) ≡ None → IsFirst w 0 C x → IsFirst w h C x
  first_below x none is =
      let low : (y : ℕ) → y < 2 ^ w → C y ≡ true → y < h = λ y hy member. elim (cases_lt y h) [
        | inl low ↦ low
        | inr high ↦ absurd (true≢false (sym (after_from h C y member high) ∙ least_of_none_tells w (at_or_after h C) none y hy))
      ] in
      record {
        fits = is.fits;
        member = is.member;
        first = λ y hy member.
            let less = is.first y hy member in
            let zx = from_zero w x is.fits in let zy = from_zero w y hy in
            let lx = low x is.fits is.member in let ly = low y hy member in
            let sx = steps_is w h x hh is.fits in let sy = steps_is w h y hh hy in
            grind (arith, sx, sy);
      }

  pub last_before : (x m : ℕ) → m + 1 ≡ h → greatest_of w (at_or_before m C) ≡ Some x → IsLast w h C x
  last_before x m em is =
      let greatest = greatest_of_tells w (at_or_before m C) x is in
      let parts = before_parts m C x greatest.passes in
      record {
        fits = greatest.below;
        member = parts.0;
        last = λ y hy member.
            let sx = steps_is w h x hh greatest.below in
            let sy = steps_is w h y hh hy in
            elim (cases_lt y h) [
              | inl low ↦
                  let less = not_below (2 ^ w) (at_or_before m C) y hy greatest (before_from m C y member (omega arith)) in
                  let upto = parts.1 in grind (arith, sx, sy)
              | inr high ↦ let upto = parts.1 in grind (arith, sx, sy)
            ];
      }

  pub last_above : (x m : ℕ) → m + 1 ≡ h → greatest_of w (at_or_before m C) ≡ None → IsLast w 0 C x → IsLast w h C x
  last_above x m em none is =
      let high : (y : ℕ) → y < 2 ^ w → C y ≡ true → h ≤ y = λ y hy member. elim (cases_lt y h) [
        | inl low ↦ absurd (true≢false (sym (before_from m C y member (omega arith)) ∙ greatest_of_none_tells w (at_or_before m C) none y hy))
        | inr high ↦ high
      ] in
      record {
        fits = is.fits;
        member = is.member;
        last = λ y hy member.
            let less = is.last y hy member in
            let zx = from_zero w x is.fits in let zy = from_zero w y hy in
            let lx = high x is.fits is.member in let ly = high y hy member in
            let sx = steps_is w h x hh is.fits in let sy = steps_is w h y hh hy in
            grind (arith, sx, sy);
      }

-- ---- what these are as ends

pub least_first : (w : ℕ) (S : ℕ → Bool) (x : ℕ) → IsFirst w 0 S x → x ≡ least_below (2 ^ w) S
least_first w S x is = sym (least_is (2 ^ w) S x (record {
  below = is.fits;
  passes = is.member;
  first = λ k less. untrue _ (λ member.
      let fits = is.fits in
      let no_less = is.first k (omega arith) member in
      let sx = from_zero w x is.fits in let sk = from_zero w k (omega arith) in omega arith);
}))

pub greatest_last : (w : ℕ) (S : ℕ → Bool) (x : ℕ) → IsLast w 0 S x → x ≡ greatest_below (2 ^ w) S
greatest_last w S x is = sym (greatest_is (2 ^ w) S x (record {
  below = is.fits;
  passes = is.member;
  last = λ k more below. untrue _ (λ member.
      let no_more = is.last k below member in
      let sx = from_zero w x is.fits in let sk = from_zero w k below in omega arith);
}))

pub half_fits : (w : ℕ) → 1 ≤ w → 2 ^ (w - 1) < 2 ^ w
half_fits w one = let two = half_twice w one in let some = pow_pos (w - 1) in omega arith

-- the place of a number in the signed order, by steps from the least signed number
pub place_reads : (w x : ℕ) → 1 ≤ w → x < 2 ^ w → signed_of w x ≡ reading_at w (steps w (2 ^ (w - 1)) x)
place_reads w x one fits =
    let two = half_twice w one in
    let to = steps_is w (2 ^ (w - 1)) x (half_fits w one) fits in
    elim (cases_lt x (2 ^ (w - 1))) [
      | inl low ↦
          let at : steps w (2 ^ (w - 1)) x ≡ x + 2 ^ (w - 1) = grind (arith, to, two) in
          reading_low w x low ∙ omega (arith, ints, at, two)
      | inr high ↦
          let at : steps w (2 ^ (w - 1)) x ≡ x - 2 ^ (w - 1) = grind (arith, to, two) in
          reading_high w x high fits ∙ omega (arith, ints, at, two)
    ]

in_place : (w x : ℕ) → 1 ≤ w → x < 2 ^ w → in_signed_order w (steps w (2 ^ (w - 1)) x) ≡ x
in_place w x one fits =
    let turned : steps w (2 ^ (w - 1)) x + 2 ^ (w - 1) ≡ 2 ^ (w - 1) + steps w (2 ^ (w - 1)) x = omega arith in
    ap (λ n. n % 2 ^ w) turned ∙ steps_back w (2 ^ (w - 1)) x (half_fits w one) fits

at_place : (w k : ℕ) → 1 ≤ w → k < 2 ^ w → (in_signed_order w k < 2 ^ w) × (steps w (2 ^ (w - 1)) (in_signed_order w k) ≡ k)
at_place w k one fits =
    let turned : in_signed_order w k ≡ (2 ^ (w - 1) + k) % 2 ^ w = ap (λ n. n % 2 ^ w) (let e : k + 2 ^ (w - 1) ≡ 2 ^ (w - 1) + k = omega arith in e) in
    let here = ahead w (2 ^ (w - 1)) k (half_fits w one) fits in
    (omega (arith, here.0, turned), ap (steps w (2 ^ (w - 1))) turned ∙ here.1)

module _ (w : ℕ) (S : ℕ → Bool) (x : ℕ) (one : 1 ≤ w) where
  pub signed_least : IsFirst w (2 ^ (w - 1)) S x → signed_of w x ≡ reading_at w (least_below (2 ^ w) (λ k. S (in_signed_order w k)))
  signed_least is =
      let least : IsLeast (2 ^ w) (λ k. S (in_signed_order w k)) (steps w (2 ^ (w - 1)) x) = record {
        below = (steps_is w (2 ^ (w - 1)) x (half_fits w one) is.fits).0;
        passes = ap S (in_place w x one is.fits) ∙ is.member;
        first = λ k less. untrue _ (λ member.
            let to = steps_is w (2 ^ (w - 1)) x (half_fits w one) is.fits in
            let here = at_place w k one (omega (arith, to.0)) in
            let no_less = is.first (in_signed_order w k) here.0 member in
            omega (arith, here.1));
      } in
      place_reads w x one is.fits ∙ ap (reading_at w) (sym (least_is (2 ^ w) _ _ least))

  pub signed_greatest : IsLast w (2 ^ (w - 1)) S x → signed_of w x ≡ reading_at w (greatest_below (2 ^ w) (λ k. S (in_signed_order w k)))
  signed_greatest is =
      let greatest : IsGreatest (2 ^ w) (λ k. S (in_signed_order w k)) (steps w (2 ^ (w - 1)) x) = record {
        below = (steps_is w (2 ^ (w - 1)) x (half_fits w one) is.fits).0;
        passes = ap S (in_place w x one is.fits) ∙ is.member;
        last = λ k more below. untrue _ (λ member.
            let here = at_place w k one below in
            let no_more = is.last (in_signed_order w k) here.0 member in
            omega (arith, here.1));
      } in
      place_reads w x one is.fits ∙ ap (reading_at w) (sym (greatest_is (2 ^ w) _ _ greatest))
