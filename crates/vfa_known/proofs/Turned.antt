-- The complements of a cube's members stand in the other order: the last member up to x is the complement of the first
-- complement from the complement of x on.
use Rattle.std.proofs.Common.{◌≡◌, ℕ, ◌+◌, ◌^◌, ◌<◌, true, sym, ◌∙◌, subst, arith, inl, inr, bit_xor, Some, None}
use Rattle.std.proofs.lemmas.Bool.{cases_Bool, true≢false}
use Rattle.vfa_dom.specs.Best.{Masks}
use Rattle.vfa_dom.specs.Sets.{at_or_after, at_or_before, least_of, greatest_of}
use Rattle.vfa_dom.proofs.SetSearches.{after_from, after_parts, before_from, before_parts, least_of_tells, least_of_none_tells, greatest_of_is, greatest_of_none}
use Rattle.vfa_known.specs.Cube.{IsCube, in_masks}
use Rattle.vfa_known.proofs.Cubes.{in_masks_from, in_masks_at}
use Rattle.vfa_known.proofs.Members.{turned_fits, turned_sums}
use Rattle.vfa_known.proofs.Sums.{turned_in, turned_back}

module _ (w most : ℕ) (a turned : Masks) (x : ℕ) (top : most + 1 ≡ 2 ^ w) (cube : IsCube w a.zeros a.ones)
    (swapped : IsCube w turned.zeros turned.ones) (fits : x < 2 ^ w) (same : turned ≡ record { zeros = a.ones; ones = a.zeros }) where
  swap_cube : IsCube w a.ones a.zeros
  swap_cube = subst (λ (m : Masks). IsCube w m.zeros m.ones) same swapped

  there : (y : ℕ) → y < 2 ^ w → in_masks w a y ≡ true → in_masks w turned (bit_xor most y) ≡ true
  there y below member = subst (λ m. in_masks w m (bit_xor most y) ≡ true) (sym same)
      (in_masks_from w a.ones a.zeros swap_cube (bit_xor most y)
      (turned_back w most a a top cube y (in_masks_at w a.zeros a.ones cube y member)))

  back : (y : ℕ) → y < 2 ^ w → in_masks w turned y ≡ true → in_masks w a (bit_xor most y) ≡ true
  back y below member =
      in_masks_from w a.zeros a.ones cube (bit_xor most y)
      (turned_in w most a a top cube y (in_masks_at w a.ones a.zeros swap_cube y (subst (λ m. in_masks w m y ≡ true) same member)))

  pub turned_last : (y : ℕ) → least_of w (at_or_after (bit_xor most x) (in_masks w turned)) ≡ Some y →
      greatest_of w (at_or_before x (in_masks w a)) ≡ Some (bit_xor most y)
  turned_last y answer =
      let least = least_of_tells w (at_or_after (bit_xor most x) (in_masks w turned)) y answer in
      let parts = after_parts (bit_xor most x) (in_masks w turned) y least.passes in
      let x_sum = turned_sums w most x top fits in
      let y_sum = turned_sums w most y top least.below in
      let above = parts.1 in
      greatest_of_is w (at_or_before x (in_masks w a)) (bit_xor most y) (record {
        below = turned_fits w most y top least.below;
        passes = before_from x (in_masks w a) (bit_xor most y) (back y least.below parts.0) (omega arith);
        last = λ k more below. elim (cases_Bool (at_or_before x (in_masks w a) k)) [
          | inl passes ↦
              let inside = before_parts x (in_masks w a) k passes in
              let k_sum = turned_sums w most k top below in
              let up_to = inside.1 in
              let found = after_from (bit_xor most x) (in_masks w turned) (bit_xor most k) (there k below inside.0) (omega arith) in
              absurd (true≢false (sym found ∙ least.first (bit_xor most k) (omega arith)))
          | inr fails ↦ fails
        ];
      })

  pub turned_none : least_of w (at_or_after (bit_xor most x) (in_masks w turned)) ≡ None →
      greatest_of w (at_or_before x (in_masks w a)) ≡ None
  turned_none answer = greatest_of_none w (at_or_before x (in_masks w a)) (λ k below.
      elim (cases_Bool (at_or_before x (in_masks w a) k)) [
        | inl passes ↦
            let inside = before_parts x (in_masks w a) k passes in
            let x_sum = turned_sums w most x top fits in
            let k_sum = turned_sums w most k top below in
            let up_to = inside.1 in
            let found = after_from (bit_xor most x) (in_masks w turned) (bit_xor most k) (there k below inside.0) (omega arith) in
            absurd (true≢false (sym found ∙ least_of_none_tells w (at_or_after (bit_xor most x) (in_masks w turned)) answer
            (bit_xor most k) (turned_fits w most k top below)))
        | inr fails ↦ fails
      ])
