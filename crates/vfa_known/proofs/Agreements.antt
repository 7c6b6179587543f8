-- The numbers of two cubes in common.
use Rattle.std.proofs.Common.{◌≡◌, ℕ, ◌^◌, Bool, true, false, sym, ◌∙◌, arith, inl, inr, bit_and, bit_or}
use Rattle.std.specs.Int.{bit_at}
use Rattle.std.proofs.lemmas.Bool.{cases_Bool}
use Rattle.std.proofs.lemmas.Nat.{or_lt}
use Rattle.std.proofs.lemmas.Nat.Bits.{bit_at-lt, bit_at_or}
use Rattle.vfa_dom.specs.Sets.{meet, meets}
use Rattle.vfa_dom.specs.Best.{Masks}
use Rattle.vfa_dom.proofs.Bests.{digit_cases}
use Rattle.vfa_dom.proofs.Searches.{some_found, found_some}
use Rattle.vfa_dom.proofs.SetSearches.{meet_from, meet_parts}
use Rattle.vfa_known.specs.Cube.{IsCube, InCube, in_masks}
use Rattle.vfa_known.proofs.Cubes.{apart_from_bits, ones_in, in_masks_from, in_masks_at}

same_answers : (b c : Bool) → (b ≡ true → c ≡ true) → (c ≡ true → b ≡ true) → b ≡ c
same_answers b c there back = elim (cases_Bool b) [
  | inl on ↦ on ∙ sym (there on)
  | inr off ↦ elim (cases_Bool c) [ inl on ↦ back on ∙ sym on | inr off' ↦ off ∙ sym off' ]
]

or_at : (m n i : ℕ) → bit_at (bit_or m n) i ≡ 1 → (bit_at m i ≡ 0) → bit_at n i ≡ 1
or_at m n i on off = let law = bit_at_or m n i in grind arith

or_left_at : (m n i : ℕ) → bit_at m i ≡ 1 → bit_at (bit_or m n) i ≡ 1
or_left_at m n i on = let law = bit_at_or m n i in let small = bit_at-lt n i in grind arith

or_right_at : (m n i : ℕ) → bit_at n i ≡ 1 → bit_at (bit_or m n) i ≡ 1
or_right_at m n i on = let law = bit_at_or m n i in let small = bit_at-lt m i in grind arith

module _ (w : ℕ) (a b : Masks) (left_cube : IsCube w a.zeros a.ones) (right_cube : IsCube w b.zeros b.ones) where
  both_in : (x : ℕ) → InCube w a.zeros a.ones x → InCube w b.zeros b.ones x → InCube w (bit_or a.zeros b.zeros) (bit_or a.ones b.ones) x
  both_in x one two = record {
    fits = one.fits;
    zero = λ i known. elim (digit_cases a.zeros i) [
      | inl clear ↦ two.zero i (or_at a.zeros b.zeros i known clear)
      | inr on ↦ one.zero i on
    ];
    one = λ i known. elim (digit_cases a.ones i) [
      | inl clear ↦ two.one i (or_at a.ones b.ones i known clear)
      | inr on ↦ one.one i on
    ];
  }

  in_left : (x : ℕ) → InCube w (bit_or a.zeros b.zeros) (bit_or a.ones b.ones) x → InCube w a.zeros a.ones x
  in_left x member = record {
    fits = member.fits;
    zero = λ i known. member.zero i (or_left_at a.zeros b.zeros i known);
    one = λ i known. member.one i (or_left_at a.ones b.ones i known);
  }

  in_right : (x : ℕ) → InCube w (bit_or a.zeros b.zeros) (bit_or a.ones b.ones) x → InCube w b.zeros b.ones x
  in_right x member = record {
    fits = member.fits;
    zero = λ i known. member.zero i (or_right_at a.zeros b.zeros i known);
    one = λ i known. member.one i (or_right_at a.ones b.ones i known);
  }

  pub agree_cube : bit_and (bit_or a.zeros b.zeros) (bit_or a.ones b.ones) ≡ 0 → IsCube w (bit_or a.zeros b.zeros) (bit_or a.ones b.ones)
  agree_cube apart = record {
    zeros_fit = or_lt w a.zeros b.zeros left_cube.zeros_fit right_cube.zeros_fit;
    ones_fit = or_lt w a.ones b.ones left_cube.ones_fit right_cube.ones_fit;
    apart = apart;
  }

  pub agree_numbers : bit_and (bit_or a.zeros b.zeros) (bit_or a.ones b.ones) ≡ 0 → (x : ℕ) →
      in_masks w (record { zeros = bit_or a.zeros b.zeros; ones = bit_or a.ones b.ones }) x ≡ meet (in_masks w a) (in_masks w b) x
  agree_numbers apart x = same_answers
      (in_masks w (record { zeros = bit_or a.zeros b.zeros; ones = bit_or a.ones b.ones }) x) (meet (in_masks w a) (in_masks w b) x)
      (λ inside.
      let member = in_masks_at w (bit_or a.zeros b.zeros) (bit_or a.ones b.ones) (agree_cube apart) x inside in
      meet_from (in_masks w a) (in_masks w b) x
      (in_masks_from w a.zeros a.ones left_cube x (in_left x member))
      (in_masks_from w b.zeros b.ones right_cube x (in_right x member)))
      (λ common.
      let parts = meet_parts (in_masks w a) (in_masks w b) x common in
      in_masks_from w (bit_or a.zeros b.zeros) (bit_or a.ones b.ones) (agree_cube apart) x
      (both_in x (in_masks_at w a.zeros a.ones left_cube x parts.0) (in_masks_at w b.zeros b.ones right_cube x parts.1)))

  pub agree_some : bit_and (bit_or a.zeros b.zeros) (bit_or a.ones b.ones) ≡ 0 → meets w (in_masks w a) (in_masks w b) ≡ true
  unfolding meets
  agree_some apart =
      let cube = agree_cube apart in
      let least = ones_in w (bit_or a.zeros b.zeros) (bit_or a.ones b.ones) cube in
      some_found (2 ^ w) (meet (in_masks w a) (in_masks w b)) (bit_or a.ones b.ones) least.fits
      (sym (agree_numbers apart (bit_or a.ones b.ones)) ∙ in_masks_from w (bit_or a.zeros b.zeros) (bit_or a.ones b.ones) cube (bit_or a.ones b.ones) least)

  pub agree_none : (bit_and (bit_or a.zeros b.zeros) (bit_or a.ones b.ones) ≡ 0 → ⊥) → meets w (in_masks w a) (in_masks w b) ≡ false
  unfolding meets
  agree_none clash = elim (cases_Bool (meets w (in_masks w a) (in_masks w b))) [
    | inr none ↦ none
    | inl some ↦
        let found = found_some (2 ^ w) (meet (in_masks w a) (in_masks w b)) some in
        let parts = meet_parts (in_masks w a) (in_masks w b) found.at found.passes in
        let member = both_in found.at (in_masks_at w a.zeros a.ones left_cube found.at parts.0) (in_masks_at w b.zeros b.ones right_cube found.at parts.1) in
        absurd (clash (apart_from_bits (bit_or a.zeros b.zeros) (bit_or a.ones b.ones) (λ i known.
        elim (digit_cases (bit_or a.ones b.ones) i) [
          | inl clear ↦ clear
          | inr both ↦ absurd (let off = member.zero i known in let on = member.one i both in omega arith)
        ])))
  ]
