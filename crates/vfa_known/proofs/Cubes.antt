-- Cubes and their members, and what the best masks of the results over two cubes give.
use Rattle.std.proofs.Common.{◌≡◌, ℕ, ◌^◌, ◌<◌, min, true, ◌||◌, refl, sym, ◌∙◌, ap, arith, inl, inr, bit_and, bit_or}
use Rattle.std.specs.Prelude.{nat_eq, nat_lt}
use Rattle.std.specs.Int.{bit_at}
use Rattle.std.proofs.lemmas.Bool.{cases_eq, cases_lt, and_parts, and_from, or_cases, or_left, or_right, eqb-true, eq-eqb, ltb-true, lt-ltb}
use Rattle.std.proofs.lemmas.Nat.{or_lt, pow_below}
use Rattle.std.proofs.lemmas.Nat.Bits.{bit_at-lt, bit_at_and, bit_at_or, bit_at_above, bit_at-pow_same, bit_at-pow_other, bit_at-zero, same_from_bits}
use Rattle.vfa_dom.specs.Search.{all_below}
use Rattle.vfa_dom.specs.Sets.{Tests}
use Rattle.vfa_dom.specs.Best.{Masks, best_of, IsBest}
use Rattle.vfa_dom.specs.Results.{results, IsResult, UnknownBitsVary}
use Rattle.vfa_dom.proofs.Searches.{all_pass, all_from}
use Rattle.vfa_dom.proofs.Bests.{digit_cases, best_is}
use Rattle.vfa_dom.proofs.ResultSets.{StaysIn, best_results, unknown_bits_vary, IsBest-alike}
use Rattle.vfa_known.specs.Cube.{IsCube, InCube, agrees_at, in_masks}

-- ---- numbers without a common bit

pub apart_from_bits : (a b : ℕ) → ((i : ℕ) → bit_at a i ≡ 1 → bit_at b i ≡ 0) → bit_and a b ≡ 0
apart_from_bits a b apart = same_from_bits (bit_and a b) 0 (λ i.
    let law = bit_at_and a b i in let none = bit_at-zero i in let small = bit_at-lt a i in let fact = apart i in
    elim (digit_cases a i) [ inl off ↦ grind arith | inr on ↦ let other = apart i on in grind arith ])

module _ (w zeros ones : ℕ) (cube : IsCube w zeros ones) where
  -- no bit is known to be both
  pub apart_at : (i : ℕ) → min (bit_at zeros i) (bit_at ones i) ≡ 0
  apart_at i = sym (bit_at_and zeros ones i) ∙ ap (λ n. bit_at n i) cube.apart ∙ bit_at-zero i

  -- ---- members

  -- all unknown bits zero
  pub ones_in : InCube w zeros ones ones
  ones_in = record {
    fits = cube.ones_fit;
    zero = λ i known. let apart = apart_at i in let small = bit_at-lt ones i in grind arith;
    one = λ i known. known;
  }

  -- one bit that may be one set, and all other unknown bits zero
  pub with_bit_in : (i : ℕ) → i < w → bit_at zeros i ≡ 0 → InCube w zeros ones (bit_or ones (2 ^ i))
  with_bit_in i below clear = record {
    fits = or_lt w ones (2 ^ i) cube.ones_fit (pow_below i w below);
    zero = λ k known. elim (cases_eq k i) [
      | inl same ↦ absurd (let here = ap (bit_at zeros) same in omega arith)
      | inr other ↦
          let law = bit_at_or ones (2 ^ i) k in let none = bit_at-pow_other i k other in let apart = apart_at k in
          let small = bit_at-lt ones k in grind arith
    ];
    one = λ k known. let law = bit_at_or ones (2 ^ i) k in let small = bit_at-lt (2 ^ i) k in grind arith;
  }

  pub with_bit_at : (i : ℕ) → bit_at (bit_or ones (2 ^ i)) i ≡ 1
  with_bit_at i =
      let law = bit_at_or ones (2 ^ i) i in let one = bit_at-pow_same i in let small = bit_at-lt ones i in grind arith

  -- ---- the test

  pub in_masks_from : (x : ℕ) → InCube w zeros ones x → in_masks w (record { zeros = zeros; ones = ones }) x ≡ true
  unfolding in_masks agrees_at
  in_masks_from x member =
      and_from (nat_lt x (2 ^ w)) (all_below w (agrees_at (record { zeros = zeros; ones = ones }) x)) (lt-ltb x (2 ^ w) member.fits)
      (all_from w (agrees_at (record { zeros = zeros; ones = ones }) x) (λ i below.
      and_from
      (nat_eq (bit_at zeros i) 0 || nat_eq (bit_at x i) 0)
      (nat_eq (bit_at ones i) 0 || nat_eq (bit_at x i) 1)
      (elim (digit_cases zeros i) [
        | inl clear ↦ or_left (nat_eq (bit_at zeros i) 0) (nat_eq (bit_at x i) 0) (eq-eqb (bit_at zeros i) 0 clear)
        | inr known ↦ or_right (nat_eq (bit_at zeros i) 0) (nat_eq (bit_at x i) 0) (eq-eqb (bit_at x i) 0 (member.zero i known))
      ])
      (elim (digit_cases ones i) [
        | inl clear ↦ or_left (nat_eq (bit_at ones i) 0) (nat_eq (bit_at x i) 1) (eq-eqb (bit_at ones i) 0 clear)
        | inr known ↦ or_right (nat_eq (bit_at ones i) 0) (nat_eq (bit_at x i) 1) (eq-eqb (bit_at x i) 1 (member.one i known))
      ])))

  pub in_masks_at : (x : ℕ) → in_masks w (record { zeros = zeros; ones = ones }) x ≡ true → InCube w zeros ones x
  unfolding in_masks agrees_at
  in_masks_at x passes =
      let parts = and_parts (nat_lt x (2 ^ w)) (all_below w (agrees_at (record { zeros = zeros; ones = ones }) x)) passes in
      let agrees = all_pass w (agrees_at (record { zeros = zeros; ones = ones }) x) parts.1 in
      record {
        fits = ltb-true x (2 ^ w) parts.0;
        zero = λ i known. elim (cases_lt i w) [
          | inl below ↦
              let halves = and_parts (nat_eq (bit_at zeros i) 0 || nat_eq (bit_at x i) 0) (nat_eq (bit_at ones i) 0 || nat_eq (bit_at x i) 1) (agrees i below) in
              elim (or_cases (nat_eq (bit_at zeros i) 0) (nat_eq (bit_at x i) 0) halves.0) [
                | inl clear ↦ absurd (let none = eqb-true (bit_at zeros i) 0 clear in omega arith)
                | inr is ↦ eqb-true (bit_at x i) 0 is
              ]
          | inr above ↦ absurd (let none = bit_at_above zeros w i cube.zeros_fit above in omega arith)
        ];
        one = λ i known. elim (cases_lt i w) [
          | inl below ↦
              let halves = and_parts (nat_eq (bit_at zeros i) 0 || nat_eq (bit_at x i) 0) (nat_eq (bit_at ones i) 0 || nat_eq (bit_at x i) 1) (agrees i below) in
              elim (or_cases (nat_eq (bit_at ones i) 0) (nat_eq (bit_at x i) 1) halves.1) [
                | inl clear ↦ absurd (let none = eqb-true (bit_at ones i) 0 clear in omega arith)
                | inr is ↦ eqb-true (bit_at x i) 1 is
              ]
          | inr above ↦ absurd (let none = bit_at_above ones w i cube.ones_fit above in omega arith)
        ];
      }

  pub cube_test : Tests w (InCube w zeros ones) (in_masks w (record { zeros = zeros; ones = ones }))
  cube_test = record {
    fits = λ x member. member.fits;
    passes = in_masks_from;
    member = λ x below passes. in_masks_at x passes;
  }

  -- the masks of a cube are its own best masks
  pub cube_best : IsBest w (InCube w zeros ones) zeros ones
  cube_best = record {
    zeros_fit = cube.zeros_fit;
    ones_fit = cube.ones_fit;
    zero = λ x i member known. member.zero i known;
    one = λ x i member known. member.one i known;
    some_one = λ i below clear. (bit_or ones (2 ^ i), with_bit_in i below clear, with_bit_at i);
    some_zero = λ i below clear. (ones, ones_in, clear);
  }

-- the best masks of a set with a member have no bit in common
pub best_cube : (w : ℕ) (Set : ℕ → Type 0) (zeros ones x : ℕ) → IsBest w Set zeros ones → Set x → IsCube w zeros ones
best_cube w Set zeros ones x best member = record {
  zeros_fit = best.zeros_fit;
  ones_fit = best.ones_fit;
  apart = apart_from_bits zeros ones (λ i known. elim (digit_cases ones i) [
    | inl clear ↦ clear
    | inr both ↦ absurd (let off = best.zero x i member known in let on = best.one x i member both in omega arith)
  ]);
}

-- ---- results over two cubes

-- r is what op gives of a member of each cube
pub record IsCubeResult (w : ℕ) (op : ℕ → ℕ → ℕ) (a b : Masks) (r : ℕ) : Type 0 where
  pub left : ℕ
  pub right : ℕ
  pub left_in : InCube w a.zeros a.ones left
  pub right_in : InCube w b.zeros b.ones right
  pub is : op left right ≡ r

module _ (w : ℕ) (op : ℕ → ℕ → ℕ) (a b : Masks) (left_cube : IsCube w a.zeros a.ones) (right_cube : IsCube w b.zeros b.ones) where
  pub cube_result : (r : ℕ) → IsCubeResult w op a b r → IsResult w op (in_masks w a) (in_masks w b) r
  cube_result r result = record {
    left = result.left;
    right = result.right;
    left_fits = result.left_in.fits;
    right_fits = result.right_in.fits;
    left_in = in_masks_from w a.zeros a.ones left_cube result.left result.left_in;
    right_in = in_masks_from w b.zeros b.ones right_cube result.right result.right_in;
    is = result.is;
  }

  pub result_cube : (r : ℕ) → IsResult w op (in_masks w a) (in_masks w b) r → IsCubeResult w op a b r
  result_cube r result = record {
    left = result.left;
    right = result.right;
    left_in = in_masks_at w a.zeros a.ones left_cube result.left result.left_in;
    right_in = in_masks_at w b.zeros b.ones right_cube result.right result.right_in;
    is = result.is;
  }

  -- what the masks of an operation's answer have to be, from the relation with witnesses
  pub cubes_best : StaysIn w op → (zeros ones : ℕ) → IsBest w (IsCubeResult w op a b) zeros ones →
      record { zeros = zeros; ones = ones } ≡ best_of w (results w op (in_masks w a) (in_masks w b))
  cubes_best stays zeros ones best = best_results w op (in_masks w a) (in_masks w b) stays zeros ones
      (IsBest-alike w (IsCubeResult w op a b) (IsResult w op (in_masks w a) (in_masks w b)) zeros ones cube_result result_cube best)

  pub cubes_unknown : (zeros ones : ℕ) → IsBest w (IsCubeResult w op a b) zeros ones →
      UnknownBitsVary w op (in_masks w a) (in_masks w b) (record { zeros = zeros; ones = ones })
  cubes_unknown zeros ones best = unknown_bits_vary w op (in_masks w a) (in_masks w b) zeros ones
      (IsBest-alike w (IsCubeResult w op a b) (IsResult w op (in_masks w a) (in_masks w b)) zeros ones cube_result result_cube best)

  pub cubes_cube : (zeros ones : ℕ) → IsBest w (IsCubeResult w op a b) zeros ones → IsCube w zeros ones
  cubes_cube zeros ones best = best_cube w (IsCubeResult w op a b) zeros ones (op a.ones b.ones) best (record {
    left = a.ones;
    right = b.ones;
    left_in = ones_in w a.zeros a.ones left_cube;
    right_in = ones_in w b.zeros b.ones right_cube;
    is = refl;
  })

-- the masks of a cube are the best masks of its numbers
pub masks_are_best : (w : ℕ) (m : Masks) → IsCube w m.zeros m.ones → m ≡ best_of w (in_masks w m)
masks_are_best w m cube =
    best_is w (InCube w m.zeros m.ones) (in_masks w m) (cube_test w m.zeros m.ones cube) m.zeros m.ones (cube_best w m.zeros m.ones cube)
