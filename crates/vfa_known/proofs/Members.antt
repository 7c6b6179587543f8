-- Membership, the join, inclusion and the only member of a cube, by its masks.
use Rattle.std.proofs.Common.{◌≡◌, ℕ, ◌+◌, ◌-◌, ◌%◌, ◌^◌, ◌<◌, ◌≤◌, min, max, Bool, true, false, sym, ◌∙◌, ap, arith, ◌⊎◌, inl, inr, Option, Some, None, bit_and, bit_or, bit_xor}
use Rattle.std.specs.Prelude.{nat_eq, IsTrue, ◌↔◌}
use Rattle.std.specs.Int.{bit_at}
use Rattle.std.proofs.lemmas.Bool.{cases_Bool, cases_eq, cases_lt, true≢false, or_left, or_right, or_cases, eq-eqb, eqb-true, false_from_ne_true, not-true, eqb-false}
use Rattle.std.proofs.lemmas.Nat.{or_lt, xor_lt, pow_pos, and_le_l, le_or_l, or_disjoint}
use Rattle.std.proofs.lemmas.Nat.Bits.{bit_at-lt, bit_at_and, bit_at_or, bit_at_xor, bit_at_above, bit_at_ones, bit_at-zero, same_from_bits, same_from_bits_below}
use Rattle.vfa_dom.specs.Search.{all_below}
use Rattle.vfa_dom.specs.Sets.{Tests, union, includes, single_of}
use Rattle.vfa_dom.specs.Best.{Masks, best_of, IsBest}
use Rattle.vfa_dom.proofs.Searches.{all_pass, found_failing}
use Rattle.vfa_dom.proofs.Bests.{digit_cases, best_is}
use Rattle.vfa_dom.proofs.SetSearches.{includes_from, includes_tells, single_of_is, single_of_several, single_of_exact}
use Rattle.vfa_known.specs.Cube.{IsCube, InCube, in_masks, in_masks_fits}
use Rattle.vfa_known.proofs.Cubes.{apart_at, apart_from_bits, ones_in, with_bit_in, with_bit_at, in_masks_from, in_masks_at}

-- ---- all bits known

module _ (w most x : ℕ) (top : most + 1 ≡ 2 ^ w) (fits : x < 2 ^ w) where
  pub turned_at : (i : ℕ) → i < w → bit_at (bit_xor most x) i ≡ 1 - bit_at x i
  turned_at i below =
      let law = bit_at_xor most x i in
      let same : most ≡ 2 ^ w - 1 = omega arith in
      let one : bit_at most i ≡ 1 = ap (λ n. bit_at n i) same ∙ bit_at_ones w i below in
      let small = bit_at-lt x i in
      law ∙ ap (λ d. (d + bit_at x i) % 2) one ∙ turned_digit (bit_at x i) small
    where
      turned_digit : (d : ℕ) → d < 2 → (1 + d) % 2 ≡ 1 - d
      turned_digit d small = grind arith

  pub turned_fits : bit_xor most x < 2 ^ w
  turned_fits = xor_lt w most x (omega arith) fits

  pub only_cube : IsCube w (bit_xor most x) x
  only_cube = record {
    zeros_fit = turned_fits;
    ones_fit = fits;
    apart = apart_from_bits (bit_xor most x) x (λ i known. elim (cases_lt i w) [
      | inl below ↦ let law = turned_at i below in let small = bit_at-lt x i in grind arith
      | inr above ↦ bit_at_above x w i fits above
    ]);
  }

  -- a number and its complement make up all bits
  pub turned_sums : bit_xor most x + x ≡ most
  turned_sums =
      let none : bit_and (bit_xor most x) x ≡ 0 = only_cube.apart in
      let same : most ≡ 2 ^ w - 1 = omega arith in
      sym (or_disjoint (bit_xor most x) x none)
      ∙ same_from_bits_below w (bit_or (bit_xor most x) x) most (or_lt w (bit_xor most x) x turned_fits fits) (omega arith) (λ i below.
      let law = turned_at i below in let small = bit_at-lt x i in
      bit_at_or (bit_xor most x) x i ∙ whole_digit (bit_at (bit_xor most x) i) (bit_at x i) small law
      ∙ sym (ap (λ n. bit_at n i) same ∙ bit_at_ones w i below))
    where
      whole_digit : (m d : ℕ) → d < 2 → m ≡ 1 - d → max m d ≡ 1
      whole_digit m d small turned = grind arith

  pub only_member : (y : ℕ) → InCube w (bit_xor most x) x y → y ≡ x
  only_member y member = same_from_bits_below w y x member.fits fits (λ i below.
      elim (digit_cases x i) [
        | inl off ↦ member.zero i (let law = turned_at i below in omega arith) ∙ sym off
        | inr on ↦ member.one i on ∙ sym on
      ])

-- all bits of a subset are those of both
pub subset_from : (a b : ℕ) → ((i : ℕ) → bit_at b i ≡ 1 → bit_at a i ≡ 1) → bit_and a b ≡ b
subset_from a b inside = same_from_bits (bit_and a b) b (λ i.
    let law = bit_at_and a b i in let small = bit_at-lt a i in
    elim (digit_cases b i) [
      | inl off ↦ grind arith
      | inr on ↦ let other = inside i on in grind arith
    ])

pub subset_at : (a b : ℕ) → bit_and a b ≡ b → (i : ℕ) → bit_at b i ≡ 1 → bit_at a i ≡ 1
subset_at a b same i on =
    let law : min (bit_at a i) (bit_at b i) ≡ bit_at b i = sym (bit_at_and a b i) ∙ ap (λ n. bit_at n i) same in
    let small = bit_at-lt a i in grind arith

-- `!n` at k bits
pub complement_at : (k n i : ℕ) → n < 2 ^ k → i < k → bit_at (2 ^ k - 1 - n) i ≡ 1 - bit_at n i
complement_at k n i fits below =
    let positive = pow_pos k in
    let sum = turned_sums k (2 ^ k - 1) n (omega arith) fits in
    let same : 2 ^ k - 1 - n ≡ bit_xor (2 ^ k - 1) n = omega arith in
    ap (λ m. bit_at m i) same ∙ turned_at k (2 ^ k - 1) n (omega arith) fits i below

-- ---- the masks decide

module _ (w zeros ones : ℕ) (cube : IsCube w zeros ones) where
  pub in_cube_from : (x : ℕ) → x < 2 ^ w → bit_and x zeros ≡ 0 → bit_and x ones ≡ ones → InCube w zeros ones x
  in_cube_from x fits none all = record {
    fits = fits;
    zero = λ i known.
        let law : min (bit_at x i) (bit_at zeros i) ≡ 0 = sym (bit_at_and x zeros i) ∙ ap (λ n. bit_at n i) none ∙ bit_at-zero i in
        let small = bit_at-lt x i in grind arith;
    one = λ i known.
        let law : min (bit_at x i) (bit_at ones i) ≡ bit_at ones i = sym (bit_at_and x ones i) ∙ ap (λ n. bit_at n i) all in
        let small = bit_at-lt x i in grind arith;
  }

  pub in_cube_zeros : (x : ℕ) → InCube w zeros ones x → bit_and x zeros ≡ 0
  in_cube_zeros x member = apart_from_bits x zeros (λ i on. elim (digit_cases zeros i) [
    | inl clear ↦ clear
    | inr known ↦ absurd (let off = member.zero i known in omega arith)
  ])

  pub in_cube_ones : (x : ℕ) → InCube w zeros ones x → bit_and x ones ≡ ones
  in_cube_ones x member = subset_from x ones member.one

-- ---- answers of `has`

module _ (w zeros ones : ℕ) (cube : IsCube w zeros ones) where
  pub has_not : (x : ℕ) → (bit_and x zeros ≡ 0 → ⊥) → false ≡ in_masks w (record { zeros = zeros; ones = ones }) x
  has_not x some = elim (cases_Bool (in_masks w (record { zeros = zeros; ones = ones }) x)) [
    | inl inside ↦ absurd (some (in_cube_zeros w zeros ones cube x (in_masks_at w zeros ones cube x inside)))
    | inr outside ↦ sym outside
  ]

  pub has_exactly : (x : ℕ) → x < 2 ^ w → bit_and x zeros ≡ 0 →
      nat_eq (bit_and x ones) ones ≡ in_masks w (record { zeros = zeros; ones = ones }) x
  has_exactly x fits none = elim (cases_Bool (in_masks w (record { zeros = zeros; ones = ones }) x)) [
    | inl inside ↦ eq-eqb (bit_and x ones) ones (in_cube_ones w zeros ones cube x (in_masks_at w zeros ones cube x inside)) ∙ sym inside
    | inr outside ↦ false_from_ne_true (nat_eq (bit_and x ones) ones) (λ same.
        true≢false (sym (in_masks_from w zeros ones cube x (in_cube_from w zeros ones cube x fits none (eqb-true (bit_and x ones) ones same))) ∙ outside))
        ∙ sym outside
  ]

-- a test that is a set's own test says yes exactly of its members
pub same_test : (b c : Bool) → b ≡ c → (b ≡ true → c ≡ true) × (c ≡ true → b ≡ true)
same_test b c same = ((λ yes. sym same ∙ yes), (λ yes. same ∙ yes))

-- ---- the join

module _ (w : ℕ) (a b : Masks) (left_cube : IsCube w a.zeros a.ones) (right_cube : IsCube w b.zeros b.ones) where
  pub join_cube : IsCube w (bit_and a.zeros b.zeros) (bit_and a.ones b.ones)
  join_cube = record {
    zeros_fit = let less = and_le_l a.zeros b.zeros in let fits = left_cube.zeros_fit in omega arith;
    ones_fit = let less = and_le_l a.ones b.ones in let fits = left_cube.ones_fit in omega arith;
    apart = apart_from_bits (bit_and a.zeros b.zeros) (bit_and a.ones b.ones) (λ i on.
        let one = bit_at_and a.zeros b.zeros i in let two = bit_at_and a.ones b.ones i in
        let apart = apart_at w a.zeros a.ones left_cube i in
        let small = bit_at-lt a.zeros i in let small' = bit_at-lt b.zeros i in grind arith);
  }

  both_at : (m n i : ℕ) → bit_at (bit_and m n) i ≡ 1 → (bit_at m i ≡ 1) × (bit_at n i ≡ 1)
  both_at m n i on =
      let law = bit_at_and m n i in let small = bit_at-lt m i in let small' = bit_at-lt n i in
      ((grind arith), (grind arith))

  pub join_left : (x : ℕ) → InCube w a.zeros a.ones x → InCube w (bit_and a.zeros b.zeros) (bit_and a.ones b.ones) x
  join_left x member = record {
    fits = member.fits;
    zero = λ i known. member.zero i (both_at a.zeros b.zeros i known).0;
    one = λ i known. member.one i (both_at a.ones b.ones i known).0;
  }

  pub join_right : (x : ℕ) → InCube w b.zeros b.ones x → InCube w (bit_and a.zeros b.zeros) (bit_and a.ones b.ones) x
  join_right x member = record {
    fits = member.fits;
    zero = λ i known. member.zero i (both_at a.zeros b.zeros i known).1;
    one = λ i known. member.one i (both_at a.ones b.ones i known).1;
  }

  abbrev Either : ℕ → Type 0
  Either x = InCube w a.zeros a.ones x ⊎ InCube w b.zeros b.ones x

  join_some_one : (i : ℕ) → i < w → bit_at (bit_and a.zeros b.zeros) i ≡ 0 → (x : ℕ) × Either x × (bit_at x i ≡ 1)
  join_some_one i below clear = elim (digit_cases a.zeros i) [
    | inl free ↦ (bit_or a.ones (2 ^ i), inl (with_bit_in w a.zeros a.ones left_cube i below free), with_bit_at w a.zeros a.ones left_cube i)
    | inr known ↦
        let free : bit_at b.zeros i ≡ 0 = let law = bit_at_and a.zeros b.zeros i in let small = bit_at-lt b.zeros i in grind arith in
        (bit_or b.ones (2 ^ i), inr (with_bit_in w b.zeros b.ones right_cube i below free), with_bit_at w b.zeros b.ones right_cube i)
  ]

  join_some_zero : (i : ℕ) → i < w → bit_at (bit_and a.ones b.ones) i ≡ 0 → (x : ℕ) × Either x × (bit_at x i ≡ 0)
  join_some_zero i below clear = elim (digit_cases a.ones i) [
    | inl free ↦ (a.ones, inl (ones_in w a.zeros a.ones left_cube), free)
    | inr known ↦
        let free : bit_at b.ones i ≡ 0 = let law = bit_at_and a.ones b.ones i in let small = bit_at-lt b.ones i in grind arith in
        (b.ones, inr (ones_in w b.zeros b.ones right_cube), free)
  ]

  pub join_best : IsBest w Either (bit_and a.zeros b.zeros) (bit_and a.ones b.ones)
  join_best = record {
    zeros_fit = join_cube.zeros_fit;
    ones_fit = join_cube.ones_fit;
    zero = λ x i member known. elim member [ inl one ↦ (join_left x one).zero i known | inr two ↦ (join_right x two).zero i known ];
    one = λ x i member known. elim member [ inl one ↦ (join_left x one).one i known | inr two ↦ (join_right x two).one i known ];
    some_one = join_some_one;
    some_zero = join_some_zero;
  }

  either_test : Tests w Either (union (in_masks w a) (in_masks w b))
  unfolding union
  either_test = record {
    fits = λ x member. elim member [ inl one ↦ one.fits | inr two ↦ two.fits ];
    passes = λ x member. elim member [
      | inl one ↦ or_left (in_masks w a x) (in_masks w b x) (in_masks_from w a.zeros a.ones left_cube x one)
      | inr two ↦ or_right (in_masks w a x) (in_masks w b x) (in_masks_from w b.zeros b.ones right_cube x two)
    ];
    member = λ x below passes. elim (or_cases (in_masks w a x) (in_masks w b x) passes) [
      | inl one ↦ inl (in_masks_at w a.zeros a.ones left_cube x one)
      | inr two ↦ inr (in_masks_at w b.zeros b.ones right_cube x two)
    ];
  }

  pub join_is_best : record { zeros = bit_and a.zeros b.zeros; ones = bit_and a.ones b.ones } ≡ best_of w (union (in_masks w a) (in_masks w b))
  join_is_best = best_is w Either (union (in_masks w a) (in_masks w b)) either_test _ _ join_best

  -- ---- inclusion: the masks of the larger set are parts of those of the smaller

  pub inside_from : bit_and a.zeros b.zeros ≡ a.zeros → bit_and a.ones b.ones ≡ a.ones → (x : ℕ) → InCube w b.zeros b.ones x → InCube w a.zeros a.ones x
  inside_from zeros_same ones_same x member = record {
    fits = member.fits;
    zero = λ i known. member.zero i (both_at a.zeros b.zeros i (ap (λ n. bit_at n i) zeros_same ∙ known)).1;
    one = λ i known. member.one i (both_at a.ones b.ones i (ap (λ n. bit_at n i) ones_same ∙ known)).1;
  }

  pub inside_zeros : ((x : ℕ) → InCube w b.zeros b.ones x → InCube w a.zeros a.ones x) → bit_and a.zeros b.zeros ≡ a.zeros
  inside_zeros inside = same_from_bits (bit_and a.zeros b.zeros) a.zeros (λ i.
      let law = bit_at_and a.zeros b.zeros i in
      elim (cases_lt i w) [
        | inr above ↦ let none = bit_at_above a.zeros w i left_cube.zeros_fit above in grind arith
        | inl below ↦ elim (digit_cases a.zeros i) [
          | inl off ↦ grind arith
          | inr on ↦ elim (digit_cases b.zeros i) [
            | inr both ↦ grind arith
            | inl free ↦ absurd (
                let member = inside (bit_or b.ones (2 ^ i)) (with_bit_in w b.zeros b.ones right_cube i below free) in
                let none = member.zero i on in let one = with_bit_at w b.zeros b.ones right_cube i in omega arith)
          ]
        ]
      ])

  pub inside_ones : ((x : ℕ) → InCube w b.zeros b.ones x → InCube w a.zeros a.ones x) → bit_and a.ones b.ones ≡ a.ones
  inside_ones inside = same_from_bits (bit_and a.ones b.ones) a.ones (λ i.
      let law = bit_at_and a.ones b.ones i in let small = bit_at-lt b.ones i in
      elim (digit_cases a.ones i) [
        | inl off ↦ grind arith
        | inr on ↦
            let member = inside b.ones (ones_in w b.zeros b.ones right_cube) in
            let one = member.one i on in grind arith
      ])

  inside_test : includes w (in_masks w a) (in_masks w b) ≡ true → (x : ℕ) → InCube w b.zeros b.ones x → InCube w a.zeros a.ones x
  inside_test all x member = in_masks_at w a.zeros a.ones left_cube x
      (includes_tells w (in_masks w a) (in_masks w b) all x member.fits (in_masks_from w b.zeros b.ones right_cube x member))

  pub includes_not : (bit_and a.zeros b.zeros ≡ a.zeros → ⊥) → false ≡ includes w (in_masks w a) (in_masks w b)
  includes_not other = elim (cases_Bool (includes w (in_masks w a) (in_masks w b))) [
    | inl all ↦ absurd (other (inside_zeros (inside_test all)))
    | inr some ↦ sym some
  ]

  pub includes_exactly : bit_and a.zeros b.zeros ≡ a.zeros →
      nat_eq (bit_and a.ones b.ones) a.ones ≡ includes w (in_masks w a) (in_masks w b)
  includes_exactly zeros_same = elim (cases_Bool (includes w (in_masks w a) (in_masks w b))) [
    | inl all ↦ eq-eqb (bit_and a.ones b.ones) a.ones (inside_ones (inside_test all)) ∙ sym all
    | inr some ↦ false_from_ne_true (nat_eq (bit_and a.ones b.ones) a.ones) (λ same.
        true≢false (sym (includes_from w (in_masks w a) (in_masks w b) (λ x below member.
        in_masks_from w a.zeros a.ones left_cube x
        (inside_from zeros_same (eqb-true (bit_and a.ones b.ones) a.ones same) x (in_masks_at w b.zeros b.ones right_cube x member)))) ∙ some))
        ∙ sym some
  ]

-- ---- the only member

module _ (w most zeros ones : ℕ) (top : most + 1 ≡ 2 ^ w) (cube : IsCube w zeros ones) where
  pub single_known : bit_or zeros ones ≡ most → single_of w (in_masks w (record { zeros = zeros; ones = ones })) ≡ Some ones
  single_known all = single_of_is w (in_masks w (record { zeros = zeros; ones = ones })) ones cube.ones_fit
      (in_masks_from w zeros ones cube ones (ones_in w zeros ones cube))
      (λ y below passes.
      let member = in_masks_at w zeros ones cube y passes in
      same_from_bits_below w y ones below cube.ones_fit (λ i inside.
      let law = bit_at_or zeros ones i in
      let same : most ≡ 2 ^ w - 1 = omega arith in
      let on : bit_at (bit_or zeros ones) i ≡ 1 = ap (λ n. bit_at n i) (all ∙ same) ∙ bit_at_ones w i inside in
      elim (digit_cases ones i) [
        | inr one ↦ member.one i one ∙ sym one
        | inl off ↦ member.zero i (let small = bit_at-lt zeros i in grind arith) ∙ sym off
      ]))

  all_known : all_below w (λ i. nat_eq (bit_at (bit_or zeros ones) i) 1) ≡ true → bit_or zeros ones ≡ most
  all_known all =
      let same : most ≡ 2 ^ w - 1 = omega arith in
      same_from_bits_below w (bit_or zeros ones) most (or_lt w zeros ones cube.zeros_fit cube.ones_fit) (omega arith) (λ i below.
      eqb-true (bit_at (bit_or zeros ones) i) 1 (all_pass w (λ k. nat_eq (bit_at (bit_or zeros ones) k) 1) all i below)
      ∙ sym (ap (λ n. bit_at n i) same ∙ bit_at_ones w i below))

  pub single_open : (bit_or zeros ones ≡ most → ⊥) → single_of w (in_masks w (record { zeros = zeros; ones = ones })) ≡ None
  single_open other = elim (cases_Bool (all_below w (λ i. nat_eq (bit_at (bit_or zeros ones) i) 1))) [
    | inl all ↦ absurd (other (all_known all))
    | inr some ↦
        let found = found_failing w (λ i. nat_eq (bit_at (bit_or zeros ones) i) 1) some in
        let free = eqb-false (bit_at (bit_or zeros ones) found.at) 1 (not-true (nat_eq (bit_at (bit_or zeros ones) found.at) 1) found.passes) in
        let law = bit_at_or zeros ones found.at in
        let small = bit_at-lt zeros found.at in
        let small' = bit_at-lt ones found.at in
        let zero_clear : bit_at zeros found.at ≡ 0 = grind arith in
        let one_clear : bit_at ones found.at ≡ 0 = grind arith in
        let upper = with_bit_in w zeros ones cube found.at found.below zero_clear in
        single_of_several w (in_masks w (record { zeros = zeros; ones = ones })) ones (bit_or ones (2 ^ found.at))
        cube.ones_fit (in_masks_from w zeros ones cube ones (ones_in w zeros ones cube))
        upper.fits (in_masks_from w zeros ones cube (bit_or ones (2 ^ found.at)) upper)
        (more ones (bit_or ones (2 ^ found.at)) found.at (le_or_l ones (2 ^ found.at)) one_clear (with_bit_at w zeros ones cube found.at))
  ]
    where
      more : (m n i : ℕ) → m ≤ n → bit_at m i ≡ 0 → bit_at n i ≡ 1 → m < n
      more m n i least off on = elim (cases_eq m n) [
        | inl same ↦ absurd (let moved = ap (λ k. bit_at k i) same in omega arith)
        | inr apart ↦ grind arith
      ]

-- ---- all numbers

pub any_cube : (w : ℕ) → IsCube w 0 0
any_cube w = record { zeros_fit = pow_pos w; ones_fit = pow_pos w; apart = apart_from_bits 0 0 (λ i on. bit_at-zero i) }

pub any_member : (w x : ℕ) → x < 2 ^ w → InCube w 0 0 x
any_member w x fits = record {
  fits = fits;
  zero = λ i on. absurd (let none = bit_at-zero i in omega arith);
  one = λ i on. absurd (let none = bit_at-zero i in omega arith);
}

-- ---- what the answers of `includes` and `single` tell

pub includes_in : (w : ℕ) (a b : Masks) → IsCube w a.zeros a.ones → IsCube w b.zeros b.ones →
    includes w (in_masks w a) (in_masks w b) ≡ true → (x : ℕ) → IsTrue (in_masks w b x) → IsTrue (in_masks w a x)
includes_in w a b left_cube right_cube all x member =
    includes_tells w (in_masks w a) (in_masks w b) all x (in_masks_fits w b x member) member

pub single_tells : (w : ℕ) (m : Masks) (answer : Option ℕ) → answer ≡ single_of w (in_masks w m) → (x : ℕ) →
    (answer ≡ Some x) ↔ ((y : ℕ) → IsTrue (in_masks w m y) ↔ (y ≡ x))
single_tells w m answer same x =
    let exact = single_of_exact w (in_masks w m) (in_masks_fits w m) x in
    ((λ is. exact.0 (sym same ∙ is)), (λ only. same ∙ exact.1 only))

pub whole : (w n : ℕ) → n < 2 ^ w → n % 2 ^ w ≡ n
whole w n fits = grind arith

pub only_masks : (w most bits x : ℕ) → most + 1 ≡ 2 ^ w → bits < 2 ^ w → bits ≡ x →
    ◌≡◌ {A = Masks} (record { zeros = bit_xor most bits; ones = bits }) (record { zeros = 2 ^ w - 1 - x; ones = x })
only_masks w most bits x top fits same =
    let sum = turned_sums w most bits top fits in
    let zeros_same : bit_xor most bits ≡ 2 ^ w - 1 - x = omega arith in
    cc
