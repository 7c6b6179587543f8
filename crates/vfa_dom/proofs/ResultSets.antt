-- Sets of results: the relations with witnesses and the tests say the same.
use Rattle.std.proofs.Common.{◌≡◌, ℕ, ◌^◌, ◌<◌, Bool, true, ◌&&◌, refl, sym, ◌∙◌, ap, subst, arith}
use Rattle.std.specs.Prelude.{nat_eq}
use Rattle.std.specs.Int.{bit_at}
use Rattle.std.proofs.lemmas.Bool.{and_parts, and_from, eqb-true, eq-eqb}
use Rattle.vfa_dom.specs.Search.{some_below}
use Rattle.vfa_dom.specs.Sets.{Tests}
use Rattle.vfa_dom.specs.Best.{Masks, zeros_of, ones_of, best_of, IsBest}
use Rattle.vfa_dom.specs.Results.{results, images, results_over, IsResult, IsImage, IsResultOver, GivesDigit, ImageGivesDigit, AmountGivesDigit, BitsVary, UnknownBitsVary, UnknownImagesVary, UnknownShiftsVary, UnknownMembersVary}
use Rattle.vfa_dom.proofs.Searches.{some_found, found_some}
use Rattle.vfa_dom.proofs.Bests.{best_is, best_has, HasDigit}

-- an operation whose results have width w
pub record StaysIn (w : ℕ) (op : ℕ → ℕ → ℕ) : Type 0 where
  pub fits : (x y : ℕ) → x < 2 ^ w → y < 2 ^ w → op x y < 2 ^ w

-- the witnesses of masks, at a bit that they leave unknown
digits_vary : (w : ℕ) (Set : ℕ → Type 0) (Gives : ℕ → ℕ → Type 0) → ((i digit : ℕ) → HasDigit Set i digit → Gives i digit) →
    (zeros ones : ℕ) → IsBest w Set zeros ones → BitsVary w Gives (record { zeros = zeros; ones = ones })
digits_vary w Set Gives given zeros ones best = record {
  gives_zero = λ i below zero_clear one_clear.
      let witness = best.some_zero i below one_clear in given i 0 (record { at = witness.0; member = witness.1; is = witness.2 });
  gives_one = λ i below zero_clear one_clear.
      let witness = best.some_one i below zero_clear in given i 1 (record { at = witness.0; member = witness.1; is = witness.2 });
}

-- the best masks of a set have them
bits_vary : (w : ℕ) (Set : ℕ → Type 0) (S : ℕ → Bool) (Gives : ℕ → ℕ → Type 0) → Tests w Set S →
    ((i digit : ℕ) → HasDigit Set i digit → Gives i digit) → (m : Masks) → m ≡ best_of w S → BitsVary w Gives m
unfolding best_of
bits_vary w Set S Gives tests given m is =
    subst (BitsVary w Gives) (sym is) (digits_vary w Set Gives given (zeros_of w S) (ones_of w S) (best_has w Set S tests))

module _ (w : ℕ) (op : ℕ → ℕ → ℕ) (A B : ℕ → Bool) where
  pub results_from : (x y : ℕ) → x < 2 ^ w → A x ≡ true → y < 2 ^ w → B y ≡ true → results w op A B (op x y) ≡ true
  unfolding results
  results_from x y x_fits x_in y_fits y_in =
      let r = op x y in
      some_found (2 ^ w) (λ x. A x && some_below (2 ^ w) (λ y. B y && nat_eq (op x y) r)) x x_fits
      (and_from (A x) (some_below (2 ^ w) (λ y. B y && nat_eq (op x y) r)) x_in
      (some_found (2 ^ w) (λ y. B y && nat_eq (op x y) r) y y_fits
      (and_from (B y) (nat_eq (op x y) r) y_in (eq-eqb (op x y) r refl))))

  pub results_passes : (r : ℕ) → IsResult w op A B r → results w op A B r ≡ true
  results_passes r result =
      subst (λ z. results w op A B z ≡ true) result.is
      (results_from result.left result.right result.left_fits result.left_in result.right_fits result.right_in)

  pub results_at : (r : ℕ) → results w op A B r ≡ true → IsResult w op A B r
  unfolding results
  results_at r some =
      let found = found_some (2 ^ w) (λ x. A x && some_below (2 ^ w) (λ y. B y && nat_eq (op x y) r)) some in
      let parts = and_parts (A found.at) (some_below (2 ^ w) (λ y. B y && nat_eq (op found.at y) r)) found.passes in
      let other = found_some (2 ^ w) (λ y. B y && nat_eq (op found.at y) r) parts.1 in
      let rest = and_parts (B other.at) (nat_eq (op found.at other.at) r) other.passes in
      record {
        left = found.at;
        right = other.at;
        left_fits = found.below;
        right_fits = other.below;
        left_in = parts.0;
        right_in = rest.0;
        is = eqb-true (op found.at other.at) r rest.1;
      }

  pub results_test : StaysIn w op → Tests w (IsResult w op A B) (results w op A B)
  results_test stays = record {
    fits = λ r result. subst (λ z. z < 2 ^ w) result.is (stays.fits result.left result.right result.left_fits result.right_fits);
    passes = results_passes;
    member = λ r below some. results_at r some;
  }

  -- masks with witnesses are the best masks of the results
  pub best_results : StaysIn w op → (zeros ones : ℕ) → IsBest w (IsResult w op A B) zeros ones →
      record { zeros = zeros; ones = ones } ≡ best_of w (results w op A B)
  best_results stays = best_is w (IsResult w op A B) (results w op A B) (results_test stays)

  -- operands that give each digit at a bit left unknown
  pub unknown_bits_vary : (zeros ones : ℕ) → IsBest w (IsResult w op A B) zeros ones →
      UnknownBitsVary w op A B (record { zeros = zeros; ones = ones })
  unknown_bits_vary = digits_vary w (IsResult w op A B) (GivesDigit w op A B) (λ i digit has.
      let result = has.member in
      record {
        left = result.left;
        right = result.right;
        left_fits = result.left_fits;
        right_fits = result.right_fits;
        left_in = result.left_in;
        right_in = result.right_in;
        gives = ap (λ z. bit_at z i) result.is ∙ has.is;
      })

module _ (v : ℕ) (f : ℕ → ℕ) (A : ℕ → Bool) where
  pub images_passes : (r : ℕ) → IsImage v f A r → images v f A r ≡ true
  unfolding images
  images_passes r image =
      some_found (2 ^ v) (λ x. A x && nat_eq (f x) r) image.from image.fits
      (and_from (A image.from) (nat_eq (f image.from) r) image.from_in (eq-eqb (f image.from) r image.is))

  pub images_at : (r : ℕ) → images v f A r ≡ true → IsImage v f A r
  unfolding images
  images_at r some =
      let found = found_some (2 ^ v) (λ x. A x && nat_eq (f x) r) some in
      let parts = and_parts (A found.at) (nat_eq (f found.at) r) found.passes in
      record { from = found.at; fits = found.below; from_in = parts.0; is = eqb-true (f found.at) r parts.1 }

  pub images_test : (w : ℕ) → ((x : ℕ) → x < 2 ^ v → f x < 2 ^ w) → Tests w (IsImage v f A) (images v f A)
  images_test w fits = record {
    fits = λ r image. subst (λ z. z < 2 ^ w) image.is (fits image.from image.fits);
    passes = images_passes;
    member = λ r below some. images_at r some;
  }

  pub best_images : (w : ℕ) → ((x : ℕ) → x < 2 ^ v → f x < 2 ^ w) → (zeros ones : ℕ) → IsBest w (IsImage v f A) zeros ones →
      record { zeros = zeros; ones = ones } ≡ best_of w (images v f A)
  best_images w fits = best_is w (IsImage v f A) (images v f A) (images_test w fits)

  pub images_vary : (w : ℕ) → ((x : ℕ) → x < 2 ^ v → f x < 2 ^ w) → (m : Masks) → m ≡ best_of w (images v f A) →
      UnknownImagesVary w v f A m
  images_vary w fits = bits_vary w (IsImage v f A) (images v f A) (ImageGivesDigit v f A) (images_test w fits) (λ i digit has.
      let image = has.member in
      record {
        from = image.from;
        fits = image.fits;
        from_in = image.from_in;
        gives = ap (λ z. bit_at z i) image.is ∙ has.is;
      })

module _ (w : ℕ) (op : ℕ → ℕ → ℕ) (A : ℕ → Bool) (amounts : ℕ) where
  pub over_passes : (r : ℕ) → IsResultOver w op A amounts r → results_over w op A amounts r ≡ true
  unfolding results_over
  over_passes r result =
      some_found (2 ^ w) (λ x. A x && some_below w (λ t. nat_eq (bit_at amounts t) 1 && nat_eq (op x t) r)) result.from result.from_fits
      (and_from (A result.from) (some_below w (λ t. nat_eq (bit_at amounts t) 1 && nat_eq (op result.from t) r)) result.from_in
      (some_found w (λ t. nat_eq (bit_at amounts t) 1 && nat_eq (op result.from t) r) result.amount result.amount_fits
      (and_from (nat_eq (bit_at amounts result.amount) 1) (nat_eq (op result.from result.amount) r)
      (eq-eqb (bit_at amounts result.amount) 1 result.amount_in) (eq-eqb (op result.from result.amount) r result.is))))

  pub over_at : (r : ℕ) → results_over w op A amounts r ≡ true → IsResultOver w op A amounts r
  unfolding results_over
  over_at r some =
      let found = found_some (2 ^ w) (λ x. A x && some_below w (λ t. nat_eq (bit_at amounts t) 1 && nat_eq (op x t) r)) some in
      let parts = and_parts (A found.at) (some_below w (λ t. nat_eq (bit_at amounts t) 1 && nat_eq (op found.at t) r)) found.passes in
      let other = found_some w (λ t. nat_eq (bit_at amounts t) 1 && nat_eq (op found.at t) r) parts.1 in
      let rest = and_parts (nat_eq (bit_at amounts other.at) 1) (nat_eq (op found.at other.at) r) other.passes in
      record {
        from = found.at;
        amount = other.at;
        from_fits = found.below;
        amount_fits = other.below;
        from_in = parts.0;
        amount_in = eqb-true (bit_at amounts other.at) 1 rest.0;
        is = eqb-true (op found.at other.at) r rest.1;
      }

  pub over_test : ((x t : ℕ) → x < 2 ^ w → t < w → op x t < 2 ^ w) → Tests w (IsResultOver w op A amounts) (results_over w op A amounts)
  over_test fits = record {
    fits = λ r result. subst (λ z. z < 2 ^ w) result.is (fits result.from result.amount result.from_fits result.amount_fits);
    passes = over_passes;
    member = λ r below some. over_at r some;
  }

  pub best_over : ((x t : ℕ) → x < 2 ^ w → t < w → op x t < 2 ^ w) → (zeros ones : ℕ) →
      IsBest w (IsResultOver w op A amounts) zeros ones → record { zeros = zeros; ones = ones } ≡ best_of w (results_over w op A amounts)
  best_over fits = best_is w (IsResultOver w op A amounts) (results_over w op A amounts) (over_test fits)

  pub shifts_vary : ((x t : ℕ) → x < 2 ^ w → t < w → op x t < 2 ^ w) → (m : Masks) → m ≡ best_of w (results_over w op A amounts) →
      UnknownShiftsVary w op A amounts m
  shifts_vary fits = bits_vary w (IsResultOver w op A amounts) (results_over w op A amounts) (AmountGivesDigit w op A amounts)
      (over_test fits) (λ i digit has.
      let result = has.member in
      record {
        from = result.from;
        amount = result.amount;
        from_fits = result.from_fits;
        amount_fits = result.amount_fits;
        from_in = result.from_in;
        amount_in = result.amount_in;
        gives = ap (λ z. bit_at z i) result.is ∙ has.is;
      })

-- a set that is a test
pub members_vary : (w : ℕ) (S : ℕ → Bool) (m : Masks) → m ≡ best_of w S → UnknownMembersVary w S m
members_vary w S = bits_vary w (λ x. (x < 2 ^ w) × (S x ≡ true)) S (ImageGivesDigit w (λ x. x) S)
    (record { fits = λ x member. member.0; passes = λ x member. member.1; member = λ x below passes. (below, passes) })
    (λ i digit has. record { from = has.at; fits = has.member.0; from_in = has.member.1; gives = has.is })

-- operations that agree on the numbers of the width have the same results
pub IsResult-alike : (w : ℕ) (one two : ℕ → ℕ → ℕ) (A B : ℕ → Bool) → ((x y : ℕ) → x < 2 ^ w → y < 2 ^ w → one x y ≡ two x y) →
    (r : ℕ) → IsResult w one A B r → IsResult w two A B r
IsResult-alike w one two A B alike r result = record {
  left = result.left;
  right = result.right;
  left_fits = result.left_fits;
  right_fits = result.right_fits;
  left_in = result.left_in;
  right_in = result.right_in;
  is = sym (alike result.left result.right result.left_fits result.right_fits) ∙ result.is;
}

pub results-alike : (w : ℕ) (one two : ℕ → ℕ → ℕ) (A B : ℕ → Bool) → ((x y : ℕ) → x < 2 ^ w → y < 2 ^ w → one x y ≡ two x y) →
    (r : ℕ) → results w one A B r ≡ results w two A B r
results-alike w one two A B alike r = same_tests (results w one A B r) (results w two A B r)
    (λ member. results_passes w two A B r (IsResult-alike w one two A B alike r (results_at w one A B r member)))
    (λ member. results_passes w one A B r (IsResult-alike w two one A B (λ x y left right. sym (alike x y left right)) r (results_at w two A B r member)))
  where
    same_tests : (a b : Bool) → (a ≡ true → b ≡ true) → (b ≡ true → a ≡ true) → a ≡ b
    same_tests a b there back = grind arith

-- sets with the same members have the same best masks
pub IsBest-alike : (w : ℕ) (One Two : ℕ → Type 0) (zeros ones : ℕ) → ((x : ℕ) → One x → Two x) → ((x : ℕ) → Two x → One x) →
    IsBest w One zeros ones → IsBest w Two zeros ones
IsBest-alike w One Two zeros ones there back best = record {
  zeros_fit = best.zeros_fit;
  ones_fit = best.ones_fit;
  zero = λ x i member known. best.zero x i (back x member) known;
  one = λ x i member known. best.one x i (back x member) known;
  some_one = λ i below clear. let witness = best.some_one i below clear in (witness.0, there witness.0 witness.1, witness.2);
  some_zero = λ i below clear. let witness = best.some_zero i below clear in (witness.0, there witness.0 witness.1, witness.2);
}
