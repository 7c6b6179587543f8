-- Best known bits: the relation with witnesses and the function determine each other; cubes; sets of results.
use Rattle.std.proofs.Common.{◌≡◌, ℕ, zero, suc, ◌^◌, ◌<◌, Bool, true, false, not, ◌&&◌, refl, sym, ◌∙◌, arith, ◌⊎◌, inl, inr}
use Rattle.std.specs.Prelude.{nat_eq}
use Rattle.std.specs.Int.{bit_at}
use Rattle.std.proofs.lemmas.Bool.{cases_Bool, and_parts, and_from, eqb-true, eq-eqb, not_from_true, not_from_false, cases_lt, not-true, not-false, true≢false}
use Rattle.std.proofs.lemmas.Nat.Bits.{bit_at-lt, bit_at_above}
use Rattle.vfa_dom.specs.Search.{bits_below}
use Rattle.vfa_dom.specs.Sets.{Tests}
use Rattle.vfa_dom.specs.Best.{some_digit, zeros_of, ones_of, best_of, IsBest}
use Rattle.vfa_dom.proofs.Searches.{some_found, found_some, flag-true, flag-false, true_from_flag, false_from_flag, bits_below-lt, bit_at-bits_below, bits_are}

digit_zero : (n i : ℕ) → (bit_at n i ≡ 1 → ⊥) → bit_at n i ≡ 0
digit_zero n i other = let small = bit_at-lt n i in grind arith

digit_one : (n i : ℕ) → (bit_at n i ≡ 0 → ⊥) → bit_at n i ≡ 1
digit_one n i other = let small = bit_at-lt n i in grind arith

-- a bit is 0 or 1
pub digit_cases : (n i : ℕ) → (bit_at n i ≡ 0) ⊎ (bit_at n i ≡ 1)
digit_cases n i = digit_cases_of (bit_at n i) (bit_at-lt n i)
  where
    digit_cases_of : (d : ℕ) → d < 2 → (d ≡ 0) ⊎ (d ≡ 1)
    digit_cases_of zero small = inl refl
    digit_cases_of (suc zero) small = inr refl
    digit_cases_of (suc (suc d)) small = absurd (omega arith)

-- a member of a set that has this digit at place i
pub record HasDigit (Set : ℕ → Type 0) (i digit : ℕ) : Type 0 where
  pub at : ℕ
  pub member : Set at
  pub is : bit_at at i ≡ digit

pub zeros_fit : (w : ℕ) (S : ℕ → Bool) → zeros_of w S < 2 ^ w
unfolding zeros_of
zeros_fit w S = bits_below-lt w (λ i. not (some_digit w S 1 i))

pub ones_fit : (w : ℕ) (S : ℕ → Bool) → ones_of w S < 2 ^ w
unfolding ones_of
ones_fit w S = bits_below-lt w (λ i. not (some_digit w S 0 i))

module _ (w : ℕ) (Set : ℕ → Type 0) (S : ℕ → Bool) (tests : Tests w Set S) where
  pub some_digit_from : (i digit x : ℕ) → Set x → bit_at x i ≡ digit → some_digit w S digit i ≡ true
  unfolding some_digit
  some_digit_from i digit x member is =
      some_found (2 ^ w) (λ y. S y && nat_eq (bit_at y i) digit) x (tests.fits x member)
      (and_from (S x) (nat_eq (bit_at x i) digit) (tests.passes x member) (eq-eqb (bit_at x i) digit is))

  pub some_digit_at : (i digit : ℕ) → some_digit w S digit i ≡ true → HasDigit Set i digit
  unfolding some_digit
  some_digit_at i digit some =
      let found = found_some (2 ^ w) (λ y. S y && nat_eq (bit_at y i) digit) some in
      let parts = and_parts (S found.at) (nat_eq (bit_at found.at i) digit) found.passes in
      record { at = found.at; member = tests.member found.at found.below parts.0; is = eqb-true (bit_at found.at i) digit parts.1 }

  -- masks with witnesses are the best masks of the set
  pub zeros_are : (zeros ones : ℕ) → IsBest w Set zeros ones → zeros ≡ zeros_of w S
  unfolding zeros_of
  zeros_are zeros ones best = bits_are w (λ i. not (some_digit w S 1 i)) zeros best.zeros_fit (λ i below.
      elim (digit_cases zeros i) [
        | inl clear ↦
            let witness = best.some_one i below clear in
            let some = some_digit_from i 1 witness.0 witness.1 witness.2 in
            clear ∙ sym (flag-false (not (some_digit w S 1 i)) (not_from_true (some_digit w S 1 i) some))
        | inr known ↦ elim (cases_Bool (some_digit w S 1 i)) [
          | inl some ↦
              let witness = some_digit_at i 1 some in
              let none = best.zero witness.at i witness.member known in
              let one = witness.is in
              absurd (omega arith)
          | inr none ↦ known ∙ sym (flag-true (not (some_digit w S 1 i)) (not_from_false (some_digit w S 1 i) none))
        ]
      ])

  pub ones_are : (zeros ones : ℕ) → IsBest w Set zeros ones → ones ≡ ones_of w S
  unfolding ones_of
  ones_are zeros ones best = bits_are w (λ i. not (some_digit w S 0 i)) ones best.ones_fit (λ i below.
      elim (digit_cases ones i) [
        | inl clear ↦
            let witness = best.some_zero i below clear in
            let some = some_digit_from i 0 witness.0 witness.1 witness.2 in
            clear ∙ sym (flag-false (not (some_digit w S 0 i)) (not_from_true (some_digit w S 0 i) some))
        | inr known ↦ elim (cases_Bool (some_digit w S 0 i)) [
          | inl some ↦
              let witness = some_digit_at i 0 some in
              let one = best.one witness.at i witness.member known in
              let none = witness.is in
              absurd (omega arith)
          | inr none ↦ known ∙ sym (flag-true (not (some_digit w S 0 i)) (not_from_false (some_digit w S 0 i) none))
        ]
      ])

  pub best_is : (zeros ones : ℕ) → IsBest w Set zeros ones → record { zeros = zeros; ones = ones } ≡ best_of w S
  unfolding best_of
  best_is zeros ones best =
      let same_zeros = zeros_are zeros ones best in
      let same_ones = ones_are zeros ones best in
      cc

  -- and the best masks have their witnesses
  pub zeros_tell : (x i : ℕ) → Set x → bit_at (zeros_of w S) i ≡ 1 → bit_at x i ≡ 0
  unfolding zeros_of
  zeros_tell x i member known = elim (cases_lt i w) [
    | inl below ↦
        let none : some_digit w S 1 i ≡ false =
        not-true (some_digit w S 1 i) (true_from_flag (not (some_digit w S 1 i)) (sym (bit_at-bits_below w (λ k. not (some_digit w S 1 k)) i below) ∙ known)) in
        digit_zero x i (λ one. let some = some_digit_from i 1 x member one in true≢false (sym some ∙ none))
    | inr above ↦ let zero_there = bit_at_above (bits_below w (λ k. not (some_digit w S 1 k))) w i (bits_below-lt w (λ k. not (some_digit w S 1 k))) above in absurd (omega arith)
  ]

  pub ones_tell : (x i : ℕ) → Set x → bit_at (ones_of w S) i ≡ 1 → bit_at x i ≡ 1
  unfolding ones_of
  ones_tell x i member known = elim (cases_lt i w) [
    | inl below ↦
        let none : some_digit w S 0 i ≡ false =
        not-true (some_digit w S 0 i) (true_from_flag (not (some_digit w S 0 i)) (sym (bit_at-bits_below w (λ k. not (some_digit w S 0 k)) i below) ∙ known)) in
        digit_one x i (λ zero_there. let some = some_digit_from i 0 x member zero_there in true≢false (sym some ∙ none))
    | inr above ↦ let zero_there = bit_at_above (bits_below w (λ k. not (some_digit w S 0 k))) w i (bits_below-lt w (λ k. not (some_digit w S 0 k))) above in absurd (omega arith)
  ]

  pub zero_open : (i : ℕ) → i < w → bit_at (zeros_of w S) i ≡ 0 → HasDigit Set i 1
  unfolding zeros_of
  zero_open i below clear = some_digit_at i 1
      (not-false (some_digit w S 1 i) (false_from_flag (not (some_digit w S 1 i)) (sym (bit_at-bits_below w (λ k. not (some_digit w S 1 k)) i below) ∙ clear)))

  pub one_open : (i : ℕ) → i < w → bit_at (ones_of w S) i ≡ 0 → HasDigit Set i 0
  unfolding ones_of
  one_open i below clear = some_digit_at i 0
      (not-false (some_digit w S 0 i) (false_from_flag (not (some_digit w S 0 i)) (sym (bit_at-bits_below w (λ k. not (some_digit w S 0 k)) i below) ∙ clear)))

  pub best_has : IsBest w Set (zeros_of w S) (ones_of w S)
  best_has = record {
    zeros_fit = zeros_fit w S;
    ones_fit = ones_fit w S;
    zero = zeros_tell;
    one = ones_tell;
    some_one = λ i below clear. let has = zero_open i below clear in (has.at, has.member, has.is);
    some_zero = λ i below clear. let has = one_open i below clear in (has.at, has.member, has.is);
  }
