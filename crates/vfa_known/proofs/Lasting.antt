-- What is known of a shift by the least amount, in a run at the end from which the shift moves, is known of the shift by
-- each greater amount.
use Rattle.std.proofs.Common.{◌≡◌, ℕ, ◌+◌, ◌-◌, ◌^◌, ◌<◌, ◌≤◌, Bool, min, max, sym, ◌∙◌, ap, subst, arith, ◌⊎◌, inl, inr}
use Rattle.std.specs.Int.{bit_at}
use Rattle.std.proofs.lemmas.Bool.{cases_lt}
use Rattle.std.proofs.lemmas.Nat.Bits.{bit_at-lt, bit_at_or, bit_at-zero}
use Rattle.vfa_dom.specs.Best.{Masks, zeros_of, ones_of, best_of}
use Rattle.vfa_dom.specs.Results.{images, results_over}
use Rattle.vfa_word.specs.Numbers.{IsWidth}
use Rattle.vfa_known.specs.declared.shift.Shift.{Shift}
use Rattle.vfa_known.specs.declared.shift.Shift.TheVariants.{Left, Logical, Arithmetic}
use Rattle.vfa_known.specs.AmountRuns.{AreKnownOverRun}
use Rattle.vfa_known.specs.Cube.{IsCube, in_masks}
use Rattle.vfa_known.specs.Runs.{AreLasting, ZerosLast, OnesLast}
use Rattle.vfa_known.specs.Shift.{shift_of, zeros_from_outside}
use Rattle.vfa_known.proofs.Amounts.{IsMeetOver, HasSeenLeast, best_zeros, best_ones, meet_whole, over_masks, shift_stays}
use Rattle.vfa_known.proofs.EndRuns.{place_within}
use Rattle.vfa_known.proofs.Moves.{MovesDigits, moved_is}
use Rattle.vfa_known.proofs.Places.{place_of, place_below, place_above, shift_moves}

-- the results by the amount t
abbrev pub shifted_by : Shift → ℕ → ℕ → ℕ → ℕ → (ℕ → Bool)
shifted_by shift w zeros ones t = images w (λ x. shift_of shift w x t) (in_masks w (record { zeros = zeros; ones = ones }))

either_one : (a b c : ℕ) → a < 2 → b < 2 → c ≡ max a b → (a ≡ 1) ⊎ (b ≡ 1) → c ≡ 1
either_one a b c p q e (inl one) = grind arith
either_one a b c p q e (inr one) = grind arith

first_of_two : (a b c : ℕ) → c ≡ max a b → c ≡ 1 → b ≡ 0 → a ≡ 1
first_of_two a b c e on none = grind arith

none_at : (i n : ℕ) → n ≡ 0 → bit_at n i ≡ 1 → ⊥
none_at i n none on = let zero = ap (λ m. bit_at m i) none in let empty = bit_at-zero i in absurd (omega arith)

-- what is known of each digit of the results by the amount t
module _ (shift : Shift) (w t zeros ones : ℕ) (width : IsWidth w) (cube : IsCube w zeros ones) (below : t < w) where
  moves : MovesDigits w w (λ x. shift_of shift w x t) (place_of shift w t) (zeros_from_outside shift w t)
  moves = shift_moves shift w t width below

  zeros_at : (i : ℕ) → bit_at (zeros_of w (shifted_by shift w zeros ones t)) i ≡ max (bit_at (shift_of shift w zeros t) i) (bit_at (zeros_from_outside shift w t) i)
  zeros_at i =
      ap (λ n. bit_at n i) (sym (best_zeros w (shifted_by shift w zeros ones t) _ (moved_is w w (λ x. shift_of shift w x t) (place_of shift w t) (zeros_from_outside shift w t) zeros ones moves cube)))
      ∙ bit_at_or (shift_of shift w zeros t) (zeros_from_outside shift w t) i

  pub ones_at : (i : ℕ) → bit_at (ones_of w (shifted_by shift w zeros ones t)) i ≡ bit_at (shift_of shift w ones t) i
  ones_at i =
      ap (λ n. bit_at n i) (sym (best_ones w (shifted_by shift w zeros ones t) _ (moved_is w w (λ x. shift_of shift w x t) (place_of shift w t) (zeros_from_outside shift w t) zeros ones moves cube)))

  pub zero_from : (i : ℕ) → i < w → (place_of shift w t i < w → bit_at zeros (place_of shift w t i) ≡ 1) → bit_at (zeros_of w (shifted_by shift w zeros ones t)) i ≡ 1
  zero_from i small known =
      either_one (bit_at (shift_of shift w zeros t) i) (bit_at (zeros_from_outside shift w t) i) (bit_at (zeros_of w (shifted_by shift w zeros ones t)) i)
      (bit_at-lt (shift_of shift w zeros t) i) (bit_at-lt (zeros_from_outside shift w t) i) (zeros_at i)
      (elim (cases_lt (place_of shift w t i) w) [
        | inl inside ↦ inl (moves.digit zeros i cube.zeros_fit small ∙ known inside)
        | inr outside ↦ inr (moves.filled i small outside)
      ])

  pub zero_tells : (i : ℕ) → i < w → place_of shift w t i < w → bit_at (zeros_of w (shifted_by shift w zeros ones t)) i ≡ 1 → bit_at zeros (place_of shift w t i) ≡ 1
  zero_tells i small inside on =
      sym (moves.digit zeros i cube.zeros_fit small)
      ∙ first_of_two (bit_at (shift_of shift w zeros t) i) (bit_at (zeros_from_outside shift w t) i) (bit_at (zeros_of w (shifted_by shift w zeros ones t)) i)
      (zeros_at i) on (moves.unfilled i small inside)

  pub one_from : (i : ℕ) → i < w → bit_at ones (place_of shift w t i) ≡ 1 → bit_at (ones_of w (shifted_by shift w zeros ones t)) i ≡ 1
  one_from i small known = ones_at i ∙ moves.digit ones i cube.ones_fit small ∙ known

  pub one_tells : (i : ℕ) → i < w → bit_at (ones_of w (shifted_by shift w zeros ones t)) i ≡ 1 → bit_at ones (place_of shift w t i) ≡ 1
  one_tells i small on = sym (moves.digit ones i cube.ones_fit small) ∙ sym (ones_at i) ∙ on

-- the place j at which the shift by first has the digit that the shift by t has at place i
module _ (w first t i : ℕ) (order : first ≤ t) (small : i < w) where
  left_inside : place_of Left w t i < w → t ≤ i
  left_inside inside = elim (cases_lt i t) [
    | inl low ↦ absurd (let place = place_below w t i low in omega arith)
    | inr high ↦ high
  ]

  left_place : t ≤ i → place_of Left w first (i - t + first) ≡ place_of Left w t i
  left_place high = place_above w first (i - t + first) (omega arith) ∙ back ∙ sym (place_above w t i high)
    where
      back : i - t + first - first ≡ i - t
      back = omega arith

  logical_place : place_of Logical w first (i + t - first) ≡ place_of Logical w t i
  logical_place = omega arith

  arithmetic_place : place_of Arithmetic w first (min (i + t - first) (w - 1)) ≡ place_of Arithmetic w t i
  arithmetic_place = omega arith

-- what the masks n know is known of the results by the amount first
pub record HoldAt (shift : Shift) (w first zeros ones : ℕ) (n : Masks) : Type 0 where
  pub zero : (j : ℕ) → bit_at n.zeros j ≡ 1 → bit_at (zeros_of w (shifted_by shift w zeros ones first)) j ≡ 1
  pub one : (j : ℕ) → bit_at n.ones j ≡ 1 → bit_at (ones_of w (shifted_by shift w zeros ones first)) j ≡ 1

module _ (w first t zeros ones : ℕ) (n : Masks) (width : IsWidth w) (cube : IsCube w zeros ones) (order : first ≤ t) (below : t < w) where
  first_below : first < w
  first_below = omega arith

  -- a zero known of the first results at the place j is known at the place i of the results by t
  moved_zero : (shift : Shift) (i j : ℕ) → HoldAt shift w first zeros ones n → i < w → j < w → place_of shift w first j ≡ place_of shift w t i → bit_at n.zeros j ≡ 1 →
      place_of shift w t i < w → bit_at zeros (place_of shift w t i) ≡ 1
  moved_zero shift i j is small small_first same on inside =
      subst (λ p. bit_at zeros p ≡ 1) same
      (zero_tells shift w first zeros ones width cube first_below j small_first (subst (λ p. p < w) (sym same) inside) (is.zero j on))

  pub zeros_last : (shift : Shift) → HoldAt shift w first zeros ones n → ZerosLast shift w n.zeros n.zeros → (i : ℕ) → bit_at n.zeros i ≡ 1 →
      bit_at (zeros_of w (shifted_by shift w zeros ones t)) i ≡ 1
  zeros_last Left is lasting i on =
      let small = place_within w n.zeros i lasting.fits on in
      zero_from Left w t zeros ones width cube below i small (λ inside.
      let high = left_inside w first t i order small inside in
      moved_zero Left i (i - t + first) is small (omega arith) (left_place w first t i order small high) (lasting.lower i (i - t + first) on (omega arith)) inside)
  zeros_last Logical is lasting i on =
      let small = place_within w n.zeros i lasting.fits on in
      zero_from Logical w t zeros ones width cube below i small (λ inside.
      moved_zero Logical i (i + t - first) is small (omega arith) (logical_place w first t i order small) (lasting.higher i (i + t - first) on (omega arith) (omega arith)) inside)
  zeros_last Arithmetic is lasting i on =
      let small = place_within w n.zeros i lasting.fits on in
      zero_from Arithmetic w t zeros ones width cube below i small (λ inside.
      moved_zero Arithmetic i (min (i + t - first) (w - 1)) is small (omega arith) (arithmetic_place w first t i order small)
      (lasting.higher i (min (i + t - first) (w - 1)) on (omega arith) (omega arith)) inside)

  pub ones_last : (shift : Shift) → HoldAt shift w first zeros ones n → OnesLast shift w n.ones n.ones → (i : ℕ) → bit_at n.ones i ≡ 1 →
      bit_at (ones_of w (shifted_by shift w zeros ones t)) i ≡ 1
  ones_last Left is lasting i on = absurd (none_at i n.ones lasting on)
  ones_last Logical is lasting i on = absurd (none_at i n.ones lasting on)
  ones_last Arithmetic is lasting i on =
      let small = place_within w n.ones i lasting.fits on in
      let known = lasting.higher i (min (i + t - first) (w - 1)) on (omega arith) (omega arith) in
      one_from Arithmetic w t zeros ones width cube below i small
      (subst (λ p. bit_at ones p ≡ 1) (arithmetic_place w first t i order small)
      (one_tells Arithmetic w first zeros ones width cube first_below (min (i + t - first) (w - 1)) (omega arith) (is.one (min (i + t - first) (w - 1)) known)))

-- masks that last, known over a run of amounts, are known over a longer one
module _ (shift : Shift) (w zeros ones first done count : ℕ) (m : Masks) (width : IsWidth w) (cube : IsCube w zeros ones)
    (some : 1 ≤ done) (fewer : done < count) (below : first + count ≤ w)
    (lasting : AreLasting shift w m)
    (known : AreKnownOverRun w (λ t. shifted_by shift w zeros ones t) first done m) where
  pub lasting_run : AreKnownOverRun w (λ t. shifted_by shift w zeros ones t) first count m
  lasting_run = record {
    zero_all = λ t i from upto on. zeros_last w first t zeros ones m width cube from (omega arith) shift hold lasting.zeros_last i on;
    one_all = λ t i from upto on. ones_last w first t zeros ones m width cube from (omega arith) shift hold lasting.ones_last i on;
    zero_some = λ i small clear. let t = known.zero_some i small clear in let upto = t.2 in (t.0, t.1, omega arith, t.3);
    one_some = λ i small clear. let t = known.one_some i small clear in let upto = t.2 in (t.0, t.1, omega arith, t.3);
  }
    where
      hold : HoldAt shift w first zeros ones m
      hold = record {
        zero = λ j on. known.zero_all first j (omega arith) (omega arith) on;
        one = λ j on. known.one_all first j (omega arith) (omega arith) on;
      }

-- where the masks over the amounts seen last, they are those over all amounts
module _ (w : ℕ) (shift : Shift) (amounts zeros ones : ℕ) (m : Masks) (width : IsWidth w) (cube : IsCube w zeros ones)
    (below_width : amounts < 2 ^ w) (lasting : AreLasting shift w m) where
  pub whole_masks : (left : ℕ) → IsCube w m.zeros m.ones → HasSeenLeast amounts left → IsMeetOver w (λ t. shifted_by shift w zeros ones t) amounts left m.zeros m.ones →
      m ≡ best_of w (results_over w (shift_of shift w) (in_masks w (record { zeros = zeros; ones = ones })) amounts)
  whole_masks left masks seen meet =
      let hold : HoldAt shift w seen.first zeros ones m = record { zero = λ j on. meet.zero_all seen.first j seen.inside seen.seen on; one = λ j on. meet.one_all seen.first j seen.inside seen.seen on } in
      over_masks w (shift_of shift w) (in_masks w (record { zeros = zeros; ones = ones })) amounts (shift_stays shift w width) below_width m masks.zeros_fit masks.ones_fit
      (meet_whole w (λ t. shifted_by shift w zeros ones t) amounts left m meet
      (λ t i one known. zeros_last w seen.first t zeros ones m width cube (seen.least t one) (place_within w amounts t below_width one) shift hold lasting.zeros_last i known)
      (λ t i one known. ones_last w seen.first t zeros ones m width cube (seen.least t one) (place_within w amounts t below_width one) shift hold lasting.ones_last i known))
