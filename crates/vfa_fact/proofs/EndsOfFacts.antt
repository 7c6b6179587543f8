-- The ends of the set of a fact.
use Rattle.std.proofs.Common.{◌≡◌, ℕ, ℤ, pos, ◌-ℤ◌, ◌+◌, ◌-◌, ◌*◌, ◌%◌, ◌^◌, ◌<◌, ◌≤◌, ◌≤ℤ◌, ◌<ℤ◌, Bool, true, false, sym, ◌∙◌, ap, arith, bit_xor, Some, None}
use Rattle.std.specs.Prelude.{int_le}
use Rattle.std.proofs.lemmas.Int.{ints}
use Rattle.std.proofs.lemmas.Nat.{one_shl, pow_pos}
use Rattle.std.proofs.Math.Nat.{mod-eq_of_lt}
use Rattle.vfa_word.specs.Numbers.{IsWidth, signed_of}
use Rattle.vfa_dom.specs.Search.{some_below, least_below, greatest_below}
use Rattle.vfa_dom.specs.Sets.{at_or_after, at_or_before, least_of, greatest_of}
use Rattle.vfa_dom.specs.Best.{Masks}
use Rattle.vfa_dom.proofs.Searches.{some_found}
use Rattle.vfa_known.specs.Cube.{IsCube, in_masks}
use Rattle.vfa_wrap.specs.Arc.{steps}
use Rattle.vfa_wrap.specs.Places.{in_signed_order, reading_at}
use Rattle.vfa_wrap.specs.Ends.{EndsOf, ends_of}
use Rattle.vfa_fact.specs.declared.numbers.Numbers.{Numbers}
use Rattle.vfa_fact.specs.Fact.{masks_in, span_in, in_numbers, IsFact}
use Rattle.vfa_fact.specs.Sharp.{first_from, last_from}
use Rattle.vfa_fact.proofs.Going.{first_is, last_is, first_found, last_found}
use Rattle.vfa_fact.proofs.CubeCuts.{from_zero}
use Rattle.vfa_fact.proofs.Facts.{numbers_from, numbers_parts, fact_cube}
use Rattle.vfa_fact.proofs.FactEnds.{plain_first, plain_last, split_first, split_last, cube_first, cube_last, first_after, first_below, last_before, last_above, least_first, greatest_last, half_fits, place_reads, signed_least, signed_greatest}

-- ---- the first and the last number of a cube in the signed order, as the code finds them

module _ (w : ℕ) (m : Masks) (width : IsWidth w) (cube : IsCube w m.zeros m.ones) where
  half_at : 1 * 2 ^ (w - 1) % 2 ^ 128 ≡ 2 ^ (w - 1)
  half_at = let one = width.least in let most = width.most in one_shl (w - 1) 128 (omega arith)

  pub first_signed : (x r : ℕ) → least_of w (at_or_after (1 * 2 ^ (w - 1) % 2 ^ 128) (in_masks w m)) ≡ Some x → r ≡ x % 2 ^ w →
      r ≡ first_from w (2 ^ (w - 1)) (in_masks w m)
  first_signed x r is er =
      let hh = half_fits w width.least in
      let first = first_after w (2 ^ (w - 1)) (in_masks w m) hh x (ap (λ h. least_of w (at_or_after h (in_masks w m))) (sym half_at) ∙ is) in
      er ∙ mod-eq_of_lt first.fits ∙ sym (first_is w (2 ^ (w - 1)) (in_masks w m) hh x first)

  pub first_unsigned : (x r : ℕ) → least_of w (at_or_after (1 * 2 ^ (w - 1) % 2 ^ 128) (in_masks w m)) ≡ None → x ≡ m.ones → r ≡ x % 2 ^ w →
      r ≡ first_from w (2 ^ (w - 1)) (in_masks w m)
  first_unsigned x r none ex er =
      let hh = half_fits w width.least in
      let first = first_below w (2 ^ (w - 1)) (in_masks w m) hh m.ones (ap (λ h. least_of w (at_or_after h (in_masks w m))) (sym half_at) ∙ none)
      (cube_first w m.zeros m.ones cube) in
      er ∙ ap (λ n. n % 2 ^ w) ex ∙ mod-eq_of_lt first.fits ∙ sym (first_is w (2 ^ (w - 1)) (in_masks w m) hh m.ones first)

  before_half : 1 * 2 ^ (w - 1) % 2 ^ 128 - 1 + 1 ≡ 2 ^ (w - 1)
  before_half = let at = half_at in let some = pow_pos (w - 1) in omega arith

  pub last_signed : (x r : ℕ) → greatest_of w (at_or_before (1 * 2 ^ (w - 1) % 2 ^ 128 - 1) (in_masks w m)) ≡ Some x → r ≡ x % 2 ^ w →
      r ≡ last_from w (2 ^ (w - 1)) (in_masks w m)
  last_signed x r is er =
      let hh = half_fits w width.least in
      let last = last_before w (2 ^ (w - 1)) (in_masks w m) hh x (1 * 2 ^ (w - 1) % 2 ^ 128 - 1) before_half is in
      er ∙ mod-eq_of_lt last.fits ∙ sym (last_is w (2 ^ (w - 1)) (in_masks w m) hh x last)

  pub last_unsigned : (most z r : ℕ) → most + 1 ≡ 2 ^ w → greatest_of w (at_or_before (1 * 2 ^ (w - 1) % 2 ^ 128 - 1) (in_masks w m)) ≡ None → z ≡ m.zeros →
      r ≡ bit_xor most z % 2 ^ w → r ≡ last_from w (2 ^ (w - 1)) (in_masks w m)
  last_unsigned most z r top none ez er =
      let hh = half_fits w width.least in
      let last = last_above w (2 ^ (w - 1)) (in_masks w m) hh (bit_xor most m.zeros) (1 * 2 ^ (w - 1) % 2 ^ 128 - 1) before_half none
      (cube_last w m.zeros m.ones cube most top) in
      er ∙ ap (λ n. bit_xor most n % 2 ^ w) ez ∙ mod-eq_of_lt last.fits ∙ sym (last_is w (2 ^ (w - 1)) (in_masks w m) hh (bit_xor most m.zeros) last)

-- ---- the ends of a fact

module _ (w : ℕ) (n : Numbers) (is : IsFact w n) (one : 1 ≤ w) where
  cube : IsCube w n.zeros n.ones
  cube = fact_cube w n is

  zero_fits : 0 < 2 ^ w
  zero_fits = pow_pos w

  pub least_plain : (f l : ℕ) → f ≡ n.first → l ≡ n.last → f ≤ l → f ≡ least_below (2 ^ w) (in_numbers w n)
  least_plain f l ef el whole =
      let zf = from_zero w n.first is.arc.first_fits in let zl = from_zero w n.last is.arc.last_fits in
      ef ∙ least_first w (in_numbers w n) n.first
      (plain_first w 0 (span_in n) (in_masks w (masks_in n)) (in_numbers w n) is.arc zero_fits (numbers_from w n) (numbers_parts w n) is.first_in is.last_in (omega arith))

  pub least_split : (f l o : ℕ) → f ≡ n.first → l ≡ n.last → l < f → o ≡ n.ones → o ≡ least_below (2 ^ w) (in_numbers w n)
  least_split f l o ef el turned eo =
      let zf = from_zero w n.first is.arc.first_fits in let zl = from_zero w n.last is.arc.last_fits in
      eo ∙ least_first w (in_numbers w n) n.ones
      (split_first w 0 (span_in n) (in_masks w (masks_in n)) (in_numbers w n) is.arc zero_fits (numbers_from w n) (numbers_parts w n) is.first_in is.last_in n.ones (omega arith)
      (cube_first w n.zeros n.ones cube))

  pub greatest_plain : (f l : ℕ) → f ≡ n.first → l ≡ n.last → f ≤ l → l ≡ greatest_below (2 ^ w) (in_numbers w n)
  greatest_plain f l ef el whole =
      let zf = from_zero w n.first is.arc.first_fits in let zl = from_zero w n.last is.arc.last_fits in
      el ∙ greatest_last w (in_numbers w n) n.last
      (plain_last w 0 (span_in n) (in_masks w (masks_in n)) (in_numbers w n) is.arc zero_fits (numbers_from w n) (numbers_parts w n) is.first_in is.last_in (omega arith))

  pub greatest_split : (f l most z : ℕ) → f ≡ n.first → l ≡ n.last → l < f → most + 1 ≡ 2 ^ w → z ≡ n.zeros → bit_xor most z ≡ greatest_below (2 ^ w) (in_numbers w n)
  greatest_split f l most z ef el turned top ez =
      let zf = from_zero w n.first is.arc.first_fits in let zl = from_zero w n.last is.arc.last_fits in
      ap (bit_xor most) ez ∙ greatest_last w (in_numbers w n) (bit_xor most n.zeros)
      (split_last w 0 (span_in n) (in_masks w (masks_in n)) (in_numbers w n) is.arc zero_fits (numbers_from w n) (numbers_parts w n) is.first_in is.last_in (bit_xor most n.zeros) (omega arith)
      (cube_last w n.zeros n.ones cube most top))

  -- the signed order of the two ends, by steps from the least signed number
  half : 2 ^ (w - 1) < 2 ^ w
  half = half_fits w one

  some_number : some_below (2 ^ w) (in_masks w (masks_in n)) ≡ true
  some_number = some_found (2 ^ w) (in_masks w (masks_in n)) n.first is.arc.first_fits ((numbers_parts w n n.first is.first_in).0)

  ends_rise : (a b : ℤ) → a ≡ signed_of w n.first → b ≡ signed_of w n.last → a ≤ℤ b → steps w (2 ^ (w - 1)) n.first ≤ steps w (2 ^ (w - 1)) n.last
  ends_rise a b ea eb whole =
      let f = place_reads w n.first one is.arc.first_fits in
      let l = place_reads w n.last one is.arc.last_fits in
      rises (signed_of w n.first) (signed_of w n.last) (steps w (2 ^ (w - 1)) n.first) (steps w (2 ^ (w - 1)) n.last) (2 ^ (w - 1)) a b f l ea eb whole
    where
      rises : (x y : ℤ) (p q h : ℕ) (a b : ℤ) → x ≡ pos p -ℤ pos h → y ≡ pos q -ℤ pos h → a ≡ x → b ≡ y → a ≤ℤ b → p ≤ q
      rises x y p q h a b ex ey ea eb less = omega (arith, ints)

  ends_fall : (a b : ℤ) → a ≡ signed_of w n.first → b ≡ signed_of w n.last → b <ℤ a → steps w (2 ^ (w - 1)) n.last < steps w (2 ^ (w - 1)) n.first
  ends_fall a b ea eb turned =
      let f = place_reads w n.first one is.arc.first_fits in
      let l = place_reads w n.last one is.arc.last_fits in
      falls (signed_of w n.first) (signed_of w n.last) (steps w (2 ^ (w - 1)) n.first) (steps w (2 ^ (w - 1)) n.last) (2 ^ (w - 1)) a b f l ea eb turned
    where
      falls : (x y : ℤ) (p q h : ℕ) (a b : ℤ) → x ≡ pos p -ℤ pos h → y ≡ pos q -ℤ pos h → a ≡ x → b ≡ y → b <ℤ a → q < p
      falls x y p q h a b ex ey ea eb less = omega (arith, ints)

  pub least_signed_plain : (f l : ℕ) (a b : ℤ) → f ≡ n.first → l ≡ n.last → a ≡ signed_of w f → b ≡ signed_of w l → a ≤ℤ b →
      a ≡ reading_at w (least_below (2 ^ w) (λ k. in_numbers w n (in_signed_order w k)))
  least_signed_plain f l a b ef el ea eb whole =
      let ea' = ea ∙ ap (signed_of w) ef in let eb' = eb ∙ ap (signed_of w) el in
      ea' ∙ signed_least w (in_numbers w n) n.first one
      (plain_first w (2 ^ (w - 1)) (span_in n) (in_masks w (masks_in n)) (in_numbers w n) is.arc half (numbers_from w n) (numbers_parts w n) is.first_in is.last_in
      (ends_rise a b ea' eb' whole))

  pub greatest_signed_plain : (f l : ℕ) (a b : ℤ) → f ≡ n.first → l ≡ n.last → a ≡ signed_of w f → b ≡ signed_of w l → a ≤ℤ b →
      b ≡ reading_at w (greatest_below (2 ^ w) (λ k. in_numbers w n (in_signed_order w k)))
  greatest_signed_plain f l a b ef el ea eb whole =
      let ea' = ea ∙ ap (signed_of w) ef in let eb' = eb ∙ ap (signed_of w) el in
      eb' ∙ signed_greatest w (in_numbers w n) n.last one
      (plain_last w (2 ^ (w - 1)) (span_in n) (in_masks w (masks_in n)) (in_numbers w n) is.arc half (numbers_from w n) (numbers_parts w n) is.first_in is.last_in
      (ends_rise a b ea' eb' whole))

  pub least_signed_split : (f l x : ℕ) (a b r : ℤ) → f ≡ n.first → l ≡ n.last → a ≡ signed_of w f → b ≡ signed_of w l → b <ℤ a →
      x ≡ first_from w (2 ^ (w - 1)) (in_masks w (masks_in n)) → r ≡ signed_of w x →
      r ≡ reading_at w (least_below (2 ^ w) (λ k. in_numbers w n (in_signed_order w k)))
  least_signed_split f l x a b r ef el ea eb turned ex er =
      er ∙ ap (signed_of w) ex ∙ signed_least w (in_numbers w n) (first_from w (2 ^ (w - 1)) (in_masks w (masks_in n))) one
      (split_first w (2 ^ (w - 1)) (span_in n) (in_masks w (masks_in n)) (in_numbers w n) is.arc half (numbers_from w n) (numbers_parts w n) is.first_in is.last_in
      (first_from w (2 ^ (w - 1)) (in_masks w (masks_in n))) (ends_fall a b (ea ∙ ap (signed_of w) ef) (eb ∙ ap (signed_of w) el) turned)
      (first_found w (2 ^ (w - 1)) (in_masks w (masks_in n)) half some_number))

  pub greatest_signed_split : (f l x : ℕ) (a b r : ℤ) → f ≡ n.first → l ≡ n.last → a ≡ signed_of w f → b ≡ signed_of w l → b <ℤ a →
      x ≡ last_from w (2 ^ (w - 1)) (in_masks w (masks_in n)) → r ≡ signed_of w x →
      r ≡ reading_at w (greatest_below (2 ^ w) (λ k. in_numbers w n (in_signed_order w k)))
  greatest_signed_split f l x a b r ef el ea eb turned ex er =
      er ∙ ap (signed_of w) ex ∙ signed_greatest w (in_numbers w n) (last_from w (2 ^ (w - 1)) (in_masks w (masks_in n))) one
      (split_last w (2 ^ (w - 1)) (span_in n) (in_masks w (masks_in n)) (in_numbers w n) is.arc half (numbers_from w n) (numbers_parts w n) is.first_in is.last_in
      (last_from w (2 ^ (w - 1)) (in_masks w (masks_in n))) (ends_fall a b (ea ∙ ap (signed_of w) ef) (eb ∙ ap (signed_of w) el) turned)
      (last_found w (2 ^ (w - 1)) (in_masks w (masks_in n)) half some_number))

-- what a comparison of the signed readings tells
pub signed_le : (a b a' b' : ℤ) → a' ≡ a → b' ≡ b → int_le a' b' ≡ true → a ≤ℤ b
signed_le a b a' b' ea eb test = grind (arith, ints)

pub signed_gt : (a b a' b' : ℤ) → a' ≡ a → b' ≡ b → int_le a' b' ≡ false → b <ℤ a
signed_gt a b a' b' ea eb test = grind (arith, ints)

pub ends_are : (w lo hi : ℕ) (a b : ℤ) (S : ℕ → Bool) → lo ≡ least_below (2 ^ w) S → hi ≡ greatest_below (2 ^ w) S →
    a ≡ reading_at w (least_below (2 ^ w) (λ k. S (in_signed_order w k))) → b ≡ reading_at w (greatest_below (2 ^ w) (λ k. S (in_signed_order w k))) →
    ◌≡◌ {A = EndsOf} (record { lo = lo; hi = hi; slo = a; shi = b }) (ends_of w S)
unfolding ends_of
ends_are w lo hi a b S elo ehi ea eb = cc
