-- An arc as one interval, or as two where it passes the greatest number.
use Rattle.std.proofs.Common.{◌≡◌, ℕ, ◌+◌, ◌^◌, ◌<◌, ◌≤◌, min, max, Bool, true, ◌⊎◌, ◌∙◌, ap, arith, inl, inr, Option}
use Rattle.std.proofs.lemmas.Bool.{or_cases, or_left, or_right, cases_lt}
use Rattle.vfa_dom.specs.Sets.{meet}
use Rattle.vfa_dom.proofs.SetSearches.{meet_from, meet_parts}
use Rattle.vfa_wrap.specs.Arc.{Span, steps, in_span, IsArc}
use Rattle.vfa_wrap.proofs.Circle.{steps_is, in_from, in_to}
use Rattle.vfa_wrap.proofs.Truth.{same_answers}
use Rattle.vfa_fact.specs.declared.numbers.Numbers.{Numbers}
use Rattle.vfa_fact.specs.Sharp.{sharp_of}
use Rattle.vfa_fact.specs.Interval.{interval, joined}
use Rattle.vfa_fact.proofs.SharpSets.{sharp_alike, sharp_moved}
use Rattle.vfa_fact.proofs.TwoParts.{joined_sharp}
use Rattle.vfa_fact.proofs.CubeCuts.{interval_from, interval_parts, from_zero}

module _ (w : ℕ) (s : Span) (arc : IsArc w s) (x : ℕ) where
  plain_from : s.first ≤ s.last → in_span w s x ≡ true → (s.first ≤ x) × (x ≤ s.last)
  plain_from whole member =
      let is = in_from w s x member in
      let here = steps_is w s.first x arc.first_fits is.0 in
      let end = steps_is w s.first s.last arc.first_fits arc.last_fits in
      (grind (arith, here, end, is), grind (arith, here, end, is))

  plain_to : s.first ≤ s.last → x < 2 ^ w → s.first ≤ x → x ≤ s.last → in_span w s x ≡ true
  plain_to whole fits from upto =
      let here = steps_is w s.first x arc.first_fits fits in
      let end = steps_is w s.first s.last arc.first_fits arc.last_fits in
      in_to w s x fits (grind (arith, here, end))

  split_from : s.last < s.first → in_span w s x ≡ true → (s.first ≤ x) ⊎ (x ≤ s.last)
  split_from turned member =
      let is = in_from w s x member in
      let here = steps_is w s.first x arc.first_fits is.0 in
      let end = steps_is w s.first s.last arc.first_fits arc.last_fits in
      elim (cases_lt x s.first) [
        | inl low ↦ inr (grind (arith, here, end, is))
        | inr high ↦ inl high
      ]

  split_high : s.last < s.first → x < 2 ^ w → s.first ≤ x → in_span w s x ≡ true
  split_high turned fits from =
      let here = steps_is w s.first x arc.first_fits fits in
      let end = steps_is w s.first s.last arc.first_fits arc.last_fits in
      in_to w s x fits (grind (arith, here, end))

  split_low : s.last < s.first → x < 2 ^ w → x ≤ s.last → in_span w s x ≡ true
  split_low turned fits upto =
      let here = steps_is w s.first x arc.first_fits fits in
      let end = steps_is w s.first s.last arc.first_fits arc.last_fits in
      in_to w s x fits (grind (arith, here, end))

-- a number of a set in an interval
pub cut_from : (lo hi : ℕ) (S : ℕ → Bool) (x : ℕ) → lo ≤ x → x ≤ hi → S x ≡ true → meet (interval lo hi) S x ≡ true
cut_from lo hi S x from upto member = meet_from (interval lo hi) S x (interval_from lo hi x from upto) member

pub cut_parts : (lo hi : ℕ) (S : ℕ → Bool) (x : ℕ) → meet (interval lo hi) S x ≡ true → (lo ≤ x) × (x ≤ hi) × (S x ≡ true)
cut_parts lo hi S x member =
    let parts = meet_parts (interval lo hi) S x member in
    let ends = interval_parts lo hi x parts.0 in (ends.0, ends.1, parts.1)

module _ (w lo hi : ℕ) (s : Span) (S : ℕ → Bool) (arc : IsArc w s) where
  -- an interval cut by an arc that is one interval
  pub cut_plain : (low high : ℕ) → s.first ≤ s.last → low ≡ max lo s.first → high ≡ min hi s.last →
      sharp_of w 0 (meet (interval low high) S) ≡ sharp_of w 0 (meet (interval lo hi) (meet (in_span w s) S))
  cut_plain low high whole is_low is_high =
      sharp_alike w 0 (meet (interval low high) S) (meet (interval lo hi) (meet (in_span w s) S)) (let fits = arc.first_fits in omega arith) (λ x fits.
      same_answers _ _
      (λ member.
      let is = cut_parts low high S x member in
      cut_from lo hi (meet (in_span w s) S) x (grind (arith, is, is_low)) (grind (arith, is, is_high))
      (meet_from (in_span w s) S x (plain_to w s arc x whole fits (grind (arith, is, is_low)) (grind (arith, is, is_high))) is.2))
      (λ member.
      let is = cut_parts lo hi (meet (in_span w s) S) x member in
      let both = meet_parts (in_span w s) S x is.2 in
      let ends = plain_from w s arc x whole both.0 in
      cut_from low high S x (grind (arith, is, ends, is_low)) (grind (arith, is, ends, is_high)) both.1))

  -- an interval cut by an arc that passes the greatest number
  pub cut_split : (low high : ℕ) → s.last < s.first → low ≡ max lo s.first → high ≡ min hi s.last →
      joined (sharp_of w 0 (meet (interval lo high) S)) (sharp_of w 0 (meet (interval low hi) S))
      ≡ sharp_of w 0 (meet (interval lo hi) (meet (in_span w s) S))
  cut_split low high turned is_low is_high =
      joined_sharp w 0 (meet (interval lo high) S) (meet (interval low hi) S) (meet (interval lo hi) (meet (in_span w s) S)) (record {
        either = λ x fits. same_answers _ _
            (λ member.
            let is = cut_parts lo hi (meet (in_span w s) S) x member in
            let both = meet_parts (in_span w s) S x is.2 in
            elim (split_from w s arc x turned both.0) [
              | inl above ↦ or_right (meet (interval lo high) S x) (meet (interval low hi) S x) (cut_from low hi S x (grind (arith, is, is_low)) is.1 both.1)
              | inr below ↦ or_left (meet (interval lo high) S x) (meet (interval low hi) S x) (cut_from lo high S x is.0 (grind (arith, is, is_high)) both.1)
            ])
            (λ member. elim (or_cases (meet (interval lo high) S x) (meet (interval low hi) S x) member) [
              | inl here ↦
                  let is = cut_parts lo high S x here in
                  cut_from lo hi (meet (in_span w s) S) x is.0 (grind (arith, is, is_high))
                  (meet_from (in_span w s) S x (split_low w s arc x turned fits (grind (arith, is, is_high))) is.2)
              | inr there ↦
                  let is = cut_parts low hi S x there in
                  cut_from lo hi (meet (in_span w s) S) x (grind (arith, is, is_low)) is.1
                  (meet_from (in_span w s) S x (split_high w s arc x turned fits (grind (arith, is, is_low))) is.2)
            ]);
        before = λ x y hx hy mx my.
            let one = cut_parts lo high S x mx in
            let two = cut_parts low hi S y my in
            let sx = from_zero w x hx in let sy = from_zero w y hy in
            grind (arith, one, two, is_low, is_high, sx, sy);
      }) (let fits = arc.first_fits in omega arith)

  -- the same for ends that are those of the arc
  pub cut_plain_at : (low high f l : ℕ) → f ≡ s.first → l ≡ s.last → f ≤ l → low ≡ max lo f → high ≡ min hi l →
      sharp_of w 0 (meet (interval low high) S) ≡ sharp_of w 0 (meet (interval lo hi) (meet (in_span w s) S))
  cut_plain_at low high f l ef el whole is_low is_high = cut_plain low high (omega arith) (is_low ∙ ap (max lo) ef) (is_high ∙ ap (min hi) el)

  pub cut_split_at : (low high f l : ℕ) (one two result : Option Numbers) → f ≡ s.first → l ≡ s.last → l < f → low ≡ max lo f → high ≡ min hi l →
      one ≡ sharp_of w 0 (meet (interval lo high) S) → two ≡ sharp_of w 0 (meet (interval low hi) S) → result ≡ joined one two →
      result ≡ sharp_of w 0 (meet (interval lo hi) (meet (in_span w s) S))
  cut_split_at low high f l one two result ef el turned is_low is_high e_one e_two e =
      e ∙ ap (λ a. joined a two) e_one ∙ ap (joined (sharp_of w 0 (meet (interval lo high) S))) e_two
      ∙ cut_split low high (omega arith) (is_low ∙ ap (max lo) ef) (is_high ∙ ap (min hi) el)

-- going up from p or from 0 is the same among numbers on one side of p
steps_above : (w p x y : ℕ) → p < 2 ^ w → x < 2 ^ w → y < 2 ^ w → p ≤ x → p ≤ y → steps w 0 x ≤ steps w 0 y → steps w p x ≤ steps w p y
steps_above w p x y hp hx hy px py less =
    let zx = from_zero w x hx in let zy = from_zero w y hy in
    let sx = steps_is w p x hp hx in let sy = steps_is w p y hp hy in
    grind (arith, zx, zy, sx, sy)

steps_below : (w p x y : ℕ) → p < 2 ^ w → x < 2 ^ w → y < 2 ^ w → x < p → y < p → steps w 0 x ≤ steps w 0 y → steps w p x ≤ steps w p y
steps_below w p x y hp hx hy px py less =
    let zx = from_zero w x hx in let zy = from_zero w y hy in
    let sx = steps_is w p x hp hx in let sy = steps_is w p y hp hy in
    grind (arith, zx, zy, sx, sy)

module _ (w : ℕ) (s : Span) (S : ℕ → Bool) (arc : IsArc w s) where
  -- the numbers of a set in an arc that is one interval
  pub arc_plain : s.first ≤ s.last → sharp_of w 0 (meet (interval s.first s.last) S) ≡ sharp_of w s.first (meet (in_span w s) S)
  arc_plain whole =
      sharp_moved w 0 s.first (meet (interval s.first s.last) S) (meet (in_span w s) S) (let fits = arc.first_fits in omega arith) arc.first_fits
      (λ x fits. same_answers _ _
      (λ member.
      let is = cut_parts s.first s.last S x member in
      meet_from (in_span w s) S x (plain_to w s arc x whole fits is.0 is.1) is.2)
      (λ member.
      let both = meet_parts (in_span w s) S x member in
      let ends = plain_from w s arc x whole both.0 in
      cut_from s.first s.last S x ends.0 ends.1 both.1))
      (λ x y hx hy mx my less.
      steps_above w s.first x y arc.first_fits hx hy (cut_parts s.first s.last S x mx).0 (cut_parts s.first s.last S y my).0 less)

  -- and in one that passes the greatest number
  pub arc_split : (most : ℕ) → s.last < s.first → most + 1 ≡ 2 ^ w →
      joined (sharp_of w 0 (meet (interval s.first most) S)) (sharp_of w 0 (meet (interval 0 s.last) S))
      ≡ sharp_of w s.first (meet (in_span w s) S)
  arc_split most turned top =
      let zero_fits : 0 < 2 ^ w = let fits = arc.first_fits in omega arith in
      let one = sharp_moved w 0 s.first (meet (interval s.first most) S) (meet (interval s.first most) S) zero_fits arc.first_fits (λ x fits. same_answers _ _ (λ h. h) (λ h. h))
      (λ x y hx hy mx my less. steps_above w s.first x y arc.first_fits hx hy (cut_parts s.first most S x mx).0 (cut_parts s.first most S y my).0 less) in
      let two = sharp_moved w 0 s.first (meet (interval 0 s.last) S) (meet (interval 0 s.last) S) zero_fits arc.first_fits (λ x fits. same_answers _ _ (λ h. h) (λ h. h))
      (λ x y hx hy mx my less.
      let px = (cut_parts 0 s.last S x mx).1 in let py = (cut_parts 0 s.last S y my).1 in
      steps_below w s.first x y arc.first_fits hx hy (omega arith) (omega arith) less) in
      ap (λ a. joined a (sharp_of w 0 (meet (interval 0 s.last) S))) one
      ∙ ap (joined (sharp_of w s.first (meet (interval s.first most) S))) two
      ∙ joined_sharp w s.first (meet (interval s.first most) S) (meet (interval 0 s.last) S) (meet (in_span w s) S) (record {
        either = λ x fits. same_answers _ _
            (λ member.
            let both = meet_parts (in_span w s) S x member in
            elim (split_from w s arc x turned both.0) [
              | inl above ↦ or_left (meet (interval s.first most) S x) (meet (interval 0 s.last) S x) (cut_from s.first most S x above (omega arith) both.1)
              | inr below ↦ or_right (meet (interval s.first most) S x) (meet (interval 0 s.last) S x) (cut_from 0 s.last S x (omega arith) below both.1)
            ])
            (λ member. elim (or_cases (meet (interval s.first most) S x) (meet (interval 0 s.last) S x) member) [
              | inl here ↦
                  let is = cut_parts s.first most S x here in
                  meet_from (in_span w s) S x (split_high w s arc x turned fits is.0) is.2
              | inr there ↦
                  let is = cut_parts 0 s.last S x there in
                  meet_from (in_span w s) S x (split_low w s arc x turned fits is.1) is.2
            ]);
        before = λ x y hx hy mx my.
            let px = (cut_parts s.first most S x mx).0 in let py = (cut_parts 0 s.last S y my).1 in
            let sx = steps_is w s.first x arc.first_fits hx in let sy = steps_is w s.first y arc.first_fits hy in
            grind (arith, sx, sy, px, py);
      }) arc.first_fits

  -- the same for ends that are those of the arc
  pub arc_plain_at : (f l : ℕ) → f ≡ s.first → l ≡ s.last → f ≤ l →
      sharp_of w 0 (meet (interval f l) S) ≡ sharp_of w s.first (meet (in_span w s) S)
  arc_plain_at f l ef el whole =
      ap (λ n. sharp_of w 0 (meet (interval n l) S)) ef ∙ ap (λ n. sharp_of w 0 (meet (interval s.first n) S)) el ∙ arc_plain (omega arith)

  pub arc_split_at : (most f l : ℕ) (one two result : Option Numbers) → f ≡ s.first → l ≡ s.last → l < f → most + 1 ≡ 2 ^ w →
      one ≡ sharp_of w 0 (meet (interval f most) S) → two ≡ sharp_of w 0 (meet (interval 0 l) S) → result ≡ joined one two →
      result ≡ sharp_of w s.first (meet (in_span w s) S)
  arc_split_at most f l one two result ef el turned top e_one e_two e =
      let e_one' : one ≡ sharp_of w 0 (meet (interval s.first most) S) = e_one ∙ ap (λ n. sharp_of w 0 (meet (interval n most) S)) ef in
      let e_two' : two ≡ sharp_of w 0 (meet (interval 0 s.last) S) = e_two ∙ ap (λ n. sharp_of w 0 (meet (interval 0 n) S)) el in
      e ∙ ap (λ a. joined a two) e_one' ∙ ap (joined (sharp_of w 0 (meet (interval s.first most) S))) e_two' ∙ arc_split most (omega arith) top
