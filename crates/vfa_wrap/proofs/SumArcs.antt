use Rattle.std.proofs.Common.{◌≡◌, refl, sym, ◌∙◌, ap, ℕ, ◌+◌, ◌-◌, ◌%◌, ◌^◌, ◌<◌, ◌≤◌, true, ◌⊎◌, inl, inr, arith, min}
use Rattle.std.proofs.lemmas.Bool.{cases_lt, lt-ltb, le-ltb}
use Rattle.std.proofs.lemmas.Nat.{mod_below}
use Rattle.std.proofs.Math.Nat.{mod-add-mod, add-mod-mod, add-mod_right, mod-eq_of_lt}
use Rattle.vfa_dom.specs.Results.{results, IsResult}
use Rattle.vfa_dom.proofs.ResultSets.{results_passes, results_at, results-alike}
use Rattle.vfa_word.specs.Operations.{difference_of}
use Rattle.vfa_word.proofs.Wrapping.{wrap_difference_is}
use Rattle.vfa_wrap.specs.Arc.{Span, steps, in_span, arc_from, full_span, IsArc, sum_span, difference_span}
use Rattle.vfa_wrap.proofs.Truth.{same_answers}
use Rattle.vfa_wrap.proofs.Circle.{steps_is, ahead, in_from, in_to, in_full, in_ahead, ahead_in, steps_back, wrapped_sum, arc_from-mod, arc_from-same}

-- ---- sums

mod_sum : (a b m : ℕ) → (a % m + b % m) % m ≡ (a + b) % m
mod_sum a b m = mod-add-mod a m (b % m) ∙ add-mod-mod a b m

pub sum_full : (w : ℕ) (s t : Span) → 2 ^ w < steps w s.first s.last + 1 + (steps w t.first t.last + 1) → sum_span w s t ≡ full_span w
unfolding sum_span
sum_full w s t h = rw (lt-ltb _ _ h) refl

pub sum_part : (w : ℕ) (s t : Span) → IsArc w s → IsArc w t → steps w s.first s.last + 1 + (steps w t.first t.last + 1) ≤ 2 ^ w →
    sum_span w s t ≡ arc_from w ((s.first + t.first) % 2 ^ w) ((s.first + t.first) % 2 ^ w + (steps w s.first s.last + steps w t.first t.last))
unfolding sum_span
sum_part w s t hs ht h =
    let es : s.last ≡ (s.first + steps w s.first s.last) % 2 ^ w = sym (steps_back w s.first s.last hs.first_fits hs.last_fits) in
    let et : t.last ≡ (t.first + steps w t.first t.last) % 2 ^ w = sym (steps_back w t.first t.last ht.first_fits ht.last_fits) in
    let p = s.first + t.first in
    let n = steps w s.first s.last + steps w t.first t.last in
    let turn : s.first + steps w s.first s.last + (t.first + steps w t.first t.last) ≡ p + n = omega arith in
    let last : (s.last + t.last) % 2 ^ w ≡ (p % 2 ^ w + n) % 2 ^ w =
    ap (λ (k : ℕ). (k + t.last) % 2 ^ w) es ∙ ap (λ (k : ℕ). ((s.first + steps w s.first s.last) % 2 ^ w + k) % 2 ^ w) et
    ∙ mod_sum (s.first + steps w s.first s.last) (t.first + steps w t.first t.last) (2 ^ w)
    ∙ ap (λ (k : ℕ). k % 2 ^ w) turn ∙ sym (mod-add-mod p (2 ^ w) n) in
    let cut : p % 2 ^ w % 2 ^ w ≡ p % 2 ^ w = mod-eq_of_lt (mod_below p (2 ^ w) (omega (arith, hs.first_fits))) in
    rw (le-ltb _ _ h) (sym (arc_from-mod w p (s.last + t.last)) ∙ ap (λ (k : ℕ). arc_from w (p % 2 ^ w) k) last ∙ ap (λ (k : ℕ). arc_from w k ((p % 2 ^ w + n) % 2 ^ w)) (sym cut) ∙ arc_from-mod w (p % 2 ^ w) (p % 2 ^ w + n))

member_at : (w : ℕ) (s : Span) (x : ℕ) → IsArc w s → x < 2 ^ w → x ≡ (s.first + steps w s.first x) % 2 ^ w
member_at w s x hs hx = sym (steps_back w s.first x hs.first_fits hx)

sum_at : (m a b i j : ℕ) → ((a + b) % m + (i + j)) % m ≡ ((a + i) % m + (b + j) % m) % m
sum_at m a b i j =
    let turn : a + b + (i + j) ≡ a + i + (b + j) = omega arith in
    mod-add-mod (a + b) m (i + j) ∙ ap (λ (k : ℕ). k % m) turn ∙ sym (mod_sum (a + i) (b + j) m)

-- the sum of two members
pub sum_to : (w : ℕ) (s t : Span) (x y : ℕ) → IsArc w s → IsArc w t → in_span w s x ≡ true → in_span w t y ≡ true → in_span w (sum_span w s t) ((x + y) % 2 ^ w) ≡ true
sum_to w s t x y hs ht hx hy =
    let one = in_from w s x hx in
    let two = in_from w t y hy in
    elim (cases_lt (2 ^ w) (steps w s.first s.last + 1 + (steps w t.first t.last + 1))) [
      | inl more ↦ rw (sum_full w s t more) (in_full w ((x + y) % 2 ^ w) (mod_below (x + y) (2 ^ w) (omega (arith, one.0))))
      | inr room ↦
          let p = (s.first + t.first) % 2 ^ w in
          let hp : p < 2 ^ w = mod_below (s.first + t.first) (2 ^ w) (omega (arith, one.0)) in
          let i = steps w s.first x in
          let j = steps w t.first y in
          let at : (p + (i + j)) % 2 ^ w ≡ (x + y) % 2 ^ w =
          sum_at (2 ^ w) s.first t.first i j ∙ ap (λ (k : ℕ). (k + (t.first + j) % 2 ^ w) % 2 ^ w) (sym (member_at w s x hs one.0)) ∙ ap (λ (k : ℕ). (x + k) % 2 ^ w) (sym (member_at w t y ht two.0)) in
          rw (sum_part w s t hs ht room, ← at) (in_ahead w p (steps w s.first s.last + steps w t.first t.last) (i + j) hp (omega arith) (omega (arith, one.1, two.1)))
    ]

-- the member i steps up from the first number
pub step_in : (w : ℕ) (s : Span) (i : ℕ) → IsArc w s → i ≤ steps w s.first s.last → ((s.first + i) % 2 ^ w < 2 ^ w) × (in_span w s ((s.first + i) % 2 ^ w) ≡ true)
step_in w s i hs h =
    let size = steps_is w s.first s.last hs.first_fits hs.last_fits in
    let here = ahead w s.first i hs.first_fits (omega (arith, size.0)) in
    (here.0, in_to w s ((s.first + i) % 2 ^ w) here.0 (omega (arith, here.1)))

-- how far a number of the sum stands from the sum of the first numbers
sum_reach : (w : ℕ) (s t : Span) (r : ℕ) → IsArc w s → IsArc w t → in_span w (sum_span w s t) r ≡ true →
    (r < 2 ^ w) × (steps w ((s.first + t.first) % 2 ^ w) r ≤ steps w s.first s.last + steps w t.first t.last)
sum_reach w s t r hs ht h =
    let p = (s.first + t.first) % 2 ^ w in
    let hp : p < 2 ^ w = mod_below (s.first + t.first) (2 ^ w) (omega (arith, hs.first_fits)) in
    elim (cases_lt (2 ^ w) (steps w s.first s.last + 1 + (steps w t.first t.last + 1))) [
      | inl more ↦
          let member = in_from w (full_span w) r (rw (sum_full w s t more) at h) in
          let to = steps_is w p r hp member.0 in
          (member.0, omega (arith, to.0))
      | inr room ↦ ahead_in w p (steps w s.first s.last + steps w t.first t.last) r hp (omega arith) (rw (sum_part w s t hs ht room) at h)
    ]

pub sum_operands : (w : ℕ) (s t : Span) (r : ℕ) → IsArc w s → IsArc w t → in_span w (sum_span w s t) r ≡ true → IsResult w (λ x y. (x + y) % 2 ^ w) (in_span w s) (in_span w t) r
sum_operands w s t r hs ht h =
    let far = sum_reach w s t r hs ht h in
    let p = (s.first + t.first) % 2 ^ w in
    let hp : p < 2 ^ w = mod_below (s.first + t.first) (2 ^ w) (omega (arith, hs.first_fits)) in
    let k = steps w p r in
    let i = min k (steps w s.first s.last) in
    let j = k - i in
    let one = step_in w s i hs (omega arith) in
    let two = step_in w t j ht (omega (arith, far.1)) in
    let whole : i + j ≡ k = omega arith in
    record {
      left = (s.first + i) % 2 ^ w;
      right = (t.first + j) % 2 ^ w;
      left_fits = one.0;
      right_fits = two.0;
      left_in = one.1;
      right_in = two.1;
      is = sym (sum_at (2 ^ w) s.first t.first i j) ∙ ap (λ (n : ℕ). (p + n) % 2 ^ w) whole ∙ steps_back w p r hp far.0;
    }

-- the arc of sums has just the sums
pub sums_are : (w : ℕ) (s t : Span) (r : ℕ) → IsArc w s → IsArc w t → in_span w (sum_span w s t) r ≡ results w (λ x y. (x + y) % 2 ^ w) (in_span w s) (in_span w t) r
sums_are w s t r hs ht = same_answers _ _
    (λ h. results_passes w (λ x y. (x + y) % 2 ^ w) (in_span w s) (in_span w t) r (sum_operands w s t r hs ht h))
    (λ h. let o = results_at w (λ x y. (x + y) % 2 ^ w) (in_span w s) (in_span w t) r h in
    rw (← o.is) (sum_to w s t o.left o.right hs ht o.left_in o.right_in))

-- an arc may begin at its first number modulo 2 ^ w
pub shifted : (w p n : ℕ) → 0 < 2 ^ w → arc_from w p (p + n) ≡ arc_from w (p % 2 ^ w) (p % 2 ^ w + n)
shifted w p n h =
    let cut : p % 2 ^ w % 2 ^ w ≡ p % 2 ^ w = mod-eq_of_lt (mod_below p (2 ^ w) h) in
    let last : (p + n) % 2 ^ w ≡ (p % 2 ^ w + n) % 2 ^ w = sym (mod-add-mod p (2 ^ w) n) in
    sym (arc_from-mod w p (p + n)) ∙ ap (λ (k : ℕ). arc_from w (p % 2 ^ w) k) last ∙ ap (λ (k : ℕ). arc_from w k ((p % 2 ^ w + n) % 2 ^ w)) (sym cut) ∙ arc_from-mod w (p % 2 ^ w) (p % 2 ^ w + n)

-- ---- differences

pub difference_full : (w : ℕ) (s t : Span) → 2 ^ w < steps w s.first s.last + 1 + (steps w t.first t.last + 1) → difference_span w s t ≡ full_span w
unfolding difference_span
difference_full w s t h = rw (lt-ltb _ _ h) refl

-- the difference of the last numbers, and of any two
last_at : (m a b i j : ℕ) → a < m → b < m → i < m → j < m → (a + (m - (b + j) % m) + (i + j)) % m ≡ ((a + i) % m + (m - b)) % m
last_at m a b i j ha hb hi hj =
    let two = wrapped_sum m (b + j) (omega arith) in
    let cut : (b + j) % m < m = mod_below (b + j) m (omega arith) in
    elim two [
      | inl low ↦
          let turn : a + (m - (b + j) % m) + (i + j) ≡ a + i + (m - b) = omega (arith, low) in
          ap (λ (k : ℕ). k % m) turn ∙ sym (mod-add-mod (a + i) m (m - b))
      | inr high ↦
          let turn : a + (m - (b + j) % m) + (i + j) ≡ a + i + (m - b) + m = omega (arith, high, cut) in
          ap (λ (k : ℕ). k % m) turn ∙ add-mod_right (a + i + (m - b)) m ∙ sym (mod-add-mod (a + i) m (m - b))
    ]

pub difference_part : (w : ℕ) (s t : Span) → IsArc w s → IsArc w t → steps w s.first s.last + 1 + (steps w t.first t.last + 1) ≤ 2 ^ w →
    difference_span w s t ≡ arc_from w (steps w t.last s.first) (steps w t.last s.first + (steps w s.first s.last + steps w t.first t.last))
unfolding difference_span steps
difference_part w s t hs ht h =
    let es : (s.first + steps w s.first s.last) % 2 ^ w ≡ s.last = steps_back w s.first s.last hs.first_fits hs.last_fits in
    let et : (t.first + steps w t.first t.last) % 2 ^ w ≡ t.last = steps_back w t.first t.last ht.first_fits ht.last_fits in
    let ls = steps_is w s.first s.last hs.first_fits hs.last_fits in
    let lt = steps_is w t.first t.last ht.first_fits ht.last_fits in
    let n = steps w s.first s.last + steps w t.first t.last in
    let p = s.first + (2 ^ w - t.last) in
    let same : (p + n) % 2 ^ w ≡ (s.last + (2 ^ w - t.first)) % 2 ^ w =
    ap (λ (k : ℕ). (s.first + (2 ^ w - k) + n) % 2 ^ w) (sym et)
    ∙ last_at (2 ^ w) s.first t.first (steps w s.first s.last) (steps w t.first t.last) hs.first_fits ht.first_fits ls.0 lt.0
    ∙ ap (λ (k : ℕ). (k + (2 ^ w - t.first)) % 2 ^ w) es in
    rw (le-ltb _ _ h) (arc_from-same w p (s.last + (2 ^ w - t.first)) (p + n) (sym same) ∙ shifted w p n (omega (arith, hs.first_fits)))

difference_at : (w a b x y : ℕ) → a < 2 ^ w → b < 2 ^ w → x < 2 ^ w → y < 2 ^ w → (steps w b a + (steps w a x + steps w y b)) % 2 ^ w ≡ (x + (2 ^ w - y)) % 2 ^ w
difference_at w a b x y ha hb hx hy =
    let one = steps_is w b a hb ha in
    let two = steps_is w a x ha hx in
    let three = steps_is w y b hy hb in
    let low : (steps w b a + (steps w a x + steps w y b) ≡ x + (2 ^ w - y)) ⊎ (steps w b a + (steps w a x + steps w y b) ≡ x + (2 ^ w - y) + 2 ^ w)
    ⊎ (steps w b a + (steps w a x + steps w y b) + 2 ^ w ≡ x + (2 ^ w - y)) ⊎ (steps w b a + (steps w a x + steps w y b) ≡ x + (2 ^ w - y) + 2 ^ w + 2 ^ w) = grind (arith, one, two, three) in
    turned (2 ^ w) (steps w b a + (steps w a x + steps w y b)) (x + (2 ^ w - y)) low
  where
    turned : (m a b : ℕ) → (a ≡ b) ⊎ (a ≡ b + m) ⊎ (a + m ≡ b) ⊎ (a ≡ b + m + m) → a % m ≡ b % m
    turned m a b h = elim h [
      | inl same ↦ ap (λ (k : ℕ). k % m) same
      | inr rest ↦ elim rest [
        | inl over ↦ ap (λ (k : ℕ). k % m) over ∙ add-mod_right b m
        | inr last ↦ elim last [
          | inl under ↦ sym (add-mod_right a m) ∙ ap (λ (k : ℕ). k % m) under
          | inr twice ↦ ap (λ (k : ℕ). k % m) twice ∙ add-mod_right (b + m) m ∙ add-mod_right b m
        ]
      ]
    ]

-- how far a member stands below the last one
below_last : (w : ℕ) (s : Span) (y : ℕ) → IsArc w s → y < 2 ^ w → steps w s.first y ≤ steps w s.first s.last → steps w s.first y + steps w y s.last ≡ steps w s.first s.last
below_last w s y hs hy h =
    let size = steps_is w s.first s.last hs.first_fits hs.last_fits in
    let one = steps_is w s.first y hs.first_fits hy in
    let two = steps_is w y s.last hy hs.last_fits in
    grind (arith, size, one, two)

pub difference_to : (w : ℕ) (s t : Span) (x y : ℕ) → IsArc w s → IsArc w t → in_span w s x ≡ true → in_span w t y ≡ true → in_span w (difference_span w s t) ((x + (2 ^ w - y)) % 2 ^ w) ≡ true
difference_to w s t x y hs ht hx hy =
    let one = in_from w s x hx in
    let two = in_from w t y hy in
    elim (cases_lt (2 ^ w) (steps w s.first s.last + 1 + (steps w t.first t.last + 1))) [
      | inl more ↦ rw (difference_full w s t more) (in_full w ((x + (2 ^ w - y)) % 2 ^ w) (mod_below (x + (2 ^ w - y)) (2 ^ w) (omega (arith, one.0))))
      | inr room ↦
          let hp = steps_is w t.last s.first ht.last_fits hs.first_fits in
          let at = difference_at w s.first t.last x y hs.first_fits ht.last_fits one.0 two.0 in
          let back = below_last w t y ht two.0 two.1 in
          rw (difference_part w s t hs ht room, ← at) (in_ahead w (steps w t.last s.first) (steps w s.first s.last + steps w t.first t.last) (steps w s.first x + steps w y t.last) hp.0 (omega arith) (omega (arith, one.1, back)))
    ]

difference_reach : (w : ℕ) (s t : Span) (r : ℕ) → IsArc w s → IsArc w t → in_span w (difference_span w s t) r ≡ true →
    (r < 2 ^ w) × (steps w (steps w t.last s.first) r ≤ steps w s.first s.last + steps w t.first t.last)
difference_reach w s t r hs ht h =
    let hp = steps_is w t.last s.first ht.last_fits hs.first_fits in
    elim (cases_lt (2 ^ w) (steps w s.first s.last + 1 + (steps w t.first t.last + 1))) [
      | inl more ↦
          let member = in_from w (full_span w) r (rw (difference_full w s t more) at h) in
          let to = steps_is w (steps w t.last s.first) r hp.0 member.0 in
          (member.0, omega (arith, to.0))
      | inr room ↦ ahead_in w (steps w t.last s.first) (steps w s.first s.last + steps w t.first t.last) r hp.0 (omega arith) (rw (difference_part w s t hs ht room) at h)
    ]

-- the member j steps below the last number
step_down_in : (w : ℕ) (s : Span) (j : ℕ) → IsArc w s → j ≤ steps w s.first s.last →
    (y : ℕ) × (y < 2 ^ w) × (in_span w s y ≡ true) × (steps w y s.last ≡ j)
step_down_in w s j hs h =
    let i = steps w s.first s.last - j in
    let here = step_in w s i hs (omega arith) in
    let size = steps_is w s.first s.last hs.first_fits hs.last_fits in
    let at = ahead w s.first i hs.first_fits (omega (arith, size.0)) in
    let y = (s.first + i) % 2 ^ w in
    let back = below_last w s y hs here.0 (omega (arith, at.1)) in
    (y, here.0, here.1, omega (arith, at.1, back))

pub difference_operands : (w : ℕ) (s t : Span) (r : ℕ) → IsArc w s → IsArc w t → in_span w (difference_span w s t) r ≡ true → IsResult w (λ x y. (x + (2 ^ w - y)) % 2 ^ w) (in_span w s) (in_span w t) r
difference_operands w s t r hs ht h =
    let far = difference_reach w s t r hs ht h in
    let p = steps w t.last s.first in
    let hp = steps_is w t.last s.first ht.last_fits hs.first_fits in
    let k = steps w p r in
    let i = min k (steps w s.first s.last) in
    let j = k - i in
    let one = step_in w s i hs (omega arith) in
    let two = step_down_in w t j ht (omega (arith, far.1)) in
    let size = steps_is w s.first s.last hs.first_fits hs.last_fits in
    let at = ahead w s.first i hs.first_fits (omega (arith, size.0)) in
    let whole : steps w s.first ((s.first + i) % 2 ^ w) + steps w two.0 t.last ≡ k = omega (arith, at.1, two.3) in
    record {
      left = (s.first + i) % 2 ^ w;
      right = two.0;
      left_fits = one.0;
      right_fits = two.1;
      left_in = one.1;
      right_in = two.2;
      is = sym (difference_at w s.first t.last ((s.first + i) % 2 ^ w) two.0 hs.first_fits ht.last_fits one.0 two.1) ∙ ap (λ (n : ℕ). (p + n) % 2 ^ w) whole ∙ steps_back w p r hp.0 far.0;
    }

-- the arc of differences round the circle has just these
circle_differences : (w : ℕ) (s t : Span) (r : ℕ) → IsArc w s → IsArc w t → in_span w (difference_span w s t) r ≡ results w (λ x y. (x + (2 ^ w - y)) % 2 ^ w) (in_span w s) (in_span w t) r
circle_differences w s t r hs ht = same_answers _ _
    (λ h. results_passes w (λ x y. (x + (2 ^ w - y)) % 2 ^ w) (in_span w s) (in_span w t) r (difference_operands w s t r hs ht h))
    (λ h. let o = results_at w (λ x y. (x + (2 ^ w - y)) % 2 ^ w) (in_span w s) (in_span w t) r h in
    rw (← o.is) (difference_to w s t o.left o.right hs ht o.left_in o.right_in))

-- the arc of differences has just the differences
pub differences_are : (w : ℕ) (s t : Span) (r : ℕ) → IsArc w s → IsArc w t → in_span w (difference_span w s t) r ≡ results w (difference_of w) (in_span w s) (in_span w t) r
differences_are w s t r hs ht =
    circle_differences w s t r hs ht
    ∙ results-alike w (λ x y. (x + (2 ^ w - y)) % 2 ^ w) (difference_of w) (in_span w s) (in_span w t)
    (λ x y left right. sym (wrap_difference_is w x y (omega arith))) r
