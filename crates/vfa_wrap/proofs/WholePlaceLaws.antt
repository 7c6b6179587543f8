-- Where whole results stand to the range of a width.
use Rattle.std.proofs.Common.{◌≡◌, ℕ, ◌+◌, ◌-◌, ◌*◌, ◌%◌, ◌^◌, ◌<◌, ◌≤◌, min, Bool, true, false, not, cond, ℤ, pos, negsuc, neg_ℤ, refl, sym, ◌∙◌, ap, subst, arith, rules, ◌-ℤ◌, add-mul, inl, inr}
use Rattle.std.specs.Prelude.{◌≤ℤ◌, ◌+ℤ◌, int_lt, ◌||◌}
use Rattle.std.specs.Int.{int_min, int_max}
use Rattle.std.proofs.lemmas.Bool.{cases_Bool, true≢false}
use Rattle.std.proofs.lemmas.Bool.Decides.{nat_tests}
use Rattle.std.proofs.lemmas.Int.{ints, clamps}
use Rattle.std.proofs.lemmas.Nat.{pow_pos, pow_below}
use Rattle.std.proofs.Math.Nat.{mod-eq_of_lt}
use Rattle.vfa_word.specs.Numbers.{wrap, signed_of, fits_signed}
use Rattle.vfa_word.specs.Operations.{whole_unsigned, whole_signed}
use Rattle.vfa_word.specs.declared.arith.Arith.{Arith}
use Rattle.vfa_word.specs.declared.arith.Arith.TheVariants.{Add, Sub, Mul, Shl}
use Rattle.vfa_word.proofs.Wrapping.{wrap_less, wrap_difference_is, wrap_below}
use Rattle.vfa_word.proofs.Readings.{twice, reading_of_wrap}
use Rattle.vfa_wrap.specs.WholeSpans.{WholeSpan, range_of, fits_read, clamped_read, misses_range, whole_read, number_of}
use Rattle.vfa_wrap.specs.WholePlaces.{place_of}
use Rattle.vfa_wrap.specs.declared.reading.Reading.{Reading}
use Rattle.vfa_wrap.specs.declared.reading.Reading.TheVariants.{Unsigned, Signed}
use Rattle.vfa_wrap.specs.declared.places.Place.{Place}
use Rattle.vfa_wrap.specs.declared.places.Place.TheVariants.{Below, Within, Above}
use Rattle.vfa_wrap.proofs.ProductLaws.{wrap-product, product_cases}

-- ---- the number that a whole result wraps to

-- a reading is the number, less all numbers or none of them
record Gap (m : ℕ) (z : ℤ) (x : ℕ) : Type 0 where
  pub times : ℕ
  pub most : times ≤ 1
  pub is : z +ℤ pos (times * m) ≡ pos x

gap_cases : (m x : ℕ) (b : Bool) → Gap m (cond b (pos x) (pos x -ℤ pos m)) x
gap_cases m x true = record { times = 0; most = omega arith; is = omega (arith, ints) }
gap_cases m x false = record { times = 1; most = omega arith; is = omega (arith, ints) }

gap_of : (w x : ℕ) → Gap (2 ^ w) (signed_of w x) x
gap_of w x = gap_cases (2 ^ w) x _

sums_wrap : (w x y : ℕ) → wrap w (signed_of w x +ℤ signed_of w y) ≡ (x + y) % 2 ^ w
sums_wrap w x y =
    let g = gap_of w x in
    let h = gap_of w y in
    let s : signed_of w x +ℤ signed_of w y ≡ pos (x + y) -ℤ pos ((g.times + h.times) * 2 ^ w) =
    omega (arith, ints, g.is, h.is, add-mul g.times h.times (2 ^ w)) in
    sym (wrap_less w (x + y) (x + y) ((g.times + h.times) * 2 ^ w) (g.times + h.times) _ s refl)

differences_wrap : (w x y : ℕ) → y < 2 ^ w → wrap w (signed_of w x -ℤ signed_of w y) ≡ wrap w (pos x -ℤ pos y)
differences_wrap w x y below =
    let g = gap_of w x in
    let h = gap_of w y in
    let small = h.most in
    let k : ℕ = 1 + g.times - h.times in
    let s : signed_of w x -ℤ signed_of w y ≡ pos (x + h.times * 2 ^ w) -ℤ pos (y + g.times * 2 ^ w) = omega (arith, ints, g.is, h.is) in
    let e : 1 + g.times ≡ h.times + (1 + g.times - h.times) = omega arith in
    let f : (1 + g.times) * 2 ^ w ≡ (h.times + (1 + g.times - h.times)) * 2 ^ w = ap (λ n. n * 2 ^ w) e in
    sym (wrap_less w (x + (2 ^ w - y)) (x + h.times * 2 ^ w) (y + g.times * 2 ^ w) (1 + g.times - h.times) _ s
    (omega (arith, f, add-mul 1 g.times (2 ^ w), add-mul h.times (1 + g.times - h.times) (2 ^ w))))
    ∙ sym (wrap_difference_is w x y (omega arith))

-- the whole result of the readings wraps to the number that the operation gives
pub signed_number : (op : Arith) (w x y : ℕ) → x < 2 ^ w → y < 2 ^ w → (op ≡ Shl → y < w) → wrap w (whole_signed w op x y) ≡ number_of op w x y
signed_number Add w x y hx hy h = sums_wrap w x y
signed_number Sub w x y hx hy h = differences_wrap w x y hy
signed_number Mul w x y hx hy h = wrap-product w x y hx hy
signed_number Shl w x t hx hy h = product_cases w x (2 ^ t) _ true hx (pow_below t w (h refl))

pub unsigned_number : (op : Arith) (w x y : ℕ) → wrap w (whole_unsigned op x y) ≡ number_of op w x y
unsigned_number Add w x y = refl
unsigned_number Sub w x y = refl
unsigned_number Mul w x y = refl
unsigned_number Shl w x t = refl

pub read_number : (r : Reading) (op : Arith) (w x y : ℕ) → x < 2 ^ w → y < 2 ^ w → (op ≡ Shl → y < w) → wrap w (whole_read r w op x y) ≡ number_of op w x y
read_number Unsigned op w x y hx hy h = unsigned_number op w x y
read_number Signed op w x y hx hy h = signed_number op w x y hx hy h

-- ---- the place of a whole number

place_cases : (b c : Bool) (n : ℕ) → Place
place_cases b c n = cond b (Within n) (cond c Below Above)

pub within_place : (r : Reading) (w n : ℕ) (z : ℤ) → fits_read r w z ≡ true → n ≡ wrap w z → Within n ≡ place_of r w z
unfolding place_of
within_place r w n z fits is = rw (fits, is) refl

pub below_place : (r : Reading) (w : ℕ) (z : ℤ) → fits_read r w z ≡ false → int_lt z (pos 0) ≡ true → Below ≡ place_of r w z
unfolding place_of
below_place r w z fits negative = rw (fits, negative) refl

pub above_place : (r : Reading) (w : ℕ) (z : ℤ) → fits_read r w z ≡ false → int_lt z (pos 0) ≡ false → Above ≡ place_of r w z
unfolding place_of
above_place r w z fits negative = rw (fits, negative) refl

-- what a place tells of the number there
below_case : (b c : Bool) (n : ℕ) → Below ≡ cond b (Within n) (cond c Below Above) → (b ≡ false) × (c ≡ true)
below_case true c n e = absurd (cc)
below_case false true n e = (refl, refl)
below_case false false n e = absurd (cc)

within_case : (b c : Bool) (m n : ℕ) → Within m ≡ cond b (Within n) (cond c Below Above) → (b ≡ true) × (m ≡ n)
within_case true c m n e = (refl, cc)
within_case false true m n e = absurd (cc)
within_case false false m n e = absurd (cc)

above_case : (b c : Bool) (n : ℕ) → Above ≡ cond b (Within n) (cond c Below Above) → (b ≡ false) × (c ≡ false)
above_case true c n e = absurd (cc)
above_case false true n e = absurd (cc)
above_case false false n e = (refl, refl)

pub below_tells : (r : Reading) (w : ℕ) (z : ℤ) → Below ≡ place_of r w z → (fits_read r w z ≡ false) × (int_lt z (pos 0) ≡ true)
unfolding place_of
below_tells r w z e = below_case (fits_read r w z) (int_lt z (pos 0)) (wrap w z) e

pub within_tells : (r : Reading) (w n : ℕ) (z : ℤ) → Within n ≡ place_of r w z → (fits_read r w z ≡ true) × (n ≡ wrap w z)
unfolding place_of
within_tells r w n z e = within_case (fits_read r w z) (int_lt z (pos 0)) n (wrap w z) e

pub above_tells : (r : Reading) (w : ℕ) (z : ℤ) → Above ≡ place_of r w z → (fits_read r w z ≡ false) × (int_lt z (pos 0) ≡ false)
unfolding place_of
above_tells r w z e = above_case (fits_read r w z) (int_lt z (pos 0)) (wrap w z) e

-- ---- the ends of the range

-- a number outside the range is below or above its ends
pub beyond : (r : Reading) (w : ℕ) (z : ℤ) → fits_read r w z ≡ false
    → (int_lt z (range_of r w).least ≡ int_lt z (pos 0)) × (int_lt (range_of r w).most z ≡ not (int_lt z (pos 0)))
beyond Unsigned w (pos n) f = (search rules, grind (arith, nat_tests, f, pow_pos w))
beyond Unsigned w (negsuc n) f = (search rules, search rules)
beyond Signed w (pos n) f = (grind (arith, nat_tests, ints, f, pow_pos (w - 1)), grind (arith, nat_tests, ints, f, pow_pos (w - 1)))
beyond Signed w (negsuc n) f = (grind (arith, nat_tests, ints, f, pow_pos (w - 1)), grind (arith, nat_tests, ints, f, pow_pos (w - 1)))

-- and a number in the range is neither
pub inside : (r : Reading) (w : ℕ) (z : ℤ) → fits_read r w z ≡ true → (int_lt z (range_of r w).least ≡ false) × (int_lt (range_of r w).most z ≡ false)
inside Unsigned w (pos n) f = (search rules, grind (arith, nat_tests, f, pow_pos w))
inside Unsigned w (negsuc n) f = absurd (true≢false (sym f))
inside Signed w (pos n) f = (grind (arith, nat_tests, ints, f, pow_pos (w - 1)), grind (arith, nat_tests, ints, f, pow_pos (w - 1)))
inside Signed w (negsuc n) f = (grind (arith, nat_tests, ints, f, pow_pos (w - 1)), grind (arith, nat_tests, ints, f, pow_pos (w - 1)))

-- ---- whole numbers in order

pub below_down : (w : ℕ) (y z : ℤ) → z ≤ℤ y → Below ≡ place_of Signed w y → Below ≡ place_of Signed w z
below_down w y z h e =
    let t = below_tells Signed w y e in
    below_place Signed w z (falls w y z h t.0 t.1) (negative y z h t.1)
  where
    negative : (y z : ℤ) → z ≤ℤ y → int_lt y (pos 0) ≡ true → int_lt z (pos 0) ≡ true
    negative (pos n) z h e = absurd (omega (arith, ints, e))
    negative (negsuc n) (pos k) h e = absurd h.le
    negative (negsuc n) (negsuc k) h e = refl

    falls : (w : ℕ) (y z : ℤ) → z ≤ℤ y → fits_signed w y ≡ false → int_lt y (pos 0) ≡ true → fits_signed w z ≡ false
    falls w (pos n) z h f e = absurd (omega (arith, ints, e))
    falls w (negsuc n) (pos k) h f e = absurd h.le
    falls w (negsuc n) (negsuc k) h f e = let l : n ≤ k = omega (arith, ints) in grind (arith, nat_tests, f)

pub above_up : (w : ℕ) (y z : ℤ) → y ≤ℤ z → Above ≡ place_of Signed w y → Above ≡ place_of Signed w z
above_up w y z h e =
    let t = above_tells Signed w y e in
    above_place Signed w z (rises w y z h t.0 t.1) (positive y z h t.1)
  where
    positive : (y z : ℤ) → y ≤ℤ z → int_lt y (pos 0) ≡ false → int_lt z (pos 0) ≡ false
    positive (pos n) (pos k) h e = search rules
    positive (pos n) (negsuc k) h e = absurd h.le
    positive (negsuc n) z h e = absurd (true≢false e)

    rises : (w : ℕ) (y z : ℤ) → y ≤ℤ z → fits_signed w y ≡ false → int_lt y (pos 0) ≡ false → fits_signed w z ≡ false
    rises w (pos n) (pos k) h f e = let l : n ≤ k = omega (arith, ints) in grind (arith, nat_tests, f)
    rises w (pos n) (negsuc k) h f e = absurd h.le
    rises w (negsuc n) z h f e = absurd (true≢false e)

-- the lesser of two numbers stands at the lower of their places
min_second : (y z : ℤ) → z ≤ℤ y → int_min y z ≡ z
min_second y z h = omega (arith, ints, clamps)

min_first : (y z : ℤ) → y ≤ℤ z → int_min y z ≡ y
min_first y z h = omega (arith, ints, clamps)

max_first : (y z : ℤ) → z ≤ℤ y → int_max y z ≡ y
max_first y z h = omega (arith, ints, clamps)

max_second : (y z : ℤ) → y ≤ℤ z → int_max y z ≡ z
max_second y z h = omega (arith, ints, clamps)

-- places of signed readings that differ tell which number is the lesser
pub below_first : (w : ℕ) (y z : ℤ) → Below ≡ place_of Signed w y → Below ≡ place_of Signed w (int_min y z)
below_first w y z e = below_down w y (int_min y z) (omega (arith, ints, clamps)) e

pub below_second : (w : ℕ) (y z : ℤ) → Below ≡ place_of Signed w z → Below ≡ place_of Signed w (int_min y z)
below_second w y z e = below_down w z (int_min y z) (omega (arith, ints, clamps)) e

pub above_first : (w : ℕ) (y z : ℤ) → Above ≡ place_of Signed w y → Above ≡ place_of Signed w (int_max y z)
above_first w y z e = above_up w y (int_max y z) (omega (arith, ints, clamps)) e

pub above_second : (w : ℕ) (y z : ℤ) → Above ≡ place_of Signed w z → Above ≡ place_of Signed w (int_max y z)
above_second w y z e = above_up w z (int_max y z) (omega (arith, ints, clamps)) e

-- beside a number above the range the other is the lesser, or is above too
pub other_of_above : (w : ℕ) (y z : ℤ) (p : Place) → Above ≡ place_of Signed w y → p ≡ place_of Signed w z → p ≡ place_of Signed w (int_min y z)
other_of_above w y z p e f = by (int_lt z y) refl
  where
    by : (b : Bool) → int_lt z y ≡ b → p ≡ place_of Signed w (int_min y z)
    by true l = f ∙ ap (place_of Signed w) (sym (min_second y z (omega (arith, ints, l))))
    by false l =
        let more : y ≤ℤ z = omega (arith, ints, l) in
        f ∙ sym (above_up w y z more e) ∙ e ∙ ap (place_of Signed w) (sym (min_first y z more))

pub above_other : (w : ℕ) (y z : ℤ) (p : Place) → Above ≡ place_of Signed w z → p ≡ place_of Signed w y → p ≡ place_of Signed w (int_min y z)
above_other w y z p e f = by (int_lt y z) refl
  where
    by : (b : Bool) → int_lt y z ≡ b → p ≡ place_of Signed w (int_min y z)
    by true l = f ∙ ap (place_of Signed w) (sym (min_first y z (omega (arith, ints, l))))
    by false l =
        let more : z ≤ℤ y = omega (arith, ints, l) in
        f ∙ sym (above_up w z y more e) ∙ e ∙ ap (place_of Signed w) (sym (min_second y z more))

-- beside a number below the range the other is the greater, or is below too
pub other_of_below : (w : ℕ) (y z : ℤ) (p : Place) → Below ≡ place_of Signed w y → p ≡ place_of Signed w z → p ≡ place_of Signed w (int_max y z)
other_of_below w y z p e f = by (int_lt y z) refl
  where
    by : (b : Bool) → int_lt y z ≡ b → p ≡ place_of Signed w (int_max y z)
    by true l = f ∙ ap (place_of Signed w) (sym (max_second y z (omega (arith, ints, l))))
    by false l =
        let less : z ≤ℤ y = omega (arith, ints, l) in
        f ∙ sym (below_down w y z less e) ∙ e ∙ ap (place_of Signed w) (sym (max_first y z less))

pub below_other : (w : ℕ) (y z : ℤ) (p : Place) → Below ≡ place_of Signed w z → p ≡ place_of Signed w y → p ≡ place_of Signed w (int_max y z)
below_other w y z p e f = by (int_lt z y) refl
  where
    by : (b : Bool) → int_lt z y ≡ b → p ≡ place_of Signed w (int_max y z)
    by true l = f ∙ ap (place_of Signed w) (sym (max_first y z (omega (arith, ints, l))))
    by false l =
        let less : y ≤ℤ z = omega (arith, ints, l) in
        f ∙ sym (below_down w z y less e) ∙ e ∙ ap (place_of Signed w) (sym (max_second y z less))

-- the reading of the number at a place in the range
pub reading_at_place : (w n : ℕ) (z : ℤ) → 1 ≤ w → Within n ≡ place_of Signed w z → signed_of w (n % 2 ^ w) ≡ z
reading_at_place w n z one e =
    let t = within_tells Signed w n z e in
    let l : n < 2 ^ w = subst (λ k. k < 2 ^ w) (sym t.1) (wrap_below w z) in
    ap (signed_of w) (mod-eq_of_lt l ∙ t.1) ∙ reading_of_wrap w z one t.0

-- the place of the lesser and of the greater of two numbers in the range, by comparing the readings
module _ (w m n : ℕ) (y z : ℤ) (one : 1 ≤ w) (p : Within m ≡ place_of Signed w y) (q : Within n ≡ place_of Signed w z) where
  pub lesser_second : int_lt (signed_of w (n % 2 ^ w)) (signed_of w (m % 2 ^ w)) ≡ true → Within n ≡ place_of Signed w (int_min y z)
  lesser_second l =
      let e = reading_at_place w m y one p in
      let f = reading_at_place w n z one q in
      q ∙ ap (place_of Signed w) (sym (min_second y z (omega (arith, ints, l, e, f))))

  pub lesser_first : int_lt (signed_of w (n % 2 ^ w)) (signed_of w (m % 2 ^ w)) ≡ false → Within m ≡ place_of Signed w (int_min y z)
  lesser_first l =
      let e = reading_at_place w m y one p in
      let f = reading_at_place w n z one q in
      p ∙ ap (place_of Signed w) (sym (min_first y z (omega (arith, ints, l, e, f))))

  pub greater_first : int_lt (signed_of w (n % 2 ^ w)) (signed_of w (m % 2 ^ w)) ≡ true → Within m ≡ place_of Signed w (int_max y z)
  greater_first l =
      let e = reading_at_place w m y one p in
      let f = reading_at_place w n z one q in
      p ∙ ap (place_of Signed w) (sym (max_first y z (omega (arith, ints, l, e, f))))

  pub greater_second : int_lt (signed_of w (n % 2 ^ w)) (signed_of w (m % 2 ^ w)) ≡ false → Within n ≡ place_of Signed w (int_max y z)
  greater_second l =
      let e = reading_at_place w m y one p in
      let f = reading_at_place w n z one q in
      q ∙ ap (place_of Signed w) (sym (max_second y z (omega (arith, ints, l, e, f))))

-- ---- what the places tell of a span

pub not_within : (r : Reading) (w : ℕ) (z : ℤ) (p : Place) → ((n : ℕ) → p ≡ Within n → ⊥) → p ≡ place_of r w z → false ≡ fits_read r w z
not_within r w z p other e = elim (cases_Bool (fits_read r w z)) [
  | inl fits ↦ absurd (other (wrap w z) (e ∙ sym (within_place r w (wrap w z) z fits refl)))
  | inr out ↦ sym out
]

pub is_within_tells : (r : Reading) (w n : ℕ) (z : ℤ) → Within n ≡ place_of r w z → true ≡ fits_read r w z
is_within_tells r w n z e = sym (within_tells r w n z e).0

pub low_misses : (r : Reading) (w : ℕ) (s : WholeSpan) → Below ≡ place_of r w s.most → true ≡ misses_range r w s
unfolding misses_range
low_misses r w s e =
    let t = below_tells r w s.most e in
    let d : int_lt s.most (range_of r w).least ≡ true = (beyond r w s.most t.0).0 ∙ t.1 in
    rw d refl

pub high_misses : (r : Reading) (w : ℕ) (s : WholeSpan) → Above ≡ place_of r w s.least → true ≡ misses_range r w s
unfolding misses_range
high_misses r w s e =
    let t = above_tells r w s.least e in
    let d : int_lt (range_of r w).most s.least ≡ true = (beyond r w s.least t.0).1 ∙ ap not t.1 in
    rw d (or_true (int_lt s.most (range_of r w).least))
  where
    or_true : (b : Bool) → true ≡ b || true
    or_true true = refl
    or_true false = refl

-- a whole number that is not below the range, and one that is not above it
not_low : (r : Reading) (w : ℕ) (z : ℤ) → (Below ≡ place_of r w z → ⊥) → int_lt z (range_of r w).least ≡ false
not_low r w z other = elim (cases_Bool (fits_read r w z)) [
  | inl fits ↦ (inside r w z fits).0
  | inr out ↦ (beyond r w z out).0 ∙ elim (cases_Bool (int_lt z (pos 0))) [
    | inl negative ↦ absurd (other (below_place r w z out negative))
    | inr positive ↦ positive
  ]
]

not_high : (r : Reading) (w : ℕ) (z : ℤ) → (Above ≡ place_of r w z → ⊥) → int_lt (range_of r w).most z ≡ false
not_high r w z other = elim (cases_Bool (fits_read r w z)) [
  | inl fits ↦ (inside r w z fits).1
  | inr out ↦ (beyond r w z out).1 ∙ elim (cases_Bool (int_lt z (pos 0))) [
    | inl negative ↦ ap not negative
    | inr positive ↦ absurd (other (above_place r w z out positive))
  ]
]

pub meets_range : (r : Reading) (w : ℕ) (s : WholeSpan) → (Below ≡ place_of r w s.most → ⊥) → (Above ≡ place_of r w s.least → ⊥) → false ≡ misses_range r w s
unfolding misses_range
meets_range r w s low high =
    let one = not_low r w s.most low in
    let two = not_high r w s.least high in
    rw (one, two) refl

-- ---- clamped numbers

pub clamped_within : (r : Reading) (w : ℕ) (z : ℤ) → 1 ≤ w → fits_read r w z ≡ true → wrap w z ≡ clamped_read r w z
clamped_within Unsigned w (pos n) one f =
    let l : n < 2 ^ w = grind (arith, nat_tests, f) in
    mod-eq_of_lt l ∙ omega (arith)
clamped_within Unsigned w (negsuc n) one f = absurd (true≢false (sym f))
clamped_within Signed w (pos n) one f =
    let l : n < 2 ^ (w - 1) = grind (arith, nat_tests, f) in
    let e : n ≡ min n (2 ^ (w - 1) - 1) = omega arith in
    ap (λ k. k % 2 ^ w) e
clamped_within Signed w (negsuc n) one f =
    let l : n < 2 ^ (w - 1) = grind (arith, nat_tests, f) in
    let e : n ≡ min n (2 ^ (w - 1) - 1) = omega arith in
    ap (λ k. 2 ^ w - 1 - k % 2 ^ w) e

pub clamped_below : (r : Reading) (w : ℕ) (z : ℤ) → 1 ≤ w → fits_read r w z ≡ false → int_lt z (pos 0) ≡ true → wrap w (range_of r w).least ≡ clamped_read r w z
clamped_below Unsigned w (pos n) one f e = absurd (omega (arith, ints, e))
clamped_below Unsigned w (negsuc n) one f e = mod-eq_of_lt (pow_pos w)
clamped_below Signed w (pos n) one f e = absurd (omega (arith, ints, e))
clamped_below Signed w (negsuc n) one f e =
    let l : 2 ^ (w - 1) ≤ n = grind (arith, nat_tests, f) in
    let least : neg_ℤ (pos (2 ^ (w - 1))) ≡ negsuc (min n (2 ^ (w - 1) - 1)) = omega (arith, ints, pow_pos (w - 1)) in
    ap (wrap w) least

pub clamped_above : (r : Reading) (w : ℕ) (z : ℤ) → 1 ≤ w → fits_read r w z ≡ false → int_lt z (pos 0) ≡ false → wrap w (range_of r w).most ≡ clamped_read r w z
clamped_above Unsigned w (pos n) one f e =
    let l : 2 ^ w ≤ n = grind (arith, nat_tests, f) in
    mod-eq_of_lt (omega (arith, pow_pos w)) ∙ omega arith
clamped_above Unsigned w (negsuc n) one f e = absurd (true≢false e)
clamped_above Signed w (pos n) one f e =
    let l : 2 ^ (w - 1) ≤ n = grind (arith, nat_tests, f) in
    let most : 2 ^ (w - 1) - 1 ≡ min n (2 ^ (w - 1) - 1) = omega arith in
    ap (λ k. k % 2 ^ w) most
clamped_above Signed w (negsuc n) one f e = absurd (true≢false e)

pub least_signed : (w top : ℕ) → 1 ≤ w → top + 1 ≡ 2 ^ (w - 1) → top + 1 ≡ wrap w (range_of Signed w).least
least_signed w top one e =
    let least : neg_ℤ (pos (2 ^ (w - 1))) ≡ negsuc (2 ^ (w - 1) - 1) = omega (arith, ints, pow_pos (w - 1)) in
    let small : (2 ^ (w - 1) - 1) % 2 ^ w ≡ 2 ^ (w - 1) - 1 = mod-eq_of_lt (omega (arith, twice w one)) in
    let half : 2 ^ w - 1 - (2 ^ (w - 1) - 1) % 2 ^ w ≡ top + 1 = omega (arith, small, twice w one) in
    sym (ap (wrap w) least ∙ half)
