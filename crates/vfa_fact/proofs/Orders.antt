-- The unsigned and the signed order as orders that go up from a base.
use Rattle.std.proofs.Common.{◌≡◌, ℕ, ◌+◌, ◌-◌, ◌^◌, ◌<◌, ◌≤◌, true, false, refl, arith, inl, inr, ◌⊎◌}
use Rattle.std.specs.Prelude.{nat_lt, int_lt}
use Rattle.std.proofs.lemmas.Bool.Decides.{nat_tests}
use Rattle.std.proofs.lemmas.Nat.{pow_pos}
use Rattle.vfa_word.specs.Numbers.{signed_of}
use Rattle.vfa_word.proofs.Readings.{reading_low, reading_high}
use Rattle.vfa_wrap.specs.Arc.{steps}
use Rattle.vfa_wrap.proofs.Circle.{steps_is}
use Rattle.vfa_wrap.proofs.ArcEnds.{half_is}
use Rattle.vfa_fact.specs.Order.{comes_before}

-- the place of a number in the unsigned order is the number itself
pub unsigned_place : (w x : ℕ) → x < 2 ^ w → steps w 0 x ≡ x
unsigned_place w x hx = let to = steps_is w 0 x (pow_pos w) hx in grind (arith, to)

pub unsigned_before : (w x y : ℕ) → x < 2 ^ w → y < 2 ^ w → nat_lt x y ≡ comes_before w 0 x y
unfolding comes_before
unsigned_before w x y hx hy = let one = unsigned_place w x hx in let two = unsigned_place w y hy in rw (one, two) refl

-- the base of the signed order is a number of the width
pub half_fits : (w : ℕ) → 1 ≤ w → 2 ^ (w - 1) < 2 ^ w
half_fits w one = let e = half_is w one in let p = pow_pos (w - 1) in omega (arith, e, p)

-- what the place a of a number x says, where the order begins at h
low_low : (h m x y a b : ℕ) → h + h ≡ m → x < h → y < h → a + h ≡ x + m → b + h ≡ y + m → nat_lt x y ≡ nat_lt a b
low_low h m x y a b e hx hy ea eb = grind (arith, nat_tests)

low_high : (h m x a b y : ℕ) → h + h ≡ m → x < h → y < m → a + h ≡ x + m → b + h ≡ y → false ≡ nat_lt a b
low_high h m x a b y e hx hy ea eb = grind (arith, nat_tests)

high_low : (h m x a b y : ℕ) → h + h ≡ m → x < m → y < h → a + h ≡ x → b + h ≡ y + m → true ≡ nat_lt a b
high_low h m x a b y e hx hy ea eb = grind (arith, nat_tests)

high_high : (h m x y a b : ℕ) → h + h ≡ m → x < m → y < m → a + h ≡ x → b + h ≡ y → nat_lt (m - 1 - y) (m - 1 - x) ≡ nat_lt a b
high_high h m x y a b e hx hy ea eb = grind (arith, nat_tests)

-- the place of a number in the signed order
pub signed_place : (w x : ℕ) → 1 ≤ w → x < 2 ^ w → ((x < 2 ^ (w - 1)) × (steps w (2 ^ (w - 1)) x + 2 ^ (w - 1) ≡ x + 2 ^ w)) ⊎ ((2 ^ (w - 1) ≤ x) × (steps w (2 ^ (w - 1)) x + 2 ^ (w - 1) ≡ x))
signed_place w x one hx = elim (steps_is w (2 ^ (w - 1)) x (half_fits w one) hx).1 [
  | inl high ↦ inr high
  | inr low ↦ inl low
]

pub signed_before : (w x y : ℕ) → 1 ≤ w → x < 2 ^ w → y < 2 ^ w → int_lt (signed_of w x) (signed_of w y) ≡ comes_before w (2 ^ (w - 1)) x y
unfolding comes_before
signed_before w x y one hx hy = elim (signed_place w x one hx) [
  | inl low ↦ elim (signed_place w y one hy) [
    | inl low' ↦ rw (reading_low w x low.0, reading_low w y low'.0)
        (low_low (2 ^ (w - 1)) (2 ^ w) x y _ _ (half_is w one) low.0 low'.0 low.1 low'.1)
    | inr high' ↦ rw (reading_low w x low.0, reading_high w y high'.0 hy)
        (low_high (2 ^ (w - 1)) (2 ^ w) x _ _ y (half_is w one) low.0 hy low.1 high'.1)
  ]
  | inr high ↦ elim (signed_place w y one hy) [
    | inl low' ↦ rw (reading_high w x high.0 hx, reading_low w y low'.0)
        (high_low (2 ^ (w - 1)) (2 ^ w) x _ _ y (half_is w one) hx low'.0 high.1 low'.1)
    | inr high' ↦ rw (reading_high w x high.0 hx, reading_high w y high'.0 hy)
        (high_high (2 ^ (w - 1)) (2 ^ w) x y _ _ (half_is w one) hx hy high.1 high'.1)
  ]
]
