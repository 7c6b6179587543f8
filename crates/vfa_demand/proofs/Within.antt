-- Masks within masks.
use Rattle.std.proofs.Common.{◌≡◌, ◌≤◌, ℕ, ◌-◌, ◌*◌, ◌/◌, ◌%◌, ◌^◌, ◌+◌, bit_and, bit_or, min, max, ap, subst, arith, lit<, sym, ◌∙◌}
use Rattle.std.proofs.lemmas.Nat.{and_assoc, and_comm, or_comm, and_or_self, and_le_r, and_shr, and_mod, and_block, and_mask, pow_pos}
use Rattle.std.proofs.lemmas.Nat.Bits.{bit_at_and, bit_at_or, same_from_bits}
use Rattle.std.proofs.Math.Nat.{mod-eq_of_lt}
use Rattle.std.proofs.Math.Nat.{pow-le-pow_right}
use Rattle.std.specs.Int.Bits.{and_self, and_zero_l, and_zero_r}
use Rattle.std.specs.Int.{bit_at}
use Rattle.vfa_demand.specs.Masks.{IsPartOf}

pub within_self : (a : ℕ) → IsPartOf a a
within_self a = and_self a

pub none_within : (b : ℕ) → IsPartOf 0 b
none_within b = and_zero_l b

pub within_none : (a : ℕ) → IsPartOf a 0 → a ≡ 0
within_none a h = sym h ∙ and_zero_r a

pub within_trans : (a b c : ℕ) → IsPartOf a b → IsPartOf b c → IsPartOf a c
within_trans a b c h k =
    ap (λ x. bit_and x c) (sym h) ∙ and_assoc c a b ∙ ap (bit_and a) k ∙ h

pub within_le : (a b : ℕ) → IsPartOf a b → a ≤ b
within_le a b h = subst (λ x. x ≤ b) h (and_le_r a b)

pub within_or_right : (a b : ℕ) → IsPartOf b (bit_or a b)
within_or_right a b = and_comm b (bit_or a b) ∙ and_or_self b a

pub within_or_left : (a b : ℕ) → IsPartOf a (bit_or a b)
within_or_left a b = ap (bit_and a) (or_comm a b) ∙ within_or_right b a

meets_both : (a b c : ℕ) → min a c ≡ a → min b c ≡ b → min (max a b) c ≡ max a b
meets_both a b c h k = omega (arith, h, k)

pub or_within : (a b c : ℕ) → IsPartOf a c → IsPartOf b c → IsPartOf (bit_or a b) c
or_within a b c h k = same_from_bits (bit_and (bit_or a b) c) (bit_or a b) (λ i.
    let one : min (bit_at a i) (bit_at c i) ≡ bit_at a i = sym (bit_at_and a c i) ∙ ap (λ x. bit_at x i) h in
    let two : min (bit_at b i) (bit_at c i) ≡ bit_at b i = sym (bit_at_and b c i) ∙ ap (λ x. bit_at x i) k in
    bit_at_and (bit_or a b) c i ∙ ap (λ x. min x (bit_at c i)) (bit_at_or a b i)
    ∙ meets_both (bit_at a i) (bit_at b i) (bit_at c i) one two ∙ sym (bit_at_or a b i))

pub within_or : (a b x y : ℕ) → IsPartOf a b → IsPartOf x y → IsPartOf (bit_or a x) (bit_or b y)
within_or a b x y h k =
    or_within a x (bit_or b y)
    (within_trans a b (bit_or b y) h (within_or_left b y))
    (within_trans x y (bit_or b y) k (within_or_right b y))

-- ---- what rows do to masks

pub within_shr : (a b k : ℕ) → IsPartOf a b → IsPartOf (a / 2 ^ k) (b / 2 ^ k)
within_shr a b k h = sym (and_shr a b k) ∙ ap (λ x. x / 2 ^ k) h

pub within_mod : (a b k : ℕ) → IsPartOf a b → IsPartOf (a % 2 ^ k) (b % 2 ^ k)
within_mod a b k h = sym (and_mod a b k) ∙ ap (λ x. x % 2 ^ k) h

pub within_shl : (a b k : ℕ) → IsPartOf a b → IsPartOf (a * 2 ^ k) (b * 2 ^ k)
within_shl a b k h =
    let block : bit_and (a * 2 ^ k + 0) (b * 2 ^ k + 0) ≡ bit_and a b * 2 ^ k + bit_and 0 0 = and_block k a b 0 0 (pow_pos k) (pow_pos k) in
    let plain : bit_and (a * 2 ^ k) (b * 2 ^ k) ≡ bit_and a b * 2 ^ k = first_of (grind arith, cc) in
    plain ∙ ap (λ x. x * 2 ^ k) h

pub within_and : (a b c : ℕ) → IsPartOf a b → IsPartOf (bit_and a c) (bit_and b c)
within_and a b c h =
    and_assoc (bit_and b c) a c
    ∙ ap (bit_and a) (and_comm c (bit_and b c) ∙ and_assoc c b c ∙ ap (bit_and b) (and_self c))
    ∙ sym (and_assoc c a b)
    ∙ ap (λ x. bit_and x c) h

pub power_le : (m n : ℕ) → m ≤ n → 2 ^ m ≤ 2 ^ n
power_le m n h = pow-le-pow_right (lit< tt) h

-- of the masks of all bits of a width
pub within_ones : (m n : ℕ) → m ≤ n → IsPartOf (2 ^ m - 1) (2 ^ n - 1)
within_ones m n h = and_mask (2 ^ m - 1) n ∙ mod-eq_of_lt (omega (arith, power_le m n h, pow_pos m))
