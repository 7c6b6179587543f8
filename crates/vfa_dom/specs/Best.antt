-- The best known bits of a set, after LLVM's KnownBits: a bit is known zero where no member has it, known one
-- where all members have it.
use Rattle.std.specs.Prelude.{◌≡◌, ℕ, ◌^◌, ◌<◌, Bool, not, ◌&&◌, nat_eq}
use Rattle.std.specs.Int.{bit_at}
use Rattle.vfa_dom.specs.Search.{some_below, bits_below}

-- a pair of masks: the bits known to be zero and those known to be one
pub record Masks : Type 0 where
  pub zeros : ℕ
  pub ones : ℕ

-- whether some member of the set has this digit at place i
unfoldable pub some_digit : ℕ → (ℕ → Bool) → ℕ → ℕ → Bool
some_digit w S digit i = some_below (2 ^ w) (λ x. S x && nat_eq (bit_at x i) digit)

-- the bits below w that no member has
unfoldable pub zeros_of : ℕ → (ℕ → Bool) → ℕ
zeros_of w S = bits_below w (λ i. not (some_digit w S 1 i))

-- the bits below w that all members have
unfoldable pub ones_of : ℕ → (ℕ → Bool) → ℕ
ones_of w S = bits_below w (λ i. not (some_digit w S 0 i))

unfoldable pub best_of : ℕ → (ℕ → Bool) → Masks
best_of w S = record { zeros = zeros_of w S; ones = ones_of w S }

-- The same as a relation with witnesses: no member contradicts a known bit, and for each bit that a mask leaves
-- out there is a member that shows why.
pub record IsBest (w : ℕ) (Set : ℕ → Type 0) (zeros ones : ℕ) : Type 0 where
  pub zeros_fit : zeros < 2 ^ w
  pub ones_fit : ones < 2 ^ w
  pub zero : (x i : ℕ) → Set x → bit_at zeros i ≡ 1 → bit_at x i ≡ 0
  pub one : (x i : ℕ) → Set x → bit_at ones i ≡ 1 → bit_at x i ≡ 1
  pub some_one : (i : ℕ) → i < w → bit_at zeros i ≡ 0 → (x : ℕ) × Set x × (bit_at x i ≡ 1)
  pub some_zero : (i : ℕ) → i < w → bit_at ones i ≡ 0 → (x : ℕ) × Set x × (bit_at x i ≡ 0)
