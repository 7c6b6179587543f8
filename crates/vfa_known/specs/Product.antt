-- The known bits of a product: what the low bits of the operands tell, after the trailing bits of LLVM's
-- KnownBits::mul.
use Rattle.std.specs.Prelude.{ℕ, ◌+◌, ◌*◌, min, Bool, not, ◌&&◌, ◌||◌, nat_eq, nat_lt}
use Rattle.std.specs.Int.{bit_at}
use Rattle.vfa_dom.specs.Search.{least_below, bits_below}
use Rattle.vfa_dom.specs.Best.{Masks}

-- how many places from 0 on pass, below the first one that does not; w where all places below w pass
unfoldable pub run_of : ℕ → (ℕ → Bool) → ℕ
run_of w p = least_below (w + 1) (λ i. nat_eq i w || not (p i))

-- whether the bit is known to be zero
unfoldable pub is_known_zero : Masks → ℕ → Bool
is_known_zero m i = nat_eq (bit_at m.zeros i) 1

-- whether the bit is known
unfoldable pub is_known : Masks → ℕ → Bool
is_known m i = nat_eq (bit_at m.zeros i) 1 || nat_eq (bit_at m.ones i) 1

-- the places below which both operands are known, so that all products agree there
unfoldable pub known_low : ℕ → Masks → Masks → ℕ
known_low w a b = min (run_of w (is_known a)) (run_of w (is_known b))

-- the places below which each product is zero
unfoldable pub zero_low : ℕ → Masks → Masks → ℕ
zero_low w a b = run_of w (is_known_zero a) + run_of w (is_known_zero b)

-- the low bits that all products agree in are known, and so are the zeros below them; no other bit is. The bits that
-- all products agree in are those of the product of the least numbers, whose unknown bits are zero
unfoldable pub product_masks : ℕ → Masks → Masks → Masks
product_masks w a b = record {
  zeros = bits_below w (λ i. nat_lt i (zero_low w a b) || (nat_lt i (known_low w a b) && nat_eq (bit_at (a.ones * b.ones) i) 0));
  ones = bits_below w (λ i. nat_lt i (known_low w a b) && nat_eq (bit_at (a.ones * b.ones) i) 1);
}
