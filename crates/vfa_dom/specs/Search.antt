-- Bounded searches, this project's own. A test is a function from numbers to `Bool`, and each search looks at the
-- numbers below n.
use Rattle.std.specs.Prelude.{ℕ, zero, suc, ◌+◌, ◌*◌, ◌^◌, Bool, true, false, cond, ◌&&◌, ◌||◌}

-- whether some number below n passes
unfoldable pub some_below : ℕ → (ℕ → Bool) → Bool
some_below zero p = false
some_below (suc n) p = p n || some_below n p

-- whether each number below n passes
unfoldable pub all_below : ℕ → (ℕ → Bool) → Bool
all_below zero p = true
all_below (suc n) p = p n && all_below n p

-- the least number below n that passes, or 0 where none does
unfoldable pub least_below : ℕ → (ℕ → Bool) → ℕ
least_below zero p = 0
least_below (suc n) p = cond (some_below n p) (least_below n p) (cond (p n) n 0)

-- the greatest number below n that passes, or 0 where none does
unfoldable pub greatest_below : ℕ → (ℕ → Bool) → ℕ
greatest_below zero p = 0
greatest_below (suc n) p = cond (p n) n (greatest_below n p)

-- one bit of a test's answer
unfoldable pub flag : Bool → ℕ
flag true = 1
flag false = 0

-- the number whose bits below n are set where the test passes
unfoldable pub bits_below : ℕ → (ℕ → Bool) → ℕ
bits_below zero p = 0
bits_below (suc n) p = flag (p n) * 2 ^ n + bits_below n p
