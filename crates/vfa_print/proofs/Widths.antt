-- Powers of two at the widest numbers.
use Rattle.std.proofs.Common.{◌≡◌, ◌<◌, ◌≤◌, ◌-◌, ◌+◌, ◌%◌, ◌^◌, ℕ, arith, ap, ◌∙◌, sym, pow_mono}

pub below_wide : (w b : ℕ) → (w < 128 → ⊥) → b < 2 ^ 128 → b < 2 ^ w
below_wide w b wide below = let more = pow_mono {i = 128} {j = w} (omega arith) in omega arith

too_wide : (w b : ℕ) → 128 ≤ w - 1 → 2 ^ (w - 1) ≤ b → b < 2 ^ 128 → ⊥
too_wide w b wide least below = let more = pow_mono {i = 128} {j = w - 1} wide in omega arith

sum_is_whole : (m b r : ℕ) → 0 < b → b < m → r < m → (r + b) % m ≡ 0 → r ≡ m - b
sum_is_whole m b r some below within zero = grind arith

pub negated : (w b r : ℕ) → (w < 128 → ⊥) → 2 ^ (w - 1) ≤ b → b < 2 ^ 128 → r < 2 ^ 128 → (r + b) % 2 ^ 128 ≡ 0 → r ≡ 2 ^ w - b
negated w b r wide least below within zero =
    let narrow : 128 ≤ w - 1 → ⊥ = λ h. too_wide w b h least below in
    let w_is : w ≡ 128 = omega arith in
    let some : 1 ≤ 2 ^ (w - 1) = pow_mono {i = 0} {j = w - 1} (omega arith) in
    sum_is_whole (2 ^ 128) b r (omega arith) below within zero ∙ ap (λ n. 2 ^ n - b) (sym w_is)
