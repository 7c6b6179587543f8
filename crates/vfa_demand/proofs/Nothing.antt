-- Of no bit nothing is asked.
use Rattle.std.proofs.Common.{◌≡◌, ◌≤◌, ℕ, zero, suc, ◌-◌, ◌^◌, ap, refl, arith, rules, lit<}
use Rattle.std.proofs.lemmas.Nat.{leading_length}
use Rattle.std.specs.Int.{leading_zeros, w128}
use Rattle.vfa_demand.specs.Rows.{up_to}

one_alone : (m : ℕ) → 2 ^ m ≤ 1 → m ≡ 0
one_alone zero h = refl
one_alone (suc m) h = absurd (omega (arith, h, pow_least m))
  where
    pow_least : (m : ℕ) → 2 ≤ 2 ^ suc m
    pow_least m = first_of (grind arith, search rules)

all_leading : leading_zeros w128 0 ≡ 128
all_leading =
    let l = leading_length 128 0 (lit< tt) in
    let none : l.0 ≡ 0 = one_alone l.0 (omega (arith, l.3)) in
    omega (arith, none, l.1)

pub up_to_none : up_to 0 ≡ 0
unfolding up_to
up_to_none = ap (λ n. 2 ^ (128 - n) - 1) all_leading
