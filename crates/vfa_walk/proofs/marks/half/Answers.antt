use Rattle.std.proofs.Common.{◌≡◌, ◌<◌, ◌≤◌, ◌-◌, ◌^◌, ℕ, arith, ◌⊎◌, inl, inr, ap}
use Rattle.std.proofs.lemmas.Bool.{cases_lt}
use Rattle.std.proofs.lemmas.Nat.{pow_below}
use Rattle.vfa_walk.proofs.marks.half.Goals as goal

at_most : (k : ℕ) → k ≤ 127 → (k < 127) ⊎ (127 ≤ k) → 2 ^ k ≤ 2 ^ 127
at_most k high (inl less) = let below : 2 ^ k < 2 ^ 127 = pow_below k 127 less in omega arith
at_most k high (inr more) = let same : k ≡ 127 = omega arith in let e : 2 ^ k ≡ 2 ^ 127 = ap (λ n. 2 ^ n) same in omega (arith, e)

pub returns-clause-room : goal.returns-clause-room
returns-clause-room c =
    let k = c.args.width - 1 in
    let high = at_most k (omega (arith, c.requires.most)) (cases_lt k 127) in
    omega (arith, high)
