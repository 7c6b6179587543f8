-- Whole numbers clamped to a signed range within another.
use Rattle.std.proofs.Common.{◌≡◌, ℕ, ◌-◌, ◌^◌, ◌≤◌, ℤ, pos, negsuc, ap, arith, pow_mono}
use Rattle.std.specs.Int.{saturate_to_bits}

pub clamped_twice : (w : ℕ) (z : ℤ) → w ≤ 128 → saturate_to_bits (w - 1) (saturate_to_bits 127 z) ≡ saturate_to_bits (w - 1) z
clamped_twice w (pos n) h =
    let l : 2 ^ (w - 1) ≤ 2 ^ 127 = pow_mono {i = w - 1} {j = 127} (omega arith) in
    ap pos (omega arith)
clamped_twice w (negsuc n) h =
    let l : 2 ^ (w - 1) ≤ 2 ^ 127 = pow_mono {i = w - 1} {j = 127} (omega arith) in
    ap negsuc (omega arith)
