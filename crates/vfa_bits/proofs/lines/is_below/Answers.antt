use Rattle.std.proofs.Common.{◌≡◌, ◌/◌, ◌^◌, ◌<◌, ◌≤◌, ℕ, inl, inr, sym, arith, pow_mono}
use Rattle.std.specs.Prelude.{nat_eq, nat_lt}
use Rattle.std.proofs.lemmas.Bool.{cases_lt, lt-ltb}
use Rattle.std.proofs.lemmas.Bool.Decides.{nat_tests}
use Rattle.std.proofs.lemmas.Nat.{pow_pos, le-div, div_below}
use Rattle.vfa_bits.proofs.lines.is_below.Goals as goal

shift_test : (m p : ℕ) → 0 < p → nat_eq (m / p) 0 ≡ nat_lt m p
shift_test m p positive = elim (cases_lt m p) [
  | inl less ↦ let none : m / p < 1 = div_below m p 1 positive (omega (arith, less)) in grind (arith, nat_tests)
  | inr more ↦ let some : 1 ≤ m / p = le-div 1 m p positive (omega (arith, more)) in grind (arith, nat_tests)
]

pub returns-then-place-ge128 : goal.returns-then-place-ge128
returns-then-place-ge128 c =
    let high = c.if-place-ge128.true in
    let most : 2 ^ 128 ≤ 2 ^ c.args.place = pow_mono high in
    let fits = c.ranges.mask in
    sym (lt-ltb c.args.mask (2 ^ c.args.place) (omega (arith, most, fits)))

pub returns : goal.returns
returns c = shift_test c.args.mask (2 ^ c.args.place) (pow_pos c.args.place)
