use Rattle.std.proofs.Common.{◌≡◌, ℕ, ◌+◌, ◌-◌, ◌*◌, ◌%◌, ◌^◌, ◌<◌, ◌≤◌, ◌∙◌, ap, arith, pow_mono, ℤ}
use Rattle.std.proofs.Math.Nat.{mod-eq_of_lt}
use Rattle.std.proofs.lemmas.Int.{to_z-of_z}
use Rattle.std.specs.Int.{w128}
use Rattle.vfa_word.specs.Numbers.{wrap}
use Rattle.vfa_wrap.specs.Places.{reading_at}
use Rattle.vfa_fact.proofs.Orders.{half_fits}
use Rattle.vfa_fact.proofs.MemberPlaces.{place_of_reading}
use Rattle.vfa_fact.proofs.order.signed_place.Goals as goal

place_is : (w k a b r : ℕ) (z : ℤ) → 1 ≤ w → w ≤ 128 → k < 2 ^ w → z ≡ reading_at w k → a ≡ wrap w z → b ≡ 1 * 2 ^ (w - 1) % 2 ^ 128 % 2 ^ w → r ≡ (a + b) % 2 ^ w → r ≡ k
place_is w k a b r z one most hk is ea eb er =
    let fits = half_fits w one in
    let wide : 2 ^ w ≤ 2 ^ 128 = pow_mono {i = w} {j = 128} most in
    let single : 1 * 2 ^ (w - 1) ≡ 2 ^ (w - 1) = omega arith in
    let low : 1 * 2 ^ (w - 1) % 2 ^ 128 ≡ 2 ^ (w - 1) = ap (λ (n : ℕ). n % 2 ^ 128) single ∙ mod-eq_of_lt (omega arith) in
    let half : b ≡ 2 ^ (w - 1) = eb ∙ ap (λ (n : ℕ). n % 2 ^ w) low ∙ mod-eq_of_lt fits in
    er ∙ ap (λ (n : ℕ). (n + b) % 2 ^ w) ea ∙ ap (λ (n : ℕ). (wrap w z + n) % 2 ^ w) half ∙ place_of_reading w k z one hk is

pub returns-clause-place : goal.returns-clause-place
returns-clause-place g c k hk is =
    place_is g.row.W k c.wrapped.result c.cut.result c.bits.result c.args.reading c.requires.least c.requires.most hk is (c.wrapped.ensures ∙ ap (wrap g.row.W) (to_z-of_z w128 c.args.reading c.ranges.reading)) c.cut.ensures (c.bits.ensures.value ∙ c.add.ensures)
