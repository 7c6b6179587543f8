use Rattle.std.proofs.Common.{◌≡◌, ℕ, ℤ, arith, sym, ◌∙◌, FitsSigned, rules, Option, Some}
use Rattle.std.specs.Int.{w128}
use Rattle.std.proofs.lemmas.Int.{to_z-of_z}
use Rattle.vfa_wrap.specs.Ends.{EndsOf}
use Rattle.vfa_fact.proofs.MaskedAmounts.{mask_ends}
use Rattle.vfa_fact.proofs.cuts.amount_ends.Goals as goal

same_ends : (lo lo' hi hi' : ℕ) (a a' b b' : ℤ) → lo ≡ lo' → hi ≡ hi' → a ≡ a' → b ≡ b' →
    ◌≡◌ {A = Option EndsOf} (Some (record { lo = lo; hi = hi; slo = a; shi = b })) (Some (record { lo = lo'; hi = hi'; slo = a'; shi = b' }))
same_ends lo lo' hi hi' a a' b b' elo ehi ea eb = cc

pub returns : goal.returns
returns g c S is = let log = c.ilog2-greatest in
    let first_fits : FitsSigned w128 c.from-3.result = search rules in
    let last_fits : FitsSigned w128 c.from-4.result = search rules in
    same_ends _ _ _ _ _ _ _ _ c.from.ensures c.from-2.ensures (to_z-of_z w128 c.from-3.result first_fits ∙ c.from-3.ensures) (to_z-of_z w128 c.from-4.result last_fits ∙ c.from-4.ensures)
    ∙ sym (mask_ends g.row.W c.args.mask log.result S c.requires.width (omega (arith, c.requires.some)) c.requires.fits is log.ensures.bound log.ensures.power_le log.ensures.next_power_gt)
