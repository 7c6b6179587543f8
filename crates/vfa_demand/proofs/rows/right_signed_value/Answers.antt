use Rattle.std.proofs.Common.{◌≡◌, ◌≤◌, ◌-◌, ◌/◌, ◌^◌, ◌∙◌, nat_lt, ap, sym, arith}
use Rattle.vfa_demand.specs.Rows.{sign_if}
use Rattle.vfa_demand.proofs.Shifts.{left_cut, ones_left, signed_of_literal, or_same}
use Rattle.vfa_demand.proofs.rows.right_signed_value.Goals as goal

pub returns-in-Literal : goal.returns-in-Literal
returns-in-Literal c =
    let w = c.args.width in
    let t = c.in-Literal.amount in
    let within : t ≤ w = omega (arith, c.if-amount-width.true) in
    let copied : c.all_bits.result / 2 ^ t ≡ 2 ^ (w - t) - 1 = ap (λ n. n / 2 ^ t) c.all_bits.ensures ∙ ones_left w t within in
    or_same c.cut.result _ c.sign_if.result _
    (c.cut.ensures ∙ left_cut w c.args.mask t c.requires.most)
    (c.sign_if.ensures ∙ ap (λ n. sign_if (nat_lt n c.args.mask) w) copied)
    ∙ sym (signed_of_literal w c.args.amount t c.args.mask c.in-Literal.is c.if-amount-width.true)
