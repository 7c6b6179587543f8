use Rattle.std.proofs.Common.{◌≡◌, ◌∙◌, ◌+◌, ◌<◌, ◌≤◌, ap, ap₂, get_or, length, map, subst}
use Rattle.std.proofs.lemmas.List.{take_all}
use Rattle.vfa_check.specs.Items.{item_count}
use Rattle.vfa_check.proofs.TestedLines.{rows_next}
use Rattle.vfa_check.proofs.tests.refusals.lines_for.Goals as goal

pub each-preserved : goal.each-preserved
each-preserved c =
    let same = c.as_slice-block-items.ensures in
    let within = subst (λ bs. c.each.block-index < length bs) same c.each-test.true in
    let is = subst (λ bs. c.block-item.result ≡ get_or bs c.each.block-index c.block-item.result) same c.block-item.is in
    let long : length c.in_ok-row.field-0 ≡ item_count c.block-item.result =
    c.in_ok-row.ensures ∙ ap₂ (λ m n. m + n + 1) (ap length c.as_slice.ensures) (ap length c.as_slice-in-each.ensures) in
    ap (map length) c.in_ok-push.ensures.items
    ∙ rows_next c.each.of.items c.in_ok-row.field-0 c.args.f.now.blocks c.each.block-index c.block-item.result within is long c.each.invariant

pub returns : goal.returns
returns c =
    let same = c.as_slice-block-items.ensures in
    let past = subst (λ bs. length bs ≤ c.each.block-index) same c.each-test.false in
    c.each.invariant ∙ ap (map item_count) (take_all c.each.block-index c.args.f.now.blocks past)
