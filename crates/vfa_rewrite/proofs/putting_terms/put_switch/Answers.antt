use Rattle.std.proofs.Common.{◌≡◌, true, false, sym, ◌∙◌}
use Rattle.std.specs.Prelude.{slice_index_or}
use Rattle.vfa_rewrite.specs.Rewritten.{many_ways}
use Rattle.vfa_rewrite.proofs.putting_terms.put_switch.Goals as goal

pub returns-then-has_left : goal.returns-then-has_left
returns-then-has_left c =
    let is : true ≡ slice_index_or c.args.left.now 0 false = sym c.if-has_left.true ∙ c.has_left.ensures in
    c.with_other.ensures ∙ (λ i. many_ways (is i) c.args.width c.args.on c.args.other (c.in_ok-cases.ensures i))

pub returns : goal.returns
returns c =
    let is : false ≡ slice_index_or c.args.left.now 0 false = sym c.if-has_left.false ∙ c.has_left.ensures in
    c.without_other.ensures ∙ (λ i. many_ways (is i) c.args.width c.args.on c.args.other (c.in_ok-cases.ensures i))
