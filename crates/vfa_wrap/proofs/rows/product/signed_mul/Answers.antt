use Rattle.std.proofs.Common.{◌∙◌, rules, FitsSigned}
use Rattle.std.specs.Int.{w128}
use Rattle.vfa_wrap.proofs.RowSteps.{products_read}
use Rattle.vfa_wrap.proofs.rows.product.signed_mul.Goals as goal

pub returns-in_default : goal.returns-in_default
returns-in_default g c =
    let a = c.args.a.now in
    let b = c.args.b.now in
    let p : FitsSigned w128 a.slo = search rules in
    let q : FitsSigned w128 a.shi = search rules in
    let r : FitsSigned w128 b.slo = search rules in
    let s : FitsSigned w128 b.shi = search rules in
    c.everything.ensures
    ∙ products_read g.row.W a.slo a.shi b.slo b.shi c.requires.most p q r s (λ f. c.in_default.ensures f)
