use Rattle.std.proofs.Common.{◌≡◌, false, ◌∙◌, rules, arith, FitsSigned}
use Rattle.std.specs.Prelude.{◌==◌}
use Rattle.std.specs.Int.{w128}
use Rattle.vfa_wrap.specs.Ends.{shown_ends}
use Rattle.vfa_wrap.specs.Rows.{size_of}
use Rattle.vfa_wrap.proofs.RowLaws.{not_zero}
use Rattle.vfa_wrap.proofs.RowSteps.{plain_quotients}
use Rattle.vfa_wrap.proofs.rows.division.sdiv.Goals as goal

pub returns : goal.returns
returns g c =
    let a = c.args.a.now in
    let b = c.args.b.now in
    let p : FitsSigned w128 a.slo = search rules in
    let q : FitsSigned w128 b.slo = search rules in
    let some : (size_of (shown_ends b) == 0) ≡ false =
    not_zero (size_of (shown_ends b)) (omega (arith, c.size.ensures.value, c.if-size-eq0.false))
    in
    c.udiv.ensures ∙ plain_quotients g.row.W (shown_ends a) (shown_ends b) some p c.if-a-lt0.false q c.if-b-lt0.false
