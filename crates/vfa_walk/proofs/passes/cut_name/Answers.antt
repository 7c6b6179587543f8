use Rattle.std.proofs.Common.{◌∙◌, sym, subst, MatchBool}
use Rattle.vfa_ir.specs.Walks.{IsDefinedAt, IsMissedAt}
use Rattle.vfa_cond.specs.States.{known}
use Rattle.vfa_walk.proofs.Cutting.{same_answer, cut_stays, cut_goes}
use Rattle.vfa_walk.proofs.passes.cut_name.Goals as goal

pub returns-then-defined-clause-change : goal.returns-then-defined-clause-change
returns-then-defined-clause-change g c names scope =
    let told = subst (λ h. MatchBool c.defined.result (IsDefinedAt h c.args.b.0 0 c.args.v.0) (IsMissedAt h c.args.b.0 0 c.args.v.0)) (sym c.requires.same) c.defined.ensures in
    cut_stays names c.args.v.0 (known c.args.state.now)
    (same_answer c.args.f.now c.args.b.0 0 c.args.v.0 (names c.args.v.0) c.defined.result scope told ∙ c.if-defined.true)

pub returns-clause-change : goal.returns-clause-change
returns-clause-change g c names scope =
    let told = subst (λ h. MatchBool c.defined.result (IsDefinedAt h c.args.b.0 0 c.args.v.0) (IsMissedAt h c.args.b.0 0 c.args.v.0)) (sym c.requires.same) c.defined.ensures in
    cut_goes names c.args.v.0 (known c.args.state.now) (known c.take_over.new.state)
    (same_answer c.args.f.now c.args.b.0 0 c.args.v.0 (names c.args.v.0) c.defined.result scope told ∙ c.if-defined.false)
    c.take_over.ensures.fact c.take_over.ensures.live
