use Rattle.std.proofs.Common.{◌∙◌, ap}
use Rattle.vfa_wrap.specs.declared.places.Places.{Places}
use Rattle.vfa_wrap.proofs.SpanLaws.{clamped_arc}
use Rattle.vfa_wrap.proofs.spans.clamped.Goals as goal

pub returns : goal.returns
returns g c whole p =
    c.new.ensures
    ∙ clamped_arc c.args.reading g.row.W whole c.clamped.result c.clamped-2.result _ _
    (c.clamped.ensures whole.least (ap (λ (s : Places). s.least) p)) (c.clamped-2.ensures whole.most (ap (λ (s : Places). s.most) p))
    c.cut.ensures c.cut-2.ensures
