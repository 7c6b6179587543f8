use Rattle.std.proofs.Common.{◌∙◌}
use Rattle.vfa_wrap.specs.Arc.{arc_from}
use Rattle.vfa_wrap.proofs.Circle.{arc_from-mod}
use Rattle.vfa_xfer.proofs.number_arcs.arc.Goals as goal

pub returns : goal.returns
returns g c =
    c.new.ensures ∙ (λ i. arc_from g.row.W (c.cut.ensures i) (c.cut-2.ensures i)) ∙ arc_from-mod g.row.W c.args.first c.args.last
