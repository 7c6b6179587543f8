use Rattle.std.proofs.Common.{◌∙◌, sym}
use Rattle.vfa_wrap.proofs.WholePlaceLaws.{above_first, above_second, other_of_below, below_other, greater_first, greater_second}
use Rattle.vfa_wrap.proofs.places.Place.higher.Goals as goal

pub returns-in-Below : goal.returns-in-Below
returns-in-Below g c y z p q = other_of_below g.row.W y z c.args.other (sym c.in-Below.is ∙ p) q

pub returns-in-Above : goal.returns-in-Above
returns-in-Above g c y z p q = c.in-Above.is ∙ above_first g.row.W y z (sym c.in-Above.is ∙ p)

pub returns-in-Below-other : goal.returns-in-Below-other
returns-in-Below-other g c y z p q = below_other g.row.W y z _ (sym c.in-Below-other.is ∙ q) (sym c.in-Within.is ∙ p)

pub returns-in-Above-other : goal.returns-in-Above-other
returns-in-Above-other g c y z p q = c.in-Above-other.is ∙ above_second g.row.W y z (sym c.in-Above-other.is ∙ q)

pub returns-then-reads_below : goal.returns-then-reads_below
returns-then-reads_below g c y z p q =
    greater_first g.row.W c.in-Within.x c.in-Within-other.y y z c.requires.least (sym c.in-Within.is ∙ p) (sym c.in-Within-other.is ∙ q)
    (sym c.reads_below.ensures ∙ c.if-reads_below.true)

pub returns-else-reads_below : goal.returns-else-reads_below
returns-else-reads_below g c y z p q =
    greater_second g.row.W c.in-Within.x c.in-Within-other.y y z c.requires.least (sym c.in-Within.is ∙ p) (sym c.in-Within-other.is ∙ q)
    (sym c.reads_below.ensures ∙ c.if-reads_below.false)
