use Rattle.std.proofs.Common.{◌∙◌, sym}
use Rattle.vfa_wrap.proofs.WholePlaceLaws.{below_first, below_second, other_of_above, above_other, lesser_first, lesser_second}
use Rattle.vfa_wrap.proofs.places.Place.lower.Goals as goal

pub returns-in-Below : goal.returns-in-Below
returns-in-Below g c y z p q = c.in-Below.is ∙ below_first g.row.W y z (sym c.in-Below.is ∙ p)

pub returns-in-Above : goal.returns-in-Above
returns-in-Above g c y z p q = other_of_above g.row.W y z c.args.other (sym c.in-Above.is ∙ p) q

pub returns-in-Below-other : goal.returns-in-Below-other
returns-in-Below-other g c y z p q = c.in-Below-other.is ∙ below_second g.row.W y z (sym c.in-Below-other.is ∙ q)

pub returns-in-Above-other : goal.returns-in-Above-other
returns-in-Above-other g c y z p q = above_other g.row.W y z _ (sym c.in-Above-other.is ∙ q) (sym c.in-Within.is ∙ p)

pub returns-then-reads_below : goal.returns-then-reads_below
returns-then-reads_below g c y z p q =
    lesser_second g.row.W c.in-Within.x c.in-Within-other.y y z c.requires.least (sym c.in-Within.is ∙ p) (sym c.in-Within-other.is ∙ q)
    (sym c.reads_below.ensures ∙ c.if-reads_below.true)

pub returns-else-reads_below : goal.returns-else-reads_below
returns-else-reads_below g c y z p q =
    lesser_first g.row.W c.in-Within.x c.in-Within-other.y y z c.requires.least (sym c.in-Within.is ∙ p) (sym c.in-Within-other.is ∙ q)
    (sym c.reads_below.ensures ∙ c.if-reads_below.false)
