use Rattle.std.proofs.Common.{◌∙◌, sym}
use Rattle.vfa_wrap.proofs.WholePlaceLaws.{within_tells, below_tells, above_tells, clamped_within, clamped_below, clamped_above}
use Rattle.vfa_wrap.proofs.places.Place.clamped.Goals as goal

pub returns-in-Within : goal.returns-in-Within
returns-in-Within g c z p =
    let t = within_tells c.args.reading g.row.W c.in-Within.number z (sym c.in-Within.is ∙ p) in
    t.1 ∙ clamped_within c.args.reading g.row.W z c.requires.least t.0

pub returns-in-Below : goal.returns-in-Below
returns-in-Below g c z p =
    let t = below_tells c.args.reading g.row.W z (sym c.in-Below.is ∙ p) in
    c.least_number.ensures ∙ clamped_below c.args.reading g.row.W z c.requires.least t.0 t.1

pub returns-in-Above : goal.returns-in-Above
returns-in-Above g c z p =
    let t = above_tells c.args.reading g.row.W z (sym c.in-Above.is ∙ p) in
    c.greatest_number.ensures ∙ clamped_above c.args.reading g.row.W z c.requires.least t.0 t.1
