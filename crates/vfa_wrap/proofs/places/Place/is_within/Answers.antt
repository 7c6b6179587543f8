use Rattle.std.proofs.Common.{◌∙◌, sym}
use Rattle.vfa_wrap.proofs.WholePlaceLaws.{is_within_tells, not_within}
use Rattle.vfa_wrap.proofs.places.Place.is_within.Goals as goal

pub returns-in-Within : goal.returns-in-Within
returns-in-Within g c z p = is_within_tells c.args.reading g.row.W _ z (sym c.in-Within.is ∙ p)

pub returns-in_default : goal.returns-in_default
returns-in_default g c z p = not_within c.args.reading g.row.W z c.args.self (λ n e. c.in_default.not-Within n e) p
