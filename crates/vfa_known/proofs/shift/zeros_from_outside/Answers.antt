use Rattle.std.proofs.Common.{◌∙◌, ap, sym}
use Rattle.vfa_known.specs.Shift.{zeros_from_outside}
use Rattle.vfa_known.proofs.Places.{upper_places}
use Rattle.vfa_known.proofs.shift.zeros_from_outside.Goals as goal

pub returns-in-Logical : goal.returns-in-Logical
returns-in-Logical g c =
    upper_places c.most-most.result g.row.W c.args.amount c.most-most.ensures c.requires.below
    ∙ ap (λ shift. zeros_from_outside shift g.row.W c.args.amount) (sym c.in-Logical.is)
