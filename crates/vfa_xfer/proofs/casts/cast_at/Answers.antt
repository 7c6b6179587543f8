use Rattle.std.proofs.Common.{◌∙◌, ap, sym}
use Rattle.vfa_fact.specs.CellCuts.{shown_cell_ends, cell_ends}
use Rattle.vfa_fact.specs.Cells.{CellValue}
use Rattle.vfa_xfer.specs.Casts.{cast_cell}
use Rattle.vfa_xfer.proofs.CastRows.{cast_at_is}
use Rattle.vfa_xfer.proofs.casts.cast_at.Goals as goal

pub returns : goal.returns
returns g c =
    let v : CellValue = record { width = c.a.inside.width; numbers = c.a.inside.numbers; never_poison = c.a.inside.never_poison } in
    c.cast_numbers.ensures
    ∙ cast_at_is c.args.cast c.args.flags g.row.W v c.in-Some.numbers (shown_cell_ends c.args.ends.now) c.in-Some.is (c.requires.ends ∙ ap cell_ends (sym c.a.view_is))
    ∙ ap (cast_cell c.args.cast c.args.flags g.row.W) c.a.view_is
