use Rattle.vfa_walk.specs.Kept.{kept_entries}
use Rattle.vfa_solve.proofs.solving.solve.Goals as goal

pub returns-clause-is_true : goal.returns-clause-is_true
returns-clause-is_true g c =
    c.table_is_true.ensures.is_true c.args.f.now (kept_entries c.in_ok-table.table) c.was_checked.ensures.checked c.was_checked.ensures.printable c.in_ok-table.ensures.table

pub returns-clause-typed : goal.returns-clause-typed
returns-clause-typed g c =
    c.table_is_true.ensures.typed c.args.f.now (kept_entries c.in_ok-table.table) c.was_checked.ensures.checked c.was_checked.ensures.printable c.in_ok-table.ensures.table

pub returns-clause-shape : goal.returns-clause-shape
returns-clause-shape g c l is =
    c.table_has_shape.ensures.shape c.args.f.now l (kept_entries c.in_ok-table.table) c.was_checked.ensures.checked c.was_checked.ensures.printable is c.in_ok-table.ensures.table
