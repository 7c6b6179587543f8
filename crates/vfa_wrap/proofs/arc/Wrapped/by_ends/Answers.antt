use Rattle.vfa_wrap.specs.Wrapped.{span_of}
use Rattle.vfa_wrap.proofs.RowsWhole.{same_row_holds, same_row_empty}
use Rattle.vfa_wrap.proofs.arc.Wrapped.by_ends.Goals as goal

pub returns-clause-holds : goal.returns-clause-holds
returns-clause-holds g c =
    same_row_holds _ _ _ _ _ c.requires.width c.requires.left c.requires.right c.row.ensures

pub returns-clause-none : goal.returns-clause-none
returns-clause-none g c =
    same_row_empty _ _ _ _ c.row.result (span_of {W = g.row.W}) c.requires.width c.requires.right c.row.ensures
