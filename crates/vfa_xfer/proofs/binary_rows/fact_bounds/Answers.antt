use Rattle.std.proofs.Common.{◌∙◌, ap, Some, lit<}
use Rattle.vfa_fact.specs.Views.{numbers_of}
use Rattle.vfa_wrap.specs.Ends.{shown_ends}
use Rattle.vfa_xfer.specs.Binary.{ends_in_numbers}
use Rattle.vfa_xfer.proofs.RowValues.{unflagged, operand_ends}
use Rattle.vfa_xfer.proofs.binary_rows.fact_bounds.Goals as goal

pub returns-then-not-flags-2 : goal.returns-then-not-flags-2
returns-then-not-flags-2 g c =
    ap Some c.none.ensures
    ∙ unflagged c.args.op c.args.flags g.row.W (ends_in_numbers g.row.W (numbers_of c.args.a.now)) (ends_in_numbers g.row.W (numbers_of c.args.b.now)) c.if-not-flags.true c.if-not-flags-2.true

pub wrap_bounds-requires : goal.wrap_bounds-requires
wrap_bounds-requires g c = (
  lit< tt,
  (
    lit< tt,
    (
      c.requires.width,
      (
        c.fact_ends.ensures.reached,
        operand_ends c.args.op g.row.W (shown_ends c.fact_ends-2.result) c.requires.no_shift c.fact_ends-2.ensures.reached,
      ),
    ),
  ),
)
