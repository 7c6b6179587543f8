use Rattle.std.proofs.Common.{lit<}
use Rattle.vfa_fact.specs.Views.{numbers_of}
use Rattle.vfa_wrap.specs.Ends.{shown_ends}
use Rattle.vfa_xfer.specs.Binary.{ends_in_numbers}
use Rattle.vfa_xfer.proofs.RowValues.{unflagged_keeps, shift_ends}
use Rattle.vfa_xfer.proofs.binary.facts_keep_in_range.Goals as goal

pub returns-then-not-flags-2 : goal.returns-then-not-flags-2
returns-then-not-flags-2 g c =
    unflagged_keeps c.args.op c.args.flags g.row.W (ends_in_numbers g.row.W (numbers_of c.args.a.now)) (ends_in_numbers g.row.W (numbers_of c.args.b.now)) c.if-not-flags.true c.if-not-flags-2.true

pub keeps_in_range-requires : goal.keeps_in_range-requires
keeps_in_range-requires g c = (
  lit< tt,
  (
    c.requires.width,
    (
      c.fact_ends.ensures.reached,
      shift_ends c.args.op g.row.W (ends_in_numbers g.row.W (numbers_of c.args.b.now)) (shown_ends c.fact_ends-2.result) c.fact_ends-2.ensures.value c.requires.amounts c.fact_ends-2.ensures.reached,
    ),
  ),
)
