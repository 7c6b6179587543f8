use Rattle.std.proofs.Common.{arith}
use Rattle.vfa_wrap.proofs.Circle.{from_all, from_part, part_is_arc}
use Rattle.vfa_wrap.proofs.arc.Wrapped.reaching.Goals as goal

pub returns-then-count-most : goal.returns-then-count-most
returns-then-count-most g c =
    from_all g.row.W c.args.first c.args.count c.requires.first_fits (omega arith)

pub invariant_of-result-2 : goal.invariant_of-result-2
invariant_of-result-2 g c = record {
  arc = part_is_arc g.row.W c.args.first c.args.count c.number_ahead.result c.requires.first_fits c.requires.count_fits (λ e. omega arith) c.number_ahead.ensures.value;
  width = c.requires.width;
}

pub returns : goal.returns
returns g c =
    from_part g.row.W c.args.first c.args.count c.number_ahead.result c.requires.first_fits c.requires.count_fits (λ e. omega arith) c.number_ahead.ensures.value
