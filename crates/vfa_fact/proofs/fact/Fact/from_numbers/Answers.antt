use Rattle.std.proofs.Common.{sym, subst}
use Rattle.vfa_fact.specs.Fact.{IsFact}
use Rattle.vfa_fact.proofs.Facts.{none_tells, fact_cube, made_again}
use Rattle.vfa_fact.proofs.fact.Fact.from_numbers.Goals as goal

pub unreachable-requires : goal.unreachable-requires
unreachable-requires g c =
    none_tells c.new.result _ _ c.new.ensures c.in_default.is (fact_cube g.row.W c.args.numbers.now c.requires.fact)

pub returns : goal.returns
returns g c =
    made_again g.row.W c.in-Some.known.zeros c.in-Some.known.ones c.new-arc.result.first c.new-arc.result.last c.cut.result c.cut-2.result c.args.numbers.now
    c.requires.fact.arc c.in-Some.ensures c.new-arc.ensures c.cut.ensures c.cut-2.ensures

pub invariant_of-result : goal.invariant_of-result
invariant_of-result g c = record {
  sharp = subst (IsFact g.row.W) (sym (made_again g.row.W c.in-Some.known.zeros c.in-Some.known.ones c.new-arc.result.first c.new-arc.result.last c.cut.result c.cut-2.result c.args.numbers.now
      c.requires.fact.arc c.in-Some.ensures c.new-arc.ensures c.cut.ensures c.cut-2.ensures)) c.requires.fact;
}
