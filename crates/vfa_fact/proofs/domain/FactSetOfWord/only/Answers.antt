use Rattle.std.proofs.Common.{ap}
use Rattle.vfa_wrap.specs.Arc.{Span}
use Rattle.vfa_fact.specs.declared.numbers.Numbers.{Numbers}
use Rattle.vfa_fact.proofs.Facts.{numbers_from, numbers_parts}
use Rattle.vfa_fact.proofs.FactSets.{whole_fact}
use Rattle.vfa_fact.proofs.domain.FactSetOfWord.only.Goals as goal

pub invariant_of-result : goal.invariant_of-result
invariant_of-result g c = let known = c.only.result in let arc = c.only-2.result in record {
  sharp = whole_fact g.row.W (record { zeros = known.zeros; ones = known.ones; first = arc.first; last = arc.last }) known.cube arc.arc
      (λ x member. (c.only-2.ensures.alone x).1 ((c.only.ensures.alone x).0 member))
      ((c.only.ensures.alone arc.first).1 (ap (λ (s : Span). s.first) c.only-2.ensures.span))
      ((c.only.ensures.alone arc.last).1 (ap (λ (s : Span). s.last) c.only-2.ensures.span));
}

pub returns-clause-alone : goal.returns-clause-alone
returns-clause-alone g c y = let known = c.only.result in let arc = c.only-2.result in
    let n : Numbers = record { zeros = known.zeros; ones = known.ones; first = arc.first; last = arc.last } in (
      λ member. (c.only.ensures.alone y).0 ((numbers_parts g.row.W n y member).0),
      λ same. numbers_from g.row.W n y ((c.only.ensures.alone y).1 same) ((c.only-2.ensures.alone y).1 same),
    )
