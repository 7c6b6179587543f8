use Rattle.vfa_known.specs.Cube.{in_masks_fits}
use Rattle.vfa_known.specs.Known.{masks_of}
use Rattle.vfa_fact.proofs.Facts.{numbers_from}
use Rattle.vfa_fact.proofs.FactSets.{whole_fact}
use Rattle.vfa_fact.proofs.domain.FactDomain.any.Goals as goal

pub invariant_of-result : goal.invariant_of-result
invariant_of-result g c = let known = c.any.result in let arc = c.any-2.result in record {
  sharp = whole_fact g.row.W (record { zeros = known.zeros; ones = known.ones; first = arc.first; last = arc.last }) known.cube arc.arc
      (λ x member. c.any-2.ensures.all x (in_masks_fits g.row.W (masks_of known) x member))
      (c.any.ensures.all arc.first arc.arc.first_fits) (c.any.ensures.all arc.last arc.arc.last_fits);
}

pub returns-clause-all : goal.returns-clause-all
returns-clause-all g c x fits = let known = c.any.result in let arc = c.any-2.result in
    numbers_from g.row.W (record { zeros = known.zeros; ones = known.ones; first = arc.first; last = arc.last }) x (c.any.ensures.all x fits) (c.any-2.ensures.all x fits)
