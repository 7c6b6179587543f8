use Rattle.std.proofs.Common.{arith}
use Rattle.vfa_demand.proofs.PutDefinitions.{at_within, phis_further}
use Rattle.vfa_demand.proofs.definitions.put_phis.Goals as goal

pub each-preserved : goal.each-preserved
each-preserved c =
    phis_further c.args.block c.args.phis.now c.each.place c.index-phis-place.result _ _ _ c.index-phis-place.is c.each.invariant c.in_ok-put.ensures

pub returns-clause-put : goal.returns-clause-put
returns-clause-put c = λ j p at. c.each.invariant.1 j (omega (arith, at_within c.args.phis.now j p at, c.each-test.false)) p at
