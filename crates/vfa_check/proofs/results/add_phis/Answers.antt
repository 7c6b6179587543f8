use Rattle.vfa_check.proofs.Adding.{mapped_in_range}
use Rattle.vfa_check.proofs.results.add_phis.Goals as goal

pub add-requires-clause-name : goal.add-requires-clause-name
add-requires-clause-name c =
    mapped_in_range (λ p. p.result.0) c.args.phis.now c.phis.phi-index c.phi-item.result _ c.args.row.now c.phis.row c.phis-test.true c.phi-item.is
    c.requires.row c.phis.invariant c.requires.names
