use Rattle.vfa_check.proofs.Adding.{mapped_in_range}
use Rattle.vfa_check.proofs.results.add_parameters.Goals as goal

pub add-requires-clause-name : goal.add-requires-clause-name
add-requires-clause-name c =
    mapped_in_range (λ p. p.value.0) c.args.params.now c.params.param-index c.param-item.result _ c.args.row.now c.params.row c.params-test.true c.param-item.is
    c.requires.row c.params.invariant c.requires.names
