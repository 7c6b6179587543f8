use Rattle.vfa_demand.specs.Definitions.{IsMore}
use Rattle.vfa_demand.proofs.PutDefinitions.{BlocksPutBelow}
use Rattle.vfa_demand.proofs.definitions.put_blocks.Given as goal

abbrev pub invariant-each : goal.invariant-each
invariant-each l = IsMore l.initial.all.items l.all.items × BlocksPutBelow l.blocks l.number l.all.items
