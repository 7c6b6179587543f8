use Rattle.vfa_demand.specs.Definitions.{IsMore}
use Rattle.vfa_demand.proofs.PutDefinitions.{PhisPutBelow}
use Rattle.vfa_demand.proofs.definitions.put_phis.Given as goal

abbrev pub invariant-each : goal.invariant-each
invariant-each l = IsMore l.initial.all.items l.all.items × PhisPutBelow l.block l.phis l.place l.all.items
