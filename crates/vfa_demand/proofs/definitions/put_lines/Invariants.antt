use Rattle.vfa_demand.specs.Definitions.{IsMore}
use Rattle.vfa_demand.proofs.PutDefinitions.{LinesPutBelow}
use Rattle.vfa_demand.proofs.definitions.put_lines.Given as goal

abbrev pub invariant-each : goal.invariant-each
invariant-each l = IsMore l.initial.all.items l.all.items × LinesPutBelow l.block l.insts l.place l.all.items
