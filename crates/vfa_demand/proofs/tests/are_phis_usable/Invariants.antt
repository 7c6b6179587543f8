use Rattle.std.proofs.Common.{All, take}
use Rattle.vfa_demand.specs.Usable.{IsUsablePhi}
use Rattle.vfa_demand.proofs.tests.are_phis_usable.Given as goal

abbrev pub invariant-each : goal.invariant-each
invariant-each l = All (IsUsablePhi l.count) (take l.phi-index l.phis)
