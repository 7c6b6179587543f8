use Rattle.std.proofs.Common.{All, length, take}
use Rattle.vfa_demand.specs.Usable.{IsUsableInst}
use Rattle.vfa_demand.proofs.tests.are_usable.Given as goal

abbrev pub invariant-each : goal.invariant-each
invariant-each l = All (IsUsableInst l.f (length l.f.values)) (take l.inst-index l.insts)
