use Rattle.std.proofs.Common.{take}
use Rattle.vfa_demand.specs.Reach.{AreTaken}
use Rattle.vfa_demand.proofs.reach.Search.take_each.Given as goal

abbrev pub invariant-each : goal.invariant-each
invariant-each l =
    AreTaken (take l.number-index l.numbers) l.initial.self.marks.items l.self.marks.items l.initial.self.ahead.items l.self.ahead.items
