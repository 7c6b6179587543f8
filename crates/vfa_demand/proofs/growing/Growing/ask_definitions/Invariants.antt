use Rattle.std.proofs.Common.{◌≤◌, drop}
use Rattle.vfa_demand.specs.Steps.{IsSearched, left_of}
use Rattle.vfa_demand.proofs.growing.Growing.ask_definitions.Given as goal

abbrev pub invariant-each : goal.invariant-each
invariant-each l = IsSearched l.f (drop l.definition-index l.definitions) l.self.bits.items l.self.waits.items l.self.ahead.items
    × (left_of l.self.bits.items l.self.ahead.items ≤ left_of l.initial.self.bits.items l.initial.self.ahead.items)
