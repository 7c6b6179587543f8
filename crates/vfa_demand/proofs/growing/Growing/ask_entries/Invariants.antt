use Rattle.std.proofs.Common.{flat_map, take}
use Rattle.vfa_demand.specs.Masks.{ask_of}
use Rattle.vfa_demand.specs.Steps.{IsStep}
use Rattle.vfa_demand.proofs.growing.Growing.ask_entries.Given as goal

abbrev pub invariant-each : goal.invariant-each
invariant-each l =
    IsStep (flat_map (λ e. ask_of l.mask e.0) (take l.entry-index l.entries))
    l.initial.self.bits.items l.self.bits.items l.initial.self.waits.items l.self.waits.items l.initial.self.ahead.items l.self.ahead.items
