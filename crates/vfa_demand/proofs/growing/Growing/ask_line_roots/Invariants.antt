use Rattle.std.proofs.Common.{flat_map, take}
use Rattle.vfa_demand.specs.Steps.{IsStep, root_asks}
use Rattle.vfa_demand.proofs.growing.Growing.ask_line_roots.Given as goal

abbrev pub invariant-each : goal.invariant-each
invariant-each l =
    IsStep (flat_map (root_asks l.f) (take l.inst-index l.insts))
    l.initial.self.bits.items l.self.bits.items l.initial.self.waits.items l.self.waits.items l.initial.self.ahead.items l.self.ahead.items
