use Rattle.std.proofs.Common.{flat_map, take}
use Rattle.vfa_demand.specs.Steps.{IsStep, block_root_asks}
use Rattle.vfa_demand.proofs.growing.Growing.ask_roots.Given as goal

abbrev pub invariant-each : goal.invariant-each
invariant-each l =
    IsStep (flat_map (block_root_asks l.f) (take l.block-index l.blocks))
    l.initial.self.bits.items l.self.bits.items l.initial.self.waits.items l.self.waits.items l.initial.self.ahead.items l.self.ahead.items
