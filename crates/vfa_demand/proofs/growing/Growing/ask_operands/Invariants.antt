use Rattle.vfa_demand.specs.Steps.{IsStep, asks_below, place_asks}
use Rattle.vfa_demand.proofs.growing.Growing.ask_operands.Given as goal

abbrev pub invariant-each : goal.invariant-each
invariant-each l =
    IsStep (asks_below (λ k. place_asks l.f l.op k l.mask) l.place)
    l.initial.self.bits.items l.self.bits.items l.initial.self.waits.items l.self.waits.items l.initial.self.ahead.items l.self.ahead.items
