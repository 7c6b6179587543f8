use Rattle.std.proofs.Common.{flat_map, subst, sym, take, take_all, List, ap}
use Rattle.vfa_demand.specs.Masks.{ask_of}
use Rattle.vfa_demand.specs.Steps.{IsStep}
use Rattle.vfa_demand.proofs.Asking.{quiet_step, step_more}
use Rattle.vfa_demand.proofs.growing.Growing.ask_entries.Goals as goal

pub each-preserved : goal.each-preserved
each-preserved c = step_more (λ e. ask_of c.args.mask e.0) c.args.entries.now c.each.entry-index _ _ _ _ _ _ _ _ _ _ c.each-test.true c.each.invariant c.in_ok-ask.ensures
