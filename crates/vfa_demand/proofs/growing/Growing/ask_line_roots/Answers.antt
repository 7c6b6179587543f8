use Rattle.std.proofs.Common.{flat_map, subst, sym, take, take_all, List, ap}
use Rattle.vfa_demand.specs.Steps.{root_asks}
use Rattle.vfa_demand.specs.Steps.{IsStep}
use Rattle.vfa_demand.proofs.Asking.{quiet_step, step_more}
use Rattle.vfa_demand.proofs.growing.Growing.ask_line_roots.Goals as goal

pub each-preserved : goal.each-preserved
each-preserved c = step_more (root_asks c.args.f.now) c.args.insts.now c.each.inst-index _ _ _ _ _ _ _ _ _ _ c.each-test.true c.each.invariant c.in_ok-ask_root.ensures
