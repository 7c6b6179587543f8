use Rattle.std.proofs.Common.{◌≡◌, ◌<◌, ◌≤◌, ◌-◌, ℕ, if◌then◌else◌, length, take}
use Rattle.vfa_ir.specs.Walks.{is_in, successors}
use Rattle.vfa_cond.specs.States.{known}
use Rattle.vfa_walk.specs.Joining.{joined}
use Rattle.vfa_walk.specs.Kept.{AreStates, kept_entries}
use Rattle.vfa_walk.specs.Passes.{merged}
use Rattle.vfa_walk.specs.Sending.{entered}
use Rattle.vfa_walk.proofs.handing.hand_chains.Given as goal

abbrev pub invariant-edges : goal.invariant-edges
invariant-edges g l = record {
  given : (b : ℕ) → b < length l.initial.got → kept_entries l.got b
      ≡ (if is_in b (take l.k (successors l.f l.from.0)) then merged (joined g.V.Values.answers) (kept_entries l.initial.got b) (entered g.V.Values.answers l.f l.from.0 b (known l.end)) else kept_entries l.initial.got b);
  states : AreStates g.V.Values.ty g.V.Values.proper l.f l.got;
  count : length l.got ≡ length l.initial.got;
  within : l.k ≤ length (successors l.f l.from.0);
}

abbrev pub decreases-edges : goal.decreases-edges
decreases-edges g l = length (successors l.f l.from.0) - l.k
