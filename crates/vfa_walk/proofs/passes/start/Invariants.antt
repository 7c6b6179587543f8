use Rattle.std.proofs.Common.{◌≡◌, ◌≤◌, ℕ, false, drop, length}
use Rattle.vfa_cond.specs.States.{known}
use Rattle.vfa_walk.specs.Analysis.{parameter_fact}
use Rattle.vfa_walk.specs.Kept.{IsStateOf}
use Rattle.vfa_walk.proofs.passes.start.Given as goal

abbrev pub invariant-params : goal.invariant-params
invariant-params g l = record {
  facts : (u : ℕ) → (known l.state).fact u ≡ parameter_fact g.V.Values.answers l.f (drop l.left l.params) u;
  live : (u : ℕ) → (known l.state).live u ≡ false;
  state : IsStateOf g.V.Values.ty g.V.Values.proper l.f l.state;
  within : l.left ≤ length l.params;
}

abbrev pub decreases-params : goal.decreases-params
decreases-params g l = l.left
