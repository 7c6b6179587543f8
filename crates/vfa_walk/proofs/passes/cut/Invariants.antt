use Rattle.std.proofs.Common.{◌≤◌, ℕ, Bool, length}
use Rattle.vfa_cond.specs.States.{known}
use Rattle.vfa_walk.specs.Joining.{kept_names}
use Rattle.vfa_walk.specs.Kept.{IsStateOf}
use Rattle.vfa_walk.specs.Sending.{IsScopeAt}
use Rattle.vfa_walk.proofs.Over.{IsTakenFrom}
use Rattle.vfa_walk.proofs.passes.cut.Given as goal

abbrev pub invariant-names : goal.invariant-names
invariant-names g l = record {
  taken : (names : ℕ → Bool) → IsScopeAt l.f l.b.0 names → IsTakenFrom l.v (known l.state) (known l.initial.state) (kept_names names (known l.initial.state));
  state : IsStateOf g.V.Values.ty g.V.Values.proper l.f l.state;
  within : l.v ≤ length l.f.values;
}
