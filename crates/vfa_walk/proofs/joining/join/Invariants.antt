use Rattle.std.proofs.Common.{◌≤◌, length}
use Rattle.vfa_cond.specs.States.{known}
use Rattle.vfa_walk.specs.Joining.{joined}
use Rattle.vfa_walk.specs.Kept.{IsStateOf}
use Rattle.vfa_walk.proofs.Over.{IsTakenFrom}
use Rattle.vfa_walk.proofs.joining.join.Given as goal

abbrev pub invariant-names : goal.invariant-names
invariant-names g l = record {
  taken : IsTakenFrom l.v (known l.state) (known l.initial.state) (joined g.V.Values.answers (known l.initial.state) (known l.other));
  state : IsStateOf g.V.Values.ty g.V.Values.proper l.f l.state;
  within : l.v ≤ length l.f.values;
}
