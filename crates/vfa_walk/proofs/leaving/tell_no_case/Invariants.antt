use Rattle.std.proofs.Common.{◌≡◌, drop}
use Rattle.vfa_cond.specs.States.{known}
use Rattle.vfa_walk.specs.Kept.{IsStateOf}
use Rattle.vfa_walk.specs.Leaving.{told_no_case}
use Rattle.vfa_walk.proofs.leaving.tell_no_case.Given as goal

abbrev pub invariant-cases : goal.invariant-cases
invariant-cases g l = record {
  rest : told_no_case g.V.Values.answers l.f l.on l.width l.cases (known l.initial.state) ≡ told_no_case g.V.Values.answers l.f l.on l.width (drop l.case-index l.cases) (known l.state);
  state : IsStateOf g.V.Values.ty g.V.Values.proper l.f l.state;
}
