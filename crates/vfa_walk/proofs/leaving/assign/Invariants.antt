use Rattle.std.proofs.Common.{◌≡◌, drop}
use Rattle.vfa_cond.specs.States.{known}
use Rattle.vfa_walk.specs.Kept.{IsStateOf}
use Rattle.vfa_walk.specs.Leaving.{assigned}
use Rattle.vfa_walk.proofs.leaving.assign.Given as goal

abbrev pub invariant-phis : goal.invariant-phis
invariant-phis g l = record {
  rest : assigned g.V.Values.answers l.f l.from.0 (known l.before) l.phis (known l.initial.state) ≡ assigned g.V.Values.answers l.f l.from.0 (known l.before) (drop l.phi-index l.phis) (known l.state);
  state : IsStateOf g.V.Values.ty g.V.Values.proper l.f l.state;
}
