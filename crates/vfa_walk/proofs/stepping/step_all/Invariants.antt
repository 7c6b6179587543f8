use Rattle.std.proofs.Common.{◌≡◌, drop}
use Rattle.vfa_cond.specs.States.{known}
use Rattle.vfa_walk.specs.Kept.{IsStateOf}
use Rattle.vfa_walk.specs.Stepping.{after_insts}
use Rattle.vfa_walk.proofs.stepping.step_all.Given as goal

-- what is left makes of the state what all make of the first one
abbrev pub invariant-insts : goal.invariant-insts
invariant-insts g l = record {
  rest : after_insts g.V.Values.answers l.f l.insts (known l.initial.state) ≡ after_insts g.V.Values.answers l.f (drop l.inst-index l.insts) (known l.state);
  state : IsStateOf g.V.Values.ty g.V.Values.proper l.f l.state;
}
