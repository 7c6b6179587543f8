use Rattle.std.proofs.Common.{◌≡◌, length}
use Rattle.vfa_values.specs.Constants.{constant_type, IsConstant}
use Rattle.vfa_cond.specs.Conditions.{AreFacts}
use Rattle.vfa_cond.specs.States.{known, name_count, IsRoomy}
use Rattle.vfa_cond.proofs.tests.state.Given as goal

abbrev pub invariant-facts : goal.invariant-facts
invariant-facts l = record {
  names : name_count l.state ≡ length l.f.values;
  room : IsRoomy l.state;
  facts : AreFacts constant_type IsConstant l.f (known l.state);
}

abbrev pub invariant-live : goal.invariant-live
invariant-live l = record {
  names : name_count l.state ≡ length l.f.values;
  facts : AreFacts constant_type IsConstant l.f (known l.state);
}
