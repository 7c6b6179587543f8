use Rattle.std.proofs.Common.{◌≡◌, ◌++◌, drop}
use Rattle.vfa_mean.specs.Kept.{inst_call_places}
use Rattle.vfa_mean.proofs.kept.push_calls.Given as goal

abbrev pub invariant-each : goal.invariant-each
invariant-each l =
    l.initial.calls.items ++ inst_call_places l.insts ≡ l.calls.items ++ inst_call_places (drop l.inst-index l.insts)
