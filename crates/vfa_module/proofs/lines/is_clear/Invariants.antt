use Rattle.std.proofs.Common.{◌≡◌, drop}
use Rattle.vfa_module.specs.Split as spec
use Rattle.vfa_module.proofs.lines.is_clear.Given as goal

abbrev pub invariant-loop-b : goal.invariant-loop-b
invariant-loop-b l = spec.is_clear l.bytes ≡ spec.is_clear (drop l.b-index l.bytes)
