use Rattle.std.proofs.Common.{◌≡◌, map, take}
use Rattle.vfa_rewrite.specs.Putting.{put_or_poison}
use Rattle.vfa_rewrite.proofs.putting_phis.operands_put.Given as goal

abbrev pub invariant-each : goal.invariant-each
invariant-each l = l.operands.items ≡ map put_or_poison (take l.operand-index l.all)
