use Rattle.std.proofs.Common.{◌≡◌, ◌++◌, drop}
use Rattle.vfa_mean.specs.Kept.{is_marked}
use Rattle.vfa_rewrite.specs.Expanding.{used_lines}
use Rattle.vfa_rewrite.proofs.expanding.used_lines.Given as goal

abbrev pub invariant-each : goal.invariant-each
invariant-each l = l.lines.items ++ used_lines l.f (is_marked l.used) l.insts l.found l.i (drop l.i l.put) ≡ used_lines l.f (is_marked l.used) l.insts l.found 0 l.put
