use Rattle.std.proofs.Common.{◌≡◌, ◌++◌, drop}
use Rattle.vfa_rewrite.specs.Expanding.{must_of}
use Rattle.vfa_rewrite.specs.Rewritten.{with_numbers}
use Rattle.vfa_rewrite.proofs.staying.musts_in.Given as goal

abbrev pub invariant-each : goal.invariant-each
invariant-each l = l.must.items ++ with_numbers (must_of l.lines) l.i (drop l.i l.insts) ≡ with_numbers (must_of l.lines) 0 l.insts
