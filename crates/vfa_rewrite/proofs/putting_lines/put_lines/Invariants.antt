use Rattle.vfa_walk.specs.Kept.{kept_entries}
use Rattle.vfa_rewrite.proofs.LinesPut.{IsPut}
use Rattle.vfa_rewrite.proofs.putting_lines.put_lines.Given as goal

abbrev pub invariant-lines : goal.invariant-lines
invariant-lines l = IsPut l.f (kept_entries l.table) l.fn.b l.all l.initial.calls.items l.calls.items l.i l.cursor l.insts.items
