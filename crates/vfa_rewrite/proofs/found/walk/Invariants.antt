use Rattle.vfa_walk.specs.Kept.{kept_entries}
use Rattle.vfa_rewrite.proofs.Goings.{IsGoing}
use Rattle.vfa_rewrite.proofs.found.walk.Given as goal

abbrev pub invariant-lines : goal.invariant-lines
invariant-lines l = IsGoing l.f (kept_entries l.table) l.fn.b l.inst-index l.cursor l.lines.items
