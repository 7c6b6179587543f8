use Rattle.vfa_walk.specs.Kept.{kept_entries}
use Rattle.vfa_rewrite.specs.ByFacts.{findings_of}
use Rattle.vfa_rewrite.specs.Putting.{entry_put}
use Rattle.vfa_rewrite.proofs.EntriesPut.{AreDone}
use Rattle.vfa_rewrite.proofs.putting_phis.put_entries.Given as goal

abbrev pub invariant-each : goal.invariant-each
invariant-each l = AreDone (entry_put l.f (findings_of l.f (kept_entries l.table)) l.to.0) l.entries l.k l.all.items
