use Rattle.std.proofs.Common.{◌≡◌, ◌++◌, drop}
use Rattle.vfa_rewrite.proofs.PhisPut.{AllEntries}
use Rattle.vfa_rewrite.proofs.putting_phis.all_entries.Given as goal

abbrev pub invariant-each : goal.invariant-each
invariant-each l = l.all.items ++ AllEntries (drop l.phi-index l.phis) ≡ AllEntries l.phis
