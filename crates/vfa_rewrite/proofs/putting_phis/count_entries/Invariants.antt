use Rattle.std.proofs.Common.{◌≡◌, length}
use Rattle.vfa_mean.specs.Kept.{is_marked}
use Rattle.vfa_rewrite.specs.Findings.{Findings}
use Rattle.vfa_rewrite.specs.Found.{AreKeptOf}
use Rattle.vfa_rewrite.specs.Making.{first_marks}
use Rattle.vfa_rewrite.specs.Rewritten.{edges_of}
use Rattle.vfa_rewrite.proofs.PhisPut.{AreCounted}
use Rattle.vfa_rewrite.proofs.putting_phis.count_entries.Given as goal

abbrev pub invariant-each : goal.invariant-each
invariant-each l = record {
  count : length l.left.items ≡ length l.initial.left.items;
  counted : (found : Findings) → AreKeptOf l.f found l.kept →
      AreCounted (edges_of l.f (first_marks l.f found (is_marked l.reached)) l.to.0) l.entries l.entry-index l.left.items;
}
