use Rattle.std.proofs.Common.{◌≡◌, ◌+◌, ◌++◌, drop, length, map}
use Rattle.vfa_mean.specs.Kept.{is_marked}
use Rattle.vfa_rewrite.specs.Findings.{Findings}
use Rattle.vfa_rewrite.specs.Found.{AreKeptOf}
use Rattle.vfa_rewrite.specs.Making.{first_marks}
use Rattle.vfa_rewrite.specs.Putting.{entry_put}
use Rattle.vfa_rewrite.specs.Rewritten.{kept_phis}
use Rattle.vfa_rewrite.proofs.PhisPut.{AllEntries}
use Rattle.vfa_rewrite.proofs.putting_phis.kept_phis.Given as goal

abbrev pub invariant-each : goal.invariant-each
invariant-each l = record {
  count : length l.left.items ≡ length l.initial.left.items;
  place : l.at + length (AllEntries (drop l.phi-index l.phis)) ≡ length l.put;
  own : (found : Findings) → l.put ≡ map (entry_put l.f found l.to.0) (AllEntries l.phis) →
      drop l.at l.put ≡ map (entry_put l.f found l.to.0) (AllEntries (drop l.phi-index l.phis));
  kept : (found : Findings) → AreKeptOf l.f found l.kept → l.put ≡ map (entry_put l.f found l.to.0) (AllEntries l.phis) →
      l.all.items ++ kept_phis l.f (first_marks l.f found (is_marked l.reached)) l.to.0 (drop l.phi-index l.phis)
      ≡ kept_phis l.f (first_marks l.f found (is_marked l.reached)) l.to.0 l.phis;
}
