use Rattle.std.proofs.Common.{◌≡◌, ℕ, length, Some}
use Rattle.std.specs.Prelude.{slice_get}
use Rattle.vfa_walk.specs.Kept.{kept_entries}
use Rattle.vfa_rewrite.specs.declared.found.BlockFindings.{BlockFindings}
use Rattle.vfa_rewrite.specs.ByFacts.{findings_of}
use Rattle.vfa_rewrite.specs.Found.{IsKeptOf}
use Rattle.vfa_rewrite.proofs.found.found_blocks.Given as goal

abbrev pub invariant-all : goal.invariant-all
invariant-all l = record {
  place : l.b ≡ l.block-index;
  count : length l.kept.items ≡ l.block-index;
  each : (b : ℕ) (kept : BlockFindings) → slice_get l.kept.items b ≡ Some kept → IsKeptOf l.f (findings_of l.f (kept_entries l.table)) b kept;
}
