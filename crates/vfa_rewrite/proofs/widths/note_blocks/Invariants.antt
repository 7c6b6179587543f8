use Rattle.std.proofs.Common.{◌≡◌, ℕ, None, drop, length}
use Rattle.std.specs.Prelude.{slice_index_or}
use Rattle.std.specs.Option.{option_or}
use Rattle.vfa_mean.specs.Kept.{is_marked}
use Rattle.vfa_rules.specs.Uses.{first_found}
use Rattle.vfa_rewrite.specs.Chains.{itself}
use Rattle.vfa_rewrite.specs.Findings.{Findings}
use Rattle.vfa_rewrite.specs.Found.{AreKeptOf}
use Rattle.vfa_rewrite.specs.Making.{narrowed_width, width_within}
use Rattle.vfa_rewrite.specs.Rewritten.{with_numbers}
use Rattle.vfa_rewrite.proofs.widths.note_blocks.Given as goal

abbrev pub invariant-all : goal.invariant-all
invariant-all l = record {
  count : length l.widths.items ≡ length l.initial.widths.items;
  noted : (found : Findings) → AreKeptOf l.f found l.kept → (n : ℕ) →
      option_or (slice_index_or l.widths.items n None) (first_found itself (with_numbers (width_within found (is_marked l.reached) n) l.b (drop l.b l.f.blocks)))
      ≡ option_or (slice_index_or l.initial.widths.items n None) (narrowed_width l.f found (is_marked l.reached) n);
}
