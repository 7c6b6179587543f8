use Rattle.std.proofs.Common.{◌≡◌, ℕ, None, drop, length}
use Rattle.std.specs.Prelude.{slice_index_or}
use Rattle.std.specs.Option.{option_or}
use Rattle.vfa_rules.specs.Uses.{first_found}
use Rattle.vfa_rewrite.specs.Chains.{itself}
use Rattle.vfa_rewrite.specs.Findings.{Findings}
use Rattle.vfa_rewrite.specs.Making.{width_in}
use Rattle.vfa_rewrite.specs.Replacing.{AreKeptLines}
use Rattle.vfa_rewrite.specs.Rewritten.{with_numbers}
use Rattle.vfa_rewrite.proofs.widths.note_lines.Given as goal

abbrev pub invariant-each : goal.invariant-each
invariant-each l = record {
  count : length l.widths.items ≡ length l.initial.widths.items;
  noted : (found : Findings) (b : ℕ) → AreKeptLines found b l.insts l.lines → (n : ℕ) →
      option_or (slice_index_or l.widths.items n None) (first_found itself (with_numbers (width_in found n b) l.i (drop l.i l.insts)))
      ≡ option_or (slice_index_or l.initial.widths.items n None) (first_found itself (with_numbers (width_in found n b) 0 l.insts));
}
