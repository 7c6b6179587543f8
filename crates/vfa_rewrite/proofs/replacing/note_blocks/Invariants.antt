use Rattle.std.proofs.Common.{◌≡◌, ℕ, None, drop, length}
use Rattle.std.specs.Prelude.{slice_index_or}
use Rattle.std.specs.Option.{option_or}
use Rattle.vfa_rules.specs.Uses.{first_found}
use Rattle.vfa_rewrite.specs.Chains.{itself, other_for, other_within}
use Rattle.vfa_rewrite.specs.Findings.{Findings}
use Rattle.vfa_rewrite.specs.Found.{AreKeptOf}
use Rattle.vfa_rewrite.specs.Rewritten.{with_numbers}
use Rattle.vfa_rewrite.proofs.replacing.note_blocks.Given as goal

abbrev pub invariant-all : goal.invariant-all
invariant-all l = record {
  count : length l.others.items ≡ length l.initial.others.items;
  noted : (found : Findings) → AreKeptOf l.f found l.kept → (n : ℕ) →
      option_or (slice_index_or l.others.items n None) (first_found itself (with_numbers (other_within found n) l.b (drop l.b l.f.blocks)))
      ≡ option_or (slice_index_or l.initial.others.items n None) (other_for l.f found n);
}
