use Rattle.std.proofs.Common.{◌≡◌, ◌++◌, ℕ, None, drop, length}
use Rattle.std.specs.Prelude.{slice_index_or}
use Rattle.std.specs.Option.{option_or}
use Rattle.vfa_mean.specs.Kept.{is_marked}
use Rattle.vfa_rules.specs.Uses.{first_found}
use Rattle.vfa_walk.specs.Kept.{kept_entries}
use Rattle.vfa_rewrite.specs.ByFacts.{findings_of}
use Rattle.vfa_rewrite.specs.Chains.{itself}
use Rattle.vfa_rewrite.specs.Making.{first_marks}
use Rattle.vfa_rewrite.specs.Putting.{call_within}
use Rattle.vfa_rewrite.specs.Rewritten.{block_left, with_numbers}
use Rattle.vfa_rewrite.proofs.putting.put_blocks.Given as goal

abbrev pub invariant-all : goal.invariant-all
invariant-all l = record {
  place : l.b ≡ l.block-index;
  room : length l.left.items ≡ length l.f.blocks;
  count : length l.calls.items ≡ length l.f.calls;
  blocks : l.all.items ++ with_numbers (block_left l.f (first_marks l.f (findings_of l.f (kept_entries l.table)) (is_marked l.reached))) l.block-index (drop l.block-index l.f.blocks)
      ≡ with_numbers (block_left l.f (first_marks l.f (findings_of l.f (kept_entries l.table)) (is_marked l.reached))) 0 l.f.blocks;
  made : (k : ℕ) → option_or (slice_index_or l.calls.items k None)
      (first_found itself (with_numbers (call_within l.f (findings_of l.f (kept_entries l.table)) (is_marked l.reached) k) l.block-index (drop l.block-index l.f.blocks)))
      ≡ first_found itself (with_numbers (call_within l.f (findings_of l.f (kept_entries l.table)) (is_marked l.reached) k) 0 l.f.blocks);
}
