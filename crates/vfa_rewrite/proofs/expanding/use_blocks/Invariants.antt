use Rattle.std.proofs.Common.{◌≡◌, ◌++◌, drop, length, take}
use Rattle.vfa_mean.specs.Kept.{is_marked}
use Rattle.vfa_rewrite.specs.Expanding.{used_block_at}
use Rattle.vfa_rewrite.specs.Rewritten.{with_numbers}
use Rattle.vfa_rewrite.proofs.expanding.use_blocks.Given as goal

abbrev pub invariant-all : goal.invariant-all
invariant-all l = record {
  count : length l.put.items ≡ length l.initial.put.items;
  made : take l.b l.put.items ++ with_numbers (used_block_at l.f l.kept (is_marked l.used)) l.b (drop l.b l.put.items)
      ≡ with_numbers (used_block_at l.f l.kept (is_marked l.used)) 0 l.initial.put.items;
}
