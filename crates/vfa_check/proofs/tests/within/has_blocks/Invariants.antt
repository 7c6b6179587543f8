use Rattle.std.proofs.Common.{◌<◌, ◌≤◌, ◌+◌, ◌^◌, length, take, All}
use Rattle.vfa_ir.specs.PhisFit.{targets}
use Rattle.vfa_ir.specs.Printable.{block_ids}
use Rattle.vfa_check.proofs.tests.within.has_blocks.Given as goal

abbrev pub invariant-all : goal.invariant-all
invariant-all l = record {
  ids : All (λ b. All (λ v. v < l.names) (block_ids b)) (take l.block-index l.all);
  leads : All (λ b. All (λ t. t.0 < l.count) (targets b.term)) (take l.block-index l.all);
  few : All (λ b. length (targets b.term) ≤ 2 ^ 28 + 1) (take l.block-index l.all);
}
