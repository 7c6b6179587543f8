use Rattle.std.proofs.Common.{◌≡◌, ◌<◌, ◌≤◌, ◌+◌, ◌^◌, All, length, true}
use Rattle.vfa_ir.specs.PhisFit.{targets}
use Rattle.vfa_ir.specs.Printable.{block_ids}
use Rattle.vfa_check.proofs.TestedWithin.{all_more, all_whole}
use Rattle.vfa_check.proofs.tests.within.has_blocks.Goals as goal

pub all-preserved : goal.all-preserved
all-preserved c =
    let bs = c.args.all.now in
    let k = c.all.block-index in
    let b = c.block-item.result in
    let passed : c.has_block.result ≡ true = c.if-not-has_block.false in
    record {
      ids = all_more (λ b. All (λ v. v < c.args.names) (block_ids b)) bs k b c.all-test.true c.block-item.is c.all.invariant.ids (c.has_block.ensures.names passed);
      leads = all_more (λ b. All (λ t. t.0 < c.args.count) (targets b.term)) bs k b c.all-test.true c.block-item.is c.all.invariant.leads (c.has_block.ensures.targets passed);
      few = all_more (λ b. length (targets b.term) ≤ 2 ^ 28 + 1) bs k b c.all-test.true c.block-item.is c.all.invariant.few (c.has_block.ensures.few passed);
    }

pub returns-clause-names : goal.returns-clause-names
returns-clause-names c = λ _.
    all_whole (λ b. All (λ v. v < c.args.names) (block_ids b)) c.args.all.now c.all.block-index c.all-test.false c.all.invariant.ids

pub returns-clause-targets : goal.returns-clause-targets
returns-clause-targets c = λ _.
    all_whole (λ b. All (λ t. t.0 < c.args.count) (targets b.term)) c.args.all.now c.all.block-index c.all-test.false c.all.invariant.leads

pub returns-clause-few : goal.returns-clause-few
returns-clause-few c = λ _.
    all_whole (λ b. length (targets b.term) ≤ 2 ^ 28 + 1) c.args.all.now c.all.block-index c.all-test.false c.all.invariant.few
