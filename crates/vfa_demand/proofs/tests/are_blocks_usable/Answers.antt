use Rattle.std.proofs.Common.{◌≡◌, All, length, subst, take_all, true}
use Rattle.std.proofs.lemmas.List.Elements.{All-more}
use Rattle.vfa_ir.specs.declared.functions.Block.{Block}
use Rattle.vfa_demand.specs.Usable.{IsUsableBlock}
use Rattle.vfa_demand.proofs.tests.are_blocks_usable.Goals as goal

pub each-preserved : goal.each-preserved
each-preserved c =
    let f = c.args.f.now in
    let passed : c.is_usable_block.result ≡ true = c.if-not-is_usable_block.false in
    let usable : IsUsableBlock f (length f.values) c.block-item.result = c.is_usable_block.ensures passed in
    All-more (λ (x : Block). IsUsableBlock f (length f.values) x) c.args.blocks.now c.each.block-index _ c.each-test.true c.each.invariant
    (subst (λ (x : Block). IsUsableBlock f (length f.values) x) c.block-item.is usable)

pub returns : goal.returns
returns c = λ _. subst (All (λ (x : Block). IsUsableBlock c.args.f.now (length c.args.f.now.values) x)) (take_all c.each.block-index c.args.blocks.now c.each-test.false) c.each.invariant
