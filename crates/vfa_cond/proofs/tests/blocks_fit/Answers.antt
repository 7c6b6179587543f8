use Rattle.std.proofs.Common.{All, subst}
use Rattle.std.proofs.lemmas.List.Elements.{All-more}
use Rattle.vfa_ir.specs.declared.functions.Block.{Block}
use Rattle.vfa_cond.specs.TypedLines.{IsTypedLine}
use Rattle.vfa_cond.proofs.Accepted.{taken_whole}
use Rattle.vfa_cond.proofs.tests.blocks_fit.Goals as goal

pub all-preserved : goal.all-preserved
all-preserved c =
    let typed = subst (All (IsTypedLine c.args.f.now)) c.as_slice.ensures (c.lines_fit.ensures c.if-not-lines_fit.false) in
    All-more (λ (b : Block). All (IsTypedLine c.args.f.now) b.insts) c.args.blocks.now c.all.block-index c.block-item.result c.all-test.true c.all.invariant
    (subst (λ (b : Block). All (IsTypedLine c.args.f.now) b.insts) c.block-item.is typed)

pub returns : goal.returns
returns c = λ _. subst (All (λ (b : Block). All (IsTypedLine c.args.f.now) b.insts)) (taken_whole c.args.blocks.now c.all.block-index c.all-test.false) c.all.invariant
