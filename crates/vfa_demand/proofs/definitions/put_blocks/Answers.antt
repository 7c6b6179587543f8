use Rattle.std.proofs.Common.{arith, subst}
use Rattle.vfa_demand.specs.Definitions.{BlockPut}
use Rattle.vfa_demand.proofs.PutDefinitions.{at_within, blocks_further}
use Rattle.vfa_demand.proofs.definitions.put_blocks.Goals as goal

pub each-preserved : goal.each-preserved
each-preserved c =
    blocks_further c.args.blocks.now c.each.number c.index-blocks-number.result _ _ _ c.each.invariant c.in_ok-put_block.ensures.more
    (subst (λ b. BlockPut c.each.number b c.put_block.new.all.items) c.index-blocks-number.is c.in_ok-put_block.ensures.put)

pub returns-clause-put : goal.returns-clause-put
returns-clause-put c = λ b block at. c.each.invariant.1 b (omega (arith, at_within c.args.blocks.now b block at, c.each-test.false)) block at
