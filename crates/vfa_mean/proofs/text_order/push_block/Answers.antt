use Rattle.vfa_mean.specs.Renaming.{renamed_block}
use Rattle.vfa_mean.proofs.KeptLoops.{nothing_more}
use Rattle.vfa_mean.proofs.text_order.push_block.Goals as goal

pub returns-in-None : goal.returns-in-None
returns-in-None c = nothing_more (renamed_block c.args.order.now) c.args.blocks.now c.args.number c.args.all.now.items c.in-None.ensures.lookup.0
