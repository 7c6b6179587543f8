use Rattle.vfa_mean.specs.Renaming.{renamed_call}
use Rattle.vfa_mean.proofs.KeptLoops.{nothing_more}
use Rattle.vfa_mean.proofs.text_order.push_call.Goals as goal

pub returns-in-None : goal.returns-in-None
returns-in-None c = nothing_more (renamed_call c.args.order.now) c.args.calls.now c.args.place c.args.all.now.items c.in-None.ensures.lookup.0
