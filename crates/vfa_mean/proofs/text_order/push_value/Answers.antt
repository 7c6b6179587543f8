use Rattle.vfa_mean.proofs.KeptLoops.{nothing_taken}
use Rattle.vfa_mean.proofs.text_order.push_value.Goals as goal

pub returns-in-None : goal.returns-in-None
returns-in-None c = nothing_taken c.args.values.now c.args.id c.args.all.now.items c.in-None.ensures.lookup.0
