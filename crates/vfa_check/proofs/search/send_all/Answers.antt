use Rattle.vfa_cfg.proofs.Marks.{order_in_range}
use Rattle.vfa_check.proofs.search.send_all.Goals as goal

pub send-lost_here-requires-clause-block : goal.send-lost_here-requires-clause-block
send-lost_here-requires-clause-block c =
    order_in_range c.args.f.now c.args.order.now c.requires.order c.places.b-index _ c.places-test.true
