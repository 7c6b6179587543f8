use Rattle.vfa_check.proofs.Sending.{renew_step, block_names}
use Rattle.vfa_check.proofs.search.send.Goals as goal

pub renew-requires-clause-names : goal.renew-requires-clause-names
renew-requires-clause-names c = block_names c.args.f.now c.requires.within.names

pub send_along-requires-clause-flow : goal.send_along-requires-clause-flow
send_along-requires-clause-flow c =
    renew_step c.args.f.now c.args.from.0 c.args.flow.now c.renew.new.flow c.requires.block c.requires.flow c.renew.ensures
