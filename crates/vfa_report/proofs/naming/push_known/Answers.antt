use Rattle.vfa_cond.specs.States.{known}
use Rattle.vfa_report.proofs.NameLines.{known_shown}
use Rattle.vfa_report.proofs.naming.push_known.Goals as goal

pub returns : goal.returns
returns c =
    known_shown c.args.names.now c.args.before.now (known c.args.state.now) c.args.v.0 c.in-Some.fact c.value.result.now c.args.text.now.items c.push_fact.new.text.items
    c.in_ok-push_fact.ensures c.value.ensures c.in-Some.ensures
