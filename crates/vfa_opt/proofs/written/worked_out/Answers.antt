use Rattle.vfa_opt.proofs.WrittenModules.{refused_in, written_in}
use Rattle.vfa_opt.proofs.written.worked_out.Goals as goal

pub returns-clause-written : goal.returns-clause-written
returns-clause-written g c =
    written_in c.args.writing c.args.strict c.args.bytes.now c.in_ok-whole.whole c.in_ok-whole.ensures.made c.unless_refused.result
    c.unless_refused.ensures.same c.unless_refused.ensures.distinct c.unless_refused.ensures.whole

pub returns-clause-refused : goal.returns-clause-refused
returns-clause-refused g c =
    refused_in c.args.writing c.args.strict c.args.bytes.now c.in_ok-whole.whole c.in_ok-whole.ensures.made c.unless_refused.result
    c.unless_refused.ensures.refused
