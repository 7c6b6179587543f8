use Rattle.std.proofs.Common.{subst, ◌∙◌}
use Rattle.vfa_io.specs.States.{change}
use Rattle.vfa.specs.Run.{Reports}
use Rattle.vfa.proofs.run.run_command.Goals as goal

pub returns-in-Err-Refused-clause-refused : goal.returns-in-Err-Refused-clause-refused
returns-in-Err-Refused-clause-refused g c = λ input is ends.
    let stop = rw c.in-Err-Refused.field-0-is at (c.in-Err-Refused.ensures.stop input is) in
    record {
      reason = stop.0;
      refused = stop.1;
      says = subst (λ message. Reports (change g.E.Sink.state c.args.err.now c.say-in-Err-Refused.new.err) message) (c.deref.ensures.value ∙ stop.2)
          c.say-in-Err-Refused.ensures.message;
    }
