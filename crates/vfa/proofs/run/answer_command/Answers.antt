use Rattle.std.proofs.Common.{◌≡◌, true, [], refl, arith}
use Rattle.vfa_io.specs.States.{change}
use Rattle.vfa.proofs.UnreadInputs.{each_error, unread_stop}
use Rattle.vfa.proofs.run.answer_command.Goals as goal

pub returns-clause-stop : goal.returns-clause-stop
returns-clause-stop g c = λ input is.
    each_error c.answer.result
    (unread_stop c.generated_is_within.ensures c.args.command.now (change g.S.Source.state c.args.source.now c.args.source.now) [] input (omega arith)
    (λ reads. let yes : c.reads_source.result ≡ true = c.reads_source.ensures.1 reads in cc (yes, c.if-reads_source.false)) refl is)
    c.answer.ensures.stop
