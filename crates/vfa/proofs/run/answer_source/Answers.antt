-- A source that fails gave at most as many bytes as are allowed.
use Rattle.std.proofs.Common.{Err, ap}
use Rattle.vfa.specs.Refusals.{most}
use Rattle.vfa.proofs.SourceInputs.{left_of, not_more}
use Rattle.vfa.proofs.run.answer_source.Goals as goal

pub returns-in-Err-Read-clause-too_long : goal.returns-in-Err-Read-clause-too_long
returns-in-Err-Read-clause-too_long g c = λ input is more.
    absurd (not_more (g.S.Source.state c.args.source.now).left (g.S.Source.state c.read_all.new.source).left input most
    (left_of c.args.command.now.job (g.S.Source.state c.args.source.now) input c.requires.reads is)
    (c.in-Err-Read.ensures.read_within (ap Err c.in-Err-Read.field-0-is)) more)
