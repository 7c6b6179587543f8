use Rattle.std.proofs.Common.{rules}
use Rattle.vfa.specs.Command.{texts}
use Rattle.vfa.proofs.Workers.{command_workers}
use Rattle.vfa.proofs.run.vfa_run.Goals as goal

pub run_command-requires : goal.run_command-requires
run_command-requires g c =
    let asked = rw c.in-Ok-Some.field-0-is at c.in-Ok-Some.ensures.asked in
    (search rules, (search rules, command_workers (texts c.args.words.now) c.in-Ok-Some.command asked))
