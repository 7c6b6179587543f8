use Rattle.vfa.specs.Command.{texts}
use Rattle.vfa.proofs.FormRead.{free_read, rows_read}
use Rattle.vfa.proofs.form.texts_of.Goals as goal

pub returns-in-Ok : goal.returns-in-Ok
returns-in-Ok c =
    let words = texts c.args.words.now in
    (free_read _ words c.in_ok-form.ensures c.in-Ok.ensures.kinds, rows_read _ words c.in_ok-form.ensures c.in-Ok.matches c.in-Ok.ensures.matches)
