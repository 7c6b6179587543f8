use Rattle.vfa_word.proofs.Wrapping.{masked}
use Rattle.vfa_word.proofs.word.Word.cut.Goals as goal

pub returns : goal.returns
returns g c = masked c.args.bits c.most.result g.row.W c.most.ensures
