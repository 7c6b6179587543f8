use Rattle.vfa_opt.proofs.Working.{lines_item}
use Rattle.vfa_opt.proofs.work.work.Goals as goal

pub returns-in-Lines : goal.returns-in-Lines
returns-in-Lines c = lines_item c.args.writing c.args.bytes.now c.args.item.now c.in-Lines.start c.in-Lines.end c.in-Lines.is c.requires.place
