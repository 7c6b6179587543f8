use Rattle.vfa_word.proofs.Wrapping.{mask_of_width}
use Rattle.vfa_word.proofs.word.most.Goals as goal

pub returns : goal.returns
returns g c = mask_of_width g.row.W c.requires.most
