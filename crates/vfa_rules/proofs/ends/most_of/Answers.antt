use Rattle.vfa_word.proofs.Wrapping.{mask_of_width}
use Rattle.vfa_rules.proofs.ends.most_of.Goals as goal

pub returns : goal.returns
returns c = mask_of_width c.args.width c.requires.most
