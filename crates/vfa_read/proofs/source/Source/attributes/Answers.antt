use Rattle.vfa_read.proofs.source.Source.attributes.Goals as goal

pub returns : goal.returns
returns c = c.words_among.ensures
