use Rattle.vfa_read.proofs.source.Source.call_words.Goals as goal

pub returns : goal.returns
returns c = c.words_among.ensures
