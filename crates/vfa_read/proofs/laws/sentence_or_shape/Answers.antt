use Rattle.vfa_read.proofs.SentenceReader.{reading_of}
use Rattle.vfa_read.proofs.laws.sentence_or_shape.Goals as goal

pub returns : goal.returns
returns c = reading_of
