use Rattle.vfa_read.proofs.SentenceReader.{one_sentence}
use Rattle.vfa_read.proofs.laws.one_tree.Goals as goal

pub returns : goal.returns
returns c = one_sentence
