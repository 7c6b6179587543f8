use Rattle.vfa_read.proofs.LastLines.{last_is}
use Rattle.vfa_read.proofs.sentences.last_line.Goals as goal

pub returns-in-Some : goal.returns-in-Some
returns-in-Some c = last_is c.args.tokens.now c.in-Some.token.now c.in-Some.ensures.value
