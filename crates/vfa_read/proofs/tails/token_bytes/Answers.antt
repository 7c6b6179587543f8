use Rattle.std.proofs.Common.{◌∙◌}
use Rattle.vfa_read.proofs.LastLines.{bytes_are}
use Rattle.vfa_read.proofs.tails.token_bytes.Goals as goal

pub returns : goal.returns
returns c = c.between.ensures ∙ bytes_are c.args.bytes.now c.args.tokens.now c.in-Some.first.now c.in-Some-last.last.now c.in-Some.ensures.value c.in-Some-last.ensures.value
