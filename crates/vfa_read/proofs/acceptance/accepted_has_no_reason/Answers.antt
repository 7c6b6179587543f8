use Rattle.vfa_ir.specs.Tokens.{tokens_of}
use Rattle.vfa_read.proofs.Reasons.{accepted_or_refused}
use Rattle.vfa_read.proofs.acceptance.accepted_has_no_reason.Goals as goal

pub returns : goal.returns
returns c = λ text. accepted_or_refused text (tokens_of text)
