use Rattle.vfa_ir.specs.Tokens.{tokens_of}
use Rattle.vfa_read.proofs.Reasons.{one_reason}
use Rattle.vfa_read.proofs.acceptance.one_reason.Goals as goal

pub returns : goal.returns
returns c = λ text. one_reason text (tokens_of text)
