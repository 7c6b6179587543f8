use Rattle.vfa_read.proofs.EachText.{accepted_or_reason_of}
use Rattle.vfa_read.proofs.acceptance.accepted_or_reason.Goals as goal

pub returns : goal.returns
returns c = accepted_or_reason_of
