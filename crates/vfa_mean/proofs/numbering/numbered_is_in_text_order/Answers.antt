use Rattle.vfa_mean.proofs.TextOrder.{in_text_order}
use Rattle.vfa_mean.proofs.numbering.numbered_is_in_text_order.Goals as goal

pub returns : goal.returns
returns c = in_text_order
