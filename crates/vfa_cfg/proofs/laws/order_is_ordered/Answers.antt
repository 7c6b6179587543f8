use Rattle.vfa_cfg.proofs.InOrder.{is_ordered}
use Rattle.vfa_cfg.proofs.laws.order_is_ordered.Goals as goal

pub returns : goal.returns
returns c = is_ordered
