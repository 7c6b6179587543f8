use Rattle.std.proofs.Common.{ap, sym}
use Rattle.vfa_dom.specs.Search.{flag}
use Rattle.vfa_xfer.proofs.ranks.one_if.Goals as goal

pub returns-then-holds-clause-value : goal.returns-then-holds-clause-value
unfolding flag
returns-then-holds-clause-value c = ap flag (sym c.if-holds.true)

pub returns-clause-value : goal.returns-clause-value
unfolding flag
returns-clause-value c = ap flag (sym c.if-holds.false)
