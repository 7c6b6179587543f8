use Rattle.std.proofs.Common.{refl}
use Rattle.vfa_check.proofs.ScopesFound.{are_scopes}
use Rattle.vfa_check.proofs.scopes.Scopes.of.Goals as goal

pub returns : goal.returns
returns c =
    are_scopes c.args.f.now c.args.order.now c.settle.new.flow _ c.requires.within c.requires.order c.settle.ensures.flow
    c.settle.ensures.settled c.add_all_phis.ensures.count c.add_all_phis.ensures.rows c.add_all_phis.ensures.added refl
