use Rattle.std.proofs.Common.{sym, subst}
use Rattle.vfa_walk.specs.Ready.{IsReady}
use Rattle.vfa_rewrite.proofs.ready.ready.Goals as goal

pub returns-clause-ready : goal.returns-clause-ready
returns-clause-ready c =
    subst IsReady (sym c.function.ensures.same)
    (c.checked_is_ready.ensures c.args.f.now c.function.ensures.checked (c.fit_is_printable.ensures c.args.f.now c.function.ensures.checked.fit))
