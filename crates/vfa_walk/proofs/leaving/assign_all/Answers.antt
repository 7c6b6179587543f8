use Rattle.std.proofs.Common.{sym, subst, IfOk, ◌≡◌}
use Rattle.vfa_cond.specs.States.{known}
use Rattle.vfa_walk.specs.Leaving.{assigned}
use Rattle.vfa_walk.proofs.Found.{phis_found}
use Rattle.vfa_walk.proofs.leaving.assign_all.Goals as goal

pub returns-in-Some-clause-change : goal.returns-in-Some-clause-change
returns-in-Some-clause-change g c =
    subst (λ list. IfOk c.with_phis_of.result (λ s. known s ≡ assigned g.V.Values.answers c.args.f.now c.args.from.0 (known c.args.before) list (known c.args.before)))
    (sym (phis_found c.args.f.now c.args.to.0 c.in-Some.block.now (sym c.in-Some.ensures))) c.with_phis_of.ensures.change
