use Rattle.std.proofs.Common.{sym, subst}
use Rattle.vfa_walk.specs.Kept.{IsStateOf}
use Rattle.tables_by_facts.proofs.tests.states.make.Goals as goal

pub make_in-requires : goal.make_in-requires
make_in-requires g c =
    subst (λ h. IsStateOf g.V.Values.ty g.V.Values.proper h c.args.state.now) (sym c.function.ensures.same) c.requires

pub returns : goal.returns
returns g c =
    subst (λ h. IsStateOf g.V.Values.ty g.V.Values.proper h c.make_in.new.state) c.function.ensures.same c.make_in.ensures
