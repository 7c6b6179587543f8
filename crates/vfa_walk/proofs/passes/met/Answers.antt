use Rattle.std.proofs.Common.{Some, sym, ◌∙◌, ap}
use Rattle.std.specs.Option.{option_map}
use Rattle.vfa_cond.specs.States.{known}
use Rattle.vfa_walk.specs.Joining.{kept_names}
use Rattle.vfa_walk.proofs.Found.{kept_is, stored_state}
use Rattle.vfa_walk.proofs.passes.met.Goals as goal

pub cut-requires-clause-state : goal.cut-requires-clause-state
cut-requires-clause-state g c =
    stored_state g.V.Values.ty g.V.Values.proper c.args.f.now c.args.got.now c.args.b.0 c.requires.states c.in-Some.state (sym c.take.ensures.taken ∙ c.in-Some.is)

pub returns-clause-met : goal.returns-clause-met
returns-clause-met g c names scope =
    ap Some (c.cut.ensures.change names scope)
    ∙ ap (option_map (kept_names names)) (sym (kept_is c.args.got.now c.args.b.0 ∙ ap (option_map known) (sym c.take.ensures.taken ∙ c.in-Some.is)))
