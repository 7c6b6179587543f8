use Rattle.std.proofs.Common.{Some, ◌∙◌, ap}
use Rattle.vfa_cond.specs.States.{known, with_fact}
use Rattle.vfa_cond.proofs.Fitting.{some_of}
use Rattle.vfa_walk.proofs.States.{put_state}
use Rattle.vfa_walk.proofs.passes.put_parameter.Goals as goal

pub returns-clause-change : goal.returns-clause-change
returns-clause-change g c =
    c.put.ensures.change ∙ ap (λ d. with_fact (known c.args.state.now) c.args.param.now.value.0 (Some d)) c.parameter_fact-fact.ensures.fact

pub returns-clause-state : goal.returns-clause-state
returns-clause-state g c =
    put_state g.V.Values.ty g.V.Values.proper c.args.f.now c.args.state.now c.put.new.self c.args.param.now.value.0 (Some c.parameter_fact-fact.result)
    c.requires.state c.put.ensures.room c.put.ensures.change c.requires.name.below (some_of _ _ c.parameter_fact-fact.ensures.of_type)
