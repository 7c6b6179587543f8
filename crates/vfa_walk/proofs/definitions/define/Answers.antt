use Rattle.std.proofs.Common.{◌∙◌, ap, sym}
use Rattle.vfa_cond.specs.States.{known}
use Rattle.vfa_walk.proofs.States.{same_facts_state}
use Rattle.vfa_walk.proofs.Steps.{call_given, other_given}
use Rattle.vfa_walk.proofs.definitions.define.Goals as goal

pub returns-then-not-is_call-clause-change : goal.returns-then-not-is_call-clause-change
returns-then-not-is_call-clause-change g c =
    c.set_live.ensures.change
    ∙ other_given g.V.Values.answers c.args.f.now c.args.op.now c.args.v (known c.args.state.now) (known c.redefine.new.state) c.result_fact-fact.result
    (sym c.is_call.ensures ∙ c.if-not-is_call.true) c.result_fact-fact.ensures.fact c.redefine.ensures.change

pub returns-then-not-is_call-clause-state : goal.returns-then-not-is_call-clause-state
returns-then-not-is_call-clause-state g c =
    same_facts_state g.V.Values.ty g.V.Values.proper c.args.f.now c.redefine.new.state c.set_live.new.self c.redefine.ensures.state c.set_live.ensures.room
    (ap (λ s. s.fact) c.set_live.ensures.change)

pub returns-else-not-is_call-clause-change : goal.returns-else-not-is_call-clause-change
returns-else-not-is_call-clause-change g c =
    call_given g.V.Values.answers c.args.f.now c.args.op.now c.args.v (known c.args.state.now) (known c.redefine.new.state) c.result_fact-fact.result
    (sym c.is_call.ensures ∙ c.if-not-is_call.false) c.result_fact-fact.ensures.fact c.redefine.ensures.change
