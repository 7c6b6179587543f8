use Rattle.vfa_cond.specs.States.{known}
use Rattle.vfa_walk.proofs.Steps.{mapped_goes}
use Rattle.vfa_walk.proofs.stepping.step.Goals as goal

pub returns-clause-becomes : goal.returns-clause-becomes
returns-clause-becomes g c =
    mapped_goes _ _ (known c.survive.new.state) (known c.define_result.new.state) (rw c.if-not-survive.false at c.survive.ensures.becomes)
    c.define_result.ensures.change
