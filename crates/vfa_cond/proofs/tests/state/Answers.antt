use Rattle.std.proofs.Common.{sym, ◌∙◌, subst}
use Rattle.std.specs.List.{IsDistinct}
use Rattle.std.proofs.lemmas.List.Elements.{All-nil}
use Rattle.vfa_values.specs.Constants.{constant_type, IsConstant}
use Rattle.vfa_cond.specs.Conditions.{AreFacts}
use Rattle.vfa_cond.specs.States.{known}
use Rattle.vfa_cond.proofs.Fitting.{some_of}
use Rattle.vfa_cond.proofs.Given.{still_roomy}
use Rattle.vfa_cond.proofs.Keeping.{with_facts}
use Rattle.vfa_cond.proofs.tests.state.Goals as goal

pub of-requires-clause-facts : goal.of-requires-clause-facts
unfolding IsDistinct
of-requires-clause-facts c = record { distinct = tt; range = All-nil _ }

pub facts-init : goal.facts-init
facts-init c = record {
  names = c.in_ok-state.ensures.names;
  room = c.in_ok-state.ensures.room;
  facts = subst (AreFacts constant_type IsConstant c.args.f.now) (sym c.in_ok-state.ensures.state) (λ v d e. absurd cc);
}

pub facts-preserved : goal.facts-preserved
facts-preserved c = record {
  names = c.put.ensures.room.names ∙ c.facts.invariant.names;
  room = still_roomy c.facts.state c.put.new.self c.put.ensures.room c.facts.invariant.room;
  facts = subst (AreFacts constant_type IsConstant c.args.f.now) (sym c.put.ensures.change)
      (with_facts constant_type IsConstant c.args.f.now (known c.facts.state) _ _ c.facts.invariant.facts (c.constant_fits.ensures c.if-not-constant_fits.false));
}

pub live-preserved : goal.live-preserved
live-preserved c = record {
  names = c.set_live.ensures.room.names ∙ c.live.invariant.names;
  facts = subst (AreFacts constant_type IsConstant c.args.f.now) (sym c.set_live.ensures.change) c.live.invariant.facts;
}

pub returns : goal.returns
returns c = some_of (λ s. AreFacts constant_type IsConstant c.args.f.now (known s)) c.live.state c.live.invariant.facts
