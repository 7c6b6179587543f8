use Rattle.std.proofs.Common.{Some, sym, subst}
use Rattle.vfa_ir.specs.declared.operations.Ty.{Ty}
use Rattle.vfa_values.specs.Conditions.{IsOf}
use Rattle.vfa_cond.proofs.Fitting.{some_of, has_type}
use Rattle.vfa_walk.proofs.States.{put_state}
use Rattle.vfa_xfer.specs.AnyFacts.{fact_type, IsAnyFact}
use Rattle.bench_facts.proofs.states.set.Goals as goal

pub returns : goal.returns
returns c =
    put_state fact_type IsAnyFact c.args.f.now c.args.state.now c.put.new.self c.args.v.0 (Some c.args.fact.now)
    c.requires.state c.put.ensures.room c.put.ensures.change c.requires.name.range
    (some_of _ _ (subst (λ t. IsOf fact_type IsAnyFact t c.args.fact.now) (sym (has_type c.args.f.now c.args.v (Ty.Int c.args.width) c.requires.name.typed)) c.requires.fact))
