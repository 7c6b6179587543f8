use Rattle.std.proofs.Common.{sym, subst}
use Rattle.vfa_values.specs.Conditions.{IsOf}
use Rattle.vfa_cond.proofs.Fitting.{has_type}
use Rattle.vfa_walk.proofs.Facts.{name_typed}
use Rattle.vfa_xfer.specs.AnyFacts.{fact_type, IsAnyFact}
use Rattle.vfa_rewrite.proofs.facts.name_fact.Goals as goal

pub returns-in-Some-clause-of_type : goal.returns-in-Some-clause-of_type
returns-in-Some-clause-of_type c =
    let of = c.requires.facts c.args.v.0 c.in-Some.fact (sym c.in-Some.ensures) in
    let typed = has_type c.args.f.now c.args.v c.args.of_type (name_typed c.args.f.now c.args.of_type c.args.v c.requires.operand) in
    subst (λ t. IsOf fact_type IsAnyFact t c.in-Some.fact) typed of
