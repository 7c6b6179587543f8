use Rattle.std.proofs.Common.{◌∙◌, ap, sym, subst}
use Rattle.vfa_mean.specs.Outcomes.{entry_from}
use Rattle.vfa_cond.specs.Conditions.{IsNumberOperand}
use Rattle.vfa_walk.proofs.Edges.{entry_fits}
use Rattle.vfa_walk.proofs.leaving.phi_fact.Goals as goal

pub fact_of-requires-clause-operand : goal.fact_of-requires-clause-operand
fact_of-requires-clause-operand g c =
    subst (IsNumberOperand c.args.f.now c.args.phi.now.width) (sym (c.entry_from.ensures ∙ ap (entry_from c.args.from.0) c.as_slice.ensures))
    (entry_fits c.args.f.now c.args.phi.now.width c.args.from.0 c.args.phi.now.entries c.requires.phi.result.width c.requires.phi.entries)
