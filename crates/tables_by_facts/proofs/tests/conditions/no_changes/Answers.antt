use Rattle.std.proofs.Common.{◌∙◌, ap, sym, length}
use Rattle.vfa_ir.specs.declared.functions.Function.{Function}
use Rattle.vfa_cond.proofs.Noted.{no_changes}
use Rattle.tables_by_facts.proofs.tests.conditions.no_changes.Goals as goal

pub returns : goal.returns
returns g c =
    no_changes c.in_ok-changes.changes c.args.state.now c.in_ok-changes.ensures.none
    (c.in_ok-changes.ensures.names ∙ (ap (λ (h : Function). length h.values) c.function.ensures.same ∙ sym c.requires.names))
