use Rattle.vfa_rewrite.proofs.FactChanges.{changes_hold}
use Rattle.vfa_rewrite.proofs.FactDecisions.{are_true}
use Rattle.vfa_rewrite.proofs.laws.findings_are_true.Goals as goal

pub returns : goal.returns
returns c f t checked printable facts is_true =
    are_true f t checked printable facts is_true (changes_hold f t checked printable facts is_true)
