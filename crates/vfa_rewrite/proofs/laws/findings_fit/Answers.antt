use Rattle.vfa_rewrite.proofs.FindingsFit.{are_fitting}
use Rattle.vfa_rewrite.proofs.laws.findings_fit.Goals as goal

pub returns : goal.returns
returns c f t checked printable facts = are_fitting f t checked printable facts
