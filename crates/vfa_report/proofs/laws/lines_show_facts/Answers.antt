use Rattle.vfa_report.proofs.ShownFacts.{shows_fact}
use Rattle.vfa_report.proofs.laws.lines_show_facts.Goals as goal

pub returns : goal.returns
returns c = shows_fact
