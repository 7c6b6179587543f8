use Rattle.vfa_rules.proofs.Found.{has_source}
use Rattle.vfa_rules.proofs.laws.parts_have_sources.Goals as goal

pub returns : goal.returns
returns c f w index pair call is = has_source f w index pair call is
