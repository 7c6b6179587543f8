use Rattle.vfa_rules.proofs.Sound.{changed_sound}
use Rattle.vfa_rules.proofs.laws.changes_are_sound.Goals as goal

pub returns : goal.returns
returns c k op facts is = changed_sound k op facts is
