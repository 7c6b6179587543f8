use Rattle.vfa_rewrite.specs.ByFacts.{findings_of}
use Rattle.vfa_rewrite.proofs.FactChanges.{changes_hold}
use Rattle.vfa_rewrite.proofs.FactDecisions.{are_true}
use Rattle.vfa_rewrite.proofs.KeptNames.{are_sound}
use Rattle.vfa_rewrite.proofs.Lockstep.{refines}
use Rattle.vfa_rewrite.proofs.laws.rewriting_by_facts_refines.Goals as goal

pub returns : goal.returns
returns c f t m checked printable facts is_true marks =
    let holds = are_true f t checked printable facts is_true (changes_hold f t checked printable facts is_true) in
    refines f m (are_sound f printable checked.formed.typed checked.formed.defined (findings_of f t) holds m marks)
