use Rattle.std.proofs.Common.{refl}
use Rattle.vfa_rewrite.specs.ByFacts.{findings_of}
use Rattle.vfa_rewrite.specs.Making.{must_stay_at}
use Rattle.vfa_rewrite.proofs.MadeMarks.{are_marks, is_ground}
use Rattle.vfa_rewrite.proofs.made.made_marks_are_marks.Goals as goal

pub returns-clause-made : goal.returns-clause-made
returns-clause-made c f t reached used checked printable facts is_reached are_used =
    are_marks f (findings_of f t) (is_ground f t checked printable facts) reached used (must_stay_at f (findings_of f t)) is_reached (λ b i inst there met. refl) are_used

pub returns-clause-met : goal.returns-clause-met
returns-clause-met c f t reached used must checked printable facts is_reached must_is are_used =
    are_marks f (findings_of f t) (is_ground f t checked printable facts) reached used must is_reached must_is are_used
