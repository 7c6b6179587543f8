-- helper: in no public contract
-- What a state tells of a name that is defined at its place.
use Rattle.std.specs.Prelude.{ℕ, Option, Some, None}
use Rattle.vfa_cond.specs.States.{AbstractState}
use Rattle.vfa_lazy.specs.declared.questions.Answer.{Answer}

abbrev pub told_by : {V : Type 0} → Option V → Answer V
told_by None = Answer.NotDefined
told_by (Some d) = Answer.Fact d

abbrev pub told_of : {V : Type 0} → Option (AbstractState V) → ℕ → Answer V
told_of None v = Answer.NeverReached
told_of (Some s) v = told_by (s.fact v)
