use Rattle.vfa_ir.specs.declared.operations.Ty.{Ty}
use Rattle.vfa_mean.specs.declared.value.Val.{Val}
use Rattle.vfa_values.specs.Conditions.{IsOf}
use Rattle.vfa_values.proofs.tests.settled.Given as goal

-- the value so far is of the type, and holds of all that the first one holds of
abbrev pub invariant-loop-next : goal.invariant-loop-next
invariant-loop-next g l = let domain = g.V.Values in record {
  typed : IsOf domain.ty domain.proper (Ty.Int l.width) l.last;
  covers : (v : Val) → domain.holds l.fn.value v → domain.holds l.last v;
}

abbrev pub decreases-loop-next : goal.decreases-loop-next
decreases-loop-next g l = g.V.Values.answers.rank l.last
