use Rattle.std.proofs.Common.{All, take}
use Rattle.vfa_ir.specs.declared.operations.Ty.{Ty}
use Rattle.vfa_mean.specs.declared.value.Val.{Val}
use Rattle.vfa_values.specs.Conditions.{IsOf}
use Rattle.vfa_values.proofs.tests.covering.Given as goal

-- the join so far is of the type, and holds of the numbers so far
abbrev pub invariant-loop-x : goal.invariant-loop-x
invariant-loop-x g l = let domain = g.V.Values in record {
  typed : IsOf domain.ty domain.proper (Ty.Int l.width) l.all;
  covers : All (λ x. domain.holds l.all (Val.Number x)) (take l.x-index l.numbers);
}
