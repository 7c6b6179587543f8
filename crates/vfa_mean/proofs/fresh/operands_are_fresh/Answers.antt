use Rattle.std.proofs.Common.{nat_eq, length, sym, subst}
use Rattle.std.specs.List.{IsDistinct}
use Rattle.vfa_mean.proofs.FreshOperands.{was_given, gives_now}
use Rattle.vfa_mean.proofs.FreshOperands.Definitions.{range_distinct}
use Rattle.vfa_mean.proofs.fresh.operands_are_fresh.Goals as goal

pub returns-clause-once : goal.returns-clause-once
returns-clause-once c f ids = subst (λ xs. IsDistinct nat_eq xs) (sym ids) (range_distinct 0 (length f.values))

pub returns-clause-given : goal.returns-clause-given
returns-clause-given c = was_given

pub returns-clause-present : goal.returns-clause-present
returns-clause-present c = gives_now
