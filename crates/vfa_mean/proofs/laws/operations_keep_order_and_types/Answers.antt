use Rattle.vfa_mean.specs.Meaning.{done}
use Rattle.vfa_mean.proofs.Monotony.{done_monotone}
use Rattle.vfa_mean.proofs.Results.{some_result, one_result}
use Rattle.vfa_mean.proofs.Typing.{done_typed, freeze_gives_numbers}
use Rattle.vfa_mean.proofs.laws.operations_keep_order_and_types.Goals as goal

pub returns-clause-monotone : goal.returns-clause-monotone
returns-clause-monotone c = done_monotone

pub returns-clause-typed : goal.returns-clause-typed
returns-clause-typed c = done_typed

pub returns-clause-frozen : goal.returns-clause-frozen
returns-clause-frozen c = freeze_gives_numbers

pub returns-clause-some_result : goal.returns-clause-some_result
returns-clause-some_result c op x y z = some_result (done op x y z)

pub returns-clause-one_result : goal.returns-clause-one_result
returns-clause-one_result c = one_result
