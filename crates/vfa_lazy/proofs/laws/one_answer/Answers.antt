use Rattle.vfa_lazy.proofs.OneAnswer.{one_answer_of}
use Rattle.vfa_lazy.proofs.laws.one_answer.Goals as goal

pub returns : goal.returns
returns g c f place v a b = one_answer_of g.V.Values.answers f place v a b
