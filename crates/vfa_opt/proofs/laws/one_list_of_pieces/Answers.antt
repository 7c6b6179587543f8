use Rattle.vfa_opt.proofs.EachInput.{one_split}
use Rattle.vfa_opt.proofs.laws.one_list_of_pieces.Goals as goal

pub returns : goal.returns
returns c = one_split c.one_answer.ensures.function c.one_answer.ensures.reason c.one_answer.ensures.either
