use Rattle.vfa_rewrite.proofs.ReadMarks.{agree_turned, rewritten_still}
use Rattle.vfa_rewrite.proofs.laws.rewriting_is_one_by_read_names.Goals as goal

pub returns : goal.returns
returns c f g t u checked agree =
    (λ r. rewritten_still f checked t u agree g r, λ r. rewritten_still f checked u t (agree_turned f checked t u agree) g r)
