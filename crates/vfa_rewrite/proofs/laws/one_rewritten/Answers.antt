use Rattle.std.proofs.Common.{sym, ◌∙◌}
use Rattle.vfa_rewrite.specs.ByFacts.{findings_of}
use Rattle.vfa_rewrite.proofs.FindingsFit.{are_fitting}
use Rattle.vfa_rewrite.proofs.OneFunction.{numbered_one}
use Rattle.vfa_rewrite.proofs.laws.one_rewritten.Goals as goal

pub returns : goal.returns
returns c f t g g' checked printable facts r r' =
    r.is ∙ numbered_one f printable (findings_of f t) (are_fitting f t checked printable facts) r.marks r'.marks r.are_marks r'.are_marks ∙ sym r'.is
