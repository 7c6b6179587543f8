use Rattle.vfa_cond.proofs.Accepted.{typed_equations}
use Rattle.vfa_cond.proofs.laws.typed_functions_have_typed_equations.Goals as goal

pub returns : goal.returns
returns c = typed_equations
