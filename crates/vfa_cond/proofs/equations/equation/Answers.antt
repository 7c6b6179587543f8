use Rattle.std.proofs.Common.{sym}
use Rattle.vfa_cond.proofs.Definitions.{defined_by}
use Rattle.vfa_cond.proofs.equations.equation.Goals as goal

pub returns-in-Some : goal.returns-in-Some
returns-in-Some c = sym (defined_by c.args.f.now c.args.v.0 c.in-Some.op c.requires c.in-Some.ensures)
