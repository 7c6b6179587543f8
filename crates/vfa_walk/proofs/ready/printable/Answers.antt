use Rattle.std.proofs.Common.{sym, subst}
use Rattle.vfa_ir.specs.Printable.{IsPrintable}
use Rattle.vfa_walk.proofs.ready.printable.Goals as goal

pub returns-clause-printable : goal.returns-clause-printable
returns-clause-printable c = subst IsPrintable (sym c.function.ensures.same) (c.fit_is_printable.ensures c.args.f.now c.function.ensures.checked.fit)
