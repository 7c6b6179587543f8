use Rattle.std.proofs.Common.{subst, sym}
use Rattle.vfa_ir.specs.Reads.{Fit}
use Rattle.vfa_bits.proofs.tests.narrowed.Goals as goal

pub print_function-requires : goal.print_function-requires
print_function-requires c = subst Fit (sym c.function.ensures.same) c.function.ensures.checked.fit
