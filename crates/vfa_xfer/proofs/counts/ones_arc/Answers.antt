use Rattle.std.proofs.Common.{arith}
use Rattle.vfa_xfer.specs.CountLaws.{ones_fit}
use Rattle.vfa_xfer.proofs.counts.ones_arc.Goals as goal

pub overflow_sub-most : goal.overflow_sub-most
overflow_sub-most g c = let fit = ones_fit g.row.W c.zeros.result in let e = c.ones-most.ensures in omega arith
