use Rattle.std.proofs.Common.{◌∙◌}
use Rattle.std.proofs.lemmas.Nat.{and_comm}
use Rattle.vfa_known.proofs.known.Known.complement.Goals as goal

pub invariant_of-result : goal.invariant_of-result
invariant_of-result g c = let one = c.args.self.now in record {
  width = one.width;
  cube = record { zeros_fit = one.cube.ones_fit; ones_fit = one.cube.zeros_fit; apart = and_comm one.ones one.zeros ∙ one.cube.apart };
}
