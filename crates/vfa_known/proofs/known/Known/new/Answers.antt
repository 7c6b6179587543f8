use Rattle.std.proofs.Common.{arith}
use Rattle.vfa_known.proofs.known.Known.new.Goals as goal

pub returns-then-zeros-most : goal.returns-then-zeros-most
returns-then-zeros-most g c = λ cube. let fits = cube.zeros_fit in omega arith

pub returns-then-ones-most : goal.returns-then-ones-most
returns-then-ones-most g c = λ cube. let fits = cube.ones_fit in omega arith

pub invariant_of-result : goal.invariant_of-result
invariant_of-result g c = record {
  width = c.requires;
  cube = record { zeros_fit = omega arith; ones_fit = omega arith; apart = c.if-zeros-ones-ne0.false };
}
