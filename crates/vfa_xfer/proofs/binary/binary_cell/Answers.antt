use Rattle.std.proofs.Common.{ℕ, ◌^◌, ◌<◌, sym, subst, refl}
use Rattle.vfa_fact.proofs.CellNumbers.{cell_fits}
use Rattle.vfa_xfer.proofs.binary.binary_cell.Goals as goal

pub binary_constant-requires-clause-left : goal.binary_constant-requires-clause-left
binary_constant-requires-clause-left c =
    cell_fits c.args.a.now c.in-Some.x (((c.single.ensures.only c.in-Some.x).0 c.in-Some.is c.in-Some.x).1 refl)

pub binary_constant-requires-clause-right : goal.binary_constant-requires-clause-right
binary_constant-requires-clause-right c =
    subst (λ (w : ℕ). c.in-Some-single.y < 2 ^ w) (sym c.requires)
    (cell_fits c.args.b.now c.in-Some-single.y (((c.single-2.ensures.only c.in-Some-single.y).0 c.in-Some-single.is c.in-Some-single.y).1 refl))
