use Rattle.std.proofs.Common.{sym}
use Rattle.vfa_ir.specs.Walks.{successors}
use Rattle.vfa_walk.proofs.Handed.{found_earlier, not_earlier}
use Rattle.vfa_walk.proofs.handing.comes_earlier.Goals as goal

pub returns-then-eq : goal.returns-then-eq
returns-then-eq c =
    found_earlier (successors c.args.f.now c.args.from.0) c.args.k c.earlier.j c.args.to.0 c.in-Some.other.0 c.earlier-test.true (sym c.in-Some.ensures.target) (sym c.if-eq.ensures)

pub earlier-preserved : goal.earlier-preserved
earlier-preserved c =
    not_earlier (successors c.args.f.now c.args.from.0) c.earlier.j c.args.to.0 c.in-Some.other.0 (sym c.in-Some.ensures.target) (sym c.if-eq.ensures) c.earlier.invariant
