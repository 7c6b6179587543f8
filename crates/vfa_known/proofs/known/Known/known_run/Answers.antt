use Rattle.std.proofs.Common.{bit_or}
use Rattle.std.proofs.lemmas.Nat.{or_lt}
use Rattle.vfa_known.specs.Known.{masks_of}
use Rattle.vfa_known.proofs.Products.{ones_run, known_run_is}
use Rattle.vfa_known.proofs.known.Known.known_run.Goals as goal

pub returns-clause-run : goal.returns-clause-run
returns-clause-run g c = let m = c.args.self.now in
    known_run_is g.row.W c.trailing_ones.result (masks_of m)
    (ones_run g.row.W (bit_or m.zeros m.ones) c.trailing_ones.result m.width.most
    (or_lt g.row.W m.zeros m.ones m.cube.zeros_fit m.cube.ones_fit) c.trailing_ones.ensures)

pub returns-clause-bound : goal.returns-clause-bound
returns-clause-bound g c = let m = c.args.self.now in
    (ones_run g.row.W (bit_or m.zeros m.ones) c.trailing_ones.result m.width.most
    (or_lt g.row.W m.zeros m.ones m.cube.zeros_fit m.cube.ones_fit) c.trailing_ones.ensures).within
