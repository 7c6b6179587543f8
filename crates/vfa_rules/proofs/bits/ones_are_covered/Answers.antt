use Rattle.std.proofs.Common.{sym}
use Rattle.vfa_rules.proofs.BitTests.{shows, covered_cells}
use Rattle.vfa_rules.proofs.bits.ones_are_covered.Goals as goal

pub returns : goal.returns
returns c =
    covered_cells c.args.a.now c.args.b.now c.a.inside.width c.b.inside.width c.most_of.result c.in-Some.one c.in-Some-numbers.two
    (shows _ c.args.a.now c.in-Some.one c.a.view_is c.a.invariant c.in-Some.is)
    (shows _ c.args.b.now c.in-Some-numbers.two c.b.view_is c.b.invariant c.in-Some-numbers.is)
    c.requires c.most_of.ensures
