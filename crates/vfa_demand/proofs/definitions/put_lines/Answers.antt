use Rattle.std.proofs.Common.{arith}
use Rattle.vfa_demand.proofs.PutDefinitions.{at_within, lines_further}
use Rattle.vfa_demand.proofs.definitions.put_lines.Goals as goal

pub each-preserved : goal.each-preserved
each-preserved c =
    lines_further c.args.block c.args.insts.now c.each.place _ _ _ _ c.each.invariant c.in_ok-put_line.ensures.more c.in_ok-put_line.ensures.put

pub returns-clause-put : goal.returns-clause-put
returns-clause-put c = λ i inst v at e. c.each.invariant.1 i (omega (arith, at_within c.args.insts.now i inst at, c.each-test.false)) inst at v e
