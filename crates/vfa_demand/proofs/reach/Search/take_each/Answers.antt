use Rattle.std.proofs.Common.{get_or, arith, ◌<◌, subst, sym, take_all}
use Rattle.vfa_demand.specs.Reach.{AreTaken}
use Rattle.vfa_demand.proofs.Members.{in_at}
use Rattle.vfa_demand.proofs.Searching.{nothing_taken, taken_more}
use Rattle.vfa_demand.proofs.reach.Search.take_each.Goals as goal

pub each-init : goal.each-init
each-init c = nothing_taken c.args.self.now.marks.items c.args.self.now.ahead.items

pub take-requires : goal.take-requires
take-requires c =
    let i = c.each.number-index in
    subst (λ n. get_or c.args.numbers.now i 0 < n) (sym c.each.invariant.whole)
    (c.requires (get_or c.args.numbers.now i 0) (in_at c.args.numbers.now i 0 c.each-test.true))

pub each-preserved : goal.each-preserved
each-preserved c =
    taken_more c.args.numbers.now c.each.number-index _ _ _ _ _ _ c.each-test.true c.each.invariant c.in_ok-take.ensures

pub returns : goal.returns
returns c =
    subst (λ xs. AreTaken xs c.args.self.now.marks.items c.each.self.marks.items c.args.self.now.ahead.items c.each.self.ahead.items)
    (take_all c.each.number-index c.args.numbers.now (omega arith)) c.each.invariant
