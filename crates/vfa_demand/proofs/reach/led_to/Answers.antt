use Rattle.std.proofs.Common.{◌≡◌, [], true, arith, false, get_or, length, replicate, rules, subst}
use Rattle.vfa_ir.specs.Words.{is_in}
use Rattle.vfa_demand.proofs.Searching.{below_marks, names_at, search_begins, search_goes_on, search_ends, none_left}
use Rattle.vfa_demand.proofs.reach.led_to.Goals as goal

pub steps-init : goal.steps-init
steps-init c =
    let marks : c.in_ok-vec.field-0.items ≡ replicate (length c.args.leads.now) false = search rules in
    search_begins c.args.first.now c.args.leads.now _ _ _ _ marks c.new.ensures.items c.in_ok-take_each.ensures

pub bounds-leads-number : goal.bounds-leads-number
bounds-leads-number c =
    below_marks c.args.first.now c.args.leads.now _ _ c.pop.new.self.items c.in-Some.number c.in-Some.ensures.items c.steps.invariant

pub take_each-requires-in-Some : goal.take_each-requires-in-Some
take_each-requires-in-Some c = λ v t.
    let names : c.as_slice.result.now ≡ get_or c.args.leads.now c.in-Some.number [] =
    names_at c.args.leads.now c.in-Some.number c.index-leads-number.result c.as_slice.result.now
    (below_marks c.args.first.now c.args.leads.now _ _ c.pop.new.self.items c.in-Some.number c.in-Some.ensures.items c.steps.invariant)
    c.index-leads-number.is c.as_slice.ensures in
    let below = c.requires.leads c.in-Some.number v (subst (λ l. is_in v l ≡ true) names t) in
    omega (arith, below, c.steps.invariant.whole)

pub steps-preserved : goal.steps-preserved
steps-preserved c =
    search_goes_on c.args.first.now c.args.leads.now _ _ _ c.pop.new.self.items _ c.as_slice.result.now c.in-Some.number c.in-Some.ensures.items
    (names_at c.args.leads.now c.in-Some.number c.index-leads-number.result c.as_slice.result.now
    (below_marks c.args.first.now c.args.leads.now _ _ c.pop.new.self.items c.in-Some.number c.in-Some.ensures.items c.steps.invariant)
    c.index-leads-number.is c.as_slice.ensures)
    c.steps.invariant c.in_ok-take_each-2.ensures

pub returns-clause-exact : goal.returns-clause-exact
returns-clause-exact c =
    let ahead = c.steps.search.ahead in
    let none : length ahead.items ≡ 0 = omega (arith, ahead.ok.0, c.in_default.ensures.cases.0) in λ v. (
      c.steps.invariant.sound v,
      search_ends c.args.first.now c.args.leads.now c.steps.search.marks.items c.steps.search.ahead.items
          (none_left c.steps.search.ahead.items none) c.steps.invariant v,
    )
