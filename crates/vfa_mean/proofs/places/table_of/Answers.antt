use Rattle.std.proofs.Common.{◌≡◌, ◌-◌, arith, get_or, replicate, rules}
use Rattle.vfa_mean.specs.Places.{no_place}
use Rattle.vfa_mean.proofs.PlaceTables.{few_numbers, number_there, table_done, table_more, table_none}
use Rattle.vfa_mean.proofs.places.table_of.Goals as goal

pub each-init : goal.each-init
each-init c =
    let filled : c.in_ok-table.table.items ≡ replicate c.args.count (no_place c.args.numbers.now) = search rules in
    table_none c.args.numbers.now c.in_ok-table.table.items c.args.count filled

pub each-preserved : goal.each-preserved
each-preserved c =
    let there = c.each-test.true in
    let above = c.each.invariant.above in
    table_more c.args.numbers.now c.each.table.items c.args.count c.each.place (c.each.place - 1) (omega arith) c.each.invariant
    (c.requires.within (get_or c.args.numbers.now (c.each.place - 1) 0) (number_there c.args.numbers.now (c.each.place - 1) (omega arith)))

pub overflow_cast-place : goal.overflow_cast-place
overflow_cast-place c =
    let few = few_numbers c.args.numbers.now c.requires.once (λ i. omega (arith, c.type_inv.numbers i)) in
    let above = c.each.invariant.above in
    omega arith

pub returns : goal.returns
returns c = table_done c.args.numbers.now c.each.table.items c.args.count c.each.place c.each-test.false c.each.invariant c.requires.once (λ i. omega (arith, c.type_inv.numbers i))

pub index_mut-requires : goal.index_mut-requires
index_mut-requires c =
    let there = c.each-test.true in
    let above = c.each.invariant.above in
    let long = c.each.invariant.long in
    let within = c.requires.within (get_or c.args.numbers.now (c.each.place - 1) 0) (number_there c.args.numbers.now (c.each.place - 1) (omega arith)) in
    let counted = c.each.table.ok.0 in
    omega (arith, counted, within, long)
