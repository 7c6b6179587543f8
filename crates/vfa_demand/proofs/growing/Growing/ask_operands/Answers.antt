use Rattle.std.proofs.Common.{arith}
use Rattle.vfa_ir.specs.Operands.{operands_of}
use Rattle.vfa_demand.specs.Masks.{operand_asks}
use Rattle.vfa_demand.specs.Steps.{asks_below, place_asks}
use Rattle.vfa_demand.proofs.Asking.{below_more, step_alike}
use Rattle.vfa_demand.proofs.Users.{have_places, places_have}
use Rattle.vfa_demand.proofs.growing.Growing.ask_operands.Goals as goal

pub each-preserved : goal.each-preserved
each-preserved c =
    below_more (λ k. place_asks c.args.f.now c.args.op.now k c.args.mask) c.each.place _ _ _ _ _ _ _ _ _ c.each.invariant c.in_ok-ask_place.ensures

pub returns : goal.returns
returns c =
    let f = c.args.f.now in
    let op = c.args.op.now in
    step_alike (asks_below (λ k. place_asks f op k c.args.mask) c.each.place) (operand_asks op c.args.mask 0 (operands_of f op)) _ _ _ _ _ _
    (λ m. places_have f op c.args.mask c.each.place m (omega (arith, c.operand_count-place-end.ensures, c.each-test.false)))
    (λ m. have_places f op c.args.mask c.each.place m)
    c.each.invariant
