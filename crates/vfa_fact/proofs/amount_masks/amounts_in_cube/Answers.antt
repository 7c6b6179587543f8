use Rattle.std.proofs.Common.{◌≢◌, ◌≡◌, ◌/◌, ◌^◌, subst, arith}
use Rattle.vfa_fact.proofs.MaskedAmounts.{none_agree, all_at_first, all_at_next, all_agree}
use Rattle.vfa_fact.proofs.amount_masks.amounts_in_cube.Goals as goal

pub returns-then-ones-ne0 : goal.returns-then-ones-ne0
returns-then-ones-ne0 g c = let known = c.args.known.now in
    none_agree g.row.W known.zeros known.ones known.width known.cube (subst (λ n. n / 2 ^ 7 ≢ 0) c.ones.ensures c.if-ones-ne0.true)

pub loop-place-init : goal.loop-place-init
loop-place-init g c = let known = c.args.known.now in
    all_at_first g.row.W known.zeros known.ones known.width known.cube c.most-mask.result c.most-mask.ensures

pub loop-place-preserved : goal.loop-place-preserved
loop-place-preserved g c = let known = c.args.known.now in
    all_at_next g.row.W known.zeros known.ones known.width known.cube c.loop-place.mask c.numbers_agreeing-mask.result c.loop-place.place
    c.loop-place.invariant c.numbers_agreeing-mask.ensures

pub returns : goal.returns
returns g c = let known = c.args.known.now in
    let passed = c.loop-place-test.false in let end = c.loop-place.auto.place-end in
    all_agree g.row.W known.zeros known.ones known.width known.cube c.loop-place.mask c.loop-place.place
    (subst (λ n. n / 2 ^ 7 ≡ 0) c.ones.ensures c.if-ones-ne0.false) (omega arith) c.loop-place.invariant
