use Rattle.std.proofs.Common.{refl, subst, bit_and, ◌≢◌, ◌≡◌, ◌^◌, ◌*◌, ◌%◌}
use Rattle.vfa_fact.proofs.MaskedAmounts.{without_bit, having_bit, any_bit}
use Rattle.vfa_fact.proofs.amount_masks.numbers_agreeing.Goals as goal

pub returns-then-zeros-bit-ne0 : goal.returns-then-zeros-bit-ne0
returns-then-zeros-bit-ne0 g c = let known = c.args.known.now in
    without_bit g.row.W c.args.place _ known.zeros known.ones known.cube c.requires refl c.numbers_with.result
    (subst (λ n. bit_and n (1 * 2 ^ c.args.place % 2 ^ 128) ≢ 0) c.zeros.ensures c.if-zeros-bit-ne0.true) c.numbers_with.ensures

pub returns-then-ones-bit-ne0 : goal.returns-then-ones-bit-ne0
returns-then-ones-bit-ne0 g c = let known = c.args.known.now in
    having_bit g.row.W c.args.place _ known.zeros known.ones known.cube c.requires refl c.numbers_with-then-ones-bit-ne0.result
    (subst (λ n. bit_and n (1 * 2 ^ c.args.place % 2 ^ 128) ≡ 0) c.zeros.ensures c.if-zeros-bit-ne0.false)
    (subst (λ n. bit_and n (1 * 2 ^ c.args.place % 2 ^ 128) ≢ 0) c.ones.ensures c.if-ones-bit-ne0.true) c.numbers_with-then-ones-bit-ne0.ensures

pub returns : goal.returns
returns g c = let known = c.args.known.now in
    any_bit g.row.W c.args.place _ known.zeros known.ones known.cube c.requires refl
    (subst (λ n. bit_and n (1 * 2 ^ c.args.place % 2 ^ 128) ≡ 0) c.zeros.ensures c.if-zeros-bit-ne0.false)
    (subst (λ n. bit_and n (1 * 2 ^ c.args.place % 2 ^ 128) ≡ 0) c.ones.ensures c.if-ones-bit-ne0.false)
