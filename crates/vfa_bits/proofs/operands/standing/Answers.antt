use Rattle.std.proofs.Common.{◌≡◌, ◌-◌, ◌+◌, suc, length, sym, ◌∙◌, ap, arith}
use Rattle.vfa_demand.specs.Masks.{mask_in}
use Rattle.vfa_bits.specs.Standing.{standing}
use Rattle.vfa_bits.proofs.Followed.{nothing_follows, chain_ends, chain_goes}
use Rattle.vfa_bits.proofs.operands.standing.Goals as goal

pub returns-in-None : goal.returns-in-None
returns-in-None c f are =
    let masks = mask_in c.args.masks.now in
    let table = c.args.replacements.now in
    c.zeroed.ensures
    ∙ sym (chain_ends f masks table (length table - c.chain._turn) c.chain.last are (sym c.next_operand.ensures ∙ c.in-None.is))
    ∙ c.chain.invariant f are ∙ ap (λ n. standing f masks n c.args.operand) are.whole

pub chain-preserved : goal.chain-preserved
chain-preserved c f are =
    let masks = mask_in c.args.masks.now in
    let table = c.args.replacements.now in
    let below = c.chain-test.true in
    let turns : length table - c.chain._turn ≡ suc (length table - (c.chain._turn + 1)) = omega (arith, below) in
    sym (chain_goes f masks table (length table - (c.chain._turn + 1)) c.chain.last c.in-Some.next are (sym c.next_operand.ensures ∙ c.in-Some.is))
    ∙ ap (λ n. standing f masks n c.chain.last) (sym turns) ∙ c.chain.invariant f are

pub returns : goal.returns
returns c f are =
    let masks = mask_in c.args.masks.now in
    let table = c.args.replacements.now in
    let past = c.chain-test.false in
    let none : length table - c.chain._turn ≡ 0 = omega (arith, past) in
    c.zeroed-2.ensures ∙ sym (nothing_follows f masks c.chain.last) ∙ ap (λ n. standing f masks n c.chain.last) (sym none)
    ∙ c.chain.invariant f are ∙ ap (λ n. standing f masks n c.args.operand) are.whole
