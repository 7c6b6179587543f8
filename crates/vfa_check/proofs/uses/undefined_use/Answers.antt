use Rattle.std.proofs.Common.{◌≡◌, ◌+◌, ◌<◌, All, get_or, length, ap, subst, sym, ◌∙◌, arith}
use Rattle.vfa_ir.specs.Defined.{UseIsDefined, uses_from}
use Rattle.vfa_check.proofs.UsesTold.{block_later, blocks_end}
use Rattle.vfa_check.proofs.uses.undefined_use.Goals as goal

pub each-preserved : goal.each-preserved
each-preserved c =
    let f = c.args.f.now in
    let blocks = c.as_slice-block-items.result.now in
    let b = c.each.b in
    let block = c.block-item.result in
    let within : b < length blocks = omega (arith, c.each.invariant.number) in
    let is : block ≡ get_or blocks b block = c.block-item.is ∙ ap (λ n. get_or blocks n block) (sym c.each.invariant.number) in
    record {
      number = ap (λ n. n + 1) c.each.invariant.number;
      rest = block_later f b blocks block c.in_ok-missed.missed (uses_from f 0 blocks) within is (sym c.is_some.ensures ∙ c.if-is_some.false)
          c.in_ok-missed.ensures c.each.invariant.rest;
    }

pub returns : goal.returns
returns c =
    let f = c.args.f.now in
    let blocks = c.as_slice-block-items.result.now in
    subst (λ bs. All (UseIsDefined f) (uses_from f 0 bs)) c.as_slice-block-items.ensures
    (blocks_end f c.each.b blocks (uses_from f 0 blocks) (omega (arith, c.each.invariant.number)) c.each.invariant.rest)
