use Rattle.std.proofs.Common.{◌≡◌, ◌<◌, length, ap, arith}
use Rattle.vfa_check.proofs.TestedWithin.{read_within}
use Rattle.vfa_check.proofs.tests.within.is_within.Goals as goal

pub returns-clause-within : goal.returns-clause-within
returns-clause-within c = λ t.
    let count : length c.as_slice-count.result.now ≡ length c.args.f.now.blocks = ap length c.as_slice-count.ensures in
    let some : 0 < length c.args.f.now.blocks = omega (arith, count) in
    read_within c.args.f.now c.as_slice-names.result.now c.as_slice-2.result.now c.as_slice.result.now (length c.as_slice-count.result.now)
    c.as_slice-names.ensures c.as_slice-2.ensures c.as_slice.ensures count some (c.has_parameters.ensures c.if-not-has_parameters.false)
    (c.has_blocks.ensures.names t) (c.has_blocks.ensures.targets t)
