use Rattle.std.proofs.Common.{arith, bit_xor}
use Rattle.std.specs.Int.{w128, trailing_zeros}
use Rattle.std.proofs.lemmas.Nat.{pow_pos}
use Rattle.vfa_known.proofs.EndRuns.{whole_low, low_within, low_power, low_is}
use Rattle.vfa_known.proofs.runs.low_run.Goals as goal

pub returns-then-others-eq0 : goal.returns-then-others-eq0
returns-then-others-eq0 g c = whole_low g.row.W c.most.result c.args.places c.requires.width c.most.ensures c.requires.fits c.if-others-eq0.true

pub overflow_shl-result : goal.overflow_shl-result
overflow_shl-result g c =
    low_within g.row.W c.most.result c.args.places c.requires.width c.most.ensures c.requires.fits (omega (arith, c.if-others-eq0.false))

pub overflow_sub-result : goal.overflow_sub-result
overflow_sub-result g c =
    let power = low_power g.row.W c.most.result c.args.places c.requires.width c.most.ensures c.requires.fits (omega (arith, c.if-others-eq0.false)) in
    let some = pow_pos (trailing_zeros w128 (bit_xor c.most.result c.args.places)) in omega arith

pub returns : goal.returns
returns g c =
    low_is g.row.W c.most.result c.args.places c.requires.width c.most.ensures c.requires.fits (omega (arith, c.if-others-eq0.false))
