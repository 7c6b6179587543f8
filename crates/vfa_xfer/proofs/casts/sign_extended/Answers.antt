use Rattle.std.proofs.Common.{arith}
use Rattle.std.proofs.lemmas.Nat.{pow_below}
use Rattle.vfa_xfer.proofs.CastRows.{extended_low, extended_high}
use Rattle.vfa_xfer.proofs.casts.sign_extended.Goals as goal

pub overflow_sub-result : goal.overflow_sub-result
overflow_sub-result g c = let p = pow_below c.args.from g.row.W c.requires.wider in omega arith

pub returns-then-mask-most_from : goal.returns-then-mask-most_from
returns-then-mask-most_from g c =
    extended_low c.args.from g.row.W c.most_of-most_from.result c.args.mask c.requires.from.least c.requires.wider c.most_of-most_from.ensures c.if-mask-most_from.true

pub returns : goal.returns
returns g c =
    extended_high c.args.from g.row.W c.most_of-most_from.result c.most.result c.args.mask c.requires.from.least c.requires.wider c.most_of-most_from.ensures c.most.ensures c.requires.fits c.if-mask-most_from.false
