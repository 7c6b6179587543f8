use Rattle.std.proofs.Common.{◌<◌, sym, subst}
use Rattle.vfa_rewrite.proofs.Reaching.{targets_within}
use Rattle.vfa_rewrite.proofs.spreading.Search.follow.Goals as goal

pub come_to-requires : goal.come_to-requires
come_to-requires c =
    subst (λ n. c.in-Some.to.0 < n) (sym c.requires.count)
    (targets_within c.args.f.now c.requires.within c.args.b.0 c.args.k c.in-Some.to.0 (sym c.in-Some.ensures.target))
