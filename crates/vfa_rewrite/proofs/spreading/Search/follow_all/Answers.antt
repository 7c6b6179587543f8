use Rattle.std.proofs.Common.{sym, ap, ◌∙◌, length, add-one}
use Rattle.vfa_ir.specs.Walks.{successors}
use Rattle.vfa_rewrite.specs.Spread.{Spread, spread_along, spread_over}
use Rattle.vfa_rewrite.proofs.SpreadLaws.{over_count}
use Rattle.vfa_rewrite.proofs.spreading.Search.follow_all.Goals as goal

pub follow-requires-clause-count : goal.follow-requires-clause-count
follow-requires-clause-count c =
    ap (λ (s : Spread). length s.marks) c.edges.invariant
    ∙ (over_count (successors c.args.f.now c.args.b.0) c.args.left.now c.args.self.now c.edges.k ∙ c.requires.count)

pub edges-preserved : goal.edges-preserved
edges-preserved c =
    let targets = successors c.args.f.now c.args.b.0 in
    c.in_ok-follow.ensures
    ∙ (ap (λ s. spread_along targets c.args.left.now s c.edges.k) c.edges.invariant
    ∙ ap (spread_over targets c.args.left.now c.args.self.now) (sym (add-one c.edges.k)))
