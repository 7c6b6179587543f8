use Rattle.std.proofs.Common.{◌≡◌, drop}
use Rattle.std.specs.Option.{ForSome, option_map}
use Rattle.vfa_cfg.specs.Edges.{block_edges}
use Rattle.vfa_cond.specs.States.{known}
use Rattle.vfa_walk.specs.Kept.{IsStateOf}
use Rattle.vfa_walk.specs.Leaving.{joined_edges, paired}
use Rattle.vfa_walk.proofs.leaving.pair_from.Given as goal

abbrev pub invariant-edges : goal.invariant-edges
invariant-edges g l = record {
  rest : paired g.V.Values.answers l.f l.from.0 l.to.0 (known l.end) ≡ joined_edges g.V.Values.answers l.f l.to.0 (known l.end) (drop l.k (block_edges l.from.0 l.block.term)) (option_map known l.sum);
  state : ForSome l.sum (IsStateOf g.V.Values.ty g.V.Values.proper l.f);
}
