use Rattle.std.proofs.Common.{◌≡◌, ◌-◌, drop, length}
use Rattle.std.specs.Option.{ForSome, option_map}
use Rattle.vfa_ir.specs.Walks.{successors}
use Rattle.vfa_cfg.specs.Edges.{block_edges}
use Rattle.vfa_cond.specs.States.{known}
use Rattle.vfa_walk.specs.Chains.{first_to}
use Rattle.vfa_walk.specs.Kept.{IsStateOf}
use Rattle.vfa_walk.specs.Leaving.{joined_edges, paired}
use Rattle.vfa_walk.proofs.leaving.pair_along.Given as goal

abbrev pub invariant-chain : goal.invariant-chain
invariant-chain g l = record {
  rest : paired g.V.Values.answers l.f l.from.0 l.fn.to.0 (known l.end) ≡ joined_edges g.V.Values.answers l.f l.fn.to.0 (known l.end) (drop l.k (block_edges l.from.0 l.block.term)) (option_map known l.sum);
  here : first_to l.fn.to.0 (drop l.k (successors l.f l.from.0)) ≡ 0;
  state : ForSome l.sum (IsStateOf g.V.Values.ty g.V.Values.proper l.f);
}

abbrev pub decreases-chain : goal.decreases-chain
decreases-chain g l = length (block_edges l.from.0 l.block.term) - l.k
