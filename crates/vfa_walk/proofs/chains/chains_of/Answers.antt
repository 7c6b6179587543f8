use Rattle.std.proofs.Common.{◌≡◌, ◌+◌, ◌-◌, replicate, length, sym, ◌∙◌, ap, subst, arith, rules}
use Rattle.std.proofs.Math.ListN.{length-set}
use Rattle.vfa_ir.specs.Walks.{successors}
use Rattle.vfa_walk.proofs.Chaining.{AreChainsFrom, all_chains, chains_more, no_chains}
use Rattle.vfa_walk.proofs.chains.chains_of.Goals as goal

pub edges-init : goal.edges-init
edges-init c =
    let first : c.in_ok-first.first.items ≡ replicate c.args.blocks c.args.edges = search rules in
    let next : c.in_ok-next.next.items ≡ replicate c.args.edges c.args.edges = search rules in
    record {
      chains = no_chains (successors c.args.f.now c.args.from.0) c.in_ok-first.first.items c.in_ok-next.next.items c.args.edges c.args.blocks c.requires first next;
      blocks = search rules;
      within = omega arith;
    }

pub edges-preserved : goal.edges-preserved
edges-preserved c =
    let targets = successors c.args.f.now c.args.from.0 in
    let next : c.edges.k ≡ (c.edges.k - 1) + 1 = omega arith in
    record {
      chains = chains_more targets c.edges.chains.first.items c.edges.chains.next.items (c.edges.k - 1) c.in-Some.to.0 (sym c.in-Some.ensures.target)
          (subst (λ n. AreChainsFrom n targets c.edges.chains.first.items c.edges.chains.next.items) next c.edges.invariant.chains) c.put_in_front.new.self.first.items c.put_in_front.new.self.next.items c.put_in_front.ensures.first c.put_in_front.ensures.next;
      blocks = ap length c.put_in_front.ensures.first ∙ (length-set _ _ _ ∙ c.edges.invariant.blocks);
      within = omega arith;
    }

pub returns-clause-chains : goal.returns-clause-chains
returns-clause-chains c = all_chains (successors c.args.f.now c.args.from.0) c.edges.chains.first.items c.edges.chains.next.items c.edges.k (omega arith) c.edges.invariant.chains
