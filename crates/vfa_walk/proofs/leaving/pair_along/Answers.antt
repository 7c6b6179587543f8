use Rattle.std.proofs.Common.{◌≡◌, ◌<◌, Some, drop, length, sym, ◌∙◌, ap, arith}
use Rattle.std.specs.Prelude.{slice_get}
use Rattle.std.specs.Option.{option_map}
use Rattle.std.proofs.lemmas.Option.{slice_get_within}
use Rattle.vfa_ir.specs.Walks.{successors}
use Rattle.vfa_cfg.specs.Edges.{block_edges}
use Rattle.vfa_cond.proofs.Fitting.{none_of}
use Rattle.vfa_cond.specs.States.{known}
use Rattle.vfa_walk.specs.Chains.{first_to}
use Rattle.vfa_walk.proofs.Chaining.{chain_begins, chain_more, first_number, first_stays, leads_at, leads_there, next_is, stands_again}
use Rattle.vfa_walk.proofs.Edges.{none_from, pair_ends}
use Rattle.vfa_walk.proofs.leaving.pair_along.Goals as goal

pub chain-init : goal.chain-init
chain-init g c =
    let targets = successors c.args.f.now c.args.from.0 in
    let first = first_number targets c.args.chains.now.first.items c.args.chains.now.next.items c.args.to.0 c.args.first c.requires.chains c.requires.first in
    record {
      rest = chain_begins g.V.Values.answers c.args.f.now c.args.from.0 c.args.to.0 c.args.block.now c.requires.block (known c.args.end.now) c.args.first first;
      here = ap (λ n. first_to c.args.to.0 (drop n targets)) first ∙ first_stays c.args.to.0 targets;
      state = none_of _;
    }

pub after-k-requires : goal.after-k-requires
after-k-requires g c =
    let targets = successors c.args.f.now c.args.from.0 in
    let next = c.args.chains.now.next.items in
    let at = sym c.in-Some.ensures.edge in
    let there = leads_there g.V.Values.answers c.args.f.now c.args.from.0 c.args.to.0 c.args.block.now c.requires.block (known c.args.end.now) c.chain.k c.in-Some.edge at c.chain.invariant.here in
    let leads : slice_get targets c.chain.k ≡ Some c.args.to.0 =
    leads_at g.V.Values.answers c.args.f.now c.args.from.0 c.args.to.0 c.args.block.now c.requires.block (known c.args.end.now) c.chain.k c.in-Some.edge at ∙ ap Some there in
    slice_get_within next c.chain.k _ (c.requires.chains.nexts c.chain.k c.args.to.0 (slice_get_within c.args.chains.now.first.items c.args.to.0 c.args.first c.requires.first) leads)

pub chain-preserved : goal.chain-preserved
chain-preserved g c =
    let answers = g.V.Values.answers in
    let f = c.args.f.now in
    let targets = successors f c.args.from.0 in
    let block = c.args.block.now in
    let end = known c.args.end.now in
    let at = sym c.in-Some.ensures.edge in
    let there = leads_there answers f c.args.from.0 c.args.to.0 block c.requires.block end c.chain.k c.in-Some.edge at c.chain.invariant.here in
    let leads : slice_get targets c.chain.k ≡ Some c.args.to.0 = leads_at answers f c.args.from.0 c.args.to.0 block c.requires.block end c.chain.k c.in-Some.edge at ∙ ap Some there in
    let inside = slice_get_within c.args.chains.now.first.items c.args.to.0 c.args.first c.requires.first in
    let after = next_is targets c.args.chains.now.first.items c.args.chains.now.next.items c.chain.k c.args.to.0 c.after-k.result c.requires.chains inside leads c.after-k.ensures in
    record {
      rest = chain_more answers f c.args.from.0 c.args.to.0 block c.requires.block end c.chain.k c.after-k.result c.in-Some.edge (option_map known c.chain.sum) (option_map known c.in_ok-sum.sum)
          at (ap (λ b. b.0) c.in-Some.ensures.from) c.chain.invariant.here c.chain.invariant.rest c.in_ok-sum.ensures.joined after;
      here = stands_again c.args.to.0 c.chain.k c.after-k.result targets after;
      state = c.in_ok-sum.ensures.state;
    }

pub returns-clause-pair : goal.returns-clause-pair
returns-clause-pair g c =
    sym (pair_ends g.V.Values.answers c.args.f.now c.args.from.0 c.args.to.0 c.args.block.now c.requires.block (known c.args.end.now) c.chain.k (option_map known c.chain.sum)
    (none_from (block_edges c.args.from.0 c.args.block.now.term) c.chain.k (sym c.in_default.ensures.edge)) c.chain.invariant.rest)

pub chain-smaller : goal.chain-smaller
chain-smaller g c =
    let answers = g.V.Values.answers in
    let f = c.args.f.now in
    let targets = successors f c.args.from.0 in
    let block = c.args.block.now in
    let end = known c.args.end.now in
    let at = sym c.in-Some.ensures.edge in
    let there = leads_there answers f c.args.from.0 c.args.to.0 block c.requires.block end c.chain.k c.in-Some.edge at c.chain.invariant.here in
    let leads : slice_get targets c.chain.k ≡ Some c.args.to.0 = leads_at answers f c.args.from.0 c.args.to.0 block c.requires.block end c.chain.k c.in-Some.edge at ∙ ap Some there in
    let inside = slice_get_within c.args.chains.now.first.items c.args.to.0 c.args.first c.requires.first in
    let after = next_is targets c.args.chains.now.first.items c.args.chains.now.next.items c.chain.k c.args.to.0 c.after-k.result c.requires.chains inside leads c.after-k.ensures in
    let within : c.chain.k < length (block_edges c.args.from.0 block.term) = slice_get_within (block_edges c.args.from.0 block.term) c.chain.k c.in-Some.edge at in
    omega (arith, after, within)
