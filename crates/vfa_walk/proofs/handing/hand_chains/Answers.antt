use Rattle.std.proofs.Common.{◌<◌, length, sym, ◌∙◌, ap, arith}
use Rattle.std.proofs.lemmas.List.{length-map}
use Rattle.std.proofs.lemmas.Option.{slice_get_within}
use Rattle.vfa_ir.specs.PhisFit.{targets}
use Rattle.vfa_ir.specs.Walks.{successors}
use Rattle.vfa_cond.specs.States.{known}
use Rattle.vfa_walk.specs.Joining.{joined}
use Rattle.vfa_walk.specs.Kept.{kept_entries}
use Rattle.vfa_walk.specs.Sending.{entered}
use Rattle.vfa_walk.proofs.Edges.{leads_out}
use Rattle.vfa_walk.proofs.Handed.{given_all, given_more, none_entered}
use Rattle.vfa_walk.proofs.handing.hand_chains.Goals as goal

pub chains_of-requires : goal.chains_of-requires
chains_of-requires g c =
    c.edge_count.ensures
    ∙ sym (ap length (leads_out c.args.f.now c.args.from.0 c.args.block.now c.requires.block) ∙ length-map (targets c.args.block.now.term) (λ t. t.0))

pub edges-preserved : goal.edges-preserved
edges-preserved g c =
    let answers = g.V.Values.answers in
    let list = successors c.args.f.now c.args.from.0 in
    let at = sym c.in-Some.ensures.target in
    let inside : c.edges.k < length list = slice_get_within list c.edges.k c.in-Some.to.0 at in
    record {
      given = λ b less. given_more (joined answers) (λ to. entered answers c.args.f.now c.args.from.0 to (known c.args.end.now)) list c.edges.k b
          (kept_entries c.args.got.now b) (kept_entries c.edges.got b) (c.edges.invariant.given b less) c.in-Some.to.0 (kept_entries c.hand_chain.new.got b) at
          (c.in_ok-hand_chain.ensures.given b (omega (arith, less, c.edges.invariant.count)));
      states = c.in_ok-hand_chain.ensures.states;
      count = c.in_ok-hand_chain.ensures.count ∙ c.edges.invariant.count;
      within = omega (arith, inside);
    }

pub returns-clause-given : goal.returns-clause-given
returns-clause-given g c to less =
    let answers = g.V.Values.answers in
    let f = c.args.f.now in
    given_all (joined answers) (λ b. entered answers f c.args.from.0 b (known c.args.end.now)) (successors f c.args.from.0) c.edges.k to
    (kept_entries c.args.got.now to) (kept_entries c.edges.got to) (c.edges.invariant.given to less) c.in_default.ensures.target
    (none_entered answers f c.args.from.0 to (known c.args.end.now))
