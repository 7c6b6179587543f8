use Rattle.std.proofs.Common.{◌≡◌, Some, is_some, sym, ap, ◌∙◌, subst}
use Rattle.std.specs.Prelude.{slice_get}
use Rattle.std.specs.Option.{option_map}
use Rattle.vfa_ir.specs.declared.functions.Function.{Function}
use Rattle.vfa_cfg.specs.Edges.{edge}
use Rattle.vfa_cond.specs.States.{known}
use Rattle.vfa_walk.specs.Leaving.{along_edge, edges_out}
use Rattle.vfa_xfer.specs.Transfers.{fact_answers}
use Rattle.vfa_rewrite.specs.ByFacts.{edge_state}
use Rattle.vfa_rewrite.proofs.OutEdges.{no_edge, out_are, some_mapped, target_is}
use Rattle.vfa_rewrite.proofs.edges.is_left.Goals as goal

pub returns-in_default : goal.returns-in_default
returns-in_default c =
    no_edge c.args.f.now c.args.b.0 c.args.block.now c.requires.block (known c.args.end.now) c.args.k c.in_default.ensures.target

pub returns : goal.returns
returns c =
    let f = c.args.f.now in
    let b = c.args.b.0 in
    let s = known c.args.end.now in
    let e = edge b c.in-Some.to c.way_of.result in
    let there = target_is f b c.args.block.now c.requires.block c.args.k c.in-Some.to c.in-Some.ensures.target in
    let out : slice_get (edges_out f b) c.args.k ≡ Some e =
    ap (λ edges. slice_get edges c.args.k) (out_are f b c.args.block.now c.requires.block) ∙ c.way_of.ensures b c.in-Some.to there in
    let along = subst (λ (g : Function). option_map known c.in_ok-edge_state.field-0 ≡ along_edge fact_answers g e s) (sym c.requires.same) c.in_ok-edge_state.ensures.along in
    c.is_some.ensures
    ∙ (some_mapped known c.in_ok-edge_state.field-0
    ∙ (ap is_some along ∙ ap (λ o. is_some (edge_state f (Some s) o)) (sym out)))
