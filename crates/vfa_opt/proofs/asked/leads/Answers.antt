use Rattle.std.proofs.Common.{◌∙◌, ap, arith, le_refl, length, sym, take_all}
use Rattle.std.proofs.lemmas.Option.{slice_get_within}
use Rattle.vfa_ir.specs.Walks.{is_in, successors}
use Rattle.vfa_cfg.proofs.Marks.{none_is_past}
use Rattle.vfa_walk.proofs.Handed.{found_earlier, not_earlier}
use Rattle.vfa_opt.proofs.asked.leads.Goals as goal

pub edges-preserved : goal.edges-preserved
edges-preserved c =
    let list = successors c.args.f.now c.args.from.0 in
    let at = sym c.in-Some.ensures.target in
    let inside = slice_get_within list c.edges.k c.in-Some.target.0 at in
    (omega (arith, inside), not_earlier list c.edges.k c.args.to.0 c.in-Some.target.0 at (sym c.if-eq.ensures) c.edges.invariant.1)

pub edges-smaller : goal.edges-smaller
edges-smaller c =
    let inside = slice_get_within (successors c.args.f.now c.args.from.0) c.edges.k c.in-Some.target.0 (sym c.in-Some.ensures.target) in
    omega (arith, inside)

pub returns-then-eq : goal.returns-then-eq
returns-then-eq c =
    let list = successors c.args.f.now c.args.from.0 in
    let at = sym c.in-Some.ensures.target in
    let inside = slice_get_within list c.edges.k c.in-Some.target.0 at in
    found_earlier list (length list) c.edges.k c.args.to.0 c.in-Some.target.0 inside at (sym c.if-eq.ensures)
    ∙ ap (is_in c.args.to.0) (take_all (length list) list (le_refl (length list)))

pub returns : goal.returns
returns c =
    let list = successors c.args.f.now c.args.from.0 in
    sym c.edges.invariant.1 ∙ ap (is_in c.args.to.0) (take_all c.edges.k list (none_is_past list c.edges.k c.in_default.ensures.target))
