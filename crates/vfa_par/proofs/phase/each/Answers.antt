use Rattle.std.proofs.Common.{subst, rules, ◌<◌, get_or}
use Rattle.vfa_par.proofs.InOrder.{results_of_all, mapped_all, GaveResults}
use Rattle.vfa_par.proofs.phase.each.Goals as goal

some : (g : _) (c : goal.After-joined g) → 0 < c.piece_size-size.result
some g c = search rules

pub returns-clause-results : goal.returns-clause-results
returns-clause-results g c =
    let R = g.K.Work.is_result c.args.work.now in
    results_of_all R c.piece_size-size.result c.args.inputs.now c.in_ok-pieces.pieces.items c.joined.result (some g c) (search rules)
    (λ n d lt. let given = (c.in_ok-pieces.ensures.each n d (search rules)).1 in subst (λ l. GaveResults R c.piece_size-size.result l (get_or c.in_ok-pieces.pieces.items n d)) given.argument_is.value given.call)
    c.joined.ensures.whole c.joined.ensures.results

pub returns-clause-mapped : goal.returns-clause-mapped
returns-clause-mapped g c f one =
    mapped_all (g.K.Work.is_result c.args.work.now) c.piece_size-size.result f one c.args.inputs.now c.joined.result (returns-clause-results g c)
