use Rattle.std.proofs.Common.{[], ◌∷◌, ◌++◌, flat_map, get_or, refl, ◌∙◌, ap}
use Rattle.vfa_ir.specs.Printable.{block_ids}
use Rattle.vfa_mean.specs.Renaming.{at_places}
use Rattle.vfa_mean.proofs.KeptLoops.{left_more}
use Rattle.vfa_mean.proofs.kept.kept_values.Goals as goal

pub each-preserved : goal.each-preserved
each-preserved c =
    let n = get_or c.args.numbers.now c.each.number-index 0 in
    left_more block_ids c.args.f.now.blocks c.args.numbers.now c.each.number-index n
    (c.push_params.new.ids.items ++ flat_map block_ids (at_places c.args.f.now.blocks c.args.numbers.now)) c.each.ids.items c.push_block_of.new.ids.items
    c.each-test.true refl c.each.invariant
    (c.in_ok-push_block_of.ensures ∙ ap (λ bs. c.each.ids.items ++ flat_map block_ids (at_places bs (n ∷ []))) c.as_slice-in-each.ensures)
