use Rattle.std.proofs.Common.{[], ◌∷◌, ◌++◌, flat_map, get_or, refl, ◌∙◌, ap}
use Rattle.vfa_ir.specs.Printable.{block_call_places}
use Rattle.vfa_mean.specs.Renaming.{at_places}
use Rattle.vfa_mean.proofs.KeptLoops.{left_more}
use Rattle.vfa_mean.proofs.kept.kept_calls.Goals as goal

pub each-preserved : goal.each-preserved
each-preserved c =
    let n = get_or c.args.numbers.now c.each.number-index 0 in
    left_more block_call_places c.args.f.now.blocks c.args.numbers.now c.each.number-index n
    (flat_map block_call_places (at_places c.args.f.now.blocks c.args.numbers.now)) c.each.calls.items c.push_calls_of.new.calls.items
    c.each-test.true refl c.each.invariant
    (c.in_ok-push_calls_of.ensures ∙ ap (λ bs. c.each.calls.items ++ flat_map block_call_places (at_places bs (n ∷ []))) c.as_slice.ensures)
