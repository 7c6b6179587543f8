use Rattle.std.proofs.Common.{◌∙◌, ap}
use Rattle.vfa_opt.specs.Works.{items_in}
use Rattle.vfa_opt.proofs.MadeItems.{may_run, portions_in}
use Rattle.vfa_opt.proofs.written.portions.Goals as goal

pub each-requires-clause-inputs : goal.each-requires-clause-inputs
each-requires-clause-inputs g c κs within =
    may_run c.args.bytes.now c.args.items.now c.deref.result.now (ap items_in c.deref.ensures.value ∙ c.in_ok-shares.ensures.whole) c.requires.places
    c.requires.limit

pub returns : goal.returns
returns g c =
    portions_in c.args.writing c.args.bytes.now c.args.items.now c.deref.result.now c.each.result
    (ap items_in c.deref.ensures.value ∙ c.in_ok-shares.ensures.whole) c.each.ensures.results
