use Rattle.vfa_mean.specs.Kept.{is_marked}
use Rattle.vfa_mean.proofs.KeptLoops.{marked_more}
use Rattle.vfa_mean.proofs.kept.kept_numbers.Goals as goal

pub each-preserved : goal.each-preserved
each-preserved c =
    marked_more (is_marked c.args.keeps.now) c.each.number c.each.numbers.items c.push_marked.new.numbers.items c.each.invariant c.in_ok-push_marked.ensures
