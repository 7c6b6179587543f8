use Rattle.std.proofs.Common.{◌++◌, ◌∙◌, ap}
use Rattle.vfa_walk.proofs.Marking.{arguments_same}
use Rattle.vfa_walk.proofs.landmarks.add_found.Goals as goal

pub returns : goal.returns
returns c = rw c.in-Some.is (c.in_ok-add_arguments.ensures ∙ ap (λ l. c.args.marks.now.items ++ l) (arguments_same c.args.width c.in-Some.call.now.args))
