use Rattle.std.proofs.Common.{◌++◌, flat_map, ◌∙◌, ap}
use Rattle.vfa_ir.specs.Operands.{arguments_of}
use Rattle.vfa_walk.specs.Landmarks.{typed_literal}
use Rattle.vfa_walk.proofs.landmarks.add_call.Goals as goal

pub returns : goal.returns
returns c = c.in_ok-add_found.ensures ∙ ap (λ o. c.args.marks.now.items ++ flat_map (typed_literal c.args.width) (arguments_of o)) c.find_call-found.ensures
