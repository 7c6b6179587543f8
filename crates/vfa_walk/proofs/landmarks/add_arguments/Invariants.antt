use Rattle.std.proofs.Common.{◌≡◌, ◌++◌, drop, flat_map}
use Rattle.vfa_walk.specs.Landmarks.{literal_of}
use Rattle.vfa_walk.proofs.landmarks.add_arguments.Given as goal

abbrev pub invariant-arguments : goal.invariant-arguments
invariant-arguments l = l.initial.marks.items ++ flat_map (λ a. literal_of l.width a.width a.value) l.call.args ≡ l.marks.items ++ flat_map (λ a. literal_of l.width a.width a.value) (drop l.argument-index l.call.args)
