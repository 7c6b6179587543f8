use Rattle.std.proofs.Common.{◌≡◌, ◌++◌, drop, flat_map}
use Rattle.vfa_walk.specs.Landmarks.{literals, block_literals}
use Rattle.vfa_walk.proofs.landmarks.add_literals.Given as goal

abbrev pub invariant-each : goal.invariant-each
invariant-each l = l.initial.marks.items ++ literals l.f l.width ≡ l.marks.items ++ flat_map (block_literals l.f l.width) (drop l.block-index l.f.blocks)
