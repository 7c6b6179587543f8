use Rattle.std.proofs.Common.{◌≡◌, ◌++◌, drop, flat_map}
use Rattle.vfa_walk.specs.Landmarks.{phi_literals}
use Rattle.vfa_walk.proofs.landmarks.add_phis.Given as goal

abbrev pub invariant-phis : goal.invariant-phis
invariant-phis l = l.initial.marks.items ++ flat_map (phi_literals l.width) l.phis ≡ l.marks.items ++ flat_map (phi_literals l.width) (drop l.phi-index l.phis)
