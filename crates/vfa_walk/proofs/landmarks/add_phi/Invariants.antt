use Rattle.std.proofs.Common.{◌≡◌, ◌++◌, drop, flat_map}
use Rattle.vfa_walk.specs.Landmarks.{literal_of}
use Rattle.vfa_walk.proofs.landmarks.add_phi.Given as goal

abbrev pub invariant-entries : goal.invariant-entries
invariant-entries l = l.initial.marks.items ++ flat_map (λ e. literal_of l.width l.phi.width e.0) l.phi.entries ≡ l.marks.items ++ flat_map (λ e. literal_of l.width l.phi.width e.0) (drop l.entry-index l.phi.entries)
