use Rattle.std.proofs.Common.{◌≡◌, ◌++◌, drop, flat_map}
use Rattle.vfa_walk.specs.Landmarks.{op_literals}
use Rattle.vfa_walk.proofs.landmarks.add_insts.Given as goal

abbrev pub invariant-insts : goal.invariant-insts
invariant-insts l = l.initial.marks.items ++ flat_map (λ i. op_literals l.f l.width i.op) l.insts ≡ l.marks.items ++ flat_map (λ i. op_literals l.f l.width i.op) (drop l.inst-index l.insts)
