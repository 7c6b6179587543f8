use Rattle.std.proofs.Common.{◌≡◌, false, take}
use Rattle.vfa_ir.specs.Walks.{is_in, successors}
use Rattle.vfa_walk.proofs.handing.comes_earlier.Given as goal

abbrev pub invariant-earlier : goal.invariant-earlier
invariant-earlier l = is_in l.to.0 (take l.j (successors l.f l.from.0)) ≡ false
