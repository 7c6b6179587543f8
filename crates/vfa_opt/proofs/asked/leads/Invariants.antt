use Rattle.std.proofs.Common.{◌≡◌, ◌≤◌, ◌-◌, false, length, take}
use Rattle.vfa_ir.specs.Walks.{is_in, successors}
use Rattle.vfa_opt.proofs.asked.leads.Given as goal

-- none of the edges so far leads there
abbrev pub invariant-edges : goal.invariant-edges
invariant-edges l =
    (l.k ≤ length (successors l.f l.from.0)) × (is_in l.to.0 (take l.k (successors l.f l.from.0)) ≡ false)

abbrev pub decreases-edges : goal.decreases-edges
decreases-edges l = length (successors l.f l.from.0) - l.k
