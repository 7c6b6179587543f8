use Rattle.std.proofs.Common.{◌≡◌, ◌<◌, ◌≤◌, ◌||◌, ◌-◌, ℕ, false, length, take, get_or}
use Rattle.vfa_ir.specs.Walks.{is_in, successors}
use Rattle.vfa_cfg.proofs.loops.mark_successors.Given as goal

abbrev pub invariant-edges : goal.invariant-edges
invariant-edges l = (l.k ≤ length (successors l.f l.from.0)) × (length l.marks.items ≡ length l.initial.marks.items)
    × ((b : ℕ) → b < length l.initial.marks.items →
    get_or l.marks.items b false ≡ (is_in b (take l.k (successors l.f l.from.0)) || get_or l.initial.marks.items b false))

abbrev pub decreases-edges : goal.decreases-edges
decreases-edges l = length (successors l.f l.from.0) - l.k
