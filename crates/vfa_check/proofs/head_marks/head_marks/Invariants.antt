use Rattle.std.proofs.Common.{◌≡◌, ℕ, drop, false, get_or, length}
use Rattle.vfa_cfg.specs.Heads.{is_head}
use Rattle.vfa_check.proofs.head_marks.head_marks.Given as goal

abbrev pub invariant-places : goal.invariant-places
invariant-places l = record {
  each : length l.marks.items ≡ length l.f.blocks;
  marked : (b : ℕ) → get_or l.marks.items b false ≡ is_head l.f (drop l.place l.order) b;
}
