use Rattle.std.proofs.Common.{◌≡◌, ◌<◌, ℕ, false, get_or}
use Rattle.vfa_cfg.specs.Heads.{is_head}
use Rattle.vfa_walk.proofs.Nexts.{no_block}
use Rattle.vfa_walk.proofs.loop_free.has_head.Given as goal

abbrev pub invariant-order : goal.invariant-order
invariant-order l = (k : ℕ) → k < l.b-index → is_head l.f l.order (get_or l.order k no_block).0 ≡ false
