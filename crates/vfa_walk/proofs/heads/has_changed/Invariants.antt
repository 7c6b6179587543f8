use Rattle.std.proofs.Common.{◌≡◌, ◌<◌, ◌≤◌, ℕ, true, length, get_or}
use Rattle.std.specs.Option.{option_map}
use Rattle.vfa_cfg.specs.Heads.{is_head}
use Rattle.vfa_cond.specs.States.{known}
use Rattle.vfa_walk.specs.Kept.{entry_in}
use Rattle.vfa_walk.proofs.Nexts.{no_block}
use Rattle.vfa_walk.proofs.heads.has_changed.Given as goal

abbrev pub invariant-order : goal.invariant-order
invariant-order g l = record {
  same : (k : ℕ) → k < l.place → is_head l.f l.order (get_or l.order k no_block).0 ≡ true → option_map known (entry_in l.new k) ≡ option_map known (entry_in l.old k);
  within : l.place ≤ length l.order;
}
