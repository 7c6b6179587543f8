use Rattle.std.proofs.Common.{◌≡◌, ◌<◌, ◌≤◌, ℕ, Bool, true, drop, length, get_or}
use Rattle.std.specs.Option.{option_map}
use Rattle.vfa_ir.specs.Walks.{is_in}
use Rattle.vfa_cfg.specs.Order.{numbers}
use Rattle.vfa_cond.specs.States.{known}
use Rattle.vfa_walk.specs.Analysis.{IsLayout}
use Rattle.vfa_walk.specs.Kept.{AreStates, entry_in, kept_entries}
use Rattle.vfa_walk.specs.Sending.{layout, next_at}
use Rattle.vfa_walk.proofs.Nexts.{no_block}
use Rattle.vfa_walk.proofs.passes.all_next.Given as goal

abbrev pub invariant-order : goal.invariant-order
invariant-order g l = record {
  entries : (names : ℕ → ℕ → Bool) → IsLayout l.f (layout l.order names) → (k : ℕ) → k < l.place →
      option_map known (entry_in l.next.items k) ≡ next_at l.f l.order (kept_entries l.initial.got) names (get_or l.order k no_block).0;
  count : length l.next.items ≡ l.place;
  states : AreStates g.V.Values.ty g.V.Values.proper l.f l.next.items;
  kept : (b : ℕ) → is_in b (numbers (drop l.place l.order)) ≡ true → kept_entries l.got b ≡ kept_entries l.initial.got b;
  got_states : AreStates g.V.Values.ty g.V.Values.proper l.f l.got;
  within : l.place ≤ length l.order;
}
