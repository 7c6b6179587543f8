use Rattle.std.proofs.Common.{◌≡◌, ◌<◌, ◌≤◌, ℕ, length, get_or}
use Rattle.std.specs.Option.{option_map}
use Rattle.vfa_cond.specs.States.{known}
use Rattle.vfa_walk.specs.Heads.{after_round}
use Rattle.vfa_walk.specs.Kept.{AreStates, entry_in}
use Rattle.vfa_walk.proofs.Nexts.{no_block}
use Rattle.vfa_walk.proofs.heads.all_widened.Given as goal

abbrev pub invariant-order : goal.invariant-order
invariant-order g l = record {
  entries : (k : ℕ) → k < l.place → option_map known (entry_in l.after.items k)
      ≡ after_round g.V.Values.answers l.f l.order l.round (get_or l.order k no_block).0 (option_map known (entry_in l.old k)) (option_map known (entry_in l.new k));
  count : length l.after.items ≡ l.place;
  states : AreStates g.V.Values.ty g.V.Values.proper l.f l.after.items;
  within : l.place ≤ length l.order;
}
