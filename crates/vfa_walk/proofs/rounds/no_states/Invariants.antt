use Rattle.std.proofs.Common.{◌≡◌, None, All, length}
use Rattle.vfa_walk.proofs.rounds.no_states.Given as goal

abbrev pub invariant-places : goal.invariant-places
invariant-places g l = record {
  count : length l.states.items ≡ l.counter;
  none : All (λ e. e ≡ None) l.states.items;
}
