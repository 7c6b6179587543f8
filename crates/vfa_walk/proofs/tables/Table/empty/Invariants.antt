use Rattle.std.proofs.Common.{◌≡◌, None, All, length}
use Rattle.vfa_walk.proofs.tables.Table.empty.Given as goal

abbrev pub invariant-blocks-2 : goal.invariant-blocks-2
invariant-blocks-2 g l = record {
  count : length l.entries.items ≡ l.counter;
  none : All (λ e. e ≡ None) l.entries.items;
}
