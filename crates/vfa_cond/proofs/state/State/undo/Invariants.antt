use Rattle.std.proofs.Common.{◌≡◌, ℕ, IsSome, length, vec_capacity}
use Rattle.vfa_cond.specs.Changes.{AreListed, fact_before, restored}
use Rattle.vfa_cond.specs.States.{known, name_count, KeepsRoom}
use Rattle.vfa_cond.proofs.state.State.undo.Given as goal

-- what is left of the changes leads back to the same state
abbrev pub invariant-changed : goal.invariant-changed
invariant-changed g l =
    let before = l.changes-inside.before.items in
    let first = l.initial.changes-inside.before.items in
    record {
      listed : AreListed before l.changes-inside.changed.items (vec_capacity l.changes-inside.changed);
      names : length before ≡ name_count l.self;
      facts : (v : ℕ) → IsSome (fact_before before v) → IsSome ((known l.self).fact v);
      state : restored before (known l.self) ≡ restored first (known l.initial.self);
      long : length before ≡ length first;
      room : KeepsRoom l.initial.self l.self;
    }

-- each turn takes a name back
abbrev pub decreases-changed : goal.decreases-changed
decreases-changed g l = length l.changes-inside.changed.items
