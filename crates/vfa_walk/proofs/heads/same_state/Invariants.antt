use Rattle.std.proofs.Common.{◌≡◌, ◌<◌, ◌≤◌, ℕ, length}
use Rattle.vfa_cond.specs.States.{known}
use Rattle.vfa_walk.proofs.heads.same_state.Given as goal

abbrev pub invariant-names : goal.invariant-names
invariant-names g l = record {
  facts : (u : ℕ) → u < l.v → (known l.a).fact u ≡ (known l.b).fact u;
  live : (u : ℕ) → u < l.v → (known l.a).live u ≡ (known l.b).live u;
  within : l.v ≤ length l.f.values;
}
