use Rattle.std.proofs.Common.{◌≡◌, ◌&&◌, not, ℕ, take}
use Rattle.std.specs.List.{list_any}
use Rattle.vfa_cond.specs.States.{known, KeepsRoom}
use Rattle.vfa_walk.specs.Stepping.{defines_by}
use Rattle.vfa_walk.proofs.definitions.end_among.Given as goal

abbrev pub invariant-insts : goal.invariant-insts
invariant-insts g l = record {
  live : (u : ℕ) → (known l.state).live u ≡ ((known l.initial.state).live u && not (list_any (defines_by l.f u l.v.0) (take l.inst-index l.insts)));
  facts : (known l.state).fact ≡ (known l.initial.state).fact;
  room : KeepsRoom l.initial.state l.state;
}
