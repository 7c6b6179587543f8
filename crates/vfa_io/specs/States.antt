-- What sources and sinks tell at a moment, and how that changes in a call.
use Rattle.std.specs.Prelude.{ℕ, ◌<◌, ◌≤◌, List, Option, length}
use Rattle.std.specs.Io.KnownBytes.{Appends, Keeps}
use Rattle.vfa_io.specs.Bytes.{Gave}
use Rattle.vfa_io.specs.Count.{Rose}

-- a source: the bytes that are left, where it tells them, and its faults so far
pub record SourceState : Type 0 where
  pub left : Option (List ℕ)
  pub faults : ℕ

-- a sink: the bytes that were written, where it tells them, and its faults so far
pub record SinkState : Type 0 where
  pub written : Option (List ℕ)
  pub faults : ℕ

-- a state before a call and after it
pub record Change (State : Type 0) : Type 0 where
  pub before : State
  pub now : State

-- the change of what is told of a value
abbrev pub change : {Value State : Type 0} → (Value → State) → Value → Value → Change State
change state old new = record { before = state old; now = state new }

-- Sources

abbrev pub SourceFailed : Change SourceState → Type 0
SourceFailed source = Rose source.before.faults source.now.faults

abbrev pub GaveAtMost : Change SourceState → ℕ → Type 0
GaveAtMost source most = Gave source.before.left source.now.left (λ given. length given ≤ most)

abbrev pub GaveMore : Change SourceState → ℕ → Type 0
GaveMore source most = Gave source.before.left source.now.left (λ given. most < length given)

-- Sinks

abbrev pub SinkFailed : Change SinkState → Type 0
SinkFailed sink = Rose sink.before.faults sink.now.faults

-- the sink got these bytes, and no others
abbrev pub Got : Change SinkState → List ℕ → Type 0
Got sink bytes = Appends sink.before.written sink.now.written bytes

abbrev pub GotNothing : Change SinkState → Type 0
GotNothing sink = Keeps sink.before.written sink.now.written
