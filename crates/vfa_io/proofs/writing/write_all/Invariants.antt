-- What was written so far is a prefix of the bytes, and the rest becomes shorter.
use Rattle.std.proofs.Common.{◌-◌, ◌≤◌, length, take}
use Rattle.std.specs.Io.KnownBytes.{Appends}
use Rattle.vfa_io.proofs.writing.write_all.Given as goal

abbrev pub invariant-pieces : goal.invariant-pieces
invariant-pieces g l = record {
  within : l.at ≤ length l.bytes;
  written : Appends (g.O.Sink.state l.fn.sink).written (g.O.Sink.state l.sink).written (take l.at l.bytes);
  later : (g.O.Sink.state l.fn.sink).faults ≤ (g.O.Sink.state l.sink).faults;
}

abbrev pub decreases-pieces : goal.decreases-pieces
decreases-pieces g l = length l.bytes - l.at
