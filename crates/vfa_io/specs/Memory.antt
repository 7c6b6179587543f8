-- A source and a sink in memory, as numbers and lists.
use Rattle.std.specs.Prelude.{ℕ, ◌-◌, List, ◌++◌, length, take, drop, min}
use Rattle.vfa_io.specs.Count.{raised}

pub record Reading : Type 0 where
  -- the bytes that are left
  pub left : List ℕ
  -- at most as many bytes are given at a time
  pub piece : ℕ
  -- the numbers, from 1, of the calls that fail
  pub failing : List ℕ
  -- the calls so far
  pub calls : ℕ
  -- those that failed
  pub faults : ℕ

-- as many bytes as the piece, the buffer and the bytes left allow
abbrev pub piece_of : Reading → ℕ → ℕ
piece_of source room = min source.piece (min room (length source.left))

-- after a call that gave n bytes
abbrev pub after_read : Reading → ℕ → Reading
after_read source n = record source { left = drop n source.left; calls = raised source.calls }

-- after a call that failed
abbrev pub after_failed_read : Reading → Reading
after_failed_read source = record source { calls = raised source.calls; faults = raised source.faults }

pub record Writing : Type 0 where
  -- the bytes that were written
  pub written : List ℕ
  -- there is room for as many bytes in all
  pub room : ℕ
  -- the numbers, from 1, of the calls that fail
  pub failing : List ℕ
  -- the calls so far
  pub calls : ℕ
  -- those that failed
  pub faults : ℕ

-- as many of the bytes as there is room for
abbrev pub part_of : Writing → List ℕ → List ℕ
part_of sink bytes = take (sink.room - length sink.written) bytes

-- after a call that took these bytes
abbrev pub after_write : Writing → List ℕ → Writing
after_write sink bytes = record sink { written = sink.written ++ bytes; calls = raised sink.calls }

-- after a call that failed
abbrev pub after_failed_write : Writing → Writing
after_failed_write sink = record sink { calls = raised sink.calls; faults = raised sink.faults }
