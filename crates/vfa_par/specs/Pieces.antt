-- helper: in no public contract
-- What a piece gives.
use Rattle.std.specs.Prelude.{List, [], Result, Ok, Err}
use Rattle.std.specs.declared.alloc.AllocError.{AllocError}
use Rattle.std.specs.declared.alloc.Global.{Global}
use Rattle.std.specs.declared.vec.Vec.{Vec}

-- the results of a piece; none where it had want of memory
abbrev pub results_of : {T : Type 0} → Result (Vec T Global) AllocError → List T
results_of (Ok results) = results.items
results_of (Err e) = []

-- the piece had no want of memory
abbrev pub IsDone : {T : Type 0} → Result (Vec T Global) AllocError → Type 0
IsDone (Ok results) = Unit {0}
IsDone (Err e) = ⊥
