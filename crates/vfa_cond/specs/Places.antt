-- helper: in no public contract
-- The place of a name among the names that have a fact.
use Rattle.std.specs.Prelude.{ℕ, suc, nat_lt, nat_eq, if◌then◌else◌, Option, Some, None, List, [], ◌∷◌}
use Rattle.vfa_cond.specs.declared.state.Entry.{Entry}

-- how many names stand before the name: the place where it stands, or where it would
abbrev pub place_in : {V : Type 0} → List (Entry V) → ℕ → ℕ
place_in [] v = 0
place_in (e ∷ rest) v = if nat_lt e.name.0 v then suc (place_in rest v) else 0

-- the fact of the entry that stands at the name's place, where it is the name's
abbrev pub found : {V : Type 0} → ℕ → Option (Entry V) → Option V
found v None = None
found v (Some e) = if nat_eq e.name.0 v then Some e.fact else None
