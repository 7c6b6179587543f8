-- States: what is known of the names of a function at a place. The code keeps a state as the names that have a fact, in
-- ascending order, and a mark for each name of the function.
use Rattle.std.specs.Prelude.{suc, ◌≡◌, ◌<◌, ◌≤◌, ℕ, Bool, false, nat_eq, if◌then◌else◌, Option, Some, None, List, [], ◌∷◌, length, map, unwrap_or, is_some, slice_get, All, ⊤}
use Rattle.std.specs.List.{IsDistinct, list_any}
use Rattle.vfa_ir.specs.declared.operations.ValueId.{ValueId}
use Rattle.vfa_cond.specs.declared.state.Entry.{Entry}

-- a fact for each of some names, and which names have live equations
pub record AbstractState (V : Type 0) : Type 0 where
  pub fact : ℕ → Option V
  pub live : ℕ → Bool

-- as it is kept: the names that have a fact in ascending order, for each name of the function whether its equation is live,
-- and for how many facts there is room
pub record Stored (V : Type 0) : Type 0 where
  pub entries : List (Entry V)
  pub live : List Bool
  pub room : ℕ

abbrev pub fact_in : {V : Type 0} → List (Entry V) → ℕ → Option V
fact_in [] v = None
fact_in (e ∷ rest) v = if nat_eq e.name.0 v then Some e.fact else fact_in rest v

abbrev pub mark_in : List Bool → ℕ → Bool
mark_in marks v = unwrap_or (slice_get marks v) false

-- the state that is kept so
abbrev pub known : {V : Type 0} → Stored V → AbstractState V
known s = record { fact = fact_in s.entries; live = mark_in s.live }

-- how many names the function has
abbrev pub name_count : {V : Type 0} → Stored V → ℕ
name_count s = length s.live

-- there is room for a fact of every name
abbrev pub IsRoomy : {V : Type 0} → Stored V → Type 0
IsRoomy s = name_count s ≤ s.room

-- a state of the same function, with the same room
pub record KeepsRoom {V : Type 0} (old new : Stored V) : Type 0 where
  pub names : name_count new ≡ name_count old
  pub room : new.room ≡ old.room

-- the same names have facts, and the same equations are live
pub record KeepsNames {V : Type 0} (old new : AbstractState V) : Type 0 where
  pub facts : (v : ℕ) → is_some (new.fact v) ≡ is_some (old.fact v)
  pub live : (v : ℕ) → new.live v ≡ old.live v

-- the state in which the name has this fact, or none
abbrev pub with_fact : {V : Type 0} → AbstractState V → ℕ → Option V → AbstractState V
with_fact s v fact = record s { fact = λ u. if nat_eq u v then fact else s.fact u }

-- the state in which the name's equation is live, or is not
abbrev pub with_live : {V : Type 0} → AbstractState V → ℕ → Bool → AbstractState V
with_live s v live = record s { live = λ u. if nat_eq u v then live else s.live u }

-- ---- a state that is given by lists

-- the fact that stands with the name
abbrev pub given_fact : {V : Type 0} → List (ValueId × V) → ℕ → Option V
given_fact [] v = None
given_fact (p ∷ rest) v = if nat_eq p.0.0 v then Some p.1 else given_fact rest v

abbrev pub is_given : List ValueId → ℕ → Bool
is_given names v = list_any (λ u. nat_eq u.0 v) names

-- the state with these facts and these live equations
abbrev pub given : {V : Type 0} → List (ValueId × V) → List ValueId → AbstractState V
given facts live = record { fact = given_fact facts; live = is_given live }

-- the names differ, and are below the number of names
pub record AreGiven {V : Type 0} (names : ℕ) (facts : List (ValueId × V)) : Type 0 where
  pub distinct : IsDistinct nat_eq (map (λ p. p.0.0) facts)
  pub range : All (λ p. p.0.0 < names) facts

-- the names stand in ascending order, each from `low` on and below `high`
abbrev pub Ascends : {V : Type 0} → ℕ → ℕ → List (Entry V) → Type 0
Ascends low high [] = ⊤
Ascends low high (e ∷ rest) = (low ≤ e.name.0) × (e.name.0 < high) × Ascends (suc e.name.0) high rest
