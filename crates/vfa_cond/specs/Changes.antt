-- What facts were before they changed, and the state that comes back where a change is undone.
use Rattle.std.specs.Prelude.{◌≡◌, ◌<◌, ◌≤◌, ℕ, true, Bool, Option, Some, None, IsSome, List, length, is_some, slice_index_or, slice_set, All, count_by, if◌then◌else◌, nat_eq}
use Rattle.std.specs.List.{list_any}
use Rattle.vfa_ir.specs.declared.operations.ValueId.{ValueId}
use Rattle.vfa_cond.specs.States.{AbstractState, Stored, known, name_count, with_fact}

-- the fact that a name had before it changed, of a list with one for each name; none where it did not change
abbrev pub fact_before : {V : Type 0} → List (Option V) → ℕ → Option V
fact_before before v = slice_index_or before v None

abbrev pub or_present : {V : Type 0} → Option V → Option V → Option V
or_present None present = present
or_present (Some d) present = Some d

-- the state in which each name that changed has the fact back that it had before
abbrev pub restored : {V : Type 0} → List (Option V) → AbstractState V → AbstractState V
restored before s = record s { fact = λ v. or_present (fact_before before v) (s.fact v) }

-- no name changed
abbrev pub AreNone : {V : Type 0} → List (Option V) → Type 0
AreNone before = (v : ℕ) → fact_before before v ≡ None

-- they are changes of a state of this function: there is a place for each name, and names that changed still have a fact
pub record AreChangesOf {V : Type 0} (before : List (Option V)) (s : Stored V) : Type 0 where
  pub names : length before ≡ name_count s
  pub facts : (v : ℕ) → IsSome (fact_before before v) → IsSome ((known s).fact v)

-- as they are kept: the names that changed stand in a list of their own, which has room for all names
pub record AreListed {V : Type 0} (before : List (Option V)) (changed : List ValueId) (space : ℕ) : Type 0 where
  pub listed : (v : ℕ) → is_some (fact_before before v) ≡ true → list_any (λ (u : ValueId). nat_eq u.0 v) changed ≡ true
  pub range : All (λ (u : ValueId). u.0 < length before) changed
  pub few : length changed ≤ count_by is_some before
  pub room : length before ≤ space

-- the fact of a name is noted, unless an earlier one is
abbrev pub noting : {V : Type 0} → List (Option V) → ℕ → V → List (Option V)
noting before v fact = if is_some (fact_before before v) then before else slice_set before v (Some fact)

-- the name has this fact again, if there is one
abbrev pub with_back : {V : Type 0} → AbstractState V → ℕ → Option V → AbstractState V
with_back s v None = s
with_back s v (Some d) = with_fact s v (Some d)
