-- States and tables as they are kept.
use Rattle.std.specs.Prelude.{◌≡◌, ◌≤◌, ℕ, length, Option, Some, None, List, [], ◌∷◌, All, nat_eq, if◌then◌else◌, slice_get}
use Rattle.std.specs.Option.{ForSome, option_map}
use Rattle.vfa_ir.specs.declared.operations.Ty.{Ty}
use Rattle.vfa_ir.specs.declared.operations.BlockId.{BlockId}
use Rattle.vfa_ir.specs.declared.functions.Function.{Function}
use Rattle.vfa_cond.specs.Conditions.{AreFacts}
use Rattle.vfa_cond.specs.States.{AbstractState, Stored, known, name_count, IsRoomy, with_fact, with_live}
use Rattle.vfa_walk.specs.Passes.{Entries}

-- a state of the function: facts of its names alone, each of its name's type, with room for a fact of every name
pub record IsStateOf {V : Type 0} (ty : V → Ty) (proper : V → Type 0) (f : Function) (s : Stored V) : Type 0 where
  pub names : name_count s ≡ length f.values
  pub roomy : IsRoomy s
  pub facts : AreFacts ty proper f (known s)
  pub within : (v : ℕ) → length f.values ≤ v → (known s).fact v ≡ None

-- entry states of the function
abbrev pub AreStates : {V : Type 0} → (V → Ty) → (V → Type 0) → Function → List (Option (Stored V)) → Type 0
AreStates ty proper f list = All (λ e. ForSome e (IsStateOf ty proper f)) list

-- the state with the part of one name taken over from another
abbrev pub taken : {V : Type 0} → ℕ → AbstractState V → AbstractState V → AbstractState V
taken v from s = with_live (with_fact s v (from.fact v)) v (from.live v)

-- what stands at a place of a list of entries
abbrev pub entry_in : {V : Type 0} → List (Option (Stored V)) → ℕ → Option (Stored V)
entry_in list b = elim (slice_get list b) [ None ↦ None | Some e ↦ e ]

-- the entry states that a list keeps, one place for each block
abbrev pub kept_entries : {V : Type 0} → List (Option (Stored V)) → Entries (AbstractState V)
kept_entries list b = elim (slice_get list b) [ None ↦ None | Some e ↦ option_map known e ]

-- the entry states that a list keeps, one place for each block of the order
abbrev pub kept_in_order : {V : Type 0} → List BlockId → List (Option (Stored V)) → Entries (AbstractState V)
kept_in_order [] list c = None
kept_in_order (b ∷ rest) [] c = None
kept_in_order (b ∷ rest) (e ∷ list) c = if nat_eq b.0 c then option_map known e else kept_in_order rest list c
