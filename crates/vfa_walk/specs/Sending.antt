-- helper: in no public contract
-- What blocks have got in a pass, block after block.
use Rattle.std.specs.Prelude.{◌≡◌, ◌<◌, ◌⊎◌, ℕ, Bool, true, false, nat_eq, MatchBool, Option, None, List, length, if◌then◌else◌}
use Rattle.std.specs.Option.{option_map}
use Rattle.vfa_ir.specs.declared.operations.BlockId.{BlockId}
use Rattle.vfa_ir.specs.declared.functions.Function.{Function}
use Rattle.vfa_ir.specs.Walks.{IsDefinedAt, IsMissedAt}
use Rattle.vfa_cfg.specs.Heads.{is_head}
use Rattle.vfa_values.specs.Answers.{Answers}
use Rattle.vfa_cond.specs.States.{AbstractState, Stored}
use Rattle.vfa_walk.specs.Analysis.{Layout}
use Rattle.vfa_walk.specs.Joining.{joined, kept_names}
use Rattle.vfa_walk.specs.Kept.{kept_entries}
use Rattle.vfa_walk.specs.Leaving.{handed_on, paired, with_phis}
use Rattle.vfa_walk.specs.Passes.{followed, gathered, merged}
use Rattle.vfa_walk.specs.Tables.{States}

-- what all edges of a block to another make of the state before its terminator, the phis there assigned
abbrev pub entered : {V : Type 0} → Answers V → Function → ℕ → ℕ → AbstractState V → Option (AbstractState V)
entered answers f from to s = option_map (with_phis answers f from to) (paired answers f from to s)

-- what a block hands on to another, by the entry states
abbrev pub sent : {V : Type 0} → Answers V → Function → States V → ℕ → ℕ → Option (AbstractState V)
sent answers f t to from = followed (handed_on answers f from to) (t from)

-- what a block has got from these blocks
abbrev pub got_from : {V : Type 0} → Answers V → Function → States V → List ℕ → ℕ → Option (AbstractState V)
got_from answers f t blocks to = gathered (joined answers) (sent answers f t to) blocks None

-- each block has got what it had, and then this
abbrev pub HaveGot : {V : Type 0} → Answers V → (ℕ → Option (AbstractState V)) → List (Option (Stored V)) → List (Option (Stored V)) → Type 0
HaveGot answers next old new = (to : ℕ) → to < length old → kept_entries new to ≡ merged (joined answers) (kept_entries old to) (next to)

-- another block than this one, unless this one is a head
abbrev pub IsApart : Function → List BlockId → ℕ → ℕ → Type 0
IsApart f order b c = (nat_eq c b ≡ false) ⊎ (is_head f order b ≡ true)

-- these are the names in scope at the entry of the block
abbrev pub IsScopeAt : Function → ℕ → (ℕ → Bool) → Type 0
IsScopeAt f b names = (v : ℕ) → MatchBool (names v) (IsDefinedAt f b 0 v) (IsMissedAt f b 0 v)

abbrev pub layout : List BlockId → (ℕ → ℕ → Bool) → Layout
layout order names = record { order = order; in_scope = names }

-- what a head has got, cut to the names in scope at its entry
abbrev pub next_at : {V : Type 0} → Function → List BlockId → States V → (ℕ → ℕ → Bool) → ℕ → Option (AbstractState V)
next_at f order got names b = if is_head f order b then option_map (kept_names (names b)) (got b) else None
