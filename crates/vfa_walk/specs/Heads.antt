-- helper: in no public contract
-- States of heads in a round of widening, one place for each block of the order.
use Rattle.std.specs.Prelude.{◌≡◌, ℕ, true, if◌then◌else◌, Option, None, List}
use Rattle.vfa_ir.specs.declared.operations.BlockId.{BlockId}
use Rattle.vfa_ir.specs.declared.functions.Function.{Function}
use Rattle.vfa_cfg.specs.Heads.{is_head}
use Rattle.vfa_values.specs.Answers.{Answers}
use Rattle.vfa_cond.specs.States.{AbstractState, Stored}
use Rattle.vfa_walk.specs.Joining.{widened}
use Rattle.vfa_walk.specs.Kept.{kept_in_order}
use Rattle.vfa_walk.specs.Passes.{merged}

-- a block's state after the round: that of a head is widened by what it got, and other blocks have none
abbrev pub after_round : {V : Type 0} → Answers V → Function → List BlockId → ℕ → ℕ → Option (AbstractState V) → Option (AbstractState V) → Option (AbstractState V)
after_round answers f order round b old new = if is_head f order b then merged (widened answers f round) old new else None

-- the head has another state than it had
pub record HasChanged {V : Type 0} (f : Function) (order : List BlockId) (old new : List (Option (Stored V))) (b : ℕ) : Type 0 where
  pub head : is_head f order b ≡ true
  pub other : kept_in_order order new b ≡ kept_in_order order old b → ⊥

-- each head has the state that it had
abbrev pub AreSame : {V : Type 0} → Function → List BlockId → List (Option (Stored V)) → List (Option (Stored V)) → Type 0
AreSame f order old new = (b : ℕ) → is_head f order b ≡ true → kept_in_order order new b ≡ kept_in_order order old b
