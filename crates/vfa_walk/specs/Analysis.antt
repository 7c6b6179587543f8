-- The flow of an analysis through a function: all its parts.
use Rattle.std.specs.Prelude.{ℕ, ◌-◌, ◌^◌, Bool, false, nat_eq, min, if◌then◌else◌, Option, Some, None, List, [], ◌∷◌, MatchBool, IsTrue, ◌≡◌}
use Rattle.vfa_ir.specs.declared.operations.BlockId.{BlockId}
use Rattle.vfa_ir.specs.declared.functions.Function.{Function}
use Rattle.vfa_ir.specs.declared.functions.Param.{Param}
use Rattle.vfa_ir.specs.Walks.{is_in, IsDefinedAt, IsMissedAt}
use Rattle.vfa_mean.specs.Outcomes.{has_noundef, type_of, first_block}
use Rattle.vfa_cfg.specs.Heads.{is_head}
use Rattle.vfa_cfg.specs.Order.{IsOrder, numbers}
use Rattle.vfa_values.specs.Answers.{Answers}
use Rattle.vfa_cond.specs.States.{AbstractState}
use Rattle.vfa_walk.specs.Flow.{Flow}
use Rattle.vfa_walk.specs.Joining.{joined, widened, kept_names}
use Rattle.vfa_walk.specs.Leaving.{handed_on}

-- ---- the blocks

-- The order of the blocks, and which names are in scope at the entry of each block of the order, its phis included.
pub record Layout : Type 0 where
  pub order : List BlockId
  pub in_scope : ℕ → ℕ → Bool

pub record IsLayout (f : Function) (l : Layout) : Type 0 where
  pub is_order : IsOrder f l.order
  -- a name is in scope where it is defined on every walk to the entry of the block
  pub scopes : (b v : ℕ) → IsTrue (is_in b (numbers l.order)) → MatchBool (l.in_scope b v) (IsDefinedAt f b 0 v) (IsMissedAt f b 0 v)
  pub outside : (b v : ℕ) → is_in b (numbers l.order) ≡ false → l.in_scope b v ≡ false

-- ---- where the function begins

-- what is known of a parameter: any number of its type, never poison where its words say so
abbrev pub parameter_fact : {V : Type 0} → Answers V → Function → List Param → ℕ → Option V
parameter_fact answers f [] v = None
parameter_fact answers f (p ∷ rest) v =
    if nat_eq p.value.0 v then Some (answers.any (type_of f p.value) (has_noundef p.words)) else parameter_fact answers f rest v

abbrev pub start_state : {V : Type 0} → Answers V → Function → AbstractState V
start_state answers f = record { fact = parameter_fact answers f f.params; live = λ _. false }

-- ---- the flow

-- the last round of which the widening takes note
abbrev pub last_round : ℕ
last_round = 2 ^ 32 - 1

abbrev pub flow_of : {V : Type 0} → Answers V → Function → Layout → Flow (AbstractState V)
flow_of answers f l = record {
  order = numbers l.order;
  first = first_block;
  start = start_state answers f;
  is_head = is_head f l.order;
  along = handed_on answers f;
  cut = λ b. kept_names (l.in_scope b);
  join = joined answers;
  widen = λ round. widened answers f (min round last_round);
}
