-- The table of a function, its states at places, and what is said of tables.
use Rattle.std.specs.Prelude.{◌≡◌, ℕ, Bool, true, false, Option, Some, None, is_some, IsSome, IsSomeAnd}
use Rattle.std.specs.Option.{ForSome}
use Rattle.vfa_ir.specs.declared.operations.Ty.{Ty}
use Rattle.vfa_ir.specs.declared.functions.Function.{Function}
use Rattle.vfa_ir.specs.Walks.{is_in}
use Rattle.vfa_mean.specs.declared.value.Val.{Val}
use Rattle.vfa_mean.specs.Moments.{Place, Into, At, Moment}
use Rattle.vfa_mean.specs.Values.{Env}
use Rattle.vfa_cfg.specs.Order.{numbers}
use Rattle.vfa_values.specs.Answers.{Answers}
use Rattle.vfa_cond.specs.Conditions.{AreFacts}
use Rattle.vfa_cond.specs.Equations.{equation}
use Rattle.vfa_cond.specs.States.{AbstractState}
use Rattle.vfa_cond.specs.Truth.{IsTrueState}
use Rattle.vfa_walk.specs.Passes.{Entries, followed}
use Rattle.vfa_walk.specs.Rounds.{IsTable}
use Rattle.vfa_walk.specs.Stepping.{before_line}
use Rattle.vfa_walk.specs.Leaving.{left_to}
use Rattle.vfa_walk.specs.Analysis.{Layout, IsLayout, flow_of}

-- the entry states of the blocks of a function
abbrev pub States : Type 0 → Type 0
States V = Entries (AbstractState V)

-- t is the table of the function
pub record IsTableOf {V : Type 0} (answers : Answers V) (f : Function) (t : States V) : Type 0 where
  pub layout : Layout
  pub is_layout : IsLayout f layout
  pub is_table : IsTable (flow_of answers f layout) t

-- The state of a table at a place: the one that the instructions before it make of the entry state of its block; before the
-- phis of a block that is entered from another, what the edges from there hand on. The block that is entered first has no phis.
abbrev pub state_at : {V : Type 0} → Answers V → Function → States V → Place → Option (AbstractState V)
state_at answers f t (At b i) = followed (before_line answers f b i) (t b)
state_at answers f t (Into (Some from) to) = followed (left_to answers f from to) (t from)
state_at answers f t (Into None b) = t b

-- each live name has a fact, and an equation: it is the result of an instruction other than a phi or a call
abbrev pub AreLive : {V : Type 0} → Function → AbstractState V → Type 0
AreLive f s = (v : ℕ) → s.live v ≡ true → IsSome (s.fact v) × IsSome (equation f v)

-- a state of the entry of a block: it has facts of exactly the names in scope there, each of its name's type
pub record IsEntryState {V : Type 0} (ty : V → Ty) (proper : V → Type 0) (f : Function) (in_scope : ℕ → Bool) (s : AbstractState V) : Type 0 where
  pub names : (v : ℕ) → is_some (s.fact v) ≡ in_scope v
  pub facts : AreFacts ty proper f s
  pub live : AreLive f s

-- the table has the form of one of the function: blocks outside the order have no state, others none or one of their entry
pub record HasShape {V : Type 0} (ty : V → Ty) (proper : V → Type 0) (f : Function) (l : Layout) (t : States V) : Type 0 where
  pub outside : (b : ℕ) → is_in b (numbers l.order) ≡ false → t b ≡ None
  pub inside : (b : ℕ) → ForSome (t b) (IsEntryState ty proper f (l.in_scope b))

-- the table is true: whenever a run comes to the entry of a block, its phis done, there is a state, and it is true
abbrev pub IsTrueTable : {V : Type 0} → (V → Val → Type 0) → Function → States V → Type 0
IsTrueTable holds f t = (b : ℕ) (env : Env) → Moment f (At b 0) env → IsSomeAnd (t b) (λ s. IsTrueState holds f s env)
