-- What is said of true tables, at each moment of a run.
use Rattle.std.specs.Prelude.{◌≡◌, ℕ, true, Some, length, slice_get, IsSome, IsSomeAnd}
use Rattle.std.specs.Option.{ForSome}
use Rattle.vfa_ir.specs.declared.operations.Ty.{Ty}
use Rattle.vfa_ir.specs.declared.functions.Block.{Block}
use Rattle.vfa_ir.specs.declared.functions.Function.{Function}
use Rattle.vfa_cfg.specs.declared.listing.Edge.{Edge}
use Rattle.vfa_mean.specs.declared.value.Val.{Val}
use Rattle.vfa_mean.specs.Values.{Env}
use Rattle.vfa_mean.specs.FreshOperands.{IsDefinedAtPlace}
use Rattle.vfa_mean.specs.Moments.{Place, At, Moment}
use Rattle.vfa_mean.specs.Outcomes.{Edge as ToEdge, exit_of}
use Rattle.vfa_values.specs.Answers.{Answers}
use Rattle.vfa_cond.specs.Conditions.{AreFacts}
use Rattle.vfa_cond.specs.States.{AbstractState}
use Rattle.vfa_cond.specs.Truth.{IsTrueState}
use Rattle.vfa_walk.specs.Flow.{Flow}
use Rattle.vfa_walk.specs.Passes.{followed, pass_next}
use Rattle.vfa_walk.specs.Leaving.{along_edge, edges_out}
use Rattle.vfa_walk.specs.Tables.{AreLive, States, state_at}

-- each fact in the table is of its name's type
abbrev pub HasTypedFacts : {V : Type 0} → (V → Ty) → (V → Type 0) → Function → States V → Type 0
HasTypedFacts ty proper f t = (b : ℕ) → ForSome (t b) (AreFacts ty proper f)

-- a state of a place: it has a fact of each name that is defined on every walk there, and each fact is of its name's type
pub record IsStateAt {V : Type 0} (ty : V → Ty) (proper : V → Type 0) (f : Function) (place : Place) (s : AbstractState V) : Type 0 where
  pub names : (v : ℕ) → IsDefinedAtPlace f place v → IsSome (s.fact v)
  pub facts : AreFacts ty proper f s
  pub live : AreLive f s

-- whenever a run comes to a place, there is a state there, and it is true
abbrev pub IsTrueAtPlaces : {V : Type 0} → (V → Val → Type 0) → Answers V → Function → States V → Type 0
IsTrueAtPlaces holds answers f t = (place : Place) (env : Env) → Moment f place env → IsSomeAnd (state_at answers f t place) (λ s. IsTrueState holds f s env)

-- At the end of block b: its edge of number k leads to the target, and what it makes of the state there is a state, and true.
pub record TakesTrueEdge {V : Type 0} (holds : V → Val → Type 0) (answers : Answers V) (f : Function) (t : States V) (b : ℕ) (block : Block) (env : Env) (k target : ℕ) : Type 0 where
  pub taken : Edge
  pub stands : slice_get (edges_out f b) k ≡ Some taken
  pub goes : taken.to.0 ≡ target
  pub is_true : IsSomeAnd (followed (along_edge answers f taken) (state_at answers f t (At b (length block.insts)))) (λ s. IsTrueState holds f s env)

-- so it is of each edge, whenever a run takes it
abbrev pub IsTrueAlongEdges : {V : Type 0} → (V → Val → Type 0) → Answers V → Function → States V → Type 0
IsTrueAlongEdges holds answers f t = (b : ℕ) (block : Block) (env : Env) (k target : ℕ) → slice_get f.blocks b ≡ Some block →
    Moment f (At b (length block.insts)) env → exit_of block.term env ≡ ToEdge k target → TakesTrueEdge holds answers f t b block env k target

-- no run comes to the place
abbrev pub IsNeverMet : Function → Place → Type 0
IsNeverMet f place = (env : Env) → Moment f place env → ⊥

-- At each head the states x cover what a pass that was made of them gives the head: where that is true of the values, so is x.
abbrev pub CoverNext : {V : Type 0} → (V → Val → Type 0) → Function → Flow (AbstractState V) → States V → Type 0
CoverNext holds f m x = (b : ℕ) (env : Env) → m.is_head b ≡ true → IsSomeAnd (pass_next m x b) (λ s. IsTrueState holds f s env) → IsSomeAnd (x b) (λ s. IsTrueState holds f s env)
