-- Questions about one value at one place of a function, and their answers (LLVM's LazyValueInfo: getConstantRange at the entry of
-- a block, getConstantRangeOnEdge between two blocks).
--
-- In
--
--     entry:
--       %c = icmp ult i8 %x, 5
--       br i1 %c, label %a, label %b
--     a:
--       %y = add i8 %x, 1
--       br label %b
--     b:
--       ret i8 %x
--
-- facts say of %x at the entry of a that it is 0 to 4, and of %y where b is entered from a that it is 1 to 5. At the entry of b
-- %y is not defined, since the walk entry, b misses it.
use Rattle.std.specs.Prelude.{◌≡◌, ◌<◌, ℕ, Some, None, length, ⊤}
use Rattle.vfa_ir.specs.declared.operations.Ty.{Ty}
use Rattle.vfa_ir.specs.declared.functions.Function.{Function}
use Rattle.vfa_ir.specs.Defined.{line_count}
use Rattle.vfa_ir.specs.Walks.{IsEdge, IsMissedAt, IsReached}
use Rattle.vfa_mean.specs.declared.value.Val.{Val}
use Rattle.vfa_mean.specs.FreshOperands.{IsDefinedAtPlace}
use Rattle.vfa_mean.specs.Moments.{Place, Into, At, Moment}
use Rattle.vfa_mean.specs.Values.{Env}
use Rattle.vfa_values.specs.Answers.{Answers}
use Rattle.vfa_values.specs.Conditions.{IsOf}
use Rattle.vfa_cond.specs.Conditions.{name_type}
use Rattle.vfa_cond.specs.States.{AbstractState}
use Rattle.vfa_walk.specs.Tables.{States, IsTableOf, state_at}
use Rattle.vfa_walk.specs.TruthLaws.{IsNeverMet}
use Rattle.vfa_lazy.specs.declared.questions.Answer.{Answer}
use Rattle.vfa_lazy.specs.declared.questions.Place.{Place as Asked}

-- the place of runs that is asked about
abbrev pub place_of : Asked → Place
place_of (Asked.Entry b) = At b.0 0
place_of (Asked.Pair from to) = Into (Some from.0) to.0

-- it is one of the function: its block is a block, and its edge an edge
abbrev pub IsAskedOf : Function → Asked → Type 0
IsAskedOf f (Asked.Entry b) = b.0 < length f.blocks
IsAskedOf f (Asked.Pair from to) = IsEdge f from.0 to.0

-- some walk comes to the place: one that comes to a block goes on along each of its edges
abbrev pub IsReachedPlace : Function → Asked → Type 0
IsReachedPlace f (Asked.Entry b) = IsReached f b.0
IsReachedPlace f (Asked.Pair from to) = IsReached f from.0

-- some walk comes to the place without a definition of the name
abbrev pub IsMissed : Function → Asked → ℕ → Type 0
IsMissed f (Asked.Entry b) v = IsMissedAt f b.0 0 v
IsMissed f (Asked.Pair from to) v = IsMissedAt f from.0 (line_count f from.0) v

-- the table of the function has no state at the place
pub record HasNoState {V : Type 0} (answers : Answers V) (f : Function) (place : Place) : Type 0 where
  pub table : States V
  pub is_table : IsTableOf answers f table
  pub none : state_at answers f table place ≡ None

-- the table of the function has a state at the place, and there the name has this fact
pub record HasFact {V : Type 0} (answers : Answers V) (f : Function) (place : Place) (v : ℕ) (d : V) : Type 0 where
  pub table : States V
  pub is_table : IsTableOf answers f table
  pub state : AbstractState V
  pub there : state_at answers f table place ≡ Some state
  pub fact : state.fact v ≡ Some d

-- The answer to what is known of the name at the place. That it is not defined on some walk goes before the others.
abbrev pub IsAnswer : {V : Type 0} → Answers V → Function → Asked → ℕ → Answer V → Type 0
IsAnswer answers f asked v Answer.NotDefined = IsMissed f asked v
IsAnswer answers f asked v Answer.NeverReached = IsDefinedAtPlace f (place_of asked) v × HasNoState answers f (place_of asked)
IsAnswer answers f asked v (Answer.Fact d) = IsDefinedAtPlace f (place_of asked) v × HasFact answers f (place_of asked) v d

-- What an answer says of runs: the fact holds of the name's value whenever one comes to the place, and none comes to a place
-- that is never reached.
abbrev pub IsTrueOfRuns : {V : Type 0} → (V → Val → Type 0) → Function → Place → ℕ → Answer V → Type 0
IsTrueOfRuns holds f place v Answer.NotDefined = ⊤
IsTrueOfRuns holds f place v Answer.NeverReached = IsNeverMet f place
IsTrueOfRuns holds f place v (Answer.Fact d) = (env : Env) → Moment f place env → holds d (env v)

-- a fact is of the name's type
abbrev pub IsTypedAnswer : {V : Type 0} → (V → Ty) → (V → Type 0) → Function → ℕ → Answer V → Type 0
IsTypedAnswer ty proper f v Answer.NotDefined = ⊤
IsTypedAnswer ty proper f v Answer.NeverReached = ⊤
IsTypedAnswer ty proper f v (Answer.Fact d) = IsOf ty proper (name_type f v) d
