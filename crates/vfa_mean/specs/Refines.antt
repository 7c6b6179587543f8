-- When one function may stand in place of another: everything that may come of it is allowed by something that may come
-- of the other. After the calls so far undefined behaviour allows everything, a returned or passed poison allows every
-- value in its place, and anything else allows itself alone.
use Rattle.std.specs.Prelude.{ℕ, ◌≡◌, List, [], ◌∷◌, Option, All, map, slice_get, option_and_then, ⊤}
use Rattle.vfa_ir.specs.declared.operations.Ty.{Ty}
use Rattle.vfa_ir.specs.declared.functions.Function.{Function}
use Rattle.vfa_ir.specs.declared.functions.Param.{Param}
use Rattle.vfa_mean.specs.declared.value.Val.{Val}
use Rattle.vfa_mean.specs.Values.{AllowsValue}
use Rattle.vfa_mean.specs.Outcomes.{Passed, Event, End, Ub, Returned, Outcome, type_of, parameter_types, AreArguments, IsAnswer, Out}

-- an argument allows one of the same width
pub record AllowsPassed (a a' : Passed) : Type 0 where
  pub width : a.width ≡ a'.width
  pub value : AllowsValue a.value a'.value

-- as many arguments, each allowed
abbrev pub AllowsArguments : List Passed → List Passed → Type 0
AllowsArguments [] [] = ⊤
AllowsArguments [] (a' ∷ args') = ⊥
AllowsArguments (a ∷ args) [] = ⊥
AllowsArguments (a ∷ args) (a' ∷ args') = AllowsPassed a a' × AllowsArguments args args'

-- a call allows a call of the same function
pub record AllowsEvent (e e' : Event) : Type 0 where
  pub callee : e.callee ≡ e'.callee
  pub args : AllowsArguments e.args e'.args

-- an end that is not undefined allows itself, and a returned poison every returned value
abbrev pub AllowsEnd : End → End → Type 0
AllowsEnd (Returned v) (Returned v') = AllowsValue v v'
AllowsEnd end end' = end ≡ end'

-- Calls and an end allow others: each call allows the one at its place; where the end is undefined any calls and any end
-- may follow, and else as many calls and an allowed end.
abbrev pub AllowsRest : List Event → End → List Event → End → Type 0
AllowsRest [] Ub events' end' = ⊤
AllowsRest [] end [] end' = AllowsEnd end end'
AllowsRest [] end (e' ∷ events') end' = ⊥
AllowsRest (e ∷ events) end [] end' = ⊥
AllowsRest (e ∷ events) end (e' ∷ events') end' = AllowsEvent e e' × AllowsRest events end events' end'

abbrev pub Allows : Outcome → Outcome → Type 0
Allows o o' = AllowsRest o.events o.end o'.events o'.end

-- what a header says of a parameter
pub record ParameterHead : Type 0 where
  pub name : Option (List ℕ)
  pub ty : Ty
  pub words : List (List ℕ)

abbrev pub parameter_head : Function → Param → ParameterHead
parameter_head f p = record {
  name = option_and_then (λ v. v.name) (slice_get f.values p.value.0);
  ty = type_of f p.value;
  words = p.words;
}

-- the parameters in order; one without a name is shown by its number among these
abbrev pub parameters_of : Function → List ParameterHead
parameters_of f = map (parameter_head f) f.params

-- the two functions are defined by the same words up to their bodies
pub record SameHeader (f g : Function) : Type 0 where
  pub name : f.name ≡ g.name
  pub lead : f.lead ≡ g.lead
  pub width : f.width ≡ g.width
  pub parameters : parameters_of f ≡ parameters_of g
  pub tail : f.tail ≡ g.tail

-- the second function refines the first: it has the same header, and for all arguments, all answers and any number of
-- entered blocks each of its outcomes is allowed by an outcome of the first
pub record Refines (f g : Function) : Type 0 where
  pub header : SameHeader f g
  pub outcomes : (args : List Val) → AreArguments (parameter_types f) args → (answers : List Val) → All IsAnswer answers →
      (n : ℕ) → (o' : Outcome) → Out g args answers n o' → (o : Outcome) × Out f args answers n o × Allows o o'
