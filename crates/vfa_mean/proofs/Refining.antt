-- Refinement is a preorder.
use Rattle.std.proofs.Common.{◌≡◌, List, [], ◌∷◌, map, refl, sym, ◌∙◌, ap, subst}
use Rattle.vfa_ir.specs.declared.functions.Function.{Function}
use Rattle.vfa_ir.specs.declared.functions.Param.{Param}
use Rattle.vfa_mean.specs.declared.value.Val.{Val}
use Rattle.vfa_mean.specs.Values.{AllowsValue}
use Rattle.vfa_mean.specs.Outcomes.{Passed, Event, End, Going, Stopped, Ub, Returned, Outcome, type_of, parameter_types, AreArguments}
use Rattle.vfa_mean.specs.Refines.{AllowsPassed, AllowsArguments, AllowsEvent, AllowsEnd, AllowsRest, Allows, ParameterHead, parameter_head, SameHeader, Refines}

pub AllowsValue-refl : (v : Val) → AllowsValue v v
AllowsValue-refl Val.Poison = tt
AllowsValue-refl (Val.Number x) = refl
AllowsValue-refl (Val.Pair x o) = refl

pub AllowsValue-trans : (u v w : Val) → AllowsValue u v → AllowsValue v w → AllowsValue u w
AllowsValue-trans Val.Poison v w a b = tt
AllowsValue-trans (Val.Number x) v w a b = subst (λ q. AllowsValue q w) (sym a) b
AllowsValue-trans (Val.Pair x o) v w a b = subst (λ q. AllowsValue q w) (sym a) b

AllowsPassed-trans : (a b c : Passed) → AllowsPassed a b → AllowsPassed b c → AllowsPassed a c
AllowsPassed-trans a b c p q = record {
  width = p.width ∙ q.width;
  value = AllowsValue-trans a.value b.value c.value p.value q.value;
}

pub AllowsArguments-refl : (args : List Passed) → AllowsArguments args args
AllowsArguments-refl [] = tt
AllowsArguments-refl (a ∷ args) = (record { width = refl; value = AllowsValue-refl a.value }, AllowsArguments-refl args)

AllowsArguments-trans : (a b c : List Passed) → AllowsArguments a b → AllowsArguments b c → AllowsArguments a c
AllowsArguments-trans [] [] c p q = q
AllowsArguments-trans [] (y ∷ b) c p q = absurd p
AllowsArguments-trans (x ∷ a) [] c p q = absurd p
AllowsArguments-trans (x ∷ a) (y ∷ b) [] p q = absurd q
AllowsArguments-trans (x ∷ a) (y ∷ b) (z ∷ c) p q =
    (AllowsPassed-trans x y z p.0 q.0, AllowsArguments-trans a b c p.1 q.1)

AllowsEvent-trans : (d e f : Event) → AllowsEvent d e → AllowsEvent e f → AllowsEvent d f
AllowsEvent-trans d e f p q = record {
  callee = p.callee ∙ q.callee;
  args = AllowsArguments-trans d.args e.args f.args p.args q.args;
}

pub AllowsEnd-refl : (end : End) → AllowsEnd end end
AllowsEnd-refl Going = refl
AllowsEnd-refl Stopped = refl
AllowsEnd-refl Ub = refl
AllowsEnd-refl (Returned v) = AllowsValue-refl v

-- an end of undefined behaviour allows everything from where it stands
ub_allows : (events : List Event) (end : End) → AllowsRest [] Ub events end
ub_allows events end = tt

pub AllowsRest-refl : (events : List Event) (end : End) → AllowsRest events end events end
AllowsRest-refl [] Going = refl
AllowsRest-refl [] Stopped = refl
AllowsRest-refl [] Ub = tt
AllowsRest-refl [] (Returned v) = AllowsValue-refl v
AllowsRest-refl (e ∷ events) end =
    (record { callee = refl; args = AllowsArguments-refl e.args }, AllowsRest-refl events end)

pub Allows-refl : (o : Outcome) → Allows o o
Allows-refl o = AllowsRest-refl o.events o.end

-- what a returned value allows is a returned value
returned_trans : (v : Val) (y z : End) → AllowsEnd (Returned v) y → AllowsEnd y z → AllowsEnd (Returned v) z
returned_trans v (Returned u) (Returned w) p q = AllowsValue-trans v u w p q
returned_trans v (Returned u) Going p q = absurd cc
returned_trans v (Returned u) Stopped p q = absurd cc
returned_trans v (Returned u) Ub p q = absurd cc
returned_trans v Going z p q = absurd cc
returned_trans v Stopped z p q = absurd cc
returned_trans v Ub z p q = absurd cc

-- a returned value has no call after it in place of what it allows
returned_rest : (v : Val) (y z : End) (c : List Event) → AllowsEnd (Returned v) y → AllowsRest [] y c z → AllowsRest [] (Returned v) c z
returned_rest v (Returned u) z [] p q = returned_trans v (Returned u) z p q
returned_rest v (Returned u) z (e ∷ c) p q = absurd q
returned_rest v Going z c p q = absurd cc
returned_rest v Stopped z c p q = absurd cc
returned_rest v Ub z c p q = absurd cc

pub AllowsRest-trans : (a b c : List Event) (x y z : End) → AllowsRest a x b y → AllowsRest b y c z → AllowsRest a x c z
AllowsRest-trans [] b c Ub y z p q = tt
AllowsRest-trans [] [] c Going y z p q = subst (λ e. AllowsRest [] e c z) (sym p) q
AllowsRest-trans [] [] c Stopped y z p q = subst (λ e. AllowsRest [] e c z) (sym p) q
AllowsRest-trans [] [] c (Returned v) y z p q = returned_rest v y z c p q
AllowsRest-trans [] (e ∷ b) c Going y z p q = absurd p
AllowsRest-trans [] (e ∷ b) c Stopped y z p q = absurd p
AllowsRest-trans [] (e ∷ b) c (Returned v) y z p q = absurd p
AllowsRest-trans (d ∷ a) [] c x y z p q = absurd p
AllowsRest-trans (d ∷ a) (e ∷ b) [] x y z p q = absurd q
AllowsRest-trans (d ∷ a) (e ∷ b) (f ∷ c) x y z p q =
    (AllowsEvent-trans d e f p.0 q.0, AllowsRest-trans a b c x y z p.1 q.1)

pub Allows-trans : (o p q : Outcome) → Allows o p → Allows p q → Allows o q
Allows-trans o p q a b = AllowsRest-trans o.events p.events q.events o.end p.end q.end a b

-- the types of the parameters are those of the header
types_of : (f : Function) (params : List Param)
    → map (λ (p : ParameterHead). p.ty) (map (parameter_head f) params) ≡ map (λ (p : Param). type_of f p.value) params
types_of f [] = refl
types_of f (p ∷ params) = ap (λ rest. type_of f p.value ∷ rest) (types_of f params)

pub same_types : (f g : Function) → SameHeader f g → parameter_types f ≡ parameter_types g
same_types f g h = sym (types_of f f.params) ∙ ap (map (λ (p : ParameterHead). p.ty)) h.parameters ∙ types_of g g.params

pub Refines-refl : (f : Function) → Refines f f
Refines-refl f = record {
  header = record { name = refl; lead = refl; width = refl; parameters = refl; tail = refl };
  outcomes = λ args fit answers answer n o' out. (o', out, Allows-refl o');
}

SameHeader-trans : (f g h : Function) → SameHeader f g → SameHeader g h → SameHeader f h
SameHeader-trans f g h a b = record {
  name = a.name ∙ b.name;
  lead = a.lead ∙ b.lead;
  width = a.width ∙ b.width;
  parameters = a.parameters ∙ b.parameters;
  tail = a.tail ∙ b.tail;
}

pub Refines-trans : (f g h : Function) → Refines f g → Refines g h → Refines f h
Refines-trans f g h a b = record {
  header = SameHeader-trans f g h a.header b.header;
  outcomes = λ args fit answers answer n o' out.
      let types = same_types f g a.header in
      let mid = b.outcomes args (subst (λ types. AreArguments types args) types fit) answers answer n o' out in
      let low = a.outcomes args fit answers answer n mid.0 mid.1 in
      (low.0, low.1, Allows-trans low.0 mid.0 o' low.2 mid.2);
}
