-- Where the result of an operation is defined on every walk, its operands have the values that it was given of: by
-- induction on moments. A step that defines the result has just given it, of operands that it does not change. A step
-- that defines an operand leads to a place where the result is not defined on every walk.
use Rattle.std.proofs.Common.{◌≡◌, ℕ, zero, suc, ◌≤◌, true, false, ◌||◌, nat_eq, if◌then◌else◌, List, [], ◌∷◌, map, length, Option, Some, None, slice_get, refl, sym, ap, ◌∙◌, subst, subst₂, inl, inr, ◌⊎◌, arith, eq-eqb}
use Rattle.std.proofs.lemmas.Bool.Decides.{eqb_tells}
use Rattle.std.specs.List.{list_any}
use Rattle.vfa_ir.specs.declared.operations.Op.{Op}
use Rattle.vfa_ir.specs.declared.operations.ValueId.{ValueId}
use Rattle.vfa_ir.specs.declared.functions.Block.{Block}
use Rattle.vfa_ir.specs.declared.functions.Function.{Function}
use Rattle.vfa_ir.specs.declared.functions.Inst.{Inst}
use Rattle.vfa_ir.specs.declared.functions.Phi.{Phi}
use Rattle.vfa_ir.specs.Defined.{Defined, op_names, line_count}
use Rattle.vfa_ir.specs.Walks.{IsReached, IsDefinedAt, is_in, is_parameter, results_in, results_before, defined_over}
use Rattle.vfa_mean.specs.declared.value.Val.{Val}
use Rattle.vfa_mean.specs.Values.{Env}
use Rattle.vfa_mean.specs.Meaning.{Gave, Gives, Allowed, done}
use Rattle.vfa_mean.specs.Moments.{Place, Into, At, Moment, starts, reads, does, calls, leaves, IsLine, is_call}
use Rattle.vfa_mean.specs.Outcomes.{with_result, after_phis}
use Rattle.vfa_mean.specs.FreshOperands.{DefinesOnce, IsDefinedAtPlace, IsResultAt, HaveSameOperands, WasGiven, HasFreshOperands, HasPresentResults}
use Rattle.vfa_mean.proofs.FreshOperands.Definitions.{or_cases, or_left, or_right, results_to_end, IsDefinition, phi_definition, line_definition}
use Rattle.vfa_mean.proofs.FreshOperands.Places.{IsOnWalk, entered, moment_on_walk, result_keeps, phis_keep}
use Rattle.vfa_mean.proofs.FreshOperands.Walking.{use_is_defined, same_operands, no_walk}
pub mod Definitions
pub mod Places
pub mod Walking

-- `WasGiven` by the names that the operation uses
record LastGiven (f : Function) (b i : ℕ) (inst : Inst) (v : ValueId) (env : Env) : Type 0 where
  before : Env
  moment : Moment f (At b i) before
  gave : Gives inst.op before (Gave (env v.0))
  same : (x : ℕ) → is_in x (op_names f inst.op) ≡ true → before x ≡ env x

module _ (f : Function) (once : DefinesOnce f) (defined : Defined f) (b i : ℕ) (inst : Inst) (v : ValueId) (own : IsResultAt f b i inst v) where
  definition : IsDefinition f v.0 b (suc i)
  definition = line_definition f b own.block i inst v once own.line own.result

  -- where an operand has just been defined, the result is not defined on every walk
  not_live : (c m x : ℕ) → IsReached f c → IsDefinition f x c m → is_in x (op_names f inst.op) ≡ true → IsDefinedAt f c m v.0 → ⊥
  not_live c m x r d used live =
      no_walk f v.0 b i x c m definition d (use_is_defined f b own.block i inst x defined own.line used) live r.passed r.walk

  -- a step that gives neither the result nor an operand a value
  kept : (env env' : Env) → LastGiven f b i inst v env → env' v.0 ≡ env v.0 →
      ((x : ℕ) → is_in x (op_names f inst.op) ≡ true → env' x ≡ env x) → LastGiven f b i inst v env'
  kept env env' g e h = record {
    before = g.before;
    moment = g.moment;
    gave = subst (λ w. Gives inst.op g.before (Gave w)) (sym e) g.gave;
    same = λ x t. g.same x t ∙ sym (h x t);
  }

  -- ---- phis

  -- before the phis of a block the result was defined, since it is none of them
  live_before_phis : (p : Option ℕ) (c : ℕ) → IsOnWalk f (Into p c) → IsDefinedAt f c 0 v.0 → IsDefinedAtPlace f (Into p c) v.0
  live_before_phis None c first live = elim (or_cases (is_parameter f v.0 || false) (is_in v.0 (results_before f c 0)) (live [] first)) [
    | inl h ↦ elim (or_cases (is_parameter f v.0) false h) [ inl p ↦ p | inr t ↦ absurd (cc) ]
    | inr t ↦ let l = (definition.only c 0 t).1 in absurd (omega (arith, l))
  ]
  live_before_phis (Some p) c edge live = λ passed walk.
      let earlier = list_any (λ d. is_in v.0 (results_in f d)) passed in
      let here = is_in v.0 (results_in f p) in
      elim (or_cases (defined_over f (p ∷ passed) v.0) (is_in v.0 (results_before f c 0)) (live (p ∷ passed) (edge.0, walk))) [
        | inr t ↦ let l = (definition.only c 0 t).1 in absurd (omega (arith, l))
        | inl h ↦ elim (or_cases (is_parameter f v.0) (here || earlier) h) [
          | inl q ↦ absurd (definition.result q)
          | inr t ↦ elim (or_cases here earlier t) [
            | inl s ↦ or_right (defined_over f passed v.0) (is_in v.0 (results_before f p (line_count f p))) (ap (is_in v.0) (results_to_end f p) ∙ s)
            | inr s ↦ or_left (defined_over f passed v.0) (is_in v.0 (results_before f p (line_count f p))) (or_right (is_parameter f v.0) earlier s)
          ]
        ]
      ]

  after_reading : (p : Option ℕ) (c : ℕ) (block : Block) (env : Env) → IsOnWalk f (Into p c) → slice_get f.blocks c ≡ Some block →
      IsDefinedAt f c 0 v.0 → LastGiven f b i inst v env → LastGiven f b i inst v (after_phis p block.phis env env)
  after_reading p c block env on there live g = kept env (after_phis p block.phis env env) g
      (phis_keep p block.phis env env v.0 (λ t.
      let l = (definition.only c 0 ((phi_definition f c block v.0 once there t).after 0 (omega arith))).1 in omega (arith, l)))
      (λ x used. phis_keep p block.phis env env x (λ t. not_live c 0 x (entered f p c on) (phi_definition f c block x once there t) used live))

  -- ---- other instructions

  -- a step at another place does not define the result, which was defined before
  live_before_line : (c j : ℕ) → (c ≡ b → j ≡ i → ⊥) → IsDefinedAt f c (suc j) v.0 → IsDefinedAt f c j v.0
  live_before_line c j apart live passed walk =
      elim (or_cases (defined_over f passed v.0) (is_in v.0 (results_before f c (suc j))) (live passed walk)) [
        | inl h ↦ or_left (defined_over f passed v.0) (is_in v.0 (results_before f c j)) h
        | inr t ↦
            let place = definition.only c (suc j) t in
            let other : j ≡ i → ⊥ = apart place.0 in
            let later : suc i ≤ j = let l = place.1 in elim (eqb_tells j i) [ inl e ↦ absurd (other e.1) | inr n ↦ let d = n.1 in omega (arith, l, d) ] in
            or_right (defined_over f passed v.0) (is_in v.0 (results_before f c j))
            (subst (λ d. is_in v.0 (results_before f d j) ≡ true) (sym place.0) (definition.after j later))
      ]

  same_line : (c j : ℕ) (block : Block) (other : Inst) → IsLine f c block j other → c ≡ b → j ≡ i → other ≡ inst
  same_line c j block other line e d =
      let there = line.there in let here = own.line.there in
      let block_is : block ≡ own.block = cc in
      let stands = line.stands in let own_stands = own.line.stands in
      cc

  -- no step gives an operand a value, where the result is defined on every walk after it
  operands_stay : (c j : ℕ) (block : Block) (other : Inst) (env : Env) (w : Val) → IsReached f c → IsLine f c block j other →
      IsDefinedAt f c (suc j) v.0 → (x : ℕ) → is_in x (op_names f inst.op) ≡ true → with_result env other.result w x ≡ env x
  operands_stay c j block other env w r line live x used = result_keeps env other.result w x (λ name is same.
      not_live c (suc j) x r (subst (λ y. IsDefinition f y c (suc j)) (sym same) (line_definition f c block j other name once line is)) used live)

  after_line : (c j : ℕ) (block : Block) (other : Inst) (env : Env) (w : Val) → IsReached f c → IsLine f c block j other →
      (c ≡ b → j ≡ i → LastGiven f b i inst v (with_result env other.result w)) → (IsDefinedAt f c j v.0 → LastGiven f b i inst v env) →
      IsDefinedAt f c (suc j) v.0 → LastGiven f b i inst v (with_result env other.result w)
  after_line c j block other env w r line here before live = elim (eqb_tells c b) [
    | inr n ↦ elsewhere (λ e d. n.1 e)
    | inl e ↦ elim (eqb_tells j i) [ inr n ↦ elsewhere (λ e d. n.1 d) | inl d ↦ here e.1 d.1 ]
  ]
    where
      elsewhere : (c ≡ b → j ≡ i → ⊥) → LastGiven f b i inst v (with_result env other.result w)
      elsewhere apart = kept env (with_result env other.result w) (before (live_before_line c j apart live))
          (result_keeps env other.result w v.0 (λ name is same.
          let there = line_definition f c block j other name once line is in
          let place = there.only b (suc i) (subst (λ y. is_in y (results_before f b (suc i)) ≡ true) same (definition.after (suc i) (omega arith))) in
          let back = definition.only c (suc j) (subst (λ y. is_in y (results_before f c (suc j)) ≡ true) (sym same) (there.after (suc j) (omega arith))) in
          apart back.0 (let l = place.1 in let k = back.1 in omega (arith, l, k))))
          (operands_stay c j block other env w r line live)

  value_given : (env : Env) (other : Inst) (w : Val) → other ≡ inst → with_result env other.result w v.0 ≡ w
  value_given env other w same =
      ap (λ (z : Inst). with_result env z.result w v.0) same ∙ ap (λ r. with_result env r w v.0) own.result
      ∙ ap (λ t. if t then w else env v.0) (eq-eqb v.0 v.0 refl)

  -- the operation itself has just given its result
  just_given : (c j : ℕ) (block : Block) (other : Inst) (env : Env) (w : Val) → IsReached f c → IsLine f c block j other →
      Moment f (At c j) env → Gives other.op env (Gave w) → IsDefinedAt f c (suc j) v.0 → c ≡ b → j ≡ i →
      LastGiven f b i inst v (with_result env other.result w)
  just_given c j block other env w r line m gives live e d =
      let same = same_line c j block other line e d in
      let given : Gives inst.op env (Gave w) = subst (λ (z : Inst). Gives z.op env (Gave w)) same gives in
      record {
        before = env;
        moment = subst₂ (λ k n. Moment f (At k n) env) e d m;
        gave = subst (λ z. Gives inst.op env (Gave z)) (sym (value_given env other w same)) given;
        same = λ x used. sym (operands_stay c j block other env w r line live x used);
      }

  last_given : (place : Place) (env : Env) → Moment f place env → IsDefinedAtPlace f place v.0 → LastGiven f b i inst v env
  last_given place env (starts args fit kept) live = absurd (definition.result live)
  last_given place env (reads p c block old m there) live =
      let on = moment_on_walk f (Into p c) old m in
      after_reading p c block old on there live (last_given (Into p c) old m (live_before_phis p c on live))
  last_given place env (does c block j other old w m line operation gives) live =
      let r = moment_on_walk f (At c j) old m in
      after_line c j block other old w r line (just_given c j block other old w r line m gives live) (last_given (At c j) old m) live
  last_given place env (calls c block j other old w width at call answer m line is of) live =
      let r = moment_on_walk f (At c j) old m in
      after_line c j block other old w r line
      (λ e d.
      let same = same_line c j block other line e d in
      let no = own.operation in
      let yes : is_call other.op ≡ true = ap is_call is in
      absurd (cc))
      (last_given (At c j) old m) live
  last_given place env (leaves c block old k target m there exit) live =
      let count : line_count f c ≡ length block.insts = ap (λ o. elim o [ None ↦ 0 | Some block ↦ length block.insts ]) there in
      last_given (At c (length block.insts)) old m (subst (λ n. IsDefinedAt f c n v.0) count live)

pub was_given : (f : Function) → DefinesOnce f → Defined f → HasFreshOperands f
was_given f once defined b i inst v place env own live m =
    let g = last_given f once defined b i inst v own place env m live in
    record { before = g.before; moment = g.moment; gave = g.gave; operands = same_operands f inst.op g.before env g.same }

same_done : (op : Op) (a b c a' b' c' : Val) → a ≡ a' → b ≡ b' → c ≡ c' → done op a b c ≡ done op a' b' c'
same_done op a b c a' b' c' e f g = cc

pub gives_now : (f : Function) → DefinesOnce f → Defined f → HasPresentResults f
gives_now f once defined b i inst v place env own live m =
    let g = was_given f once defined b i inst v place env own live m in
    let same = same_done inst.op _ _ _ _ _ _ g.operands.a g.operands.b g.operands.c in
    subst (λ d. Allowed d (Gave (env v.0))) same g.gave
