-- The equations of names: which instruction gives one, and which names it mentions.
use Rattle.std.proofs.Common.{◌≡◌, ℕ, zero, suc, ◌≤◌, Bool, true, false, not, ◌&&◌, ◌||◌, if◌then◌else◌, Option, Some, None, List, [], ◌∷◌, map, slice_get, refl, sym, ◌∙◌, ap, subst, arith, eqb-true}
use Rattle.std.specs.List.{list_any}
use Rattle.std.proofs.lemmas.Option.{same_Some}
use Rattle.vfa_ir.specs.declared.operations.Op.{Op}
use Rattle.vfa_ir.specs.declared.operations.ValueId.{ValueId}
use Rattle.vfa_ir.specs.declared.functions.Block.{Block}
use Rattle.vfa_ir.specs.declared.functions.Function.{Function}
use Rattle.vfa_ir.specs.declared.functions.Inst.{Inst}
use Rattle.vfa_ir.specs.declared.functions.Phi.{Phi}
use Rattle.vfa_ir.specs.Defined.{Defined, op_names}
use Rattle.vfa_ir.specs.Walks.{is_in, IsReached, IsDefinedAt, defined_over, results_before}
use Rattle.vfa_mean.specs.declared.value.Val.{Val}
use Rattle.vfa_mean.specs.Values.{Env}
use Rattle.vfa_mean.specs.Meaning.{Result, Gives, Allowed, done}
use Rattle.vfa_mean.specs.Moments.{At, Moment, IsLine, is_call}
use Rattle.vfa_mean.specs.FreshOperands.{DefinesOnce}
use Rattle.vfa_mean.proofs.FreshOperands.Definitions.{or_right, IsDefinition, phi_definition, line_definition}
use Rattle.vfa_mean.proofs.FreshOperands.Places.{moment_on_walk}
use Rattle.vfa_mean.proofs.FreshOperands.Walking.{use_is_defined, same_operands, no_walk}
use Rattle.vfa_cond.specs.Equations.{is_result, is_definition, equation, equation_among, equation_in, or_else}
use Rattle.vfa_cond.proofs.Fitting.{and_first, and_second}
use Rattle.vfa_walk.specs.Stepping.{defines_by, mentions}

-- ---- the instruction of an equation

-- the equation of the name is that of this instruction
pub record IsEquationAt (f : Function) (v : ℕ) (op : Op) (b i : ℕ) (block : Block) (inst : Inst) : Type 0 where
  pub line : IsLine f b block i inst
  pub defines : is_definition v inst ≡ true
  pub op_is : inst.op ≡ op

pub record HasEquation (f : Function) (v : ℕ) (op : Op) : Type 0 where
  pub b : ℕ
  pub i : ℕ
  pub block : Block
  pub inst : Inst
  pub is : IsEquationAt f v op b i block inst

record Among (v : ℕ) (op : Op) (insts : List Inst) : Type 0 where
  i : ℕ
  inst : Inst
  stands : slice_get insts i ≡ Some inst
  defines : is_definition v inst ≡ true
  op_is : inst.op ≡ op

among : (v : ℕ) (op : Op) (insts : List Inst) → equation_among v insts ≡ Some op → Among v op insts
among v op [] e = absurd cc
among v op (j ∷ rest) e = of (is_definition v j) refl e (among v op rest)
  where
    of : (here : Bool) → is_definition v j ≡ here → (if here then Some j.op else equation_among v rest) ≡ Some op → (equation_among v rest ≡ Some op → Among v op rest) → Among v op (j ∷ rest)
    of true is e later = record { i = 0; inst = j; stands = refl; defines = is; op_is = same_Some j.op op e }
    of false is e later = let a = later e in record { i = suc a.i; inst = a.inst; stands = a.stands; defines = a.defines; op_is = a.op_is }

record Inside (v : ℕ) (op : Op) (blocks : List Block) : Type 0 where
  b : ℕ
  block : Block
  there : slice_get blocks b ≡ Some block
  among : Among v op block.insts

inside : (v : ℕ) (op : Op) (blocks : List Block) → equation_in v blocks ≡ Some op → Inside v op blocks
inside v op [] e = absurd cc
inside v op (c ∷ rest) e = of (equation_among v c.insts) refl e (inside v op rest)
  where
    of : (o : Option Op) → equation_among v c.insts ≡ o → or_else o (equation_in v rest) ≡ Some op → (equation_in v rest ≡ Some op → Inside v op rest) → Inside v op (c ∷ rest)
    of None is e later = let a = later e in record { b = suc a.b; block = a.block; there = a.there; among = a.among }
    of (Some found) is e later = record { b = 0; block = c; there = refl; among = among v op c.insts (is ∙ e) }

pub has_equation : (f : Function) (v : ℕ) (op : Op) → equation f v ≡ Some op → HasEquation f v op
has_equation f v op e =
    let a = inside v op f.blocks e in
    record {
      b = a.b;
      i = a.among.i;
      block = a.block;
      inst = a.among.inst;
      is = record { line = record { there = a.there; stands = a.among.stands }; defines = a.among.defines; op_is = a.among.op_is };
    }

-- ---- the names that it mentions

none_of_all : {A : Type 0} (p : A → Bool) (xs : List A) (i : ℕ) (x : A) → list_any p xs ≡ false → slice_get xs i ≡ Some x → p x ≡ false
none_of_all p [] i x none e = absurd cc
none_of_all p (y ∷ xs) zero x none e = of (p y) refl none
  where
    same : y ≡ x
    same = same_Some y x e

    of : (b : Bool) → p y ≡ b → (b || list_any p xs) ≡ false → p x ≡ false
    of true is none = absurd cc
    of false is none = subst (λ z. p z ≡ false) same is
none_of_all p (y ∷ xs) (suc i) x none e = none_of_all p xs i x (of (p y) none) e
  where
    of : (b : Bool) → (b || list_any p xs) ≡ false → list_any p xs ≡ false
    of true none = absurd cc
    of false none = none

second_false : (a b : Bool) → a ≡ true → (a && b) ≡ false → b ≡ false
second_false true b t h = h
second_false false b t h = absurd cc

-- an equation does not mention a name of which this is said
pub not_mentioned : (f : Function) (u v : ℕ) (op : Op) → equation f u ≡ Some op → mentions f u v ≡ false → is_in v (op_names f op) ≡ false
not_mentioned f u v op e none =
    let at = has_equation f u op e in
    let here : list_any (defines_by f u v) at.block.insts ≡ false =
    none_of_all (λ (b : Block). list_any (defines_by f u v) b.insts) f.blocks at.b at.block none at.is.line.there in
    let there : defines_by f u v at.inst ≡ false = none_of_all (defines_by f u v) at.block.insts at.i at.inst here at.is.line.stands in
    subst (λ o. is_in v (op_names f o) ≡ false) at.is.op_is (second_false (is_definition u at.inst) (is_in v (op_names f at.inst.op)) at.is.defines there)

same_done : (op : Op) (a b c a' b' c' : Val) → a ≡ a' → b ≡ b' → c ≡ c' → done op a b c ≡ done op a' b' c'
same_done op a b c a' b' c' e f g = cc

-- what an operation gives hangs on its operands alone
pub gives_same : (f : Function) (op : Op) (env env' : Env) (r : Result) → ((x : ℕ) → is_in x (op_names f op) ≡ true → env x ≡ env' x) → Gives op env r → Gives op env' r
gives_same f op env env' r same gives =
    let s = same_operands f op env env' same in
    subst (λ d. Allowed d r) (same_done op _ _ _ _ _ _ s.a s.b s.c) gives

-- ---- a name has one definition

is_result_of : (v : ℕ) (o : Option ValueId) → is_result v o ≡ true → (r : ValueId) × (o ≡ Some r) × (r.0 ≡ v)
is_result_of v None h = absurd cc
is_result_of v (Some r) h = (r, refl, eqb-true r.0 v h)

defines_at : (f : Function) → DefinesOnce f → (v b i : ℕ) (op : Op) (block : Block) (inst : Inst) → IsEquationAt f v op b i block inst → IsDefinition f v b (suc i)
defines_at f once v b i op block inst is =
    let r = is_result_of v inst.result (and_second (not (is_call inst.op)) (is_result v inst.result) is.defines) in
    subst (λ x. IsDefinition f x b (suc i)) r.2 (line_definition f b block i inst r.0 once is.line r.1)

one_place : (f : Function) (x b m c n : ℕ) → IsDefinition f x b m → IsDefinition f x c n → (c ≡ b) × (m ≤ n)
one_place f x b m c n first second = first.only c n (second.after n (omega arith))

same_inst : (f : Function) (b i c j : ℕ) (block other : Block) (inst next : Inst) → IsLine f b block i inst → IsLine f c other j next → c ≡ b → i ≡ j → next ≡ inst
same_inst f b i c j block other inst next line line' e d =
    let there = line.there in let there' = line'.there in
    let block_is : other ≡ block = cc in
    let stands = line.stands in let stands' = line'.stands in
    cc

-- the equation of the result of an instruction is its operation
pub own_equation : (f : Function) → DefinesOnce f → (b i : ℕ) (block : Block) (inst : Inst) (r : ValueId) (op : Op) → IsLine f b block i inst → inst.result ≡ Some r →
    equation f r.0 ≡ Some op → (is_call inst.op ≡ false) × (op ≡ inst.op)
own_equation f once b i block inst r op line result e =
    let at = has_equation f r.0 op e in
    let mine : IsDefinition f r.0 b (suc i) = line_definition f b block i inst r once line result in
    let its : IsDefinition f r.0 at.b (suc at.i) = defines_at f once r.0 at.b at.i op at.block at.inst at.is in
    let ahead = one_place f r.0 b (suc i) at.b (suc at.i) mine its in
    let back = one_place f r.0 at.b (suc at.i) b (suc i) its mine in
    let places : i ≡ at.i = let p = ahead.1 in let q = back.1 in omega (arith, p, q) in
    let same : at.inst ≡ inst = same_inst f b i at.b at.i block at.block inst at.inst line at.is.line ahead.0 places in
    let no_call : not (is_call at.inst.op) ≡ true = and_first (not (is_call at.inst.op)) (is_result r.0 at.inst.result) at.is.defines in
    (not_of (is_call inst.op) (subst (λ (k : Inst). not (is_call k.op) ≡ true) same no_call), sym at.is.op_is ∙ ap (λ (k : Inst). k.op) same)
  where
    not_of : (c : Bool) → not c ≡ true → c ≡ false
    not_of true h = absurd cc
    not_of false h = refl

-- the result of a phi has none
pub phi_has_no_equation : (f : Function) → DefinesOnce f → (b : ℕ) (block : Block) (v : ℕ) (op : Op) → slice_get f.blocks b ≡ Some block →
    is_in v (map (λ (p : Phi). p.result.0) block.phis) ≡ true → equation f v ≡ Some op → ⊥
phi_has_no_equation f once b block v op there here e =
    let at = has_equation f v op e in
    let ahead = one_place f v at.b (suc at.i) b 0 (defines_at f once v at.b at.i op at.block at.inst at.is) (phi_definition f b block v once there here) in
    let l = ahead.1 in omega (arith, l)

-- ---- at a moment an operation does not use its own result

pub own_result_is_new : (f : Function) → DefinesOnce f → Defined f → (b i : ℕ) (block : Block) (inst : Inst) (r : ValueId) (env : Env) → Moment f (At b i) env →
    IsLine f b block i inst → inst.result ≡ Some r → is_in r.0 (op_names f inst.op) ≡ true → ⊥
own_result_is_new f once defined b i block inst r env m line result used =
    let d : IsDefinition f r.0 b (suc i) = line_definition f b block i inst r once line result in
    let reached : IsReached f b = moment_on_walk f (At b i) env m in
    let live : IsDefinedAt f b (suc i) r.0 = λ passed walk. or_right (defined_over f passed r.0) (is_in r.0 (results_before f b (suc i))) (d.after (suc i) (omega arith)) in
    no_walk f r.0 b i r.0 b (suc i) d d (use_is_defined f b block i inst r.0 defined line used) live reached.passed reached.walk
