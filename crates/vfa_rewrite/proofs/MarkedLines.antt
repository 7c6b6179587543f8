-- The lines that marks leave are sound.
use Rattle.std.proofs.Common.{◌≡◌, ◌≤◌, ℕ, Bool, true, false, Option, Some, None, List, [], ◌∷◌, All, flat_map, map, length, slice_get, IsSomeAnd, refl, sym, ap, ◌∙◌, subst, inl, inr, arith}
use Rattle.std.proofs.lemmas.Bool.{cases_Bool}
use Rattle.std.proofs.lemmas.List.Elements.{All-head, All-tail}
use Rattle.std.specs.List.{AllByRecursion}
use Rattle.vfa_ir.specs.declared.operations.Bin.{Bin}
use Rattle.vfa_ir.specs.declared.operations.Flags.{Flags}
use Rattle.vfa_ir.specs.declared.operations.Op.{Op}
use Rattle.vfa_ir.specs.declared.operations.Operand.{Operand}
use Rattle.vfa_ir.specs.declared.operations.Ty.{Ty}
use Rattle.vfa_ir.specs.declared.operations.ValueId.{ValueId}
use Rattle.vfa_ir.specs.declared.functions.Block.{Block}
use Rattle.vfa_ir.specs.declared.functions.CallArg.{CallArg}
use Rattle.vfa_ir.specs.declared.functions.CallOp.{CallOp}
use Rattle.vfa_ir.specs.declared.functions.Function.{Function}
use Rattle.vfa_ir.specs.declared.functions.Inst.{Inst}
use Rattle.vfa_ir.specs.Defined.{Defined, operand_names, op_names}
use Rattle.vfa_ir.specs.Operands.{operands_of, arguments_of}
use Rattle.vfa_ir.specs.Printable.{IsPrintable, IsOperand, PrintableInst, PrintableBlock, PrintableArgument, PrintableCall, HasItsResult, op_type}
use Rattle.vfa_ir.specs.Typed.{Typed, TypedOp, IsOfType}
use Rattle.vfa_ir.specs.Words.{is_in}
use Rattle.vfa_word.specs.Numbers.{IsWidth}
use Rattle.vfa_mean.specs.declared.value.Val.{Val}
use Rattle.vfa_mean.specs.FreshOperands.{IsDefinedAtPlace}
use Rattle.vfa_mean.specs.Laws.{AllowsResult}
use Rattle.vfa_mean.specs.Meaning.{Result, Undefined, Gave, Gives}
use Rattle.vfa_mean.specs.Moments.{Place, At, Moment, is_call}
use Rattle.vfa_mean.specs.Operands.{IsOperation}
use Rattle.vfa_mean.specs.Outcomes.{with_result}
use Rattle.vfa_mean.specs.Values.{Env, IsValueOf, operand_value}
use Rattle.vfa_mean.proofs.FreshOperands.Definitions.{in_left, in_right, in_first}
use Rattle.vfa_mean.proofs.FreshOperands.Walking.{use_is_defined}
use Rattle.vfa_cond.specs.Conditions.{name_type}
use Rattle.vfa_walk.proofs.TruthTypes.{written_width, each_of, line_type, line_is_typed, is_operation}
use Rattle.vfa_rules.specs.declared.change.Change.{Change}
use Rattle.vfa_rewrite.specs.Rewritten.{Marks, with_operands, argument_left, call_left, changed_by, rewritten}
use Rattle.vfa_rewrite.specs.Sound.{Agrees, StandsFor, Then, Comes, LineAllows, HasNoKeptName, MayBeDropped, LinesStand, CallStands, LineIsSound}
use Rattle.vfa_rules.specs.Results.{NarrowedGives, IsAllowed}
use Rattle.vfa_rewrite.specs.Findings.{Findings, IsTypedOperand, IsDefinedOperand, IsUsable, AreUsable, operation_of, IsAssume, IsFitting, ChangeHolds, AreTrue}
use Rattle.vfa_rewrite.specs.Marks.{Becomes, IsPut, HasEffect, IsGone, IsLeftLine, UsesName, by_effect, by_line, ResultIsKept, LineIsMarked, BlockIsMarked, AreMarks}
use Rattle.vfa_rewrite.proofs.Left.{made_at}
use Rattle.vfa_rewrite.proofs.Agreement.{both_results}
use Rattle.vfa_rewrite.proofs.Becoming.{becomes_typed}
use Rattle.vfa_rewrite.proofs.FreshNames.{has_result, first_second, fresh_new, fresh_typed}
use Rattle.vfa_rewrite.proofs.Narrowing.{IsApart, narrowed_comes, narrowed_allowed, narrowed_typed, narrowed_plain}
use Rattle.vfa_rewrite.proofs.Operations.{kept_operand, put_stands, operands_agree, result_allowed, result_typed, AllowsResult-trans}
use Rattle.vfa_rewrite.proofs.Ranges.{result_below, same_type, typed_value}

-- ---- operands of the function

pub typed_operand : (f : Function) (w : ℕ) (a : Operand) → IsOfType f (Ty.Int w) a → IsOperand f w a → IsTypedOperand f (Ty.Int w) a
typed_operand f w (Operand.Value n) typed range = typed
typed_operand f w (Operand.Literal x) typed range = range
typed_operand f w Operand.Poison typed range = tt

defined_operand : (f : Function) (place : Place) (a : Operand) → ((n : ℕ) → is_in n (operand_names a) ≡ true → IsDefinedAtPlace f place n) → IsDefinedOperand f place a
defined_operand f place (Operand.Value n) h = h n.0 (in_first n.0 n.0 [] refl)
defined_operand f place (Operand.Literal x) h = tt
defined_operand f place Operand.Poison h = tt

pub usable_operand : (f : Function) (place : Place) (w : ℕ) (a : Operand) → IsWidth w → IsOfType f (Ty.Int w) a → IsOperand f w a →
    ((n : ℕ) → is_in n (operand_names a) ≡ true → IsDefinedAtPlace f place n) → IsUsable f place (Ty.Int w) a
usable_operand f place w a width typed range defined =
    record { is_type = width; typed = typed_operand f w a typed range; defined = defined_operand f place a defined }

below_apart : (f : Function) (ty : Ty) (a : Operand) (name : ℕ) → IsTypedOperand f ty a → length f.values ≤ name → IsApart name a
below_apart f ty (Operand.Value n) name typed new = λ e. let below = (typed_value f ty n typed).below in omega (arith, below, new, e)
below_apart f ty (Operand.Literal x) name typed new = tt
below_apart f ty Operand.Poison name typed new = tt

-- ---- operations

pub operation_plain : (op : Op) → IsOperation op → is_call op ≡ false
operation_plain (Op.Bin bin flags w a b) is = refl
operation_plain (Op.Icmp pred samesign w a b) is = refl
operation_plain (Op.Select w c a b) is = refl
operation_plain (Op.Cast cast flags v w a) is = refl
operation_plain (Op.Freeze w a) is = refl
operation_plain (Op.Two fun w a b) is = refl
operation_plain (Op.One fun w a strict) is = refl
operation_plain (Op.Over over w a b) is = refl
operation_plain (Op.Part w pair index) is = refl
operation_plain (Op.Assume c) is = refl
operation_plain (Op.Call w call) is = absurd is

pub put_plain : (put : Operand → Operand) (op : Op) → is_call (with_operands put op) ≡ is_call op
put_plain put (Op.Bin bin flags w a b) = refl
put_plain put (Op.Icmp pred samesign w a b) = refl
put_plain put (Op.Select w c a b) = refl
put_plain put (Op.Cast cast flags v w a) = refl
put_plain put (Op.Freeze w a) = refl
put_plain put (Op.Two fun w a b) = refl
put_plain put (Op.One fun w a strict) = refl
put_plain put (Op.Over over w a b) = refl
put_plain put (Op.Part w pair index) = refl
put_plain put (Op.Assume c) = refl
put_plain put (Op.Call w call) = refl

call_has_effect : (op : Op) (undefined : Bool) → is_call op ≡ true → HasEffect op undefined
call_has_effect (Op.Bin bin flags w a b) u e = absurd (cc)
call_has_effect (Op.Icmp pred samesign w a b) u e = absurd (cc)
call_has_effect (Op.Select w c a b) u e = absurd (cc)
call_has_effect (Op.Cast cast flags v w a) u e = absurd (cc)
call_has_effect (Op.Freeze w a) u e = absurd (cc)
call_has_effect (Op.Two fun w a b) u e = absurd (cc)
call_has_effect (Op.One fun w a strict) u e = absurd (cc)
call_has_effect (Op.Over over w a b) u e = absurd (cc)
call_has_effect (Op.Part w pair index) u e = absurd (cc)
call_has_effect (Op.Assume c) u e = absurd (cc)
call_has_effect (Op.Call w call) u e = tt

pub assume_has_no_result : (m : Marks) (op : Op) (result : Option ValueId) → IsAssume op → HasItsResult op result → ResultIsKept m result → ⊥
assume_has_no_result m (Op.Assume c) None is has kept = kept
assume_has_no_result m (Op.Assume c) (Some v) is has kept = has
assume_has_no_result m (Op.Bin bin flags w a b) result is has kept = is
assume_has_no_result m (Op.Icmp pred samesign w a b) result is has kept = is
assume_has_no_result m (Op.Select w c a b) result is has kept = is
assume_has_no_result m (Op.Cast cast flags v w a) result is has kept = is
assume_has_no_result m (Op.Freeze w a) result is has kept = is
assume_has_no_result m (Op.Two fun w a b) result is has kept = is
assume_has_no_result m (Op.One fun w a strict) result is has kept = is
assume_has_no_result m (Op.Over over w a b) result is has kept = is
assume_has_no_result m (Op.Part w pair index) result is has kept = is
assume_has_no_result m (Op.Call w call) result is has kept = is

-- the names among the arguments of a call
abbrev pub names_in : Option CallOp → List ℕ
names_in o = elim o [ None ↦ [] | Some c ↦ flat_map (λ (a : CallArg). operand_names a.value) c.args ]

-- a result that is kept is of a name
pub record KeptResult (m : Marks) (result : Option ValueId) : Type 0 where
  pub name : ValueId
  pub is : result ≡ Some name
  pub kept : m.keeps name.0 ≡ true

pub kept_result : (m : Marks) (result : Option ValueId) → ResultIsKept m result → KeptResult m result
kept_result m None h = absurd h
kept_result m (Some name) h = record { name = name; is = refl; kept = h }

no_kept_name : (m : Marks) (result : Option ValueId) → (ResultIsKept m result → ⊥) → HasNoKeptName m result
no_kept_name m None h = tt
no_kept_name m (Some name) h = elim (cases_Bool (m.keeps name.0)) [ inl t ↦ absurd (h t) | inr e ↦ e ]

-- ---- what lines come to

-- lines that end in an allowed result do as the instruction does
conclude : (f : Function) (m : Marks) (inst : Inst) (env env' : Env) (end : Option Env) → Agrees f m env env' →
    ((v : Val) (name : ValueId) → inst.result ≡ Some name → IsValueOf (op_type inst.op) v → IsValueOf (name_type (rewritten f m) name.0) v) →
    (r r' : Result) → Gives inst.op env r → AllowsResult r r' → ((v : Val) → r' ≡ Gave v → IsValueOf (op_type inst.op) v) →
    Then inst.result (Comes []) env' r' end → LineAllows f m inst env end
conclude f m inst env env' end agrees named Undefined r' gives allows typed behind = inl gives
conclude f m inst env env' end agrees named (Gave v) Undefined gives allows typed behind = absurd allows
conclude f m inst env env' end agrees named (Gave v) (Gave v') gives allows typed behind = inr (record {
  value = v;
  after = with_result env' inst.result v';
  gives = gives;
  comes = behind;
  agrees = both_results f m env env' inst.result v v' agrees allows (λ name e. named v' name e (typed v' refl));
})

module _ (f : Function) (printable : IsPrintable f) (typed : Typed f) (defined : Defined f) (found : Findings) (holds : AreTrue f found) (m : Marks) (marks : AreMarks f found m)
    (unused : (n : ℕ) → length f.values ≤ n → m.keeps n ≡ false)
    (b : ℕ) (block : Block) (i : ℕ) (inst : Inst) (left : IsLeftLine f m b block i inst) where
  abbrev place : Place
  place = At b i

  abbrev put : Operand → Operand
  put = m.put (At b i)

  own : BlockIsMarked f found m b block
  own = marks.blocks b block left.line.there left.reached

  marked : LineIsMarked f found m b i inst
  marked = own.lines i inst left.line.stands left.met

  is_met : found.met b i ≡ true
  is_met = sym (marks.met b i) ∙ left.met

  -- a result has the type of the operation in what is left
  result_type : (name : ValueId) → inst.result ≡ Some name → name_type (rewritten f m) name.0 ≡ op_type inst.op
  result_type name e = same_type f m name.0 (result_below f printable b i block inst name left.line e) ∙ line_type f printable b i block inst name left.line e

  named : (v : Val) (name : ValueId) → inst.result ≡ Some name → IsValueOf (op_type inst.op) v → IsValueOf (name_type (rewritten f m) name.0) v
  named v name e h = subst (λ t. IsValueOf t v) (sym (result_type name e)) h

  -- what a line that stays uses is kept
  used_kept : m.stays b i ≡ true → (n : ℕ) → UsesName f found m b i inst n → m.keeps n ≡ true
  used_kept stays n uses = elim (marked.stays.0 stays) [
    | inl must ↦ (marks.keeps n).1 (by_effect b block i inst n left must uses)
    | inr kept ↦
        let k = kept_result m inst.result kept in
        (marks.keeps n).1 (by_line b block i inst k.name n left k.is ((marks.keeps k.name.0).0 k.kept) uses)
  ]

  dropped : m.stays b i ≡ false → MayBeDropped m inst
  dropped gone = record {
    operation = elim (cases_Bool (is_call inst.op)) [
      | inr plain ↦ plain
      | inl call ↦
          let keep = holds.call b block i inst left.line call in
          let stays = marked.stays.1 (inl (record { effect = call_has_effect inst.op (found.may_be_undefined b i inst) call; left = λ g. subst IsGone keep g })) in
          absurd (cc)
    ];
    unused = no_kept_name m inst.result (λ kept. let stays = marked.stays.1 (inr kept) in absurd (cc));
  }

  -- ---- operations

  module _ (plain : is_call inst.op ≡ false) (stays : m.stays b i ≡ true) where
    change_holds : ChangeHolds f (At b i) inst.op (found.change b i inst)
    change_holds = holds.change b block i inst left.line is_met plain

    record Stand (c : Change) : Type 0 where
      operations : AllByRecursion (λ (line : Inst). is_call line.op ≡ false) (changed_by c m b i inst)
      allows : (env env' : Env) (end : Option Env) → Moment f (At b i) env → Agrees f m env env' → Comes (changed_by c m b i inst) env' end → LineAllows f m inst env end

    -- one line that does an operation
    one_line : (op : Op) → IsOperation op → op_type op ≡ op_type inst.op → AreUsable f (At b i) op → AllByRecursion (IsPut f found (At b i) (m.put (At b i))) (operands_of f op) →
        ((n : ℕ) → is_in n (op_names (rewritten f m) (with_operands (m.put (At b i)) op)) ≡ true → m.keeps n ≡ true) →
        ((env : Env) → Moment f (At b i) env → (r : Result) → Gives op env r → IsAllowed inst.op env r) →
        (env env' : Env) (end : Option Env) → Moment f (At b i) env → Agrees f m env env' →
        (r' : Result) → Gives (with_operands (m.put (At b i)) op) env' r' → Then inst.result (Comes []) env' r' end → LineAllows f m inst env end
    one_line op is same usable operands kept allowed env env' end moment agrees r' gives behind =
        let agree = operands_agree f printable defined found holds m (At b i) (m.put (At b i)) env env' moment agrees op (operation_plain op is) usable operands kept in
        let given = result_allowed (m.put (At b i)) op env env' agree r' gives in
        let was = allowed env moment given.result given.gives in
        conclude f m inst env env' end agrees named was.result r' was.gives (AllowsResult-trans was.result given.result r' was.allows given.allows)
        (λ v e. subst (λ t. IsValueOf t v) same (result_typed (m.put (At b i)) op env env' agree is v (subst (λ r. Gives (with_operands (m.put (At b i)) op) env' r) e gives))) behind

    kept_stands : (op : Op) → found.change b i inst ≡ Change.Keep op → Stand (Change.Keep op)
    kept_stands op e =
        let holding = subst (λ c. ChangeHolds f (At b i) inst.op c) e change_holds in
        let operands = subst (λ c. AllByRecursion (IsPut f found (At b i) (m.put (At b i))) (operands_of f (operation_of c inst.op))) e marked.operands in
        let kept : (n : ℕ) → is_in n (op_names (rewritten f m) (with_operands (m.put (At b i)) op)) ≡ true → m.keeps n ≡ true =
        λ n uses. used_kept stays n (subst (λ c. is_in n (op_names (rewritten f m) (with_operands (m.put (At b i)) (operation_of c inst.op))) ≡ true) (sym e) uses) in
        record {
          operations = (put_plain (m.put (At b i)) op ∙ operation_plain op holding.fits.1, tt);
          allows = λ env env' end moment agrees comes.
              one_line op holding.fits.1 holding.fits.0 holding.usable operands kept holding.allows env env' end moment agrees comes.0 comes.1 comes.2;
        }

    replaced_stands : (u : Operand) → found.change b i inst ≡ Change.Uses u → Stand (Change.Uses u)
    replaced_stands u e =
        let holding = subst (λ c. ChangeHolds f (At b i) inst.op c) e change_holds in
        let operands = subst (λ c. AllByRecursion (IsPut f found (At b i) (m.put (At b i))) (operands_of f (operation_of c inst.op))) e marked.operands in
        let kept : (n : ℕ) → is_in n (op_names (rewritten f m) (with_operands (m.put (At b i)) inst.op)) ≡ true → m.keeps n ≡ true =
        λ n uses. used_kept stays n (subst (λ c. is_in n (op_names (rewritten f m) (with_operands (m.put (At b i)) (operation_of c inst.op))) ≡ true) (sym e) uses) in
        let is = is_operation f inst.op plain (line_is_typed f printable typed b i block inst left.line) in
        record {
          operations = (put_plain (m.put (At b i)) inst.op ∙ plain, tt);
          allows = λ env env' end moment agrees comes.
              one_line inst.op is refl holding.usable operands kept holding.allows env env' end moment agrees comes.0 comes.1 comes.2;
        }

    gone_stands : found.change b i inst ≡ Change.Gone → Stand Change.Gone
    gone_stands e = absurd (elim (marked.stays.0 stays) [
      | inl must ↦ must.left (subst IsGone (sym e) tt)
      | inr kept ↦
          let holding = subst (λ c. ChangeHolds f (At b i) inst.op c) e change_holds in
          let has = (each_of (PrintableInst f) block.insts i inst (each_of (PrintableBlock f) f.blocks b block printable.blocks left.line.there).insts left.line.stands).result in
          assume_has_no_result m inst.op inst.result holding.fits has kept
    ])

    division_stands : (bin : Bin) (flags : Flags) (w : ℕ) (x y : Operand) (v : ℕ) → found.change b i inst ≡ Change.Narrow (Op.Bin bin flags w x y) v → Stand (Change.Narrow (Op.Bin bin flags w x y) v)
    division_stands bin flags w x y v e =
        let holding = subst (λ c. ChangeHolds f (At b i) inst.op c) e change_holds in
        let operands = subst (λ c. AllByRecursion (IsPut f found (At b i) (m.put (At b i))) (operands_of f (operation_of c inst.op))) e marked.operands in
        let kept : (n : ℕ) → is_in n (op_names (rewritten f m) (with_operands (m.put (At b i)) (Op.Bin bin flags w x y))) ≡ true → m.keeps n ≡ true =
        λ n uses. used_kept stays n (subst (λ c. is_in n (op_names (rewritten f m) (with_operands (m.put (At b i)) (operation_of c inst.op))) ≡ true) (sym e) uses) in
        let has = (each_of (PrintableInst f) block.insts i inst (each_of (PrintableBlock f) f.blocks b block printable.blocks left.line.there).insts left.line.stands).result in
        let of = has_result inst.op inst.result w v has plain holding.fits.0 holding.fits.2 holding.fits.3 in
        let new = fresh_new f printable found m marks b block i inst left of.name of.is (Op.Bin bin flags w x y) v e in
        let is_apart = first_second f printable found m marks b block i inst left of.name of.is (Op.Bin bin flags w x y) v e in
        let of_type = fresh_typed f printable found m marks b block i inst left of.name of.is (Op.Bin bin flags w x y) v e in
        let y' = m.put (At b i) y in
        let apart_y = below_apart f (Ty.Int w) y' (m.fresh b i 0)
        (becomes_typed f printable defined found holds (At b i) (Ty.Int w) y y' operands.1.0 holding.usable.1.is_type holding.usable.1.typed) (new 0) in
        record {
          operations = narrowed_plain (m.fresh b i) v inst.result bin flags w (m.put (At b i) x) y';
          allows = λ env env' end moment agrees comes.
              let agree = operands_agree f printable defined found holds m (At b i) (m.put (At b i)) env env' moment agrees (Op.Bin bin flags w x y) refl holding.usable operands kept in
              let came = narrowed_comes f m bin flags w v holding.fits.1 holding.fits.2 holding.fits.3 (m.fresh b i) (λ k. unused (m.fresh b i k) (new k)) of_type is_apart
              inst.result env end (m.put (At b i) x) y' env' agrees agree.values.first agree.values.second apart_y comes in
              let given = narrowed_allowed w v holding.fits.1 holding.fits.2 holding.fits.3 f bin flags (operand_value env x) (operand_value env y)
              (operand_value env' (m.put (At b i) x)) (operand_value env' y') came.given agree.a agree.b agree.values.first agree.values.second came.gives in
              let was = holding.allows env moment given.result given.gives in
              conclude f m inst env came.before end came.agrees named was.result came.given was.gives
              (AllowsResult-trans was.result given.result came.given was.allows given.allows)
              (λ q same. subst (λ t. IsValueOf t q) (sym holding.fits.0)
              (narrowed_typed bin flags w v holding.fits.1 holding.fits.2 holding.fits.3 (operand_value env' (m.put (At b i) x)) (operand_value env' y') q
              agree.values.first agree.values.second (subst (λ r. NarrowedGives bin flags v w (operand_value env' (m.put (At b i) x)) (operand_value env' y') r) {x = came.given} same came.gives)))
              came.comes;
        }

    unfit : {X : Type 0} (op : Op) (v : ℕ) → found.change b i inst ≡ Change.Narrow op v → (IsFitting f inst.op (Change.Narrow op v) → ⊥) → X
    unfit op v e h = absurd (h (subst (λ c. ChangeHolds f (At b i) inst.op c) e change_holds).fits)

    stand : (c : Change) → found.change b i inst ≡ c → Stand c
    stand (Change.Keep op) e = kept_stands op e
    stand (Change.Uses u) e = replaced_stands u e
    stand Change.Gone e = gone_stands e
    stand (Change.Narrow (Op.Bin bin flags w x y) v) e = division_stands bin flags w x y v e
    stand (Change.Narrow (Op.Icmp pred samesign w x y) v) e = unfit (Op.Icmp pred samesign w x y) v e (λ h. h)
    stand (Change.Narrow (Op.Select w z x y) v) e = unfit (Op.Select w z x y) v e (λ h. h)
    stand (Change.Narrow (Op.Cast cast flags u w x) v) e = unfit (Op.Cast cast flags u w x) v e (λ h. h)
    stand (Change.Narrow (Op.Freeze w x) v) e = unfit (Op.Freeze w x) v e (λ h. h)
    stand (Change.Narrow (Op.Two fun w x y) v) e = unfit (Op.Two fun w x y) v e (λ h. h)
    stand (Change.Narrow (Op.One fun w x strict) v) e = unfit (Op.One fun w x strict) v e (λ h. h)
    stand (Change.Narrow (Op.Over over w x y) v) e = unfit (Op.Over over w x y) v e (λ h. h)
    stand (Change.Narrow (Op.Part w pair index) v) e = unfit (Op.Part w pair index) v e (λ h. h)
    stand (Change.Narrow (Op.Assume z) v) e = unfit (Op.Assume z) v e (λ h. h)
    stand (Change.Narrow (Op.Call w call) v) e = unfit (Op.Call w call) v e (λ h. h)

    lines_stand : LinesStand f m b i inst
    lines_stand =
        let s = subst (λ c. Stand c) (sym marked.change) (stand (found.change b i inst) refl) in
        record { operations = s.operations; allows = s.allows }

  -- ---- calls

  module _ (width : Option ℕ) (k : ℕ) (call : CallOp) (is : inst.op ≡ Op.Call width k) (there : slice_get f.calls k ≡ Some call) where
    keep : found.change b i inst ≡ Change.Keep inst.op
    keep = holds.call b block i inst left.line (ap is_call is)

    stays : m.stays b i ≡ true
    stays = marked.stays.1 (inl (record {
      effect = subst (λ op. HasEffect op (found.may_be_undefined b i inst)) (sym is) tt;
      left = λ g. subst IsGone keep g;
    }))

    abbrev argument : CallArg → Ty × Operand
    argument a = (Ty.Int a.width, a.value)

    args_stand : (args : List CallArg) → All (λ (a : CallArg). IsOfType f (Ty.Int a.width) a.value) args → All (PrintableArgument f) args →
        ((n : ℕ) → is_in n (flat_map (λ (a : CallArg). operand_names a.value) args) ≡ true → IsDefinedAtPlace f (At b i) n) →
        AllByRecursion (IsPut f found (At b i) (m.put (At b i))) (map argument args) →
        ((n : ℕ) → is_in n (flat_map (λ (a : CallArg). operand_names a.value) (map (argument_left (m.put_call k)) args)) ≡ true → m.keeps n ≡ true) →
        AllByRecursion (λ (a : CallArg). StandsFor f m (At b i) a.value (m.put_call k a.value)) args
    args_stand [] of_types ranges live operands kept = tt
    args_stand (a ∷ args) of_types ranges live operands kept =
        let names = flat_map (λ (c : CallArg). operand_names c.value) args in
        let names' = flat_map (λ (c : CallArg). operand_names c.value) (map (argument_left (m.put_call k)) args) in
        let usable = usable_operand f (At b i) a.width a.value (written_width a.width (All-head (PrintableArgument f) a args ranges).width) (All-head (λ (c : CallArg). IsOfType f (Ty.Int c.width) c.value) a args of_types)
        (All-head (PrintableArgument f) a args ranges).value (λ n t. live n (in_left n (operand_names a.value) names t)) in
        let same = marked.arguments width k is a.value in
        let stays = put_stands f printable defined found holds m (At b i) (Ty.Int a.width) a.value (m.put_call k a.value) usable
        (subst (λ c. Becomes f found (At b i) (Ty.Int a.width) a.value c) (sym same) operands.0)
        (kept_operand m (m.put_call k a.value) (λ n t. kept n (in_left n (operand_names (m.put_call k a.value)) names' t))) in (
          stays,
          args_stand args (All-tail (λ (c : CallArg). IsOfType f (Ty.Int c.width) c.value) a args of_types) (All-tail (PrintableArgument f) a args ranges)
              (λ n t. live n (in_right n (operand_names a.value) names t)) operands.1
              (λ n t. kept n (in_right n (operand_names (m.put_call k a.value)) names' t)),
        )

    call_stands : CallStands f m b i inst k call
    call_stands =
        let op_is = λ (P : Op → Type 0) (h : P inst.op). subst P is h in
        let of_types = subst (λ c. IsSomeAnd c (λ c. All (λ a. IsOfType f (Ty.Int a.width) a.value) c.args)) there
        (op_is (TypedOp f) (line_is_typed f printable typed b i block inst left.line).operands) in
        let ranges = (each_of (PrintableCall f) f.calls k call printable.calls there).arguments in
        let uses : op_names f inst.op ≡ names_in (Some call) = ap (op_names f) is ∙ ap names_in there in
        let operands = subst (λ c. AllByRecursion (IsPut f found (At b i) (m.put (At b i))) (arguments_of c)) there
        (op_is (λ op. AllByRecursion (IsPut f found (At b i) (m.put (At b i))) (operands_of f op))
        (subst (λ c. AllByRecursion (IsPut f found (At b i) (m.put (At b i))) (operands_of f (operation_of c inst.op))) keep marked.operands)) in
        let there' : slice_get (rewritten f m).calls k ≡ Some (call_left m k call) = made_at (call_left m) f.calls k call there in
        let left_names : op_names (rewritten f m) (with_operands (m.put (At b i)) (operation_of (found.change b i inst) inst.op)) ≡ names_in (Some (call_left m k call)) =
        ap (λ c. op_names (rewritten f m) (with_operands (m.put (At b i)) (operation_of c inst.op))) keep
        ∙ ap (λ op. op_names (rewritten f m) (with_operands (m.put (At b i)) op)) is ∙ ap names_in there' in
        record {
          stays = stays;
          same = marked.change ∙ keep;
          args = args_stand call.args of_types ranges
              (λ n t. use_is_defined f b block i inst n defined left.line (ap (is_in n) uses ∙ t)) operands
              (λ n t. used_kept stays n (ap (is_in n) left_names ∙ t));
        }

  pub line_is_sound : LineIsSound f m b i inst
  line_is_sound = record {
    dropped = dropped;
    operation = λ stays plain. lines_stand plain stays;
    called = λ width k call is there. call_stands width k call is there;
    typed = result_type;
  }
