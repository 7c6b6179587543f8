-- An operation on the operands that are put: they are allowed and of their types, so its results are.
use Rattle.std.proofs.Common.{◌≡◌, ℕ, ◌++◌, true, false, List, [], ◌∷◌, refl, subst}
use Rattle.std.specs.List.{AllByRecursion}
use Rattle.vfa_ir.specs.declared.operations.Op.{Op}
use Rattle.vfa_ir.specs.declared.operations.Operand.{Operand}
use Rattle.vfa_ir.specs.declared.operations.Ty.{Ty}
use Rattle.vfa_ir.specs.declared.functions.Function.{Function}
use Rattle.vfa_ir.specs.Defined.{Defined, operand_names, op_names}
use Rattle.vfa_ir.specs.Operands.{operands_of}
use Rattle.vfa_ir.specs.Printable.{IsPrintable, op_type}
use Rattle.vfa_ir.specs.Words.{is_in}
use Rattle.vfa_mean.specs.declared.value.Val.{Val}
use Rattle.vfa_mean.specs.Laws.{AllowsResult}
use Rattle.vfa_mean.specs.Meaning.{Result, Undefined, Gave, Gives, Allowed, done, operand_a, operand_b, operand_c}
use Rattle.vfa_mean.specs.Moments.{Place, Moment, is_call}
use Rattle.vfa_mean.specs.Operands.{IsOperation, AreValuesFor}
use Rattle.vfa_mean.specs.Values.{Env, IsValueOf, AllowsValue, operand_value}
use Rattle.vfa_mean.proofs.FreshOperands.Definitions.{in_left, in_right, in_first}
use Rattle.vfa_mean.proofs.Monotony.{done_monotone}
use Rattle.vfa_mean.proofs.Refining.{AllowsValue-trans}
use Rattle.vfa_mean.proofs.Typing.{done_typed}
use Rattle.vfa_rewrite.specs.Rewritten.{Marks, with_operands, rewritten}
use Rattle.vfa_rewrite.specs.Sound.{Agrees, IsKept, IsOfTypeIn, StandsFor}
use Rattle.vfa_rewrite.specs.Findings.{Findings, IsUsable, AreUsable, AreTrue}
use Rattle.vfa_rewrite.specs.Marks.{Becomes, IsPut}
use Rattle.vfa_rewrite.proofs.Agreement.{operand_agrees, operand_typed}
use Rattle.vfa_rewrite.proofs.Becoming.{becomes_typed, becomes_allows}
use Rattle.vfa_rewrite.proofs.Ranges.{typed_in}

-- an operand whose name is among kept names is kept
pub kept_operand : (m : Marks) (a : Operand) → ((n : ℕ) → is_in n (operand_names a) ≡ true → m.keeps n ≡ true) → IsKept m a
kept_operand m (Operand.Value n) h = h n.0 (in_first n.0 n.0 [] refl)
kept_operand m (Operand.Literal x) h = tt
kept_operand m Operand.Poison h = tt

-- the meaning hangs on the operands' values, and not on the operands
same_done : (put : Operand → Operand) (op : Op) (a b c : Val) → done (with_operands put op) a b c ≡ done op a b c
unfolding done
same_done put (Op.Bin bin flags w x y) a b c = refl
same_done put (Op.Icmp pred samesign w x y) a b c = refl
same_done put (Op.Select w z x y) a b c = refl
same_done put (Op.Cast cast flags v w x) a b c = refl
same_done put (Op.Freeze w x) a b c = refl
same_done put (Op.Two fun w x y) a b c = refl
same_done put (Op.One fun w x strict) a b c = refl
same_done put (Op.Over over w x y) a b c = refl
same_done put (Op.Part w pair index) a b c = refl
same_done put (Op.Assume z) a b c = refl
same_done put (Op.Call w call) a b c = refl

-- the operands of an operation in both environments
pub record OperandsAgree (put : Operand → Operand) (op : Op) (env env' : Env) : Type 0 where
  pub a : AllowsValue (operand_value env (operand_a op)) (operand_value env' (operand_a (with_operands put op)))
  pub b : AllowsValue (operand_value env (operand_b op)) (operand_value env' (operand_b (with_operands put op)))
  pub c : AllowsValue (operand_value env (operand_c op)) (operand_value env' (operand_c (with_operands put op)))
  pub values : AreValuesFor op (operand_value env' (operand_a (with_operands put op))) (operand_value env' (operand_b (with_operands put op)))
      (operand_value env' (operand_c (with_operands put op)))

module _ (f : Function) (printable : IsPrintable f) (defined : Defined f) (found : Findings) (holds : AreTrue f found) (m : Marks) where
  -- an operand that is put at a place stands for the one that was there
  pub put_stands : (place : Place) (ty : Ty) (a a' : Operand) → IsUsable f place ty a → Becomes f found place ty a a' → IsKept m a' → StandsFor f m place a a'
  put_stands place ty a a' usable becomes kept = record { allows = becomes_allows f printable defined found holds place ty a a' becomes usable; kept = kept }

  pub put_typed : (place : Place) (ty : Ty) (a a' : Operand) → IsUsable f place ty a → Becomes f found place ty a a' → IsOfTypeIn (rewritten f m) ty a'
  put_typed place ty a a' usable becomes = typed_in f m ty a' (becomes_typed f printable defined found holds place ty a a' becomes usable.is_type usable.typed)

  module _ (place : Place) (put : Operand → Operand) (env env' : Env) (moment : Moment f place env) (agrees : Agrees f m env env') where
    record Both (ty : Ty) (a a' : Operand) : Type 0 where
      allows : AllowsValue (operand_value env a) (operand_value env' a')
      typed : IsValueOf ty (operand_value env' a')

    both : (ty : Ty) (a a' : Operand) → IsUsable f place ty a → Becomes f found place ty a a' → IsKept m a' → Both ty a a'
    both ty a a' usable becomes kept =
        let stands = put_stands place ty a a' usable becomes kept in
        record {
          allows = operand_agrees f m place env env' a a' moment agrees stands.allows stands.kept;
          typed = operand_typed f m env env' ty a' agrees (put_typed place ty a a' usable becomes);
        }

    -- the names of the operation that is left are kept
    abbrev NamesAreKept : Op → Type 0
    NamesAreKept op = (n : ℕ) → is_in n (op_names (rewritten f m) (with_operands put op)) ≡ true → m.keeps n ≡ true

    only_kept : (a : Operand) → ((n : ℕ) → is_in n (operand_names a) ≡ true → m.keeps n ≡ true) → IsKept m a
    only_kept a h = kept_operand m a h

    first_kept : (a : Operand) (names : List ℕ) → ((n : ℕ) → is_in n (operand_names a ++ names) ≡ true → m.keeps n ≡ true) → IsKept m a
    first_kept a names h = kept_operand m a (λ n t. h n (in_left n (operand_names a) names t))

    rest_kept : (a : Operand) (names : List ℕ) → ((n : ℕ) → is_in n (operand_names a ++ names) ≡ true → m.keeps n ≡ true) →
        (n : ℕ) → is_in n names ≡ true → m.keeps n ≡ true
    rest_kept a names h n t = h n (in_right n (operand_names a) names t)

    two_agree : (w : ℕ) (a b : Operand) → IsUsable f place (Ty.Int w) a × IsUsable f place (Ty.Int w) b →
        AllByRecursion (IsPut f found place put) ((Ty.Int w, a) ∷ ((Ty.Int w, b) ∷ [])) →
        ((n : ℕ) → is_in n (operand_names (put a) ++ operand_names (put b)) ≡ true → m.keeps n ≡ true) →
        Both (Ty.Int w) a (put a) × Both (Ty.Int w) b (put b)
    two_agree w a b usable is kept = (
      both (Ty.Int w) a (put a) usable.0 is.0 (first_kept (put a) (operand_names (put b)) kept),
      both (Ty.Int w) b (put b) usable.1 is.1.0 (only_kept (put b) (rest_kept (put a) (operand_names (put b)) kept)),
    )

    pub operands_agree : (op : Op) → is_call op ≡ false → AreUsable f place op → AllByRecursion (IsPut f found place put) (operands_of f op) →
        NamesAreKept op → OperandsAgree put op env env'
    operands_agree (Op.Bin bin flags w a b) plain usable is kept =
        let two = two_agree w a b usable is kept in
        record { a = two.0.allows; b = two.1.allows; c = tt; values = record { first = two.0.typed; second = two.1.typed } }
    operands_agree (Op.Icmp pred samesign w a b) plain usable is kept =
        let two = two_agree w a b usable is kept in
        record { a = two.0.allows; b = two.1.allows; c = tt; values = record { first = two.0.typed; second = two.1.typed } }
    operands_agree (Op.Select w c a b) plain usable is kept =
        let condition = both (Ty.Int 1) c (put c) usable.0 is.0 (first_kept (put c) (operand_names (put a) ++ operand_names (put b)) kept) in
        let two = two_agree w a b (usable.1, usable.2) is.1 (rest_kept (put c) (operand_names (put a) ++ operand_names (put b)) kept) in
        record { a = two.0.allows; b = two.1.allows; c = condition.allows; values = (record { first = two.0.typed; second = two.1.typed }, condition.typed) }
    operands_agree (Op.Cast cast flags v w a) plain usable is kept =
        let one = both (Ty.Int v) a (put a) usable is.0 (only_kept (put a) kept) in
        record { a = one.allows; b = tt; c = tt; values = one.typed }
    operands_agree (Op.Freeze w a) plain usable is kept =
        let one = both (Ty.Int w) a (put a) usable is.0 (only_kept (put a) kept) in
        record { a = one.allows; b = tt; c = tt; values = one.typed }
    operands_agree (Op.Two fun w a b) plain usable is kept =
        let two = two_agree w a b usable is kept in
        record { a = two.0.allows; b = two.1.allows; c = tt; values = record { first = two.0.typed; second = two.1.typed } }
    operands_agree (Op.One fun w a strict) plain usable is kept =
        let one = both (Ty.Int w) a (put a) usable is.0 (only_kept (put a) kept) in
        record { a = one.allows; b = tt; c = tt; values = one.typed }
    operands_agree (Op.Over over w a b) plain usable is kept =
        let two = two_agree w a b usable is kept in
        record { a = two.0.allows; b = two.1.allows; c = tt; values = record { first = two.0.typed; second = two.1.typed } }
    operands_agree (Op.Part w pair index) plain usable is kept =
        record {
          a = tt;
          b = tt;
          c = agrees.allows pair.0 (kept pair.0 (in_first pair.0 pair.0 [] refl));
          values = operand_typed f m env env' (Ty.Pair w) (Operand.Value pair) agrees (typed_in f m (Ty.Pair w) (Operand.Value pair) usable.typed);
        }
    operands_agree (Op.Assume c) plain usable is kept =
        let one = both (Ty.Int 1) c (put c) usable is.0 (only_kept (put c) kept) in
        record { a = tt; b = tt; c = one.allows; values = one.typed }
    operands_agree (Op.Call w call) plain usable is kept = absurd (cc)

-- ---- results

pub record GivesAllowed (op : Op) (env : Env) (r' : Result) : Type 0 where
  pub result : Result
  pub gives : Gives op env result
  pub allows : AllowsResult result r'

-- what the operation gives of the operands that are put is allowed by what it gives of those that were there
pub result_allowed : (put : Operand → Operand) (op : Op) (env env' : Env) → OperandsAgree put op env env' → (r' : Result) →
    Gives (with_operands put op) env' r' → GivesAllowed op env r'
result_allowed put op env env' agree r' gives =
    let same = same_done put op (operand_value env' (operand_a (with_operands put op))) (operand_value env' (operand_b (with_operands put op)))
    (operand_value env' (operand_c (with_operands put op))) in
    let each = (done_monotone op (operand_value env (operand_a op)) (operand_value env (operand_b op)) (operand_value env (operand_c op))
    (operand_value env' (operand_a (with_operands put op))) (operand_value env' (operand_b (with_operands put op)))
    (operand_value env' (operand_c (with_operands put op))) agree.a agree.b agree.c agree.values).each r' (subst (λ d. Allowed d r') same gives) in
    record { result = each.0; gives = each.1; allows = each.2 }

-- and it is of the operation's type
pub result_typed : (put : Operand → Operand) (op : Op) (env env' : Env) → OperandsAgree put op env env' → IsOperation op → (v : Val) →
    Gives (with_operands put op) env' (Gave v) → IsValueOf (op_type op) v
result_typed put op env env' agree is v gives =
    let same = same_done put op (operand_value env' (operand_a (with_operands put op))) (operand_value env' (operand_b (with_operands put op)))
    (operand_value env' (operand_c (with_operands put op))) in
    done_typed op (operand_value env' (operand_a (with_operands put op))) (operand_value env' (operand_b (with_operands put op)))
    (operand_value env' (operand_c (with_operands put op))) v is agree.values (subst (λ d. Allowed d (Gave v)) same gives)

pub AllowsResult-trans : (r s t : Result) → AllowsResult r s → AllowsResult s t → AllowsResult r t
AllowsResult-trans Undefined s t h k = tt
AllowsResult-trans (Gave u) Undefined t h k = absurd h
AllowsResult-trans (Gave u) (Gave v) Undefined h k = absurd k
AllowsResult-trans (Gave u) (Gave v) (Gave w) h k = AllowsValue-trans u v w h k
