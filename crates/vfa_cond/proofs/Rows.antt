-- What a fact says of the operands of an equation holds of their values: one lemma for each kind of operation.
use Rattle.std.proofs.Common.{◌≡◌, ◌<◌, ◌%◌, ◌^◌, ℕ, zero, suc, Bool, true, false, not, nat_eq, if◌then◌else◌, Some, IsTrue, bit_and, bit_or, bit_xor, refl, sym, ◌∙◌, ap, subst, eqb-true, eq-eqb, arith}
use Rattle.std.specs.Option.{ForSome}
use Rattle.std.specs.Int.Bits.{and_self}
use Rattle.std.proofs.Math.Nat.{mod-mod}
use Rattle.std.proofs.lemmas.Nat.{and_assoc, le_or_l, and_mask}
use Rattle.std.proofs.lemmas.Bool.Decides.{nat_tests}
use Rattle.vfa_ir.specs.declared.operations.Operand.{Operand}
use Rattle.vfa_ir.specs.declared.operations.Pred.{Pred}
use Rattle.vfa_ir.specs.Predicates.{by_order}
use Rattle.vfa_word.specs.Operations.{equal, unsigned_less, signed_less}
use Rattle.vfa_mean.specs.declared.value.Done.{Done}
use Rattle.vfa_mean.specs.declared.value.Val.{Val}
use Rattle.vfa_mean.specs.Values.{Env, operand_value}
use Rattle.vfa_mean.specs.Meaning.{Gave, Allowed, of_one, of_two}
use Rattle.vfa_mean.specs.Rows.{number_unless}
use Rattle.vfa_cond.specs.declared.consequence.BesideLiteral.{BesideLiteral}
use Rattle.vfa_cond.specs.Opposites.{negated, exchanged}
use Rattle.vfa_cond.specs.Consequences.{beside_literal, is_literal}

-- ---- predicates

not_false : (b : Bool) → not b ≡ false → IsTrue b
not_false true h = refl
not_false false h = absurd cc

false_not : (b : Bool) → b ≡ false → IsTrue (not b)
false_not true h = absurd cc
false_not false h = refl

pub negated_holds : {A : Type 0} (pred : Pred) (same less below : A → A → Bool) (x y : A) → by_order pred same less below x y ≡ false → IsTrue (by_order (negated pred) same less below x y)
unfolding by_order
negated_holds Pred.Eq same less below x y e = false_not _ e
negated_holds Pred.Ne same less below x y e = not_false _ e
negated_holds Pred.Ugt same less below x y e = false_not _ e
negated_holds Pred.Uge same less below x y e = not_false _ e
negated_holds Pred.Ult same less below x y e = false_not _ e
negated_holds Pred.Ule same less below x y e = not_false _ e
negated_holds Pred.Sgt same less below x y e = false_not _ e
negated_holds Pred.Sge same less below x y e = not_false _ e
negated_holds Pred.Slt same less below x y e = false_not _ e
negated_holds Pred.Sle same less below x y e = not_false _ e

pub equal_holds : (w x y : ℕ) → x ≡ y → IsTrue (by_order Pred.Eq equal unsigned_less (signed_less w) x y)
unfolding by_order
equal_holds w x y e = eq-eqb x y e

equal_turns : (x y : ℕ) → equal y x ≡ equal x y
equal_turns x y = grind (arith, nat_tests)

pub exchanged_holds : (pred : Pred) (w x y : ℕ) → by_order (exchanged pred) equal unsigned_less (signed_less w) y x ≡ by_order pred equal unsigned_less (signed_less w) x y
unfolding by_order
exchanged_holds Pred.Eq w x y = equal_turns x y
exchanged_holds Pred.Ne w x y = ap not (equal_turns x y)
exchanged_holds Pred.Ugt w x y = refl
exchanged_holds Pred.Uge w x y = refl
exchanged_holds Pred.Ult w x y = refl
exchanged_holds Pred.Ule w x y = refl
exchanged_holds Pred.Sgt w x y = refl
exchanged_holds Pred.Sge w x y = refl
exchanged_holds Pred.Slt w x y = refl
exchanged_holds Pred.Sle w x y = refl

-- ---- bits

pub and_one : (x y : ℕ) → x < 2 → bit_and x y ≡ 1 → x ≡ 1
and_one zero y small e = absurd (let f : 0 ≡ 1 = e in omega arith)
and_one (suc zero) y small e = refl
and_one (suc (suc x)) y small e = absurd (omega arith)

pub or_zero : (x y : ℕ) → bit_or x y ≡ 0 → x ≡ 0
or_zero x y e = omega (arith, le_or_l x y)

pub opposite_bit : (x v : ℕ) → x < 2 → v ≡ bit_xor x 1 → x ≡ (if nat_eq v 0 then 1 else 0)
opposite_bit zero v small e = rw e refl
opposite_bit (suc zero) v small e = rw e refl
opposite_bit (suc (suc x)) v small e = absurd (omega arith)

pub and_twice : (x c v : ℕ) → v ≡ bit_and x c → bit_and v c ≡ v
and_twice x c v e = ap (λ k. bit_and k c) e ∙ (and_assoc c x c ∙ (ap (bit_and x) (and_self c) ∙ sym e))

pub low_bit : (x v : ℕ) → v ≡ x % 2 ^ 1 → bit_and x 1 ≡ bit_and v 1
low_bit x v e = and_mask x 1 ∙ (sym (mod-mod x (2 ^ 1)) ∙ (ap (λ k. k % 2 ^ 1) (sym e) ∙ sym (and_mask v 1)))

-- ---- what an operation gives

pub unless_number : (broken : Bool) (z n : ℕ) → Allowed (number_unless broken z) (Gave (Val.Number n)) → n ≡ z
unless_number true z n e = absurd (let f : Gave (Val.Number n) ≡ Gave Val.Poison = e in cc)
unless_number false z n e = let f : Gave (Val.Number n) ≡ Gave (Val.Number z) = e in cc

-- an operation on one number, or two, gave a number: the operands are numbers
pub record OfOne (row : ℕ → Done) (a : Val) (n : ℕ) : Type 0 where
  pub x : ℕ
  pub is : a ≡ Val.Number x
  pub gave : Allowed (row x) (Gave (Val.Number n))

pub of_one_number : (row : ℕ → Done) (a : Val) (n : ℕ) → Allowed (of_one row a) (Gave (Val.Number n)) → OfOne row a n
of_one_number row (Val.Number x) n e = record { x = x; is = refl; gave = e }
of_one_number row Val.Poison n e = absurd (let f : Gave (Val.Number n) ≡ Gave Val.Poison = e in cc)
of_one_number row (Val.Pair x o) n e = absurd (let f : Gave (Val.Number n) ≡ Gave Val.Poison = e in cc)

pub record OfTwo (row : ℕ → ℕ → Done) (a b : Val) (n : ℕ) : Type 0 where
  pub x : ℕ
  pub y : ℕ
  pub first : a ≡ Val.Number x
  pub second : b ≡ Val.Number y
  pub gave : Allowed (row x y) (Gave (Val.Number n))

pub of_two_number : (row : ℕ → ℕ → Done) (a b : Val) (n : ℕ) → Allowed (of_two row a b) (Gave (Val.Number n)) → OfTwo row a b n
of_two_number row (Val.Number x) (Val.Number y) n e = record { x = x; y = y; first = refl; second = refl; gave = e }
of_two_number row (Val.Number x) Val.Poison n e = absurd (let f : Gave (Val.Number n) ≡ Gave Val.Poison = e in cc)
of_two_number row (Val.Number x) (Val.Pair y o) n e = absurd (let f : Gave (Val.Number n) ≡ Gave Val.Poison = e in cc)
of_two_number row Val.Poison b n e = absurd (let f : Gave (Val.Number n) ≡ Gave Val.Poison = e in cc)
of_two_number row (Val.Pair x o) b n e = absurd (let f : Gave (Val.Number n) ≡ Gave Val.Poison = e in cc)

-- a number beside a literal, where h is the same of two numbers in either order
pub record IsBeside (h : ℕ → ℕ → ℕ) (env : Env) (n : ℕ) (l : BesideLiteral) : Type 0 where
  pub x : ℕ
  pub is : operand_value env l.other ≡ Val.Number x
  pub gave : n ≡ h x l.literal

-- the number of a value, if it is one
abbrev pub number_in : Val → ℕ
number_in (Val.Number x) = x
number_in Val.Poison = 0
number_in (Val.Pair x o) = 0

same_number : (c x : ℕ) → Val.Number c ≡ Val.Number x → x ≡ c
same_number c x e = cc

some_beside : (h : ℕ → ℕ → ℕ) (env : Env) (n : ℕ) (l : BesideLiteral) → IsBeside h env n l → ForSome (Some l) (IsBeside h env n)
some_beside h env n l is m e = let same : l ≡ m = cc in subst (IsBeside h env n) same is

beside_second : (h : ℕ → ℕ → ℕ) (env : Env) (a : Operand) (c x y n : ℕ) → operand_value env a ≡ Val.Number x → Val.Number c ≡ Val.Number y → n ≡ h x y
    → IsBeside h env n (record { other = a; literal = c })
beside_second h env a c x y n first second gave = record { x = x; is = first; gave = gave ∙ ap (h x) (same_number c y second) }

beside_first : (h : ℕ → ℕ → ℕ) → ((x y : ℕ) → h x y ≡ h y x) → (env : Env) (b : Operand) (c x y n : ℕ) → Val.Number c ≡ Val.Number x → operand_value env b ≡ Val.Number y → n ≡ h x y
    → IsBeside h env n (record { other = b; literal = c })
beside_first h turns env b c x y n first second gave = record { x = y; is = second; gave = gave ∙ (turns x y ∙ ap (h y) (same_number c x first)) }

pub beside_true : (h : ℕ → ℕ → ℕ) → ((x y : ℕ) → h x y ≡ h y x) → (env : Env) (a b : Operand) (x y n : ℕ)
    → operand_value env a ≡ Val.Number x → operand_value env b ≡ Val.Number y → n ≡ h x y → ForSome (beside_literal a b) (IsBeside h env n)
beside_true h turns env a (Operand.Literal c) x y n first second gave = some_beside h env n _ (beside_second h env a c x y n first second gave)
beside_true h turns env (Operand.Literal c) (Operand.Value v) x y n first second gave = some_beside h env n _ (beside_first h turns env (Operand.Value v) c x y n first second gave)
beside_true h turns env (Operand.Literal c) Operand.Poison x y n first second gave = some_beside h env n _ (beside_first h turns env Operand.Poison c x y n first second gave)
beside_true h turns env (Operand.Value u) (Operand.Value v) x y n first second gave = λ l e. absurd cc
beside_true h turns env (Operand.Value u) Operand.Poison x y n first second gave = λ l e. absurd cc
beside_true h turns env Operand.Poison b x y n first second gave = λ l e. absurd cc

pub literal_is : (n : ℕ) (x : Operand) → is_literal n x ≡ true → x ≡ Operand.Literal n
literal_is n (Operand.Literal c) e = ap Operand.Literal (eqb-true c n e)
literal_is n (Operand.Value v) e = absurd cc
literal_is n Operand.Poison e = absurd cc
