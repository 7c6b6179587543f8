-- The laws of the domain of constants, proved.
use Rattle.std.proofs.Common.{◌≡◌, ◌<◌, ℕ, ◌^◌, ◌⊎◌, Bool, true, false, Option, Some, None, IsTrue, IsSomeAnd, bit_and, nat_eq, ◌==◌, ◌&&◌, if◌then◌else◌, lit<, lit≤, refl, sym, ◌∙◌, ap, subst, inl, inr, arith}
use Rattle.std.specs.Option.{ForSome}
use Rattle.std.proofs.lemmas.Bool.{eqb-true, eq-eqb}
use Rattle.vfa_ir.specs.declared.operations.Op.{Op}
use Rattle.vfa_ir.specs.declared.operations.Pred.{Pred}
use Rattle.vfa_ir.specs.declared.operations.Ty.{Ty}
use Rattle.vfa_ir.specs.Predicates.{by_order}
use Rattle.vfa_ir.specs.Printable.{op_type}
use Rattle.vfa_word.specs.Numbers.{IsWidth}
use Rattle.vfa_word.specs.Operations.{equal, unsigned_less, signed_less}
use Rattle.vfa_mean.specs.declared.value.Val.{Val}
use Rattle.vfa_mean.specs.Meaning.{done, Allowed, Gave, frozen as frozen_value}
use Rattle.vfa_mean.specs.Operands.{IsOperation}
use Rattle.vfa_mean.specs.Values.{IsValueOf}
use Rattle.vfa_mean.proofs.Typing.{done_typed}
use Rattle.vfa_values.specs.declared.constant.Constant.{Constant}
use Rattle.vfa_values.specs.Conditions.{width_of, IsType, IsOf}
use Rattle.vfa_values.specs.Operands.{EachOperand, values_for}
use Rattle.vfa_values.specs.Constants.{constant_type, IsConstant, HoldsOf, is_never_poison, is_only, is_poison, agree, joined, included, frozen, transferred, numbers_of, number_of, compared, agreeing, only_number, rank_of, constant_answers}
use Rattle.vfa_values.specs.Laws.{AreTyped, AreSound, AreSteady, IsLawful}

abbrev Of : Ty → Constant → Type 0
Of t d = IsOf constant_type IsConstant t d

-- ---- options and choices

some_of : {A : Type 0} (P : A → Type 0) (x : A) → P x → ForSome (Some x) P
some_of P x p d e = let same : x ≡ d = cc in subst P same p

none_of : {A : Type 0} (P : A → Type 0) → ForSome None P
none_of P d e = cc

chosen : {A : Type 0} (P : A → Type 0) (b : Bool) (x y : A) → P x → P y → P (if b then x else y)
chosen P true x y p q = p
chosen P false x y p q = q

-- ---- types

constant_width : (d : Constant) → IsConstant d → IsType (constant_type d)
constant_width (Constant.Only w x) is = is.0
constant_width (Constant.Poison t) is = is
constant_width (Constant.Any t never_poison) is = is

part_width : (w : ℕ) (b : Bool) → IsWidth w → IsType (if b then Ty.Int w else Ty.Int 1)
part_width w true is = is
part_width w false is = record { least = omega arith; most = lit≤ tt }

bit_width : IsWidth 1
bit_width = record { least = omega arith; most = lit≤ tt }

result_width : (op : Op) → IsOperation op → IsType (op_type op)
result_width (Op.Bin _ _ w _ _) is = is
result_width (Op.Icmp _ _ _ _ _) is = bit_width
result_width (Op.Select w _ _ _) is = is
result_width (Op.Cast _ _ _ w _) is = is.1
result_width (Op.Freeze w _) is = is
result_width (Op.Two _ w _ _) is = is
result_width (Op.One _ w _ _) is = is
result_width (Op.Over _ w _ _) is = is
result_width (Op.Part w _ index) is = part_width w (index == 0) is.0
result_width (Op.Assume _) is = bit_width
result_width (Op.Call _ _) is = absurd is

-- the numbers of a constant of the type fit it
only_fits : (w v x : ℕ) → Of (Ty.Int w) (Constant.Only v x) → x < 2 ^ w
only_fits w v x of = subst (λ t. x < 2 ^ width_of t) of.typed of.is_proper.1

any_of : (t : Ty) (never_poison : Bool) → IsType t → Of t (Constant.Any t never_poison)
any_of t never_poison is = record { is_proper = is; typed = refl }

only_of : (w x : ℕ) → IsWidth w → x < 2 ^ w → Of (Ty.Int w) (Constant.Only w x)
only_of w x width fits = record { is_proper = (width, fits); typed = refl }

type_width : (t : Ty) (d : Constant) → Of t d → IsType t
type_width t d of = subst IsType of.typed (constant_width d of.is_proper)

frozen_of : (w : ℕ) (a : Constant) → Of (Ty.Int w) a → Of (Ty.Int w) (frozen w a)
frozen_of w (Constant.Only v x) of = only_of w x (type_width (Ty.Int w) (Constant.Only v x) of) (only_fits w v x of)
frozen_of w (Constant.Poison t) of = any_of (Ty.Int w) true (type_width (Ty.Int w) (Constant.Poison t) of)
frozen_of w (Constant.Any t never_poison) of = any_of (Ty.Int w) true (type_width (Ty.Int w) (Constant.Any t never_poison) of)

transferred_of : (op : Op) (a b c : Constant) → IsOperation op →
    EachOperand op (λ t. Of t a) (λ t. Of t b) (λ t. Of t c) → Of (op_type op) (transferred op a)
transferred_of (Op.Bin bin flags w x y) a b c is of = any_of _ false (result_width (Op.Bin bin flags w x y) is)
transferred_of (Op.Icmp pred samesign w x y) a b c is of = any_of _ false (result_width (Op.Icmp pred samesign w x y) is)
transferred_of (Op.Select w x y z) a b c is of = any_of _ false (result_width (Op.Select w x y z) is)
transferred_of (Op.Cast cast flags v w x) a b c is of = any_of _ false (result_width (Op.Cast cast flags v w x) is)
transferred_of (Op.Freeze w x) a b c is of = frozen_of w a of
transferred_of (Op.Two fun w x y) a b c is of = any_of _ false (result_width (Op.Two fun w x y) is)
transferred_of (Op.One fun w x strict) a b c is of = any_of _ false (result_width (Op.One fun w x strict) is)
transferred_of (Op.Over over w x y) a b c is of = any_of _ false (result_width (Op.Over over w x y) is)
transferred_of (Op.Part w pair index) a b c is of = any_of _ false (result_width (Op.Part w pair index) is)
transferred_of (Op.Assume x) a b c is of = any_of _ false (result_width (Op.Assume x) is)
transferred_of (Op.Call width call) a b c is of = absurd is

joined_of : (t : Ty) (a b : Constant) → Of t a → Of t b → Of t (joined a b)
joined_of t a b of of' =
    let P : Constant → Type 0 = Of t in
    let other : Constant = Constant.Any (constant_type a) (is_never_poison a && is_never_poison b) in
    let any : Of t other = record { is_proper = constant_width a of.is_proper; typed = of.typed } in
    chosen P (agree a b) a other of any

numbers_of_of : (t : Ty) (a : Constant) → Of t a → ForSome (numbers_of a) (λ d. Of t d)
numbers_of_of t (Constant.Only w x) of = some_of (λ d. Of t d) (Constant.Only w x) of
numbers_of_of t (Constant.Poison u) of = none_of (λ d. Of t d)
numbers_of_of t (Constant.Any u never_poison) of =
    some_of (λ d. Of t d) (Constant.Any u true) (record { is_proper = of.is_proper; typed = of.typed })

number_of_of : (w v y : ℕ) (a : Constant) → Of (Ty.Int w) (Constant.Only v y) → ForSome (number_of v y a) (λ d. Of (Ty.Int w) d)
number_of_of w v y (Constant.Only _ x) of =
    let P : Constant → Type 0 = λ d. Of (Ty.Int w) d in
    chosen (λ o. ForSome o P) (nat_eq y x) (Some (Constant.Only v y)) None (some_of P (Constant.Only v y) of) (none_of P)
number_of_of w v y (Constant.Poison u) of = none_of (λ d. Of (Ty.Int w) d)
number_of_of w v y (Constant.Any u never_poison) of = some_of (λ d. Of (Ty.Int w) d) (Constant.Only v y) of

compared_of : (w : ℕ) (a b : Constant) (pred : Pred) → Of (Ty.Int w) a → Of (Ty.Int w) b →
    ForSome (compared a pred b) (λ d. Of (Ty.Int w) d)
compared_of w a (Constant.Only v y) Pred.Eq of of' = number_of_of w v y a of'
compared_of w a (Constant.Poison t) Pred.Eq of of' = numbers_of_of (Ty.Int w) a of
compared_of w a (Constant.Any t never_poison) Pred.Eq of of' = numbers_of_of (Ty.Int w) a of
compared_of w a b _ of of' = numbers_of_of (Ty.Int w) a of

agreeing_of : (w mask value : ℕ) (a : Constant) → Of (Ty.Int w) a → ForSome (agreeing a mask value) (λ d. Of (Ty.Int w) d)
agreeing_of w mask value (Constant.Only v x) of =
    let P : Constant → Type 0 = λ d. Of (Ty.Int w) d in
    chosen (λ o. ForSome o P) (nat_eq (bit_and x mask) (bit_and value mask)) (Some (Constant.Only v x)) None (some_of P (Constant.Only v x) of) (none_of P)
agreeing_of w mask value (Constant.Poison t) of = none_of (λ d. Of (Ty.Int w) d)
agreeing_of w mask value (Constant.Any t never_poison) of = numbers_of_of (Ty.Int w) (Constant.Any t never_poison) of

single_of : (w : ℕ) (d : Constant) → Of (Ty.Int w) d → ForSome (only_number d) (λ x. x < 2 ^ w)
single_of w (Constant.Only v x) of = some_of (λ x. x < 2 ^ w) x (only_fits w v x of)
single_of w (Constant.Poison t) of = none_of (λ x. x < 2 ^ w)
single_of w (Constant.Any t never_poison) of = none_of (λ x. x < 2 ^ w)

rank_fits : (d : Constant) → rank_of d < 2 ^ 32
rank_fits (Constant.Only w x) = lit< tt
rank_fits (Constant.Poison t) = lit< tt
rank_fits (Constant.Any t true) = lit< tt
rank_fits (Constant.Any t false) = lit< tt

typed : AreTyped Of constant_answers
typed = record {
  width = type_width;
  literal = only_of;
  any = any_of;
  poison = λ t is. record { is_proper = is; typed = refl };
  transfer = transferred_of;
  join = joined_of;
  widen = λ t old new round marks of of' _ _. joined_of t old new of of';
  compare = compared_of;
  with_bits = λ w mask value a of _ _. agreeing_of w mask value a of;
  moved_from = λ w c a sums of _ _. numbers_of_of (Ty.Int w) a of;
  single = single_of;
  rank = λ t d of. rank_fits d;
}

-- ---- what it holds of

int_within : (w : ℕ) (x : ℕ) (v : Val) → v ≡ Val.Number x → x < 2 ^ w → IsValueOf (Ty.Int w) v
int_within w x v e fits = subst (λ v. IsValueOf (Ty.Int w) v) (sym e) fits

poison_within : (t : Ty) → IsValueOf t Val.Poison
poison_within (Ty.Int w) = tt
poison_within (Ty.Pair w) = tt

constant_within : (d : Constant) (v : Val) → IsConstant d → HoldsOf d v → IsValueOf (constant_type d) v
constant_within (Constant.Only w x) v is holds = int_within w x v holds is.1
constant_within (Constant.Poison t) v is holds = subst (λ v. IsValueOf t v) (sym holds) (poison_within t)
constant_within (Constant.Any t never_poison) v is holds = holds.0

within : (t : Ty) (d : Constant) (v : Val) → Of t d → HoldsOf d v → IsValueOf t v
within t d v of holds = subst (λ t. IsValueOf t v) of.typed (constant_within d v of.is_proper holds)

-- what is never poison does not hold of poison
poison_marks : (d : Constant) (v : Val) → HoldsOf d v → v ≡ Val.Poison → is_never_poison d ≡ false
poison_marks (Constant.Only w x) v holds e = cc
poison_marks (Constant.Poison t) v holds e = refl
poison_marks (Constant.Any t never_poison) v holds e = holds.1 e

and_first : (a b : Bool) → a ≡ false → (a && b) ≡ false
and_first true b e = cc
and_first false b e = refl

and_second : (a b : Bool) → b ≡ false → (a && b) ≡ false
and_second true b e = e
and_second false b e = refl

agree_holds : (a b : Constant) (v : Val) → agree a b ≡ true → HoldsOf b v → HoldsOf a v
agree_holds (Constant.Only w x) (Constant.Only u y) v e holds = holds ∙ ap Val.Number (sym (eqb-true x y e))
agree_holds (Constant.Only w x) (Constant.Poison t) v e holds = cc
agree_holds (Constant.Only w x) (Constant.Any t m) v e holds = cc
agree_holds (Constant.Poison t) (Constant.Only u y) v e holds = cc
agree_holds (Constant.Poison t) (Constant.Poison t') v e holds = holds
agree_holds (Constant.Poison t) (Constant.Any t' m) v e holds = cc
agree_holds (Constant.Any t m) b v e holds = cc

join_first : (t : Ty) (a b : Constant) (v : Val) → Of t a → Of t b → HoldsOf a v → HoldsOf (joined a b) v
join_first t a b v of of' holds =
    let P : Constant → Type 0 = λ d. HoldsOf d v in
    let other : Constant = Constant.Any (constant_type a) (is_never_poison a && is_never_poison b) in
    let any : HoldsOf other v = (
      constant_within a v of.is_proper holds,
      λ e. and_first (is_never_poison a) (is_never_poison b) (poison_marks a v holds e),
    ) in
    chosen P (agree a b) a other holds any

join_second : (t : Ty) (a b : Constant) (v : Val) → Of t a → Of t b → HoldsOf b v → HoldsOf (joined a b) v
join_second t a b v of of' holds =
    let other : Constant = Constant.Any (constant_type a) (is_never_poison a && is_never_poison b) in
    let same : t ≡ constant_type a = sym of.typed in
    let any : HoldsOf other v = (
      subst (λ t. IsValueOf t v) same (within t b v of' holds),
      λ e. and_second (is_never_poison a) (is_never_poison b) (poison_marks b v holds e),
    ) in
    second (agree a b) refl any
  where
    second : (c : Bool) → agree a b ≡ c → HoldsOf (Constant.Any (constant_type a) (is_never_poison a && is_never_poison b)) v →
        HoldsOf (if c then a else Constant.Any (constant_type a) (is_never_poison a && is_never_poison b)) v
    second true e any = agree_holds a b v e holds
    second false e any = any

included_holds : (t : Ty) (a b : Constant) (v : Val) → Of t a → Of t b → included a b ≡ true → HoldsOf b v → HoldsOf a v
included_holds t (Constant.Only w x) b v of of' e holds = agree_holds (Constant.Only w x) b v e holds
included_holds t (Constant.Poison u) b v of of' e holds = agree_holds (Constant.Poison u) b v e holds
included_holds t (Constant.Any u true) b v of of' e holds = (
  subst (λ t. IsValueOf t v) (sym of.typed) (within t b v of' holds),
  λ p. sym e ∙ poison_marks b v holds p,
)
included_holds t (Constant.Any u false) b v of of' e holds =
    (subst (λ t. IsValueOf t v) (sym of.typed) (within t b v of' holds), λ p. refl)

-- ---- what an operation gives

gave_same : (v r : Val) → Gave r ≡ Gave v → r ≡ v
gave_same v r e = cc

-- of each value `freeze` gives a number of the width, or a pair, and never poison
frozen_never : (w : ℕ) (x r : Val) → Allowed (frozen_value w x) (Gave r) → r ≡ Val.Poison → ⊥
frozen_never w (Val.Number n) r gives e = cc
frozen_never w Val.Poison r gives e = let same : r ≡ Val.Number gives.0 = gave_same (Val.Number gives.0) r gives.2 in cc
frozen_never w (Val.Pair n o) r gives e = let same : r ≡ Val.Number gives.0 = gave_same (Val.Number gives.0) r gives.2 in cc

frozen_any : (w : ℕ) (x r : Val) → IsValueOf (Ty.Int w) r → Allowed (frozen_value w x) (Gave r) → HoldsOf (Constant.Any (Ty.Int w) true) r
frozen_any w x r fits gives = (fits, λ e. absurd (frozen_never w x r gives e))

frozen_holds : (w : ℕ) (a : Constant) (x r : Val) → HoldsOf a x → IsValueOf (Ty.Int w) r →
    Allowed (frozen_value w x) (Gave r) → HoldsOf (frozen w a) r
frozen_holds w (Constant.Only v n) x r holds fits gives =
    gave_same (Val.Number n) r (subst (λ x. Allowed (frozen_value w x) (Gave r)) holds gives)
frozen_holds w (Constant.Poison t) x r holds fits gives = frozen_any w x r fits gives
frozen_holds w (Constant.Any t never_poison) x r holds fits gives = frozen_any w x r fits gives

-- of any operation: `freeze` keeps what it held of, and else any value of the type is held of
transferred_holds : (op : Op) (a b c : Constant) (x y z r : Val) →
    EachOperand op (λ _. HoldsOf a x) (λ _. HoldsOf b y) (λ _. HoldsOf c z) →
    IsValueOf (op_type op) r → Allowed (done op x y z) (Gave r) → HoldsOf (transferred op a) r
unfolding done
transferred_holds (Op.Bin _ _ _ _ _) a b c x y z r holds fits gives = (fits, λ _. refl)
transferred_holds (Op.Icmp _ _ _ _ _) a b c x y z r holds fits gives = (fits, λ _. refl)
transferred_holds (Op.Select _ _ _ _) a b c x y z r holds fits gives = (fits, λ _. refl)
transferred_holds (Op.Cast _ _ _ _ _) a b c x y z r holds fits gives = (fits, λ _. refl)
transferred_holds (Op.Freeze w _) a b c x y z r holds fits gives = frozen_holds w a x r holds fits gives
transferred_holds (Op.Two _ _ _ _) a b c x y z r holds fits gives = (fits, λ _. refl)
transferred_holds (Op.One _ _ _ _) a b c x y z r holds fits gives = (fits, λ _. refl)
transferred_holds (Op.Over _ _ _ _) a b c x y z r holds fits gives = (fits, λ _. refl)
transferred_holds (Op.Part _ _ _) a b c x y z r holds fits gives = (fits, λ _. refl)
transferred_holds (Op.Assume _) a b c x y z r holds fits gives = (fits, λ _. refl)
transferred_holds (Op.Call _ _) a b c x y z r holds fits gives = (fits, λ _. refl)

transfer_sound : (op : Op) (a b c : Constant) (x y z r : Val) → IsOperation op →
    EachOperand op (λ t. Of t a) (λ t. Of t b) (λ t. Of t c) →
    EachOperand op (λ _. HoldsOf a x) (λ _. HoldsOf b y) (λ _. HoldsOf c z) →
    Allowed (done op x y z) (Gave r) → HoldsOf (transferred op a) r
transfer_sound op a b c x y z r is of holds gives =
    let fits : IsValueOf (op_type op) r = done_typed op x y z r is (values_for HoldsOf Of within op a b c x y z of holds) gives in
    transferred_holds op a b c x y z r holds fits gives

-- ---- restrictions keep what is wanted

numbers_keep : (a : Constant) (x : ℕ) → HoldsOf a (Val.Number x) → IsSomeAnd (numbers_of a) (λ d. HoldsOf d (Val.Number x))
numbers_keep (Constant.Only w y) x holds = holds
numbers_keep (Constant.Poison t) x holds = cc
numbers_keep (Constant.Any t never_poison) x holds = (holds.0, λ e. cc)

if_true : {A : Type 0} (P : Option A → Type 0) (b : Bool) (o o' : Option A) → b ≡ true → P o → P (if b then o else o')
if_true P true o o' e p = p
if_true P false o o' e p = cc

number_keeps : (w y : ℕ) (a : Constant) (x : ℕ) → HoldsOf a (Val.Number x) → x ≡ y →
    IsSomeAnd (number_of w y a) (λ d. HoldsOf d (Val.Number x))
number_keeps w y (Constant.Only v z) x holds same =
    let keeps : Option Constant → Type 0 = λ o. IsSomeAnd o (λ d. HoldsOf d (Val.Number x)) in
    let found : y ≡ z = cc in
    if_true keeps (nat_eq y z) (Some (Constant.Only w y)) None (eq-eqb y z found) (ap Val.Number same)
number_keeps w y (Constant.Poison t) x holds same = cc
number_keeps w y (Constant.Any t never_poison) x holds same = ap Val.Number same

compare_keeps : (w x y : ℕ) (a b : Constant) (pred : Pred) → HoldsOf a (Val.Number x) → HoldsOf b (Val.Number y) →
    IsTrue (by_order pred equal unsigned_less (signed_less w) x y) →
    IsSomeAnd (compared a pred b) (λ d. HoldsOf d (Val.Number x))
unfolding by_order
compare_keeps w x y a (Constant.Only v z) Pred.Eq holds holds' wanted =
    let equals : x ≡ y = eqb-true x y wanted in
    let same : x ≡ z = cc in
    number_keeps v z a x holds same
compare_keeps w x y a (Constant.Poison t) Pred.Eq holds holds' wanted = numbers_keep a x holds
compare_keeps w x y a (Constant.Any t never_poison) Pred.Eq holds holds' wanted = numbers_keep a x holds
compare_keeps w x y a b _ holds holds' wanted = numbers_keep a x holds

agreeing_keeps : (a : Constant) (x mask value : ℕ) → HoldsOf a (Val.Number x) → bit_and x mask ≡ bit_and value mask →
    IsSomeAnd (agreeing a mask value) (λ d. HoldsOf d (Val.Number x))
agreeing_keeps (Constant.Only w y) x mask value holds same =
    let keeps : Option Constant → Type 0 = λ o. IsSomeAnd o (λ d. HoldsOf d (Val.Number x)) in
    let found : x ≡ y = cc in
    let agree : bit_and y mask ≡ bit_and value mask = rw found at same in
    if_true keeps (nat_eq (bit_and y mask) (bit_and value mask)) (Some (Constant.Only w y)) None (eq-eqb _ _ agree) holds
agreeing_keeps (Constant.Poison t) x mask value holds same = cc
agreeing_keeps (Constant.Any t never_poison) x mask value holds same = numbers_keep (Constant.Any t never_poison) x holds

single_alone : (t : Ty) (d : Constant) (x y : ℕ) → Of t d → only_number d ≡ Some x → HoldsOf d (Val.Number y) → y ≡ x
single_alone t (Constant.Only w z) x y of e holds = cc
single_alone t (Constant.Poison u) x y of e holds = cc
single_alone t (Constant.Any u never_poison) x y of e holds = cc

sound : AreSound HoldsOf Of constant_answers
sound = record {
  within = within;
  literal = λ w x v _ _. (λ h. h, λ h. h);
  any = λ t never_poison v _ fits poison. (fits, poison);
  poison = λ t _. refl;
  transfer = transfer_sound;
  join_first = join_first;
  join_second = join_second;
  widen_old = λ t old new round marks v of of' _ _. join_first t old new v of of';
  widen_new = λ t old new round marks v of of' _ _. join_second t old new v of of';
  includes = included_holds;
  compare = λ w x y a b pred _ _. compare_keeps w x y a b pred;
  with_bits = λ w x mask value a _ _ _. agreeing_keeps a x mask value;
  moved_from = λ w x c a sums _ _ _ holds _. numbers_keep a x holds;
  single = single_alone;
}

-- ---- steadiness

and_itself : (a : Bool) → (a && a) ≡ a
and_itself true = refl
and_itself false = refl

if_true_is : {A : Type 0} (b : Bool) (x y : A) → b ≡ true → (if b then x else y) ≡ x
if_true_is true x y e = refl
if_true_is false x y e = cc

any_rank : (t : Ty) (m : Bool) → rank_of (Constant.Any t m) < 2
any_rank t true = lit< tt
any_rank t false = lit< tt

one_falls : (b : Bool) (d : Constant) (t : Ty) (m : Bool) → rank_of d ≡ 2 →
    ((if b then d else Constant.Any t m) ≡ d) ⊎ (rank_of (if b then d else Constant.Any t m) < rank_of d)
one_falls true d t m e = inl refl
one_falls false d t m e = inr (subst (λ n. rank_of (Constant.Any t m) < n) (sym e) (any_rank t m))

any_falls : (t : Ty) (m : Bool) → (Constant.Any t m ≡ Constant.Any t true) ⊎ (rank_of (Constant.Any t m) < 1)
any_falls t true = inl refl
any_falls t false = inr (lit< tt)

join_itself : (d : Constant) → joined d d ≡ d
join_itself (Constant.Only w x) =
    if_true_is (nat_eq x x) (Constant.Only w x) (Constant.Any (Ty.Int w) true) (eq-eqb x x refl)
join_itself (Constant.Poison t) = refl
join_itself (Constant.Any t never_poison) = ap (λ m. Constant.Any t m) (and_itself never_poison)

-- a join is the first, or lower in rank
join_falls : (a b : Constant) → (joined a b ≡ a) ⊎ (rank_of (joined a b) < rank_of a)
join_falls (Constant.Only w x) b = one_falls (is_only x b) (Constant.Only w x) (Ty.Int w) (is_never_poison b) refl
join_falls (Constant.Poison t) b = one_falls (is_poison b) (Constant.Poison t) t false refl
join_falls (Constant.Any t true) b = any_falls t (is_never_poison b)
join_falls (Constant.Any t false) b = inl refl

steady : AreSteady Of constant_answers
steady = record {
  join_itself = λ t d _. join_itself d;
  widen_itself = λ t d round marks _ _ _. join_itself d;
  stays = λ t old new round later marks _ _ _ _ _ same. same;
  falls = λ t old new round marks _ _ _ _. join_falls old new;
}

pub constant_laws : IsLawful HoldsOf constant_type IsConstant constant_answers
constant_laws = record { typed = typed; sound = sound; steady = steady }
