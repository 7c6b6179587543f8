-- Operations on operands that agree on the bits that are asked of them: the results agree on the bits that are asked for.
use Rattle.std.proofs.Common.{◌≡◌, ℕ, ◌-◌, ◌^◌, ◌<◌, ◌≤◌, Bool, true, false, ◌||◌, refl, sym, ◌∙◌, ap, subst, arith, pow_mono, inl, inr, ◌⊎◌, rules, tests, bit_or}
use Rattle.std.specs.Prelude.{nat_eq, nat_lt, nat_le, not, if◌then◌else◌, ⊤}
use Rattle.std.specs.Int.{bit_at}
use Rattle.std.proofs.lemmas.Bool.{cases_lt, lt-ltb}
use Rattle.vfa_ir.specs.declared.operations.Bin.{Bin}
use Rattle.vfa_ir.specs.declared.operations.Cast.{Cast}
use Rattle.vfa_ir.specs.declared.operations.CastFlags.{CastFlags}
use Rattle.vfa_ir.specs.declared.operations.Flags.{Flags}
use Rattle.vfa_ir.specs.declared.operations.Op.{Op}
use Rattle.vfa_ir.specs.declared.operations.Operand.{Operand}
use Rattle.vfa_ir.specs.Operands.{no_flags, no_cast_flags, without_flags}
use Rattle.vfa_ir.specs.Typed.{Converts}
use Rattle.vfa_word.specs.Numbers.{IsWidth}
use Rattle.vfa_word.specs.Operations.{shifted_left, shifted_right, shifted_right_signed}
use Rattle.vfa_mean.specs.declared.value.Done.{Done}
use Rattle.vfa_mean.specs.declared.value.Val.{Val}
use Rattle.vfa_mean.specs.Values.{AllowsValue, AreOfWidth, IsInt}
use Rattle.vfa_mean.specs.Meaning.{Result, Gave, Allowed, done, binary, of_one, of_two, chosen, frozen, operand_a, operand_b}
use Rattle.vfa_mean.specs.Rows.{number_unless, convert}
use Rattle.vfa_mean.specs.Operands.{IsOperation, AreValuesFor}
use Rattle.vfa_mean.proofs.Results.{IsOne, one, of_one-one, of_two-one, chosen-one, convert-one, part_of-one, one_number-one}
use Rattle.std.specs.Int.Bits.{and_self}
use Rattle.vfa_mean.specs.Laws.{AllowsDone}
use Rattle.vfa_mean.specs.Moments.{is_call}
use Rattle.vfa_mean.proofs.Monotony.{done_monotone}
use Rattle.vfa_demand.specs.Masks.{IsPartOf}
use Rattle.vfa_demand.specs.Rows.{all_bits, sign_if, let_through, left_open, left_value, right_value, right_signed_value, first_of_binary, second_of_binary, is_division, needs_all, of_cast, of_operand, asked}
use Rattle.vfa_bits.proofs.SameBits.{SameOn, same_self, same_equal, same_whole, same_cut, add_same, mul_same, sub_same, SameUnless, and_same, or_same, xor_same, let_through_tells, left_open_tells, left_same, left_low_same, right_same, signed_same, extended_same, zero_same, unseen_same}
use Rattle.vfa_bits.proofs.Agreeing.{AgreesOn, pair_allows, whole_allows, AgreesResult, AgreesDone, value_agrees, poison_agrees, done_agrees, done_refl}

not_true : (t : Bool) → not t ≡ true → t ≡ false
not_true false e = refl
not_true true e = absurd (cc)

not_false : (t : Bool) → not t ≡ false → t ≡ true
not_false true e = refl
not_false false e = absurd (cc)

part_self : (a : ℕ) → IsPartOf a a
part_self a = and_self a

-- what is known of an operand of the function as written: a literal is itself on both sides
abbrev pub IsRead : Operand → Val → Val → Type 0
IsRead (Operand.Value v) a a' = ⊤
IsRead (Operand.Literal c) a a' = (a ≡ Val.Number c) × (a' ≡ Val.Number c)
IsRead Operand.Poison a a' = a ≡ Val.Poison

pub record AgreeTwo (p q : ℕ) (a b a' b' : Val) : Type 0 where
  pub first : AgreesOn p a a'
  pub second : AgreesOn q b b'

pub unless_agrees : (d : ℕ) (broken broken' : Bool) (n n' : ℕ) → (broken' ≡ true → broken ≡ true) → (broken ≡ false → SameOn d n n') →
    AgreesDone d (number_unless broken n) (number_unless broken' n')
unless_agrees d true broken' n n' h same = value_agrees d Val.Poison (if broken' then Val.Poison else Val.Number n') tt
unless_agrees d false true n n' h same = absurd (let e = h refl in cc)
unless_agrees d false false n n' h same = value_agrees d (Val.Number n) (Val.Number n') (same refl)

two_agrees : (d p q w : ℕ) (row row' : ℕ → ℕ → Done) (a b a' b' : Val) → AreOfWidth w a b → AreOfWidth w a' b' → AgreeTwo p q a b a' b' →
    ((x y : ℕ) → IsOne (row' x y)) →
    ((x y x' y' : ℕ) → a ≡ Val.Number x → b ≡ Val.Number y → a' ≡ Val.Number x' → b' ≡ Val.Number y' → x < 2 ^ w → y < 2 ^ w → x' < 2 ^ w → y' < 2 ^ w →
    SameOn p x x' → SameOn q y y' → AgreesDone d (row x y) (row' x' y')) →
    AgreesDone d (of_two row a b) (of_two row' a' b')
two_agrees d p q w row row' Val.Poison b a' b' i i' agree once h = poison_agrees d _ (of_two-one row' a' b' once)
two_agrees d p q w row row' (Val.Pair x o) b a' b' i i' agree once h = absurd i.first
two_agrees d p q w row row' (Val.Number x) Val.Poison a' b' i i' agree once h = poison_agrees d _ (of_two-one row' a' b' once)
two_agrees d p q w row row' (Val.Number x) (Val.Pair y o) a' b' i i' agree once h = absurd i.second
two_agrees d p q w row row' (Val.Number x) (Val.Number y) Val.Poison b' i i' agree once h = absurd agree.first
two_agrees d p q w row row' (Val.Number x) (Val.Number y) (Val.Pair x' o) b' i i' agree once h = absurd agree.first
two_agrees d p q w row row' (Val.Number x) (Val.Number y) (Val.Number x') Val.Poison i i' agree once h = absurd agree.second
two_agrees d p q w row row' (Val.Number x) (Val.Number y) (Val.Number x') (Val.Pair y' o) i i' agree once h = absurd agree.second
two_agrees d p q w row row' (Val.Number x) (Val.Number y) (Val.Number x') (Val.Number y') i i' agree once h =
    h x y x' y' refl refl refl refl i.first i.second i'.first i'.second agree.first agree.second

one_agrees : (d p w : ℕ) (row row' : ℕ → Done) (a a' : Val) → IsInt w a → IsInt w a' → AgreesOn p a a' → ((x : ℕ) → IsOne (row' x)) →
    ((x x' : ℕ) → x < 2 ^ w → x' < 2 ^ w → SameOn p x x' → AgreesDone d (row x) (row' x')) →
    AgreesDone d (of_one row a) (of_one row' a')
one_agrees d p w row row' Val.Poison a' i i' agree once h = poison_agrees d _ (of_one-one row' a' once)
one_agrees d p w row row' (Val.Pair x o) a' i i' agree once h = absurd i
one_agrees d p w row row' (Val.Number x) Val.Poison i i' agree once h = absurd agree
one_agrees d p w row row' (Val.Number x) (Val.Pair x' o) i i' agree once h = absurd agree
one_agrees d p w row row' (Val.Number x) (Val.Number x') i i' agree once h = h x x' i i' agree

-- ---- the operand beside a literal

read_number : (c y : ℕ) (b : Val) → b ≡ Val.Number c → b ≡ Val.Number y → y ≡ c
read_number c y b e f = cc

let_unless : (o : Operand) (d x x' y y' : ℕ) (b b' : Val) → SameOn (let_through o d) x x' → IsRead o b b' → b ≡ Val.Number y → b' ≡ Val.Number y' →
    (i : ℕ) → bit_at d i ≡ 1 → SameUnless 0 x x' y y' i
unfolding let_through
let_unless (Operand.Value v) d x x' y y' b b' same read e e' i on = inl (same.at i on)
let_unless Operand.Poison d x x' y y' b b' same read e e' i on = inl (same.at i on)
let_unless (Operand.Literal c) d x x' y y' b b' same read e e' i on = elim (let_through_tells d c x x' i same on) [
  | inl k ↦ inl k
  | inr off ↦ inr (ap (λ n. bit_at n i) (read_number c y b read.0 e) ∙ off, ap (λ n. bit_at n i) (read_number c y' b' read.1 e') ∙ off)
]

open_unless : (o : Operand) (d x x' y y' : ℕ) (b b' : Val) → d < 2 ^ 128 → y < 2 ^ 128 → SameOn (left_open o d) x x' → IsRead o b b' →
    b ≡ Val.Number y → b' ≡ Val.Number y' → (i : ℕ) → bit_at d i ≡ 1 → SameUnless 1 x x' y y' i
unfolding left_open
open_unless (Operand.Value v) d x x' y y' b b' fits small same read e e' i on = inl (same.at i on)
open_unless Operand.Poison d x x' y y' b b' fits small same read e e' i on = inl (same.at i on)
open_unless (Operand.Literal c) d x x' y y' b b' fits small same read e e' i on =
    let is = read_number c y b read.0 e in
    elim (left_open_tells d c x x' i fits (subst (λ n. n < 2 ^ 128) is small) same on) [
      | inl k ↦ inl k
      | inr on_c ↦ inr (ap (λ n. bit_at n i) is ∙ on_c, ap (λ n. bit_at n i) (read_number c y' b' read.1 e') ∙ on_c)
    ]

-- ---- shifts by an amount below the width

in_range : {A : Type 0} (c w : ℕ) (x y : A) → c < w → (if nat_lt c w then x else y) ≡ x
in_range c w x y h = ap (λ t. if t then x else y) (lt-ltb c w h)

no_poison : (y : ℕ) (b : Val) → b ≡ Val.Poison → b ≡ Val.Number y → ⊥
no_poison y b e f = cc

left_number : (o : Operand) (w d x x' y : ℕ) (b b' : Val) → d < 2 ^ 128 → y < w → SameOn (left_value w o d) x x' → IsRead o b b' → b ≡ Val.Number y →
    SameOn d (shifted_left w x y) (shifted_left w x' y)
unfolding left_value
left_number (Operand.Value v) w d x x' y b b' fits below same read e = left_low_same w d x x' y fits same
left_number Operand.Poison w d x x' y b b' fits below same read e = absurd (no_poison y b read e)
left_number (Operand.Literal c) w d x x' y b b' fits below same read e =
    let is : y ≡ c = read_number c y b read.0 e in
    let here = subst (λ m. SameOn m x x') (in_range c w (shifted_right d c) (all_bits w) (subst (λ n. n < w) is below)) same in
    left_same w d x x' y (subst (λ n. SameOn (shifted_right d n) x x') (sym is) here)

right_number : (o : Operand) (w d x x' y : ℕ) (b b' : Val) → x < 2 ^ w → x' < 2 ^ w → y < w → SameOn (right_value w o d) x x' → IsRead o b b' →
    b ≡ Val.Number y → SameOn d (shifted_right x y) (shifted_right x' y)
unfolding right_value
right_number (Operand.Value v) w d x x' y b b' fits fits' below same read e =
    same_equal d (shifted_right x y) (shifted_right x' y) (ap (λ n. shifted_right n y) (same_whole w x x' fits fits' same))
right_number Operand.Poison w d x x' y b b' fits fits' below same read e = absurd (no_poison y b read e)
right_number (Operand.Literal c) w d x x' y b b' fits fits' below same read e =
    let is : y ≡ c = read_number c y b read.0 e in
    let here = subst (λ m. SameOn m x x') (in_range c w (shifted_left w d c) (all_bits w) (subst (λ n. n < w) is below)) same in
    right_same w d x x' y fits fits' (subst (λ n. SameOn (shifted_left w d n) x x') (sym is) here)

signed_number : (o : Operand) (w d x x' y : ℕ) (b b' : Val) → IsWidth w → x < 2 ^ w → x' < 2 ^ w → y < w → SameOn (right_signed_value w o d) x x' → IsRead o b b' →
    b ≡ Val.Number y → SameOn d (shifted_right_signed w x y) (shifted_right_signed w x' y)
unfolding right_signed_value
signed_number (Operand.Value v) w d x x' y b b' width fits fits' below same read e =
    same_equal d (shifted_right_signed w x y) (shifted_right_signed w x' y) (ap (λ n. shifted_right_signed w n y) (same_whole w x x' fits fits' same))
signed_number Operand.Poison w d x x' y b b' width fits fits' below same read e = absurd (no_poison y b read e)
signed_number (Operand.Literal c) w d x x' y b b' width fits fits' below same read e =
    let is : y ≡ c = read_number c y b read.0 e in
    let here = subst (λ m. SameOn m x x')
    (in_range c w (bit_or (shifted_left w d c) (sign_if (nat_lt (2 ^ (w - c) - 1) d) w)) (all_bits w) (subst (λ n. n < w) is below)) same in
    signed_same w d x x' y width below fits fits'
    (subst (λ n. SameOn (bit_or (shifted_left w d n) (sign_if (nat_lt (2 ^ (w - n) - 1) d) w)) x x') (sym is) here)

-- an amount that is not too far
not_far : (w y : ℕ) (other : Bool) → (nat_le w y || other) ≡ false → y < w
not_far w y other e = by (nat_le w y) refl e
  where
    by : (t : Bool) → nat_le w y ≡ t → (t || other) ≡ false → y < w
    by true is e = absurd (cc)
    by false is e = elim (cases_lt y w) [
      | inl below ↦ below
      | inr far ↦ absurd (let f : nat_le w y ≡ true = search (rules, tests) in cc)
    ]

too_far : (far other : Bool) → (far || false) ≡ true → (far || other) ≡ true
too_far true other e = refl
too_far false other e = absurd (cc)

never : (t : Bool) → false ≡ true → t ≡ true
never t e = absurd (cc)

shift_agrees : (d w x x' y y' : ℕ) (other : Bool) (shifted : ℕ → ℕ → ℕ) → y ≡ y' → (y < w → SameOn d (shifted x y) (shifted x' y)) →
    AgreesDone d (number_unless (nat_le w y || other) (shifted x y)) (number_unless (nat_le w y' || false) (shifted x' y'))
shift_agrees d w x x' y y' other shifted e same =
    subst (λ z. AgreesDone d (number_unless (nat_le w y || other) (shifted x y)) (number_unless (nat_le w z || false) (shifted x' z))) e
    (unless_agrees d (nat_le w y || other) (nat_le w y || false) (shifted x y) (shifted x' y) (too_far (nat_le w y) other) (λ fine. same (not_far w y other fine)))

-- ---- binary operations that are no divisions

binary_agrees : (bin : Bin) (flags : Flags) (w d : ℕ) (oa ob : Operand) (a b a' b' : Val) → is_division bin ≡ false → d < 2 ^ 128 → IsWidth w →
    AreOfWidth w a b → AreOfWidth w a' b' → AgreeTwo (first_of_binary bin w ob d) (second_of_binary bin w oa d) a b a' b' → IsRead oa a a' → IsRead ob b b' →
    AgreesDone d (binary bin flags w a b) (binary bin no_flags w a' b')
unfolding first_of_binary
binary_agrees Bin.Add flags w d oa ob a b a' b' part fits width i i' agree ra rb = two_agrees d _ _ w _ _ a b a' b' i i' agree (λ x y. one _)
    (λ x y x' y' ea eb ea' eb' fx fy fx' fy' s t. unless_agrees d _ _ _ _ (never _) (λ _. add_same w d x y x' y' fits s t))
binary_agrees Bin.Sub flags w d oa ob a b a' b' part fits width i i' agree ra rb = two_agrees d _ _ w _ _ a b a' b' i i' agree (λ x y. one _)
    (λ x y x' y' ea eb ea' eb' fx fy fx' fy' s t. unless_agrees d _ _ _ _ (never _) (λ _. sub_same w d x y x' y' fits fx fy fx' fy' s t))
binary_agrees Bin.Mul flags w d oa ob a b a' b' part fits width i i' agree ra rb = two_agrees d _ _ w _ _ a b a' b' i i' agree (λ x y. one _)
    (λ x y x' y' ea eb ea' eb' fx fy fx' fy' s t. unless_agrees d _ _ _ _ (never _) (λ _. mul_same w d x y x' y' fits s t))
binary_agrees Bin.And flags w d oa ob a b a' b' part fits width i i' agree ra rb = two_agrees d _ _ w _ _ a b a' b' i i' agree (λ x y. one _)
    (λ x y x' y' ea eb ea' eb' fx fy fx' fy' s t. value_agrees d _ _
    (and_same d x y x' y' (let_unless ob d x x' y y' b b' s rb eb eb') (let_unless oa d y y' x x' a a' t ra ea ea')))
binary_agrees Bin.Or flags w d oa ob a b a' b' part fits width i i' agree ra rb = two_agrees d _ _ w _ _ a b a' b' i i' agree (λ x y. one _)
    (λ x y x' y' ea eb ea' eb' fx fy fx' fy' s t.
    let most : 2 ^ w ≤ 2 ^ 128 = pow_mono width.most in
    unless_agrees d _ _ _ _ (never _) (λ _.
    or_same d x y x' y' (open_unless ob d x x' y y' b b' fits (omega (arith, fy, most)) s rb eb eb') (open_unless oa d y y' x x' a a' fits (omega (arith, fx, most)) t ra ea ea')))
binary_agrees Bin.Xor flags w d oa ob a b a' b' part fits width i i' agree ra rb = two_agrees d _ _ w _ _ a b a' b' i i' agree (λ x y. one _)
    (λ x y x' y' ea eb ea' eb' fx fy fx' fy' s t. value_agrees d _ _ (xor_same d x y x' y' s t))
binary_agrees Bin.Shl flags w d oa ob a b a' b' part fits width i i' agree ra rb = two_agrees d _ _ w _ _ a b a' b' i i' agree (λ x y. one _)
    (λ x y x' y' ea eb ea' eb' fx fy fx' fy' s t.
    shift_agrees d w x x' y y' _ (shifted_left w) (same_whole w y y' fy fy' t) (λ below. left_number ob w d x x' y b b' fits below s rb eb))
binary_agrees Bin.Lshr flags w d oa ob a b a' b' part fits width i i' agree ra rb = two_agrees d _ _ w _ _ a b a' b' i i' agree (λ x y. one _)
    (λ x y x' y' ea eb ea' eb' fx fy fx' fy' s t.
    shift_agrees d w x x' y y' _ shifted_right (same_whole w y y' fy fy' t) (λ below. right_number ob w d x x' y b b' fx fx' below s rb eb))
binary_agrees Bin.Ashr flags w d oa ob a b a' b' part fits width i i' agree ra rb = two_agrees d _ _ w _ _ a b a' b' i i' agree (λ x y. one _)
    (λ x y x' y' ea eb ea' eb' fx fy fx' fy' s t.
    shift_agrees d w x x' y y' _ (shifted_right_signed w) (same_whole w y y' fy fy' t) (λ below. signed_number ob w d x x' y b b' width fx fx' below s rb eb))
binary_agrees Bin.Udiv flags w d oa ob a b a' b' part fits width i i' agree ra rb = absurd (cc)
binary_agrees Bin.Sdiv flags w d oa ob a b a' b' part fits width i i' agree ra rb = absurd (cc)
binary_agrees Bin.Urem flags w d oa ob a b a' b' part fits width i i' agree ra rb = absurd (cc)
binary_agrees Bin.Srem flags w d oa ob a b a' b' part fits width i i' agree ra rb = absurd (cc)

-- ---- casts, selects, freezes

convert_agrees : (cast : Cast) (flags : CastFlags) (v w d : ℕ) (a a' : Val) → IsWidth v → IsWidth w → Converts cast v w → IsInt v a → IsInt v a' →
    AgreesOn (of_cast cast v d) a a' → AgreesDone d (of_one (convert cast flags v w) a) (of_one (convert cast no_cast_flags v w) a')
unfolding of_cast
convert_agrees Cast.Zext flags v w d a a' from width c i i' agree = one_agrees d _ v _ _ a a' i i' agree (convert-one Cast.Zext no_cast_flags v w)
    (λ x x' f f' s. unless_agrees d _ _ _ _ (never _) (λ _. zero_same v d x x' f f' s))
convert_agrees Cast.Sext flags v w d a a' from width c i i' agree = one_agrees d _ v _ _ a a' i i' agree (convert-one Cast.Sext no_cast_flags v w)
    (λ x x' f f' s. value_agrees d _ _ (extended_same v w d x x' from width c f f' s))
convert_agrees Cast.Trunc flags v w d a a' from width c i i' agree = one_agrees d _ v _ _ a a' i i' agree (convert-one Cast.Trunc no_cast_flags v w)
    (λ x x' f f' s. unless_agrees d _ _ _ _ (never _) (λ _. same_cut d w x x' s))

-- a `sext` none of whose copies of the sign is asked for, and a `zext`
pub unseen_agrees : (flags : CastFlags) (v w d : ℕ) (a a' : Val) → IsWidth v → IsWidth w → v < w → d < 2 ^ v → IsInt v a → IsInt v a' →
    AgreesOn (of_cast Cast.Sext v d) a a' → AgreesDone d (of_one (convert Cast.Sext flags v w) a) (of_one (convert Cast.Zext no_cast_flags v w) a')
unfolding of_cast
unseen_agrees flags v w d a a' from width wider unseen i i' agree = one_agrees d _ v _ _ a a' i i' agree (convert-one Cast.Zext no_cast_flags v w)
    (λ x x' f f' s. value_agrees d _ _ (unseen_same v w d x x' from width wider unseen f s))

arm_agrees : (d : ℕ) (t : Bool) (a b a' b' : Val) → AgreesOn d a a' → AgreesOn d b b' →
    AgreesDone d (Done.Is (if t then b else a)) (Done.Is (if t then b' else a'))
arm_agrees d true a b a' b' h k = value_agrees d b b' k
arm_agrees d false a b a' b' h k = value_agrees d a a' h

chosen_agrees : (d : ℕ) (c a b c' a' b' : Val) → AllowsValue c c' → AgreesOn d a a' → AgreesOn d b b' → AgreesDone d (chosen c a b) (chosen c' a' b')
chosen_agrees d Val.Poison a b c' a' b' g h k = poison_agrees d _ (chosen-one c' a' b')
chosen_agrees d (Val.Pair x o) a b c' a' b' g h k = poison_agrees d _ (chosen-one c' a' b')
chosen_agrees d (Val.Number x) a b c' a' b' g h k =
    subst (λ v. AgreesDone d (chosen (Val.Number x) a b) (chosen v a' b')) g (arm_agrees d (nat_eq x 0) a b a' b' h k)

frozen_agrees : (d w : ℕ) (a a' : Val) → IsInt w a → IsInt w a' → AgreesOn d a a' → AgreesDone d (frozen w a) (frozen w a')
frozen_agrees d w (Val.Pair x o) a' i i' agree = absurd i
frozen_agrees d w (Val.Number x) (Val.Number y) i i' agree = value_agrees d (Val.Number x) (Val.Number y) agree
frozen_agrees d w (Val.Number x) Val.Poison i i' agree = absurd agree
frozen_agrees d w (Val.Number x) (Val.Pair y o) i i' agree = absurd agree
frozen_agrees d w Val.Poison (Val.Pair y o) i i' agree = absurd i'
frozen_agrees d w Val.Poison (Val.Number y) i i' agree =
    record { each = λ r' a. (Gave (Val.Number y), (y, i', refl), subst (λ r. AgreesResult d (Gave (Val.Number y)) r) (sym a) (same_self d y)) }
frozen_agrees d w Val.Poison Val.Poison i i' agree = done_agrees d _ _ (done_refl (Done.AnyOf w))

-- ---- any operation

-- the operands agree on what is asked of them
abbrev pub OperandsAgree : Op → ℕ → Val → Val → Val → Val → Val → Val → Type 0
OperandsAgree (Op.Bin bin flags w oa ob) d a b c a' b' c' =
    AgreeTwo (asked (Op.Bin bin flags w oa ob) w 0 d) (asked (Op.Bin bin flags w oa ob) w 1 d) a b a' b'
OperandsAgree (Op.Icmp pred samesign w oa ob) d a b c a' b' c' =
    AgreeTwo (asked (Op.Icmp pred samesign w oa ob) w 0 d) (asked (Op.Icmp pred samesign w oa ob) w 1 d) a b a' b'
OperandsAgree (Op.Select w oc oa ob) d a b c a' b' c' =
    AgreesOn (asked (Op.Select w oc oa ob) 1 0 d) c c' × AgreeTwo (asked (Op.Select w oc oa ob) w 1 d) (asked (Op.Select w oc oa ob) w 2 d) a b a' b'
OperandsAgree (Op.Cast cast flags v w oa) d a b c a' b' c' = AgreesOn (asked (Op.Cast cast flags v w oa) v 0 d) a a'
OperandsAgree (Op.Freeze w oa) d a b c a' b' c' = AgreesOn (asked (Op.Freeze w oa) w 0 d) a a'
OperandsAgree (Op.Two fun w oa ob) d a b c a' b' c' = AgreeTwo (asked (Op.Two fun w oa ob) w 0 d) (asked (Op.Two fun w oa ob) w 1 d) a b a' b'
OperandsAgree (Op.One fun w oa strict) d a b c a' b' c' = AgreesOn (asked (Op.One fun w oa strict) w 0 d) a a'
OperandsAgree (Op.Over over w oa ob) d a b c a' b' c' = AgreeTwo (asked (Op.Over over w oa ob) w 0 d) (asked (Op.Over over w oa ob) w 1 d) a b a' b'
OperandsAgree (Op.Part w pair index) d a b c a' b' c' = AgreesOn (asked (Op.Part w pair index) w 0 d) c c'
OperandsAgree (Op.Assume oc) d a b c a' b' c' = AgreesOn (asked (Op.Assume oc) 1 0 d) c c'
OperandsAgree (Op.Call width place) d a b c a' b' c' = ⊤

-- some operations ask for all bits of their operands, or for none
abbrev pub is_partial : Op → Bool
is_partial (Op.Bin bin _ _ _ _) = not (is_division bin)
is_partial (Op.Select _ _ _ _) = true
is_partial (Op.Cast _ _ _ _ _) = true
is_partial (Op.Freeze _ _) = true
is_partial _ = false

asked_of : (t z : Bool) (p q : ℕ) → t ≡ false → z ≡ false → (if t then p else (if z then 0 else q)) ≡ q
asked_of false false p q e f = refl
asked_of false true p q e f = absurd (cc)
asked_of true z p q e f = absurd (cc)

pub asked_part : (op : Op) (w place d : ℕ) → needs_all op ≡ false → nat_eq d 0 ≡ false → asked op w place d ≡ of_operand op w place d
unfolding asked
asked_part op w place d e f = asked_of (needs_all op) (nat_eq d 0) (all_bits w) (of_operand op w place d) e f

pub asked_whole : (op : Op) (w place d : ℕ) → needs_all op ≡ true → asked op w place d ≡ all_bits w
unfolding asked
asked_whole op w place d e = ap (λ t. if t then all_bits w else (if nat_eq d 0 then 0 else of_operand op w place d)) e

pub partial_agrees : (op : Op) (d : ℕ) (a b c a' b' c' : Val) (oa ob : Operand) → is_partial op ≡ true → nat_eq d 0 ≡ false → d < 2 ^ 128 → IsOperation op →
    AreValuesFor op a b c → AreValuesFor op a' b' c' → OperandsAgree op d a b c a' b' c' → oa ≡ operand_a op → ob ≡ operand_b op →
    IsRead oa a a' → IsRead ob b b' → AgreesDone d (done op a b c) (done (without_flags op) a' b' c')
unfolding done of_operand
partial_agrees (Op.Bin bin flags w pa pb) d a b c a' b' c' oa ob part some fits operation i i' agree ea eb ra rb =
    let plain : is_division bin ≡ false = not_true (is_division bin) part in
    let op = Op.Bin bin flags w pa pb in
    let agree' : AgreeTwo (first_of_binary bin w pb d) (second_of_binary bin w pa d) a b a' b' = record {
      first = subst (λ m. AgreesOn m a a') (asked_part op w 0 d plain some) agree.first;
      second = subst (λ m. AgreesOn m b b') (asked_part op w 1 d plain some) agree.second;
    } in
    binary_agrees bin flags w d pa pb a b a' b' plain fits operation i i' agree' (subst (λ o. IsRead o a a') ea ra) (subst (λ o. IsRead o b b') eb rb)
partial_agrees (Op.Select w oc pa pb) d a b c a' b' c' oa ob part some fits operation i i' agree ea eb ra rb =
    let op = Op.Select w oc pa pb in
    chosen_agrees d c a b c' a' b'
    (whole_allows 1 (all_bits 1) c c' (part_self (all_bits 1)) i.1 i'.1 (subst (λ m. AgreesOn m c c') (asked_part op 1 0 d refl some) agree.0))
    (subst (λ m. AgreesOn m a a') (asked_part op w 1 d refl some) agree.1.first)
    (subst (λ m. AgreesOn m b b') (asked_part op w 2 d refl some) agree.1.second)
partial_agrees (Op.Cast cast flags v w pa) d a b c a' b' c' oa ob part some fits operation i i' agree ea eb ra rb =
    convert_agrees cast flags v w d a a' operation.0 operation.1 operation.2 i i'
    (subst (λ m. AgreesOn m a a') (asked_part (Op.Cast cast flags v w pa) v 0 d refl some) agree)
partial_agrees (Op.Freeze w pa) d a b c a' b' c' oa ob part some fits operation i i' agree ea eb ra rb =
    frozen_agrees d w a a' i i' (subst (λ m. AgreesOn m a a') (asked_part (Op.Freeze w pa) w 0 d refl some) agree)
partial_agrees (Op.Icmp pred samesign w pa pb) d a b c a' b' c' oa ob part some fits operation i i' agree ea eb ra rb = absurd (cc)
partial_agrees (Op.Two fun w pa pb) d a b c a' b' c' oa ob part some fits operation i i' agree ea eb ra rb = absurd (cc)
partial_agrees (Op.One fun w pa strict) d a b c a' b' c' oa ob part some fits operation i i' agree ea eb ra rb = absurd (cc)
partial_agrees (Op.Over over w pa pb) d a b c a' b' c' oa ob part some fits operation i i' agree ea eb ra rb = absurd (cc)
partial_agrees (Op.Part w pair index) d a b c a' b' c' oa ob part some fits operation i i' agree ea eb ra rb = absurd (cc)
partial_agrees (Op.Assume oc) d a b c a' b' c' oa ob part some fits operation i i' agree ea eb ra rb = absurd (cc)
partial_agrees (Op.Call width place) d a b c a' b' c' oa ob part some fits operation i i' agree ea eb ra rb = absurd (cc)

-- ---- operands of which all bits are asked for

whole : (w d : ℕ) (v v' : Val) → d ≡ all_bits w → IsInt w v → IsInt w v' → AgreesOn d v v' → AllowsValue v v'
whole w d v v' e i i' agree = whole_allows w (all_bits w) v v' (part_self (all_bits w)) i i' (subst (λ m. AgreesOn m v v') e agree)

-- something is asked for, or the operation needs its operands whatever is
abbrev pub IsAsked : Op → ℕ → Type 0
IsAsked op d = (needs_all op ≡ true) ⊎ ((needs_all op ≡ false) × (nat_eq d 0 ≡ false))

pub whole_asked : (op : Op) (w place d : ℕ) → IsAsked op d → of_operand op w place d ≡ all_bits w → asked op w place d ≡ all_bits w
whole_asked op w place d (inl e) h = asked_whole op w place d e
whole_asked op w place d (inr k) h = asked_part op w place d k.0 k.1 ∙ h

-- so the operands are poison or the same, and so is the result
pub whole_allowed : (op : Op) (d : ℕ) (a b c a' b' c' : Val) → is_partial op ≡ false → IsAsked op d → is_call op ≡ false →
    AreValuesFor op a b c → AreValuesFor op a' b' c' → OperandsAgree op d a b c a' b' c' → AllowsDone (done op a b c) (done op a' b' c')
unfolding done of_operand
whole_allowed (Op.Bin bin flags w oa ob) d a b c a' b' c' part asks plain i i' agree =
    let op = Op.Bin bin flags w oa ob in
    let divides : needs_all op ≡ true = not_false (is_division bin) part in
    done_monotone op a b Val.Poison a' b' Val.Poison
    (whole w _ a a' (asked_whole op w 0 d divides) i.first i'.first agree.first)
    (whole w _ b b' (asked_whole op w 1 d divides) i.second i'.second agree.second) tt i'
whole_allowed (Op.Icmp pred samesign w oa ob) d a b c a' b' c' part asks plain i i' agree =
    let op = Op.Icmp pred samesign w oa ob in
    done_monotone op a b Val.Poison a' b' Val.Poison
    (whole w _ a a' (whole_asked op w 0 d asks refl) i.first i'.first agree.first)
    (whole w _ b b' (whole_asked op w 1 d asks refl) i.second i'.second agree.second) tt i'
whole_allowed (Op.Two fun w oa ob) d a b c a' b' c' part asks plain i i' agree =
    let op = Op.Two fun w oa ob in
    done_monotone op a b Val.Poison a' b' Val.Poison
    (whole w _ a a' (whole_asked op w 0 d asks refl) i.first i'.first agree.first)
    (whole w _ b b' (whole_asked op w 1 d asks refl) i.second i'.second agree.second) tt i'
whole_allowed (Op.Over over w oa ob) d a b c a' b' c' part asks plain i i' agree =
    let op = Op.Over over w oa ob in
    done_monotone op a b Val.Poison a' b' Val.Poison
    (whole w _ a a' (whole_asked op w 0 d asks refl) i.first i'.first agree.first)
    (whole w _ b b' (whole_asked op w 1 d asks refl) i.second i'.second agree.second) tt i'
whole_allowed (Op.One fun w oa strict) d a b c a' b' c' part asks plain i i' agree =
    let op = Op.One fun w oa strict in
    done_monotone op a Val.Poison Val.Poison a' Val.Poison Val.Poison (whole w _ a a' (whole_asked op w 0 d asks refl) i i' agree) tt tt i'
whole_allowed (Op.Part w pair index) d a b c a' b' c' part asks plain i i' agree =
    done_monotone (Op.Part w pair index) Val.Poison Val.Poison c Val.Poison Val.Poison c' tt tt (pair_allows w _ c c' i agree) i'
whole_allowed (Op.Assume oc) d a b c a' b' c' part asks plain i i' agree =
    let op = Op.Assume oc in
    done_monotone op Val.Poison Val.Poison c Val.Poison Val.Poison c' tt tt (whole 1 _ c c' (asked_whole op 1 0 d refl) i i' agree) i'
whole_allowed (Op.Select w oc oa ob) d a b c a' b' c' part asks plain i i' agree = absurd (cc)
whole_allowed (Op.Cast cast flags v w oa) d a b c a' b' c' part asks plain i i' agree = absurd (cc)
whole_allowed (Op.Freeze w oa) d a b c a' b' c' part asks plain i i' agree = absurd (cc)
whole_allowed (Op.Call width place) d a b c a' b' c' part asks plain i i' agree = absurd (cc)

-- ---- only what needs all of its operands may be undefined

is_given : (d : Done) (r : Result) → IsOne d → Allowed d r → (v : Val) × (r ≡ Gave v)
is_given d r (one v) a = (v, a)

binary_given : (bin : Bin) (flags : Flags) (w : ℕ) (a b : Val) → is_division bin ≡ false → IsOne (binary bin flags w a b)
binary_given Bin.Add flags w a b plain = of_two-one _ a b (λ x y. one _)
binary_given Bin.Sub flags w a b plain = of_two-one _ a b (λ x y. one _)
binary_given Bin.Mul flags w a b plain = of_two-one _ a b (λ x y. one _)
binary_given Bin.Shl flags w a b plain = of_two-one _ a b (λ x y. one _)
binary_given Bin.Lshr flags w a b plain = of_two-one _ a b (λ x y. one _)
binary_given Bin.Ashr flags w a b plain = of_two-one _ a b (λ x y. one _)
binary_given Bin.And flags w a b plain = of_two-one _ a b (λ x y. one _)
binary_given Bin.Or flags w a b plain = of_two-one _ a b (λ x y. one _)
binary_given Bin.Xor flags w a b plain = of_two-one _ a b (λ x y. one _)
binary_given Bin.Udiv flags w a b plain = absurd (cc)
binary_given Bin.Sdiv flags w a b plain = absurd (cc)
binary_given Bin.Urem flags w a b plain = absurd (cc)
binary_given Bin.Srem flags w a b plain = absurd (cc)

frozen_given : (w : ℕ) (a : Val) (r : Result) → Allowed (frozen w a) r → (v : Val) × (r ≡ Gave v)
frozen_given w (Val.Number x) r h = (Val.Number x, h)
frozen_given w Val.Poison r h = (Val.Number h.0, h.2)
frozen_given w (Val.Pair x o) r h = (Val.Number h.0, h.2)

pub gives_value : (op : Op) (a b c : Val) (r : Result) → needs_all op ≡ false → Allowed (done op a b c) r → (v : Val) × (r ≡ Gave v)
unfolding done
gives_value (Op.Bin bin flags w _ _) a b c r plain h = is_given _ r (binary_given bin flags w a b plain) h
gives_value (Op.Icmp pred samesign w _ _) a b c r plain h = is_given _ r (of_two-one _ a b (λ x y. one _)) h
gives_value (Op.Select w _ _ _) a b c r plain h = is_given _ r (chosen-one c a b) h
gives_value (Op.Cast cast flags v w _) a b c r plain h = is_given _ r (of_one-one _ a (convert-one cast flags v w)) h
gives_value (Op.Freeze w _) a b c r plain h = frozen_given w a r h
gives_value (Op.Two fun w _ _) a b c r plain h = is_given _ r (of_two-one _ a b (λ x y. one _)) h
gives_value (Op.One fun w _ strict) a b c r plain h = is_given _ r (of_one-one _ a (one_number-one fun strict w)) h
gives_value (Op.Over over w _ _) a b c r plain h = is_given _ r (of_two-one _ a b (λ x y. one _)) h
gives_value (Op.Part w _ index) a b c r plain h = is_given _ r (part_of-one index c) h
gives_value (Op.Assume _) a b c r plain h = absurd (cc)
gives_value (Op.Call _ _) a b c r plain h = absurd (cc)
