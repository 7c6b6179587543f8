-- A greater mask of a result asks for no less.
use Rattle.std.proofs.Common.{◌≡◌, ◌<◌, ◌≤◌, ℕ, suc, ◌-◌, ◌*◌, ◌/◌, ◌%◌, ◌^◌, ◌+◌, Bool, true, false, nat_eq, nat_lt, if◌then◌else◌, subst, arith, sym, refl, ◌∙◌, inl, inr}
use Rattle.std.proofs.lemmas.Nat.{leading_length}
use Rattle.std.proofs.lemmas.Bool.{cases_lt, eqb-true, eq-eqb}
use Rattle.std.proofs.Math.Nat.{pow-suc}
use Rattle.std.specs.Int.{bit_not, leading_zeros, w128}
use Rattle.vfa_ir.specs.declared.operations.Bin.{Bin}
use Rattle.vfa_ir.specs.declared.operations.Cast.{Cast}
use Rattle.vfa_ir.specs.declared.operations.Op.{Op}
use Rattle.vfa_ir.specs.declared.operations.Operand.{Operand}
use Rattle.vfa_demand.specs.Rows.{all_bits, up_to, sign_if, left_value, right_value, right_signed_value, let_through, left_open, first_of_binary, second_of_binary, of_cast, of_operand, needs_all, asked}
use Rattle.vfa_demand.specs.Masks.{IsPartOf}
use Rattle.vfa_demand.proofs.Within.{within_self, none_within, within_none, within_le, within_or, within_shr, within_mod, within_shl, within_and, within_ones, power_le}

choice_within : (b : Bool) (x x' y y' : ℕ) → IsPartOf x x' → IsPartOf y y' → IsPartOf (if b then x else y) (if b then x' else y')
choice_within true x x' y y' h k = h
choice_within false x x' y y' h k = k

up_to_within : (d e : ℕ) → d < 2 ^ 128 → e < 2 ^ 128 → IsPartOf d e → IsPartOf (up_to d) (up_to e)
unfolding up_to
up_to_within d e fits fits' h =
    let l = leading_length 128 d fits in
    let k = leading_length 128 e fits' in
    let less : d ≤ e = within_le d e h in
    within_ones (128 - leading_zeros w128 d) (128 - leading_zeros w128 e) (shorter l.0 k.0 l.1 k.1 l.3 k.2 less)
  where
    shorter : (m n : ℕ) → leading_zeros w128 d + m ≡ 128 → leading_zeros w128 e + n ≡ 128 → 2 ^ m ≤ 2 * d + 1 → e < 2 ^ n → d ≤ e →
        128 - leading_zeros w128 d ≤ 128 - leading_zeros w128 e
    shorter m n p q low high less = elim (cases_lt n m) [
      | inl more ↦ absurd (omega (arith, power_le (suc n) m (omega arith), pow-suc 2 n))
      | inr most ↦ omega arith
    ]

sign_within : (b b' : Bool) (w : ℕ) → (b ≡ true → b' ≡ true) → IsPartOf (sign_if b w) (sign_if b' w)
sign_within true true w h = within_self (2 ^ (w - 1))
sign_within true false w h = absurd (false_is_not_true (h refl))
  where
    false_is_not_true : false ≡ true → ⊥
    false_is_not_true e = cc
sign_within false b w h = none_within (sign_if b w)

greater : (x d e : ℕ) → d ≤ e → nat_lt x d ≡ true → nat_lt x e ≡ true
greater x d e less h = grind (arith, less, h)

left_value_within : (w : ℕ) (o : Operand) (d e : ℕ) → d < 2 ^ 128 → e < 2 ^ 128 → IsPartOf d e → IsPartOf (left_value w o d) (left_value w o e)
unfolding left_value
left_value_within w (Operand.Literal c) d e fits fits' h =
    choice_within (nat_lt c w) (d / 2 ^ c) (e / 2 ^ c) (all_bits w) (all_bits w) (within_shr d e c h) (within_self (all_bits w))
left_value_within w (Operand.Value v) d e fits fits' h = up_to_within d e fits fits' h
left_value_within w Operand.Poison d e fits fits' h = within_self (all_bits w)

shifted_within : (w c d e : ℕ) → IsPartOf d e → IsPartOf ((d * 2 ^ c) % 2 ^ w) ((e * 2 ^ c) % 2 ^ w)
shifted_within w c d e h = within_mod (d * 2 ^ c) (e * 2 ^ c) w (within_shl d e c h)

right_value_within : (w : ℕ) (o : Operand) (d e : ℕ) → IsPartOf d e → IsPartOf (right_value w o d) (right_value w o e)
unfolding right_value
right_value_within w (Operand.Literal c) d e h =
    choice_within (nat_lt c w) _ _ (all_bits w) (all_bits w) (shifted_within w c d e h) (within_self (all_bits w))
right_value_within w (Operand.Value v) d e h = within_self (all_bits w)
right_value_within w Operand.Poison d e h = within_self (all_bits w)

right_signed_within : (w : ℕ) (o : Operand) (d e : ℕ) → IsPartOf d e → IsPartOf (right_signed_value w o d) (right_signed_value w o e)
unfolding right_signed_value
right_signed_within w (Operand.Literal c) d e h =
    let copied = sign_within (nat_lt (2 ^ (w - c) - 1) d) (nat_lt (2 ^ (w - c) - 1) e) w (greater (2 ^ (w - c) - 1) d e (within_le d e h)) in
    choice_within (nat_lt c w) _ _ (all_bits w) (all_bits w) (within_or _ _ _ _ (shifted_within w c d e h) copied) (within_self (all_bits w))
right_signed_within w (Operand.Value v) d e h = within_self (all_bits w)
right_signed_within w Operand.Poison d e h = within_self (all_bits w)

let_through_within : (o : Operand) (d e : ℕ) → IsPartOf d e → IsPartOf (let_through o d) (let_through o e)
unfolding let_through
let_through_within (Operand.Literal c) d e h = within_and d e c h
let_through_within (Operand.Value v) d e h = h
let_through_within Operand.Poison d e h = h

left_open_within : (o : Operand) (d e : ℕ) → IsPartOf d e → IsPartOf (left_open o d) (left_open o e)
unfolding left_open
left_open_within (Operand.Literal c) d e h = within_and d e (bit_not w128 c) h
left_open_within (Operand.Value v) d e h = h
left_open_within Operand.Poison d e h = h

first_within : (bin : Bin) (w : ℕ) (o : Operand) (d e : ℕ) → d < 2 ^ 128 → e < 2 ^ 128 → IsPartOf d e →
    IsPartOf (first_of_binary bin w o d) (first_of_binary bin w o e)
unfolding first_of_binary
first_within Bin.Add w o d e f g h = up_to_within d e f g h
first_within Bin.Sub w o d e f g h = up_to_within d e f g h
first_within Bin.Mul w o d e f g h = up_to_within d e f g h
first_within Bin.Shl w o d e f g h = left_value_within w o d e f g h
first_within Bin.Lshr w o d e f g h = right_value_within w o d e h
first_within Bin.Ashr w o d e f g h = right_signed_within w o d e h
first_within Bin.And w o d e f g h = let_through_within o d e h
first_within Bin.Or w o d e f g h = left_open_within o d e h
first_within Bin.Xor w o d e f g h = h
first_within Bin.Udiv w o d e f g h = within_self (all_bits w)
first_within Bin.Sdiv w o d e f g h = within_self (all_bits w)
first_within Bin.Urem w o d e f g h = within_self (all_bits w)
first_within Bin.Srem w o d e f g h = within_self (all_bits w)

second_within : (bin : Bin) (w : ℕ) (o : Operand) (d e : ℕ) → d < 2 ^ 128 → e < 2 ^ 128 → IsPartOf d e →
    IsPartOf (second_of_binary bin w o d) (second_of_binary bin w o e)
second_within Bin.Shl w o d e f g h = within_self (all_bits w)
second_within Bin.Lshr w o d e f g h = within_self (all_bits w)
second_within Bin.Ashr w o d e f g h = within_self (all_bits w)
second_within Bin.Add w o d e f g h = first_within Bin.Add w o d e f g h
second_within Bin.Sub w o d e f g h = first_within Bin.Sub w o d e f g h
second_within Bin.Mul w o d e f g h = first_within Bin.Mul w o d e f g h
second_within Bin.And w o d e f g h = first_within Bin.And w o d e f g h
second_within Bin.Or w o d e f g h = first_within Bin.Or w o d e f g h
second_within Bin.Xor w o d e f g h = first_within Bin.Xor w o d e f g h
second_within Bin.Udiv w o d e f g h = first_within Bin.Udiv w o d e f g h
second_within Bin.Sdiv w o d e f g h = first_within Bin.Sdiv w o d e f g h
second_within Bin.Urem w o d e f g h = first_within Bin.Urem w o d e f g h
second_within Bin.Srem w o d e f g h = first_within Bin.Srem w o d e f g h

cast_within : (cast : Cast) (w d e : ℕ) → IsPartOf d e → IsPartOf (of_cast cast w d) (of_cast cast w e)
unfolding of_cast
cast_within Cast.Zext w d e h = within_mod d e w h
cast_within Cast.Sext w d e h =
    within_or _ _ _ _ (within_mod d e w h)
    (sign_within (nat_lt (2 ^ (w - 1) - 1) d) (nat_lt (2 ^ (w - 1) - 1) e) w (greater (2 ^ (w - 1) - 1) d e (within_le d e h)))
cast_within Cast.Trunc w d e h = h

operand_within : (op : Op) (w place d e : ℕ) → d < 2 ^ 128 → e < 2 ^ 128 → IsPartOf d e →
    IsPartOf (of_operand op w place d) (of_operand op w place e)
unfolding of_operand
operand_within (Op.Bin bin flags v a b) w place d e f g h =
    choice_within (nat_eq place 0) _ _ _ _ (first_within bin w b d e f g h) (second_within bin w a d e f g h)
operand_within (Op.Icmp _ _ _ _ _) w place d e f g h = within_self (all_bits w)
operand_within (Op.Select _ _ _ _) w place d e f g h =
    choice_within (nat_eq place 0) (all_bits w) (all_bits w) d e (within_self (all_bits w)) h
operand_within (Op.Cast cast flags v x a) w place d e f g h = cast_within cast w d e h
operand_within (Op.Freeze v a) w place d e f g h = h
operand_within (Op.Two _ _ _ _) w place d e f g h = within_self (all_bits w)
operand_within (Op.One _ _ _ _) w place d e f g h = within_self (all_bits w)
operand_within (Op.Over _ _ _ _) w place d e f g h = within_self (all_bits w)
operand_within (Op.Part _ _ _) w place d e f g h = within_self (all_bits w)
operand_within (Op.Assume _) w place d e f g h = within_self (all_bits w)
operand_within (Op.Call _ _) w place d e f g h = within_self (all_bits w)

where_some : (d e x y : ℕ) → IsPartOf d e → IsPartOf x y → (b c : Bool) → nat_eq d 0 ≡ b → nat_eq e 0 ≡ c →
    IsPartOf (if b then 0 else x) (if c then 0 else y)
where_some d e x y h k true c p q = none_within (if c then 0 else y)
where_some d e x y h k false false p q = k
where_some d e x y h k false true p q =
    let none : d ≡ 0 = within_none d (subst (IsPartOf d) (eqb-true e 0 q) h) in
    absurd (differ (sym (eq-eqb d 0 none) ∙ p))
  where
    differ : true ≡ false → ⊥
    differ e = cc

pub asked_within : (op : Op) (w place d e : ℕ) → d < 2 ^ 128 → e < 2 ^ 128 → IsPartOf d e → IsPartOf (asked op w place d) (asked op w place e)
unfolding asked
asked_within op w place d e f g h =
    choice_within (needs_all op) (all_bits w) (all_bits w) _ _ (within_self (all_bits w))
    (where_some d e (of_operand op w place d) (of_operand op w place e) h (operand_within op w place d e f g h) (nat_eq d 0) (nat_eq e 0) refl refl)
