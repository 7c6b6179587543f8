-- Typing: of operands of the types that are written a result is poison or of the operation's type.
use Rattle.std.proofs.Common.{ℕ, zero, suc, ◌+◌, ◌-◌, ◌/◌, ◌%◌, ◌^◌, ◌<◌, ◌≤◌, ◌||◌, ◌&&◌, Bool, true, false, if◌then◌else◌, nat_eq, ℤ, pos, negsuc, unsigned_abs, sym, ap, subst, arith, pow_mono, ◌⊎◌, inl, inr}
use Rattle.std.proofs.lemmas.Nat.{pow_pos, mod_below, or_lt, xor_lt}
use Rattle.std.proofs.lemmas.Bool.{cases_lt}
use Rattle.std.proofs.Math.Nat.{div-le_self, mod-le}
use Rattle.std.specs.Int.Bits.{and_lt}
use Rattle.vfa_ir.specs.declared.operations.Bin.{Bin}
use Rattle.vfa_ir.specs.declared.operations.Cast.{Cast}
use Rattle.vfa_ir.specs.declared.operations.CastFlags.{CastFlags}
use Rattle.vfa_ir.specs.declared.operations.Flags.{Flags}
use Rattle.vfa_ir.specs.declared.operations.Fun1.{Fun1}
use Rattle.vfa_ir.specs.declared.operations.Fun2.{Fun2}
use Rattle.vfa_ir.specs.declared.operations.Op.{Op}
use Rattle.vfa_ir.specs.declared.operations.Operand.{Operand}
use Rattle.vfa_ir.specs.declared.operations.Ty.{Ty}
use Rattle.vfa_ir.specs.Typed.{Converts}
use Rattle.vfa_word.specs.declared.arith.Arith.{Arith}
use Rattle.vfa_word.specs.Numbers.{wrap, whole_result}
use Rattle.vfa_word.specs.Operations.{absolute_of, clamped_unsigned, count_below, one_bits, leading_zero_bits, trailing_zero_bits, signed_less}
use Rattle.vfa_word.proofs.Wrapping.{wrap_below}
use Rattle.vfa_word.proofs.Readings.{below_power, reading_low, reading_high}
use Rattle.vfa_mean.specs.declared.value.Done.{Done}
use Rattle.vfa_mean.specs.declared.value.Val.{Val}
use Rattle.vfa_mean.specs.Values.{IsValueOf, IsInt, AreOfWidth}
use Rattle.vfa_mean.specs.Meaning.{Result, Undefined, Gave, Allowed, done, binary, of_one, of_two, unsigned_division, signed_division, minus_one, chosen, frozen, part_of, assumed}
use Rattle.vfa_mean.specs.Rows.{number, number_unless, arithmetic, bit_of, convert, one_number, chosen_or_clamped}
use Rattle.vfa_mean.specs.Operands.{AreValuesFor}
use Rattle.vfa_mean.specs.Laws.{IsTyped, IsNumber}

-- the values that it may give are of the type
pub record Has (ty : Ty) (d : Done) : Type 0 where
  pub holds : (v : Val) → Allowed d (Gave v) → IsValueOf ty v

-- the value that a result gave; poison where it is undefined
abbrev given : Result → Val
given Undefined = Val.Poison
given (Gave v) = v

value_has : (ty : Ty) (v : Val) → IsValueOf ty v → Has ty (Done.Is v)
value_has ty v h = record { holds = λ u e. subst (IsValueOf ty) (sym (ap given e)) h }

ub_has : (ty : Ty) → Has ty Done.Ub
ub_has ty = record { holds = λ v e. absurd cc }

poison_has : (ty : Ty) → Has ty (Done.Is Val.Poison)
poison_has (Ty.Int w) = value_has (Ty.Int w) Val.Poison tt
poison_has (Ty.Pair w) = value_has (Ty.Pair w) Val.Poison tt

number_has : (w x : ℕ) → x < 2 ^ w → Has (Ty.Int w) (number x)
number_has w x h = value_has (Ty.Int w) (Val.Number x) h

unless_has : (w x : ℕ) (broken : Bool) → x < 2 ^ w → Has (Ty.Int w) (number_unless broken x)
unless_has w x true h = poison_has (Ty.Int w)
unless_has w x false h = number_has w x h

either_has : (ty : Ty) (t : Bool) (d e : Done) → Has ty d → Has ty e → Has ty (if t then d else e)
either_has ty true d e f g = f
either_has ty false d e f g = g

one_has : (ty : Ty) (v : ℕ) (row : ℕ → Done) (a : Val) → IsInt v a → ((x : ℕ) → x < 2 ^ v → Has ty (row x)) → Has ty (of_one row a)
one_has ty v row (Val.Number x) i h = h x i
one_has ty v row Val.Poison i h = poison_has ty
one_has ty v row (Val.Pair x o) i h = poison_has ty

two_has : (ty : Ty) (w : ℕ) (row : ℕ → ℕ → Done) (a b : Val) → AreOfWidth w a b
    → ((x y : ℕ) → x < 2 ^ w → y < 2 ^ w → Has ty (row x y)) → Has ty (of_two row a b)
two_has ty w row (Val.Number x) (Val.Number y) i h = h x y i.first i.second
two_has ty w row (Val.Number x) Val.Poison i h = poison_has ty
two_has ty w row (Val.Number x) (Val.Pair y o) i h = poison_has ty
two_has ty w row Val.Poison b i h = poison_has ty
two_has ty w row (Val.Pair x o) b i h = poison_has ty

unsigned_has : (w : ℕ) (row : ℕ → ℕ → Done) (a b : Val) → AreOfWidth w a b
    → ((x y : ℕ) → x < 2 ^ w → y < 2 ^ w → Has (Ty.Int w) (row x y)) → Has (Ty.Int w) (unsigned_division row a b)
unsigned_has w row (Val.Number x) (Val.Number y) i h =
    either_has (Ty.Int w) (nat_eq y 0) Done.Ub (row x y) (ub_has _) (h x y i.first i.second)
unsigned_has w row Val.Poison (Val.Number y) i h = either_has (Ty.Int w) (nat_eq y 0) Done.Ub _ (ub_has _) (poison_has _)
unsigned_has w row (Val.Pair x o) (Val.Number y) i h = either_has (Ty.Int w) (nat_eq y 0) Done.Ub _ (ub_has _) (poison_has _)
unsigned_has w row (Val.Number x) Val.Poison i h = ub_has _
unsigned_has w row (Val.Number x) (Val.Pair y o) i h = ub_has _
unsigned_has w row Val.Poison Val.Poison i h = ub_has _
unsigned_has w row Val.Poison (Val.Pair y o) i h = ub_has _
unsigned_has w row (Val.Pair x p) Val.Poison i h = ub_has _
unsigned_has w row (Val.Pair x p) (Val.Pair y o) i h = ub_has _

signed_has : (w : ℕ) (row : ℕ → ℕ → Done) (a b : Val) → AreOfWidth w a b
    → ((x y : ℕ) → x < 2 ^ w → y < 2 ^ w → Has (Ty.Int w) (row x y)) → Has (Ty.Int w) (signed_division w row a b)
signed_has w row (Val.Number x) (Val.Number y) i h =
    either_has (Ty.Int w) (nat_eq y 0 || nat_eq y (minus_one w) && nat_eq x (2 ^ (w - 1))) Done.Ub (row x y) (ub_has _) (h x y i.first i.second)
signed_has w row Val.Poison (Val.Number y) i h =
    either_has (Ty.Int w) (nat_eq y 0 || nat_eq y (minus_one w)) Done.Ub _ (ub_has _) (poison_has _)
signed_has w row (Val.Pair x o) (Val.Number y) i h =
    either_has (Ty.Int w) (nat_eq y 0 || nat_eq y (minus_one w)) Done.Ub _ (ub_has _) (poison_has _)
signed_has w row (Val.Number x) Val.Poison i h = ub_has _
signed_has w row (Val.Number x) (Val.Pair y o) i h = ub_has _
signed_has w row Val.Poison Val.Poison i h = ub_has _
signed_has w row Val.Poison (Val.Pair y o) i h = ub_has _
signed_has w row (Val.Pair x p) Val.Poison i h = ub_has _
signed_has w row (Val.Pair x p) (Val.Pair y o) i h = ub_has _

quotient_below : (x y m : ℕ) → x < m → x / y < m
quotient_below x y m h = omega (arith, h, div-le_self x y)

remainder_below : (x y m : ℕ) → x < m → x % y < m
remainder_below x y m h = omega (arith, h, mod-le x y)

arithmetic_has : (op : Arith) (flags : Flags) (w : ℕ) (a b : Val) → AreOfWidth w a b → Has (Ty.Int w) (of_two (arithmetic op flags w) a b)
arithmetic_has op flags w a b i = two_has (Ty.Int w) w (arithmetic op flags w) a b i
    (λ x y k l. unless_has w (wrap w (whole_result op (pos x) (pos y))) _ (wrap_below w (whole_result op (pos x) (pos y))))

binary_has : (bin : Bin) (flags : Flags) (w : ℕ) (a b : Val) → AreOfWidth w a b → Has (Ty.Int w) (binary bin flags w a b)
binary_has Bin.Add flags w a b i = arithmetic_has Arith.Add flags w a b i
binary_has Bin.Sub flags w a b i = arithmetic_has Arith.Sub flags w a b i
binary_has Bin.Mul flags w a b i = arithmetic_has Arith.Mul flags w a b i
binary_has Bin.Shl flags w a b i = two_has _ w _ a b i (λ x y k l. unless_has w _ _ (mod_below _ (2 ^ w) (pow_pos w)))
binary_has Bin.Udiv flags w a b i = unsigned_has w _ a b i (λ x y k l. unless_has w _ _ (quotient_below x y (2 ^ w) k))
binary_has Bin.Sdiv flags w a b i = signed_has w _ a b i (λ x y k l. unless_has w _ _ (wrap_below w _))
binary_has Bin.Lshr flags w a b i = two_has _ w _ a b i (λ x y k l. unless_has w _ _ (quotient_below x (2 ^ y) (2 ^ w) k))
binary_has Bin.Ashr flags w a b i = two_has _ w _ a b i (λ x y k l. unless_has w _ _ (wrap_below w _))
binary_has Bin.Urem flags w a b i = unsigned_has w _ a b i (λ x y k l. number_has w _ (remainder_below x y (2 ^ w) k))
binary_has Bin.Srem flags w a b i = signed_has w _ a b i (λ x y k l. number_has w _ (wrap_below w _))
binary_has Bin.And flags w a b i = two_has _ w _ a b i (λ x y k l. number_has w _ (and_lt w x y k l))
binary_has Bin.Or flags w a b i = two_has _ w _ a b i (λ x y k l. unless_has w _ _ (or_lt w x y k l))
binary_has Bin.Xor flags w a b i = two_has _ w _ a b i (λ x y k l. number_has w _ (xor_lt w x y k l))

bit_below : (b : Bool) → bit_of b < 2 ^ 1
bit_below true = omega arith
bit_below false = omega arith

convert_has : (cast : Cast) (flags : CastFlags) (v w x : ℕ) → Converts cast v w → x < 2 ^ v → Has (Ty.Int w) (convert cast flags v w x)
convert_has Cast.Zext flags v w x c h =
    let l : 2 ^ v ≤ 2 ^ w = pow_mono (omega (arith, c)) in
    unless_has w _ _ (omega (arith, h, l))
convert_has Cast.Sext flags v w x c h = number_has w _ (wrap_below w _)
convert_has Cast.Trunc flags v w x c h = unless_has w _ _ (mod_below x (2 ^ w) (pow_pos w))

-- one of two numbers
choice_below : (t : Bool) (x y m : ℕ) → x < m → y < m → (if t then y else x) < m
choice_below true x y m h l = l
choice_below false x y m h l = h

clamped_below : (w : ℕ) (z : ℤ) → clamped_unsigned w z < 2 ^ w
clamped_below w (pos n) = omega (arith, pow_pos w)
clamped_below w (negsuc n) = pow_pos w

two_below : (fun : Fun2) (w x y : ℕ) → x < 2 ^ w → y < 2 ^ w → chosen_or_clamped fun w x y < 2 ^ w
two_below Fun2.Umin w x y h l = omega arith
two_below Fun2.Umax w x y h l = omega arith
two_below Fun2.Smin w x y h l = choice_below (signed_less w y x) x y (2 ^ w) h l
two_below Fun2.Smax w x y h l = choice_below (signed_less w x y) x y (2 ^ w) h l
two_below Fun2.UaddSat w x y h l = clamped_below w (whole_result Arith.Add (pos x) (pos y))
two_below Fun2.UsubSat w x y h l = clamped_below w (whole_result Arith.Sub (pos x) (pos y))
two_below Fun2.SaddSat w x y h l = wrap_below w _
two_below Fun2.SsubSat w x y h l = wrap_below w _

absolute_below : (w x : ℕ) → x < 2 ^ w → absolute_of w x < 2 ^ w
absolute_below w x h =
    let f : (x < 2 ^ (w - 1)) ⊎ (2 ^ (w - 1) ≤ x) → absolute_of w x < 2 ^ w = λ s. elim s [
      | inl k ↦ subst (λ z. unsigned_abs z < 2 ^ w) (sym (reading_low w x k)) h
      | inr k ↦ subst (λ z. unsigned_abs z < 2 ^ w) (sym (reading_high w x k h))
          (let p : 0 < 2 ^ (w - 1) = pow_pos (w - 1) in omega arith)
    ] in
    f (cases_lt x (2 ^ (w - 1)))

-- no more places than n pass
count_most : (n : ℕ) (p : ℕ → Bool) → count_below n p ≤ n
unfolding count_below
count_most zero p = omega arith
count_most (suc n) p = let h = count_most n p in elim (p n) as (λ b. (if b then 1 else 0) + count_below n p ≤ suc n) [ true ↦ omega arith | false ↦ omega arith ]

count_fits : (w : ℕ) (p : ℕ → Bool) → count_below w p < 2 ^ w
count_fits w p = omega (arith, count_most w p, below_power w)

number_of_one_has : (fun : Fun1) (strict : Bool) (w x : ℕ) → x < 2 ^ w → Has (Ty.Int w) (one_number fun strict w x)
unfolding one_bits leading_zero_bits trailing_zero_bits
number_of_one_has Fun1.Abs strict w x h = unless_has w _ _ (absolute_below w x h)
number_of_one_has Fun1.Ctlz strict w x h = unless_has w _ _ (count_fits w _)
number_of_one_has Fun1.Cttz strict w x h = unless_has w _ _ (count_fits w _)
number_of_one_has Fun1.Ctpop strict w x h = number_has w _ (count_fits w _)

arm_has : (w : ℕ) (t : Bool) (a b : Val) → IsInt w a → IsInt w b → Has (Ty.Int w) (Done.Is (if t then b else a))
arm_has w true a b i j = value_has (Ty.Int w) b j
arm_has w false a b i j = value_has (Ty.Int w) a i

chosen_has : (w : ℕ) (c a b : Val) → AreOfWidth w a b → Has (Ty.Int w) (chosen c a b)
chosen_has w (Val.Number x) a b i = arm_has w (nat_eq x 0) a b i.first i.second
chosen_has w Val.Poison a b i = poison_has _
chosen_has w (Val.Pair x o) a b i = poison_has _

frozen_has : (w : ℕ) (a : Val) → IsInt w a → Has (Ty.Int w) (frozen w a)
frozen_has w (Val.Number x) i = number_has w x i
frozen_has w Val.Poison i = record { holds = λ v e. subst (IsValueOf (Ty.Int w)) (sym (ap given e.2)) e.1 }
frozen_has w (Val.Pair x o) i = absurd i

part_number_has : (w x : ℕ) (o t : Bool) → x < 2 ^ w → Has (if t then Ty.Int w else Ty.Int 1) (number (if t then x else bit_of o))
part_number_has w x o true h = number_has w x h
part_number_has w x o false h = number_has 1 (bit_of o) (bit_below o)

part_has : (w : ℕ) (index : ℕ) (c : Val) → IsValueOf (Ty.Pair w) c → Has (if nat_eq index 0 then Ty.Int w else Ty.Int 1) (part_of index c)
part_has w index (Val.Pair x o) i = part_number_has w x o (nat_eq index 0) i
part_has w index Val.Poison i = poison_has (if nat_eq index 0 then Ty.Int w else Ty.Int 1)
part_has w index (Val.Number x) i = absurd i

assumed_has : (c : Val) → Has (Ty.Int 1) (assumed c)
assumed_has (Val.Number x) = either_has (Ty.Int 1) (nat_eq x 0) Done.Ub (Done.Is (Val.Number 1)) (ub_has _) (number_has 1 1 (omega arith))
assumed_has Val.Poison = ub_has _
assumed_has (Val.Pair x o) = ub_has _

pub done_typed : (op : Op) → IsTyped op
unfolding done
done_typed (Op.Bin bin flags w _ _) a b c v o i = (binary_has bin flags w a b i).holds v
done_typed (Op.Icmp pred samesign w _ _) a b c v o i = (two_has (Ty.Int 1) w _ a b i (λ x y k l. unless_has 1 _ _ (bit_below _))).holds v
done_typed (Op.Select w _ _ _) a b c v o i = (chosen_has w c a b i.0).holds v
done_typed (Op.Cast cast flags u w _) a b c v o i = (one_has (Ty.Int w) u _ a i (λ x h. convert_has cast flags u w x o.2 h)).holds v
done_typed (Op.Freeze w _) a b c v o i = (frozen_has w a i).holds v
done_typed (Op.Two fun w _ _) a b c v o i = (two_has (Ty.Int w) w _ a b i (λ x y k l. number_has w _ (two_below fun w x y k l))).holds v
done_typed (Op.One fun w _ strict) a b c v o i = (one_has (Ty.Int w) w _ a i (λ x h. number_of_one_has fun strict w x h)).holds v
done_typed (Op.Over over w _ _) a b c v o i = (two_has (Ty.Pair w) w _ a b i (λ x y k l. value_has (Ty.Pair w) _ (wrap_below w _))).holds v
done_typed (Op.Part w _ index) a b c v o i = (part_has w index c i).holds v
done_typed (Op.Assume _) a b c v o i = (assumed_has c).holds v
done_typed (Op.Call _ _) a b c v o i = absurd o

pub freeze_gives_numbers : (w : ℕ) (operand : Operand) (a b c v : Val) → AreValuesFor (Op.Freeze w operand) a b c
    → Allowed (done (Op.Freeze w operand) a b c) (Gave v) → IsNumber w v
unfolding done
freeze_gives_numbers w operand (Val.Number x) b c v i e = subst (IsNumber w) (sym (ap given e)) i
freeze_gives_numbers w operand Val.Poison b c v i e = subst (IsNumber w) (sym (ap given e.2)) e.1
freeze_gives_numbers w operand (Val.Pair x o) b c v i e = absurd i
