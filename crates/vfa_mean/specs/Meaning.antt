-- What an operation gives of values, after the LLVM Language Reference, "Instruction Reference", "Poison Values" and
-- "Undefined Values": it has undefined behaviour, gives one value, or any number of a width. The rows of numbers stand in
-- `Rows`; here is what becomes of poison.
use Rattle.std.specs.Prelude.{◌≡◌, ◌<◌, ◌-◌, ◌^◌, ℕ, ◌&&◌, ◌||◌, nat_eq, if◌then◌else◌}
use Rattle.vfa_ir.specs.declared.operations.Bin.{Bin}
use Rattle.vfa_ir.specs.declared.operations.Flags.{Flags}
use Rattle.vfa_ir.specs.declared.operations.Op.{Op}
use Rattle.vfa_ir.specs.declared.operations.Operand.{Operand}
use Rattle.vfa_word.specs.declared.arith.Arith.{Arith}
use Rattle.vfa_mean.specs.declared.value.Done.{Done}
use Rattle.vfa_mean.specs.declared.value.Val.{Val}
use Rattle.vfa_mean.specs.Values.{Env, operand_value}
use Rattle.vfa_mean.specs.Rows.{arithmetic, shift_left, shift_right, shift_right_signed, divide, divide_signed, remainder, remainder_signed, bitwise_and, bitwise_or, bitwise_xor, bit_of, compare, convert, two_numbers, one_number, with_overflow}

-- an operation on one number, or two: a poison operand gives poison
abbrev pub of_one : (ℕ → Done) → Val → Done
of_one row (Val.Number x) = row x
of_one _ _ = Done.Is Val.Poison

abbrev pub of_two : (ℕ → ℕ → Done) → Val → Val → Done
of_two row (Val.Number x) (Val.Number y) = row x y
of_two _ _ _ = Done.Is Val.Poison

-- A division has undefined behaviour where the divisor is poison or 0. Else a poison dividend gives poison.
abbrev pub unsigned_division : (ℕ → ℕ → Done) → Val → Val → Done
unsigned_division row (Val.Number x) (Val.Number y) = if nat_eq y 0 then Done.Ub else row x y
unsigned_division _ _ (Val.Number y) = if nat_eq y 0 then Done.Ub else Done.Is Val.Poison
unsigned_division _ _ _ = Done.Ub

-- the number whose signed reading is -1
abbrev pub minus_one : ℕ → ℕ
minus_one w = 2 ^ w - 1

-- A signed one has undefined behaviour also where the least signed value is divided by -1, since the quotient leaves the
-- range. A poison dividend could be the least value, so by -1 it counts as one: this is a choice of this project.
abbrev pub signed_division : ℕ → (ℕ → ℕ → Done) → Val → Val → Done
signed_division w row (Val.Number x) (Val.Number y) =
    if nat_eq y 0 || nat_eq y (minus_one w) && nat_eq x (2 ^ (w - 1)) then Done.Ub else row x y
signed_division w _ _ (Val.Number y) =
    if nat_eq y 0 || nat_eq y (minus_one w) then Done.Ub else Done.Is Val.Poison
signed_division _ _ _ _ = Done.Ub

abbrev pub binary : Bin → Flags → ℕ → Val → Val → Done
binary Bin.Add flags w a b = of_two (arithmetic Arith.Add flags w) a b
binary Bin.Sub flags w a b = of_two (arithmetic Arith.Sub flags w) a b
binary Bin.Mul flags w a b = of_two (arithmetic Arith.Mul flags w) a b
binary Bin.Shl flags w a b = of_two (shift_left flags w) a b
binary Bin.Udiv flags w a b = unsigned_division (divide flags) a b
binary Bin.Sdiv flags w a b = signed_division w (divide_signed flags w) a b
binary Bin.Lshr flags w a b = of_two (shift_right flags w) a b
binary Bin.Ashr flags w a b = of_two (shift_right_signed flags w) a b
binary Bin.Urem flags w a b = unsigned_division remainder a b
binary Bin.Srem flags w a b = signed_division w (remainder_signed w) a b
binary Bin.And flags w a b = of_two bitwise_and a b
binary Bin.Or flags w a b = of_two (bitwise_or flags) a b
binary Bin.Xor flags w a b = of_two bitwise_xor a b

-- `select`: poison by a poison condition, else the chosen arm; the other arm does not count
abbrev pub chosen : Val → Val → Val → Done
chosen (Val.Number c) a b = Done.Is (if nat_eq c 0 then b else a)
chosen _ _ _ = Done.Is Val.Poison

-- `freeze`: the number itself, and any number of the width in place of poison
abbrev pub frozen : ℕ → Val → Done
frozen _ (Val.Number x) = Done.Is (Val.Number x)
frozen w _ = Done.AnyOf w

-- `extractvalue`: the number of a pair, or its bit; of poison both parts are poison
abbrev pub part_of : ℕ → Val → Done
part_of index (Val.Pair x o) = Done.Is (Val.Number (if nat_eq index 0 then x else bit_of o))
part_of _ _ = Done.Is Val.Poison

-- `llvm.assume`: undefined behaviour where the condition is false. That it is so of poison too is a choice of this project
abbrev pub assumed : Val → Done
assumed (Val.Number c) = if nat_eq c 0 then Done.Ub else Done.Is (Val.Number 1)
assumed _ = Done.Ub

-- What an operation gives of the values a, b and c of its operands of these names; the pair of an `extractvalue` is c.
-- What a call gives is no matter of its operands but of the answers, which `Outcomes` has. Here it counts as poison, and
-- no definition asks for it.
unfoldable pub done : Op → Val → Val → Val → Done
done (Op.Bin bin flags w _ _) a b c = binary bin flags w a b
done (Op.Icmp pred samesign w _ _) a b c = of_two (compare pred samesign w) a b
done (Op.Select w _ _ _) a b c = chosen c a b
done (Op.Cast cast flags v w _) a b c = of_one (convert cast flags v w) a
done (Op.Freeze w _) a b c = frozen w a
done (Op.Two fun w _ _) a b c = of_two (two_numbers fun w) a b
done (Op.One fun w _ strict) a b c = of_one (one_number fun strict w) a
done (Op.Over over w _ _) a b c = of_two (with_overflow over w) a b
done (Op.Part w _ index) a b c = part_of index c
done (Op.Assume _) a b c = assumed c
done (Op.Call _ _) a b c = Done.Is Val.Poison

-- what may come of an operation
pub data Result : Type 0 where
  Undefined : Result
  Gave : Val → Result

-- the results that are meant: of `freeze` of poison each number of the width
abbrev pub Allowed : Done → Result → Type 0
Allowed Done.Ub r = r ≡ Undefined
Allowed (Done.Is v) r = r ≡ Gave v
Allowed (Done.AnyOf w) r = (x : ℕ) × (x < 2 ^ w) × (r ≡ Gave (Val.Number x))

-- the operands of an operation by the names of its fields; `poison` for a field that it does not have
abbrev pub operand_a : Op → Operand
operand_a (Op.Bin _ _ _ a _) = a
operand_a (Op.Icmp _ _ _ a _) = a
operand_a (Op.Select _ _ a _) = a
operand_a (Op.Cast _ _ _ _ a) = a
operand_a (Op.Freeze _ a) = a
operand_a (Op.Two _ _ a _) = a
operand_a (Op.One _ _ a _) = a
operand_a (Op.Over _ _ a _) = a
operand_a (Op.Part _ _ _) = Operand.Poison
operand_a (Op.Assume _) = Operand.Poison
operand_a (Op.Call _ _) = Operand.Poison

abbrev pub operand_b : Op → Operand
operand_b (Op.Bin _ _ _ _ b) = b
operand_b (Op.Icmp _ _ _ _ b) = b
operand_b (Op.Select _ _ _ b) = b
operand_b (Op.Cast _ _ _ _ _) = Operand.Poison
operand_b (Op.Freeze _ _) = Operand.Poison
operand_b (Op.Two _ _ _ b) = b
operand_b (Op.One _ _ _ _) = Operand.Poison
operand_b (Op.Over _ _ _ b) = b
operand_b (Op.Part _ _ _) = Operand.Poison
operand_b (Op.Assume _) = Operand.Poison
operand_b (Op.Call _ _) = Operand.Poison

abbrev pub operand_c : Op → Operand
operand_c (Op.Select _ c _ _) = c
operand_c (Op.Part _ pair _) = Operand.Value pair
operand_c (Op.Assume c) = c
operand_c _ = Operand.Poison

-- what the operation gives where the names have these values
abbrev pub done_in : Op → Env → Done
done_in op env =
    done op (operand_value env (operand_a op)) (operand_value env (operand_b op)) (operand_value env (operand_c op))

-- the operation may give the result where the names have these values
abbrev pub Gives : Op → Env → Result → Type 0
Gives op env r = Allowed (done_in op env) r
