-- The domain of constants: what its values stand for, and what its calls answer.
use Rattle.std.specs.Prelude.{◌≡◌, ◌<◌, ℕ, ◌^◌, Bool, true, false, not, ◌&&◌, ◌||◌, Option, Some, None, nat_eq, bit_and, if◌then◌else◌}
use Rattle.vfa_ir.specs.declared.operations.Op.{Op}
use Rattle.vfa_ir.specs.declared.operations.Pred.{Pred}
use Rattle.vfa_ir.specs.declared.operations.Ty.{Ty}
use Rattle.vfa_ir.specs.Printable.{op_type}
use Rattle.vfa_word.specs.Numbers.{IsWidth}
use Rattle.vfa_mean.specs.declared.value.Val.{Val}
use Rattle.vfa_mean.specs.Values.{IsValueOf}
use Rattle.vfa_values.specs.declared.constant.Constant.{Constant}
use Rattle.vfa_values.specs.Answers.{Answers}
use Rattle.vfa_values.specs.Conditions.{IsType}

abbrev pub constant_type : Constant → Ty
constant_type (Constant.Only w x) = Ty.Int w
constant_type (Constant.Poison t) = t
constant_type (Constant.Any t never_poison) = t

-- a number of the width, or a type whose width is 1 to 128
abbrev pub IsConstant : Constant → Type 0
IsConstant (Constant.Only w x) = IsWidth w × (x < 2 ^ w)
IsConstant (Constant.Poison t) = IsType t
IsConstant (Constant.Any t never_poison) = IsType t

-- the number alone, poison alone, or every value of the type, but for poison where it is never poison
abbrev pub HoldsOf : Constant → Val → Type 0
HoldsOf (Constant.Only w x) v = v ≡ Val.Number x
HoldsOf (Constant.Poison t) v = v ≡ Val.Poison
HoldsOf (Constant.Any t never_poison) v = IsValueOf t v × (v ≡ Val.Poison → never_poison ≡ false)

-- ---- joins

abbrev pub is_never_poison : Constant → Bool
is_never_poison (Constant.Only w x) = true
is_never_poison (Constant.Poison t) = false
is_never_poison (Constant.Any t never_poison) = never_poison

abbrev pub is_only : ℕ → Constant → Bool
is_only x (Constant.Only w y) = nat_eq x y
is_only x (Constant.Poison t) = false
is_only x (Constant.Any t never_poison) = false

abbrev pub is_poison : Constant → Bool
is_poison (Constant.Only w x) = false
is_poison (Constant.Poison t) = true
is_poison (Constant.Any t never_poison) = false

-- whether both hold of one value alone, and of the same one
abbrev pub agree : Constant → Constant → Bool
agree (Constant.Only w x) b = is_only x b
agree (Constant.Poison t) b = is_poison b
agree (Constant.Any t never_poison) b = false

-- the one value of both, or any value of their type
abbrev pub joined : Constant → Constant → Constant
joined a b = if agree a b then a else Constant.Any (constant_type a) (is_never_poison a && is_never_poison b)

abbrev pub included : Constant → Constant → Bool
included (Constant.Only w x) b = is_only x b
included (Constant.Poison t) b = is_poison b
included (Constant.Any t never_poison) b = not never_poison || is_never_poison b

-- ---- transfers: `freeze` keeps a number, and any operation gives some value of its type

-- what is frozen is a number
abbrev pub frozen : ℕ → Constant → Constant
frozen w (Constant.Only _ x) = Constant.Only w x
frozen w (Constant.Poison t) = Constant.Any (Ty.Int w) true
frozen w (Constant.Any t never_poison) = Constant.Any (Ty.Int w) true

abbrev pub transferred : Op → Constant → Constant
transferred (Op.Freeze w _) a = frozen w a
transferred op a = Constant.Any (op_type op) false

-- ---- restrictions

-- the numbers that it holds of
abbrev pub numbers_of : Constant → Option Constant
numbers_of (Constant.Only w x) = Some (Constant.Only w x)
numbers_of (Constant.Poison t) = None
numbers_of (Constant.Any t never_poison) = Some (Constant.Any t true)

-- the number x, where it holds of it
abbrev pub number_of : ℕ → ℕ → Constant → Option Constant
number_of w x (Constant.Only _ y) = if nat_eq x y then Some (Constant.Only w x) else None
number_of w x (Constant.Poison t) = None
number_of w x (Constant.Any t never_poison) = Some (Constant.Only w x)

-- the comparison for equality with a number leaves that one
abbrev pub compared : Constant → Pred → Constant → Option Constant
compared a Pred.Eq (Constant.Only w y) = number_of w y a
compared a _ b = numbers_of a

abbrev pub agreeing : Constant → ℕ → ℕ → Option Constant
agreeing (Constant.Only w x) mask value =
    if nat_eq (bit_and x mask) (bit_and value mask) then Some (Constant.Only w x) else None
agreeing (Constant.Poison t) mask value = None
agreeing (Constant.Any t never_poison) mask value = Some (Constant.Any t true)

abbrev pub only_number : Constant → Option ℕ
only_number (Constant.Only w x) = Some x
only_number (Constant.Poison t) = None
only_number (Constant.Any t never_poison) = None

-- 2 for one value, 1 for any that is never poison, 0 for any
abbrev pub rank_of : Constant → ℕ
rank_of (Constant.Only w x) = 2
rank_of (Constant.Poison t) = 2
rank_of (Constant.Any t never_poison) = if never_poison then 1 else 0

abbrev pub constant_answers : Answers Constant
constant_answers = record {
  literal = λ w x. Constant.Only w x;
  any = λ t never_poison. Constant.Any t never_poison;
  poison = λ t. Constant.Poison t;
  transfer = λ op a b c. transferred op a;
  join = joined;
  includes = included;
  widen = λ old new round marks. joined old new;
  compare = compared;
  with_bits = agreeing;
  moved_from = λ a sums c. numbers_of a;
  single = only_number;
  rank = rank_of;
}
