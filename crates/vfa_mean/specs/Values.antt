-- Values and environments, after the LLVM Language Reference, "Poison Values", "Integer Type" and "Structure Type".
use Rattle.std.specs.Prelude.{◌≡◌, ◌<◌, ◌^◌, ℕ, ⊤}
use Rattle.vfa_ir.specs.declared.operations.Operand.{Operand}
use Rattle.vfa_ir.specs.declared.operations.Ty.{Ty}
use Rattle.vfa_mean.specs.declared.value.Val.{Val}

-- a value of the type: poison, a number of the width, or a pair of one and a bit
abbrev pub IsValueOf : Ty → Val → Type 0
IsValueOf _ Val.Poison = ⊤
IsValueOf (Ty.Int w) (Val.Number x) = x < 2 ^ w
IsValueOf (Ty.Int _) (Val.Pair _ _) = ⊥
IsValueOf (Ty.Pair _) (Val.Number _) = ⊥
IsValueOf (Ty.Pair w) (Val.Pair x _) = x < 2 ^ w

-- poison or a number of the width
abbrev pub IsInt : ℕ → Val → Type 0
IsInt w v = IsValueOf (Ty.Int w) v

pub record AreOfWidth (w : ℕ) (a b : Val) : Type 0 where
  pub first : IsInt w a
  pub second : IsInt w b

-- The first value allows the second in its place: poison allows every value, and any other value itself alone.
abbrev pub AllowsValue : Val → Val → Type 0
AllowsValue Val.Poison _ = ⊤
AllowsValue (Val.Number x) v = Val.Number x ≡ v
AllowsValue (Val.Pair x o) v = Val.Pair x o ≡ v

-- the values of the names at a point of a run; poison for a name that has none yet
abbrev pub Env : Type 0
Env = ℕ → Val

-- what an operand stands for: a literal for itself
abbrev pub operand_value : Env → Operand → Val
operand_value env (Operand.Value v) = env v.0
operand_value _ (Operand.Literal bits) = Val.Number bits
operand_value _ Operand.Poison = Val.Poison
