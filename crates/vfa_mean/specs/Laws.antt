-- What the table of meanings keeps to, in the words that the layers above use.
use Rattle.std.specs.Prelude.{◌≡◌, ◌<◌, ◌^◌, ◌↔◌, ℕ, Bool, true, false, List, [], ⊤}
use Rattle.vfa_ir.specs.declared.operations.Op.{Op}
use Rattle.vfa_ir.specs.declared.functions.Function.{Function}
use Rattle.vfa_ir.specs.Printable.{op_type}
use Rattle.vfa_mean.specs.declared.value.Done.{Done}
use Rattle.vfa_mean.specs.declared.value.Val.{Val}
use Rattle.vfa_mean.specs.Values.{IsValueOf, AllowsValue}
use Rattle.vfa_mean.specs.Meaning.{Result, Undefined, Gave, Allowed, done}
use Rattle.vfa_mean.specs.Operands.{IsOperation, AreValuesFor}
use Rattle.vfa_mean.specs.Outcomes.{Outcome, Out}

-- The first result allows the second in its place: undefined behaviour every result, poison every value.
abbrev pub AllowsResult : Result → Result → Type 0
AllowsResult Undefined r' = ⊤
AllowsResult (Gave v) (Gave v') = AllowsValue v v'
AllowsResult (Gave v) Undefined = ⊥

-- each result of the second is allowed by one of the first
pub record AllowsDone (d d' : Done) : Type 0 where
  pub each : (r' : Result) → Allowed d' r' → (r : Result) × Allowed d r × AllowsResult r r'

-- Monotony: where some operands become poison, the operation has undefined behaviour, or gives poison or the same.
abbrev pub IsMonotone : Op → Type 0
IsMonotone op = (a b c a' b' c' : Val) → AllowsValue a a' → AllowsValue b b' → AllowsValue c c' → AreValuesFor op a' b' c' →
    AllowsDone (done op a b c) (done op a' b' c')

-- Typing: of operands of the types that are written, a result is poison or of the operation's type.
abbrev pub IsTyped : Op → Type 0
IsTyped op = (a b c v : Val) → IsOperation op → AreValuesFor op a b c → Allowed (done op a b c) (Gave v) → IsValueOf (op_type op) v

-- a value that is a number of the width, and so no poison
abbrev pub IsNumber : ℕ → Val → Type 0
IsNumber w (Val.Number x) = x < 2 ^ w
IsNumber w Val.Poison = ⊥
IsNumber w (Val.Pair x o) = ⊥

abbrev pub is_freeze : Op → Bool
is_freeze (Op.Freeze w a) = true
is_freeze _ = false

-- each operation gives something
abbrev pub HasResult : Op → Type 0
HasResult op = (a b c : Val) → (r : Result) × Allowed (done op a b c) r

-- an operation other than `freeze` gives one thing
abbrev pub HasOneResult : Op → Type 0
HasOneResult op = (a b c : Val) (r r' : Result) → is_freeze op ≡ false →
    Allowed (done op a b c) r → Allowed (done op a b c) r' → r ≡ r'

-- a function has an outcome for all arguments, all answers and any number of entered blocks
abbrev pub HasOutcome : Function → Type 0
HasOutcome f = (args answers : List Val) (n : ℕ) → (o : Outcome) × Out f args answers n o

-- the function without arguments has just this outcome for the answers, over at most n entered blocks
abbrev pub HasJust : Function → List Val → ℕ → Outcome → Type 0
HasJust f answers n o' = (o : Outcome) → Out f [] answers n o ↔ (o ≡ o')
