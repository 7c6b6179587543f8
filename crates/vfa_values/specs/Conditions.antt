-- What the calls of a domain ask of their arguments.
use Rattle.std.specs.Prelude.{◌≡◌, ◌<◌, ℕ, ◌-◌, ◌^◌, List, All, Contains, ⊤}
use Rattle.std.specs.List.Sorted.{IsNonDecreasing}
use Rattle.vfa_ir.specs.declared.operations.Ty.{Ty}
use Rattle.vfa_word.specs.Numbers.{IsWidth}

-- the width of a type; of a pair that of its number
abbrev pub width_of : Ty → ℕ
width_of (Ty.Int w) = w
width_of (Ty.Pair w) = w

-- a type whose width is 1 to 128
abbrev pub IsType : Ty → Type 0
IsType t = IsWidth (width_of t)

-- a type of numbers
abbrev pub IsInteger : Ty → Type 0
IsInteger (Ty.Int _) = ⊤
IsInteger (Ty.Pair _) = ⊥

-- d is a proper value of the domain, of type t
pub record IsOf {V : Type 0} (ty : V → Ty) (proper : V → Type 0) (t : Ty) (d : V) : Type 0 where
  pub is_proper : proper d
  pub typed : ty d ≡ t

-- two proper values of one type
pub record AreAlike {V : Type 0} (ty : V → Ty) (proper : V → Type 0) (a b : V) : Type 0 where
  pub first : proper a
  pub second : proper b
  pub same_type : ty a ≡ ty b

-- landmarks of width w: numbers of the width in ascending order, and among them the ends of both readings
pub record AreLandmarks (w : ℕ) (marks : List ℕ) : Type 0 where
  pub ascending : IsNonDecreasing marks
  pub fit : All (λ m. m < 2 ^ w) marks
  pub least : Contains marks 0
  pub greatest_signed : Contains marks (2 ^ (w - 1) - 1)
  pub least_signed : Contains marks (2 ^ (w - 1))
  pub greatest : Contains marks (2 ^ w - 1)
