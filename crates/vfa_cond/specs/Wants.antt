-- Which numbers are wanted of a name, and what a domain keeps for them (LLVM's LazyValueInfo, getValueFromCondition).
use Rattle.std.specs.Prelude.{◌≡◌, ◌<◌, ◌+◌, ◌%◌, ◌^◌, ℕ, Option, IsTrue, bit_and}
use Rattle.vfa_ir.specs.declared.operations.Ty.{Ty}
use Rattle.vfa_ir.specs.Predicates.{by_order}
use Rattle.vfa_word.specs.Operations.{equal, unsigned_less, signed_less}
use Rattle.vfa_mean.specs.declared.value.Val.{Val}
use Rattle.vfa_values.specs.Answers.{Answers}
use Rattle.vfa_values.specs.Conditions.{width_of, IsOf}
use Rattle.vfa_cond.specs.declared.want.Want.{Want}

-- The number x of width w is wanted. At width 8, `Bits` of mask 3 and value 1 wants 1, 5, 9 and so on up to 253.
abbrev pub IsWanted : {V : Type 0} → (V → Val → Type 0) → ℕ → Want V → ℕ → Type 0
IsWanted holds w (Want.Compare pred e) x =
    (y : ℕ) × holds e (Val.Number y) × IsTrue (by_order pred equal unsigned_less (signed_less w) x y)
IsWanted holds w (Want.Bits mask value) x = bit_and x mask ≡ bit_and value mask
IsWanted holds w (Want.Moved sums c) x = holds sums (Val.Number ((x + c) % 2 ^ w))

-- what is wanted is of the type
abbrev pub IsWantFor : {V : Type 0} → (V → Ty) → (V → Type 0) → Ty → Want V → Type 0
IsWantFor ty proper t (Want.Compare pred e) = IsOf ty proper t e
IsWantFor ty proper t (Want.Bits mask value) = (mask < 2 ^ width_of t) × (value < 2 ^ width_of t)
IsWantFor ty proper t (Want.Moved sums c) = IsOf ty proper t sums × (c < 2 ^ width_of t)

-- what the domain keeps of a value where these numbers are wanted; none only where it holds of none of them
abbrev pub kept : {V : Type 0} → Answers V → V → Want V → Option V
kept answers d (Want.Compare pred e) = answers.compare d pred e
kept answers d (Want.Bits mask value) = answers.with_bits d mask value
kept answers d (Want.Moved sums c) = answers.moved_from d sums c
