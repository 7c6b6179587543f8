-- helper: in no public contract
-- Comparisons by what they ask of the order of two numbers. Each of the two orders goes up from a base round the circle
-- of the 2 ^ w numbers: the unsigned order from 0, the signed one from the least signed value.
use Rattle.std.specs.Prelude.{ℕ, ◌+◌, ◌-◌, ◌%◌, ◌^◌, Bool, not, nat_eq, nat_lt}
use Rattle.vfa_dom.specs.Search.{least_below, greatest_below}
use Rattle.vfa_wrap.specs.Arc.{steps}
use Rattle.vfa_fact.specs.declared.order.Order.{Order}
use Rattle.vfa_fact.specs.declared.order.Order.TheVariants.{Unsigned, Signed}
use Rattle.vfa_fact.specs.declared.order.Relation.{Relation}
use Rattle.vfa_fact.specs.declared.order.Relation.TheVariants.{Equal, Unequal, Before, UpTo, After, From}

-- the number that comes first in the order
abbrev pub base_of : ℕ → Order → ℕ
base_of w Unsigned = 0
base_of w Signed = 2 ^ (w - 1)

-- x comes before y in the order that goes up from base
unfoldable pub comes_before : ℕ → ℕ → ℕ → ℕ → Bool
comes_before w base x y = nat_lt (steps w base x) (steps w base y)

-- x stands in the relation to y
abbrev pub relates : ℕ → Relation → ℕ → ℕ → Bool
relates w Equal x y = nat_eq x y
relates w Unequal x y = not (nat_eq x y)
relates w (Before order) x y = comes_before w (base_of w order) x y
relates w (UpTo order) x y = not (comes_before w (base_of w order) y x)
relates w (After order) x y = comes_before w (base_of w order) y x
relates w (From order) x y = not (comes_before w (base_of w order) x y)

-- how many steps up from base the first member of the set stands
unfoldable pub first_place : ℕ → ℕ → (ℕ → Bool) → ℕ
first_place w base S = least_below (2 ^ w) (λ k. S ((base + k) % 2 ^ w))

-- how many steps up from base its last member stands
unfoldable pub last_place : ℕ → ℕ → (ℕ → Bool) → ℕ
last_place w base S = greatest_below (2 ^ w) (λ k. S ((base + k) % 2 ^ w))
