-- The fact of a set of numbers of width w: its best known bits, and the arc from its first to its last member.
use Rattle.std.specs.Prelude.{ℕ, ◌+◌, ◌%◌, ◌^◌, Bool, cond, Option, Some, None}
use Rattle.vfa_dom.specs.Search.{some_below, least_below, greatest_below}
use Rattle.vfa_dom.specs.Sets.{meet}
use Rattle.vfa_dom.specs.Best.{zeros_of, ones_of}
use Rattle.vfa_wrap.specs.Arc.{Span, in_span}
use Rattle.vfa_fact.specs.declared.numbers.Numbers.{Numbers}

-- the first member of the set, going up from p round the circle of the 2 ^ w numbers
unfoldable pub first_from : ℕ → ℕ → (ℕ → Bool) → ℕ
first_from w p S = (p + least_below (2 ^ w) (λ k. S ((p + k) % 2 ^ w))) % 2 ^ w

-- the last member of the set, going up from p round the circle
unfoldable pub last_from : ℕ → ℕ → (ℕ → Bool) → ℕ
last_from w p S = (p + greatest_below (2 ^ w) (λ k. S ((p + k) % 2 ^ w))) % 2 ^ w

-- the fact of a set, with the arc from its first to its last member going up from p; there is none where the set is empty
unfoldable pub sharp_of : ℕ → ℕ → (ℕ → Bool) → Option Numbers
sharp_of w p S = cond
    (some_below (2 ^ w) S)
    (Some (record { zeros = zeros_of w S; ones = ones_of w S; first = first_from w p S; last = last_from w p S }))
    None

-- the fact of the members of a set that lie in an arc, going up from the arc's first number; there is none where none does.
-- At width 8, the multiples of 4 in the arc from 5 to 17 are 8, 12 and 16: the bits 000???00 and the arc from 8 to 16
abbrev pub sharp_in : ℕ → Span → (ℕ → Bool) → Option Numbers
sharp_in w arc S = sharp_of w arc.first (meet (in_span w arc) S)
