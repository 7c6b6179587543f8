-- Arcs of numbers of one width, after LLVM's ConstantRange: that one names the number behind the last one, and an arc
-- here has a first and a last number of its own, so that it is never empty.
use Rattle.std.specs.Prelude.{◌≡◌, ℕ, ◌+◌, ◌-◌, ◌%◌, ◌^◌, ◌<◌, Bool, ◌&&◌, ℤ, nat_eq, nat_lt, nat_le, IsTrue, if◌then◌else◌}
use Rattle.std.proofs.lemmas.Bool.{ltb-true, and_parts}
use Rattle.vfa_word.specs.Numbers.{wrap}
use Rattle.vfa_dom.specs.Search.{some_below, least_below}
use Rattle.vfa_dom.specs.Sets.{includes}

-- the two ends of an arc: the numbers from the first one up to the last one, going on at 0 after the greatest number
pub record Span : Type 0 where
  pub first : ℕ
  pub last : ℕ

-- how many steps up lead from p to x, round the circle of the 2 ^ w numbers
unfoldable pub steps : ℕ → ℕ → ℕ → ℕ
steps w p x = (x + (2 ^ w - p)) % 2 ^ w

-- x is one of the numbers of the arc
unfoldable pub in_span : ℕ → Span → ℕ → Bool
in_span w s x = nat_lt x (2 ^ w) && nat_le (steps w s.first x) (steps w s.first s.last)

-- each number of an arc is one of the width
pub in_span_fits : (w : ℕ) (s : Span) (x : ℕ) → IsTrue (in_span w s x) → x < 2 ^ w
unfolding in_span
in_span_fits w s x member = ltb-true x (2 ^ w) (and_parts (nat_lt x (2 ^ w)) (nat_le (steps w s.first x) (steps w s.first s.last)) member).0

-- all numbers of width w
abbrev pub full_span : ℕ → Span
full_span w = record { first = 0; last = 2 ^ w - 1 }

-- the arc from p up to q, both taken modulo 2 ^ w; an arc of all numbers is written from 0 on
unfoldable pub arc_from : ℕ → ℕ → ℕ → Span
arc_from w p q =
    if nat_eq ((q + 1) % 2 ^ w) (p % 2 ^ w) then full_span w
    else record { first = p % 2 ^ w; last = q % 2 ^ w }

-- the arc from p up to q, for signed p and q
abbrev pub sarc : ℕ → ℤ → ℤ → Span
sarc w p q = arc_from w (wrap w p) (wrap w q)

-- a span of width w, written from 0 on where it has all numbers
pub record IsArc (w : ℕ) (s : Span) : Type 0 where
  pub first_fits : s.first < 2 ^ w
  pub last_fits : s.last < 2 ^ w
  pub normal : steps w s.first s.last + 1 ≡ 2 ^ w → s.first ≡ 0

-- the arc of k + 1 numbers from p on holds all of A and of B
abbrev pub holds_both : ℕ → (ℕ → Bool) → (ℕ → Bool) → ℕ → ℕ → Bool
holds_both w A B k p =
    includes w (in_span w (record { first = p; last = (p + k) % 2 ^ w })) A
    && includes w (in_span w (record { first = p; last = (p + k) % 2 ^ w })) B

-- one less than the fewest numbers of an arc that holds both sets
unfoldable pub hull_size : ℕ → (ℕ → Bool) → (ℕ → Bool) → ℕ
hull_size w A B = least_below (2 ^ w) (λ k. some_below (2 ^ w) (holds_both w A B k))

-- the least first number of an arc of that size that holds both sets
unfoldable pub hull_first : ℕ → (ℕ → Bool) → (ℕ → Bool) → ℕ
hull_first w A B = least_below (2 ^ w) (holds_both w A B (hull_size w A B))

-- the arc of the fewest numbers that holds both sets; of two with equally many the one with the lesser first number
unfoldable pub hull_of : ℕ → (ℕ → Bool) → (ℕ → Bool) → Span
hull_of w A B = arc_from w (hull_first w A B) (hull_first w A B + hull_size w A B)

-- ConstantRange::add: the arc of the sums of two arcs; full where their sizes sum to more than 2 ^ w
unfoldable pub sum_span : ℕ → Span → Span → Span
sum_span w a b =
    if nat_lt (2 ^ w) (steps w a.first a.last + 1 + (steps w b.first b.last + 1)) then full_span w
    else arc_from w (a.first + b.first) (a.last + b.last)

-- ConstantRange::sub: the arc of the differences of two arcs; full in the same case
unfoldable pub difference_span : ℕ → Span → Span → Span
difference_span w a b =
    if nat_lt (2 ^ w) (steps w a.first a.last + 1 + (steps w b.first b.last + 1)) then full_span w
    else arc_from w (a.first + (2 ^ w - b.last)) (a.last + (2 ^ w - b.first))

-- one less than the fewest numbers of an arc that begins with the first number of s and holds both arcs
unfoldable pub reach_of : ℕ → Span → Span → ℕ
reach_of w s t = least_below (2 ^ w) (λ k. holds_both w (in_span w s) (in_span w t) k s.first)
