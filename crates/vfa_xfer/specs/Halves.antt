-- helper: in no public contract
-- Orders of pairs of one sign, by the least and the greatest numbers of the halves of two sets: those that are not negative,
-- and those that are.
use Rattle.std.specs.Prelude.{ℕ, Bool, false, ◌||◌, Option, Some, None, IsTrue, MatchOption}
use Rattle.vfa_dom.specs.Sets.{meet, is_empty}
use Rattle.vfa_fact.specs.declared.numbers.Numbers.{Numbers}
use Rattle.vfa_fact.specs.Interval.{interval, Reaches}
use Rattle.vfa_xfer.specs.declared.comparisons.Halves.{Halves}

-- the numbers of a set from lo up to hi: none, or with the least of them as the first and the greatest as the last
abbrev pub EndsOfPart : ℕ → (ℕ → Bool) → ℕ → ℕ → Option Numbers → Type 0
EndsOfPart w S lo hi o = MatchOption o
    (IsTrue (is_empty w (meet (interval lo hi) S)))
    (λ n. Reaches (meet (interval lo hi) S) n.first n.last)

-- whether some number of the one stands in the relation to some number of the other, for a relation of lesser to greater
-- numbers: the least of the one to the greatest of the other does
abbrev pub related_by : (ℕ → ℕ → Bool) → Option Numbers → Option Numbers → Bool
related_by relation None b = false
related_by relation (Some a) None = false
related_by relation (Some a) (Some b) = relation a.first b.last

-- the same of numbers of one sign
abbrev pub related_halves : (ℕ → ℕ → Bool) → Halves → Halves → Bool
related_halves relation a b = related_by relation a.low b.low || related_by relation a.high b.high
