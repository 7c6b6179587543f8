-- What contracts see of facts and tests.
use Rattle.std.specs.Prelude.{ℕ, Bool, ◌&&◌}
use Rattle.vfa_known.specs.Known.{in_known}
use Rattle.vfa_wrap.specs.Wrapped.{in_arc}
use Rattle.vfa_fact.specs.declared.numbers.Numbers.{Numbers}
use Rattle.vfa_fact.specs.declared.fact.Fact.{Fact}
use Rattle.vfa_fact.specs.declared.test.Test.{Test}
use Rattle.vfa_fact.specs.Fact.{in_numbers}

-- the plain numbers of a fact
abbrev pub numbers_of : {W : ℕ} → Fact W → Numbers
numbers_of f = record { zeros = f.known.zeros; ones = f.known.ones; first = f.arc.first; last = f.arc.last }

-- x is a number of the fact
abbrev pub in_fact : (W : ℕ) → Fact W → ℕ → Bool
in_fact W f = in_numbers W (numbers_of f)

-- x is in the cube and in both arcs of the test
unfoldable pub in_test : (W : ℕ) → Test W → ℕ → Bool
in_test W t x = in_known W t.cube x && (in_arc W t.one x && in_arc W t.two x)
