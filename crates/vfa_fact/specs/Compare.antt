-- Comparisons, after the LLVM Language Reference, "icmp", and what they tell of the numbers of a set.
use Rattle.std.specs.Prelude.{◌≡◌, ◌<◌, ℕ, ◌^◌, Bool, true, false, cond, not, ◌&&◌, ◌||◌, Option, Some, None}
use Rattle.vfa_word.specs.Operations.{equal, unsigned_less, signed_less}
use Rattle.vfa_dom.specs.Search.{some_below, all_below}
use Rattle.vfa_dom.specs.Sets.{meet}
use Rattle.vfa_ir.specs.declared.operations.Pred.{Pred}
use Rattle.vfa_ir.specs.Predicates.{by_order}
use Rattle.vfa_fact.specs.declared.numbers.Numbers.{Numbers}
use Rattle.vfa_fact.specs.Fact.{span_in, in_numbers}
use Rattle.vfa_fact.specs.Sharp.{sharp_in}

-- whether the comparison of two numbers of width w is true
unfoldable pub satisfies : ℕ → Pred → ℕ → ℕ → Bool
satisfies w pred = by_order pred equal unsigned_less (signed_less w)

-- whether all pairs of a number of A and one of B satisfy the test
unfoldable pub all_pairs : ℕ → (ℕ → Bool) → (ℕ → Bool) → (ℕ → ℕ → Bool) → Bool
all_pairs w A B test = all_below (2 ^ w) (λ x. not (A x) || all_below (2 ^ w) (λ y. not (B y) || test x y))

-- the one answer of the test over all pairs, where it has just one
unfoldable pub decided : ℕ → (ℕ → ℕ → Bool) → (ℕ → Bool) → (ℕ → Bool) → Option Bool
decided w test A B = cond
    (all_pairs w A B test)
    (Some true)
    (cond (all_pairs w A B (λ x y. not (test x y))) (Some false) None)

-- the one answer of the comparison over all pairs of a number of A and one of B, where it has just one
unfoldable pub decide_of : ℕ → Pred → (ℕ → Bool) → (ℕ → Bool) → Option Bool
decide_of w pred A B = decided w (satisfies w pred) A B

-- the numbers that pass the test with some number of B
unfoldable pub partners : ℕ → (ℕ → ℕ → Bool) → (ℕ → Bool) → ℕ → Bool
partners w test B x = some_below (2 ^ w) (λ y. B y && test x y)

-- the fact of the numbers of a that satisfy the comparison with some number of B
unfoldable pub restrict_of : ℕ → Pred → Numbers → (ℕ → Bool) → Option Numbers
restrict_of w pred a B = sharp_in w (span_in a) (meet (in_numbers w a) (partners w (satisfies w pred) B))

-- the two sets have the same numbers of width w
pub record Agree (w : ℕ) (S T : ℕ → Bool) : Type 0 where
  pub alike : (x : ℕ) → x < 2 ^ w → S x ≡ T x
