-- Sharp facts of the members of a set in an arc.
use Rattle.std.proofs.Common.{◌≡◌, ℕ, ◌^◌, ◌<◌, Bool, true, sym, ◌∙◌, arith, Option, Some, None}
use Rattle.std.specs.Prelude.{IsTrue, IsSomeAnd}
use Rattle.std.specs.Option.{option_map}
use Rattle.std.proofs.lemmas.Bool.{true≢false}
use Rattle.vfa_dom.specs.Sets.{meet}
use Rattle.vfa_dom.proofs.SetSearches.{meet_from, meet_parts}
use Rattle.vfa_wrap.specs.Arc.{Span, in_span, IsArc}
use Rattle.vfa_wrap.proofs.Circle.{steps_is, in_from}
use Rattle.vfa_fact.specs.declared.numbers.Numbers.{Numbers}
use Rattle.vfa_fact.specs.Cells.{in_option}
use Rattle.vfa_fact.specs.Fact.{span_in, in_numbers, IsFact}
use Rattle.vfa_fact.specs.Sharp.{sharp_of, sharp_in}
use Rattle.vfa_fact.proofs.SharpSets.{sharp_is, sharp_tells, sharp_none_tells}
use Rattle.vfa_fact.proofs.Facts.{sharp_fact, set_in, fact_best, numbers_parts}

module _ (w : ℕ) (arc : Span) (S : ℕ → Bool) (is : IsArc w arc) where
  in_arc : (x : ℕ) → x < 2 ^ w → meet (in_span w arc) S x ≡ true → in_span w arc x ≡ true
  in_arc x fits member = (meet_parts (in_span w arc) S x member).0

  -- it is a fact
  pub sharp_in_fact : (n : Numbers) → sharp_in w arc S ≡ Some n → IsFact w n
  sharp_in_fact n some = sharp_fact w arc (meet (in_span w arc) S) n is in_arc (sharp_tells w arc.first (meet (in_span w arc) S) n is.first_fits some)

  -- it has each member of the set in the arc
  pub sharp_in_has : (o : Option Numbers) → o ≡ sharp_in w arc S → (x : ℕ) → x < 2 ^ w → in_span w arc x ≡ true → S x ≡ true → in_option w o x ≡ true
  unfolding in_option
  sharp_in_has (Some n) same x fits here member =
      set_in w arc (meet (in_span w arc) S) n is in_arc (sharp_tells w arc.first (meet (in_span w arc) S) n is.first_fits (sym same)) x
      (record { fits = fits; is = meet_from (in_span w arc) S x here member })
  sharp_in_has None same x fits here member =
      absurd (true≢false (sym (meet_from (in_span w arc) S x here member) ∙ sharp_none_tells w arc.first (meet (in_span w arc) S) is.first_fits (sym same) x fits))

-- the sharp fact of a fact's own numbers is the fact
pub fact_again : (w : ℕ) (n : Numbers) → IsFact w n → sharp_of w n.first (in_numbers w n) ≡ Some n
fact_again w n is =
    let from = steps_is w n.first n.first is.arc.first_fits is.arc.first_fits in
    sharp_is w n.first (in_numbers w n) n is.arc.first_fits (record {
      best = fact_best w n is;
      first = record { fits = is.arc.first_fits; member = is.first_in; first = λ y fits member. grind (arith, from) };
      last = record { fits = is.arc.last_fits; member = is.last_in; last = λ y fits member. (in_from w (span_in n) y ((numbers_parts w n y member).1)).1 };
    })

-- what is known of an option of numbers holds of the value of the program that shows them
pub shown_has : {A : Type 0} (show : A → Numbers) (w x : ℕ) (o : Option A) → in_option w (option_map show o) x ≡ true → IsSomeAnd o (λ a. IsTrue (in_numbers w (show a) x))
unfolding in_option
shown_has show w x (Some a) member = member
shown_has show w x None member = absurd (true≢false (sym member))
