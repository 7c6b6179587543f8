-- The numbers of known bits, an arc and a test together.
use Rattle.std.proofs.Common.{◌≡◌, ℕ, ◌^◌, Bool, ◌&&◌, sym, ◌∙◌, subst, arith, Option, Some, None}
use Rattle.std.specs.Prelude.{MatchOption, IsFalse}
use Rattle.std.proofs.lemmas.Bool.{and_parts, true≢false}
use Rattle.vfa_dom.specs.Sets.{meet, meets}
use Rattle.vfa_dom.proofs.Searches.{none_passes}
use Rattle.vfa_dom.proofs.SetSearches.{meet_from, meet_parts}
use Rattle.vfa_known.specs.Known.{in_known}
use Rattle.vfa_known.specs.declared.known.Known.{Known}
use Rattle.vfa_wrap.specs.Wrapped.{span_of, in_arc}
use Rattle.vfa_wrap.specs.declared.arc.Wrapped.{Wrapped}
use Rattle.vfa_wrap.proofs.Truth.{untrue}
use Rattle.vfa_fact.specs.declared.numbers.Numbers.{Numbers}
use Rattle.vfa_fact.specs.declared.test.Test.{Test}
use Rattle.vfa_fact.specs.Fact.{IsFact}
use Rattle.vfa_fact.specs.Sharp.{sharp_in}
use Rattle.vfa_fact.specs.Views.{in_test}
use Rattle.vfa_fact.proofs.SharpSets.{sharp_none, sharp_alike}
use Rattle.vfa_fact.proofs.SharpArcs.{sharp_in_fact}

-- what a match promises where there is a value
pub some_tells : {A : Type 0} (r : Option A) (P : Type 0) (Q : A → Type 0) (x : A) → MatchOption r P Q → r ≡ Some x → Q x
some_tells None P Q x promise some = absurd (cc)
some_tells (Some y) P Q x promise some = subst Q (of_some y x some) promise
  where
    of_some : {A : Type 0} (a b : A) → Some a ≡ Some b → a ≡ b
    of_some a b e = cc

in_order : (k a q s t c : Bool) → c ≡ (k && q) → (a && (t && (s && c))) ≡ (a && (k && (q && (s && t))))
in_order k a q s t c e = grind arith

module _ (W : ℕ) (known : Known W) (arc : Wrapped W) (test : Test W) where
  -- there are none where the masks have no number in common
  pub none_tested : IsFalse (meets W (in_known W known) (in_known W test.cube)) →
      sharp_in W (span_of arc) (meet (in_known W known) (in_test W test)) ≡ None
  unfolding meets in_test
  none_tested none = sharp_none W arc.first (meet (in_arc W arc) (meet (in_known W known) (in_test W test))) (λ x fits. untrue _ (λ member.
      let one = meet_parts (in_arc W arc) (meet (in_known W known) (in_test W test)) x member in
      let two = meet_parts (in_known W known) (in_test W test) x one.1 in
      let three = and_parts (in_known W test.cube x) (in_arc W test.one x && in_arc W test.two x) two.1 in
      let both = meet_from (in_known W known) (in_known W test.cube) x two.0 three.0 in
      true≢false (sym both ∙ none_passes (2 ^ W) (meet (in_known W known) (in_known W test.cube)) none x fits)))

  module _ (cube : Known W) (numbers : (x : ℕ) → in_known W cube x ≡ meet (in_known W known) (in_known W test.cube) x) where
    pub tested : sharp_in W (span_of arc) (meet (in_arc W test.two) (meet (in_arc W test.one) (in_known W cube)))
        ≡ sharp_in W (span_of arc) (meet (in_known W known) (in_test W test))
    unfolding meet in_test
    tested = sharp_alike W arc.first _ _ arc.arc.first_fits (λ x fits.
        in_order (in_known W known x) (in_arc W arc x) (in_known W test.cube x) (in_arc W test.one x) (in_arc W test.two x) (in_known W cube x) (numbers x))

    pub tested_fact : (n : Numbers) → sharp_in W (span_of arc) (meet (in_arc W test.two) (meet (in_arc W test.one) (in_known W cube))) ≡ Some n → IsFact W n
    tested_fact n is = sharp_in_fact W (span_of arc) (meet (in_arc W test.two) (meet (in_arc W test.one) (in_known W cube))) arc.arc n is
