-- The sharp fact of a set that lies in an arc is a fact.
use Rattle.std.proofs.Common.{◌≡◌, ℕ, ◌+◌, ◌-◌, ◌%◌, ◌^◌, ◌<◌, ◌≤◌, Bool, true, sym, ◌∙◌, ap, subst, arith, inl, inr, Option, Some, None}
use Rattle.std.specs.Prelude.{MatchOption}
use Rattle.std.proofs.lemmas.Bool.{and_parts, and_from, cases_lt}
use Rattle.vfa_dom.specs.Best.{Masks, IsBest, best_of}
use Rattle.vfa_dom.proofs.Bests.{best_is, best_has}
use Rattle.vfa_known.specs.Cube.{IsCube, in_masks}
use Rattle.vfa_known.proofs.Cubes.{in_masks_from, in_masks_at, best_cube}
use Rattle.vfa_wrap.specs.Arc.{Span, steps, in_span, IsArc, arc_from}
use Rattle.vfa_wrap.proofs.Circle.{steps_is, in_from, in_to, arc_from-mod, arc_from_part, arc_from_full}
use Rattle.vfa_fact.specs.declared.numbers.Numbers.{Numbers}
use Rattle.vfa_fact.specs.Fact.{masks_in, span_in, in_numbers, IsFact}
use Rattle.vfa_fact.proofs.SharpSets.{Member, member_test, IsSharp}

pub numbers_from : (w : ℕ) (n : Numbers) (x : ℕ) → in_masks w (masks_in n) x ≡ true → in_span w (span_in n) x ≡ true → in_numbers w n x ≡ true
unfolding in_numbers
numbers_from w n x cube arc = and_from (in_masks w (masks_in n) x) (in_span w (span_in n) x) cube arc

pub numbers_parts : (w : ℕ) (n : Numbers) (x : ℕ) → in_numbers w n x ≡ true → (in_masks w (masks_in n) x ≡ true) × (in_span w (span_in n) x ≡ true)
unfolding in_numbers
numbers_parts w n x member = and_parts (in_masks w (masks_in n) x) (in_span w (span_in n) x) member

-- going on from f, between p and what comes after f
pub steps_between : (w p f x : ℕ) → p < 2 ^ w → f < 2 ^ w → x < 2 ^ w → steps w p f ≤ steps w p x → steps w f x + steps w p f ≡ steps w p x
steps_between w p f x hp hf hx less =
    let to = steps_is w p f hp hf in
    let on = steps_is w f x hf hx in
    let all = steps_is w p x hp hx in
    grind (arith, to, on, all)

best_of_has : (w : ℕ) (S : ℕ → Bool) → IsBest w (Member w S) (best_of w S).zeros (best_of w S).ones
unfolding best_of
best_of_has w S = best_has w (Member w S) S (member_test w S)

module _ (w : ℕ) (s : Span) (S : ℕ → Bool) (n : Numbers) (arc : IsArc w s)
    (inside : (x : ℕ) → x < 2 ^ w → S x ≡ true → in_span w s x ≡ true) (is : IsSharp w s.first S n) where
  ends_rise : steps w s.first n.first ≤ steps w s.first n.last
  ends_rise = is.first.first n.last is.last.fits is.last.member

  sharp_arc : IsArc w (span_in n)
  sharp_arc = record {
    first_fits = is.first.fits;
    last_fits = is.last.fits;
    normal = λ full.
        let between = steps_between w s.first n.first n.last arc.first_fits is.first.fits is.last.fits ends_rise in
        let within = (in_from w s n.last (inside n.last is.last.fits is.last.member)).1 in
        let whole = steps_is w s.first s.last arc.first_fits arc.last_fits in
        let to = steps_is w s.first n.first arc.first_fits is.first.fits in
        let on = steps_is w s.first n.last arc.first_fits is.last.fits in
        let zero_first = arc.normal (omega (arith, whole.0, on.0)) in
        grind (arith, zero_first, to, between, on);
  }

  pub sharp_cube : IsCube w n.zeros n.ones
  sharp_cube = best_cube w (Member w S) n.zeros n.ones n.first is.best (record { fits = is.first.fits; is = is.first.member })

  pub set_in : (x : ℕ) → Member w S x → in_numbers w n x ≡ true
  set_in x member =
      let more = is.first.first x member.fits member.is in
      let less = is.last.last x member.fits member.is in
      let on = steps_between w s.first n.first x arc.first_fits is.first.fits member.fits more in
      let all = steps_between w s.first n.first n.last arc.first_fits is.first.fits is.last.fits ends_rise in
      numbers_from w n x
      (in_masks_from w n.zeros n.ones sharp_cube x (record {
        fits = member.fits;
        zero = λ i known. is.best.zero x i member known;
        one = λ i known. is.best.one x i member known;
      }))
      (in_to w (span_in n) x member.fits (omega arith))

  numbers_best : IsBest w (Member w (in_numbers w n)) n.zeros n.ones
  numbers_best = record {
    zeros_fit = is.best.zeros_fit;
    ones_fit = is.best.ones_fit;
    zero = λ x i member known. (in_masks_at w n.zeros n.ones sharp_cube x ((numbers_parts w n x member.is).0)).zero i known;
    one = λ x i member known. (in_masks_at w n.zeros n.ones sharp_cube x ((numbers_parts w n x member.is).0)).one i known;
    some_one = λ i below clear. let has = is.best.some_one i below clear in (has.0, record { fits = has.1.fits; is = set_in has.0 has.1 }, has.2);
    some_zero = λ i below clear. let has = is.best.some_zero i below clear in (has.0, record { fits = has.1.fits; is = set_in has.0 has.1 }, has.2);
  }

  pub sharp_fact : IsFact w n
  sharp_fact = record {
    arc = sharp_arc;
    best = best_is w (Member w (in_numbers w n)) (in_numbers w n) (member_test w (in_numbers w n)) n.zeros n.ones numbers_best;
    first_in = set_in n.first (record { fits = is.first.fits; is = is.first.member });
    last_in = set_in n.last (record { fits = is.last.fits; is = is.last.member });
  }

-- ---- the numbers of a fact

module _ (w : ℕ) (n : Numbers) (is : IsFact w n) where
  pub fact_best : IsBest w (Member w (in_numbers w n)) n.zeros n.ones
  fact_best = subst (λ (m : Masks). IsBest w (Member w (in_numbers w n)) m.zeros m.ones) (sym is.best)
      (best_of_has w (in_numbers w n))

  pub fact_first : Member w (in_numbers w n) n.first
  fact_first = record { fits = is.arc.first_fits; is = is.first_in }

  pub fact_last : Member w (in_numbers w n) n.last
  fact_last = record { fits = is.arc.last_fits; is = is.last_in }

  pub fact_cube : IsCube w n.zeros n.ones
  fact_cube = best_cube w (Member w (in_numbers w n)) n.zeros n.ones n.first fact_best fact_first

-- an arc is what its own ends make
pub arc_again : (w : ℕ) (s : Span) → IsArc w s → arc_from w (s.first % 2 ^ w) (s.last % 2 ^ w) ≡ s
arc_again w s arc = arc_from-mod w s.first s.last ∙ elim (cases_lt (steps w s.first s.last + 1) (2 ^ w)) [
  | inl free ↦ arc_from_part w s.first s.last arc.first_fits arc.last_fits free
  | inr full ↦
      let to = steps_is w s.first s.last arc.first_fits arc.last_fits in
      let zero_first = arc.normal (omega (arith, to.0)) in
      let all : s.last ≡ 2 ^ w - 1 = grind (arith, to, zero_first, full) in
      arc_from_full w s.first s.last arc.first_fits arc.last_fits (omega (arith, to.0)) ∙ same_span 0 s.first (2 ^ w - 1) s.last (sym zero_first) (sym all)
]
  where
    same_span : (f f' l l' : ℕ) → f ≡ f' → l ≡ l' → (◌≡◌ {A = Span} (record { first = f; last = l }) (record { first = f'; last = l' }))
    same_span f f' l l' ef el = cc

-- the plain numbers of a fact that has the masks and the ends of others
pub made_again : (w z o f l p q : ℕ) (n : Numbers) → IsArc w (span_in n) → ◌≡◌ {A = Masks} (record { zeros = z; ones = o }) (masks_in n) →
    ◌≡◌ {A = Span} (record { first = f; last = l }) (arc_from w p q) → p ≡ n.first % 2 ^ w → q ≡ n.last % 2 ^ w →
    ◌≡◌ {A = Numbers} (record { zeros = z; ones = o; first = f; last = l }) n
made_again w z o f l p q n arc masks span ep eq =
    let same : ◌≡◌ {A = Span} (record { first = f; last = l }) (span_in n) =
    span ∙ ap (λ a. arc_from w a q) ep ∙ ap (arc_from w (n.first % 2 ^ w)) eq ∙ arc_again w (span_in n) arc in
    same_numbers z n.zeros o n.ones f n.first l n.last (ap (λ m. m.zeros) masks) (ap (λ m. m.ones) masks) (ap (λ s. s.first) same) (ap (λ s. s.last) same)
  where
    same_numbers : (z z' o o' f f' l l' : ℕ) → z ≡ z' → o ≡ o' → f ≡ f' → l ≡ l' →
        ◌≡◌ {A = Numbers} (record { zeros = z; ones = o; first = f; last = l }) (record { zeros = z'; ones = o'; first = f'; last = l' })
    same_numbers z z' o o' f f' l l' ez eo ef el = cc

-- what a match promises where there is no value
pub none_tells : {A : Type 0} (r : Option A) (P : Type 0) (Q : A → Type 0) → MatchOption r P Q → r ≡ None → P
none_tells None P Q promise none = promise
none_tells (Some x) P Q promise none = absurd (cc)
