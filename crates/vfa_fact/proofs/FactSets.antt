-- Sets of facts: whole cubes, single numbers, and one set in another.
use Rattle.std.proofs.Common.{◌≡◌, ℕ, ◌+◌, ◌-◌, ◌%◌, ◌^◌, ◌<◌, ◌≤◌, Bool, true, false, not, sym, ◌∙◌, ap, arith, ◌⊎◌, inl, inr, mod-eq_of_lt, Option, Some, None, pos, ◌-ℤ◌}
use Rattle.std.specs.Prelude.{IsTrue, ◌↔◌}
use Rattle.std.proofs.lemmas.Bool.{cases_Bool, cases_eq, cases_lt, cases_order, true≢false}
use Rattle.std.proofs.lemmas.Nat.{mod_below, pow_below}
use Rattle.std.proofs.lemmas.Nat.Bits.{bit_at_above}
use Rattle.vfa_dom.specs.Sets.{meet, includes, single_of}
use Rattle.vfa_dom.proofs.Bests.{best_is, digit_cases}
use Rattle.vfa_dom.proofs.ResultSets.{IsBest-alike}
use Rattle.vfa_dom.proofs.SetSearches.{meet_from, meet_parts, includes_from, includes_tells, includes_fails, single_of_is, single_of_several, single_of_exact}
use Rattle.vfa_known.specs.Cube.{IsCube, InCube, in_masks}
use Rattle.vfa_known.proofs.Cubes.{in_masks_from, in_masks_at, cube_best}
use Rattle.vfa_wrap.specs.Arc.{Span, steps, in_span, IsArc, arc_from, full_span}
use Rattle.vfa_wrap.proofs.ArcSets.{only_first, single_first, single_none}
use Rattle.vfa_wrap.proofs.Circle.{in_full, in_to, outside, steps_is, wrapped_sum, arc_from_part}
use Rattle.vfa_wrap.proofs.Truth.{untrue}
use Rattle.vfa_word.specs.Numbers.{wrap}
use Rattle.vfa_word.proofs.Wrapping.{wrap_difference_is}
use Rattle.vfa_fact.specs.declared.numbers.Numbers.{Numbers}
use Rattle.vfa_fact.specs.Fact.{masks_in, span_in, in_numbers, in_numbers_fits, IsFact}
use Rattle.vfa_fact.specs.Sharp.{sharp_in}
use Rattle.vfa_fact.proofs.SharpSets.{Member, member_test, sharp_none_tells, sharp_tells}
use Rattle.vfa_fact.proofs.Facts.{numbers_from, numbers_parts, fact_cube, fact_best}

-- ---- a cube that lies in its arc

pub whole_fact : (w : ℕ) (n : Numbers) → IsCube w n.zeros n.ones → IsArc w (span_in n) →
    ((x : ℕ) → in_masks w (masks_in n) x ≡ true → in_span w (span_in n) x ≡ true) →
    in_masks w (masks_in n) n.first ≡ true → in_masks w (masks_in n) n.last ≡ true → IsFact w n
whole_fact w n cube arc inside first last = record {
  arc = arc;
  best = best_is w (Member w (in_numbers w n)) (in_numbers w n) (member_test w (in_numbers w n)) n.zeros n.ones
      (IsBest-alike w (InCube w n.zeros n.ones) (Member w (in_numbers w n)) n.zeros n.ones
      (λ x member. let test = in_masks_from w n.zeros n.ones cube x member in record { fits = member.fits; is = numbers_from w n x test (inside x test) })
      (λ x member. in_masks_at w n.zeros n.ones cube x ((numbers_parts w n x member.is).0))
      (cube_best w n.zeros n.ones cube));
  first_in = numbers_from w n n.first first (inside n.first first);
  last_in = numbers_from w n n.last last (inside n.last last);
}

-- ---- the only member

pub single_same : (w : ℕ) (n : Numbers) → IsFact w n → single_of w (in_span w (span_in n)) ≡ single_of w (in_numbers w n)
single_same w n is = elim (cases_eq n.first n.last) [
  | inl same ↦
      single_first w (span_in n) is.arc same
      ∙ sym (single_of_is w (in_numbers w n) n.first is.arc.first_fits is.first_in (λ y fits member.
      only_first w (span_in n) y is.arc same ((numbers_parts w n y member).1)))
  | inr other ↦ single_none w (span_in n) is.arc other ∙ elim (cases_order n.first n.last) [
    | inl same ↦ absurd (other same)
    | inr apart ↦ elim apart [
      | inl less ↦ sym (single_of_several w (in_numbers w n) n.first n.last is.arc.first_fits is.first_in is.arc.last_fits is.last_in less)
      | inr more ↦ sym (single_of_several w (in_numbers w n) n.last n.first is.arc.last_fits is.last_in is.arc.first_fits is.first_in more)
    ]
  ]
]

pub single_tells : (w : ℕ) (n : Numbers) (answer : Option ℕ) → answer ≡ single_of w (in_numbers w n) → (x : ℕ) →
    (answer ≡ Some x) ↔ ((y : ℕ) → IsTrue (in_numbers w n y) ↔ (y ≡ x))
single_tells w n answer same x =
    let exact = single_of_exact w (in_numbers w n) (in_numbers_fits w n) x in
    ((λ is. exact.0 (sym same ∙ is)), (λ only. same ∙ exact.1 only))

-- ---- the numbers outside an arc

module _ (w p q u v : ℕ) (hp : p < 2 ^ w) (hq : q < 2 ^ w) (free : steps w p q + 1 < 2 ^ w)
    (eu : u ≡ (q + 1) % 2 ^ w) (ev : v ≡ (p + (2 ^ w - 1)) % 2 ^ w) where
  after : (u < 2 ^ w) × (((u ≡ q + 1) × (q + 1 < 2 ^ w)) ⊎ ((u ≡ 0) × (q + 1 ≡ 2 ^ w)))
  after = let two = wrapped_sum (2 ^ w) (q + 1) (omega arith) in grind (arith, two)

  before : (v < 2 ^ w) × (((v + 1 ≡ p) × (0 < p)) ⊎ ((v + 1 ≡ 2 ^ w) × (p ≡ 0)))
  before = let two = wrapped_sum (2 ^ w) (p + (2 ^ w - 1)) (omega arith) in
      let cut : (p + (2 ^ w - 1)) % 2 ^ w < 2 ^ w = mod_below (p + (2 ^ w - 1)) (2 ^ w) (omega arith) in
      grind (arith, two, cut)

  gap : steps w u v + steps w p q + 2 ≡ 2 ^ w
  gap = let pq = steps_is w p q hp hq in
      let uv = steps_is w u v after.0 before.0 in
      grind (arith, pq, uv, after, before)

  -- from behind the arc's last number to x
  from_behind : (x : ℕ) → x < 2 ^ w →
      ((steps w p q < steps w p x) × (steps w u x + steps w p q + 1 ≡ steps w p x)) ⊎ ((steps w p x ≤ steps w p q) × (steps w u x + steps w p q + 1 ≡ steps w p x + 2 ^ w))
  from_behind x fits =
      let pq = steps_is w p q hp hq in
      let px = steps_is w p x hp fits in
      let ux = steps_is w u x after.0 fits in
      elim (cases_lt (steps w p q) (steps w p x)) [
        | inl far ↦ inl (far, grind (arith, pq, px, ux, after))
        | inr near ↦ inr (near, grind (arith, pq, px, ux, after))
      ]

  outside_arc : arc_from w u v ≡ record { first = u; last = v }
  outside_arc = let room = gap in arc_from_part w u v after.0 before.0 (omega arith)

  outside_span : (x : ℕ) → x < 2 ^ w → in_span w (record { first = u; last = v }) x ≡ not (in_span w (record { first = p; last = q }) x)
  outside_span x fits =
      let room = gap in
      elim (from_behind x fits) [
        | inl far ↦
            in_to w (record { first = u; last = v }) x fits (let px = steps_is w p x hp fits in omega (arith, far, px.0))
            ∙ sym (ap not (outside w (record { first = p; last = q }) x (λ h less. omega (arith, far))))
        | inr near ↦
            outside w (record { first = u; last = v }) x (λ h less. omega (arith, near))
            ∙ sym (ap not (in_to w (record { first = p; last = q }) x fits near.0))
      ]

pub outside_is : (w x one a u v : ℕ) (s o : Span) → 1 ≤ w → IsArc w s → steps w s.first s.last + 1 < 2 ^ w → x < 2 ^ w → one ≡ a % 2 ^ w → a ≡ 1 →
    u ≡ (s.last + one) % 2 ^ w → v ≡ wrap w (pos s.first -ℤ pos one) → o ≡ arc_from w u v → in_span w o x ≡ not (in_span w s x)
outside_is w x one a u v s o wide arc free fits eo ea eu ev e =
    let two = pow_below 0 w (omega arith) in
    let e1 : one ≡ 1 = eo ∙ ap (λ n. n % 2 ^ w) ea ∙ mod-eq_of_lt two in
    let eu' : u ≡ (s.last + 1) % 2 ^ w = eu ∙ ap (λ n. (s.last + n) % 2 ^ w) e1 in
    let ev' : v ≡ (s.first + (2 ^ w - 1)) % 2 ^ w = ev ∙ wrap_difference_is w s.first one (omega arith) ∙ ap (λ n. (s.first + (2 ^ w - n)) % 2 ^ w) e1 in
    ap (λ t. in_span w t x) (e ∙ outside_arc w s.first s.last u v arc.first_fits arc.last_fits free eu' ev')
    ∙ outside_span w s.first s.last u v arc.first_fits arc.last_fits free eu' ev' x fits

-- ---- one set in another

module _ (w : ℕ) (a b : Numbers) (left : IsFact w a) (right : IsFact w b) where
  pub inside : includes w (in_numbers w a) (in_numbers w b) ≡ true → (x : ℕ) → IsTrue (in_numbers w b x) → IsTrue (in_numbers w a x)
  inside all x member = includes_tells w (in_numbers w a) (in_numbers w b) all x (in_numbers_fits w b x member) member

  -- then the cube lies in the other cube
  cube_inside : includes w (in_numbers w a) (in_numbers w b) ≡ true → includes w (in_masks w (masks_in a)) (in_masks w (masks_in b)) ≡ true
  cube_inside all = includes_from w (in_masks w (masks_in a)) (in_masks w (masks_in b)) (λ x fits test.
      let is = in_masks_at w b.zeros b.ones (fact_cube w b right) x test in
      let best = fact_best w b right in
      in_masks_from w a.zeros a.ones (fact_cube w a left) x (record {
        fits = fits;
        zero = λ i known. elim (digit_cases b.zeros i) [
          | inr on ↦ is.zero i on
          | inl off ↦ elim (cases_lt i w) [
            | inl below ↦
                let has = best.some_one i below off in
                let none = (fact_best w a left).zero has.0 i (record { fits = has.1.fits; is = inside all has.0 has.1.is }) known in
                let some = has.2 in absurd (omega arith)
            | inr past ↦ absurd (let none = bit_at_above a.zeros w i ((fact_cube w a left).zeros_fit) past in omega arith)
          ]
        ];
        one = λ i known. elim (digit_cases b.ones i) [
          | inr on ↦ is.one i on
          | inl off ↦ elim (cases_lt i w) [
            | inl below ↦
                let has = best.some_zero i below off in
                let some = (fact_best w a left).one has.0 i (record { fits = has.1.fits; is = inside all has.0 has.1.is }) known in
                let none = has.2 in absurd (omega arith)
            | inr past ↦ absurd (let none = bit_at_above a.ones w i ((fact_cube w a left).ones_fit) past in omega arith)
          ]
        ];
      }))

  pub cube_outside : includes w (in_masks w (masks_in a)) (in_masks w (masks_in b)) ≡ false → includes w (in_numbers w a) (in_numbers w b) ≡ false
  cube_outside other = untrue _ (λ all. true≢false (sym (cube_inside all) ∙ other))

  module _ (cubes : includes w (in_masks w (masks_in a)) (in_masks w (masks_in b)) ≡ true) where
    in_left : (x : ℕ) → in_numbers w b x ≡ true → in_span w (span_in a) x ≡ true → in_numbers w a x ≡ true
    in_left x member arc = numbers_from w a x
        (includes_tells w (in_masks w (masks_in a)) (in_masks w (masks_in b)) cubes x (in_numbers_fits w b x member) ((numbers_parts w b x member).0)) arc

    pub full_includes : span_in a ≡ full_span w → includes w (in_numbers w a) (in_numbers w b) ≡ true
    full_includes full = includes_from w (in_numbers w a) (in_numbers w b) (λ x fits member.
        in_left x member (ap (λ (s : Span). in_span w s x) full ∙ in_full w x fits))

    -- T is the test of lying outside the arc
    module _ (T : ℕ → Bool) (outside_arc : (x : ℕ) → x < 2 ^ w → T x ≡ not (in_span w (span_in a) x)) where
      pub none_outside : sharp_in w (span_in b) (meet (in_masks w (masks_in b)) T) ≡ None → includes w (in_numbers w a) (in_numbers w b) ≡ true
      none_outside none = includes_from w (in_numbers w a) (in_numbers w b) (λ x fits member.
          let parts = numbers_parts w b x member in
          in_left x member (elim (cases_Bool (in_span w (span_in a) x)) [
            | inl here ↦ here
            | inr gone ↦
                let test : T x ≡ true = outside_arc x fits ∙ ap not gone in
                let set = meet_from (in_span w (span_in b)) (meet (in_masks w (masks_in b)) T) x parts.1 (meet_from (in_masks w (masks_in b)) T x parts.0 test) in
                absurd (true≢false (sym set ∙ sharp_none_tells w b.first (meet (in_span w (span_in b)) (meet (in_masks w (masks_in b)) T)) right.arc.first_fits none x fits))
          ]))

      pub some_outside : (n : Numbers) → sharp_in w (span_in b) (meet (in_masks w (masks_in b)) T) ≡ Some n → includes w (in_numbers w a) (in_numbers w b) ≡ false
      some_outside n some =
          let is = sharp_tells w b.first (meet (in_span w (span_in b)) (meet (in_masks w (masks_in b)) T)) n right.arc.first_fits some in
          let one = meet_parts (in_span w (span_in b)) (meet (in_masks w (masks_in b)) T) n.first is.first.member in
          let two = meet_parts (in_masks w (masks_in b)) T n.first one.1 in
          includes_fails w (in_numbers w a) (in_numbers w b) n.first is.first.fits (numbers_from w b n.first two.0 one.0)
          (untrue _ (λ member.
          let here = (numbers_parts w a n.first member).1 in
          true≢false (sym two.1 ∙ outside_arc n.first is.first.fits ∙ ap not here)))
