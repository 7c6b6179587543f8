use Rattle.std.proofs.Common.{◌≡◌, sym, ◌∙◌, ap, ℕ, ◌+◌, ◌-◌, ◌%◌, ◌^◌, ◌<◌, ◌≤◌, true, false, inl, inr, arith, Some, None}
use Rattle.std.specs.Prelude.{nat_le}
use Rattle.std.proofs.lemmas.Bool.{cases_lt, cases_order, leb-true, le-leb}
use Rattle.vfa_dom.specs.Sets.{includes, single_of}
use Rattle.vfa_dom.proofs.SetSearches.{single_of_is, single_of_several, includes_tells}
use Rattle.vfa_wrap.specs.Arc.{Span, steps, in_span, arc_from, IsArc, hull_of, reach_of}
use Rattle.vfa_wrap.proofs.Truth.{untrue, same_answers}
use Rattle.vfa_wrap.proofs.Circle.{steps_is, in_from, in_to, in_full, steps_back, arc_from_part, arc_ahead_full, arc_ahead_part}
use Rattle.vfa_wrap.proofs.SmallestArc.{Covers, holds_to, holds_from, reach_covers, hull_left, hull_right, hull_tie}

pub first_in : (w : ℕ) (s : Span) → IsArc w s → in_span w s s.first ≡ true
first_in w s hs =
    let here = steps_is w s.first s.first hs.first_fits hs.first_fits in
    let none : steps w s.first s.first ≡ 0 = grind (arith, here) in
    in_to w s s.first hs.first_fits (omega (arith, none))

pub last_in : (w : ℕ) (s : Span) → IsArc w s → in_span w s s.last ≡ true
last_in w s hs = in_to w s s.last hs.last_fits (omega arith)

-- ---- inclusion

pub span_at : (w : ℕ) (s : Span) → IsArc w s → record { first = s.first; last = (s.first + steps w s.first s.last) % 2 ^ w } ≡ s
span_at w s hs = ap (λ (n : ℕ). record { first = s.first; last = n }) (steps_back w s.first s.last hs.first_fits hs.last_fits)

pub included : (w : ℕ) (s t : Span) → IsArc w s → IsArc w t → Covers w s.first (steps w s.first s.last) t → includes w (in_span w s) (in_span w t) ≡ true
included w s t hs ht covers =
    let size = steps_is w s.first s.last hs.first_fits hs.last_fits in
    let held = holds_to w s.first (steps w s.first s.last) t hs.first_fits size.0 ht covers in
    ap (λ (a : Span). includes w (in_span w a) (in_span w t)) (sym (span_at w s hs)) ∙ held

pub not_included : (w : ℕ) (s t : Span) → IsArc w s → IsArc w t → (Covers w s.first (steps w s.first s.last) t → ⊥) → includes w (in_span w s) (in_span w t) ≡ false
not_included w s t hs ht fails = untrue _ (λ h.
    let size = steps_is w s.first s.last hs.first_fits hs.last_fits in
    let held = ap (λ (a : Span). includes w (in_span w a) (in_span w t)) (span_at w s hs) ∙ h in
    fails (holds_from w s.first (steps w s.first s.last) t hs.first_fits size.0 ht held))

pub included_test : (w own gap more : ℕ) (s t : Span) → IsArc w s → IsArc w t → own ≡ steps w s.first s.last → gap ≡ steps w s.first t.first → more ≡ steps w t.first t.last →
    (own + 1 ≡ 2 ^ w → ⊥) → gap ≤ own → nat_le more (own - gap) ≡ includes w (in_span w s) (in_span w t)
included_test w own gap more s t hs ht eo eg em free near = same_answers _ _
    (λ h. let fits = leb-true _ _ h in included w s t hs ht (inr (omega (arith, eo, eg, em, fits))))
    (λ h. elim (cases_lt (own - gap) more) [
      | inl past ↦
          let fails : includes w (in_span w s) (in_span w t) ≡ false = not_included w s t hs ht (λ c. grind (arith, c, eo, eg, em, past, near, free)) in
          absurd (cc)
      | inr fits ↦ le-leb _ _ fits
    ])

-- ---- the hull holds both

pub covered_in : (w p k : ℕ) (s : Span) (x : ℕ) → p < 2 ^ w → k < 2 ^ w → IsArc w s → Covers w p k s → in_span w s x ≡ true → in_span w (arc_from w p (p + k)) x ≡ true
covered_in w p k s x hp hk hs covers h =
    let member = in_from w s x h in
    elim (cases_lt (k + 1) (2 ^ w)) [
      | inl free ↦
          let held = holds_to w p k s hp hk hs covers in
          rw (arc_ahead_part w p k hp free) (includes_tells w _ _ held x member.0 h)
      | inr top ↦ rw (arc_ahead_full w p k hp (omega arith)) (in_full w x member.0)
    ]

pub record IsReached (w : ℕ) (s t : Span) : Type 0 where
  pub start : ℕ
  pub count : ℕ
  pub start_fits : start < 2 ^ w
  pub count_fits : count < 2 ^ w
  pub left : Covers w start count s
  pub right : Covers w start count t
  pub is : hull_of w (in_span w s) (in_span w t) ≡ arc_from w start (start + count)

pub hull_reached : (w : ℕ) (s t : Span) → IsArc w s → IsArc w t → IsReached w s t
hull_reached w s t hs ht =
    let here = reach_covers w s t hs ht in
    let there = reach_covers w t s ht hs in
    elim (cases_order (reach_of w s t) (reach_of w t s)) [
      | inl same ↦ elim (cases_lt s.first t.first) [
        | inl l ↦ record {
          start = s.first;
          count = reach_of w s t;
          start_fits = hs.first_fits;
          count_fits = here.0;
          left = here.1;
          right = here.2;
          is = hull_tie w s.first s t hs ht same (omega arith);
        }
        | inr g ↦ record {
          start = t.first;
          count = reach_of w s t;
          start_fits = ht.first_fits;
          count_fits = here.0;
          left = rw same there.2;
          right = rw same there.1;
          is = hull_tie w t.first s t hs ht same (omega arith);
        }
      ]
      | inr other ↦ elim other [
        | inl less ↦ record {
          start = s.first;
          count = reach_of w s t;
          start_fits = hs.first_fits;
          count_fits = here.0;
          left = here.1;
          right = here.2;
          is = hull_left w s t hs ht less;
        }
        | inr more ↦ record {
          start = t.first;
          count = reach_of w t s;
          start_fits = ht.first_fits;
          count_fits = there.0;
          left = there.2;
          right = there.1;
          is = hull_right w s t hs ht more;
        }
      ]
    ]

pub hull_holds_left : (w : ℕ) (s t : Span) (x : ℕ) → IsArc w s → IsArc w t → in_span w s x ≡ true → in_span w (hull_of w (in_span w s) (in_span w t)) x ≡ true
hull_holds_left w s t x hs ht h =
    let at = hull_reached w s t hs ht in
    rw at.is (covered_in w at.start at.count s x at.start_fits at.count_fits hs at.left h)

pub hull_holds_right : (w : ℕ) (s t : Span) (x : ℕ) → IsArc w s → IsArc w t → in_span w t x ≡ true → in_span w (hull_of w (in_span w s) (in_span w t)) x ≡ true
hull_holds_right w s t x hs ht h =
    let at = hull_reached w s t hs ht in
    rw at.is (covered_in w at.start at.count t x at.start_fits at.count_fits ht at.right h)

-- ---- arcs of one number

pub only_first : (w : ℕ) (s : Span) (y : ℕ) → IsArc w s → s.first ≡ s.last → in_span w s y ≡ true → y ≡ s.first
only_first w s y hs e h =
    let member = in_from w s y h in
    let here = steps_is w s.first s.last hs.first_fits hs.last_fits in
    let there = steps_is w s.first y hs.first_fits member.0 in
    grind (arith, member, here, there)

pub single_first : (w : ℕ) (s : Span) → IsArc w s → s.first ≡ s.last → single_of w (in_span w s) ≡ Some s.first
single_first w s hs e = single_of_is w (in_span w s) s.first hs.first_fits (first_in w s hs) (λ y below h. only_first w s y hs e h)

pub single_none : (w : ℕ) (s : Span) → IsArc w s → (s.first ≡ s.last → ⊥) → single_of w (in_span w s) ≡ None
single_none w s hs other = elim (cases_order s.first s.last) [
  | inl same ↦ absurd (other same)
  | inr apart ↦ elim apart [
    | inl less ↦ single_of_several w (in_span w s) s.first s.last hs.first_fits (first_in w s hs) hs.last_fits (last_in w s hs) less
    | inr more ↦ single_of_several w (in_span w s) s.last s.first hs.last_fits (last_in w s hs) hs.first_fits (first_in w s hs) more
  ]
]

pub single_arc : (w x : ℕ) → 1 < 2 ^ w → x < 2 ^ w → (arc_from w x x ≡ record { first = x; last = x }) × IsArc w (record { first = x; last = x })
single_arc w x two hx =
    let here = steps_is w x x hx hx in
    let none : steps w x x ≡ 0 = grind (arith, here) in
    (arc_from_part w x x hx hx (omega (arith, none)), record { first_fits = hx; last_fits = hx; normal = λ e. omega (arith, none) })
