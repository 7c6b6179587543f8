use Rattle.std.proofs.Common.{◌≡◌, refl, sym, ◌∙◌, ℕ, ◌+◌, ◌-◌, ◌%◌, ◌^◌, ◌<◌, ◌≤◌, true, ◌⊎◌, inl, inr, arith, max, min, cond}
use Rattle.std.specs.Prelude.{nat_lt}
use Rattle.std.proofs.lemmas.Bool.{and_parts, cases_lt}
use Rattle.std.proofs.lemmas.Bool.Decides.{nat_tests}
use Rattle.vfa_dom.specs.Search.{some_below, least_below}
use Rattle.vfa_dom.specs.Sets.{includes}
use Rattle.vfa_wrap.specs.Arc.{Span, steps, in_span, arc_from, IsArc, holds_both, hull_of, hull_size, hull_first, reach_of}
use Rattle.vfa_dom.proofs.Searches.{some_found, none_found, least_is}
use Rattle.vfa_dom.proofs.SetSearches.{includes_from, includes_tells}
use Rattle.vfa_wrap.proofs.Truth.{untrue}
use Rattle.vfa_wrap.proofs.Circle.{steps_is, ahead, in_from, in_to, arc_ahead_full}

-- the arc of k + 1 numbers from p on holds the arc s where it is full or has room for it
abbrev pub Covers : ℕ → ℕ → ℕ → Span → Type 0
Covers w p k s = (k + 1 ≡ 2 ^ w) ⊎ (steps w p s.first + steps w s.first s.last ≤ k)

within : (m k a size b c : ℕ) → k < m → a < m → size < m → b < m → c < m → b ≤ size → ((c ≡ a + b) ⊎ (c + m ≡ a + b)) → ((k + 1 ≡ m) ⊎ (a + size ≤ k)) → c ≤ k
within m k a size b c hk ha hs hb hc l e h = grind arith

-- steps to x by way of q
pub steps_by : (w p q x : ℕ) → p < 2 ^ w → q < 2 ^ w → x < 2 ^ w → (steps w p x ≡ steps w p q + steps w q x) ⊎ (steps w p x + 2 ^ w ≡ steps w p q + steps w q x)
steps_by w p q x hp hq hx =
    let a = steps_is w p q hp hq in
    let b = steps_is w q x hq hx in
    let c = steps_is w p x hp hx in
    grind (arith, a, b, c)

pub holds_to : (w p k : ℕ) (s : Span) → p < 2 ^ w → k < 2 ^ w → IsArc w s → Covers w p k s →
    includes w (in_span w (record { first = p; last = (p + k) % 2 ^ w })) (in_span w s) ≡ true
holds_to w p k s hp hk hs cover = includes_from w (in_span w (record { first = p; last = (p + k) % 2 ^ w })) (in_span w s) (λ x hx e.
    let member = in_from w s x e in
    let last = ahead w p k hp hk in
    let size = steps_is w s.first s.last hs.first_fits hs.last_fits in
    let one = steps_is w p s.first hp hs.first_fits in
    let two = steps_is w s.first x hs.first_fits hx in
    let three = steps_is w p x hp hx in
    let low : steps w p x ≤ k = within (2 ^ w) k (steps w p s.first) (steps w s.first s.last) (steps w s.first x) (steps w p x) hk one.0 size.0 two.0 three.0 member.1 (steps_by w p s.first x hp hs.first_fits hx) cover in
    in_to w (record { first = p; last = (p + k) % 2 ^ w }) x hx (rw (last.1) low))

-- a number of s that lies just behind the arc
gap : (w p k : ℕ) (s : Span) → p < 2 ^ w → k + 1 < 2 ^ w → IsArc w s → k < steps w p s.first + steps w s.first s.last →
    (x : ℕ) × (x < 2 ^ w) × (in_span w s x ≡ true) × (k < steps w p x)
gap w p k s hp hk hs room = elim (cases_lt k (steps w p s.first)) [
  | inl far ↦ (
    s.first,
    hs.first_fits,
    in_to w s s.first hs.first_fits (
        let here = steps_is w s.first s.first hs.first_fits hs.first_fits in
        let size = steps_is w s.first s.last hs.first_fits hs.last_fits in grind (arith, here, size)),
    far,
  )
  | inr near ↦
      let next = ahead w p (k + 1) hp hk in
      let x = (p + (k + 1)) % 2 ^ w in
      let size = steps_is w s.first s.last hs.first_fits hs.last_fits in
      let one = steps_is w p s.first hp hs.first_fits in
      let two = steps_is w s.first x hs.first_fits next.0 in
      let by = steps_by w p s.first x hp hs.first_fits next.0 in
      let here : steps w s.first x ≤ steps w s.first s.last = grind (arith, next.1, size, one, two, by) in
      (x, next.0, in_to w s x next.0 here, omega (arith, next.1))
]

pub holds_from : (w p k : ℕ) (s : Span) → p < 2 ^ w → k < 2 ^ w → IsArc w s →
    includes w (in_span w (record { first = p; last = (p + k) % 2 ^ w })) (in_span w s) ≡ true → Covers w p k s
holds_from w p k s hp hk hs all = elim (cases_lt (k + 1) (2 ^ w)) [
  | inr top ↦ inl (omega arith)
  | inl free ↦ elim (cases_lt k (steps w p s.first + steps w s.first s.last)) [
    | inr fits ↦ inr fits
    | inl past ↦
        let x = gap w p k s hp free hs past in
        let last = ahead w p k hp hk in
        let in_arc : in_span w (record { first = p; last = (p + k) % 2 ^ w }) x.0 ≡ true = includes_tells w _ _ all x.0 x.1 x.2 in
        let near = in_from w (record { first = p; last = (p + k) % 2 ^ w }) x.0 in_arc in
        absurd (omega (arith, near.1, x.3, last.1))
  ]
]

-- both arcs are held exactly where both are covered
pub both_to : (w p k : ℕ) (s t : Span) → p < 2 ^ w → k < 2 ^ w → IsArc w s → IsArc w t → Covers w p k s → Covers w p k t →
    holds_both w (in_span w s) (in_span w t) k p ≡ true
both_to w p k s t hp hk hs ht cs ct = rw (holds_to w p k s hp hk hs cs, holds_to w p k t hp hk ht ct) refl

pub both_from : (w p k : ℕ) (s t : Span) → p < 2 ^ w → k < 2 ^ w → IsArc w s → IsArc w t →
    holds_both w (in_span w s) (in_span w t) k p ≡ true → Covers w p k s × Covers w p k t
both_from w p k s t hp hk hs ht h =
    let two = and_parts _ _ h in (holds_from w p k s hp hk hs two.0, holds_from w p k t hp hk ht two.1)

-- the reach of an arc in steps: all of them where t comes round to the first number of s
unfoldable pub reach_steps : ℕ → Span → Span → ℕ
reach_steps w s t = cond (nat_lt (steps w s.first t.first + steps w t.first t.last) (2 ^ w)) (max (steps w s.first s.last) (steps w s.first t.first + steps w t.first t.last)) (2 ^ w - 1)

steps_cover : (w : ℕ) (s t : Span) → IsArc w s → IsArc w t →
    (reach_steps w s t < 2 ^ w) × Covers w s.first (reach_steps w s t) s × Covers w s.first (reach_steps w s t) t
unfolding reach_steps
steps_cover w s t hs ht =
    let size = steps_is w s.first s.last hs.first_fits hs.last_fits in
    let a = steps_is w s.first s.first hs.first_fits hs.first_fits in
    let c = steps_is w s.first t.first hs.first_fits ht.first_fits in
    (grind (arith, nat_tests, size, a, c), grind (arith, nat_tests, size, a, c), grind (arith, nat_tests, size, a, c))

steps_least : (w k : ℕ) (s t : Span) → k < 2 ^ w → IsArc w s → IsArc w t → Covers w s.first k s → Covers w s.first k t → reach_steps w s t ≤ k
unfolding reach_steps
steps_least w k s t hk hs ht cs ct =
    let size = steps_is w s.first s.last hs.first_fits hs.last_fits in
    let a = steps_is w s.first s.first hs.first_fits hs.first_fits in
    let c = steps_is w s.first t.first hs.first_fits ht.first_fits in
    grind (arith, nat_tests, size, a, c)

pub reach_is : (w : ℕ) (s t : Span) → IsArc w s → IsArc w t → reach_of w s t ≡ reach_steps w s t
unfolding reach_of
reach_is w s t hs ht =
    let far = steps_cover w s t hs ht in
    least_is (2 ^ w) (λ k. holds_both w (in_span w s) (in_span w t) k s.first) (reach_steps w s t) (record {
      below = far.0;
      passes = both_to w s.first (reach_steps w s t) s t hs.first_fits far.0 hs ht far.1 far.2;
      first = λ j less. untrue _ (λ h.
          let fits : j < 2 ^ w = omega (arith, far.0) in
          let two = both_from w s.first j s t hs.first_fits fits hs ht h in
          let low = steps_least w j s t fits hs ht two.0 two.1 in
          omega arith);
    })

-- an arc that is not full and holds both begins at the first number of s or before it, or at that of t or before it
least_steps : (w p k : ℕ) (s t : Span) → p < 2 ^ w → k + 1 < 2 ^ w → IsArc w s → IsArc w t → Covers w p k s → Covers w p k t →
    ((reach_steps w s t ≤ k) × (reach_steps w s t ≡ k → s.first ≡ p)) ⊎ ((reach_steps w t s ≤ k) × (reach_steps w t s ≡ k → t.first ≡ p))
unfolding reach_steps
least_steps w p k s t hp hk hs ht cs ct =
    let a = steps_is w p s.first hp hs.first_fits in
    let b = steps_is w p t.first hp ht.first_fits in
    let c = steps_is w s.first t.first hs.first_fits ht.first_fits in
    let d = steps_is w t.first s.first ht.first_fits hs.first_fits in
    grind (arith, nat_tests, a, b, c, d)

pub least_reach : (w p k : ℕ) (s t : Span) → p < 2 ^ w → k + 1 < 2 ^ w → IsArc w s → IsArc w t → Covers w p k s → Covers w p k t →
    ((reach_of w s t ≤ k) × (reach_of w s t ≡ k → s.first ≡ p)) ⊎ ((reach_of w t s ≤ k) × (reach_of w t s ≡ k → t.first ≡ p))
least_reach w p k s t hp hk hs ht cs ct = rw (reach_is w s t hs ht, reach_is w t s ht hs) (least_steps w p k s t hp hk hs ht cs ct)

pub reach_covers : (w : ℕ) (s t : Span) → IsArc w s → IsArc w t →
    (reach_of w s t < 2 ^ w) × Covers w s.first (reach_of w s t) s × Covers w s.first (reach_of w s t) t
reach_covers w s t hs ht = rw (reach_is w s t hs ht) (steps_cover w s t hs ht)

-- no arc that holds both has fewer numbers, and none with equally many has a lesser first number
pub record IsFewest (w p k : ℕ) (s t : Span) : Type 0 where
  pub fewest : (q j : ℕ) → q < 2 ^ w → j < 2 ^ w → Covers w q j s → Covers w q j t → k ≤ j
  pub lesser : (q : ℕ) → q < 2 ^ w → Covers w q k s → Covers w q k t → p ≤ q

pub hull_at : (w p k : ℕ) (s t : Span) → p < 2 ^ w → k < 2 ^ w → IsArc w s → IsArc w t → Covers w p k s → Covers w p k t → IsFewest w p k s t →
    hull_of w (in_span w s) (in_span w t) ≡ arc_from w p (p + k)
unfolding hull_of hull_size hull_first
hull_at w p k s t hp hk hs ht cs ct least =
    let held : holds_both w (in_span w s) (in_span w t) k p ≡ true = both_to w p k s t hp hk hs ht cs ct in
    let size : least_below (2 ^ w) (λ j. some_below (2 ^ w) (holds_both w (in_span w s) (in_span w t) j)) ≡ k =
    least_is (2 ^ w) _ k (record {
      below = hk;
      passes = some_found (2 ^ w) _ p hp held;
      first = λ j l. none_found (2 ^ w) _ (λ q hq. untrue _ (λ h.
          let two = both_from w q j s t hq (omega arith) hs ht h in
          let low : k ≤ j = least.fewest q j hq (omega arith) two.0 two.1 in omega arith));
    }) in
    let first : least_below (2 ^ w) (holds_both w (in_span w s) (in_span w t) k) ≡ p =
    least_is (2 ^ w) _ p (record {
      below = hp;
      passes = held;
      first = λ q l. untrue _ (λ h.
          let two = both_from w q k s t (omega arith) hk hs ht h in
          let low : p ≤ q = least.lesser q (omega arith) two.0 two.1 in omega arith);
    }) in
    rw (size, first) refl

pub hull_left : (w : ℕ) (s t : Span) → IsArc w s → IsArc w t → reach_of w s t < reach_of w t s →
    hull_of w (in_span w s) (in_span w t) ≡ arc_from w s.first (s.first + reach_of w s t)
hull_left w s t hs ht less =
    let here = reach_covers w s t hs ht in
    let there = reach_covers w t s ht hs in
    hull_at w s.first (reach_of w s t) s t hs.first_fits here.0 hs ht here.1 here.2 (record {
      fewest = λ q j hq hj cs ct. elim (cases_lt (j + 1) (2 ^ w)) [
        | inr top ↦ omega (arith, here.0)
        | inl free ↦ let r = least_reach w q j s t hq free hs ht cs ct in grind (arith, r)
      ];
      lesser = λ q hq cs ct. let r = least_reach w q (reach_of w s t) s t hq (omega (arith, there.0)) hs ht cs ct in grind (arith, r);
    })

pub hull_right : (w : ℕ) (s t : Span) → IsArc w s → IsArc w t → reach_of w t s < reach_of w s t →
    hull_of w (in_span w s) (in_span w t) ≡ arc_from w t.first (t.first + reach_of w t s)
hull_right w s t hs ht less =
    let here = reach_covers w s t hs ht in
    let there = reach_covers w t s ht hs in
    hull_at w t.first (reach_of w t s) s t ht.first_fits there.0 hs ht there.2 there.1 (record {
      fewest = λ q j hq hj cs ct. elim (cases_lt (j + 1) (2 ^ w)) [
        | inr top ↦ omega (arith, there.0)
        | inl free ↦ let r = least_reach w q j s t hq free hs ht cs ct in grind (arith, r)
      ];
      lesser = λ q hq cs ct. let r = least_reach w q (reach_of w t s) s t hq (omega (arith, here.0)) hs ht cs ct in grind (arith, r);
    })

-- where both reach equally far, the arc begins at the lesser first number, or is full
pub hull_tie : (w p : ℕ) (s t : Span) → IsArc w s → IsArc w t → reach_of w s t ≡ reach_of w t s → p ≡ min s.first t.first →
    hull_of w (in_span w s) (in_span w t) ≡ arc_from w p (p + reach_of w s t)
hull_tie w p s t hs ht same lesser =
    let here = reach_covers w s t hs ht in
    let there = reach_covers w t s ht hs in
    elim (cases_lt (reach_of w s t + 1) (2 ^ w)) [
      | inl free ↦
          let start : p < 2 ^ w = omega (arith, hs.first_fits) in
          let held : Covers w p (reach_of w s t) s × Covers w p (reach_of w s t) t = elim (cases_lt s.first t.first) [
            | inl l ↦ let e : s.first ≡ p = omega arith in rw (← e) (here.1, here.2)
            | inr g ↦ let e : t.first ≡ p = omega arith in rw (← e, same) (there.2, there.1)
          ] in
          hull_at w p (reach_of w s t) s t start here.0 hs ht held.0 held.1 (record {
            fewest = λ q j hq hj cs ct. elim (cases_lt (j + 1) (2 ^ w)) [
              | inr top ↦ omega (arith, here.0)
              | inl free ↦ let r = least_reach w q j s t hq free hs ht cs ct in grind (arith, r)
            ];
            lesser = λ q hq cs ct. let r = least_reach w q (reach_of w s t) s t hq free hs ht cs ct in grind (arith, r);
          })
      | inr full ↦
          let top : reach_of w s t + 1 ≡ 2 ^ w = omega (arith, here.0) in
          let all = hull_at w 0 (reach_of w s t) s t (omega arith) here.0 hs ht (inl top) (inl top) (record {
            fewest = λ q j hq hj cs ct. elim (cases_lt (j + 1) (2 ^ w)) [
              | inr top ↦ omega (arith, here.0)
              | inl free ↦ let r = least_reach w q j s t hq free hs ht cs ct in grind (arith, r)
            ];
            lesser = λ q hq cs ct. omega arith;
          }) in
          all ∙ arc_ahead_full w 0 (reach_of w s t) (omega arith) top ∙ sym (arc_ahead_full w p (reach_of w s t) (omega (arith, hs.first_fits)) top)
    ]

-- the three, as the code meets them
pub left_is : (w k j : ℕ) (s t : Span) → IsArc w s → IsArc w t → k ≡ reach_of w s t → j ≡ reach_of w t s → k < j →
    arc_from w s.first (s.first + k) ≡ hull_of w (in_span w s) (in_span w t)
left_is w k j s t hs ht ek ej l = rw ek (sym (hull_left w s t hs ht (omega (arith, ek, ej))))

pub right_is : (w k j : ℕ) (s t : Span) → IsArc w s → IsArc w t → k ≡ reach_of w s t → j ≡ reach_of w t s → j < k →
    arc_from w t.first (t.first + j) ≡ hull_of w (in_span w s) (in_span w t)
right_is w k j s t hs ht ek ej l = rw ej (sym (hull_right w s t hs ht (omega (arith, ek, ej))))

pub tie_is : (w k j p : ℕ) (s t : Span) → IsArc w s → IsArc w t → k ≡ reach_of w s t → j ≡ reach_of w t s → (k < j → ⊥) → (j < k → ⊥) → p ≡ min s.first t.first →
    arc_from w p (p + k) ≡ hull_of w (in_span w s) (in_span w t)
tie_is w k j p s t hs ht ek ej a b ep = rw ek (sym (hull_tie w p s t hs ht (omega (arith, ek, ej)) ep))
