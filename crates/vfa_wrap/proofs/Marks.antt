use Rattle.std.proofs.Common.{◌≡◌, refl, sym, ◌∙◌, ap, ℕ, ◌+◌, ◌-◌, ◌%◌, ◌^◌, ◌<◌, ◌≤◌, true, false, ◌⊎◌, inl, inr, arith, List, length, get_or}
use Rattle.std.specs.Prelude.{nat_eq, nat_le}
use Rattle.std.specs.List.{All}
use Rattle.std.specs.List.Sorted.{IsNonDecreasing}
use Rattle.std.proofs.lemmas.Bool.{cases_lt, eq-eqb, eqb-true, le-leb, lt-leb}
use Rattle.std.proofs.lemmas.Nat.{mod_below}
use Rattle.std.proofs.lemmas.Grind.{get_or_default_zero}
use Rattle.std.proofs.lemmas.List.Folds.{Any-from_list_any, list_any_at}
use Rattle.vfa_dom.proofs.Searches.{least_is}
use Rattle.vfa_wrap.specs.Arc.{Span, steps, in_span, IsArc, full_span, arc_from}
use Rattle.vfa_wrap.specs.Rounding.{is_mark, steps_to_mark, steps_down_to_mark, rounded_out, fall_of, rise_of}
use Rattle.vfa_wrap.proofs.Truth.{untrue}
use Rattle.vfa_wrap.proofs.Circle.{steps_is, ahead, steps_back, wrapped_sum, arc_from-same, in_from, in_ahead}
use Rattle.vfa_wrap.proofs.SumArcs.{shifted}
use Rattle.std.proofs.Math.Nat.{add-mod_right, mod-add-mod}

-- ---- marks by their places

pub mark_at : (marks : List ℕ) (k : ℕ) → k < length marks → is_mark marks (get_or marks k 0) ≡ true
unfolding is_mark
mark_at marks k h = list_any_at (λ m. nat_eq m (get_or marks k 0)) marks k 0 h (eq-eqb _ _ refl)

pub mark_place : (marks : List ℕ) (x : ℕ) → is_mark marks x ≡ true → (k : ℕ) × (k < length marks) × (get_or marks k 0 ≡ x)
unfolding is_mark
mark_place marks x h =
    let found = Any-from_list_any (λ m. nat_eq m x) marks h in
    (found.0, found.2, sym (get_or_default_zero marks found.0 found.1 found.2) ∙ found.3 ∙ eqb-true _ _ found.4)

-- ---- the nearest mark

pub nearest_up : (w : ℕ) (marks : List ℕ) (x y : ℕ) → x < 2 ^ w → y < 2 ^ w → is_mark marks y ≡ true →
    ((z : ℕ) → z < 2 ^ w → is_mark marks z ≡ true → steps w x y ≤ steps w x z) → steps w x y ≡ steps_to_mark w marks x
unfolding steps_to_mark
nearest_up w marks x y hx hy mark nearest =
    let to = steps_is w x y hx hy in
    sym (least_is (2 ^ w) _ (steps w x y) (record {
      below = to.0;
      passes = ap (is_mark marks) (steps_back w x y hx hy) ∙ mark;
      first = λ k less. untrue _ (λ h.
          let here = ahead w x k hx (omega (arith, to.0)) in
          let far : steps w x y ≤ steps w x ((x + k) % 2 ^ w) = nearest _ here.0 h in
          omega (arith, far, here.1));
    }))

-- the number k steps down from x
behind : (w x k : ℕ) → x < 2 ^ w → k < 2 ^ w → ((x + (2 ^ w - k)) % 2 ^ w < 2 ^ w) × (steps w ((x + (2 ^ w - k)) % 2 ^ w) x ≡ k)
behind w x k hx hk =
    let cut : (x + (2 ^ w - k)) % 2 ^ w < 2 ^ w = mod_below (x + (2 ^ w - k)) (2 ^ w) (omega arith) in
    let two = down_cases (2 ^ w) x k hx hk in
    let to = steps_is w ((x + (2 ^ w - k)) % 2 ^ w) x cut hx in
    (cut, grind (arith, two, to)) where
      down_cases : (m x k : ℕ) → x < m → k < m → ((k ≤ x) × ((x + (m - k)) % m + k ≡ x)) ⊎ ((x < k) × ((x + (m - k)) % m + k ≡ x + m))
      down_cases m x k hx hk = elim (cases_lt x k) [
        | inr low ↦
            let two = wrapped_sum m (x + (m - k) - 0) (omega arith) in inl (low, grind (arith, two))
        | inl high ↦ let two = wrapped_sum m (x + (m - k)) (omega arith) in inr (high, grind (arith, two))
      ]

pub behind_back : (w x y : ℕ) → x < 2 ^ w → y < 2 ^ w → (x + (2 ^ w - steps w y x)) % 2 ^ w ≡ y
behind_back w x y hx hy =
    let to = steps_is w y x hy hx in
    let here = behind w x (steps w y x) hx to.0 in
    let from = steps_is w ((x + (2 ^ w - steps w y x)) % 2 ^ w) x here.0 hx in
    grind (arith, to, here, from)

pub nearest_down : (w : ℕ) (marks : List ℕ) (x y : ℕ) → x < 2 ^ w → y < 2 ^ w → is_mark marks y ≡ true →
    ((z : ℕ) → z < 2 ^ w → is_mark marks z ≡ true → steps w y x ≤ steps w z x) → steps w y x ≡ steps_down_to_mark w marks x
unfolding steps_down_to_mark
nearest_down w marks x y hx hy mark nearest =
    let to = steps_is w y x hy hx in
    sym (least_is (2 ^ w) _ (steps w y x) (record {
      below = to.0;
      passes = ap (is_mark marks) (behind_back w x y hx hy) ∙ mark;
      first = λ k less. untrue _ (λ h.
          let here = behind w x k hx (omega (arith, to.0)) in
          let far : steps w y x ≤ steps w ((x + (2 ^ w - k)) % 2 ^ w) x = nearest _ here.0 h in
          omega (arith, far, here.1));
    }))

-- ---- the marks that the searches by halves find

pub rise_within : (w place : ℕ) (marks : List ℕ) (x : ℕ) → IsNonDecreasing marks → All (λ m. m < 2 ^ w) marks → x < 2 ^ w → place < length marks →
    ((k : ℕ) → k < place → get_or marks k 0 < x) → ((k : ℕ) → place ≤ k → k < length marks → x ≤ get_or marks k 0) →
    steps w x (get_or marks place 0) ≡ steps_to_mark w marks x
rise_within w place marks x sorted fit hx inside low high =
    nearest_up w marks x (get_or marks place 0) hx (fit place 0 inside) (mark_at marks place inside) (λ z hz h.
    let at = mark_place marks z h in
    let here = steps_is w x (get_or marks place 0) hx (fit place 0 inside) in
    let there = steps_is w x z hx hz in
    let this = high place (omega arith) inside in
    elim (cases_lt at.0 place) [
      | inl before ↦ let less = low at.0 before in grind (arith, here, there, this, less, at.2, fit place 0 inside)
      | inr behind_it ↦ let more = sorted place at.0 0 behind_it at.1 in grind (arith, here, there, this, more, at.2)
    ])

pub rise_round : (w : ℕ) (marks : List ℕ) (x : ℕ) → IsNonDecreasing marks → All (λ m. m < 2 ^ w) marks → x < 2 ^ w → 0 < length marks →
    ((k : ℕ) → k < length marks → get_or marks k 0 < x) →
    steps w x (get_or marks 0 0) ≡ steps_to_mark w marks x
rise_round w marks x sorted fit hx some low =
    nearest_up w marks x (get_or marks 0 0) hx (fit 0 0 some) (mark_at marks 0 some) (λ z hz h.
    let at = mark_place marks z h in
    let here = steps_is w x (get_or marks 0 0) hx (fit 0 0 some) in
    let there = steps_is w x z hx hz in
    let less = low 0 some in
    let less_z = low at.0 at.1 in
    let more = sorted 0 at.0 0 (omega arith) at.1 in
    grind (arith, here, there, less, less_z, more, at.2))

pub fall_within : (w place : ℕ) (marks : List ℕ) (x : ℕ) → IsNonDecreasing marks → All (λ m. m < 2 ^ w) marks → x < 2 ^ w → place < length marks →
    ((k : ℕ) → k ≤ place → get_or marks k 0 ≤ x) → ((k : ℕ) → place < k → k < length marks → x < get_or marks k 0) →
    steps w (get_or marks place 0) x ≡ steps_down_to_mark w marks x
fall_within w place marks x sorted fit hx inside low high =
    nearest_down w marks x (get_or marks place 0) hx (fit place 0 inside) (mark_at marks place inside) (λ z hz h.
    let at = mark_place marks z h in
    let here = steps_is w (get_or marks place 0) x (fit place 0 inside) hx in
    let there = steps_is w z x hz hx in
    let this = low place (omega arith) in
    elim (cases_lt place at.0) [
      | inl behind_it ↦ let more = high at.0 behind_it at.1 in grind (arith, here, there, this, more, at.2, fit place 0 inside)
      | inr before ↦ let less = sorted at.0 place 0 before inside in grind (arith, here, there, this, less, at.2)
    ])

pub fall_round : (w last : ℕ) (marks : List ℕ) (x : ℕ) → IsNonDecreasing marks → All (λ m. m < 2 ^ w) marks → x < 2 ^ w → last + 1 ≡ length marks →
    ((k : ℕ) → k < length marks → x < get_or marks k 0) →
    steps w (get_or marks last 0) x ≡ steps_down_to_mark w marks x
fall_round w last marks x sorted fit hx some high =
    let inside : last < length marks = omega arith in
    nearest_down w marks x (get_or marks last 0) hx (fit last 0 inside) (mark_at marks last inside) (λ z hz h.
    let at = mark_place marks z h in
    let here = steps_is w (get_or marks last 0) x (fit last 0 inside) hx in
    let there = steps_is w z x hz hx in
    let more = high last inside in
    let more_z = high at.0 at.1 in
    let less = sorted at.0 last 0 (omega (arith, at.1)) inside in
    grind (arith, here, there, more, more_z, less, at.2))

-- ---- the arc rounded out

pub rounded_full : (w fall rise : ℕ) (s t : Span) (marks : List ℕ) → fall ≡ fall_of w s t marks → rise ≡ rise_of w s t marks →
    2 ^ w ≤ steps w s.first s.last + 1 + fall + rise → full_span w ≡ rounded_out w s t marks
unfolding rounded_out
rounded_full w fall rise s t marks ef er h =
    let full : nat_le (2 ^ w) (steps w s.first s.last + 1 + fall_of w s t marks + rise_of w s t marks) ≡ true = le-leb _ _ (omega (arith, ef, er)) in
    rw full refl

rounded_arc : (w fall rise : ℕ) (s t : Span) (marks : List ℕ) → fall ≡ fall_of w s t marks → rise ≡ rise_of w s t marks →
    steps w s.first s.last + 1 + fall + rise < 2 ^ w → arc_from w (s.first + (2 ^ w - fall)) (s.last + rise) ≡ rounded_out w s t marks
unfolding rounded_out
rounded_arc w fall rise s t marks ef er h =
    let part : nat_le (2 ^ w) (steps w s.first s.last + 1 + fall_of w s t marks + rise_of w s t marks) ≡ false = lt-leb _ _ (omega (arith, ef, er)) in
    rw (part, ← ef, ← er) refl

pub rounded_part : (w fall rise own : ℕ) (s t : Span) (marks : List ℕ) → IsArc w s → fall ≡ fall_of w s t marks → rise ≡ rise_of w s t marks → own ≡ steps w s.first s.last →
    own + 1 + fall + rise < 2 ^ w →
    arc_from w (steps w fall s.first) (steps w fall s.first + (own + fall + rise)) ≡ rounded_out w s t marks
unfolding steps
rounded_part w fall rise own s t marks hs ef er eo h =
    let n = own + fall + rise in
    let p = s.first + (2 ^ w - fall) in
    let back : (s.first + own) % 2 ^ w ≡ s.last = ap (λ (k : ℕ). (s.first + k) % 2 ^ w) eo ∙ steps_back w s.first s.last hs.first_fits hs.last_fits in
    let turn : p + n ≡ s.first + own + rise + 2 ^ w = omega arith in
    let last : (p + n) % 2 ^ w ≡ (s.last + rise) % 2 ^ w =
    ap (λ (k : ℕ). k % 2 ^ w) turn ∙ add-mod_right (s.first + own + rise) (2 ^ w) ∙ sym (mod-add-mod (s.first + own) (2 ^ w) rise) ∙ ap (λ (k : ℕ). (k + rise) % 2 ^ w) back in
    sym (shifted w p n (omega (arith, hs.first_fits))) ∙ arc_from-same w p (p + n) (s.last + rise) last ∙ rounded_arc w fall rise s t marks ef er (omega (arith, eo))

-- the numbers of the arc stay in it
pub rounded_holds : (w fall rise own x : ℕ) (s : Span) → IsArc w s → own ≡ steps w s.first s.last → own + 1 + fall + rise < 2 ^ w → in_span w s x ≡ true →
    in_span w (arc_from w (steps w fall s.first) (steps w fall s.first + (own + fall + rise))) x ≡ true
rounded_holds w fall rise own x s hs eo room h =
    let member = in_from w s x h in
    let start = steps_is w fall s.first (omega arith) hs.first_fits in
    let p = steps w fall s.first in
    let near : fall + steps w s.first x ≤ own + fall + rise = omega (arith, eo, member.1) in
    let from : (p + fall) % 2 ^ w ≡ s.first = grind (arith, start, wrapped_sum (2 ^ w) (p + fall) (omega (arith, start.0)), hs.first_fits) in
    let turn : p + (fall + steps w s.first x) ≡ p + fall + steps w s.first x = omega arith in
    let at : (p + (fall + steps w s.first x)) % 2 ^ w ≡ x =
    ap (λ (k : ℕ). k % 2 ^ w) turn ∙ sym (mod-add-mod (p + fall) (2 ^ w) (steps w s.first x)) ∙ ap (λ (k : ℕ). (k + steps w s.first x) % 2 ^ w) from ∙ steps_back w s.first x hs.first_fits member.0 in
    let held : in_span w (arc_from w p (p + (own + fall + rise))) ((p + (fall + steps w s.first x)) % 2 ^ w) ≡ true = in_ahead w p (own + fall + rise) (fall + steps w s.first x) start.0 (omega arith) near in
    ap (in_span w (arc_from w p (p + (own + fall + rise)))) (sym at) ∙ held
