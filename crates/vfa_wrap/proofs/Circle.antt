use Rattle.std.proofs.Common.{◌≡◌, refl, sym, ◌∙◌, ap, ℕ, ◌+◌, ◌-◌, ◌%◌, ◌^◌, ◌<◌, ◌≤◌, true, false, ◌⊎◌, inl, inr, arith}
use Rattle.std.proofs.lemmas.Nat.{mod_below}
use Rattle.std.proofs.lemmas.Bool.{cases_lt, eq-eqb, ne_eqb}
use Rattle.std.proofs.lemmas.Bool.Decides.{nat_tests}
use Rattle.std.proofs.Math.Nat.{mod-eq_of_lt, mod-eq-sub-mod, mod-add-mod, mod-mod}
use Rattle.vfa_wrap.specs.Arc.{Span, steps, in_span, arc_from, full_span, IsArc}
use Rattle.vfa_wrap.proofs.Truth.{untrue}

pub wrapped_sum : (m a : ℕ) → a < m + m → ((a < m) × (a % m ≡ a)) ⊎ ((m ≤ a) × (a % m + m ≡ a))
wrapped_sum m a l = elim (cases_lt a m) [
  | inl h ↦ inl (h, mod-eq_of_lt h)
  | inr h ↦ let b : a - m < m = omega arith in
      let e : a % m ≡ a - m = mod-eq-sub-mod h ∙ mod-eq_of_lt b in
      inr (h, omega arith)
]

pub steps_is : (w p x : ℕ) → p < 2 ^ w → x < 2 ^ w → (steps w p x < 2 ^ w) × (((p ≤ x) × (steps w p x + p ≡ x)) ⊎ ((x < p) × (steps w p x + p ≡ x + 2 ^ w)))
unfolding steps
steps_is w p x hp hx = grind (arith, wrapped_sum (2 ^ w) (x + (2 ^ w - p)))

-- the number k steps up from p
pub ahead : (w p k : ℕ) → p < 2 ^ w → k < 2 ^ w → ((p + k) % 2 ^ w < 2 ^ w) × (steps w p ((p + k) % 2 ^ w) ≡ k)
ahead w p k hp hk =
    let cut : (p + k) % 2 ^ w < 2 ^ w = mod_below (p + k) (2 ^ w) (omega arith) in
    let two = wrapped_sum (2 ^ w) (p + k) (omega arith) in
    let to = steps_is w p ((p + k) % 2 ^ w) hp cut in
    (cut, grind (arith, two, to))

pub in_from : (w : ℕ) (s : Span) (x : ℕ) → in_span w s x ≡ true → (x < 2 ^ w) × (steps w s.first x ≤ steps w s.first s.last)
unfolding in_span
in_from w s x h = grind (arith, nat_tests)

pub outside : (w : ℕ) (s : Span) (x : ℕ) → (x < 2 ^ w → steps w s.first x ≤ steps w s.first s.last → ⊥) → in_span w s x ≡ false
outside w s x h = untrue _ (λ m. let member = in_from w s x m in h member.0 member.1)

pub in_to : (w : ℕ) (s : Span) (x : ℕ) → x < 2 ^ w → steps w s.first x ≤ steps w s.first s.last → in_span w s x ≡ true
unfolding in_span
in_to w s x h l = grind (arith, nat_tests)

pub arc_from_full : (w p q : ℕ) → p < 2 ^ w → q < 2 ^ w → steps w p q + 1 ≡ 2 ^ w → arc_from w p q ≡ full_span w
unfolding arc_from
arc_from_full w p q hp hq e =
    let ep : p % 2 ^ w ≡ p = mod-eq_of_lt hp in
    let eq : q % 2 ^ w ≡ q = mod-eq_of_lt hq in
    let next = wrapped_sum (2 ^ w) (q + 1) (omega arith) in
    let to = steps_is w p q hp hq in
    let same : (q + 1) % 2 ^ w ≡ p % 2 ^ w = grind (arith, ep, next, to) in
    rw (eq-eqb _ _ same) refl

pub arc_from_part : (w p q : ℕ) → p < 2 ^ w → q < 2 ^ w → steps w p q + 1 < 2 ^ w → arc_from w p q ≡ record { first = p; last = q }
unfolding arc_from
arc_from_part w p q hp hq e =
    let ep : p % 2 ^ w ≡ p = mod-eq_of_lt hp in
    let eq : q % 2 ^ w ≡ q = mod-eq_of_lt hq in
    let next = wrapped_sum (2 ^ w) (q + 1) (omega arith) in
    let to = steps_is w p q hp hq in
    let other : (q + 1) % 2 ^ w ≡ p % 2 ^ w → ⊥ = λ same. grind (arith, ep, next, to) in
    rw (ne_eqb _ _ other, ep, eq) refl

-- the ends of an arc may be taken modulo 2 ^ w first
pub arc_from-mod : (w p q : ℕ) → arc_from w (p % 2 ^ w) (q % 2 ^ w) ≡ arc_from w p q
unfolding arc_from
arc_from-mod w p q = rw (mod-add-mod q (2 ^ w) 1, mod-mod p (2 ^ w), mod-mod q (2 ^ w)) refl

-- the arc of k + 1 numbers from p on, where these are all numbers and where they are not
pub arc_ahead_full : (w p k : ℕ) → p < 2 ^ w → k + 1 ≡ 2 ^ w → arc_from w p (p + k) ≡ full_span w
arc_ahead_full w p k hp e =
    let next = ahead w p k hp (omega arith) in
    let cut : p % 2 ^ w ≡ p = mod-eq_of_lt hp in
    sym (arc_from-mod w p (p + k)) ∙ rw cut (arc_from_full w p ((p + k) % 2 ^ w) hp next.0 (omega (arith, next.1)))

pub arc_ahead_part : (w p k : ℕ) → p < 2 ^ w → k + 1 < 2 ^ w → arc_from w p (p + k) ≡ record { first = p; last = (p + k) % 2 ^ w }
arc_ahead_part w p k hp l =
    let next = ahead w p k hp (omega arith) in
    let cut : p % 2 ^ w ≡ p = mod-eq_of_lt hp in
    sym (arc_from-mod w p (p + k)) ∙ rw cut (arc_from_part w p ((p + k) % 2 ^ w) hp next.0 (omega (arith, next.1)))

-- the span of all numbers, as the arc from p on
pub from_all : (w p k : ℕ) → p < 2 ^ w → k + 1 ≡ 2 ^ w → record { first = 0; last = k } ≡ arc_from w p (p + k)
from_all w p k hp e =
    let last : k ≡ 2 ^ w - 1 = omega arith in
    let all : record { first = 0; last = k } ≡ full_span w = ap (λ (n : ℕ). record { first = 0; last = n }) last in
    all ∙ sym (arc_ahead_full w p k hp e)

pub from_part : (w p k q : ℕ) → p < 2 ^ w → k < 2 ^ w → (k + 1 ≡ 2 ^ w → ⊥) → q ≡ (p + k) % 2 ^ w → record { first = p; last = q } ≡ arc_from w p (p + k)
from_part w p k q hp hk other e =
    let free : k + 1 < 2 ^ w = omega arith in
    let same : record { first = p; last = q } ≡ record { first = p; last = (p + k) % 2 ^ w } = ap (λ (n : ℕ). record { first = p; last = n }) e in
    same ∙ sym (arc_ahead_part w p k hp free)

pub full_is_arc : (w k : ℕ) → k + 1 ≡ 2 ^ w → IsArc w (record { first = 0; last = k })
full_is_arc w k e = record { first_fits = omega arith; last_fits = omega arith; normal = λ _. refl }

pub part_is_arc : (w p k q : ℕ) → p < 2 ^ w → k < 2 ^ w → (k + 1 ≡ 2 ^ w → ⊥) → q ≡ (p + k) % 2 ^ w → IsArc w (record { first = p; last = q })
part_is_arc w p k q hp hk other e =
    let next = ahead w p k hp hk in
    let size : steps w p q ≡ k = ap (steps w p) e ∙ next.1 in
    record { first_fits = hp; last_fits = rw e next.0; normal = λ n. absurd (other (sym (ap (λ m. m + 1) size) ∙ n)) }

-- going up by the steps that lead there
pub steps_back : (w p x : ℕ) → p < 2 ^ w → x < 2 ^ w → (p + steps w p x) % 2 ^ w ≡ x
steps_back w p x hp hx =
    let to = steps_is w p x hp hx in
    let two = wrapped_sum (2 ^ w) (p + steps w p x) (omega (arith, to.0)) in
    let cut : (p + steps w p x) % 2 ^ w < 2 ^ w = mod_below (p + steps w p x) (2 ^ w) (omega arith) in
    grind (arith, to, two, cut)

pub arc_from-same : (w p q r : ℕ) → q % 2 ^ w ≡ r % 2 ^ w → arc_from w p q ≡ arc_from w p r
arc_from-same w p q r e = sym (arc_from-mod w p q) ∙ ap (λ (n : ℕ). arc_from w (p % 2 ^ w) n) e ∙ arc_from-mod w p r

pub arc_from-steps : (w p q : ℕ) → p < 2 ^ w → q < 2 ^ w → arc_from w p (p + steps w p q) ≡ arc_from w p q
arc_from-steps w p q hp hq =
    let cut : q % 2 ^ w ≡ q = mod-eq_of_lt hq in
    arc_from-same w p (p + steps w p q) q (steps_back w p q hp hq ∙ sym cut)

pub in_full : (w x : ℕ) → x < 2 ^ w → in_span w (full_span w) x ≡ true
in_full w x h =
    let to = steps_is w 0 x (omega arith) h in
    let all = steps_is w 0 (2 ^ w - 1) (omega arith) (omega arith) in
    in_to w (full_span w) x h (grind (arith, to, all))

-- the numbers of the arc of n + 1 numbers from p on are the ones up to n steps ahead
pub in_ahead : (w p n k : ℕ) → p < 2 ^ w → n < 2 ^ w → k ≤ n → in_span w (arc_from w p (p + n)) ((p + k) % 2 ^ w) ≡ true
in_ahead w p n k hp hn hk =
    let here = ahead w p k hp (omega arith) in
    let last = ahead w p n hp hn in
    elim (cases_lt (n + 1) (2 ^ w)) [
      | inl free ↦ rw (arc_ahead_part w p n hp free) (in_to w (record { first = p; last = (p + n) % 2 ^ w }) ((p + k) % 2 ^ w) here.0 (omega (arith, here.1, last.1)))
      | inr top ↦ rw (arc_ahead_full w p n hp (omega arith)) (in_full w ((p + k) % 2 ^ w) here.0)
    ]

pub ahead_in : (w p n x : ℕ) → p < 2 ^ w → n < 2 ^ w → in_span w (arc_from w p (p + n)) x ≡ true → (x < 2 ^ w) × (steps w p x ≤ n)
ahead_in w p n x hp hn h = elim (cases_lt (n + 1) (2 ^ w)) [
  | inl free ↦
      let last = ahead w p n hp hn in
      let member = in_from w (record { first = p; last = (p + n) % 2 ^ w }) x (rw (arc_ahead_part w p n hp free) at h) in
      (member.0, omega (arith, member.1, last.1))
  | inr top ↦
      let member = in_from w (full_span w) x (rw (arc_ahead_full w p n hp (omega arith)) at h) in
      let to = steps_is w p x hp member.0 in
      (member.0, omega (arith, to.0))
]
