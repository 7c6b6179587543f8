-- The numbers that stand in a relation to some number of a set, as arcs and as tests.
use Rattle.std.proofs.Common.{◌≡◌, ℕ, ◌+◌, ◌-◌, ◌%◌, ◌^◌, ◌<◌, ◌≤◌, Bool, true, false, not, ◌&&◌, refl, sym, ◌∙◌, ap, arith, ◌⊎◌, Some, None}
use Rattle.std.specs.Prelude.{nat_eq, nat_lt, nat_le}
use Rattle.std.proofs.lemmas.Bool.{and_parts, and_from, eqb-true, eq-eqb, ne_eqb, lt-ltb, ltb-true, le-leb, leb-true, not_from_false}
use Rattle.std.proofs.lemmas.Bool.Decides.{nat_tests}
use Rattle.std.proofs.lemmas.Nat.{mod_below}
use Rattle.std.proofs.Math.Nat.{mod-eq_of_lt, mod-mod, mod-add-mod}
use Rattle.vfa_dom.specs.Search.{some_below}
use Rattle.vfa_dom.specs.Sets.{is_empty, single_of}
use Rattle.vfa_dom.proofs.Searches.{some_found, found_some, none_found, none_passes, some_alike}
use Rattle.vfa_wrap.specs.Arc.{Span, steps, in_span, arc_from}
use Rattle.vfa_wrap.proofs.Truth.{same_answers}
use Rattle.vfa_wrap.proofs.Circle.{steps_is, steps_back, ahead, in_ahead, ahead_in, arc_from-same}
use Rattle.vfa_fact.specs.Compare.{partners}
use Rattle.vfa_fact.specs.Order.{comes_before}
use Rattle.vfa_dom.proofs.SetSearches.{single_of_tells}
use Rattle.vfa_fact.proofs.MemberPlaces.{Spread}
use Rattle.vfa_fact.proofs.Deciding.{another}

-- a number of the set that x passes the test with
pub record Partner (w : ℕ) (test : ℕ → ℕ → Bool) (B : ℕ → Bool) (x : ℕ) : Type 0 where
  pub at : ℕ
  pub fits : at < 2 ^ w
  pub passes : B at ≡ true
  pub is : test x at ≡ true

pub partner_of : (w : ℕ) (test : ℕ → ℕ → Bool) (B : ℕ → Bool) (x : ℕ) → partners w test B x ≡ true → Partner w test B x
unfolding partners
partner_of w test B x some =
    let found = found_some (2 ^ w) (λ y. B y && test x y) some in
    let parts = and_parts (B found.at) (test x found.at) found.passes in
    record { at = found.at; fits = found.below; passes = parts.0; is = parts.1 }

pub partner_from : (w : ℕ) (test : ℕ → ℕ → Bool) (B : ℕ → Bool) (x y : ℕ) → y < 2 ^ w → B y ≡ true → test x y ≡ true → partners w test B x ≡ true
unfolding partners
partner_from w test B x y hy member is = some_found (2 ^ w) (λ y. B y && test x y) y hy (and_from (B y) (test x y) member is)

pub empty_from : (w : ℕ) (S : ℕ → Bool) → ((x : ℕ) → x < 2 ^ w → S x ≡ false) → is_empty w S ≡ true
unfolding is_empty
empty_from w S none = ap not (none_found (2 ^ w) S none)

-- ---- the numbers that come before, up to, after and from some number of the set on

before_tells : (w base x y : ℕ) → comes_before w base x y ≡ true → steps w base x < steps w base y
unfolding comes_before
before_tells w base x y h = ltb-true _ _ h

before_is : (w base x y : ℕ) → steps w base x < steps w base y → comes_before w base x y ≡ true
unfolding comes_before
before_is w base x y h = lt-ltb _ _ h

not_before_tells : (w base x y : ℕ) → not (comes_before w base x y) ≡ true → steps w base y ≤ steps w base x
unfolding comes_before
not_before_tells w base x y h = grind (arith, nat_tests)

not_before_is : (w base x y : ℕ) → steps w base y ≤ steps w base x → not (comes_before w base x y) ≡ true
unfolding comes_before
not_before_is w base x y h = grind (arith, nat_tests)

pub before_partners : (w base : ℕ) (B : ℕ → Bool) (first last x : ℕ) → Spread w base B first last → partners w (comes_before w base) B x ≡ nat_lt (steps w base x) last
before_partners w base B first last x s = same_answers _ _
    (λ h.
    let p = partner_of w (comes_before w base) B x h in
    let less = before_tells w base x p.at p.is in
    let upto = s.upto p.at p.fits p.passes in
    lt-ltb _ _ (omega arith))
    (λ h.
    let less = ltb-true _ _ h in
    let q = s.last_at in
    partner_from w (comes_before w base) B x q.at q.fits q.passes (before_is w base x q.at (omega (arith, less, q.placed))))

pub up_to_partners : (w base : ℕ) (B : ℕ → Bool) (first last x : ℕ) → Spread w base B first last → partners w (λ x y. not (comes_before w base y x)) B x ≡ nat_le (steps w base x) last
up_to_partners w base B first last x s = same_answers _ _
    (λ h.
    let p = partner_of w (λ x y. not (comes_before w base y x)) B x h in
    let less = not_before_tells w base p.at x p.is in
    let upto = s.upto p.at p.fits p.passes in
    le-leb _ _ (omega arith))
    (λ h.
    let less = leb-true _ _ h in
    let q = s.last_at in
    partner_from w (λ x y. not (comes_before w base y x)) B x q.at q.fits q.passes (not_before_is w base q.at x (omega (arith, less, q.placed))))

pub after_partners : (w base : ℕ) (B : ℕ → Bool) (first last x : ℕ) → Spread w base B first last → partners w (λ x y. comes_before w base y x) B x ≡ nat_lt first (steps w base x)
after_partners w base B first last x s = same_answers _ _
    (λ h.
    let p = partner_of w (λ x y. comes_before w base y x) B x h in
    let less = before_tells w base p.at x p.is in
    let from = s.from p.at p.fits p.passes in
    lt-ltb _ _ (omega arith))
    (λ h.
    let less = ltb-true _ _ h in
    let q = s.first_at in
    partner_from w (λ x y. comes_before w base y x) B x q.at q.fits q.passes (before_is w base q.at x (omega (arith, less, q.placed))))

pub from_partners : (w base : ℕ) (B : ℕ → Bool) (first last x : ℕ) → Spread w base B first last → partners w (λ x y. not (comes_before w base x y)) B x ≡ nat_le first (steps w base x)
from_partners w base B first last x s = same_answers _ _
    (λ h.
    let p = partner_of w (λ x y. not (comes_before w base x y)) B x h in
    let less = not_before_tells w base x p.at p.is in
    let from = s.from p.at p.fits p.passes in
    le-leb _ _ (omega arith))
    (λ h.
    let less = leb-true _ _ h in
    let q = s.first_at in
    partner_from w (λ x y. not (comes_before w base x y)) B x q.at q.fits q.passes (not_before_is w base x q.at (omega (arith, less, q.placed))))

-- ---- arcs by places

ahead_test : (w p n x : ℕ) → p < 2 ^ w → n < 2 ^ w → x < 2 ^ w → in_span w (arc_from w p (p + n)) x ≡ nat_le (steps w p x) n
ahead_test w p n x hp hn hx = same_answers _ _
    (λ h. le-leb _ _ (ahead_in w p n x hp hn h).1)
    (λ h.
    let less = leb-true _ _ h in
    let at = steps_back w p x hp hx in
    let member = in_ahead w p n (steps w p x) hp hn less in
    sym (ap (in_span w (arc_from w p (p + n))) at) ∙ member)

-- the arc from the base up to a place
pub up_to_arc : (w base place sum x : ℕ) (s : Span) → base < 2 ^ w → place < 2 ^ w → x < 2 ^ w → sum ≡ (base + place % 2 ^ w) % 2 ^ w → s ≡ arc_from w base sum → in_span w s x ≡ nat_le (steps w base x) place
up_to_arc w base place sum x s hb hp hx es e =
    let cut : place % 2 ^ w ≡ place = mod-eq_of_lt hp in
    let at : sum % 2 ^ w ≡ (base + place) % 2 ^ w = ap (λ (n : ℕ). n % 2 ^ w) (es ∙ ap (λ (n : ℕ). (base + n) % 2 ^ w) cut) ∙ mod-mod (base + place) (2 ^ w) in
    ap (λ (t : Span). in_span w t x) (e ∙ arc_from-same w base sum (base + place) at) ∙ ahead_test w base place x hb hp hx

turned_test : (m place top a b : ℕ) → top + 1 ≡ m → place < m → a < m → b < m → ((place ≤ a) × (b + place ≡ a)) ⊎ ((a < place) × (b + place ≡ a + m)) → nat_le b (top - place) ≡ nat_le place a
turned_test m place top a b e hp ha hb h = grind (arith, nat_tests)

-- steps from a place on
steps_on : (w base place x : ℕ) → base < 2 ^ w → place < 2 ^ w → x < 2 ^ w →
    ((place ≤ steps w base x) × (steps w ((base + place) % 2 ^ w) x + place ≡ steps w base x)) ⊎ ((steps w base x < place) × (steps w ((base + place) % 2 ^ w) x + place ≡ steps w base x + 2 ^ w))
steps_on w base place x hb hp hx =
    let next = ahead w base place hb hp in
    let to = steps_is w base x hb hx in
    let at = steps_is w base ((base + place) % 2 ^ w) hb next.0 in
    let on = steps_is w ((base + place) % 2 ^ w) x next.0 hx in
    grind (arith, next, to, at, on)

-- the arc from a place up to the number before the base
pub from_arc : (w base place top sum end x : ℕ) (s : Span) → top + 1 ≡ 2 ^ w → base < 2 ^ w → place < 2 ^ w → x < 2 ^ w →
    sum ≡ (base + place % 2 ^ w) % 2 ^ w → end ≡ (base + top % 2 ^ w) % 2 ^ w → s ≡ arc_from w sum end → in_span w s x ≡ nat_le place (steps w base x)
from_arc w base place top sum end x s et hb hp hx es ee e =
    let cut : place % 2 ^ w ≡ place = mod-eq_of_lt hp in
    let cut' : top % 2 ^ w ≡ top = mod-eq_of_lt (omega arith) in
    let start : sum ≡ (base + place) % 2 ^ w = es ∙ ap (λ (n : ℕ). (base + n) % 2 ^ w) cut in
    let fits : sum < 2 ^ w = rw start (mod_below (base + place) (2 ^ w) (omega arith)) in
    let n : ℕ = top - place in
    let whole : base + place + (top - place) ≡ base + top = omega arith in
    let at : end % 2 ^ w ≡ (sum + (top - place)) % 2 ^ w =
    ap (λ (n : ℕ). n % 2 ^ w) (ee ∙ ap (λ (n : ℕ). (base + n) % 2 ^ w) cut') ∙ mod-mod (base + top) (2 ^ w)
    ∙ sym (ap (λ (n : ℕ). (n + (top - place)) % 2 ^ w) start ∙ mod-add-mod (base + place) (2 ^ w) (top - place) ∙ ap (λ (n : ℕ). n % 2 ^ w) whole) in
    let test = ahead_test w sum (top - place) x fits (omega arith) hx in
    let on = steps_on w base place x hb hp hx in
    let a = steps_is w base x hb hx in
    let b = steps_is w sum x fits hx in
    let same : steps w ((base + place) % 2 ^ w) x ≡ steps w sum x = ap (λ (p : ℕ). steps w p x) (sym start) in
    ap (λ (t : Span). in_span w t x) (e ∙ arc_from-same w sum end (sum + (top - place)) at) ∙ test
    ∙ turned_test (2 ^ w) place top (steps w base x) (steps w sum x) et hp a.0 b.0 (rw same at on)

-- ---- equal and unequal numbers

pub equal_partners : (w : ℕ) (B : ℕ → Bool) (x : ℕ) → x < 2 ^ w → partners w nat_eq B x ≡ B x
equal_partners w B x hx = same_answers _ _
    (λ h. let p = partner_of w nat_eq B x h in let same : x ≡ p.at = eqb-true x p.at p.is in ap B same ∙ p.passes)
    (λ h. partner_from w nat_eq B x x hx h (eq-eqb x x refl))

steps_nonzero : (w c x : ℕ) → c < 2 ^ w → x < 2 ^ w → nat_le 1 (steps w c x) ≡ not (nat_eq x c)
steps_nonzero w c x hc hx = let to = steps_is w c x hc hx in grind (arith, nat_tests, to)

-- all but the only member
pub unequal_single : (w : ℕ) (B : ℕ → Bool) (c x : ℕ) → single_of w B ≡ Some c → x < 2 ^ w → nat_le 1 (steps w c x) ≡ partners w (λ x y. not (nat_eq x y)) B x
unequal_single w B c x one hx =
    let tells = single_of_tells w B c one in
    steps_nonzero w c x tells.1 hx ∙ same_answers _ _
    (λ h. partner_from w (λ x y. not (nat_eq x y)) B x c tells.1 tells.0 h)
    (λ h.
    let p = partner_of w (λ x y. not (nat_eq x y)) B x h in
    let same : p.at ≡ c = tells.2 p.at p.fits p.passes in
    sym (ap (λ (n : ℕ). not (nat_eq x n)) same) ∙ p.is)

pub unequal_several : (w : ℕ) (B : ℕ → Bool) (x y : ℕ) → y < 2 ^ w → B y ≡ true → single_of w B ≡ None → partners w (λ x y. not (nat_eq x y)) B x ≡ true
unequal_several w B x y hy member none =
    let other = another w B x y hy member none in
    partner_from w (λ x y. not (nat_eq x y)) B x other.at other.fits other.passes (not_from_false (nat_eq x other.at) (ne_eqb x other.at (λ e. other.other (sym e))))

-- ---- two tests that agree have the same partners

pub partners_alike : (w : ℕ) (test test' : ℕ → ℕ → Bool) (B : ℕ → Bool) (x : ℕ) → x < 2 ^ w → ((x y : ℕ) → x < 2 ^ w → y < 2 ^ w → test x y ≡ test' x y) → partners w test B x ≡ partners w test' B x
unfolding partners
partners_alike w test test' B x hx alike = some_alike (2 ^ w) (λ y. B y && test x y) (λ y. B y && test' x y) (λ y hy. ap (λ b. B y && b) (alike x y hx hy))

pub empty_tells : (w : ℕ) (S : ℕ → Bool) → is_empty w S ≡ true → (x : ℕ) → x < 2 ^ w → S x ≡ false
unfolding is_empty
empty_tells w S e = none_passes (2 ^ w) S (flipped (some_below (2 ^ w) S) e)
  where
    flipped : (b : Bool) → not b ≡ true → b ≡ false
    flipped true e = cc
    flipped false e = refl
