-- The places of the members of a set in an order that goes up from a base, and what "comes before" says over all pairs.
use Rattle.std.proofs.Common.{◌≡◌, ℕ, ◌+◌, ◌%◌, ◌^◌, ◌<◌, ◌≤◌, Bool, true, false, refl, sym, ◌∙◌, ap, arith, zero, suc, ◌-◌, inl, inr, ℤ, pos, negsuc, ◌-ℤ◌}
use Rattle.std.proofs.lemmas.Bool.{lt-ltb, cases_lt}
use Rattle.std.proofs.lemmas.Bool.Decides.{nat_tests}
use Rattle.vfa_dom.proofs.Searches.{some_found, least_found, greatest_found}
use Rattle.vfa_dom.proofs.SetSearches.{not_above, not_below}
use Rattle.vfa_dom.specs.Search.{least_below, greatest_below}
use Rattle.std.proofs.Math.Nat.{mod-eq_of_lt, add-mod_right}
use Rattle.std.proofs.lemmas.Int.{ints}
use Rattle.vfa_word.specs.Numbers.{wrap}
use Rattle.vfa_wrap.specs.Arc.{steps}
use Rattle.vfa_wrap.specs.Places.{in_signed_order, reading_at}
use Rattle.vfa_wrap.proofs.ArcEnds.{half_is, least_alike}
use Rattle.vfa_wrap.proofs.Circle.{steps_is, steps_back, ahead}
use Rattle.vfa_fact.specs.Order.{comes_before, first_place, last_place}
use Rattle.vfa_fact.proofs.Decisions.{Pair, Alike}

-- a member at this place
pub record Placed (w base : ℕ) (S : ℕ → Bool) (place : ℕ) : Type 0 where
  pub at : ℕ
  pub fits : at < 2 ^ w
  pub passes : S at ≡ true
  pub placed : steps w base at ≡ place

-- the members stand from the one place up to the other, and there is a member at each of the two
pub record Spread (w base : ℕ) (S : ℕ → Bool) (first last : ℕ) : Type 0 where
  pub from : (x : ℕ) → x < 2 ^ w → S x ≡ true → first ≤ steps w base x
  pub upto : (x : ℕ) → x < 2 ^ w → S x ≡ true → steps w base x ≤ last
  pub first_at : Placed w base S first
  pub last_at : Placed w base S last

placed_at : (w base : ℕ) (S : ℕ → Bool) (k : ℕ) → base < 2 ^ w → k < 2 ^ w → S ((base + k) % 2 ^ w) ≡ true → Placed w base S k
placed_at w base S k hb hk passes =
    let to = ahead w base k hb hk in
    record { at = (base + k) % 2 ^ w; fits = to.0; passes = passes; placed = to.1 }

at_place : (w base : ℕ) (S : ℕ → Bool) (x : ℕ) → base < 2 ^ w → x < 2 ^ w → S x ≡ true → S ((base + steps w base x) % 2 ^ w) ≡ true
at_place w base S x hb hx passes = rw (steps_back w base x hb hx) passes

pub spread : (w base : ℕ) (S : ℕ → Bool) (x : ℕ) → base < 2 ^ w → x < 2 ^ w → S x ≡ true → Spread w base S (first_place w base S) (last_place w base S)
unfolding first_place last_place
spread w base S x hb hx passes =
    let some = some_found (2 ^ w) (λ k. S ((base + k) % 2 ^ w)) (steps w base x) (steps_is w base x hb hx).0 (at_place w base S x hb hx passes) in
    let least = least_found (2 ^ w) (λ k. S ((base + k) % 2 ^ w)) some in
    let greatest = greatest_found (2 ^ w) (λ k. S ((base + k) % 2 ^ w)) some in
    record {
      from = λ y hy member. not_above (2 ^ w) (λ k. S ((base + k) % 2 ^ w)) (steps w base y) least (at_place w base S y hb hy member);
      upto = λ y hy member. not_below (2 ^ w) (λ k. S ((base + k) % 2 ^ w)) (steps w base y) (steps_is w base y hb hy).0 greatest (at_place w base S y hb hy member);
      first_at = placed_at w base S _ hb least.below least.passes;
      last_at = placed_at w base S _ hb greatest.below greatest.passes;
    }

less_is : (w base x y : ℕ) → steps w base x < steps w base y → comes_before w base x y ≡ true
unfolding comes_before
less_is w base x y h = lt-ltb _ _ h

less_is_not : (w base x y : ℕ) → steps w base y ≤ steps w base x → comes_before w base x y ≡ false
unfolding comes_before
less_is_not w base x y h = grind (arith, nat_tests)

-- each number of A comes before each one of B
pub all_before : (w base : ℕ) (A B : ℕ → Bool) (fa la fb lb : ℕ) → Spread w base A fa la → Spread w base B fb lb → la < fb → Alike w (comes_before w base) A B true
all_before w base A B fa la fb lb a b h = record {
  each = λ x y hx hy one two. let p = a.upto x hx one in let q = b.from y hy two in less_is w base x y (omega arith);
}

-- none does
pub none_before : (w base : ℕ) (A B : ℕ → Bool) (fa la fb lb : ℕ) → Spread w base A fa la → Spread w base B fb lb → lb ≤ fa → Alike w (comes_before w base) A B false
none_before w base A B fa la fb lb a b h = record {
  each = λ x y hx hy one two. let p = a.from x hx one in let q = b.upto y hy two in less_is_not w base x y (omega arith);
}

-- one does, and one does not
pub some_before : (w base : ℕ) (A B : ℕ → Bool) (fa la fb lb : ℕ) → Spread w base A fa la → Spread w base B fb lb → fa < lb → Pair w (comes_before w base) A B true
some_before w base A B fa la fb lb a b h =
    let p = a.first_at in
    let q = b.last_at in
    record {
      left = p.at;
      right = q.at;
      left_fits = p.fits;
      right_fits = q.fits;
      left_in = p.passes;
      right_in = q.passes;
      is = less_is w base p.at q.at (omega (arith, p.placed, q.placed));
    }

pub some_not_before : (w base : ℕ) (A B : ℕ → Bool) (fa la fb lb : ℕ) → Spread w base A fa la → Spread w base B fb lb → fb ≤ la → Pair w (comes_before w base) A B false
some_not_before w base A B fa la fb lb a b h =
    let p = a.last_at in
    let q = b.first_at in
    record {
      left = p.at;
      right = q.at;
      left_fits = p.fits;
      right_fits = q.fits;
      left_in = p.passes;
      right_in = q.passes;
      is = less_is_not w base p.at q.at (omega (arith, p.placed, q.placed));
    }

-- ---- places from ends

pub place_fits : (w base : ℕ) (S : ℕ → Bool) (k : ℕ) → base < 2 ^ w → Placed w base S k → k < 2 ^ w
place_fits w base S k hb p = let to = steps_is w base p.at hb p.fits in omega (arith, to.0, p.placed)

greatest_alike : (n : ℕ) (p q : ℕ → Bool) → ((x : ℕ) → x < n → p x ≡ q x) → greatest_below n p ≡ greatest_below n q
unfolding greatest_below
greatest_alike zero p q same = refl
greatest_alike (suc n) p q same =
    let below = greatest_alike n p q (λ x l. same x (omega arith)) in
    let here = same n (omega arith) in
    rw (below, here) refl

at_zero : (w : ℕ) (S : ℕ → Bool) (k : ℕ) → k < 2 ^ w → S k ≡ S ((0 + k) % 2 ^ w)
at_zero w S k hk = let e : 0 + k ≡ k = omega arith in ap S (sym (ap (λ (n : ℕ). n % 2 ^ w) e ∙ mod-eq_of_lt hk))

at_half : (w : ℕ) (S : ℕ → Bool) (k : ℕ) → S (in_signed_order w k) ≡ S ((2 ^ (w - 1) + k) % 2 ^ w)
at_half w S k = let e : k + 2 ^ (w - 1) ≡ 2 ^ (w - 1) + k = omega arith in ap (λ (n : ℕ). S (n % 2 ^ w)) e

pub least_place : (w : ℕ) (S : ℕ → Bool) → least_below (2 ^ w) S ≡ first_place w 0 S
unfolding first_place
least_place w S = least_alike (2 ^ w) _ _ (at_zero w S)

pub greatest_place : (w : ℕ) (S : ℕ → Bool) → greatest_below (2 ^ w) S ≡ last_place w 0 S
unfolding last_place
greatest_place w S = greatest_alike (2 ^ w) _ _ (at_zero w S)

pub least_signed_place : (w : ℕ) (S : ℕ → Bool) → reading_at w (least_below (2 ^ w) (λ k. S (in_signed_order w k))) ≡ reading_at w (first_place w (2 ^ (w - 1)) S)
unfolding first_place
least_signed_place w S = ap (reading_at w) (least_alike (2 ^ w) _ _ (λ k hk. at_half w S k))

pub greatest_signed_place : (w : ℕ) (S : ℕ → Bool) → reading_at w (greatest_below (2 ^ w) (λ k. S (in_signed_order w k))) ≡ reading_at w (last_place w (2 ^ (w - 1)) S)
unfolding last_place
greatest_signed_place w S = ap (reading_at w) (greatest_alike (2 ^ w) _ _ (λ k hk. at_half w S k))

wrapped_low : (h m k : ℕ) (z : ℤ) → h + h ≡ m → k < h → z ≡ pos k -ℤ pos h → z ≡ negsuc (h - 1 - k)
wrapped_low h m k (pos n) e l is = absurd (omega (arith, ints))
wrapped_low h m k (negsuc n) e l is = ap negsuc (omega (arith, ints))

wrapped_high : (h k : ℕ) (z : ℤ) → h ≤ k → z ≡ pos k -ℤ pos h → z ≡ pos (k - h)
wrapped_high h k (pos n) l is = ap pos (omega (arith, ints))
wrapped_high h k (negsuc n) l is = absurd (omega (arith, ints))

-- the place of a reading, found by a wrapping sum
pub place_of_reading : (w k : ℕ) (z : ℤ) → 1 ≤ w → k < 2 ^ w → z ≡ reading_at w k → (wrap w z + 2 ^ (w - 1)) % 2 ^ w ≡ k
place_of_reading w k z one hk is =
    let e = half_is w one in
    elim (cases_lt k (2 ^ (w - 1))) [
      | inl low ↦
          let at : wrap w z ≡ wrap w (negsuc (2 ^ (w - 1) - 1 - k)) = ap (wrap w) (wrapped_low (2 ^ (w - 1)) (2 ^ w) k z e low is) in
          let cut : (2 ^ (w - 1) - 1 - k) % 2 ^ w ≡ 2 ^ (w - 1) - 1 - k = mod-eq_of_lt (omega arith) in
          let sum : wrap w z + 2 ^ (w - 1) ≡ k + 2 ^ w = omega (arith, at, cut) in
          ap (λ (n : ℕ). n % 2 ^ w) sum ∙ add-mod_right k (2 ^ w) ∙ mod-eq_of_lt hk
      | inr high ↦
          let at : wrap w z ≡ wrap w (pos (k - 2 ^ (w - 1))) = ap (wrap w) (wrapped_high (2 ^ (w - 1)) k z high is) in
          let cut : (k - 2 ^ (w - 1)) % 2 ^ w ≡ k - 2 ^ (w - 1) = mod-eq_of_lt (omega arith) in
          let sum : wrap w z + 2 ^ (w - 1) ≡ k = omega (arith, at, cut) in
          ap (λ (n : ℕ). n % 2 ^ w) sum ∙ mod-eq_of_lt hk
    ]
