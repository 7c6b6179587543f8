-- The ends of a set that has a member are ends of a set, and its members lie between them.
use Rattle.std.proofs.Common.{◌≡◌, ℕ, ◌+◌, ◌-◌, ◌%◌, ◌^◌, ◌<◌, ◌≤◌, Bool, true, sym, ◌∙◌, ap, inl, inr, arith}
use Rattle.std.proofs.lemmas.Bool.{cases_lt}
use Rattle.std.proofs.lemmas.Nat.{pow_pos}
use Rattle.std.proofs.lemmas.Int.{ints}
use Rattle.std.proofs.Math.Nat.{mod-eq_of_lt, mod-lt, add-mod_left}
use Rattle.vfa_dom.proofs.Searches.{IsLeast, IsGreatest, least_found, greatest_found, some_found}
use Rattle.vfa_dom.proofs.SetSearches.{not_above, not_below}
use Rattle.vfa_dom.specs.Search.{least_below, greatest_below}
use Rattle.vfa_word.specs.Numbers.{wrap, signed_of}
use Rattle.vfa_word.proofs.Readings.{reading_low, reading_high, wrap_of_reading}
use Rattle.vfa_wrap.specs.Places.{in_signed_order, reading_at}
use Rattle.vfa_wrap.specs.Ends.{ends_of}
use Rattle.vfa_wrap.specs.Between.{Between, AreEnds}
use Rattle.vfa_wrap.specs.Rows.{AreAmounts, AreDivisors}
use Rattle.vfa_wrap.proofs.RowArcs.{half_twice}

-- the number at a place of the signed order, below the middle and from there on
order_low : (half m k : ℕ) → half + half ≡ m → k < half → (k + half) % m ≡ k + half
order_low half m k e h = mod-eq_of_lt (omega arith)

order_high : (half m k : ℕ) → half + half ≡ m → half ≤ k → k < m → (k + half) % m ≡ k - half
order_high half m k e h l =
    let d : k + half ≡ m + (k - half) = omega arith in
    ap (λ n. n % m) d ∙ add-mod_left m (k - half) ∙ mod-eq_of_lt (omega arith)

-- its reading
order_reads : (w k : ℕ) → 1 ≤ w → k < 2 ^ w → signed_of w (in_signed_order w k) ≡ reading_at w k
order_reads w k one h = elim (cases_lt k (2 ^ (w - 1))) [
  | inl low ↦
      let e = half_twice w one in
      let d : (k + 2 ^ (w - 1)) % 2 ^ w ≡ k + 2 ^ (w - 1) = order_low (2 ^ (w - 1)) (2 ^ w) k e low in
      ap (signed_of w) d ∙ reading_high w (k + 2 ^ (w - 1)) (omega arith) (omega arith) ∙ omega (arith, ints)
  | inr high ↦
      let e = half_twice w one in
      let d : (k + 2 ^ (w - 1)) % 2 ^ w ≡ k - 2 ^ (w - 1) = order_high (2 ^ (w - 1)) (2 ^ w) k e high h in
      ap (signed_of w) d ∙ reading_low w (k - 2 ^ (w - 1)) (omega arith) ∙ omega (arith, ints)
]

-- the place of a number in the signed order
abbrev place_of : ℕ → ℕ → ℕ
place_of w x = (x + 2 ^ (w - 1)) % 2 ^ w

place_of_order : (w x : ℕ) → 1 ≤ w → x < 2 ^ w → in_signed_order w (place_of w x) ≡ x
place_of_order w x one h = elim (cases_lt x (2 ^ (w - 1))) [
  | inl low ↦
      let e = half_twice w one in
      let d = order_low (2 ^ (w - 1)) (2 ^ w) x e low in
      ap (in_signed_order w) d ∙ order_high (2 ^ (w - 1)) (2 ^ w) (x + 2 ^ (w - 1)) e (omega arith) (omega arith) ∙ omega arith
  | inr high ↦
      let e = half_twice w one in
      let d = order_high (2 ^ (w - 1)) (2 ^ w) x e high h in
      ap (in_signed_order w) d ∙ order_low (2 ^ (w - 1)) (2 ^ w) (x - 2 ^ (w - 1)) e (omega arith) ∙ omega arith
]

-- the members in the signed order
abbrev ordered : ℕ → (ℕ → Bool) → ℕ → Bool
ordered w S k = S (in_signed_order w k)

-- a set with a member has a least and a greatest one, in both orders
record Reached (w : ℕ) (S : ℕ → Bool) : Type 0 where
  pub least : IsLeast (2 ^ w) S (least_below (2 ^ w) S)
  pub greatest : IsGreatest (2 ^ w) S (greatest_below (2 ^ w) S)
  pub signed_least : IsLeast (2 ^ w) (ordered w S) (least_below (2 ^ w) (ordered w S))
  pub signed_greatest : IsGreatest (2 ^ w) (ordered w S) (greatest_below (2 ^ w) (ordered w S))

reached : (w : ℕ) (S : ℕ → Bool) (x : ℕ) → 1 ≤ w → x < 2 ^ w → S x ≡ true → Reached w S
reached w S x one h p =
    let q : S (in_signed_order w (place_of w x)) ≡ true = rw (place_of_order w x one h) p in
    let some = some_found (2 ^ w) S x h p in
    let other = some_found (2 ^ w) (ordered w S) (place_of w x) (mod-lt _ (pow_pos w)) q in
    record {
      least = least_found (2 ^ w) S some;
      greatest = greatest_found (2 ^ w) S some;
      signed_least = least_found (2 ^ w) (ordered w S) other;
      signed_greatest = greatest_found (2 ^ w) (ordered w S) other;
    }

member_between : (w : ℕ) (S : ℕ → Bool) (x : ℕ) → 1 ≤ w → x < 2 ^ w → S x ≡ true → Reached w S → Between w (ends_of w S) x
unfolding ends_of
member_between w S x one h p r =
    let k : ℕ = place_of w x in
    let below : place_of w x < 2 ^ w = mod-lt _ (pow_pos w) in
    let q : S (in_signed_order w (place_of w x)) ≡ true = rw (place_of_order w x one h) p in
    let read : signed_of w x ≡ reading_at w (place_of w x) =
    ap (signed_of w) (sym (place_of_order w x one h)) ∙ order_reads w (place_of w x) one below
    in
    let from = not_above (2 ^ w) (ordered w S) (place_of w x) r.signed_least q in
    let upto = not_below (2 ^ w) (ordered w S) (place_of w x) below r.signed_greatest q in
    record {
      fits = h;
      from = not_above (2 ^ w) S x r.least p;
      upto = not_below (2 ^ w) S x h r.greatest p;
      signed_from = rw read (omega (arith, ints, from));
      signed_upto = rw read (omega (arith, ints, upto));
    }

-- each member of a set lies between its ends
pub between_ends : (w : ℕ) (S : ℕ → Bool) (x : ℕ) → 1 ≤ w → x < 2 ^ w → S x ≡ true → Between w (ends_of w S) x
between_ends w S x one h p = member_between w S x one h p (reached w S x one h p)

-- the end that stands at a place of the signed order
end_at : (w : ℕ) (S : ℕ → Bool) (k : ℕ) → 1 ≤ w → k < 2 ^ w → S (in_signed_order w k) ≡ true → Reached w S → (signed_of w (wrap w (reading_at w k)) ≡ reading_at w k) × Between w (ends_of w S) (wrap w (reading_at w k))
end_at w S k one h p r =
    let fits : in_signed_order w k < 2 ^ w = mod-lt _ (pow_pos w) in
    let read = order_reads w k one h in
    let same : wrap w (reading_at w k) ≡ in_signed_order w k =
    ap (wrap w) (sym read) ∙ wrap_of_reading w (in_signed_order w k) fits
    in (
      ap (signed_of w) same ∙ read,
      rw same (member_between w S (in_signed_order w k) one fits p r),
    )

-- the ends of a set with a member are ends of a set
pub are_ends : (w : ℕ) (S : ℕ → Bool) (x : ℕ) → 1 ≤ w → x < 2 ^ w → S x ≡ true → AreEnds w (ends_of w S)
unfolding ends_of
are_ends w S x one h p =
    let r = reached w S x one h p in
    let least = end_at w S _ one r.signed_least.below r.signed_least.passes r in
    let greatest = end_at w S _ one r.signed_greatest.below r.signed_greatest.passes r in
    record {
      lo = member_between w S _ one r.least.below r.least.passes r;
      hi = member_between w S _ one r.greatest.below r.greatest.passes r;
      slo = least.1;
      shi = greatest.1;
      slo_read = least.0;
      shi_read = greatest.0;
    }

-- amounts that are all below the width
pub are_amounts : (w : ℕ) (S : ℕ → Bool) (x : ℕ) → 1 ≤ w → x < 2 ^ w → S x ≡ true → ((y : ℕ) → S y ≡ true → y < w) → AreAmounts w (ends_of w S)
unfolding ends_of
are_amounts w S x one h p f =
    let r = reached w S x one h p in
    (are_ends w S x one h p, f _ r.greatest.passes)

-- divisors none of which is 0, or all of which are
pub are_divisors : (w : ℕ) (S : ℕ → Bool) (x : ℕ) → 1 ≤ w → x < 2 ^ w → S x ≡ true → ((y : ℕ) → S y ≡ true → 0 < y) → AreDivisors w (ends_of w S)
unfolding ends_of
are_divisors w S x one h p f =
    let r = reached w S x one h p in
    (are_ends w S x one h p, inl (f _ r.least.passes))

pub zero_alone : (w : ℕ) (S : ℕ → Bool) → 1 ≤ w → S 0 ≡ true → ((y : ℕ) → S y ≡ true → y ≡ 0) → AreDivisors w (ends_of w S)
unfolding ends_of
zero_alone w S one p f =
    let r = reached w S 0 one (pow_pos w) p in
    (are_ends w S 0 one (pow_pos w) p, inr (f _ r.greatest.passes))
