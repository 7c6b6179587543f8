-- The ends of the members that an operation can use.
use Rattle.std.proofs.Common.{◌≡◌, ◌≢◌, ℕ, zero, suc, lit<, ◌+◌, ◌-◌, ◌^◌, ◌<◌, ◌≤◌, Bool, true, false, not, ◌&&◌, sym, ◌∙◌, ap, subst, arith, ◌⊎◌, inl, inr, Option, Some, None, nat_eq, nat_lt}
use Rattle.std.specs.Prelude.{IsTrue, IsSomeAnd, IfSome, MatchOption, nat_le}
use Rattle.std.specs.Int.{bit_at}
use Rattle.std.specs.Option.{option_map}
use Rattle.std.proofs.lemmas.Bool.{cases_Bool, cases_eq, cond-true, cond-false}
use Rattle.std.proofs.lemmas.Bool.Decides.{nat_tests}
use Rattle.std.proofs.lemmas.Nat.{pow_pos}
use Rattle.std.proofs.lemmas.Nat.Bits.{bit_at-zero}
use Rattle.std.proofs.Math.Path.{fun_ext}
use Rattle.vfa_word.specs.Numbers.{signed_of}
use Rattle.vfa_dom.specs.Search.{some_below, bits_below}
use Rattle.vfa_dom.specs.Sets.{meet, is_empty}
use Rattle.vfa_dom.proofs.Searches.{Found, found_some, some_found, none_found, bit_at-bits_below, bits_below-lt, flag-true}
use Rattle.vfa_dom.proofs.SetSearches.{meet_from, meet_parts}
use Rattle.vfa_wrap.specs.Arc.{steps, full_span}
use Rattle.vfa_wrap.specs.Between.{Between}
use Rattle.vfa_wrap.specs.Ends.{EndsOf, ends_of}
use Rattle.vfa_wrap.specs.Rows.{AreAmounts, AreDivisors}
use Rattle.vfa_wrap.proofs.Circle.{full_is_arc, in_full}
use Rattle.vfa_wrap.proofs.SetEnds.{are_amounts, are_divisors, between_ends}
use Rattle.vfa_fact.specs.declared.numbers.Numbers.{Numbers}
use Rattle.vfa_fact.specs.Cuts.{AmountsOf, ends_in, amounts_in, divisors_in, amounts_of, divisors_of}
use Rattle.vfa_fact.specs.Fact.{IsFact}
use Rattle.vfa_fact.specs.Interval.{interval, Reaches}
use Rattle.vfa_fact.specs.Sharp.{sharp_of}
use Rattle.vfa_fact.proofs.CubeCuts.{from_zero}
use Rattle.vfa_fact.proofs.EndsOfFacts.{ends_are}
use Rattle.vfa_fact.proofs.FactEnds.{least_first, greatest_last, signed_least, signed_greatest}
use Rattle.vfa_fact.proofs.Facts.{sharp_fact}
use Rattle.vfa_fact.proofs.Going.{IsFirst, IsLast}
use Rattle.vfa_fact.proofs.Orders.{signed_place}
use Rattle.vfa_fact.proofs.SharpSets.{sharp_tells, sharp_none_tells}

-- ---- the ends of a set that may have no member

pub ends_some : (w : ℕ) (S : ℕ → Bool) (x : ℕ) → x < 2 ^ w → S x ≡ true → ends_in w S ≡ Some (ends_of w S)
unfolding ends_in
ends_some w S x fits member = cond-true (some_below (2 ^ w) S) (Some (ends_of w S)) None (some_found (2 ^ w) S x fits member)

pub ends_none : (w : ℕ) (S : ℕ → Bool) → ((x : ℕ) → x < 2 ^ w → S x ≡ false) → ends_in w S ≡ None
unfolding ends_in
ends_none w S none = cond-false (some_below (2 ^ w) S) (Some (ends_of w S)) None (none_found (2 ^ w) S none)

-- where there are ends there is a member
pub ends_tell : (w : ℕ) (S : ℕ → Bool) (P : EndsOf → Type 0) → (Found (2 ^ w) S → P (ends_of w S)) → IfSome (ends_in w S) P
unfolding ends_in
ends_tell w S P tells = elim (cases_Bool (some_below (2 ^ w) S)) [
  | inl some ↦ subst (λ (o : Option EndsOf). IfSome o P) (sym (cond-true (some_below (2 ^ w) S) (Some (ends_of w S)) None some)) (tells (found_some (2 ^ w) S some))
  | inr none ↦ subst (λ (o : Option EndsOf). IfSome o P) (sym (cond-false (some_below (2 ^ w) S) (Some (ends_of w S)) None none)) tt
]

-- a member has ends between which it lies
pub ends_cover : (w : ℕ) (S : ℕ → Bool) (x : ℕ) → 1 ≤ w → x < 2 ^ w → S x ≡ true → IsSomeAnd (ends_in w S) (λ e. Between w e x)
ends_cover w S x one fits member =
    subst (λ (o : Option EndsOf). IsSomeAnd o (λ e. Between w e x)) (sym (ends_some w S x fits member)) (between_ends w S x one fits member)

-- what is known of an option holds of the value of the program that shows it
pub if_shown : {A B : Type 0} (show : A → B) (P : B → Type 0) (o : Option A) → IfSome (option_map show o) P → IfSome o (λ a. P (show a))
if_shown show P (Some a) holds = holds
if_shown show P None holds = tt

pub some_shown : {A B : Type 0} (show : A → B) (P : B → Type 0) (o : Option A) → IsSomeAnd (option_map show o) P → IsSomeAnd o (λ a. P (show a))
some_shown show P (Some a) holds = holds
some_shown show P None holds = holds

-- ---- amounts and divisors

pub amount_at : (w : ℕ) (S : ℕ → Bool) (t : ℕ) → amounts_in w S t ≡ true → (t < w) × (S t ≡ true)
amount_at w S t member = let parts = meet_parts (λ t. nat_lt t w) S t member in (grind (arith, nat_tests, parts), parts.1)

pub amount_from : (w : ℕ) (S : ℕ → Bool) (t : ℕ) → t < w → S t ≡ true → amounts_in w S t ≡ true
amount_from w S t below member = meet_from (λ t. nat_lt t w) S t (grind (arith, nat_tests)) member

divisor_at : (S : ℕ → Bool) (y : ℕ) → divisors_in S y ≡ true → (0 < y) × (S y ≡ true)
divisor_at S y member = let parts = meet_parts (λ y. not (nat_eq y 0)) S y member in (grind (arith, nat_tests, parts), parts.1)

divisor_from : (S : ℕ → Bool) (y : ℕ) → y ≢ 0 → S y ≡ true → divisors_in S y ≡ true
divisor_from S y some member = meet_from (λ y. not (nat_eq y 0)) S y (grind (arith, nat_tests)) member

pub lt_pow : (n : ℕ) → n < 2 ^ n
lt_pow zero = lit< tt
lt_pow (suc n) = let less = lt_pow n in omega arith

-- a number below w is one of width w
pub below_width : (w t : ℕ) → t < w → t < 2 ^ w
below_width w t below = let e = lt_pow w in omega arith

pub amounts_usable : (w : ℕ) (S : ℕ → Bool) → 1 ≤ w → IfSome (ends_in w (amounts_in w S)) (AreAmounts w)
amounts_usable w S one = ends_tell w (amounts_in w S) (AreAmounts w) (λ found.
    are_amounts w (amounts_in w S) found.at one found.below found.passes (λ t member. (amount_at w S t member).0))

pub divisors_usable : (w : ℕ) (S : ℕ → Bool) → 1 ≤ w → IfSome (divisors_of w S) (AreDivisors w)
unfolding divisors_of
divisors_usable w S one = ends_tell w (divisors_in S) (AreDivisors w) (λ found.
    are_divisors w (divisors_in S) found.at one found.below found.passes (λ y member. (divisor_at S y member).0))

pub divisors_cover : (w : ℕ) (S : ℕ → Bool) (y : ℕ) → 1 ≤ w → y < 2 ^ w → y ≢ 0 → S y ≡ true → IsSomeAnd (divisors_of w S) (λ e. Between w e y)
unfolding divisors_of
divisors_cover w S y one fits some member = ends_cover w (divisors_in S) y one fits (divisor_from S y some member)

pub amount_bit : (w : ℕ) (S : ℕ → Bool) (t : ℕ) → t < w → S t ≡ true → bit_at (bits_below w S) t ≡ 1
amount_bit w S t below member = bit_at-bits_below w S t below ∙ flag-true (S t) member

pub some_mask : (m t : ℕ) → bit_at m t ≡ 1 → m ≢ 0
some_mask m t on none = let zero = sym on ∙ ap (λ n. bit_at n t) none ∙ bit_at-zero t in absurd (cc)

-- the amounts, by the ends and the mask
module _ (w : ℕ) (S : ℕ → Bool) (one : 1 ≤ w) where
  -- what is known of the ends and of the mask of a member
  pub amounts_tell : (P : AmountsOf → Type 0) → ((t : ℕ) → t < w → S t ≡ true → P (record { mask = bits_below w S; ends = ends_of w (amounts_in w S) })) →
      IfSome (amounts_of w S) P
  unfolding amounts_of
  amounts_tell P tells = mapped (ends_in w (amounts_in w S)) (ends_tell w (amounts_in w S) (λ e. P (record { mask = bits_below w S; ends = e })) (λ found.
      let at = amount_at w S found.at found.passes in tells found.at at.0 at.1))
    where
      mapped : (o : Option EndsOf) → IfSome o (λ e. P (record { mask = bits_below w S; ends = e })) → IfSome (option_map (λ e. record { mask = bits_below w S; ends = e }) o) P
      mapped (Some e) holds = holds
      mapped None holds = tt

  pub amounts_none : ends_in w (amounts_in w S) ≡ None → ◌≡◌ {A = Option AmountsOf} None (amounts_of w S)
  unfolding amounts_of
  amounts_none none = sym (ap (option_map (λ e. record { mask = bits_below w S; ends = e })) none)

  pub amounts_row : (e : EndsOf) (m : ℕ) → ends_in w (amounts_in w S) ≡ Some e → m ≡ bits_below w S → ◌≡◌ {A = Option AmountsOf} (Some (record { mask = m; ends = e })) (amounts_of w S)
  unfolding amounts_of
  amounts_row e m some mask = ap (λ (k : ℕ). Some (record { mask = k; ends = e })) mask ∙ sym (ap (option_map (λ e. record { mask = bits_below w S; ends = e })) some)

  pub amounts_fit : IfSome (amounts_of w S) (λ a. AreAmounts w a.ends)
  amounts_fit = amounts_tell (λ a. AreAmounts w a.ends) (λ t below member.
      are_amounts w (amounts_in w S) t one (below_width w t below) (amount_from w S t below member) (λ y is. (amount_at w S y is).0))

  pub amounts_some : IfSome (amounts_of w S) (λ a. a.mask ≢ 0)
  amounts_some = amounts_tell (λ a. a.mask ≢ 0) (λ t below member. some_mask (bits_below w S) t (amount_bit w S t below member))

  pub amounts_below : IfSome (amounts_of w S) (λ a. a.mask < 2 ^ w)
  amounts_below = amounts_tell (λ a. a.mask < 2 ^ w) (λ t below member. bits_below-lt w S)

  pub amounts_cover : (t : ℕ) → t < w → S t ≡ true → IsSomeAnd (amounts_of w S) (λ a. Between w a.ends t × (bit_at a.mask t ≡ 1))
  unfolding amounts_of
  amounts_cover t below member =
      let fits = below_width w t below in let is = amount_from w S t below member in
      subst (λ (o : Option EndsOf). IsSomeAnd {T = AmountsOf} (option_map (λ e. record { mask = bits_below w S; ends = e }) o) (λ a. Between w a.ends t × (bit_at a.mask t ≡ 1)))
      (sym (ends_some w (amounts_in w S) t fits is))
      (between_ends w (amounts_in w S) t one fits is, amount_bit w S t below member)

-- the members from 1 up to the greatest number are the divisors
pub divisors_between : (w most : ℕ) (S : ℕ → Bool) → most + 1 ≡ 2 ^ w → ((x : ℕ) → S x ≡ true → x < 2 ^ w) → meet (interval 1 most) S ≡ divisors_in S
unfolding meet interval
divisors_between w most S top fits = fun_ext (λ y. elim (cases_Bool (S y)) [
  | inl member ↦ let small = fits y member in ap (λ b. b && S y) (not_zero y most (omega arith))
  | inr other ↦ without (nat_le 1 y && nat_le y most) (not (nat_eq y 0)) (S y) other
])
  where
    not_zero : (y most : ℕ) → y ≤ most → (nat_le 1 y && nat_le y most) ≡ not (nat_eq y 0)
    not_zero y most small = grind (arith, nat_tests)

    without : (a b s : Bool) → s ≡ false → (a && s) ≡ (b && s)
    without a b s e = grind arith

-- where 0 is no member all members are divisors
pub divisors_whole : (w x : ℕ) (S : ℕ → Bool) → S 0 ≡ false → x < 2 ^ w → S x ≡ true → Some (ends_of w S) ≡ divisors_of w S
unfolding divisors_of meet
divisors_whole w x S none fits member = sym (ap (ends_in w) same ∙ ends_some w S x fits member)
  where
    without : (y : ℕ) (s : Bool) → s ≡ false → (not (nat_eq y 0) && s) ≡ s
    without y s e = grind arith

    with_other : (y : ℕ) (s : Bool) → y ≢ 0 → (not (nat_eq y 0) && s) ≡ s
    with_other y s other = grind (arith, nat_tests)

    same : divisors_in S ≡ S
    same = fun_ext (λ y. elim (cases_eq y 0) [
      | inl zero_there ↦ let off : S y ≡ false = ap S zero_there ∙ none in without y (S y) off
      | inr other ↦ with_other y (S y) other
    ])

-- ---- a part of a set

pub part_fact : (w : ℕ) (S : ℕ → Bool) (o : Option Numbers) → o ≡ sharp_of w 0 S → IfSome o (IsFact w)
part_fact w S None same = tt
part_fact w S (Some n) same =
    let all = pow_pos w in
    sharp_fact w (full_span w) S n (full_is_arc w (2 ^ w - 1) (omega arith)) (λ x fits member. in_full w x fits) (sharp_tells w 0 S n all (sym same))

pub part_reaches : (w : ℕ) (S : ℕ → Bool) (o : Option Numbers) → ((x : ℕ) → S x ≡ true → x < 2 ^ w) → o ≡ sharp_of w 0 S →
    MatchOption o (IsTrue (is_empty w S)) (λ n. Reaches S n.first n.last)
unfolding is_empty
part_reaches w S None fits same = ap not (none_found (2 ^ w) S (sharp_none_tells w 0 S (pow_pos w) (sym same)))
part_reaches w S (Some n) fits same =
    let is = sharp_tells w 0 S n (pow_pos w) (sym same) in
    record {
      first_in = is.first.member;
      last_in = is.last.member;
      from = λ x member.
          let less = is.first.first x (fits x member) member in
          let a = from_zero w n.first is.first.fits in let b = from_zero w x (fits x member) in omega arith;
      upto = λ x member.
          let more = is.last.last x (fits x member) member in
          let a = from_zero w n.last is.last.fits in let b = from_zero w x (fits x member) in omega arith;
    }

-- ---- the ends of a set by those of its numbers below the middle and of those from there on

pub ends_by : (w : ℕ) (T : ℕ → Bool) (a b c d : ℕ) → 1 ≤ w → IsFirst w 0 T a → IsLast w 0 T b → IsFirst w (2 ^ (w - 1)) T c → IsLast w (2 ^ (w - 1)) T d →
    ends_in w T ≡ Some (record { lo = a; hi = b; slo = signed_of w c; shi = signed_of w d })
ends_by w T a b c d one first last signed_first signed_last =
    ends_some w T a first.fits first.member
    ∙ ap Some (sym (ends_are w a b (signed_of w c) (signed_of w d) T (least_first w T a first) (greatest_last w T b last)
    (signed_least w T c one signed_first) (signed_greatest w T d one signed_last)))

module _ (w : ℕ) (T B U : ℕ → Bool) (one : 1 ≤ w) (fits : (x : ℕ) → T x ≡ true → x < 2 ^ w)
    (low : (x : ℕ) → B x ≡ true → (T x ≡ true) × (x < 2 ^ (w - 1))) (high : (x : ℕ) → U x ≡ true → (T x ≡ true) × (2 ^ (w - 1) ≤ x))
    (split : (x : ℕ) → T x ≡ true → (B x ≡ true) ⊎ (U x ≡ true)) where
  -- the first number in an order is one that no member comes before
  unsigned_first : (x : ℕ) → T x ≡ true → ((y : ℕ) → T y ≡ true → x ≤ y) → IsFirst w 0 T x
  unsigned_first x member least = record {
    fits = fits x member;
    member = member;
    first = λ y hy is. let a = from_zero w x (fits x member) in let b = from_zero w y hy in let less = least y is in omega arith;
  }

  unsigned_last : (x : ℕ) → T x ≡ true → ((y : ℕ) → T y ≡ true → y ≤ x) → IsLast w 0 T x
  unsigned_last x member greatest = record {
    fits = fits x member;
    member = member;
    last = λ y hy is. let a = from_zero w x (fits x member) in let b = from_zero w y hy in let more = greatest y is in omega arith;
  }

  signed_before : (x y : ℕ) → x < 2 ^ w → y < 2 ^ w → ((x < 2 ^ (w - 1)) → (y < 2 ^ (w - 1)) × (x ≤ y)) → (2 ^ (w - 1) ≤ x → 2 ^ (w - 1) ≤ y → x ≤ y) →
      steps w (2 ^ (w - 1)) x ≤ steps w (2 ^ (w - 1)) y
  signed_before x y hx hy below above = let a = signed_place w x one hx in let b = signed_place w y one hy in grind (arith, a, b, below, above)

  -- both have members: the unsigned order goes through B and then U, the signed one through U and then B
  pub ends_of_both : (p q r s : ℕ) → Reaches B p q → Reaches U r s →
      ends_in w T ≡ Some (record { lo = p; hi = s; slo = signed_of w r; shi = signed_of w q })
  ends_of_both p q r s b u =
      let pt = low p b.first_in in let qt = low q b.last_in in let rt = high r u.first_in in let st = high s u.last_in in
      ends_by w T p s r q one
      (unsigned_first p pt.0 (λ y is. elim (split y is) [
        | inl here ↦ b.from y here
        | inr there ↦ let more = (high y there).1 in omega (arith, pt.1)
      ]))
      (unsigned_last s st.0 (λ y is. elim (split y is) [
        | inl here ↦ let less = (low y here).1 in omega (arith, st.1)
        | inr there ↦ u.upto y there
      ]))
      (record {
        fits = fits r rt.0;
        member = rt.0;
        first = λ y hy is. signed_before r y (fits r rt.0) hy (λ less. absurd (omega (arith, rt.1))) (λ _ more. elim (split y is) [
          | inl here ↦ absurd (let less = (low y here).1 in omega arith)
          | inr there ↦ u.from y there
        ]);
      })
      (record {
        fits = fits q qt.0;
        member = qt.0;
        last = λ y hy is. signed_before y q hy (fits q qt.0) (λ less. elim (split y is) [
          | inl here ↦ (qt.1, b.upto y here)
          | inr there ↦ absurd (let more = (high y there).1 in omega arith)
        ]) (λ _ more. absurd (omega (arith, qt.1)));
      })

  pub ends_of_low : (p q : ℕ) → Reaches B p q → ((x : ℕ) → U x ≡ true → ⊥) →
      ends_in w T ≡ Some (record { lo = p; hi = q; slo = signed_of w p; shi = signed_of w q })
  ends_of_low p q b none =
      let pt = low p b.first_in in let qt = low q b.last_in in
      let here : (y : ℕ) → T y ≡ true → B y ≡ true = λ y is. elim (split y is) [ inl one ↦ one | inr there ↦ absurd (none y there) ] in
      ends_by w T p q p q one
      (unsigned_first p pt.0 (λ y is. b.from y (here y is)))
      (unsigned_last q qt.0 (λ y is. b.upto y (here y is)))
      (record { fits = fits p pt.0; member = pt.0; first = λ y hy is. signed_before p y (fits p pt.0) hy (λ _. ((low y (here y is)).1, b.from y (here y is))) (λ more _. absurd (omega (arith, pt.1))) })
      (record { fits = fits q qt.0; member = qt.0; last = λ y hy is. signed_before y q hy (fits q qt.0) (λ _. (qt.1, b.upto y (here y is))) (λ _ more. absurd (omega (arith, qt.1))) })

  pub ends_of_high : (r s : ℕ) → Reaches U r s → ((x : ℕ) → B x ≡ true → ⊥) →
      ends_in w T ≡ Some (record { lo = r; hi = s; slo = signed_of w r; shi = signed_of w s })
  ends_of_high r s u none =
      let rt = high r u.first_in in let st = high s u.last_in in
      let there : (y : ℕ) → T y ≡ true → U y ≡ true = λ y is. elim (split y is) [ inl here ↦ absurd (none y here) | inr one ↦ one ] in
      ends_by w T r s r s one
      (unsigned_first r rt.0 (λ y is. u.from y (there y is)))
      (unsigned_last s st.0 (λ y is. u.upto y (there y is)))
      (record { fits = fits r rt.0; member = rt.0; first = λ y hy is. signed_before r y (fits r rt.0) hy (λ less. absurd (omega (arith, rt.1))) (λ _ _. u.from y (there y is)) })
      (record { fits = fits s st.0; member = st.0; last = λ y hy is. signed_before y s hy (fits s st.0) (λ less. absurd (let more = (high y (there y is)).1 in omega arith)) (λ _ _. u.upto y (there y is)) })
