-- Each number that an intrinsic of one number gives is one of its row's.
use Rattle.std.proofs.Common.{◌≡◌, ℕ, ◌-◌, ◌^◌, ◌<◌, ◌≤◌, Bool, true, false, not, ◌&&◌, ◌||◌, if◌then◌else◌, nat_eq, refl, sym, ◌∙◌, ap, subst, arith, inl, inr, Option, Some, None, pos, neg_ℤ, ◌≤ℤ◌, ◌<ℤ◌, ℤ}
use Rattle.std.specs.Prelude.{IsTrue, IfSome, IsSomeAnd, int_le, int_lt, unsigned_abs}
use Rattle.std.specs.Option.{option_map}
use Rattle.std.proofs.lemmas.Bool.{cases_lt, true≢false, and_parts, eq-eqb, eqb-true}
use Rattle.std.proofs.lemmas.Bool.Decides.{nat_tests}
use Rattle.std.proofs.lemmas.Int.{ints}
use Rattle.std.proofs.lemmas.Nat.{pow_pos}
use Rattle.vfa_ir.specs.declared.operations.Fun1.{Fun1}
use Rattle.vfa_word.specs.Numbers.{IsWidth, signed_of}
use Rattle.vfa_word.specs.Operations.{absolute_of, one_bits, leading_zero_bits, trailing_zero_bits}
use Rattle.vfa_word.proofs.Readings.{below_power, reading_low, reading_high}
use Rattle.vfa_mean.specs.declared.value.Done.{Done}
use Rattle.vfa_mean.specs.declared.value.Val.{Val}
use Rattle.vfa_mean.specs.Meaning.{Allowed, Gave, of_one}
use Rattle.vfa_mean.specs.Rows.{number_unless, one_number}
use Rattle.vfa_known.specs.Cube.{InCube}
use Rattle.vfa_known.specs.Product.{run_of, is_known_zero}
use Rattle.vfa_known.proofs.Cubes.{in_masks_at}
use Rattle.vfa_known.proofs.Products.{run_found, zero_in_run}
use Rattle.vfa_wrap.specs.Arc.{Span, IsArc, in_span, arc_from, full_span}
use Rattle.vfa_wrap.specs.Between.{Between, AreEnds}
use Rattle.vfa_wrap.specs.Ends.{EndsOf}
use Rattle.vfa_wrap.specs.Rows.{size_of}
use Rattle.vfa_wrap.proofs.Circle.{in_full}
use Rattle.vfa_wrap.proofs.RowArcs.{arc_from_holds, half_twice, half_least, half_most}
use Rattle.vfa_wrap.proofs.SignedRowLaws.{slo_fits, shi_fits, size_bound}
use Rattle.vfa_fact.specs.declared.numbers.Numbers.{Numbers}
use Rattle.vfa_fact.specs.Cells.{CellValue, IsCell, in_option}
use Rattle.vfa_fact.specs.Cuts.{divisors_of}
use Rattle.vfa_fact.specs.Fact.{masks_in, in_numbers}
use Rattle.vfa_fact.proofs.JoinedCells.{AreFacts}
use Rattle.vfa_xfer.specs.AnyFacts.{CellHolds}
use Rattle.vfa_xfer.specs.Binary.{ends_in_numbers, no_masks}
use Rattle.vfa_xfer.specs.Bounds.{no_bounds, bound_if}
use Rattle.vfa_xfer.specs.Counts.{ones_arc, counted_ends, leading_between, leading_arc, most_trailing, trailing_arc, distance_arc, distance_bounds, one_row, avoids_edge, one_by_row, one_cell}
use Rattle.vfa_xfer.specs.Rows.{row_numbers}
use Rattle.vfa_xfer.specs.Arcs.{from_arc, either_arc}
use Rattle.vfa_xfer.specs.CountLaws.{ones_least, ones_most, leading_falls, leading_fit, trailing_fit, trailing_some, trailing_most, trailing_least}
use Rattle.vfa_xfer.specs.ExtremeLaws.{none_known, here_fits}
use Rattle.vfa_xfer.specs.Operand.{IsOperand, operand, divisor}
use Rattle.vfa_xfer.specs.RowSets.{WithinBounds, bound_if_holds, both_hold, no_bounds_hold, row_of_holds}
use Rattle.vfa_xfer.specs.StrictLaws.{IsPlain, plain_unless, one_held}

-- ---- counts

module _ (w : ℕ) (n : Numbers) (p : ℕ) (px : IsOperand w n p) where
  member : InCube w n.zeros n.ones p
  member = in_masks_at w n.zeros n.ones px.cube p px.bits

  ones_here : IsTrue (in_span w (ones_arc w n) (one_bits w p))
  unfolding ones_arc
  ones_here =
      let least = ones_least w n.zeros n.ones p member in
      let most = ones_most w n.zeros n.ones p member in
      let small = below_power w in
      arc_from_holds w (one_bits w n.ones) (w - one_bits w n.zeros) (one_bits w p) least (omega arith) (omega arith)

  -- the ends that count, of a number that does
  counted : (strict : Bool) → (strict && nat_eq p 0) ≡ false → IsSomeAnd (counted_ends strict w n) (λ e. Between w e p)
  unfolding counted_ends
  counted true whole = covered
    where
      other : (p ≡ 0 → ⊥)
      other e = true≢false (sym (eq-eqb p 0 e) ∙ whole)

      covered : IsSomeAnd (divisors_of w (in_numbers w n)) (λ e. Between w e p)
      covered = let d = divisor w n p px other in subst (λ (o : Option EndsOf). IsSomeAnd o (λ e. Between w e p)) (sym d.is) d.covers
  counted false whole = px.between

  leading_in : (o : Option EndsOf) → IsSomeAnd o (λ e. Between w e p) → IsSomeAnd (option_map (leading_between w) o) (λ s. IsTrue (in_span w s (leading_zero_bits w p)))
  leading_in (Some e) b =
      let small = below_power w in
      let fit = leading_fit w e.lo in
      arc_from_holds w (leading_zero_bits w e.hi) (leading_zero_bits w e.lo) (leading_zero_bits w p) (leading_falls w p e.hi b.upto) (leading_falls w e.lo p b.from) (omega arith)
  leading_in None b = absurd b

  leading_here : (strict : Bool) → (strict && nat_eq p 0) ≡ false → IsSomeAnd (leading_arc strict w n) (λ s. IsTrue (in_span w s (leading_zero_bits w p)))
  unfolding leading_arc
  leading_here strict whole = leading_in (counted_ends strict w n) (counted strict whole)

  run_least : run_of w (is_known_zero (masks_in n)) ≤ trailing_zero_bits w p
  run_least = trailing_least w p (run_of w (is_known_zero (masks_in n))) (run_found w (is_known_zero (masks_in n))).within
      (λ i below. zero_in_run w (masks_in n) px.cube p member i below)

  upto : (strict : Bool) → (strict && nat_eq p 0) ≡ false → (trailing_zero_bits w p ≤ most_trailing strict w n) × (most_trailing strict w n < 2 ^ w)
  upto true whole =
      let small = below_power w in
      let most = trailing_most w n.zeros n.ones p member in
      let fit = trailing_fit w n.ones in
      let some = trailing_some w p px.width.least px.fits (λ e. true≢false (sym (eq-eqb p 0 e) ∙ whole)) in
      (omega arith, omega arith)
  upto false whole =
      let small = below_power w in
      let fit = trailing_fit w n.ones in
      (trailing_most w n.zeros n.ones p member, omega arith)

  trailing_in : (strict : Bool) (o : Option EndsOf) → (strict && nat_eq p 0) ≡ false → IsSomeAnd o (λ e. Between w e p) →
      IsSomeAnd (option_map (λ (_ : EndsOf). arc_from w (run_of w (is_known_zero (masks_in n))) (most_trailing strict w n)) o) (λ s. IsTrue (in_span w s (trailing_zero_bits w p)))
  trailing_in strict (Some e) whole b =
      let u = upto strict whole in
      arc_from_holds w (run_of w (is_known_zero (masks_in n))) (most_trailing strict w n) (trailing_zero_bits w p) run_least u.0 u.1
  trailing_in strict None whole b = absurd b

  trailing_here : (strict : Bool) → (strict && nat_eq p 0) ≡ false → IsSomeAnd (trailing_arc strict w n) (λ s. IsTrue (in_span w s (trailing_zero_bits w p)))
  unfolding trailing_arc
  trailing_here strict whole = trailing_in strict (counted_ends strict w n) whole (counted strict whole)

-- ---- distances

size_fits : (half : ℕ) (z : ℤ) → neg_ℤ (pos half) ≤ℤ z → z <ℤ pos half → unsigned_abs z ≤ half
size_fits half z low high = omega (arith, ints)

apart : (p q z : ℤ) → p ≤ℤ z → z ≤ℤ q → int_lt q (pos 0) ≡ true → (unsigned_abs q ≤ unsigned_abs z) × (unsigned_abs z ≤ unsigned_abs p)
apart p q z low high less = (grind (arith, ints, nat_tests), grind (arith, ints, nat_tests))

-- a reading that is not negative is the number
plain : (w x : ℕ) → x < 2 ^ w → pos 0 ≤ℤ signed_of w x → unsigned_abs (signed_of w x) ≡ x
plain w x fits low = elim (cases_lt x (2 ^ (w - 1))) [
  | inl below ↦ ap unsigned_abs (reading_low w x below)
  | inr above ↦ absurd (let e = reading_high w x above fits in omega (arith, ints))
]

at_least : (p z : ℤ) → int_le (pos 0) p ≡ true → p ≤ℤ z → pos 0 ≤ℤ z
at_least p z low more = grind (arith, ints, nat_tests)

module _ (w : ℕ) (e : EndsOf) (p : ℕ) (wide : 1 ≤ w) (ends : AreEnds w e) (b : Between w e p) where
  half_fits : 2 ^ (w - 1) < 2 ^ w
  half_fits = let half = half_twice w wide in let some = pow_pos (w - 1) in omega arith

  low_size : unsigned_abs e.slo ≤ 2 ^ (w - 1)
  low_size = let f = slo_fits w e wide ends in size_fits (2 ^ (w - 1)) e.slo (half_least (2 ^ (w - 1)) e.slo f) (half_most (2 ^ (w - 1)) e.slo f)

  high_size : unsigned_abs e.shi ≤ 2 ^ (w - 1)
  high_size = let f = shi_fits w e wide ends in size_fits (2 ^ (w - 1)) e.shi (half_least (2 ^ (w - 1)) e.shi f) (half_most (2 ^ (w - 1)) e.shi f)

  both_size : size_of e ≤ 2 ^ (w - 1)
  unfolding size_of
  both_size = let one = low_size in let two = high_size in omega arith

  distance_here : IsTrue (in_span w (distance_arc w e) (absolute_of w p))
  unfolding distance_arc
  distance_here = by_tests (int_le (pos 0) e.slo) (int_lt e.shi (pos 0)) refl refl
    where
      by_tests : (s t : Bool) → int_le (pos 0) e.slo ≡ s → int_lt e.shi (pos 0) ≡ t →
          IsTrue (in_span w (if s then arc_from w e.lo e.hi else (if t then arc_from w (unsigned_abs e.shi) (unsigned_abs e.slo) else arc_from w 0 (size_of e))) (absolute_of w p))
      by_tests true t es et =
          subst (λ (r : ℕ). IsTrue (in_span w (arc_from w e.lo e.hi) r)) (sym (plain w p b.fits (at_least e.slo (signed_of w p) es b.signed_from)))
          (arc_from_holds w e.lo e.hi p b.from b.upto ends.hi.fits)
      by_tests false true es et =
          let far = apart e.slo e.shi (signed_of w p) b.signed_from b.signed_upto et in
          let low = low_size in
          let half = half_fits in
          arc_from_holds w (unsigned_abs e.shi) (unsigned_abs e.slo) (absolute_of w p) far.0 far.1 (omega arith)
      by_tests false false es et =
          let all = both_size in
          let half = half_fits in
          arc_from_holds w 0 (size_of e) (absolute_of w p) (omega arith) (size_bound w e p b) (omega arith)

-- the distance of any other value than the least is no negative number
pub near : (w x : ℕ) → 1 ≤ w → x < 2 ^ w → (x ≡ 2 ^ (w - 1) → ⊥) → absolute_of w x ≤ 2 ^ (w - 1) - 1
near w x wide fits other =
    let half = half_twice w wide in
    elim (cases_lt x (2 ^ (w - 1))) [
      | inl below ↦ let e = reading_low w x below in omega (arith, ints)
      | inr above ↦ let e = reading_high w x above fits in omega (arith, ints)
    ]

bounds_in : (w x : ℕ) (strict : Bool) → 1 ≤ w → x < 2 ^ w → absolute_of w x < 2 ^ w → (strict && nat_eq x (2 ^ (w - 1))) ≡ false → IsSomeAnd (distance_bounds strict w) (λ b. WithinBounds w b (absolute_of w x))
bounds_in w x strict wide fits small whole = both_hold w (bound_if strict w (Some (arc_from w 0 (2 ^ (w - 1) - 1)))) (Some (full_span w)) (absolute_of w x)
    (bound_if_holds strict w (Some (arc_from w 0 (2 ^ (w - 1) - 1))) (absolute_of w x) small (λ asked.
    let half = half_twice w wide in
    let some = pow_pos (w - 1) in
    arc_from_holds w 0 (2 ^ (w - 1) - 1) (absolute_of w x) (omega arith) (near w x wide fits (edge strict asked whole)) (omega arith)))
    (in_full w (absolute_of w x) small)
  where
    edge : (s : Bool) → s ≡ true → (s && nat_eq x (2 ^ (w - 1))) ≡ false → x ≡ 2 ^ (w - 1) → ⊥
    edge true on e same = true≢false (sym (eq-eqb x (2 ^ (w - 1)) same) ∙ e)
    edge false on e same = true≢false (sym on)

-- ---- rows

if_map : {A : Type 0} (w : ℕ) (f : A → Span) (o : Option A) → ((a : A) → IsArc w (f a)) → IfSome (option_map f o) (IsArc w)
if_map w f (Some a) each = each a
if_map w f None each = tt

pub leading_is_arc : (strict : Bool) (w : ℕ) (n : Numbers) → IfSome (leading_arc strict w n) (IsArc w)
unfolding leading_arc
leading_is_arc strict w n = if_map w (leading_between w) (counted_ends strict w n) (λ e. from_arc w _ _)

pub trailing_is_arc : (strict : Bool) (w : ℕ) (n : Numbers) → IfSome (trailing_arc strict w n) (IsArc w)
unfolding trailing_arc
trailing_is_arc strict w n = if_map w (λ (_ : EndsOf). arc_from w (run_of w (is_known_zero (masks_in n))) (most_trailing strict w n)) (counted_ends strict w n) (λ e. from_arc w _ _)

pub distance_is_arc : (w : ℕ) (e : EndsOf) → IsArc w (distance_arc w e)
unfolding distance_arc
distance_is_arc w e =
    either_arc w (int_le (pos 0) e.slo) (arc_from w e.lo e.hi)
    (if int_lt e.shi (pos 0) then arc_from w (unsigned_abs e.shi) (unsigned_abs e.slo) else arc_from w 0 (size_of e))
    (from_arc w e.lo e.hi)
    (either_arc w (int_lt e.shi (pos 0)) (arc_from w (unsigned_abs e.shi) (unsigned_abs e.slo)) (arc_from w 0 (size_of e))
    (from_arc w (unsigned_abs e.shi) (unsigned_abs e.slo)) (from_arc w 0 (size_of e)))

pub ones_is_arc : (w : ℕ) (n : Numbers) → IsArc w (ones_arc w n)
unfolding ones_arc
ones_is_arc w n = from_arc w _ _

-- the edge case of the intrinsic, and what it gives of any other number
abbrev is_edge : Fun1 → Bool → ℕ → ℕ → Bool
is_edge Fun1.Abs strict w x = strict && nat_eq x (2 ^ (w - 1))
is_edge Fun1.Ctlz strict w x = strict && nat_eq x 0
is_edge Fun1.Cttz strict w x = strict && nat_eq x 0
is_edge Fun1.Ctpop strict w x = false

abbrev number_of : Fun1 → ℕ → ℕ → ℕ
number_of Fun1.Abs w x = absolute_of w x
number_of Fun1.Ctlz w x = leading_zero_bits w x
number_of Fun1.Cttz w x = trailing_zero_bits w x
number_of Fun1.Ctpop w x = one_bits w x

one_number_is : (fun : Fun1) (strict : Bool) (w x : ℕ) → one_number fun strict w x ≡ number_unless (is_edge fun strict w x) (number_of fun w x)
one_number_is Fun1.Abs strict w x = refl
one_number_is Fun1.Ctlz strict w x = refl
one_number_is Fun1.Cttz strict w x = refl
one_number_is Fun1.Ctpop strict w x = refl

row_has : (fun : Fun1) (strict : Bool) (w : ℕ) (n : Numbers) (p : ℕ) → IsOperand w n p → is_edge fun strict w p ≡ false → in_option w (row_numbers w (one_row fun strict w n)) (number_of fun w p) ≡ true
unfolding one_row
row_has Fun1.Abs strict w n p px whole =
    let here = distance_here w (ends_in_numbers w n) p px.width.least px.ends px.between in
    let fits = here_fits w (absolute_of w p) (Some (distance_arc w (ends_in_numbers w n))) here in
    row_of_holds w no_masks (Some (distance_arc w (ends_in_numbers w n))) (distance_bounds strict w) (absolute_of w p) (distance_is_arc w (ends_in_numbers w n)) fits
    (none_known w (absolute_of w p) fits) here (bounds_in w p strict px.width.least px.fits fits whole)
row_has Fun1.Ctlz strict w n p px whole =
    let here = leading_here w n p px strict whole in
    let fits = here_fits w (leading_zero_bits w p) (leading_arc strict w n) here in
    row_of_holds w no_masks (leading_arc strict w n) (Some (no_bounds w)) (leading_zero_bits w p) (leading_is_arc strict w n) fits
    (none_known w (leading_zero_bits w p) fits) here (no_bounds_hold w (leading_zero_bits w p) fits)
row_has Fun1.Cttz strict w n p px whole =
    let here = trailing_here w n p px strict whole in
    let fits = here_fits w (trailing_zero_bits w p) (trailing_arc strict w n) here in
    row_of_holds w no_masks (trailing_arc strict w n) (Some (no_bounds w)) (trailing_zero_bits w p) (trailing_is_arc strict w n) fits
    (none_known w (trailing_zero_bits w p) fits) here (no_bounds_hold w (trailing_zero_bits w p) fits)
row_has Fun1.Ctpop strict w n p px whole =
    let here = ones_here w n p px in
    let fits = here_fits w (one_bits w p) (Some (ones_arc w n)) here in
    row_of_holds w no_masks (Some (ones_arc w n)) (Some (no_bounds w)) (one_bits w p) (ones_is_arc w n) fits
    (none_known w (one_bits w p) fits) here (no_bounds_hold w (one_bits w p) fits)

-- ---- marks

meets_edge : (s t i : Bool) → (s && t) ≡ true → (not s || not i) ≡ true → (t ≡ true → i ≡ true) → ⊥
meets_edge true t i both avoids tells = true≢false (sym (flipped i avoids (tells both)))
  where
    flipped : (i : Bool) → not i ≡ true → i ≡ true → false ≡ true
    flipped true e f = e
    flipped false e f = f
meets_edge false t i both avoids tells = true≢false (sym both)

avoids_tell : (fun : Fun1) (strict : Bool) (w : ℕ) (n : Numbers) (p : ℕ) → in_numbers w n p ≡ true → avoids_edge fun strict w n ≡ true → is_edge fun strict w p ≡ true → ⊥
unfolding avoids_edge
avoids_tell Fun1.Abs strict w n p in' avoids edge =
    meets_edge strict (nat_eq p (2 ^ (w - 1))) (in_numbers w n (2 ^ (w - 1))) edge avoids (λ e. ap (in_numbers w n) (sym (eqb-true p (2 ^ (w - 1)) e)) ∙ in')
avoids_tell Fun1.Ctlz strict w n p in' avoids edge =
    meets_edge strict (nat_eq p 0) (in_numbers w n 0) edge avoids (λ e. ap (in_numbers w n) (sym (eqb-true p 0 e)) ∙ in')
avoids_tell Fun1.Cttz strict w n p in' avoids edge =
    meets_edge strict (nat_eq p 0) (in_numbers w n 0) edge avoids (λ e. ap (in_numbers w n) (sym (eqb-true p 0 e)) ∙ in')
avoids_tell Fun1.Ctpop strict w n p in' avoids edge = true≢false (sym edge)

-- ---- cells

record IsGiven (broken : Bool) (x n : ℕ) : Type 0 where
  pub whole : broken ≡ false
  pub is : n ≡ x

given_tells : (broken : Bool) (x n : ℕ) → number_unless broken x ≡ Done.Is (Val.Number n) → IsGiven broken x n
given_tells true x n e = absurd (cc)
given_tells false x n e = record { whole = refl; is = cc }

broken_tells : (broken : Bool) (x : ℕ) → number_unless broken x ≡ Done.Is Val.Poison → broken ≡ true
broken_tells true x e = refl
broken_tells false x e = absurd (cc)

by_numbers : (fun : Fun1) (strict : Bool) (a : CellValue) (o : Option Numbers) → IsWidth a.width → AreFacts a.width o → a.numbers ≡ o → (x r : Val) → CellHolds a x →
    Allowed (of_one (one_number fun strict a.width) x) (Gave r) → CellHolds (one_by_row fun strict a o) r
unfolding in_option
by_numbers fun strict a (Some n) width facts same =
    one_held (one_number fun strict a.width) a a.width (row_numbers a.width (one_row fun strict a.width n)) (a.never_poison && avoids_edge fun strict a.width n)
    (λ p. subst IsPlain (sym (one_number_is fun strict a.width p)) (plain_unless (is_edge fun strict a.width p) (number_of fun a.width p)))
    (λ e. (and_parts a.never_poison (avoids_edge fun strict a.width n) e).0)
    (λ p k one e.
    let g = given_tells (is_edge fun strict a.width p) (number_of fun a.width p) k (sym (one_number_is fun strict a.width p) ∙ e) in
    let in' : in_numbers a.width n p ≡ true = ap (λ (o : Option Numbers). in_option a.width o p) (sym same) ∙ one in
    ap (in_option a.width (row_numbers a.width (one_row fun strict a.width n))) g.is
    ∙ row_has fun strict a.width n p (operand a.width n p width (facts n refl) in') g.whole)
    (λ on p one e.
    let in' : in_numbers a.width n p ≡ true = ap (λ (o : Option Numbers). in_option a.width o p) (sym same) ∙ one in
    avoids_tell fun strict a.width n p in' (and_parts a.never_poison (avoids_edge fun strict a.width n) on).1
    (broken_tells (is_edge fun strict a.width p) (number_of fun a.width p) (sym (one_number_is fun strict a.width p) ∙ e)))
by_numbers fun strict a None width facts same =
    one_held (one_number fun strict a.width) a a.width None false
    (λ p. subst IsPlain (sym (one_number_is fun strict a.width p)) (plain_unless (is_edge fun strict a.width p) (number_of fun a.width p)))
    (λ e. absurd (true≢false (sym e)))
    (λ p k one e. absurd (true≢false (sym (ap (λ (o : Option Numbers). in_option a.width o p) (sym same) ∙ one))))
    (λ on. absurd (true≢false (sym on)))

pub transfer_one_holds : (fun : Fun1) (strict : Bool) (a : CellValue) → IsCell a → (x r : Val) → CellHolds a x →
    Allowed (of_one (one_number fun strict a.width) x) (Gave r) → CellHolds (one_cell fun strict a) r
transfer_one_holds fun strict a is = by_numbers fun strict a a.numbers is.width is.fact refl
