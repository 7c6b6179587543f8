-- Spans of whole results: each result lies between their ends, both ends are results, and what that tells of the range of
-- the width.
use Rattle.std.proofs.Common.{◌≡◌, ℕ, suc, ◌-◌, ◌*◌, ◌%◌, ◌^◌, ◌<◌, ◌≤◌, Bool, true, false, not, cond, ℤ, pos, negsuc, refl, sym, ◌∙◌, ap, subst, arith, rules, ◌⊎◌, inl, inr, Option, Some, None}
use Rattle.std.specs.Prelude.{◌≤ℤ◌, ◌+ℤ◌, ◌-ℤ◌, ◌*ℤ◌, int_lt, ◌||◌, IsTrue, IsSomeAnd, IsNone, IfSome, ◌↔◌}
use Rattle.std.specs.Int.{int_max}
use Rattle.std.specs.Option.{option_map}
use Rattle.std.proofs.lemmas.Bool.{cases_Bool, true≢false, and_parts, and_from}
use Rattle.std.proofs.lemmas.Int.{ints, clamps}
use Rattle.std.proofs.lemmas.Nat.{pow_pos, mul-le}
use Rattle.std.proofs.Math.Nat.{mod-eq_of_lt}
use Rattle.std.proofs.Math.Pow.{pow_mono}
use Rattle.vfa_word.proofs.Wrapping.{wrap_below}
use Rattle.vfa_word.proofs.Readings.{below_power}
use Rattle.vfa_word.specs.Numbers.{wrap}
use Rattle.vfa_word.specs.Operations.{clamped_unsigned, clamped_signed}
use Rattle.vfa_word.specs.declared.arith.Arith.{Arith}
use Rattle.vfa_word.specs.declared.arith.Arith.TheVariants.{Add, Sub, Mul, Shl}
use Rattle.vfa_wrap.specs.Arc.{Span, in_span, arc_from}
use Rattle.vfa_wrap.specs.Ends.{EndsOf}
use Rattle.vfa_wrap.specs.Between.{Between, AreEnds}
use Rattle.vfa_wrap.specs.WholeSpans.{WholeSpan, read_ends, whole_read, range_of, fits_read, clamped_read, least_corner, greatest_corner, shifted_whole, span_of_results, lies_in_range, misses_range, overflow_of, clamped_span, bound_of, AreOperandEnds, number_of, HoldsFitting, Overflows, NoneFits}
use Rattle.vfa_wrap.specs.WholePlaces.{place_of, places_of, read_of}
use Rattle.vfa_wrap.specs.declared.places.Place.{Place}
use Rattle.vfa_wrap.specs.declared.places.Places.{Places}
use Rattle.vfa_wrap.specs.RowResults.{result_of}
use Rattle.vfa_wrap.specs.Rows.{HoldsResults}
use Rattle.vfa_wrap.specs.declared.reading.Reading.{Reading}
use Rattle.vfa_wrap.specs.declared.reading.Reading.TheVariants.{Unsigned, Signed}
use Rattle.vfa_wrap.specs.declared.ends_op.EndsOp.{EndsOp}
use Rattle.vfa_wrap.proofs.RowArcs.{FitsHalf, arc_from_holds, sarc_holds}
use Rattle.vfa_wrap.proofs.ProductLaws.{between_products, times_up}
use Rattle.vfa_wrap.proofs.WholePlaceLaws.{inside, beyond, clamped_within, read_number}

-- ---- a whole number between two others
pub record Lies (p z q : ℤ) : Type 0 where
  pub from : p ≤ℤ z
  pub upto : z ≤ℤ q

-- the reading of a number between ends
read_lies : (r : Reading) (w : ℕ) (e : EndsOf) (x : ℕ) → Between w e x → Lies (read_ends r e).least (read_of r w x) (read_ends r e).most
read_lies Unsigned w e x p = record { from = omega (arith, ints, p.from); upto = omega (arith, ints, p.upto) }
read_lies Signed w e x p = record { from = p.signed_from; upto = p.signed_upto }

sum_lies : (p u q s v t : ℤ) → Lies p u q → Lies s v t → Lies (p +ℤ s) (u +ℤ v) (q +ℤ t)
sum_lies p u q s v t h k = record {
  from = omega (arith, ints, h.from, k.from);
  upto = omega (arith, ints, h.upto, k.upto);
}

difference_lies : (p u q s v t : ℤ) → Lies p u q → Lies s v t → Lies (p -ℤ t) (u -ℤ v) (q -ℤ s)
difference_lies p u q s v t h k = record {
  from = omega (arith, ints, h.from, k.upto);
  upto = omega (arith, ints, h.upto, k.from);
}

product_lies : (p u q s v t : ℤ) → Lies p u q → Lies s v t → Lies (least_corner p q s t) (u *ℤ v) (greatest_corner p q s t)
product_lies p u q s v t h k =
    let b = between_products p q s t u v h.from h.upto k.from k.upto in
    record { from = b.0; upto = b.1 }

-- the further a number is shifted, the further it goes from 0
grows : (z : ℤ) (m n : ℕ) → m ≤ n → int_lt z (pos 0) ≡ false → (z *ℤ pos m) ≤ℤ (z *ℤ pos n)
grows (pos k) m n h e = omega (arith, ints, mul-le k m k n (omega arith) h)
grows (negsuc k) m n h e = absurd (true≢false e)

falls : (z : ℤ) (m n : ℕ) → m ≤ n → int_lt z (pos 0) ≡ true → (z *ℤ pos n) ≤ℤ (z *ℤ pos m)
falls (pos k) m n h e = absurd (omega (arith, ints, e))
falls (negsuc k) m n h e = omega (arith, ints, mul-le (suc k) m (suc k) n (omega arith) h)

shift_from : (z : ℤ) (lo t hi : ℕ) (b : Bool) → int_lt z (pos 0) ≡ b → lo ≤ t → t ≤ hi → (z *ℤ pos (2 ^ cond b hi lo)) ≤ℤ (z *ℤ pos (2 ^ t))
shift_from z lo t hi true e h k = falls z (2 ^ t) (2 ^ hi) (pow_mono k) e
shift_from z lo t hi false e h k = grows z (2 ^ lo) (2 ^ t) (pow_mono h) e

shift_upto : (z : ℤ) (lo t hi : ℕ) (b : Bool) → int_lt z (pos 0) ≡ b → lo ≤ t → t ≤ hi → (z *ℤ pos (2 ^ t)) ≤ℤ (z *ℤ pos (2 ^ cond b lo hi))
shift_upto z lo t hi true e h k = falls z (2 ^ lo) (2 ^ t) (pow_mono h) e
shift_upto z lo t hi false e h k = grows z (2 ^ t) (2 ^ hi) (pow_mono k) e

shift_lies : (p u q : ℤ) (lo t hi : ℕ) → Lies p u q → lo ≤ t → t ≤ hi → Lies (shifted_whole p hi lo) (u *ℤ pos (2 ^ t)) (shifted_whole q lo hi)
shift_lies p u q lo t hi h k l = record {
  from = omega (arith, ints, shift_from p lo t hi (int_lt p (pos 0)) refl k l, times_up p u (2 ^ t) h.from);
  upto = omega (arith, ints, times_up u q (2 ^ t) h.upto, shift_upto q lo t hi (int_lt q (pos 0)) refl k l);
}

-- each whole result lies in the span
pub result_lies : (op : Arith) (r : Reading) (w : ℕ) (a b : EndsOf) (x y : ℕ) → Between w a x → Between w b y
    → Lies (span_of_results op r a b).least (whole_read r w op x y) (span_of_results op r a b).most
unfolding span_of_results
result_lies Add Unsigned w a b x y px py = sum_lies _ _ _ _ _ _ (read_lies Unsigned w a x px) (read_lies Unsigned w b y py)
result_lies Add Signed w a b x y px py = sum_lies _ _ _ _ _ _ (read_lies Signed w a x px) (read_lies Signed w b y py)
result_lies Sub Unsigned w a b x y px py = difference_lies _ _ _ _ _ _ (read_lies Unsigned w a x px) (read_lies Unsigned w b y py)
result_lies Sub Signed w a b x y px py = difference_lies _ _ _ _ _ _ (read_lies Signed w a x px) (read_lies Signed w b y py)
result_lies Mul Unsigned w a b x y px py = product_lies _ _ _ _ _ _ (read_lies Unsigned w a x px) (read_lies Unsigned w b y py)
result_lies Mul Signed w a b x y px py = product_lies _ _ _ _ _ _ (read_lies Signed w a x px) (read_lies Signed w b y py)
result_lies Shl Unsigned w a b x t px pt = shift_lies _ _ _ b.lo t b.hi (read_lies Unsigned w a x px) pt.from pt.upto
result_lies Shl Signed w a b x t px pt = shift_lies _ _ _ b.lo t b.hi (read_lies Signed w a x px) pt.from pt.upto

-- ---- both ends of the span are whole results

-- a number between the ends whose reading is z
record Reaches (r : Reading) (w : ℕ) (e : EndsOf) (z : ℤ) : Type 0 where
  pub at : ℕ
  pub between : Between w e at
  pub reads : read_of r w at ≡ z

reaches_least : (r : Reading) (w : ℕ) (e : EndsOf) → AreEnds w e → Reaches r w e (read_ends r e).least
reaches_least Unsigned w e h = record { at = e.lo; between = h.lo; reads = refl }
reaches_least Signed w e h = record { at = wrap w e.slo; between = h.slo; reads = h.slo_read }

reaches_most : (r : Reading) (w : ℕ) (e : EndsOf) → AreEnds w e → Reaches r w e (read_ends r e).most
reaches_most Unsigned w e h = record { at = e.hi; between = h.hi; reads = refl }
reaches_most Signed w e h = record { at = wrap w e.shi; between = h.shi; reads = h.shi_read }

-- two numbers between the ends whose whole result is z
pub record IsWhole (op : Arith) (r : Reading) (w : ℕ) (a b : EndsOf) (z : ℤ) : Type 0 where
  pub left : ℕ
  pub right : ℕ
  pub left_between : Between w a left
  pub right_between : Between w b right
  pub is : whole_read r w op left right ≡ z

pub whole_sum : (r : Reading) (w x y : ℕ) (p q : ℤ) → read_of r w x ≡ p → read_of r w y ≡ q → whole_read r w Add x y ≡ p +ℤ q
whole_sum Unsigned w x y p q e f = λ i. e i +ℤ f i
whole_sum Signed w x y p q e f = λ i. e i +ℤ f i

pub whole_difference : (r : Reading) (w x y : ℕ) (p q : ℤ) → read_of r w x ≡ p → read_of r w y ≡ q → whole_read r w Sub x y ≡ p -ℤ q
whole_difference Unsigned w x y p q e f = λ i. e i -ℤ f i
whole_difference Signed w x y p q e f = λ i. e i -ℤ f i

pub whole_product : (r : Reading) (w x y : ℕ) (p q : ℤ) → read_of r w x ≡ p → read_of r w y ≡ q → whole_read r w Mul x y ≡ p *ℤ q
whole_product Unsigned w x y p q e f = λ i. e i *ℤ f i
whole_product Signed w x y p q e f = λ i. e i *ℤ f i

pub whole_shift : (r : Reading) (w x t n : ℕ) (p : ℤ) → read_of r w x ≡ p → t ≡ n → whole_read r w Shl x t ≡ p *ℤ pos (2 ^ n)
whole_shift Unsigned w x t n p e f = λ i. e i *ℤ pos (2 ^ f i)
whole_shift Signed w x t n p e f = λ i. e i *ℤ pos (2 ^ f i)

module _ (r : Reading) (w : ℕ) (a b : EndsOf) where
  sum_at : (p q : ℤ) → Reaches r w a p → Reaches r w b q → IsWhole Add r w a b (p +ℤ q)
  sum_at p q h k = record {
    left = h.at;
    right = k.at;
    left_between = h.between;
    right_between = k.between;
    is = whole_sum r w h.at k.at p q h.reads k.reads;
  }

  difference_at : (p q : ℤ) → Reaches r w a p → Reaches r w b q → IsWhole Sub r w a b (p -ℤ q)
  difference_at p q h k = record {
    left = h.at;
    right = k.at;
    left_between = h.between;
    right_between = k.between;
    is = whole_difference r w h.at k.at p q h.reads k.reads;
  }

  product_at : (p q : ℤ) → Reaches r w a p → Reaches r w b q → IsWhole Mul r w a b (p *ℤ q)
  product_at p q h k = record {
    left = h.at;
    right = k.at;
    left_between = h.between;
    right_between = k.between;
    is = whole_product r w h.at k.at p q h.reads k.reads;
  }

  -- one of two that a test picks
  pick : (c : Bool) (op : Arith) (u v : ℤ) → IsWhole op r w a b u → IsWhole op r w a b v → IsWhole op r w a b (cond c u v)
  pick true op u v h k = h
  pick false op u v h k = k

  shift_at : (c : Bool) (p : ℤ) (t u : ℕ) → Reaches r w a p → Between w b t → Between w b u → IsWhole Shl r w a b (p *ℤ pos (2 ^ cond c t u))
  shift_at true p t u h k l = record {
    left = h.at;
    right = t;
    left_between = h.between;
    right_between = k;
    is = whole_shift r w h.at t t p h.reads refl;
  }
  shift_at false p t u h k l = record {
    left = h.at;
    right = u;
    left_between = h.between;
    right_between = l;
    is = whole_shift r w h.at u u p h.reads refl;
  }

  module _ (ea : AreEnds w a) (eb : AreEnds w b) where
    least_corner_at : IsWhole Mul r w a b (least_corner (read_ends r a).least (read_ends r a).most (read_ends r b).least (read_ends r b).most)
    least_corner_at =
        let p = reaches_least r w a ea in let q = reaches_most r w a ea in
        let s = reaches_least r w b eb in let t = reaches_most r w b eb in
        pick _ Mul _ _
        (pick _ Mul _ _ (product_at _ _ q t) (product_at _ _ q s))
        (pick _ Mul _ _ (product_at _ _ p t) (product_at _ _ p s))

    greatest_corner_at : IsWhole Mul r w a b (greatest_corner (read_ends r a).least (read_ends r a).most (read_ends r b).least (read_ends r b).most)
    greatest_corner_at =
        let p = reaches_least r w a ea in let q = reaches_most r w a ea in
        let s = reaches_least r w b eb in let t = reaches_most r w b eb in
        pick _ Mul _ _
        (pick _ Mul _ _ (product_at _ _ p s) (product_at _ _ p t))
        (pick _ Mul _ _ (product_at _ _ q s) (product_at _ _ q t))

pub least_is : (op : Arith) (r : Reading) (w : ℕ) (a b : EndsOf) → AreEnds w a → AreEnds w b → IsWhole op r w a b (span_of_results op r a b).least
unfolding span_of_results
least_is Add r w a b ea eb = sum_at r w a b _ _ (reaches_least r w a ea) (reaches_least r w b eb)
least_is Sub r w a b ea eb = difference_at r w a b _ _ (reaches_least r w a ea) (reaches_most r w b eb)
least_is Mul r w a b ea eb = least_corner_at r w a b ea eb
least_is Shl r w a b ea eb = shift_at r w a b _ _ b.hi b.lo (reaches_least r w a ea) eb.hi eb.lo

pub most_is : (op : Arith) (r : Reading) (w : ℕ) (a b : EndsOf) → AreEnds w a → AreEnds w b → IsWhole op r w a b (span_of_results op r a b).most
unfolding span_of_results
most_is Add r w a b ea eb = sum_at r w a b _ _ (reaches_most r w a ea) (reaches_most r w b eb)
most_is Sub r w a b ea eb = difference_at r w a b _ _ (reaches_most r w a ea) (reaches_least r w b eb)
most_is Mul r w a b ea eb = greatest_corner_at r w a b ea eb
most_is Shl r w a b ea eb = shift_at r w a b _ _ b.lo b.hi (reaches_most r w a ea) eb.lo eb.hi

pub second_ends : (op : Arith) (w : ℕ) (b : EndsOf) → AreOperandEnds op w b → AreEnds w b
second_ends Add w b e = e
second_ends Sub w b e = e
second_ends Mul w b e = e
second_ends Shl w b e = e.0

pub amount_below : (op : Arith) (w : ℕ) (b : EndsOf) (y : ℕ) → AreOperandEnds op w b → Between w b y → op ≡ Shl → y < w
amount_below Add w b y e p same = absurd (cc)
amount_below Sub w b y e p same = absurd (cc)
amount_below Mul w b y e p same = absurd (cc)
amount_below Shl w b y e p same = omega (arith, e.1, p.upto)

-- ---- the ends of the span as the code finds them

pub least_natural : (r : Reading) (w x : ℕ) (e : EndsOf) → r ≡ Unsigned → AreEnds w e → x ≡ e.lo % 2 ^ w → read_of r w x ≡ (read_ends r e).least
least_natural r w x e h ends is = subst (λ s. read_of s w x ≡ (read_ends s e).least) (sym h) (ap pos (is ∙ mod-eq_of_lt ends.lo.fits))

pub most_natural : (r : Reading) (w x : ℕ) (e : EndsOf) → r ≡ Unsigned → AreEnds w e → x ≡ e.hi % 2 ^ w → read_of r w x ≡ (read_ends r e).most
most_natural r w x e h ends is = subst (λ s. read_of s w x ≡ (read_ends s e).most) (sym h) (ap pos (is ∙ mod-eq_of_lt ends.hi.fits))

-- an amount below the width is a number of the width
pub amount_is : (w t n : ℕ) → t < w → n ≡ t % 2 ^ w → n ≡ t
amount_is w t n h e = e ∙ mod-eq_of_lt (let l = below_power w in omega arith)

pub places_from : (r : Reading) (w : ℕ) (s : WholeSpan) (p q : Place) (y z : ℤ) → p ≡ place_of r w y → y ≡ s.least → q ≡ place_of r w z → z ≡ s.most
    → ◌≡◌ {A = Places} (record { least = p; most = q }) (places_of r w s)
places_from r w s p q y z ep ey eq ez =
    let one = ep ∙ ap (place_of r w) ey in
    let two = eq ∙ ap (place_of r w) ez in
    λ i. record { least = one i; most = two i }

module _ (r : Reading) (w : ℕ) (a b : EndsOf) (p q s t : ℕ)
    (ep : read_of r w p ≡ (read_ends r a).least) (eq : read_of r w q ≡ (read_ends r a).most)
    (es : read_of r w s ≡ (read_ends r b).least) (et : read_of r w t ≡ (read_ends r b).most) where
  pub sum_ends : (whole_read r w Add p s ≡ (span_of_results Add r a b).least) × (whole_read r w Add q t ≡ (span_of_results Add r a b).most)
  unfolding span_of_results
  sum_ends = (whole_sum r w p s _ _ ep es, whole_sum r w q t _ _ eq et)

  pub difference_ends : (whole_read r w Sub p t ≡ (span_of_results Sub r a b).least) × (whole_read r w Sub q s ≡ (span_of_results Sub r a b).most)
  unfolding span_of_results
  difference_ends = (whole_difference r w p t _ _ ep et, whole_difference r w q s _ _ eq es)

  pub product_ends :
      (least_corner (read_of r w p) (read_of r w q) (read_of r w s) (read_of r w t) ≡ (span_of_results Mul r a b).least)
      × (greatest_corner (read_of r w p) (read_of r w q) (read_of r w s) (read_of r w t) ≡ (span_of_results Mul r a b).most)
  unfolding span_of_results
  product_ends = (
    λ i. least_corner (ep i) (eq i) (es i) (et i),
    λ i. greatest_corner (ep i) (eq i) (es i) (et i),
  )

pub shift_place : (r : Reading) (w x n t negative other : ℕ) (b : Bool) (p : Place) → p ≡ place_of r w (whole_read r w Shl x n) → n ≡ t
    → b ≡ int_lt (read_of r w x) (pos 0) → t ≡ cond b negative other → p ≡ place_of r w (shifted_whole (read_of r w x) negative other)
shift_place r w x n t negative other b p ep en eb et =
    ep ∙ ap (place_of r w) (whole_shift r w x n _ (read_of r w x) refl (en ∙ et ∙ ap (λ c. cond c negative other) eb))

pub shift_ends : (r : Reading) (w : ℕ) (a b : EndsOf) (p q : ℕ) → read_of r w p ≡ (read_ends r a).least → read_of r w q ≡ (read_ends r a).most
    → (shifted_whole (read_of r w p) b.hi b.lo ≡ (span_of_results Shl r a b).least) × (shifted_whole (read_of r w q) b.lo b.hi ≡ (span_of_results Shl r a b).most)
unfolding span_of_results
shift_ends r w a b p q ep eq = (ap (λ z. shifted_whole z b.hi b.lo) ep, ap (λ z. shifted_whole z b.lo b.hi) eq)

-- of numbers the least product is that of the least
natural_corners : (p q s t : ℕ) → p ≤ q → s ≤ t
    → (pos (p * s) ≡ least_corner (pos p) (pos q) (pos s) (pos t)) × (pos (q * t) ≡ greatest_corner (pos p) (pos q) (pos s) (pos t))
natural_corners p q s t h k = (
  omega (arith, ints, clamps, mul-le p s p t (omega arith) k, mul-le p s q s h (omega arith), mul-le p s q t h k),
  omega (arith, ints, clamps, mul-le p t q t h (omega arith), mul-le q s q t (omega arith) k, mul-le p s q t h k),
)

pub natural_product_ends : (w : ℕ) (a b : EndsOf) (p q s t : ℕ) → AreEnds w a → AreEnds w b
    → pos p ≡ pos a.lo → pos q ≡ pos a.hi → pos s ≡ pos b.lo → pos t ≡ pos b.hi
    → (whole_read Unsigned w Mul p s ≡ (span_of_results Mul Unsigned a b).least) × (whole_read Unsigned w Mul q t ≡ (span_of_results Mul Unsigned a b).most)
unfolding span_of_results
natural_product_ends w a b p q s t ea eb ep eq es et =
    let n = natural_corners a.lo a.hi b.lo b.hi ea.lo.upto eb.lo.upto in
    (whole_product Unsigned w p s _ _ ep es ∙ n.0, whole_product Unsigned w q t _ _ eq et ∙ n.1)

-- ---- the range of the width

-- a number that no end of the range bounds is in it
fits_from : (r : Reading) (w : ℕ) (z : ℤ) → (range_of r w).least ≤ℤ z → z ≤ℤ (range_of r w).most → fits_read r w z ≡ true
fits_from r w z h k = elim (cases_Bool (fits_read r w z)) [
  | inl fits ↦ fits
  | inr out ↦ absurd (elim (cases_Bool (int_lt z (pos 0))) [
    | inl negative ↦ let low = (beyond r w z out).0 ∙ negative in omega (arith, ints, low, h)
    | inr positive ↦ let high = (beyond r w z out).1 ∙ ap not positive in omega (arith, ints, high, k)
  ])
]

in_range : (r : Reading) (w : ℕ) (z : ℤ) → fits_read r w z ≡ true → Lies (range_of r w).least z (range_of r w).most
in_range r w z fits =
    let e = inside r w z fits in
    record { from = omega (arith, ints, e.0); upto = omega (arith, ints, e.1) }

-- what lies between numbers of the range is in it
fits_between : (r : Reading) (w : ℕ) (p z q : ℤ) → Lies p z q → fits_read r w p ≡ true → fits_read r w q ≡ true → fits_read r w z ≡ true
fits_between r w p z q h e f =
    let one = in_range r w p e in
    let two = in_range r w q f in
    fits_from r w z (omega (arith, ints, one.from, h.from)) (omega (arith, ints, two.upto, h.upto))

pub lies_tells : (r : Reading) (w : ℕ) (s : WholeSpan) (z : ℤ) → lies_in_range r w s ≡ true → Lies s.least z s.most → fits_read r w z ≡ true
unfolding lies_in_range
lies_tells r w s z e h =
    let parts = and_parts (fits_read r w s.least) (fits_read r w s.most) e in
    fits_between r w s.least z s.most h parts.0 parts.1

pub lies_from : (r : Reading) (w : ℕ) (s : WholeSpan) → fits_read r w s.least ≡ true → fits_read r w s.most ≡ true → lies_in_range r w s ≡ true
unfolding lies_in_range
lies_from r w s e f = and_from (fits_read r w s.least) (fits_read r w s.most) e f

or_cases : (a b : Bool) → a || b ≡ true → (a ≡ true) ⊎ (b ≡ true)
or_cases true b e = inl refl
or_cases false b e = inr e

pub misses_tells : (r : Reading) (w : ℕ) (s : WholeSpan) (z : ℤ) → misses_range r w s ≡ true → Lies s.least z s.most → fits_read r w z ≡ false
unfolding misses_range
misses_tells r w s z e h = elim (cases_Bool (fits_read r w z)) [
  | inl fits ↦ absurd (
      let range = in_range r w z fits in
      elim (or_cases (int_lt s.most (range_of r w).least) (int_lt (range_of r w).most s.least) e) [
        | inl low ↦ omega (arith, ints, low, range.from, h.upto)
        | inr high ↦ omega (arith, ints, high, range.upto, h.from)
      ])
  | inr out ↦ out
]

-- a span that misses no number of the range has one of them
or_false : (a b : Bool) → a || b ≡ false → (a ≡ false) × (b ≡ false)
or_false true b e = absurd (true≢false e)
or_false false b e = (refl, e)

meets_at : (r : Reading) (w : ℕ) (s : WholeSpan) → s.least ≤ℤ s.most → misses_range r w s ≡ false
    → (z : ℤ) × (s.least ≤ℤ z) × (z ≤ℤ s.most) × (fits_read r w z ≡ true)
unfolding misses_range
meets_at r w s h e =
    let parts = or_false (int_lt s.most (range_of r w).least) (int_lt (range_of r w).most s.least) e in
    let full = ordered r w in (
      int_max s.least (range_of r w).least,
      omega (arith, ints, clamps),
      omega (arith, ints, clamps, h, parts.0),
      fits_from r w (int_max s.least (range_of r w).least) (omega (arith, ints, clamps)) (omega (arith, ints, clamps, parts.1, full)),
    )
  where
    ordered : (r : Reading) (w : ℕ) → (range_of r w).least ≤ℤ (range_of r w).most
    ordered Unsigned w = omega (arith, ints)
    ordered Signed w = omega (arith, ints)

-- ---- clamped numbers keep their order

clamped_natural : (w : ℕ) (p z : ℤ) → p ≤ℤ z → clamped_unsigned w p ≤ clamped_unsigned w z
clamped_natural w (pos m) (pos n) h = let l : m ≤ n = omega (arith, ints) in omega arith
clamped_natural w (pos m) (negsuc n) h = absurd h.le
clamped_natural w (negsuc m) z h = omega arith

clamped_fits : (w : ℕ) (z : ℤ) → clamped_unsigned w z < 2 ^ w
clamped_fits w (pos n) = omega (arith, pow_pos w)
clamped_fits w (negsuc n) = omega (arith, pow_pos w)

clamped_order : (w : ℕ) (p z : ℤ) → p ≤ℤ z → clamped_signed w p ≤ℤ clamped_signed w z
clamped_order w (pos m) (pos n) h = let l : m ≤ n = omega (arith, ints) in omega (arith, ints)
clamped_order w (pos m) (negsuc n) h = absurd h.le
clamped_order w (negsuc m) (pos n) h = omega (arith, ints)
clamped_order w (negsuc m) (negsuc n) h = let l : n ≤ m = omega (arith, ints) in omega (arith, ints)

clamped_half : (w : ℕ) (z : ℤ) → FitsHalf (2 ^ (w - 1)) (clamped_signed w z)
clamped_half w (pos n) = omega (arith, pow_pos (w - 1))
clamped_half w (negsuc n) = omega (arith, pow_pos (w - 1))

-- the clamped span has each number of the span, clamped
pub clamped_holds : (r : Reading) (w : ℕ) (s : WholeSpan) (z : ℤ) → 1 ≤ w → Lies s.least z s.most → IsTrue (in_span w (clamped_span r w s) (clamped_read r w z))
unfolding clamped_span
clamped_holds Unsigned w s z one h =
    arc_from_holds w (clamped_unsigned w s.least) (clamped_unsigned w s.most) (clamped_unsigned w z)
    (clamped_natural w s.least z h.from) (clamped_natural w z s.most h.upto) (clamped_fits w s.most)
clamped_holds Signed w s z one h =
    sarc_holds w (clamped_signed w s.least) (clamped_signed w s.most) (clamped_signed w z) one
    (clamped_half w s.least) (clamped_half w s.most) (clamped_order w s.least z h.from) (clamped_order w z s.most h.upto)

clamped_read_fits : (r : Reading) (w : ℕ) (z : ℤ) → clamped_read r w z < 2 ^ w
clamped_read_fits Unsigned w z = clamped_fits w z
clamped_read_fits Signed w z = wrap_below w (clamped_signed w z)

pub clamped_arc : (r : Reading) (w : ℕ) (s : WholeSpan) (m n p q : ℕ) → m ≡ clamped_read r w s.least → n ≡ clamped_read r w s.most
    → p ≡ m % 2 ^ w → q ≡ n % 2 ^ w → arc_from w p q ≡ clamped_span r w s
unfolding clamped_span
clamped_arc r w s m n p q em en ep eq =
    let one : p ≡ clamped_read r w s.least = ep ∙ ap (λ k. k % 2 ^ w) em ∙ mod-eq_of_lt (clamped_read_fits r w s.least) in
    let two : q ≡ clamped_read r w s.most = eq ∙ ap (λ k. k % 2 ^ w) en ∙ mod-eq_of_lt (clamped_read_fits r w s.most) in
    λ i. arc_from w (one i) (two i)

-- ---- what the calls say

-- a saturating operation
pub saturation_holds : (e : EndsOp) (op : Arith) (r : Reading) (w : ℕ) (a b : EndsOf) → 1 ≤ w
    → ((x y n : ℕ) → result_of e w x y ≡ Some n → clamped_read r w (whole_read r w op x y) ≡ n)
    → HoldsResults e w a b (Some (clamped_span r w (span_of_results op r a b)))
saturation_holds e op r w a b one is = record {
  holds = λ x y n px py given.
      subst (λ (k : ℕ). IsTrue (in_span w (clamped_span r w (span_of_results op r a b)) k)) (is x y n given)
      (clamped_holds r w (span_of_results op r a b) (whole_read r w op x y) one (result_lies op r w a b x y px py));
}

-- the answers as the code makes them
pub lies_is : (r : Reading) (w : ℕ) (s : WholeSpan) → false ≡ fits_read r w s.least → false ≡ lies_in_range r w s
unfolding lies_in_range
lies_is r w s e = rw (← e) refl

pub lies_rest : (r : Reading) (w : ℕ) (s : WholeSpan) (c : Bool) → true ≡ fits_read r w s.least → c ≡ fits_read r w s.most → c ≡ lies_in_range r w s
unfolding lies_in_range
lies_rest r w s c e f = f ∙ rw (← e) refl

pub overflow_no : (r : Reading) (w : ℕ) (s : WholeSpan) → true ≡ lies_in_range r w s → Some false ≡ overflow_of r w s
unfolding overflow_of
overflow_no r w s e = rw (← e) refl

pub overflow_yes : (r : Reading) (w : ℕ) (s : WholeSpan) → false ≡ lies_in_range r w s → true ≡ misses_range r w s → Some true ≡ overflow_of r w s
unfolding overflow_of
overflow_yes r w s e f = rw (← e, ← f) refl

pub overflow_open : (r : Reading) (w : ℕ) (s : WholeSpan) → false ≡ lies_in_range r w s → false ≡ misses_range r w s → None ≡ overflow_of r w s
unfolding overflow_of
overflow_open r w s e f = rw (← e, ← f) refl

pub bound_empty : (r : Reading) (w : ℕ) (s : WholeSpan) → true ≡ misses_range r w s → None ≡ bound_of r w s
unfolding bound_of
bound_empty r w s e = rw (← e) refl

pub bound_some : (r : Reading) (w : ℕ) (s : WholeSpan) (t : Span) → false ≡ misses_range r w s → t ≡ clamped_span r w s → Some t ≡ bound_of r w s
unfolding bound_of
bound_some r w s t e f = ap Some f ∙ rw (← e) refl

pub none_of_map : {X : Type 0} (o : Option X) (f : X → Span) → (IsNone o → option_map f o ≡ None) × (option_map f o ≡ None → IsNone o)
none_of_map None f = (λ _. refl, λ _. search rules)
none_of_map (Some x) f = (λ n. absurd (search (rules, n)), λ e. cc)

bound_misses : (r : Reading) (w : ℕ) (s : WholeSpan) → (bound_of r w s ≡ None → misses_range r w s ≡ true) × (misses_range r w s ≡ true → bound_of r w s ≡ None)
unfolding bound_of
bound_misses r w s = (empty_where (misses_range r w s) (clamped_span r w s), λ e. rw e refl)
  where
    empty_where : (c : Bool) (t : Span) → cond c None (Some t) ≡ None → c ≡ true
    empty_where true t e = refl
    empty_where false t e = cc

module _ (op : Arith) (r : Reading) (w : ℕ) (a b : EndsOf) (ea : AreEnds w a) (eb : AreOperandEnds op w b) where
  -- the span lies in the range just where each whole result does
  pub each_fits : (answer : Bool) → answer ≡ lies_in_range r w (span_of_results op r a b)
      → IsTrue answer ↔ ((x y : ℕ) → Between w a x → Between w b y → IsTrue (fits_read r w (whole_read r w op x y)))
  each_fits answer e = (
    λ yes x y px py. lies_tells r w (span_of_results op r a b) (whole_read r w op x y) (sym e ∙ yes) (result_lies op r w a b x y px py),
    λ each.
        let least = least_is op r w a b ea (second_ends op w b eb) in
        let most = most_is op r w a b ea (second_ends op w b eb) in
        e ∙ lies_from r w (span_of_results op r a b)
        (subst (λ z. fits_read r w z ≡ true) least.is (each least.left least.right least.left_between least.right_between))
        (subst (λ z. fits_read r w z ≡ true) most.is (each most.left most.right most.left_between most.right_between)),
  )

  pub none_overflows : lies_in_range r w (span_of_results op r a b) ≡ true → Overflows op r w a b false
  none_overflows e = record {
    each = λ x y px py. ap not (lies_tells r w (span_of_results op r a b) (whole_read r w op x y) e (result_lies op r w a b x y px py));
  }

  pub all_overflow : misses_range r w (span_of_results op r a b) ≡ true → Overflows op r w a b true
  all_overflow e = record {
    each = λ x y px py. ap not (misses_tells r w (span_of_results op r a b) (whole_read r w op x y) e (result_lies op r w a b x y px py));
  }

  pub overflow_tells : (o : Option Bool) → o ≡ overflow_of r w (span_of_results op r a b) → IfSome o (λ answer. Overflows op r w a b answer)
  unfolding overflow_of
  overflow_tells o e = subst (λ p. IfSome p (λ answer. Overflows op r w a b answer)) (sym e)
      (told (lies_in_range r w (span_of_results op r a b)) (misses_range r w (span_of_results op r a b)) none_overflows all_overflow)
    where
      told : (c d : Bool) → (c ≡ true → Overflows op r w a b false) → (d ≡ true → Overflows op r w a b true)
          → IfSome (cond c (Some false) (cond d (Some true) None)) (λ answer. Overflows op r w a b answer)
      told true d f g = f refl
      told false true f g = g refl
      told false false f g = search rules

  -- no number of the span is in the range just where the span misses it
  pub misses_is : (misses_range r w (span_of_results op r a b) ≡ true) ↔ NoneFits r w (span_of_results op r a b)
  misses_is = (
    λ e z h k. misses_tells r w (span_of_results op r a b) z e (record { from = h; upto = k }),
    λ none. elim (cases_Bool (misses_range r w (span_of_results op r a b))) [
      | inl sure ↦ sure
      | inr other ↦ absurd (
          let least = least_is op r w a b ea (second_ends op w b eb) in
          let lies = result_lies op r w a b least.left least.right least.left_between least.right_between in
          let order : (span_of_results op r a b).least ≤ℤ (span_of_results op r a b).most =
          subst (λ z. z ≤ℤ (span_of_results op r a b).most) least.is lies.upto in
          let at = meets_at r w (span_of_results op r a b) order other in
          true≢false (sym at.3 ∙ none at.0 at.1 at.2))
    ],
  )

  pub bound_none : {X : Type 0} (o : Option X) (f : X → Span) → option_map f o ≡ bound_of r w (span_of_results op r a b)
      → IsNone o ↔ NoneFits r w (span_of_results op r a b)
  bound_none o f e =
      let n = none_of_map o f in
      let m = bound_misses r w (span_of_results op r a b) in
      (λ i. misses_is.0 (m.0 (sym e ∙ n.0 i)), λ none. n.1 (e ∙ m.1 (misses_is.1 none)))

  -- the number of operands whose whole result is in the range is in the bound
  pub bound_holds : 1 ≤ w → HoldsFitting op r w a b (bound_of r w (span_of_results op r a b))
  unfolding bound_of
  bound_holds one = record {
    holds = λ x y px py fits.
        let z = whole_read r w op x y in
        let s = span_of_results op r a b in
        let lies = result_lies op r w a b x y px py in
        let number : clamped_read r w (whole_read r w op x y) ≡ number_of op w x y =
        sym (clamped_within r w (whole_read r w op x y) one fits)
        ∙ read_number r op w x y px.fits py.fits (amount_below op w b y eb py) in
        some_where (misses_range r w s) (clamped_span r w s) (number_of op w x y)
        (λ e. true≢false (sym fits ∙ misses_tells r w s z e lies))
        (subst (λ (k : ℕ). IsTrue (in_span w (clamped_span r w s) k)) number (clamped_holds r w s z one lies));
  }
    where
      some_where : (c : Bool) (t : Span) (n : ℕ) → (c ≡ true → ⊥) → IsTrue (in_span w t n) → IsSomeAnd (cond c None (Some t)) (λ u. IsTrue (in_span w u n))
      some_where true t n f h = absurd (f refl)
      some_where false t n f h = h

  pub bound_holds_at : (o : Option Span) → 1 ≤ w → o ≡ bound_of r w (span_of_results op r a b) → HoldsFitting op r w a b o
  bound_holds_at o one e = subst (HoldsFitting op r w a b) (sym e) (bound_holds one)
