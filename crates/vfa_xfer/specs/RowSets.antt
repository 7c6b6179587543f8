-- The numbers of rows that are made of known bits, an arc and bounds.
use Rattle.std.proofs.Common.{◌≡◌, ℕ, ◌^◌, ◌<◌, ◌≤◌, Bool, true, false, not, ◌&&◌, ◌||◌, sym, refl, Option, Some, None}
use Rattle.std.specs.Prelude.{IsTrue, IsSomeAnd, IfSome}
use Rattle.std.proofs.lemmas.Bool.{and_from, and_parts}
use Rattle.vfa_ir.specs.declared.operations.Flags.{Flags}
use Rattle.vfa_word.specs.declared.arith.Arith.{Arith}
use Rattle.vfa_dom.specs.Best.{Masks, zeros_of, ones_of, best_of}
use Rattle.vfa_dom.proofs.Bests.{best_has}
use Rattle.vfa_known.specs.Cube.{in_masks}
use Rattle.vfa_known.proofs.Cubes.{best_cube, in_masks_from}
use Rattle.vfa_wrap.specs.Arc.{Span, IsArc, in_span}
use Rattle.vfa_wrap.specs.Between.{Between, AreEnds}
use Rattle.vfa_wrap.specs.Ends.{EndsOf}
use Rattle.vfa_wrap.specs.WholeSpans.{whole_read, fits_read, number_of, AreOperandEnds, lies_in_range, span_of_results}
use Rattle.vfa_wrap.specs.declared.reading.Reading.{Reading}
use Rattle.vfa_wrap.proofs.Circle.{in_full}
use Rattle.vfa_wrap.proofs.SpanLaws.{bound_holds, each_fits}
use Rattle.vfa_fact.specs.declared.numbers.Numbers.{Numbers}
use Rattle.vfa_fact.specs.Cells.{in_option}
use Rattle.vfa_fact.specs.Fact.{IsFact}
use Rattle.vfa_fact.proofs.SharpSets.{Member, member_test}
use Rattle.vfa_xfer.specs.Bounds.{BoundsOf, no_bounds, both_bounds, bound_if, wrap_bounds, row_of, keeps_in_range}
use Rattle.vfa_xfer.specs.Rows.{RowOf, in_row, row_numbers}
use Rattle.vfa_xfer.specs.RowFacts.{row_holds, row_is_fact}

-- a member agrees with the best masks of its set
pub best_in : (w : ℕ) (S : ℕ → Bool) (x : ℕ) → x < 2 ^ w → S x ≡ true → in_masks w (best_of w S) x ≡ true
unfolding best_of
best_in w S x fits passes =
    let member : Member w S x = record { fits = fits; is = passes } in
    let best = best_has w (Member w S) S (member_test w S) in
    in_masks_from w (zeros_of w S) (ones_of w S) (best_cube w (Member w S) (zeros_of w S) (ones_of w S) x best member) x (record {
      fits = fits;
      zero = λ i known. best.zero x i member known;
      one = λ i known. best.one x i member known;
    })

-- ---- bounds

pub record WithinBounds (w : ℕ) (b : BoundsOf) (x : ℕ) : Type 0 where
  pub one : in_span w b.one x ≡ true
  pub two : in_span w b.two x ≡ true

pub bound_if_holds : (asked : Bool) (w : ℕ) (o : Option Span) (x : ℕ) → x < 2 ^ w → (asked ≡ true → IsSomeAnd o (λ s. IsTrue (in_span w s x))) →
    IsSomeAnd (bound_if asked w o) (λ s. IsTrue (in_span w s x))
bound_if_holds true w o x fits holds = holds refl
bound_if_holds false w o x fits holds = in_full w x fits

pub both_hold : (w : ℕ) (o p : Option Span) (x : ℕ) → IsSomeAnd o (λ s. IsTrue (in_span w s x)) → IsSomeAnd p (λ s. IsTrue (in_span w s x)) →
    IsSomeAnd (both_bounds o p) (λ b. WithinBounds w b x)
both_hold w (Some one) (Some two) x h k = record { one = h; two = k }
both_hold w (Some one) None x h k = absurd k
both_hold w None p x h k = absurd h

pub no_bounds_hold : (w x : ℕ) → x < 2 ^ w → IsSomeAnd {T = BoundsOf} (Some (no_bounds w)) (λ b. WithinBounds w b x)
no_bounds_hold w x fits = record { one = in_full w x fits; two = in_full w x fits }

module _ (op : Arith) (flags : Flags) (w : ℕ) (a b : EndsOf) (ea : AreEnds w a) (eb : AreOperandEnds op w b) (x y : ℕ) (px : Between w a x) (py : Between w b y) where
  -- the number of operands that break no flag is within the bounds
  pub wrap_bounds_hold : 1 ≤ w → number_of op w x y < 2 ^ w →
      (flags.nuw ≡ true → fits_read Reading.Unsigned w (whole_read Reading.Unsigned w op x y) ≡ true) →
      (flags.nsw ≡ true → fits_read Reading.Signed w (whole_read Reading.Signed w op x y) ≡ true) →
      IsSomeAnd (wrap_bounds op flags w a b) (λ s. WithinBounds w s (number_of op w x y))
  unfolding wrap_bounds
  wrap_bounds_hold one small unsigned signed = both_hold w _ _ (number_of op w x y)
      (bound_if_holds flags.nuw w _ (number_of op w x y) small (λ asked. (bound_holds op Reading.Unsigned w a b ea eb one).holds x y px py (unsigned asked)))
      (bound_if_holds flags.nsw w _ (number_of op w x y) small (λ asked. (bound_holds op Reading.Signed w a b ea eb one).holds x y px py (signed asked)))

  each : (r : Reading) (asked : Bool) → asked ≡ true → (not asked || lies_in_range r w (span_of_results op r a b)) ≡ true →
      fits_read r w (whole_read r w op x y) ≡ true
  each r true is fits = (each_fits op r w a b ea eb true (sym fits)).0 refl x y px py
  each r false is fits = absurd (cc)

  -- operands between ends that keep the range break no flag
  pub keeps_tells : keeps_in_range op flags w a b ≡ true →
      (flags.nuw ≡ true → fits_read Reading.Unsigned w (whole_read Reading.Unsigned w op x y) ≡ true) ×
      (flags.nsw ≡ true → fits_read Reading.Signed w (whole_read Reading.Signed w op x y) ≡ true)
  unfolding keeps_in_range
  keeps_tells keeps =
      let parts = and_parts (not flags.nuw || lies_in_range Reading.Unsigned w (span_of_results op Reading.Unsigned a b)) (not flags.nsw || lies_in_range Reading.Signed w (span_of_results op Reading.Signed a b)) keeps in
      (λ asked. each Reading.Unsigned flags.nuw asked parts.0, λ asked. each Reading.Signed flags.nsw asked parts.1)

-- ---- rows

row_from : (w : ℕ) (r : RowOf) (x : ℕ) → in_masks w r.cube x ≡ true → in_span w r.one x ≡ true → in_span w r.two x ≡ true → in_row w r x ≡ true
unfolding in_row
row_from w r x cube one two = and_from (in_masks w r.cube x) (in_span w r.one x && in_span w r.two x) cube
    (and_from (in_span w r.one x) (in_span w r.two x) one two)

-- a number that agrees with the masks and lies in the arc and the bounds is one of the row
pub row_of_holds : (w : ℕ) (cube : Masks) (arc : Option Span) (bounds : Option BoundsOf) (x : ℕ) → IfSome arc (IsArc w) → x < 2 ^ w → in_masks w cube x ≡ true →
    IsSomeAnd arc (λ s. IsTrue (in_span w s x)) → IsSomeAnd bounds (λ b. WithinBounds w b x) → in_option w (row_numbers w (row_of cube arc bounds)) x ≡ true
row_of_holds w cube (Some arc) (Some b) x is fits bits here within =
    let r : RowOf = record { cube = cube; arc = arc; one = b.one; two = b.two } in
    row_holds w r _ is refl x fits here (row_from w r x bits within.one within.two)
row_of_holds w cube (Some arc) None x is fits bits here within = absurd within
row_of_holds w cube None b x is fits bits here within = absurd here

-- the numbers of a row are those of a fact
pub row_of_fact : (w : ℕ) (cube : Masks) (arc : Option Span) (bounds : Option BoundsOf) (n : Numbers) → IfSome arc (IsArc w) →
    row_numbers w (row_of cube arc bounds) ≡ Some n → IsFact w n
row_of_fact w cube (Some arc) (Some b) n is same = row_is_fact w (record { cube = cube; arc = arc; one = b.one; two = b.two }) n is same
row_of_fact w cube (Some arc) None n is same = absurd (cc)
row_of_fact w cube None b n is same = absurd (cc)
