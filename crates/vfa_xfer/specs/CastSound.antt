-- Each number that a conversion gives is one of its row's.
use Rattle.std.proofs.Common.{◌≡◌, ℕ, suc, ◌+◌, ◌-◌, ◌*◌, ◌%◌, ◌^◌, ◌<◌, ◌≤◌, Bool, true, false, not, ◌&&◌, ◌||◌, cond, refl, sym, ◌∙◌, ap, subst, arith, ◌⊎◌, inl, inr, Option, Some, None, pos, negsuc, ◌≤ℤ◌, ℤ, nat_lt, mod-eq_of_lt, pow_mono}
use Rattle.std.specs.Prelude.{IsTrue, IsSomeAnd, int_le, int_lt}
use Rattle.std.proofs.lemmas.Bool.{cases_lt, true≢false, and_parts, ltb-true}
use Rattle.std.proofs.lemmas.Int.{ints}
use Rattle.std.proofs.lemmas.Nat.{pow_pos, pow_below, mod_below}
use Rattle.std.proofs.Math.Nat.{mod-add-mod}
use Rattle.vfa_ir.specs.declared.operations.Cast.{Cast}
use Rattle.vfa_ir.specs.declared.operations.CastFlags.{CastFlags}
use Rattle.vfa_ir.specs.Typed.{Converts}
use Rattle.vfa_word.specs.Numbers.{IsWidth, wrap, signed_of, fits_unsigned, fits_signed}
use Rattle.vfa_word.proofs.Wrapping.{narrower_mod, power_split, wrap_negative, wrap_below}
use Rattle.vfa_word.proofs.Readings.{reading_low, reading_high}
use Rattle.vfa_mean.specs.declared.value.Done.{Done}
use Rattle.vfa_mean.specs.declared.value.Val.{Val}
use Rattle.vfa_mean.specs.Meaning.{Allowed, Gave, of_one}
use Rattle.vfa_mean.specs.Rows.{number_unless, is_negative, convert}
use Rattle.vfa_dom.specs.Results.{images}
use Rattle.vfa_dom.proofs.ResultSets.{images_passes}
use Rattle.vfa_known.specs.Cube.{in_masks}
use Rattle.vfa_wrap.specs.Arc.{Span, IsArc, steps, in_span, arc_from, full_span}
use Rattle.vfa_wrap.specs.Between.{Between}
use Rattle.vfa_wrap.specs.Ends.{EndsOf}
use Rattle.vfa_wrap.specs.WholeSpans.{read_ends, fits_read, misses_range, lies_in_range, clamped_span}
use Rattle.vfa_wrap.specs.declared.reading.Reading.{Reading}
use Rattle.vfa_wrap.proofs.Circle.{in_full, in_from, in_ahead, steps_back, arc_from-mod}
use Rattle.vfa_wrap.proofs.RowArcs.{FitsHalf, arc_from_holds, sarc_holds, half_twice}
use Rattle.vfa_wrap.proofs.SignedRowLaws.{slo_fits, shi_fits}
use Rattle.vfa_wrap.proofs.SpanLaws.{Lies, lies_tells, misses_tells, clamped_holds, bound_some}
use Rattle.vfa_wrap.proofs.WholePlaceLaws.{clamped_within}
use Rattle.vfa_fact.specs.declared.numbers.Numbers.{Numbers}
use Rattle.vfa_fact.specs.Cells.{CellValue, IsCell, in_option}
use Rattle.vfa_fact.specs.Fact.{masks_in, span_in, in_numbers}
use Rattle.vfa_fact.proofs.JoinedCells.{AreFacts}
use Rattle.vfa_xfer.specs.AnyFacts.{CellHolds}
use Rattle.vfa_xfer.specs.Binary.{ends_in_numbers}
use Rattle.vfa_xfer.specs.Bounds.{both_bounds}
use Rattle.vfa_xfer.specs.Casts.{converted, cast_masks, truncated_span, cast_arc, ends_bound, first_bound, second_bound, cast_row, keeps_number, cast_by_row, cast_cell}
use Rattle.vfa_xfer.specs.Rows.{row_numbers}
use Rattle.vfa_xfer.specs.Arcs.{full_arc, from_arc, either_arc}
use Rattle.vfa_xfer.specs.CompareLaws.{not_negative}
use Rattle.vfa_xfer.specs.Operand.{IsOperand, operand}
use Rattle.vfa_xfer.specs.RowSets.{best_in, bound_if_holds, both_hold, row_of_holds}
use Rattle.vfa_xfer.specs.StrictLaws.{IsPlain, plain_unless, one_held}

-- ---- low bits

-- the low bits of a reading are those of the number
pub low_of_reading : (v w x : ℕ) → w ≤ v → x < 2 ^ v → wrap w (signed_of v x) ≡ x % 2 ^ w
low_of_reading v w x less fits = elim (cases_lt x (2 ^ (v - 1))) [
  | inl below ↦ ap (wrap w) (reading_low v x below)
  | inr above ↦
      let split = power_split v w less in
      let sum : x + suc (2 ^ v - 1 - x) ≡ 2 ^ (v - w) * 2 ^ w = omega (arith, split) in
      ap (wrap w) (reading_high v x above fits) ∙ sym (wrap_negative w x (2 ^ v - 1 - x) (2 ^ (v - w)) sum)
]

-- a number so many steps up from another, at a lesser width
low_steps : (v w f x k : ℕ) → w ≤ v → (f + k) % 2 ^ v ≡ x → (f % 2 ^ w + k) % 2 ^ w ≡ x % 2 ^ w
low_steps v w f x k less e =
    mod-add-mod f (2 ^ w) k ∙ sym (narrower_mod (f + k) v w less) ∙ ap (λ n. n % 2 ^ w) e

truncated_here : (v w x : ℕ) (s : Span) → w ≤ v → s.first < 2 ^ v → s.last < 2 ^ v → in_span v s x ≡ true → IsTrue (in_span w (truncated_span v w s) (x % 2 ^ w))
unfolding truncated_span
truncated_here v w x s less hf hl here = by_test (nat_lt (steps v s.first s.last + 1) (2 ^ w)) refl
  where
    part : steps v s.first s.last + 1 < 2 ^ w → IsTrue (in_span w (arc_from w s.first s.last) (x % 2 ^ w))
    part room =
        let there = in_from v s x here in
        let f : ℕ = s.first % 2 ^ w in
        let n : ℕ = steps v s.first s.last in
        let k : ℕ = steps v s.first x in
        let last : (s.first % 2 ^ w + steps v s.first s.last) % 2 ^ w ≡ s.last % 2 ^ w = low_steps v w s.first s.last (steps v s.first s.last) less (steps_back v s.first s.last hf hl) in
        let at : (s.first % 2 ^ w + steps v s.first x) % 2 ^ w ≡ x % 2 ^ w = low_steps v w s.first x (steps v s.first x) less (steps_back v s.first x hf there.0) in
        let arc : arc_from w (s.first % 2 ^ w) (s.first % 2 ^ w + steps v s.first s.last) ≡ arc_from w s.first s.last =
        sym (arc_from-mod w (s.first % 2 ^ w) (s.first % 2 ^ w + steps v s.first s.last))
        ∙ (λ i. arc_from w (twice i) (last i)) ∙ arc_from-mod w s.first s.last in
        let in' = in_ahead w (s.first % 2 ^ w) (steps v s.first s.last) (steps v s.first x) (mod_below s.first (2 ^ w) (pow_pos w)) (omega arith) there.1 in
        subst (λ (a : Span). IsTrue (in_span w a (x % 2 ^ w))) arc
        (subst (λ (r : ℕ). IsTrue (in_span w (arc_from w (s.first % 2 ^ w) (s.first % 2 ^ w + steps v s.first s.last)) r)) at in')
      where
        twice : s.first % 2 ^ w % 2 ^ w ≡ s.first % 2 ^ w
        twice = mod-eq_of_lt (mod_below s.first (2 ^ w) (pow_pos w))

    by_test : (t : Bool) → nat_lt (steps v s.first s.last + 1) (2 ^ w) ≡ t → IsTrue (in_span w (cond t (arc_from w s.first s.last) (full_span w)) (x % 2 ^ w))
    by_test true e = part (ltb-true (steps v s.first s.last + 1) (2 ^ w) e)
    by_test false e = in_full w (x % 2 ^ w) (mod_below x (2 ^ w) (pow_pos w))

-- ---- bounds by ends

missed : (b : Bool) → (b ≡ true → ⊥) → false ≡ b
missed true h = absurd (h refl)
missed false h = refl

-- a whole number between the ends that is in the range is, as a number, in their bound
bound_has : (r : Reading) (w : ℕ) (e : EndsOf) (z : ℤ) → 1 ≤ w → Lies (read_ends r e).least z (read_ends r e).most → fits_read r w z ≡ true →
    IsSomeAnd (ends_bound r w e) (λ s. IsTrue (in_span w s (wrap w z)))
bound_has r w e z wide lies fits =
    let hits = missed (misses_range r w (read_ends r e)) (λ m. true≢false (sym fits ∙ misses_tells r w (read_ends r e) z m lies)) in
    let some = bound_some r w (read_ends r e) (clamped_span r w (read_ends r e)) hits refl in
    let here = clamped_holds r w (read_ends r e) z wide lies in
    subst (λ (o : Option Span). IsSomeAnd o (λ s. IsTrue (in_span w s (wrap w z)))) some
    (subst (λ (n : ℕ). IsTrue (in_span w (clamped_span r w (read_ends r e)) n)) (sym (clamped_within r w z wide fits)) here)

-- ---- rows

-- whether a flag is broken
abbrev is_broken : Cast → CastFlags → ℕ → ℕ → ℕ → Bool
is_broken Cast.Zext flags v w x = flags.nneg && is_negative v x
is_broken Cast.Sext flags v w x = false
is_broken Cast.Trunc flags v w x = flags.nuw && not (fits_unsigned w (pos x)) || flags.nsw && not (fits_signed w (signed_of v x))

convert_is : (cast : Cast) (flags : CastFlags) (v w x : ℕ) → convert cast flags v w x ≡ number_unless (is_broken cast flags v w x) (converted cast v w x)
convert_is Cast.Zext flags v w x = refl
convert_is Cast.Sext flags v w x = refl
convert_is Cast.Trunc flags v w x = refl

none_of_both : (a b : Bool) → (a || b) ≡ false → (a ≡ false) × (b ≡ false)
none_of_both true b e = absurd (true≢false e)
none_of_both false b e = (refl, e)

asked_fits : (asked fits : Bool) → (asked && not fits) ≡ false → asked ≡ true → fits ≡ true
asked_fits true true e on = refl
asked_fits true false e on = absurd (true≢false e)
asked_fits false fits e on = absurd (true≢false (sym on))

asked_off : (asked t : Bool) → (asked && t) ≡ false → asked ≡ true → t ≡ false
asked_off true t e on = e
asked_off false t e on = absurd (true≢false (sym on))

below_half : (v x : ℕ) → x < 2 ^ v → is_negative v x ≡ false → x ≤ 2 ^ (v - 1) - 1
below_half v x fits off = elim (cases_lt x (2 ^ (v - 1))) [
  | inl below ↦ omega arith
  | inr above ↦ absurd (let e = reading_high v x above fits in true≢false (sym (negative_of (signed_of v x) (2 ^ v - 1 - x) e) ∙ off))
]
  where
    negative_of : (z : ℤ) (n : ℕ) → z ≡ negsuc n → int_lt z (pos 0) ≡ true
    negative_of z n e = rw e refl

module _ (cast : Cast) (flags : CastFlags) (v w : ℕ) (n : Numbers) (p : ℕ) (px : IsOperand v n p) (width : IsWidth w) (converts : Converts cast v w) where
  abbrev ends : EndsOf
  ends = ends_in_numbers v n

  image_bits : converted cast v w p < 2 ^ w → in_masks w (cast_masks cast v w n) (converted cast v w p) ≡ true
  unfolding cast_masks
  image_bits fits = best_in w (images v (converted cast v w) (in_masks v (masks_in n))) (converted cast v w p) fits
      (images_passes v (converted cast v w) (in_masks v (masks_in n)) (converted cast v w p) (record { from = p; fits = px.fits; from_in = px.bits; is = refl }))

more_power : (v w n : ℕ) → v < w → n < 2 ^ v → n < 2 ^ w
more_power v w n wider fits = let more = pow_below v w wider in omega arith

wider_half : (v w : ℕ) (z : ℤ) → v < w → FitsHalf (2 ^ (v - 1)) z → FitsHalf (2 ^ (w - 1)) z
wider_half v w z wider fits = let more : 2 ^ (v - 1) ≤ 2 ^ (w - 1) = pow_mono {i = v - 1} {j = w - 1} (omega arith) in omega arith

-- the number is in the arc and within the bounds
record IsWithin (cast : Cast) (flags : CastFlags) (v w : ℕ) (n : Numbers) (e : EndsOf) (r : ℕ) : Type 0 where
  pub fits : r < 2 ^ w
  pub here : IsTrue (in_span w (cast_arc cast v w n e) r)
  pub one : IsSomeAnd (first_bound cast flags v w e) (λ s. IsTrue (in_span w s r))
  pub two : IsSomeAnd (second_bound cast flags w e) (λ s. IsTrue (in_span w s r))

within : (cast : Cast) (flags : CastFlags) (v w : ℕ) (n : Numbers) (p : ℕ) → IsOperand v n p → IsWidth w → Converts cast v w → is_broken cast flags v w p ≡ false →
    IsWithin cast flags v w n (ends_in_numbers v n) (converted cast v w p)
unfolding cast_arc
within Cast.Zext flags v w n p px width wider whole =
    let fits = more_power v w p wider px.fits in
    record {
      fits = fits;
      here = arc_from_holds w (ends_in_numbers v n).lo (ends_in_numbers v n).hi p px.between.from px.between.upto (more_power v w (ends_in_numbers v n).hi wider px.ends.hi.fits);
      one = bound_if_holds flags.nneg w (Some (arc_from w 0 (2 ^ (v - 1) - 1))) p fits (λ asked.
          let half = half_twice v px.width.least in
          let some = pow_pos (v - 1) in
          arc_from_holds w 0 (2 ^ (v - 1) - 1) p (omega arith) (below_half v p px.fits (asked_off flags.nneg (is_negative v p) whole asked))
          (more_power v w (2 ^ (v - 1) - 1) wider (omega arith)));
      two = in_full w p fits;
    }
within Cast.Sext flags v w n p px width wider whole =
    let e : EndsOf = ends_in_numbers v n in
    record {
      fits = wrap_below w (signed_of v p);
      here = sarc_holds w (ends_in_numbers v n).slo (ends_in_numbers v n).shi (signed_of v p) width.least
          (wider_half v w (ends_in_numbers v n).slo wider (slo_fits v (ends_in_numbers v n) px.width.least px.ends))
          (wider_half v w (ends_in_numbers v n).shi wider (shi_fits v (ends_in_numbers v n) px.width.least px.ends)) px.between.signed_from px.between.signed_upto;
      one = in_full w _ (wrap_below w (signed_of v p));
      two = in_full w _ (wrap_below w (signed_of v p));
    }
within Cast.Trunc flags v w n p px width narrower whole =
    let parts = none_of_both (flags.nuw && not (fits_unsigned w (pos p))) (flags.nsw && not (fits_signed w (signed_of v p))) whole in
    let fits = mod_below p (2 ^ w) (pow_pos w) in
    record {
      fits = fits;
      here = truncated_here v w p (span_in n) (omega arith) px.fact.arc.first_fits px.fact.arc.last_fits px.here;
      one = bound_if_holds flags.nuw w (ends_bound Reading.Unsigned w (ends_in_numbers v n)) (p % 2 ^ w) fits (λ asked.
          bound_has Reading.Unsigned w (ends_in_numbers v n) (pos p) width.least (natural_lies (ends_in_numbers v n) p px.between.from px.between.upto)
          (asked_fits flags.nuw (fits_unsigned w (pos p)) parts.0 asked));
      two = bound_if_holds flags.nsw w (ends_bound Reading.Signed w (ends_in_numbers v n)) (p % 2 ^ w) fits (λ asked.
          subst (λ (r : ℕ). IsSomeAnd (ends_bound Reading.Signed w (ends_in_numbers v n)) (λ s. IsTrue (in_span w s r))) (low_of_reading v w p (omega arith) px.fits)
          (bound_has Reading.Signed w (ends_in_numbers v n) (signed_of v p) width.least (record { from = px.between.signed_from; upto = px.between.signed_upto })
          (asked_fits flags.nsw (fits_signed w (signed_of v p)) parts.1 asked)));
    }
  where
    natural_lies : (e : EndsOf) (x : ℕ) → e.lo ≤ x → x ≤ e.hi → Lies (pos e.lo) (pos x) (pos e.hi)
    natural_lies e x from upto = record { from = omega (arith, ints); upto = omega (arith, ints) }

pub cast_is_arc : (cast : Cast) (v w : ℕ) (n : Numbers) (e : EndsOf) → IsArc w (cast_arc cast v w n e)
unfolding cast_arc truncated_span
cast_is_arc Cast.Zext v w n e = from_arc w e.lo e.hi
cast_is_arc Cast.Sext v w n e = from_arc w (wrap w e.slo) (wrap w e.shi)
cast_is_arc Cast.Trunc v w n e = either_arc w (nat_lt (steps v n.first n.last + 1) (2 ^ w)) (arc_from w n.first n.last) (full_span w) (from_arc w n.first n.last) (full_arc w)

row_has : (cast : Cast) (flags : CastFlags) (v w : ℕ) (n : Numbers) (p : ℕ) → IsOperand v n p → IsWidth w → Converts cast v w → is_broken cast flags v w p ≡ false →
    in_option w (row_numbers w (cast_row cast flags v w n (ends_in_numbers v n))) (converted cast v w p) ≡ true
unfolding cast_row
row_has cast flags v w n p px width converts whole =
    let at = within cast flags v w n p px width converts whole in
    row_of_holds w (cast_masks cast v w n) (Some (cast_arc cast v w n (ends_in_numbers v n)))
    (both_bounds (first_bound cast flags v w (ends_in_numbers v n)) (second_bound cast flags w (ends_in_numbers v n))) (converted cast v w p)
    (cast_is_arc cast v w n (ends_in_numbers v n)) at.fits (image_bits cast flags v w n p px width converts at.fits) at.here
    (both_hold w (first_bound cast flags v w (ends_in_numbers v n)) (second_bound cast flags w (ends_in_numbers v n)) (converted cast v w p) at.one at.two)

-- ---- marks

breaks_one : (asked fits keeps : Bool) → (asked && not fits) ≡ true → (not asked || keeps) ≡ true → (keeps ≡ true → fits ≡ true) → ⊥
breaks_one true true keeps broken kept tells = true≢false (sym broken)
breaks_one true false keeps broken kept tells = true≢false (sym (tells kept))
breaks_one false fits keeps broken kept tells = true≢false (sym broken)

breaks_sign : (asked negative keeps : Bool) → (asked && negative) ≡ true → (not asked || keeps) ≡ true → (keeps ≡ true → negative ≡ false) → ⊥
breaks_sign true negative keeps broken kept tells = true≢false (sym broken ∙ tells kept)
breaks_sign false negative keeps broken kept tells = true≢false (sym broken)

either_of : (a b : Bool) → (a || b) ≡ true → (a ≡ true) ⊎ (b ≡ true)
either_of true b e = inl refl
either_of false b e = inr e

keeps_tell : (cast : Cast) (flags : CastFlags) (v w : ℕ) (e : EndsOf) (p : ℕ) → Between v e p → keeps_number cast flags w e ≡ true → is_broken cast flags v w p ≡ true → ⊥
unfolding keeps_number
keeps_tell Cast.Zext flags v w e p b keeps broken =
    breaks_sign flags.nneg (is_negative v p) (int_le (pos 0) e.slo) broken keeps (λ low. not_negative v p e b low)
keeps_tell Cast.Sext flags v w e p b keeps broken = true≢false (sym broken)
keeps_tell Cast.Trunc flags v w e p b keeps broken =
    let kept = and_parts (not flags.nuw || lies_in_range Reading.Unsigned w (read_ends Reading.Unsigned e)) (not flags.nsw || lies_in_range Reading.Signed w (read_ends Reading.Signed e)) keeps in
    elim (either_of (flags.nuw && not (fits_unsigned w (pos p))) (flags.nsw && not (fits_signed w (signed_of v p))) broken) [
      | inl one ↦ breaks_one flags.nuw (fits_unsigned w (pos p)) (lies_in_range Reading.Unsigned w (read_ends Reading.Unsigned e)) one kept.0
          (λ lies. lies_tells Reading.Unsigned w (read_ends Reading.Unsigned e) (pos p) lies (record { from = natural e.lo p b.from; upto = natural p e.hi b.upto }))
      | inr two ↦ breaks_one flags.nsw (fits_signed w (signed_of v p)) (lies_in_range Reading.Signed w (read_ends Reading.Signed e)) two kept.1
          (λ lies. lies_tells Reading.Signed w (read_ends Reading.Signed e) (signed_of v p) lies (record { from = b.signed_from; upto = b.signed_upto }))
    ]
  where
    natural : (x y : ℕ) → x ≤ y → pos x ≤ℤ pos y
    natural x y less = omega (arith, ints)

-- ---- cells

record IsGiven (broken : Bool) (x n : ℕ) : Type 0 where
  pub whole : broken ≡ false
  pub is : n ≡ x

given_tells : (broken : Bool) (x n : ℕ) → number_unless broken x ≡ Done.Is (Val.Number n) → IsGiven broken x n
given_tells true x n e = absurd (cc)
given_tells false x n e = record { whole = refl; is = cc }

broken_tells : (broken : Bool) (x : ℕ) → number_unless broken x ≡ Done.Is Val.Poison → broken ≡ true
broken_tells true x e = refl
broken_tells false x e = absurd (cc)

by_numbers : (cast : Cast) (flags : CastFlags) (w : ℕ) (a : CellValue) (o : Option Numbers) → IsWidth a.width → IsWidth w → Converts cast a.width w → AreFacts a.width o → a.numbers ≡ o →
    (x r : Val) → CellHolds a x → Allowed (of_one (convert cast flags a.width w) x) (Gave r) → CellHolds (cast_by_row cast flags w a o) r
unfolding in_option
by_numbers cast flags w a (Some n) from to converts facts same =
    one_held (convert cast flags a.width w) a w (row_numbers w (cast_row cast flags a.width w n (ends_in_numbers a.width n))) (a.never_poison && keeps_number cast flags w (ends_in_numbers a.width n))
    (λ p. subst IsPlain (sym (convert_is cast flags a.width w p)) (plain_unless (is_broken cast flags a.width w p) (converted cast a.width w p)))
    (λ e. (and_parts a.never_poison (keeps_number cast flags w (ends_in_numbers a.width n)) e).0)
    (λ p k one e.
    let g = given_tells (is_broken cast flags a.width w p) (converted cast a.width w p) k (sym (convert_is cast flags a.width w p) ∙ e) in
    let in' : in_numbers a.width n p ≡ true = ap (λ (o : Option Numbers). in_option a.width o p) (sym same) ∙ one in
    ap (in_option w (row_numbers w (cast_row cast flags a.width w n (ends_in_numbers a.width n)))) g.is
    ∙ row_has cast flags a.width w n p (operand a.width n p from (facts n refl) in') to converts g.whole)
    (λ on p one e.
    let in' : in_numbers a.width n p ≡ true = ap (λ (o : Option Numbers). in_option a.width o p) (sym same) ∙ one in
    keeps_tell cast flags a.width w (ends_in_numbers a.width n) p (operand a.width n p from (facts n refl) in').between
    (and_parts a.never_poison (keeps_number cast flags w (ends_in_numbers a.width n)) on).1
    (broken_tells (is_broken cast flags a.width w p) (converted cast a.width w p) (sym (convert_is cast flags a.width w p) ∙ e)))
by_numbers cast flags w a None from to converts facts same =
    one_held (convert cast flags a.width w) a w None false
    (λ p. subst IsPlain (sym (convert_is cast flags a.width w p)) (plain_unless (is_broken cast flags a.width w p) (converted cast a.width w p)))
    (λ e. absurd (true≢false (sym e)))
    (λ p k one e. absurd (true≢false (sym (ap (λ (o : Option Numbers). in_option a.width o p) (sym same) ∙ one))))
    (λ on. absurd (true≢false (sym on)))

pub transfer_cast_holds : (cast : Cast) (flags : CastFlags) (w : ℕ) (a : CellValue) → IsCell a → IsWidth w → Converts cast a.width w → (x r : Val) → CellHolds a x →
    Allowed (of_one (convert cast flags a.width w) x) (Gave r) → CellHolds (cast_cell cast flags w a) r
transfer_cast_holds cast flags w a is width converts = by_numbers cast flags w a a.numbers is.width width converts is.fact refl
