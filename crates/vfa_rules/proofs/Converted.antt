-- Conversions between widths.
use Rattle.std.proofs.Common.{◌≡◌, ℕ, ◌-◌, ◌%◌, ◌≤◌, ◌<◌, ◌^◌, Bool, true, false, not, ◌&&◌, ◌||◌, if◌then◌else◌, refl, sym, ◌∙◌, ap, arith, mod-eq_of_lt, pow_mono, pos}
use Rattle.std.specs.Prelude.{nat_lt, int_lt}
use Rattle.std.proofs.lemmas.Bool.{true≢false, and_parts}
use Rattle.std.proofs.lemmas.Bool.Decides.{nat_tests}
use Rattle.vfa_ir.specs.declared.operations.Cast.{Cast}
use Rattle.vfa_ir.specs.declared.operations.CastFlags.{CastFlags}
use Rattle.vfa_ir.specs.Typed.{Converts}
use Rattle.vfa_word.specs.Numbers.{signed_of, wrap, fits_unsigned, fits_signed}
use Rattle.vfa_wrap.specs.WholeSpans.{WholeSpan, lies_in_range}
use Rattle.vfa_wrap.specs.declared.reading.Reading.{Reading}
use Rattle.vfa_wrap.proofs.SpanLaws.{lies_tells, lies_from, Lies}
use Rattle.vfa_fact.specs.Cells.{CellValue}
use Rattle.vfa_mean.specs.declared.value.Done.{Done}
use Rattle.vfa_mean.specs.declared.value.Val.{Val}
use Rattle.vfa_mean.specs.Laws.{AllowsDone}
use Rattle.vfa_mean.specs.Meaning.{of_one}
use Rattle.vfa_mean.specs.Rows.{number_unless, convert, is_negative}
use Rattle.vfa_rules.specs.Conditions.{is_natural, fits_width, fits_width_signed}
use Rattle.vfa_rules.specs.Rules.{unsigned_cast, gained_cast_flags}
use Rattle.vfa_rules.proofs.Allowing.{same_done, unless_allows}
use Rattle.vfa_rules.proofs.BinaryGained.{gained_both}
use Rattle.vfa_rules.proofs.Lifting.{Held, one_sound}
use Rattle.vfa_rules.proofs.OneSign.{gained_whole, low_sign}
use Rattle.vfa_rules.proofs.Shown.{Shown, ends_tell, natural_tells}

module _ (v w : ℕ) (one : 1 ≤ v) (a : CellValue) (u : Val) (p : Held v a u) where
  natural_sign : (x : ℕ) → Shown v a x → is_natural a ≡ true → is_negative v x ≡ false
  natural_sign x hx e = low_sign v x (natural_tells v a x hx e)

  extended : v ≤ w → (flags : CastFlags) → is_natural a ≡ true → AllowsDone (of_one (convert Cast.Sext flags v w) u) (of_one (convert Cast.Zext flags v w) u)
  extended less flags e = one_sound v one a (convert Cast.Sext flags v w) (convert Cast.Zext flags v w) (λ x hx.
      let more = pow_mono less in
      let same : wrap w (signed_of v x) ≡ x = ap (wrap w) (natural_tells v a x hx e) ∙ mod-eq_of_lt (let fits = hx.fits in omega arith) in
      unless_allows false (flags.nneg && is_negative v x) _ x (λ whole. (none flags.nneg (is_negative v x) (natural_sign x hx e), same))) u p
    where
      none : (f n : Bool) → n ≡ false → (f && n) ≡ false
      none true n e = e
      none false n e = refl

  pub cast_unsigned_sound : (cast : Cast) (flags : CastFlags) → Converts cast v w →
      AllowsDone (of_one (convert cast flags v w) u) (of_one (convert (unsigned_cast cast a) flags v w) u)
  cast_unsigned_sound Cast.Zext flags is = same_done _ _ refl
  cast_unsigned_sound Cast.Trunc flags is = same_done _ _ refl
  cast_unsigned_sound Cast.Sext flags is = at (is_natural a) refl
    where
      at : (t : Bool) → is_natural a ≡ t → AllowsDone (of_one (convert Cast.Sext flags v w) u) (of_one (convert (if t then Cast.Zext else Cast.Sext) flags v w) u)
      at true e = extended (omega arith) flags e
      at false e = same_done _ _ refl

  -- ---- gained words

  narrow_unsigned : (x : ℕ) → Shown v a x → fits_width w a ≡ true → not (fits_unsigned w (pos x)) ≡ false
  narrow_unsigned x hx e =
      let low = ends_tell v a x hx (λ c. nat_lt c.hi (2 ^ w)) e in
      let upto = hx.between.upto in
      ap not (let fits : nat_lt x (2 ^ w) ≡ true = grind (arith, nat_tests) in fits)

  narrow_signed : (x : ℕ) → Shown v a x → fits_width_signed w a ≡ true → not (fits_signed w (signed_of v x)) ≡ false
  narrow_signed x hx e =
      let parts = and_parts _ _ (ends_tell v a x hx (λ c. fits_signed w c.slo && fits_signed w c.shi) e) in
      ap not (lies_tells Reading.Signed w _ (signed_of v x) (lies_from Reading.Signed w (record { least = _; most = _ }) parts.0 parts.1)
      (record { from = hx.between.signed_from; upto = hx.between.signed_upto }))

  pub cast_gained_sound : (cast : Cast) (flags : CastFlags) →
      AllowsDone (of_one (convert cast flags v w) u) (of_one (convert cast (gained_cast_flags cast flags w a) v w) u)
  cast_gained_sound Cast.Sext flags = same_done _ _ refl
  cast_gained_sound Cast.Zext flags = one_sound v one a _ _ (λ x hx. unless_allows _ _ _ _ (λ whole. (
    gained_whole flags.nneg (is_natural a) (is_negative v x) (natural_sign x hx) whole,
    refl,
  ))) u p
  cast_gained_sound Cast.Trunc flags = one_sound v one a _ _ (λ x hx. unless_allows _ _ _ _ (λ whole. (
    gained_both flags.nuw (fits_width w a) (not (fits_unsigned w (pos x))) flags.nsw (fits_width_signed w a) (not (fits_signed w (signed_of v x)))
        (narrow_unsigned x hx) (narrow_signed x hx) whole,
    refl,
  ))) u p
