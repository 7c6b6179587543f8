-- What the code makes of plain numbers at another width is what the rows say.
use Rattle.std.proofs.Common.{◌≡◌, ℕ, ◌+◌, ◌-◌, ◌/◌, ◌%◌, ◌^◌, ◌<◌, ◌≤◌, min, Bool, true, false, ◌||◌, ◌&&◌, sym, ◌∙◌, ap, arith, mod-eq_of_lt, Some, None, ℤ, pos, neg_ℤ, nat_lt, lt-ltb}
use Rattle.std.specs.Prelude.{int_lt}
use Rattle.std.proofs.lemmas.Bool.{cond-true, cond-false, or_left, or_right}
use Rattle.std.proofs.lemmas.Bool.Decides.{nat_tests}
use Rattle.std.proofs.lemmas.Nat.{pow_below}
use Rattle.vfa_word.specs.Numbers.{wrap}
use Rattle.vfa_word.specs.Operations.{sign_extended, clamped_signed}
use Rattle.vfa_word.proofs.Readings.{reading_low, reading_high}
use Rattle.vfa_wrap.specs.Arc.{Span, steps, full_span, arc_from, sarc}
use Rattle.vfa_wrap.specs.Ends.{EndsOf, ends_of}
use Rattle.vfa_wrap.specs.WholeSpans.{read_ends, misses_range, clamped_span}
use Rattle.vfa_wrap.specs.declared.reading.Reading.{Reading}
use Rattle.vfa_wrap.proofs.Circle.{steps_is}
use Rattle.vfa_wrap.proofs.RowArcs.{half_twice}
use Rattle.vfa_wrap.proofs.SpanLaws.{bound_empty, bound_some}
use Rattle.std.specs.Option.{option_map}
use Rattle.vfa_ir.specs.declared.operations.Cast.{Cast}
use Rattle.vfa_ir.specs.declared.operations.CastFlags.{CastFlags}
use Rattle.vfa_fact.specs.declared.numbers.Numbers.{Numbers}
use Rattle.vfa_fact.specs.CellCuts.{cell_ends}
use Rattle.vfa_fact.specs.Cells.{CellValue, cell_of}
use Rattle.vfa_fact.specs.Fact.{in_numbers}
use Rattle.vfa_xfer.specs.Binary.{ends_in_numbers}
use Rattle.vfa_xfer.specs.Casts.{truncated_span, ends_bound, cast_row, keeps_number, cast_by_row, cast_cell}
use Rattle.vfa_xfer.specs.Rows.{row_numbers}

-- ---- the sign

pub extended_low : (v w m n : ℕ) → 1 ≤ v → v < w → m + 1 ≡ 2 ^ v → n ≤ m / 2 → n ≡ sign_extended v w n
extended_low v w m n one wider top low =
    let half = half_twice v one in
    let more = pow_below v w wider in
    let here : n < 2 ^ (v - 1) = omega arith in
    let fits : n < 2 ^ w = omega arith in
    sym (ap (wrap w) (reading_low v n here) ∙ mod-eq_of_lt fits)

pub extended_high : (v w m k n : ℕ) → 1 ≤ v → v < w → m + 1 ≡ 2 ^ v → k + 1 ≡ 2 ^ w → n < 2 ^ v → m / 2 < n → n + (k - m) ≡ sign_extended v w n
extended_high v w m k n one wider top more_top fits high =
    let half = half_twice v one in
    let more = pow_below v w wider in
    let here : 2 ^ (v - 1) ≤ n = omega arith in
    let rest : 2 ^ v - 1 - n < 2 ^ w = omega arith in
    let cut : (2 ^ v - 1 - n) % 2 ^ w ≡ 2 ^ v - 1 - n = mod-eq_of_lt rest in
    sym (ap (wrap w) (reading_high v n here fits) ∙ ap (λ r. 2 ^ w - 1 - r) cut ∙ omega arith)

-- ---- the low bits of an arc

pub extent_plain : (w f l : ℕ) → f < 2 ^ w → l < 2 ^ w → f ≤ l → l - f ≡ steps w f l
extent_plain w f l hf hl order = let s = steps_is w f l hf hl in grind (arith, s)

pub extent_split : (w f l m : ℕ) → f < 2 ^ w → l < 2 ^ w → l < f → m + 1 ≡ 2 ^ w → m - f + l + 1 ≡ steps w f l
extent_split w f l m hf hl order top = let s = steps_is w f l hf hl in grind (arith, s)

pub low_part : (v w extent m : ℕ) (s t : Span) → extent ≡ steps v s.first s.last → m + 1 ≡ 2 ^ w → extent < m → t ≡ arc_from w s.first s.last → t ≡ truncated_span v w s
unfolding truncated_span
low_part v w extent m s t is top less e =
    let fits : steps v s.first s.last + 1 < 2 ^ w = omega arith in
    e ∙ sym (cond-true (nat_lt (steps v s.first s.last + 1) (2 ^ w)) (arc_from w s.first s.last) (full_span w) (lt-ltb (steps v s.first s.last + 1) (2 ^ w) fits))

not_less : (a b : ℕ) → b ≤ a → nat_lt a b ≡ false
not_less a b h = grind (arith, nat_tests)

pub low_full : (v w extent m : ℕ) (s t : Span) → extent ≡ steps v s.first s.last → m + 1 ≡ 2 ^ w → m ≤ extent → t ≡ full_span w → t ≡ truncated_span v w s
unfolding truncated_span
low_full v w extent m s t is top more e =
    e ∙ sym (cond-false (nat_lt (steps v s.first s.last + 1) (2 ^ w)) (arc_from w s.first s.last) (full_span w) (not_less (steps v s.first s.last + 1) (2 ^ w) (omega arith)))

-- ---- bounds by the ends

module _ (w : ℕ) (e : EndsOf) where
  pub natural_none : (top : ℕ) → top + 1 ≡ 2 ^ w → top < e.lo → None ≡ ends_bound Reading.Unsigned w e
  unfolding misses_range
  natural_none top is above = bound_empty Reading.Unsigned w (read_ends Reading.Unsigned e)
      (sym (or_right (nat_lt e.hi 0) (nat_lt (2 ^ w - 1) e.lo) (lt-ltb (2 ^ w - 1) e.lo (omega arith))))

  none_or : (a b : Bool) → a ≡ false → b ≡ false → false ≡ (a || b)
  none_or a b h k = cc

  clamped_top : (n top : ℕ) → top + 1 ≡ 2 ^ w → min n top ≡ min n (2 ^ w - 1)
  clamped_top n top is = omega arith

  pub natural_some : (top m n : ℕ) (t : Span) → top + 1 ≡ 2 ^ w → e.lo ≤ top → m ≡ min e.lo top → n ≡ min e.hi top → t ≡ arc_from w m n → Some t ≡ ends_bound Reading.Unsigned w e
  unfolding misses_range clamped_span
  natural_some top m n t is below em en et = bound_some Reading.Unsigned w (read_ends Reading.Unsigned e) t
      (none_or (nat_lt e.hi 0) (nat_lt (2 ^ w - 1) e.lo) (not_less e.hi 0 (omega arith)) (not_less (2 ^ w - 1) e.lo (omega arith)))
      (et ∙ ap (λ (p : ℕ). arc_from w p n) (em ∙ clamped_top e.lo top is) ∙ ap (λ (q : ℕ). arc_from w (min e.lo (2 ^ w - 1)) q) (en ∙ clamped_top e.hi top is))

  pub signed_below : (b : Bool) → b ≡ int_lt e.shi (neg_ℤ (pos (2 ^ (w - 1)))) → b ≡ true → None ≡ ends_bound Reading.Signed w e
  unfolding misses_range
  signed_below b is on = bound_empty Reading.Signed w (read_ends Reading.Signed e)
      (sym (or_left (int_lt e.shi (neg_ℤ (pos (2 ^ (w - 1))))) (int_lt (pos (2 ^ (w - 1) - 1)) e.slo) (sym is ∙ on)))

  pub signed_above : (b : Bool) → b ≡ int_lt (pos (2 ^ (w - 1) - 1)) e.slo → b ≡ true → None ≡ ends_bound Reading.Signed w e
  unfolding misses_range
  signed_above b is on = bound_empty Reading.Signed w (read_ends Reading.Signed e)
      (sym (or_right (int_lt e.shi (neg_ℤ (pos (2 ^ (w - 1))))) (int_lt (pos (2 ^ (w - 1) - 1)) e.slo) (sym is ∙ on)))

  pub signed_some : (a b : Bool) (p q : ℤ) (t : Span) → a ≡ int_lt e.shi (neg_ℤ (pos (2 ^ (w - 1)))) → a ≡ false → b ≡ int_lt (pos (2 ^ (w - 1) - 1)) e.slo → b ≡ false →
      p ≡ clamped_signed w e.slo → q ≡ clamped_signed w e.shi → t ≡ sarc w p q → Some t ≡ ends_bound Reading.Signed w e
  unfolding misses_range clamped_span
  signed_some a b p q t ea off eb off' ep eq et = bound_some Reading.Signed w (read_ends Reading.Signed e) t
      (none_or (int_lt e.shi (neg_ℤ (pos (2 ^ (w - 1))))) (int_lt (pos (2 ^ (w - 1) - 1)) e.slo) (sym ea ∙ off) (sym eb ∙ off'))
      (et ∙ ap (λ (z : ℤ). sarc w z q) ep ∙ ap (λ (z : ℤ). sarc w (clamped_signed w e.slo) z) eq)

-- ---- the cell

module _ (cast : Cast) (flags : CastFlags) (w : ℕ) (a : CellValue) (n : Numbers) (e : EndsOf) where
  some_ends : (d : EndsOf) → Some e ≡ Some d → e ≡ d
  some_ends d same = cc

  pub cast_at_is : a.numbers ≡ Some n → Some e ≡ cell_ends a →
      cell_of w (row_numbers w (cast_row cast flags a.width w n e)) (a.never_poison && keeps_number cast flags w e) ≡ cast_cell cast flags w a
  unfolding ends_in_numbers
  cast_at_is some is =
      let same : e ≡ ends_in_numbers a.width n = some_ends (ends_of a.width (in_numbers a.width n)) (is ∙ ap (option_map (λ (m : Numbers). ends_of a.width (in_numbers a.width m))) some) in
      ap (λ (d : EndsOf). cell_of w (row_numbers w (cast_row cast flags a.width w n d)) (a.never_poison && keeps_number cast flags w d)) same
      ∙ sym (ap (cast_by_row cast flags w a) some)
