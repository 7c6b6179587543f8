-- Ranks, as the code makes them.
use Rattle.std.proofs.Common.{◌≡◌, ℕ, ◌+◌, ◌-◌, ◌*◌, ◌/◌, ◌%◌, ◌^◌, ◌≤◌, Bool, false, not, sym, ◌∙◌, ap, refl, arith, nat_eq, bit_or, bit_xor, Option, Some, None}
use Rattle.std.specs.Prelude.{count_ones}
use Rattle.std.specs.Int.{w128, trailing_ones}
use Rattle.vfa_word.specs.Numbers.{IsWidth}
use Rattle.vfa_word.proofs.Wrapping.{mask_of_width}
use Rattle.vfa_dom.specs.Best.{Masks}
use Rattle.vfa_dom.specs.Search.{flag}
use Rattle.vfa_wrap.specs.Arc.{Span}
use Rattle.vfa_fact.specs.declared.numbers.Numbers.{Numbers}
use Rattle.vfa_fact.specs.Cells.{CellValue}
use Rattle.vfa_fact.specs.Fact.{masks_in, span_in, IsFact}
use Rattle.vfa_fact.proofs.Facts.{fact_cube}
use Rattle.vfa_xfer.specs.LowBits.{low_span_is, known_most}
use Rattle.vfa_xfer.specs.Ranks.{known_count, low_span, fact_rank, rank_of, cell_rank}
use Rattle.vfa_xfer.specs.Widening.{is_same_span, low_masks}
use Rattle.vfa_xfer.proofs.LowMasks.{low_made}
use Rattle.vfa_xfer.proofs.SameSpans.{other_firsts, same_firsts}

module _ (w : ℕ) (n : Numbers) (width : IsWidth w) (is : IsFact w n) (run low_o : ℕ) (er : run ≡ trailing_ones w128 (bit_or n.zeros n.ones)) (eo : low_o ≡ n.ones % 2 ^ run) where
  spans : low_span w (masks_in n) ≡ record { first = (low_masks w (masks_in n)).ones; last = bit_xor (2 ^ w - 1) (low_masks w (masks_in n)).zeros }
  spans = low_span_is w (masks_in n) (fact_cube w n is)

  made : (low_z : ℕ) → low_z ≡ n.zeros % 2 ^ run → record { zeros = low_z; ones = low_o } ≡ low_masks w (masks_in n)
  made low_z ez = low_made w n.zeros n.ones run low_z low_o (masks_in n) width.most (fact_cube w n is) refl refl er ez eo

  first_is : low_o ≡ (low_span w (masks_in n)).first
  first_is = ap (λ (m : Masks). m.ones) (made (n.zeros % 2 ^ run) refl) ∙ sym (ap (λ (s : Span). s.first) spans)

  last_is : (low_z : ℕ) → low_z ≡ n.zeros % 2 ^ run → bit_xor (340282366920938463463374607431768211455 / 2 ^ (128 - w)) low_z ≡ (low_span w (masks_in n)).last
  last_is low_z ez =
      let top = mask_of_width w width.most in
      let most : 340282366920938463463374607431768211455 / 2 ^ (128 - w) ≡ 2 ^ w - 1 = omega arith in
      ap (λ m. bit_xor m low_z) most ∙ ap (λ (m : Masks). bit_xor (2 ^ w - 1) m.zeros) (made low_z ez) ∙ sym (ap (λ (s : Span). s.last) spans)

  pub other_span : (n.first ≡ low_o → ⊥) → false ≡ is_same_span (span_in n) (low_span w (masks_in n))
  other_span other = other_firsts (span_in n) (low_span w (masks_in n)) n.first low_o refl first_is other

  pub same_span : (low_z : ℕ) → low_z ≡ n.zeros % 2 ^ run → n.first ≡ low_o →
      nat_eq n.last (bit_xor (340282366920938463463374607431768211455 / 2 ^ (128 - w)) low_z) ≡ is_same_span (span_in n) (low_span w (masks_in n))
  same_span low_z ez same =
      same_firsts (span_in n) (low_span w (masks_in n)) n.first low_o n.last (bit_xor (340282366920938463463374607431768211455 / 2 ^ (128 - w)) low_z)
      refl first_is refl (last_is low_z ez) same

-- ---- what the code adds up

pub count_most : (w : ℕ) (n : Numbers) → IsFact w n → count_ones (bit_or n.zeros n.ones) ≤ w
unfolding known_count
count_most w n is = known_most w (masks_in n) (fact_cube w n is)

pub fact_rank_is : (w : ℕ) (n : Numbers) (r : ℕ) (b : Bool) → r ≡ flag (not b) → b ≡ is_same_span (span_in n) (low_span w (masks_in n)) →
    2 * count_ones (bit_or n.zeros n.ones) + r ≡ fact_rank w n
unfolding fact_rank known_count
fact_rank_is w n r b er eb = ap (λ k. 2 * count_ones (bit_or n.zeros n.ones) + k) (er ∙ ap (λ c. flag (not c)) eb)

pub some_rank : (c : CellValue) (n : Numbers) (r m : ℕ) → c.numbers ≡ Some n → r ≡ fact_rank c.width n → m ≡ flag c.never_poison → r + m ≡ cell_rank c
unfolding rank_of
some_rank c n r m is er em =
    ap (λ k. k + m) er ∙ ap (λ k. fact_rank c.width n + k) em ∙ ap (λ (o : Option Numbers). rank_of c.width o c.never_poison) (sym is)

pub none_rank : (c : CellValue) → c.numbers ≡ None → 2 * c.width + 3 ≡ cell_rank c
unfolding rank_of
none_rank c is = ap (λ (o : Option Numbers). rank_of c.width o c.never_poison) (sym is)
