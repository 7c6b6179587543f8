-- Where an operation never breaks on numbers of two facts, it gives no poison of them.
use Rattle.std.proofs.Common.{◌≡◌, ℕ, ◌-◌, ◌*◌, ◌%◌, ◌^◌, ◌<◌, ◌≤◌, inl, inr, Bool, true, false, not, ◌&&◌, ◌||◌, nat_eq, ◌∙◌, ap, refl, arith, bit_and, bit_or, pos, ◌*ℤ◌}
use Rattle.std.specs.Prelude.{nat_le}
use Rattle.std.specs.Int.{bit_at}
use Rattle.std.proofs.lemmas.Bool.{cases_lt, eqb-true, eq-eqb, and_parts}
use Rattle.std.proofs.lemmas.Bool.Decides.{nat_tests}
use Rattle.std.proofs.lemmas.Nat.Bits.{bit_at_or, bit_at_above, bit_at-zero}
use Rattle.std.proofs.lemmas.Nat.{pow_pos}
use Rattle.vfa_ir.specs.declared.operations.Bin.{Bin}
use Rattle.vfa_ir.specs.declared.operations.Flags.{Flags}
use Rattle.vfa_word.specs.Numbers.{signed_of, fits_unsigned, fits_signed, whole_result}
use Rattle.vfa_word.specs.declared.arith.Arith.{Arith}
use Rattle.vfa_dom.proofs.Bests.{digit_cases}
use Rattle.vfa_known.specs.Product.{run_of, is_known_zero}
use Rattle.vfa_known.proofs.Cubes.{in_masks_at, apart_from_bits}
use Rattle.vfa_known.proofs.Members.{complement_at}
use Rattle.vfa_known.proofs.Products.{low_zeros, zero_in_run}
use Rattle.vfa_fact.specs.declared.numbers.Numbers.{Numbers}
use Rattle.vfa_fact.specs.Fact.{masks_in}
use Rattle.vfa_mean.specs.declared.value.Val.{Val}
use Rattle.vfa_mean.specs.Meaning.{Allowed, Gave, binary, minus_one}
use Rattle.vfa_mean.specs.Rows.{loses_ones, divide, divide_signed, remainder, remainder_signed}
use Rattle.vfa_xfer.specs.Binary.{ends_in_numbers, shifts_within, drops_zeros, are_disjoint, never_breaks}
use Rattle.vfa_xfer.specs.Bounds.{keeps_in_range}
use Rattle.vfa_xfer.specs.BinaryDivisions.{defined}
use Rattle.vfa_xfer.specs.BinaryRows.{poison_tells}
use Rattle.vfa_xfer.specs.Operand.{IsOperand}
use Rattle.vfa_xfer.specs.RowSets.{keeps_tells}

-- no flag that stands is broken
clash : (f l h m : Bool) → (f ≡ true → l ≡ true) → (h ≡ true → m ≡ true) → (f && not l || h && not m) ≡ true → ⊥
clash true l true m p q e = let a = p refl in let b = q refl in absurd (grind arith)
clash true l false m p q e = let a = p refl in absurd (grind arith)
clash false l true m p q e = let b = q refl in absurd (grind arith)
clash false l false m p q e = absurd (cc)

or_other : (a b : Bool) → a ≡ false → (a || b) ≡ true → b ≡ true
or_other a b e whole = grind arith

kept_or : (e d l : Bool) → (not e || d) ≡ true → (d ≡ true → l ≡ false) → (e && l) ≡ true → ⊥
kept_or true d l keeps tells broken = let a : d ≡ true = grind arith in let b = tells a in absurd (grind arith)
kept_or false d l keeps tells broken = absurd (cc)

unasked : (e l : Bool) → not e ≡ true → (e && l) ≡ true → ⊥
unasked true l off broken = absurd (cc)
unasked false l off broken = absurd (cc)

module _ (w : ℕ) (m n : Numbers) (x y : ℕ) (px : IsOperand w m x) (py : IsOperand w n y) where
  sum_clean : (flags : Flags) → never_breaks Bin.Add flags w m n ≡ true → Allowed (binary Bin.Add flags w (Val.Number x) (Val.Number y)) (Gave Val.Poison) → ⊥
  unfolding never_breaks
  sum_clean flags keeps given =
      let kept = keeps_tells Arith.Add flags w (ends_in_numbers w m) (ends_in_numbers w n) px.ends py.ends x y px.between py.between keeps in
      clash flags.nuw (fits_unsigned w (whole_result Arith.Add (pos x) (pos y))) flags.nsw (fits_signed w (whole_result Arith.Add (signed_of w x) (signed_of w y))) kept.0 kept.1
      (poison_tells _ _ given)

  difference_clean : (flags : Flags) → never_breaks Bin.Sub flags w m n ≡ true → Allowed (binary Bin.Sub flags w (Val.Number x) (Val.Number y)) (Gave Val.Poison) → ⊥
  unfolding never_breaks
  difference_clean flags keeps given =
      let kept = keeps_tells Arith.Sub flags w (ends_in_numbers w m) (ends_in_numbers w n) px.ends py.ends x y px.between py.between keeps in
      clash flags.nuw (fits_unsigned w (whole_result Arith.Sub (pos x) (pos y))) flags.nsw (fits_signed w (whole_result Arith.Sub (signed_of w x) (signed_of w y))) kept.0 kept.1
      (poison_tells _ _ given)

  product_clean : (flags : Flags) → never_breaks Bin.Mul flags w m n ≡ true → Allowed (binary Bin.Mul flags w (Val.Number x) (Val.Number y)) (Gave Val.Poison) → ⊥
  unfolding never_breaks
  product_clean flags keeps given =
      let kept = keeps_tells Arith.Mul flags w (ends_in_numbers w m) (ends_in_numbers w n) px.ends py.ends x y px.between py.between keeps in
      clash flags.nuw (fits_unsigned w (whole_result Arith.Mul (pos x) (pos y))) flags.nsw (fits_signed w (whole_result Arith.Mul (signed_of w x) (signed_of w y))) kept.0 kept.1
      (poison_tells _ _ given)

  -- ---- shifts

  within : shifts_within w n ≡ true → ((ends_in_numbers w n).hi < w) × (nat_le w y ≡ false)
  within small = let most = py.between.upto in let below : (ends_in_numbers w n).hi < w = grind (arith, nat_tests) in (below, grind (arith, nat_tests))

  left_clean : (flags : Flags) → never_breaks Bin.Shl flags w m n ≡ true → Allowed (binary Bin.Shl flags w (Val.Number x) (Val.Number y)) (Gave Val.Poison) → ⊥
  unfolding never_breaks
  left_clean flags keeps given =
      let parts = and_parts (shifts_within w n) (keeps_in_range Arith.Shl flags w (ends_in_numbers w m) (ends_in_numbers w n)) keeps in
      let small = within parts.0 in
      let kept = keeps_tells Arith.Shl flags w (ends_in_numbers w m) (ends_in_numbers w n) px.ends (py.ends, small.0) x y px.between py.between parts.1 in
      clash flags.nuw (fits_unsigned w (pos (x * 2 ^ y))) flags.nsw (fits_signed w (signed_of w x *ℤ pos (2 ^ y))) kept.0 kept.1
      (or_other (nat_le w y) _ small.1 (poison_tells _ _ given))

  drops : drops_zeros w m n ≡ true → loses_ones x y ≡ false
  unfolding drops_zeros
  drops few =
      let most = py.between.upto in
      let run : (ends_in_numbers w n).hi ≤ run_of w (is_known_zero (masks_in m)) = grind (arith, nat_tests) in
      let none : x % 2 ^ y ≡ 0 = low_zeros x y (λ i below. zero_in_run w (masks_in m) px.cube x (in_masks_at w m.zeros m.ones px.cube x px.bits) i (omega arith)) in
      ap not (eq-eqb (x % 2 ^ y) 0 none)

  right_breaks : (flags : Flags) → (shifts_within w n && (not flags.exact || drops_zeros w m n)) ≡ true → (nat_le w y || flags.exact && loses_ones x y) ≡ true → ⊥
  right_breaks flags keeps broken =
      let parts = and_parts (shifts_within w n) (not flags.exact || drops_zeros w m n) keeps in
      kept_or flags.exact (drops_zeros w m n) (loses_ones x y) parts.1 drops (or_other (nat_le w y) _ (within parts.0).1 broken)

  -- ---- bit by bit

  apart : are_disjoint w m n ≡ true → bit_and x y ≡ 0
  apart all = apart_from_bits x y (λ i on. elim (cases_lt i w) [
    | inl below ↦
        let whole : bit_or m.zeros n.zeros ≡ 2 ^ w - 1 = eqb-true (bit_or m.zeros n.zeros) (2 ^ w - 1) all in
        let none : 2 ^ w - 1 ≡ 2 ^ w - 1 - 0 = omega arith in
        let known : bit_at (bit_or m.zeros n.zeros) i ≡ 1 = ap (λ k. bit_at k i) (whole ∙ none) ∙ complement_at w 0 i (pow_pos w) below ∙ ap (λ d. 1 - d) (bit_at-zero i) in
        elim (digit_cases n.zeros i) [
          | inl clear ↦ absurd (
              let law = bit_at_or m.zeros n.zeros i in
              let here : bit_at m.zeros i ≡ 1 = omega arith in
              let off = (in_masks_at w m.zeros m.ones px.cube x px.bits).zero i here in
              omega arith)
          | inr there ↦ (in_masks_at w n.zeros n.ones py.cube y py.bits).zero i there
        ]
    | inr above ↦ bit_at_above y w i py.fits above
  ])

  pub clean : (bin : Bin) (flags : Flags) → never_breaks bin flags w m n ≡ true → Allowed (binary bin flags w (Val.Number x) (Val.Number y)) (Gave Val.Poison) → ⊥
  unfolding never_breaks
  clean Bin.Add flags keeps given = sum_clean flags keeps given
  clean Bin.Sub flags keeps given = difference_clean flags keeps given
  clean Bin.Mul flags keeps given = product_clean flags keeps given
  clean Bin.Shl flags keeps given = left_clean flags keeps given
  clean Bin.Udiv flags keeps given = unasked flags.exact _ keeps (poison_tells _ _ ((defined (nat_eq y 0) (divide flags x y) Val.Poison given).given))
  clean Bin.Sdiv flags keeps given =
      unasked flags.exact _ keeps (poison_tells _ _ ((defined (nat_eq y 0 || nat_eq y (minus_one w) && nat_eq x (2 ^ (w - 1))) (divide_signed flags w x y) Val.Poison given).given))
  clean Bin.Lshr flags keeps given = right_breaks flags keeps (poison_tells _ _ given)
  clean Bin.Ashr flags keeps given = right_breaks flags keeps (poison_tells _ _ given)
  clean Bin.Urem flags keeps given = let d = (defined (nat_eq y 0) (remainder x y) Val.Poison given).given in absurd (cc)
  clean Bin.Srem flags keeps given =
      let d = (defined (nat_eq y 0 || nat_eq y (minus_one w) && nat_eq x (2 ^ (w - 1))) (remainder_signed w x y) Val.Poison given).given in absurd (cc)
  clean Bin.And flags keeps given = absurd (cc)
  clean Bin.Or flags keeps given =
      kept_or flags.disjoint (are_disjoint w m n) (not (nat_eq (bit_and x y) 0)) keeps (λ all. ap not (eq-eqb (bit_and x y) 0 (apart all))) (poison_tells _ _ given)
  clean Bin.Xor flags keeps given = absurd (cc)
