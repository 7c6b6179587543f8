-- Each number that a shift gives of a number and an amount of two facts is one of its row's.
use Rattle.std.proofs.Common.{◌≡◌, ℕ, ◌*◌, ◌^◌, ◌<◌, Bool, true, false, ◌&&◌, ◌||◌, cond, nat_lt, ap, subst, arith, Option, Some, None, pos, ◌*ℤ◌}
use Rattle.std.specs.Prelude.{nat_le}
use Rattle.std.specs.Int.{bit_at}
use Rattle.std.proofs.lemmas.Bool.Decides.{nat_tests}
use Rattle.std.proofs.lemmas.Nat.{mod_below, pow_pos}
use Rattle.std.proofs.Math.Nat.{div-le_self}
use Rattle.vfa_ir.specs.declared.operations.Flags.{Flags}
use Rattle.vfa_word.specs.Numbers.{signed_of, fits_unsigned, fits_signed}
use Rattle.vfa_word.specs.Operations.{shifted_left, shifted_right, shifted_right_signed}
use Rattle.vfa_word.specs.declared.arith.Arith.{Arith}
use Rattle.vfa_word.proofs.Wrapping.{wrap_below}
use Rattle.vfa_wrap.specs.Between.{Between}
use Rattle.vfa_wrap.specs.RowResults.{result_of}
use Rattle.vfa_wrap.specs.Rows.{row_by_ends, AreAmounts}
use Rattle.vfa_wrap.specs.declared.ends_op.EndsOp.{EndsOp}
use Rattle.vfa_fact.specs.declared.numbers.Numbers.{Numbers}
use Rattle.vfa_fact.specs.Cuts.{AmountsOf}
use Rattle.vfa_mean.specs.declared.value.Val.{Val}
use Rattle.vfa_mean.specs.Meaning.{Allowed, Gave}
use Rattle.vfa_mean.specs.Rows.{shift_left, shift_right, shift_right_signed, shift_leaves_unsigned, shift_leaves_signed, loses_ones}
use Rattle.vfa_xfer.specs.Binary.{ends_in_numbers, best_shifts, left_row, right_row, right_signed_row, over_amounts}
use Rattle.vfa_xfer.specs.Bounds.{no_bounds}
use Rattle.vfa_xfer.specs.Rows.{RowOf, row_numbers}
use Rattle.vfa_xfer.specs.Arcs.{row_arc}
use Rattle.vfa_xfer.specs.BinaryRows.{Has, number_tells, flags_kept}
use Rattle.vfa_xfer.specs.Operand.{IsOperand, result_here, shift_bits, amount, at_amounts}
use Rattle.vfa_xfer.specs.RowSets.{row_of_holds, no_bounds_hold, wrap_bounds_hold}

-- an amount is below the width, where the result is no poison
pub below_width : (w t : ℕ) (rest : Bool) → (nat_le w t || rest) ≡ false → (t < w) × (rest ≡ false)
below_width w t rest whole = (grind (arith, nat_tests), grind arith)

if_below : (w t k : ℕ) → t < w → cond (nat_lt t w) (Some k) None ≡ Some k
if_below w t k below = let yes : nat_lt t w ≡ true = grind (arith, nat_tests) in ap (λ c. cond c (Some k) None) yes

module _ (w : ℕ) (m : Numbers) (x t : ℕ) (px : IsOperand w m x) (below : t < w) where
  left_result : result_of EndsOp.Shl w x t ≡ Some (shifted_left w x t)
  unfolding result_of
  left_result = if_below w t (shifted_left w x t) below

  right_result : result_of EndsOp.Lshr w x t ≡ Some (shifted_right x t)
  unfolding result_of
  right_result = if_below w t (shifted_right x t) below

  right_signed_result : result_of EndsOp.Ashr w x t ≡ Some (shifted_right_signed w x t)
  unfolding result_of
  right_signed_result = if_below w t (shifted_right_signed w x t) below

  module _ (s : AmountsOf) (usable : AreAmounts w s.ends) (between : Between w s.ends t) (on : bit_at s.mask t ≡ 1) where
    left_at : (flags : Flags) → (flags.nuw && shift_leaves_unsigned w x t || flags.nsw && shift_leaves_signed w x t) ≡ false →
        Has w (row_numbers w (left_row flags w m s)) (shifted_left w x t)
    unfolding left_row
    left_at flags whole =
        let kept = flags_kept flags.nuw (fits_unsigned w (pos (x * 2 ^ t))) flags.nsw (fits_signed w (signed_of w x *ℤ pos (2 ^ t))) whole in
        let fits : shifted_left w x t < 2 ^ w = mod_below (x * 2 ^ t) (2 ^ w) (pow_pos w) in
        row_of_holds w (best_shifts w (shifted_left w) m s.mask) (row_by_ends EndsOp.Shl w (ends_in_numbers w m) s.ends) _ (shifted_left w x t)
        (row_arc EndsOp.Shl w (ends_in_numbers w m) s.ends) fits
        (shift_bits w m (shifted_left w) s.mask x t px below on fits)
        (result_here EndsOp.Shl w (ends_in_numbers w m) s.ends x t (shifted_left w x t) px.width px.ends usable px.between between left_result)
        (wrap_bounds_hold Arith.Shl flags w (ends_in_numbers w m) s.ends px.ends usable x t px.between between px.width.least fits kept.0 kept.1)

    right_at : Has w (row_numbers w (right_row w m s)) (shifted_right x t)
    unfolding right_row
    right_at =
        let fits : shifted_right x t < 2 ^ w = (let less = div-le_self x (2 ^ t) in let small = px.fits in omega arith) in
        row_of_holds w (best_shifts w shifted_right m s.mask) (row_by_ends EndsOp.Lshr w (ends_in_numbers w m) s.ends) (Some (no_bounds w)) (shifted_right x t)
        (row_arc EndsOp.Lshr w (ends_in_numbers w m) s.ends) fits
        (shift_bits w m shifted_right s.mask x t px below on fits)
        (result_here EndsOp.Lshr w (ends_in_numbers w m) s.ends x t (shifted_right x t) px.width px.ends usable px.between between right_result)
        (no_bounds_hold w (shifted_right x t) fits)

    right_signed_at : Has w (row_numbers w (right_signed_row w m s)) (shifted_right_signed w x t)
    unfolding right_signed_row
    right_signed_at =
        let fits : shifted_right_signed w x t < 2 ^ w = wrap_below w _ in
        row_of_holds w (best_shifts w (shifted_right_signed w) m s.mask) (row_by_ends EndsOp.Ashr w (ends_in_numbers w m) s.ends) (Some (no_bounds w)) (shifted_right_signed w x t)
        (row_arc EndsOp.Ashr w (ends_in_numbers w m) s.ends) fits
        (shift_bits w m (shifted_right_signed w) s.mask x t px below on fits)
        (result_here EndsOp.Ashr w (ends_in_numbers w m) s.ends x t (shifted_right_signed w x t) px.width px.ends usable px.between between right_signed_result)
        (no_bounds_hold w (shifted_right_signed w x t) fits)

module _ (w : ℕ) (m n : Numbers) (x t : ℕ) (px : IsOperand w m x) (pt : IsOperand w n t) where
  -- the row at the amounts of the second fact
  over : (row : AmountsOf → Option RowOf) (k r : ℕ) → t < w → k ≡ r →
      ((s : AmountsOf) → AreAmounts w s.ends → Between w s.ends t → bit_at s.mask t ≡ 1 → Has w (row_numbers w (row s)) k) →
      Has w (row_numbers w (over_amounts w row n)) r
  over row k r below same at =
      let some = amount w n t pt below in
      subst (Has w (row_numbers w (over_amounts w row n))) same
      (subst (λ (o : Option RowOf). Has w (row_numbers w o) k) (at_amounts w row n some.it some.is) (at some.it some.usable some.covers.0 some.covers.1))

  pub left_has : (flags : Flags) (r : ℕ) → Allowed (shift_left flags w x t) (Gave (Val.Number r)) → Has w (row_numbers w (over_amounts w (left_row flags w m) n)) r
  left_has flags r given =
      let u = number_tells _ (shifted_left w x t) r given in
      let parts = below_width w t (flags.nuw && shift_leaves_unsigned w x t || flags.nsw && shift_leaves_signed w x t) u.whole in
      over (left_row flags w m) (shifted_left w x t) r parts.0 u.is (λ s usable between on. left_at w m x t px parts.0 s usable between on flags parts.1)

  pub right_has : (flags : Flags) (r : ℕ) → Allowed (shift_right flags w x t) (Gave (Val.Number r)) → Has w (row_numbers w (over_amounts w (right_row w m) n)) r
  right_has flags r given =
      let u = number_tells _ (shifted_right x t) r given in
      let parts = below_width w t (flags.exact && loses_ones x t) u.whole in
      over (right_row w m) (shifted_right x t) r parts.0 u.is (λ s usable between on. right_at w m x t px parts.0 s usable between on)

  pub right_signed_has : (flags : Flags) (r : ℕ) → Allowed (shift_right_signed flags w x t) (Gave (Val.Number r)) →
      Has w (row_numbers w (over_amounts w (right_signed_row w m) n)) r
  right_signed_has flags r given =
      let u = number_tells _ (shifted_right_signed w x t) r given in
      let parts = below_width w t (flags.exact && loses_ones x t) u.whole in
      over (right_signed_row w m) (shifted_right_signed w x t) r parts.0 u.is (λ s usable between on. right_signed_at w m x t px parts.0 s usable between on)
