-- The ends of the numbers of a cell, of all of them and of those that an operation can use.
use Rattle.std.proofs.Common.{◌≡◌, ◌≢◌, ℕ, ◌<◌, true, sym, subst, refl, Option, Some, None}
use Rattle.std.specs.Prelude.{IsSomeAnd, IfSome}
use Rattle.std.specs.Int.{bit_at}
use Rattle.std.specs.Option.{option_map, option_and_then}
use Rattle.std.proofs.lemmas.Bool.{true≢false}
use Rattle.vfa_word.specs.Numbers.{IsWidth}
use Rattle.vfa_wrap.specs.Between.{Between, AreEnds}
use Rattle.vfa_wrap.specs.Ends.{EndsOf, ends_of}
use Rattle.vfa_wrap.specs.Rows.{AreAmounts, AreDivisors}
use Rattle.vfa_wrap.proofs.SetEnds.{are_ends, between_ends}
use Rattle.vfa_fact.specs.declared.cell.CellAmounts.{CellAmounts}
use Rattle.vfa_fact.specs.declared.cell.CellEnds.{CellEnds}
use Rattle.vfa_fact.specs.declared.numbers.Numbers.{Numbers}
use Rattle.vfa_fact.specs.CellCuts.{shown_cell_ends, shown_cell_amounts, cell_ends, cell_amounts, cell_divisors}
use Rattle.vfa_fact.specs.Cells.{CellValue, IsCell, in_option, in_cell}
use Rattle.vfa_fact.specs.Cuts.{AmountsOf, amounts_of, divisors_of}
use Rattle.vfa_fact.specs.Fact.{in_numbers, in_numbers_fits}
use Rattle.vfa_fact.proofs.CutEnds.{amounts_fit, amounts_cover, divisors_usable, divisors_cover, if_shown, some_shown}
use Rattle.vfa_fact.proofs.JoinedCells.{AreFacts}

ends_fit : (w : ℕ) (o : Option Numbers) → IsWidth w → AreFacts w o → IfSome (option_map (λ n. ends_of w (in_numbers w n)) o) (AreEnds w)
ends_fit w None width facts = tt
ends_fit w (Some n) width facts = let is = facts n refl in are_ends w (in_numbers w n) n.first width.least is.arc.first_fits is.first_in

ends_hold : (w x : ℕ) (o : Option Numbers) → IsWidth w → in_option w o x ≡ true → IsSomeAnd (option_map (λ n. ends_of w (in_numbers w n)) o) (λ e. Between w e x)
unfolding in_option
ends_hold w x None width member = absurd (true≢false (sym member))
ends_hold w x (Some n) width member = between_ends w (in_numbers w n) x width.least (in_numbers_fits w n x member) member

amounts_good : (w : ℕ) (o : Option Numbers) → IsWidth w → IfSome (option_and_then (λ n. amounts_of w (in_numbers w n)) o) (λ a. AreAmounts w a.ends)
amounts_good w None width = tt
amounts_good w (Some n) width = amounts_fit w (in_numbers w n) width.least

amounts_hold : (w t : ℕ) (o : Option Numbers) → IsWidth w → t < w → in_option w o t ≡ true →
    IsSomeAnd (option_and_then (λ n. amounts_of w (in_numbers w n)) o) (λ a. Between w a.ends t × (bit_at a.mask t ≡ 1))
unfolding in_option
amounts_hold w t None width below member = absurd (true≢false (sym member))
amounts_hold w t (Some n) width below member = amounts_cover w (in_numbers w n) width.least t below member

divisors_good : (w : ℕ) (o : Option Numbers) → IsWidth w → IfSome (option_and_then (λ n. divisors_of w (in_numbers w n)) o) (AreDivisors w)
divisors_good w None width = tt
divisors_good w (Some n) width = divisors_usable w (in_numbers w n) width.least

divisors_hold : (w y : ℕ) (o : Option Numbers) → IsWidth w → y ≢ 0 → in_option w o y ≡ true →
    IsSomeAnd (option_and_then (λ n. divisors_of w (in_numbers w n)) o) (λ e. Between w e y)
unfolding in_option
divisors_hold w y None width some member = absurd (true≢false (sym member))
divisors_hold w y (Some n) width some member = divisors_cover w (in_numbers w n) y width.least (in_numbers_fits w n y member) some member

module _ (v : CellValue) (is : IsCell v) where
  pub cell_ends_reached : (r : Option CellEnds) → option_map shown_cell_ends r ≡ cell_ends v → IfSome r (λ e. AreEnds v.width (shown_cell_ends e))
  cell_ends_reached r same = if_shown shown_cell_ends (AreEnds v.width) r
      (subst (λ (o : Option EndsOf). IfSome o (AreEnds v.width)) (sym same) (ends_fit v.width v.numbers is.width is.fact))

  pub cell_ends_between : (r : Option CellEnds) → option_map shown_cell_ends r ≡ cell_ends v → (x : ℕ) → in_cell v x ≡ true →
      IsSomeAnd r (λ e. Between v.width (shown_cell_ends e) x)
  cell_ends_between r same x member = some_shown shown_cell_ends (λ e. Between v.width e x) r
      (subst (λ (o : Option EndsOf). IsSomeAnd o (λ e. Between v.width e x)) (sym same) (ends_hold v.width x v.numbers is.width member))

  pub cell_amounts_usable : (r : Option CellAmounts) → option_map shown_cell_amounts r ≡ cell_amounts v → IfSome r (λ a. AreAmounts v.width (shown_cell_ends a.ends))
  cell_amounts_usable r same = if_shown shown_cell_amounts (λ (a : AmountsOf). AreAmounts v.width a.ends) r
      (subst (λ (o : Option AmountsOf). IfSome o (λ a. AreAmounts v.width a.ends)) (sym same) (amounts_good v.width v.numbers is.width))

  pub cell_amounts_cover : (r : Option CellAmounts) → option_map shown_cell_amounts r ≡ cell_amounts v → (t : ℕ) → t < v.width → in_cell v t ≡ true →
      IsSomeAnd r (λ a. Between v.width (shown_cell_ends a.ends) t × (bit_at a.mask t ≡ 1))
  cell_amounts_cover r same t below member = some_shown shown_cell_amounts (λ (a : AmountsOf). Between v.width a.ends t × (bit_at a.mask t ≡ 1)) r
      (subst (λ (o : Option AmountsOf). IsSomeAnd o (λ a. Between v.width a.ends t × (bit_at a.mask t ≡ 1))) (sym same) (amounts_hold v.width t v.numbers is.width below member))

  pub cell_divisors_usable : (r : Option CellEnds) → option_map shown_cell_ends r ≡ cell_divisors v → IfSome r (λ e. AreDivisors v.width (shown_cell_ends e))
  cell_divisors_usable r same = if_shown shown_cell_ends (AreDivisors v.width) r
      (subst (λ (o : Option EndsOf). IfSome o (AreDivisors v.width)) (sym same) (divisors_good v.width v.numbers is.width))

  pub cell_divisors_cover : (r : Option CellEnds) → option_map shown_cell_ends r ≡ cell_divisors v → (y : ℕ) → y ≢ 0 → in_cell v y ≡ true →
      IsSomeAnd r (λ e. Between v.width (shown_cell_ends e) y)
  cell_divisors_cover r same y some member = some_shown shown_cell_ends (λ e. Between v.width e y) r
      (subst (λ (o : Option EndsOf). IsSomeAnd o (λ e. Between v.width e y)) (sym same) (divisors_hold v.width y v.numbers is.width some member))
