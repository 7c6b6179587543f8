-- Each number that an intrinsic of two numbers gives is one of its row's.
use Rattle.std.proofs.Common.{◌≡◌, ℕ, ◌^◌, ◌<◌, min, max, Bool, true, false, ◌&&◌, if◌then◌else◌, refl, sym, ◌∙◌, ap, subst, arith, ◌⊎◌, inl, inr, Option, Some, None}
use Rattle.std.specs.Prelude.{IsTrue, IsSomeAnd}
use Rattle.std.proofs.lemmas.Bool.{true≢false, and_parts}
use Rattle.vfa_ir.specs.declared.operations.Fun2.{Fun2}
use Rattle.vfa_word.specs.Numbers.{IsWidth}
use Rattle.vfa_word.specs.Operations.{signed_less}
use Rattle.vfa_mean.specs.declared.value.Done.{Done}
use Rattle.vfa_mean.specs.declared.value.Val.{Val}
use Rattle.vfa_mean.specs.Meaning.{Allowed, Gave, of_two}
use Rattle.vfa_mean.specs.Rows.{chosen_or_clamped, two_numbers}
use Rattle.vfa_known.specs.Cube.{in_masks}
use Rattle.vfa_known.proofs.Cubes.{in_masks_from, in_masks_at}
use Rattle.vfa_known.proofs.Members.{any_cube, any_member, join_cube, join_left, join_right}
use Rattle.vfa_wrap.specs.Arc.{Span, in_span, in_span_fits}
use Rattle.vfa_wrap.specs.Between.{AreEnds}
use Rattle.vfa_wrap.specs.Ends.{EndsOf}
use Rattle.vfa_wrap.specs.RowResults.{result_of}
use Rattle.vfa_wrap.specs.Rows.{AreSecondEnds, row_by_ends}
use Rattle.vfa_fact.specs.declared.numbers.Numbers.{Numbers}
use Rattle.vfa_fact.specs.Cells.{CellValue, IsCell, in_option}
use Rattle.vfa_fact.specs.Fact.{masks_in}
use Rattle.vfa_fact.specs.Join.{alike}
use Rattle.vfa_fact.proofs.JoinedCells.{AreFacts}
use Rattle.vfa_xfer.specs.AnyFacts.{CellHolds}
use Rattle.vfa_xfer.specs.Binary.{ends_in_numbers, no_masks}
use Rattle.vfa_xfer.specs.Bounds.{no_bounds}
use Rattle.vfa_xfer.specs.Extremes.{ends_operation, two_masks, two_row, two_numbers_of, two_cell}
use Rattle.vfa_xfer.specs.Rows.{row_numbers}
use Rattle.vfa_xfer.specs.Arcs.{row_arc}
use Rattle.vfa_xfer.specs.Operand.{IsOperand, operand, result_here}
use Rattle.vfa_xfer.specs.RowSets.{no_bounds_hold, row_of_holds}
use Rattle.vfa_xfer.specs.StrictLaws.{plain_number, two_held}

-- the number is what the operation of the arc gives
result_is : (fun : Fun2) (w x y : ℕ) → result_of (ends_operation fun) w x y ≡ Some (chosen_or_clamped fun w x y)
unfolding result_of
result_is Fun2.Umin w x y = refl
result_is Fun2.Umax w x y = refl
result_is Fun2.Smin w x y = refl
result_is Fun2.Smax w x y = refl
result_is Fun2.UaddSat w x y = refl
result_is Fun2.UsubSat w x y = refl
result_is Fun2.SaddSat w x y = refl
result_is Fun2.SsubSat w x y = refl

second_ends : (fun : Fun2) (w : ℕ) (e : EndsOf) → AreEnds w e → AreSecondEnds (ends_operation fun) w e
second_ends Fun2.Umin w e ends = ends
second_ends Fun2.Umax w e ends = ends
second_ends Fun2.Smin w e ends = ends
second_ends Fun2.Smax w e ends = ends
second_ends Fun2.UaddSat w e ends = ends
second_ends Fun2.UsubSat w e ends = ends
second_ends Fun2.SaddSat w e ends = ends
second_ends Fun2.SsubSat w e ends = ends

-- a minimum or maximum is one of the two numbers
lesser : (x y : ℕ) → (min x y ≡ x) ⊎ (min x y ≡ y)
lesser x y = grind arith

greater : (x y : ℕ) → (max x y ≡ x) ⊎ (max x y ≡ y)
greater x y = grind arith

one_of : (t : Bool) (x y : ℕ) → ((if t then y else x) ≡ x) ⊎ ((if t then y else x) ≡ y)
one_of true x y = inr refl
one_of false x y = inl refl

-- the bits of a number of no known bits
pub none_known : (w r : ℕ) → r < 2 ^ w → in_masks w no_masks r ≡ true
none_known w r fits = in_masks_from w 0 0 (any_cube w) r (any_member w r fits)

module _ (w : ℕ) (m n : Numbers) (x y : ℕ) (px : IsOperand w m x) (py : IsOperand w n y) where
  bits_of_either : (r : ℕ) → (r ≡ x) ⊎ (r ≡ y) → in_masks w (alike m n) r ≡ true
  bits_of_either r (inl e) = ap (in_masks w (alike m n)) e ∙ in_masks_from w _ _ (join_cube w (masks_in m) (masks_in n) px.cube py.cube) x
      (join_left w (masks_in m) (masks_in n) px.cube py.cube x (in_masks_at w m.zeros m.ones px.cube x px.bits))
  bits_of_either r (inr e) = ap (in_masks w (alike m n)) e ∙ in_masks_from w _ _ (join_cube w (masks_in m) (masks_in n) px.cube py.cube) y
      (join_right w (masks_in m) (masks_in n) px.cube py.cube y (in_masks_at w n.zeros n.ones py.cube y py.bits))

  result_bits : (fun : Fun2) → chosen_or_clamped fun w x y < 2 ^ w → in_masks w (two_masks fun m n) (chosen_or_clamped fun w x y) ≡ true
  result_bits Fun2.Umin fits = bits_of_either (min x y) (lesser x y)
  result_bits Fun2.Umax fits = bits_of_either (max x y) (greater x y)
  result_bits Fun2.Smin fits = bits_of_either _ (one_of (signed_less w y x) x y)
  result_bits Fun2.Smax fits = bits_of_either _ (one_of (signed_less w x y) x y)
  result_bits Fun2.UaddSat fits = none_known w _ fits
  result_bits Fun2.UsubSat fits = none_known w _ fits
  result_bits Fun2.SaddSat fits = none_known w _ fits
  result_bits Fun2.SsubSat fits = none_known w _ fits

-- a number in an arc is one of the width
pub here_fits : (w r : ℕ) (o : Option Span) → IsSomeAnd o (λ s. IsTrue (in_span w s r)) → r < 2 ^ w
here_fits w r (Some s) here = in_span_fits w s r here
here_fits w r None here = absurd here

two_has : (fun : Fun2) (w : ℕ) (m n : Numbers) (x y : ℕ) → IsOperand w m x → IsOperand w n y → in_option w (row_numbers w (two_row fun w m n)) (chosen_or_clamped fun w x y) ≡ true
unfolding two_row
two_has fun w m n x y px py =
    let here = result_here (ends_operation fun) w (ends_in_numbers w m) (ends_in_numbers w n) x y (chosen_or_clamped fun w x y) px.width px.ends (second_ends fun w _ py.ends) px.between py.between (result_is fun w x y) in
    let fits = here_fits w (chosen_or_clamped fun w x y) (row_by_ends (ends_operation fun) w (ends_in_numbers w m) (ends_in_numbers w n)) here in
    row_of_holds w (two_masks fun m n) (row_by_ends (ends_operation fun) w (ends_in_numbers w m) (ends_in_numbers w n)) (Some (no_bounds w)) (chosen_or_clamped fun w x y)
    (row_arc (ends_operation fun) w (ends_in_numbers w m) (ends_in_numbers w n)) fits (result_bits w m n x y px py fun fits) here (no_bounds_hold w (chosen_or_clamped fun w x y) fits)

options_have : (fun : Fun2) (w : ℕ) (m n : Option Numbers) (x y : ℕ) → IsWidth w → AreFacts w m → AreFacts w n → in_option w m x ≡ true → in_option w n y ≡ true →
    in_option w (two_numbers_of fun w m n) (chosen_or_clamped fun w x y) ≡ true
unfolding in_option
options_have fun w (Some m) (Some n) x y width one two px py = two_has fun w m n x y (operand w m x width (one m refl) px) (operand w n y width (two n refl) py)
options_have fun w (Some m) None x y width one two px py = absurd (true≢false (sym py))
options_have fun w None n x y width one two px py = absurd (true≢false (sym px))

given_number : (x n : ℕ) → Done.Is (Val.Number x) ≡ Done.Is (Val.Number n) → x ≡ n
given_number x n e = cc

no_poison : (x : ℕ) → Done.Is (Val.Number x) ≡ Done.Is Val.Poison → ⊥
no_poison x e = cc

pub transfer_two_holds : (fun : Fun2) (a b : CellValue) → IsCell a → IsCell b → a.width ≡ b.width → (x y r : Val) → CellHolds a x → CellHolds b y →
    Allowed (of_two (two_numbers fun a.width) x y) (Gave r) → CellHolds (two_cell fun a b) r
transfer_two_holds fun a b left right width =
    two_held (two_numbers fun a.width) a b a.width (two_numbers_of fun a.width a.numbers b.numbers) (a.never_poison && b.never_poison)
    (λ p q. plain_number (chosen_or_clamped fun a.width p q))
    (λ e. (and_parts a.never_poison b.never_poison e).0) (λ e. (and_parts a.never_poison b.never_poison e).1)
    (λ p q n one two e. ap (in_option a.width (two_numbers_of fun a.width a.numbers b.numbers)) (sym (given_number (chosen_or_clamped fun a.width p q) n e))
    ∙ options_have fun a.width a.numbers b.numbers p q left.width left.fact (subst (λ (w : ℕ). AreFacts w b.numbers) (sym width) right.fact) one
    (ap (λ w. in_option w b.numbers q) width ∙ two))
    (λ on p q one two e. no_poison (chosen_or_clamped fun a.width p q) e)
