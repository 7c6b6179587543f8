-- What the code asks of the numbers of a row is what the row says.
use Rattle.std.proofs.Common.{◌≡◌, ℕ, ◌-◌, ◌^◌, Bool, ◌&&◌, true, refl, sym, ◌∙◌, ap, arith, Some}
use Rattle.std.proofs.lemmas.Bool.{and_from}
use Rattle.std.proofs.lemmas.Nat.{pow_pos}
use Rattle.vfa_dom.specs.Sets.{meet}
use Rattle.vfa_dom.proofs.SetSearches.{meet_from}
use Rattle.vfa_known.specs.Cube.{in_masks}
use Rattle.vfa_known.proofs.Cubes.{in_masks_from}
use Rattle.vfa_known.proofs.Members.{any_cube, any_member}
use Rattle.vfa_known.specs.Known.{in_known}
use Rattle.vfa_wrap.specs.Arc.{in_span, full_span}
use Rattle.vfa_wrap.specs.Wrapped.{span_of, in_arc}
use Rattle.vfa_wrap.proofs.Circle.{in_full}
use Rattle.vfa_fact.specs.Cells.{all_numbers}
use Rattle.vfa_fact.specs.Fact.{in_numbers}
use Rattle.vfa_fact.specs.Sharp.{sharp_in}
use Rattle.vfa_fact.specs.Views.{in_test}
use Rattle.vfa_fact.proofs.SharpSets.{sharp_alike}
use Rattle.vfa_fact.proofs.SharpArcs.{fact_again}
use Rattle.vfa_fact.proofs.CellNumbers.{all_fact, all_has}
use Rattle.vfa_xfer.specs.Rows.{RowOf, in_row, row_fact, full_row, shown_row}
use Rattle.vfa_xfer.specs.declared.rows.Row.{Row}

row_from : (w : ℕ) (r : RowOf) (x : ℕ) → in_masks w r.cube x ≡ true → in_span w r.one x ≡ true → in_span w r.two x ≡ true → in_row w r x ≡ true
unfolding in_row
row_from w r x cube one two = and_from (in_masks w r.cube x) (in_span w r.one x && in_span w r.two x) cube
    (and_from (in_span w r.one x) (in_span w r.two x) one two)

-- the row of all numbers has the fact of all numbers
pub full_row_fact : (w : ℕ) → row_fact w (full_row w) ≡ Some (all_numbers w)
full_row_fact w =
    sharp_alike w 0 (meet (in_span w (full_span w)) (in_row w (full_row w))) (in_numbers w (all_numbers w)) (pow_pos w) (λ x fits.
    meet_from (in_span w (full_span w)) (in_row w (full_row w)) x (in_full w x fits)
    (row_from w (full_row w) x (in_masks_from w 0 0 (any_cube w) x (any_member w x fits)) (in_full w x fits) (in_full w x fits))
    ∙ sym (all_has w (2 ^ w - 1) x refl fits))
    ∙ fact_again w (all_numbers w) (all_fact w (2 ^ w - 1) refl)

cube_twice : (k t : Bool) → (k && (k && t)) ≡ (k && t)
cube_twice k t = grind arith

-- a test that asks for the cube once more changes nothing
pub row_is_tested : (W : ℕ) (r : Row W) →
    sharp_in W (span_of r.arc) (meet (in_known W r.cube) (in_test W (record { cube = r.cube; one = r.one; two = r.two }))) ≡ row_fact W (shown_row r)
unfolding meet in_test in_row
row_is_tested W r = sharp_alike W r.arc.first _ _ r.arc.arc.first_fits (λ x fits.
    ap (λ b. in_arc W r.arc x && b) (cube_twice (in_known W r.cube x) (in_arc W r.one x && in_arc W r.two x)))
