-- The facts of rows.
use Rattle.std.proofs.Common.{◌≡◌, ℕ, ◌^◌, ◌<◌, true, Option, Some}
use Rattle.vfa_wrap.specs.Arc.{IsArc, in_span}
use Rattle.vfa_fact.specs.declared.numbers.Numbers.{Numbers}
use Rattle.vfa_fact.specs.Cells.{in_option}
use Rattle.vfa_fact.specs.Fact.{IsFact}
use Rattle.vfa_fact.proofs.SharpArcs.{sharp_in_fact, sharp_in_has}
use Rattle.vfa_xfer.specs.Rows.{RowOf, in_row, row_fact}

-- a number of the row in the arc is one of the fact
pub row_holds : (w : ℕ) (r : RowOf) (o : Option Numbers) → IsArc w r.arc → o ≡ row_fact w r → (x : ℕ) → x < 2 ^ w →
    in_span w r.arc x ≡ true → in_row w r x ≡ true → in_option w o x ≡ true
row_holds w r o arc same x fits here member = sharp_in_has w r.arc (in_row w r) arc o same x fits here member

-- what there is is a fact
pub row_is_fact : (w : ℕ) (r : RowOf) (n : Numbers) → IsArc w r.arc → row_fact w r ≡ Some n → IsFact w n
row_is_fact w r n arc same = sharp_in_fact w r.arc (in_row w r) arc n same
