-- Facts of the types that an operation asks for are ready for each rule.
use Rattle.std.proofs.Common.{◌≡◌, ℕ, Bool, true, false, refl, sym, ◌∙◌, ap, subst, Option, Some, None}
use Rattle.vfa_ir.specs.declared.operations.Fun2.{Fun2}
use Rattle.vfa_ir.specs.declared.operations.Op.{Op}
use Rattle.vfa_ir.specs.declared.operations.Operand.{Operand}
use Rattle.std.specs.Prelude.{IfSome}
use Rattle.vfa_ir.specs.declared.operations.Ty.{Ty}
use Rattle.vfa_ir.specs.declared.operations.ValueId.{ValueId}
use Rattle.vfa_mean.specs.Rows.{overflow_arith}
use Rattle.vfa_word.specs.declared.arith.Arith.{Arith}
use Rattle.vfa_wrap.specs.declared.reading.Reading.{Reading}
use Rattle.vfa_fact.specs.declared.cell.Parts.{Parts}
use Rattle.vfa_fact.specs.Cells.{CellValue, IsCell}
use Rattle.vfa_mean.specs.Moments.{is_call}
use Rattle.vfa_mean.specs.Operands.{IsOperation}
use Rattle.vfa_values.specs.Conditions.{IsOf, width_of}
use Rattle.vfa_rules.specs.declared.change.OverflowCall.{OverflowCall}
use Rattle.vfa_rules.specs.Facts.{type_of_parts, AreCells, number_cell, bit_cell}
use Rattle.vfa_rules.specs.Order.{Known}
use Rattle.vfa_rules.specs.Ready.{AreReady}
use Rattle.vfa_rules.specs.Results.{AreFactsFor}
use Rattle.vfa_rules.specs.Rules.{extracted, plain_if, plain_arithmetic, range_of_overflow, unsigned_form}

-- the cell of a number of width w
pub record IsCellOf (w : ℕ) (c : CellValue) : Type 0 where
  pub cell : IsCell c
  pub width : c.width ≡ w

pub cell_of_number : (w : ℕ) (p : Parts) → IsOf type_of_parts AreCells (Ty.Int w) p → IsCellOf w (number_cell p)
cell_of_number w (Parts.One c) is = record { cell = is.is_proper; width = ap width_of is.typed }
cell_of_number w (Parts.Two c d) is = absurd (let e = is.typed in cc)

module _ (x y : CellValue) (same : x.width ≡ y.width) where
  plain_ready : (s : Bool) (arith : Arith) (r : Reading) (w : ℕ) (a b : Operand) (op : Op) → AreReady (unsigned_form x y op) x y →
      AreReady (unsigned_form x y (plain_if s arith r w a b op)) x y
  plain_ready true arith r w a b op h = same
  plain_ready false arith r w a b op h = h

two_ready : (x y bit : CellValue) (call : Option OverflowCall) (fun : Fun2) (w : ℕ) (a b : Operand) → x.width ≡ y.width →
    AreReady (unsigned_form x y (plain_arithmetic call bit x y (Op.Two fun w a b))) x y
two_ready x y bit call Fun2.Umin w a b same = same
two_ready x y bit call Fun2.Umax w a b same = same
two_ready x y bit call Fun2.Smin w a b same = same
two_ready x y bit call Fun2.Smax w a b same = same
two_ready x y bit call Fun2.UaddSat w a b same = plain_ready x y same _ Arith.Add Reading.Unsigned w a b (Op.Two Fun2.UaddSat w a b) same
two_ready x y bit call Fun2.UsubSat w a b same = plain_ready x y same _ Arith.Sub Reading.Unsigned w a b (Op.Two Fun2.UsubSat w a b) same
two_ready x y bit call Fun2.SaddSat w a b same = plain_ready x y same _ Arith.Add Reading.Signed w a b (Op.Two Fun2.SaddSat w a b) same
two_ready x y bit call Fun2.SsubSat w a b same = plain_ready x y same _ Arith.Sub Reading.Signed w a b (Op.Two Fun2.SsubSat w a b) same

same_width : (w : ℕ) (p q : Parts) → IsOf type_of_parts AreCells (Ty.Int w) p → IsOf type_of_parts AreCells (Ty.Int w) q → (number_cell p).width ≡ (number_cell q).width
same_width w p q hp hq = (cell_of_number w p hp).width ∙ sym (cell_of_number w q hq).width

call_widths : (w : ℕ) (p q : Parts) (call : Option OverflowCall) →
    IfSome call (λ (_ : OverflowCall). IsOf type_of_parts AreCells (Ty.Int w) p × IsOf type_of_parts AreCells (Ty.Int w) q) →
    IfSome call (λ (_ : OverflowCall). (number_cell p).width ≡ (number_cell q).width)
call_widths w p q None h = tt
call_widths w p q (Some c) h = same_width w p q h.0 h.1

part_ready : (x y bit : CellValue) (call : Option OverflowCall) (w : ℕ) (pair : ValueId) (index : ℕ) → IfSome call (λ (_ : OverflowCall). x.width ≡ y.width) →
    AreReady (unsigned_form x y (extracted call bit w pair index)) x y
part_ready x y bit None w pair index h = tt
part_ready x y bit (Some c) w pair index h = plain_ready x y h _ (overflow_arith c.over) (range_of_overflow c.over) w c.a c.b (Op.Part w pair index) tt

pub ready_first : (k : Known) (op : Op) → AreFactsFor k op → (is_call op ≡ false → IsOperation op) → AreReady op (number_cell k.a) (number_cell k.b)
ready_first k (Op.Bin bin flags w a b) facts is = same_width w k.a k.b facts.operands.0 facts.operands.1
ready_first k (Op.Icmp _ _ _ _ _) facts is = tt
ready_first k (Op.Select _ _ _ _) facts is = tt
ready_first k (Op.Cast cast flags v w a) facts is = (is refl).1
ready_first k (Op.Freeze _ _) facts is = tt
ready_first k (Op.Two fun w a b) facts is = same_width w k.a k.b facts.operands.0 facts.operands.1
ready_first k (Op.One _ _ _ _) facts is = tt
ready_first k (Op.Over _ _ _ _) facts is = tt
ready_first k (Op.Part _ _ _) facts is = tt
ready_first k (Op.Assume _) facts is = tt
ready_first k (Op.Call _ _) facts is = tt

pub ready_after : (k : Known) (op : Op) → AreFactsFor k op → (is_call op ≡ false → IsOperation op) →
    AreReady (unsigned_form (number_cell k.a) (number_cell k.b) (plain_arithmetic k.call (bit_cell k.c) (number_cell k.a) (number_cell k.b) op)) (number_cell k.a) (number_cell k.b)
ready_after k (Op.Bin bin flags w a b) facts is = same_width w k.a k.b facts.operands.0 facts.operands.1
ready_after k (Op.Icmp _ _ _ _ _) facts is = tt
ready_after k (Op.Select _ _ _ _) facts is = tt
ready_after k (Op.Cast cast flags v w a) facts is = (is refl).1
ready_after k (Op.Freeze _ _) facts is = tt
ready_after k (Op.Two fun w a b) facts is = two_ready (number_cell k.a) (number_cell k.b) (bit_cell k.c) k.call fun w a b (same_width w k.a k.b facts.operands.0 facts.operands.1)
ready_after k (Op.One _ _ _ _) facts is = tt
ready_after k (Op.Over _ _ _ _) facts is = tt
ready_after k (Op.Part w pair index) facts is = part_ready (number_cell k.a) (number_cell k.b) (bit_cell k.c) k.call w pair index (call_widths w k.a k.b k.call facts.call_operands)
ready_after k (Op.Assume _) facts is = tt
ready_after k (Op.Call _ _) facts is = tt

-- the same of what the code made of the operation
pub ready_at : (k : Known) (op : Op) → AreFactsFor k op → (is_call op ≡ false → IsOperation op) → (x y bit : CellValue) →
    x ≡ number_cell k.a → y ≡ number_cell k.b → bit ≡ bit_cell k.c → (p r : Op) → p ≡ plain_arithmetic k.call bit x y op → r ≡ unsigned_form x y p → AreReady r x y
ready_at k op facts is x y bit ex ey eb p r ep er =
    let same : r ≡ unsigned_form (number_cell k.a) (number_cell k.b) (plain_arithmetic k.call (bit_cell k.c) (number_cell k.a) (number_cell k.b) op) =
    er ∙ ap (unsigned_form x y) ep ∙ (λ i. unsigned_form (ex i) (ey i) (plain_arithmetic k.call (eb i) (ex i) (ey i) op)) in
    subst (λ (s : Op). AreReady s x y) (sym same)
    (subst (λ (v : CellValue). AreReady (unsigned_form (number_cell k.a) (number_cell k.b) (plain_arithmetic k.call (bit_cell k.c) (number_cell k.a) (number_cell k.b) op)) x v) (sym ey)
    (subst (λ (v : CellValue). AreReady (unsigned_form (number_cell k.a) (number_cell k.b) (plain_arithmetic k.call (bit_cell k.c) (number_cell k.a) (number_cell k.b) op)) v (number_cell k.b)) (sym ex)
    (ready_after k op facts is)))
