-- The laws of the transfer, and with them all laws of the domain of facts.
use Rattle.std.proofs.Common.{◌≡◌, ℕ, Bool, true, false, sym, ◌∙◌, ap, subst, refl, Option, Some, None, nat_eq, if◌then◌else◌}
use Rattle.vfa_ir.specs.declared.operations.Bin.{Bin}
use Rattle.vfa_ir.specs.declared.operations.Flags.{Flags}
use Rattle.vfa_ir.specs.declared.operations.Op.{Op}
use Rattle.vfa_ir.specs.declared.operations.Ty.{Ty}
use Rattle.vfa_ir.specs.Printable.{op_type}
use Rattle.vfa_ir.specs.Typed.{Converts}
use Rattle.vfa_fact.specs.declared.cell.Parts.{Parts}
use Rattle.vfa_fact.specs.declared.numbers.Numbers.{Numbers}
use Rattle.vfa_fact.specs.Cells.{CellValue, IsCell}
use Rattle.vfa_mean.specs.declared.value.Val.{Val}
use Rattle.vfa_mean.specs.Meaning.{done, binary, of_one, of_two, frozen, part_of, Allowed, Gave}
use Rattle.vfa_mean.specs.Operands.{IsOperation}
use Rattle.vfa_mean.specs.Rows.{compare, two_numbers, one_number, with_overflow, convert}
use Rattle.vfa_values.specs.Laws.{IsLawful}
use Rattle.vfa_values.specs.Operands.{EachOperand}
use Rattle.vfa_xfer.specs.declared.any_fact.AnyFact.{AnyFact}
use Rattle.vfa_xfer.specs.AnyFacts.{type_of_parts, fact_type, AreCells, IsAnyFact, CellHolds, PartsHold, HoldsOf}
use Rattle.vfa_xfer.specs.Binary.{binary_cell, binary_constant, binary_by_row}
use Rattle.vfa_xfer.specs.BinaryCells.{binary_cell_is}
use Rattle.vfa_xfer.specs.BinarySound.{binary_holds, where_holds}
use Rattle.vfa_xfer.specs.CastSound.{transfer_cast_holds}
use Rattle.vfa_xfer.specs.CompareLaws.{icmp_holds}
use Rattle.vfa_xfer.specs.Constants.{single_in}
use Rattle.vfa_xfer.specs.CountSound.{transfer_one_holds}
use Rattle.vfa_xfer.specs.ExtremeLaws.{transfer_two_holds}
use Rattle.vfa_xfer.specs.FactAnswers.{one_fact}
use Rattle.vfa_xfer.specs.FactLaws.{OfType, int_width, int_apart, facts_lawful}
use Rattle.vfa_xfer.specs.OverflowLaws.{over_holds}
use Rattle.vfa_xfer.specs.Overflows.{overflow_operation, no_flags}
use Rattle.vfa_xfer.specs.ResultCells.{selected_is, selected_width, frozen_is, frozen_width, assumed_is, compared_is, two_is, one_is, one_width, cast_is, cast_width, overflow_parts_are}
use Rattle.vfa_xfer.specs.SelectLaws.{select_holds, freeze_holds, part_holds, assume_holds}
use Rattle.vfa_xfer.specs.Transfers.{first_of, cell_in, part_of_parts, transferred, fact_answers}

-- ---- operands

-- the parts of a number of width w
pub record IsNumberFact (w : ℕ) (p : Parts) : Type 0 where
  pub cell : IsCell (first_of p)
  pub width : (first_of p).width ≡ w
  pub holds : (v : Val) → PartsHold p v → CellHolds (first_of p) v

number_parts : (w : ℕ) (p : Parts) → AreCells p → type_of_parts p ≡ Ty.Int w → IsNumberFact w p
number_parts w (Parts.One c) is typed = record { cell = is; width = int_width c.width w typed; holds = λ v h. h }
number_parts w (Parts.Two c d) is typed = absurd (int_apart w c.width (sym typed))

pub number_fact : (w : ℕ) (f : AnyFact) → OfType (Ty.Int w) f → IsNumberFact w f.parts
number_fact w f of = number_parts w f.parts of.is_proper of.typed

pub same_widths : (w : ℕ) (a b : AnyFact) → OfType (Ty.Int w) a → OfType (Ty.Int w) b → (cell_in a).width ≡ (cell_in b).width
same_widths w a b of of' = (number_fact w a of).width ∙ sym (number_fact w b of').width

-- ---- types

one_typed : (w : ℕ) (c : CellValue) → IsCell c → c.width ≡ w → OfType (Ty.Int w) (one_fact c)
one_typed w c is width = record { is_proper = is; typed = ap Ty.Int width }

by_row_width : (bin : Bin) (flags : Flags) (a b : CellValue) (p q : Option Numbers) → (binary_by_row bin flags a b p q).width ≡ a.width
by_row_width bin flags a b (Some m) (Some n) = refl
by_row_width bin flags a b (Some m) None = refl
by_row_width bin flags a b None q = refl

binary_width : (bin : Bin) (flags : Flags) (a b : CellValue) → (binary_cell bin flags a b).width ≡ a.width
unfolding binary_cell
binary_width bin flags a b = where_holds (λ (c : CellValue). c.width ≡ a.width) (single_in a) (single_in b) (binary_constant bin flags a b)
    (binary_by_row bin flags a b a.numbers b.numbers) (λ x y _ _. refl) (by_row_width bin flags a b a.numbers b.numbers)

part_typed : (w index : ℕ) (p : Parts) → AreCells p → type_of_parts p ≡ Ty.Pair w → OfType (if nat_eq index 0 then Ty.Int w else Ty.Int 1) (one_fact (part_of_parts index p))
part_typed w index (Parts.One c) is typed = absurd (int_apart c.width w typed)
part_typed w index (Parts.Two c d) is typed = by_test (nat_eq index 0)
  where
    pair_width : (u v : ℕ) → Ty.Pair u ≡ Ty.Pair v → u ≡ v
    pair_width u v e = cc

    by_test : (t : Bool) → OfType (if t then Ty.Int w else Ty.Int 1) (one_fact (if t then c else d))
    by_test true = one_typed w c is.0 (pair_width c.width w typed)
    by_test false = one_typed 1 d is.1 is.2

pub transfer_typed : (op : Op) (a b c : AnyFact) → IsOperation op → EachOperand op (λ t. OfType t a) (λ t. OfType t b) (λ t. OfType t c) →
    OfType (op_type op) (transferred op a b c)
transfer_typed (Op.Bin bin flags w _ _) a b c op of =
    let m = number_fact w a of.0 in let n = number_fact w b of.1 in
    one_typed w (binary_cell bin flags (cell_in a) (cell_in b)) (binary_cell_is bin flags (cell_in a) (cell_in b) m.cell (m.width ∙ sym n.width))
    (binary_width bin flags (cell_in a) (cell_in b) ∙ m.width)
transfer_typed (Op.Icmp pred samesign w _ _) a b c op of = one_typed 1 _ (compared_is pred samesign (cell_in a) (cell_in b)) refl
transfer_typed (Op.Select w _ _ _) a b c op of =
    let m = number_fact w a of.0 in let n = number_fact w b of.1 in let k = number_fact 1 c of.2 in
    one_typed w _ (selected_is (cell_in c) (cell_in a) (cell_in b) m.cell n.cell (m.width ∙ sym n.width)) (selected_width (cell_in c) (cell_in a) (cell_in b) ∙ m.width)
transfer_typed (Op.Cast cast flags v w _) a b c op of = one_typed w _ (cast_is cast flags w (cell_in a) op.1) (cast_width cast flags w (cell_in a))
transfer_typed (Op.Freeze w _) a b c op of =
    let m = number_fact w a of in one_typed w _ (frozen_is (cell_in a) m.cell) (frozen_width (cell_in a) ∙ m.width)
transfer_typed (Op.Two fun w _ _) a b c op of =
    let m = number_fact w a of.0 in one_typed w _ (two_is fun (cell_in a) (cell_in b) m.cell) m.width
transfer_typed (Op.One fun w _ strict) a b c op of =
    let m = number_fact w a of in one_typed w _ (one_is fun strict (cell_in a) m.cell) (one_width fun strict (cell_in a) ∙ m.width)
transfer_typed (Op.Over over w _ _) a b c op of =
    let m = number_fact w a of.0 in let n = number_fact w b of.1 in
    record {
      is_proper = overflow_parts_are over (cell_in a) (cell_in b) m.cell (m.width ∙ sym n.width);
      typed = ap Ty.Pair (binary_width (overflow_operation over) no_flags (cell_in a) (cell_in b) ∙ m.width);
    }
transfer_typed (Op.Part w _ index) a b c op of = part_typed w index c.parts of.is_proper of.typed
transfer_typed (Op.Assume _) a b c op of = one_typed 1 _ (assumed_is (cell_in c)) refl
transfer_typed (Op.Call width args) a b c op of = absurd op

-- ---- soundness

part_sound : (w index : ℕ) (p : Parts) (v r : Val) → type_of_parts p ≡ Ty.Pair w → PartsHold p v → Allowed (part_of index v) (Gave r) → CellHolds (part_of_parts index p) r
part_sound w index (Parts.One c) v r typed holds given = absurd (int_apart c.width w typed)
part_sound w index (Parts.Two c d) v r typed holds given = part_holds c d index v r holds given

pub transfer_sound : (op : Op) (a b c : AnyFact) (x y z r : Val) → IsOperation op → EachOperand op (λ t. OfType t a) (λ t. OfType t b) (λ t. OfType t c) →
    EachOperand op (λ _. HoldsOf a x) (λ _. HoldsOf b y) (λ _. HoldsOf c z) → Allowed (done op x y z) (Gave r) → HoldsOf (transferred op a b c) r
unfolding done
transfer_sound (Op.Bin bin flags w _ _) a b c x y z r op of holds given =
    let m = number_fact w a of.0 in let n = number_fact w b of.1 in
    binary_holds bin flags (cell_in a) (cell_in b) m.cell n.cell x y r (m.width ∙ sym n.width) (m.holds x holds.0) (n.holds y holds.1)
    (subst (λ (v : ℕ). Allowed (binary bin flags v x y) (Gave r)) (sym m.width) given)
transfer_sound (Op.Icmp pred samesign w _ _) a b c x y z r op of holds given =
    let m = number_fact w a of.0 in let n = number_fact w b of.1 in
    icmp_holds pred samesign (cell_in a) (cell_in b) m.cell n.cell (m.width ∙ sym n.width) x y r (m.holds x holds.0) (n.holds y holds.1)
    (subst (λ (v : ℕ). Allowed (of_two (compare pred samesign v) x y) (Gave r)) (sym m.width) given)
transfer_sound (Op.Select w _ _ _) a b c x y z r op of holds given =
    let m = number_fact w a of.0 in let n = number_fact w b of.1 in let k = number_fact 1 c of.2 in
    select_holds (cell_in c) (cell_in a) (cell_in b) m.cell n.cell (m.width ∙ sym n.width) z x y r (k.holds z holds.2) (m.holds x holds.0) (n.holds y holds.1) given
transfer_sound (Op.Cast cast flags v w _) a b c x y z r op of holds given =
    let m = number_fact v a of in
    transfer_cast_holds cast flags w (cell_in a) m.cell op.1 (subst (λ (u : ℕ). Converts cast u w) (sym m.width) op.2) x r (m.holds x holds)
    (subst (λ (u : ℕ). Allowed (of_one (convert cast flags u w) x) (Gave r)) (sym m.width) given)
transfer_sound (Op.Freeze w _) a b c x y z r op of holds given =
    let m = number_fact w a of in
    freeze_holds (cell_in a) x r (m.holds x holds) (subst (λ (u : ℕ). Allowed (frozen u x) (Gave r)) (sym m.width) given)
transfer_sound (Op.Two fun w _ _) a b c x y z r op of holds given =
    let m = number_fact w a of.0 in let n = number_fact w b of.1 in
    transfer_two_holds fun (cell_in a) (cell_in b) m.cell n.cell (m.width ∙ sym n.width) x y r (m.holds x holds.0) (n.holds y holds.1)
    (subst (λ (v : ℕ). Allowed (of_two (two_numbers fun v) x y) (Gave r)) (sym m.width) given)
transfer_sound (Op.One fun w _ strict) a b c x y z r op of holds given =
    let m = number_fact w a of in
    transfer_one_holds fun strict (cell_in a) m.cell x r (m.holds x holds) (subst (λ (v : ℕ). Allowed (of_one (one_number fun strict v) x) (Gave r)) (sym m.width) given)
transfer_sound (Op.Over over w _ _) a b c x y z r op of holds given =
    let m = number_fact w a of.0 in let n = number_fact w b of.1 in
    over_holds over (cell_in a) (cell_in b) m.cell n.cell (m.width ∙ sym n.width) x y r (m.holds x holds.0) (n.holds y holds.1)
    (subst (λ (v : ℕ). Allowed (of_two (with_overflow over v) x y) (Gave r)) (sym m.width) given)
transfer_sound (Op.Part w _ index) a b c x y z r op of holds given = part_sound w index c.parts z r of.typed holds given
transfer_sound (Op.Assume _) a b c x y z r op of holds given =
    let k = number_fact 1 c of in assume_holds (cell_in c) z r k.width (k.holds z holds) given
transfer_sound (Op.Call width args) a b c x y z r op of holds given = absurd op

pub fact_laws : IsLawful HoldsOf fact_type IsAnyFact fact_answers
fact_laws = facts_lawful transferred transfer_typed transfer_sound
