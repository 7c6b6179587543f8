-- Each pair that an intrinsic with overflow gives is held by its cells.
use Rattle.std.proofs.Common.{◌≡◌, ℕ, Bool, true, false, not, ◌&&◌, refl, sym, ◌∙◌, ap, subst, Option, Some, None, pos}
use Rattle.std.specs.Prelude.{IfSome}
use Rattle.std.proofs.lemmas.Bool.{true≢false}
use Rattle.vfa_ir.specs.declared.operations.Over.{Over}
use Rattle.vfa_word.specs.Numbers.{IsWidth, wrap, whole_result}
use Rattle.vfa_mean.specs.declared.value.Done.{Done}
use Rattle.vfa_mean.specs.declared.value.Val.{Val}
use Rattle.vfa_mean.specs.Meaning.{Allowed, Gave, of_two, binary}
use Rattle.vfa_mean.specs.Rows.{bit_of, overflow_arith, overflows, with_overflow}
use Rattle.vfa_wrap.specs.Between.{Between, AreEnds}
use Rattle.vfa_wrap.specs.Ends.{EndsOf}
use Rattle.vfa_wrap.specs.WholeSpans.{AreOperandEnds, Overflows, fits_read, whole_read, overflow_of, span_of_results}
use Rattle.vfa_wrap.proofs.SpanLaws.{overflow_tells}
use Rattle.vfa_fact.specs.declared.numbers.Numbers.{Numbers}
use Rattle.vfa_fact.specs.Cells.{CellValue, IsCell, in_option, only_number}
use Rattle.vfa_fact.specs.Fact.{in_numbers}
use Rattle.vfa_fact.proofs.JoinedCells.{AreFacts}
use Rattle.vfa_xfer.specs.AnyFacts.{CellHolds, PartsHold}
use Rattle.vfa_xfer.specs.Binary.{binary_cell, ends_in_numbers}
use Rattle.vfa_xfer.specs.Overflows.{decided_bit, no_flags, range_of_overflow, overflow_numbers, overflow_by_numbers, overflow_operation, overflow_parts}
use Rattle.vfa_xfer.specs.BinarySound.{binary_holds}
use Rattle.vfa_xfer.specs.CompareLaws.{bit_only, bit_any}
use Rattle.vfa_xfer.specs.Operand.{IsOperand, operand}
use Rattle.vfa_xfer.specs.StrictLaws.{given_same}

-- ---- the bit

overflows_is : (over : Over) (w x y : ℕ) →
    not (fits_read (range_of_overflow over) w (whole_read (range_of_overflow over) w (overflow_arith over) x y)) ≡ overflows over w x y
overflows_is Over.Uadd w x y = refl
overflows_is Over.Sadd w x y = refl
overflows_is Over.Usub w x y = refl
overflows_is Over.Ssub w x y = refl
overflows_is Over.Umul w x y = refl
overflows_is Over.Smul w x y = refl

operand_ends : (over : Over) (w : ℕ) (e : EndsOf) → AreEnds w e → AreOperandEnds (overflow_arith over) w e
operand_ends Over.Uadd w e ends = ends
operand_ends Over.Sadd w e ends = ends
operand_ends Over.Usub w e ends = ends
operand_ends Over.Ssub w e ends = ends
operand_ends Over.Umul w e ends = ends
operand_ends Over.Smul w e ends = ends

bit_in : (o : Option Bool) (b : Bool) → IfSome o (λ answer. b ≡ answer) → in_numbers 1 (decided_bit o) (bit_of b) ≡ true
bit_in (Some answer) b same = subst (λ (c : Bool). in_numbers 1 (only_number 1 (bit_of c)) (bit_of b) ≡ true) same (bit_only b)
bit_in None b same = bit_any b

answer_is : (over : Over) (w x y : ℕ) (a b : EndsOf) (o : Option Bool) → Between w a x → Between w b y →
    IfSome o (λ answer. Overflows (overflow_arith over) (range_of_overflow over) w a b answer) → IfSome o (λ answer. overflows over w x y ≡ answer)
answer_is over w x y a b (Some answer) px py tells = sym (overflows_is over w x y) ∙ tells.each x y px py
answer_is over w x y a b None px py tells = tt

overflow_has : (over : Over) (w : ℕ) (m n : Numbers) (x y : ℕ) → IsOperand w m x → IsOperand w n y → in_numbers 1 (overflow_numbers over w m n) (bit_of (overflows over w x y)) ≡ true
unfolding overflow_numbers
overflow_has over w m n x y px py =
    let a : EndsOf = ends_in_numbers w m in
    let b : EndsOf = ends_in_numbers w n in
    bit_in (overflow_of (range_of_overflow over) w (span_of_results (overflow_arith over) (range_of_overflow over) (ends_in_numbers w m) (ends_in_numbers w n))) (overflows over w x y)
    (answer_is over w x y (ends_in_numbers w m) (ends_in_numbers w n) _ px.between py.between
    (overflow_tells (overflow_arith over) (range_of_overflow over) w (ends_in_numbers w m) (ends_in_numbers w n) px.ends (operand_ends over w (ends_in_numbers w n) py.ends) _ refl))

module _ (over : Over) (a b : CellValue) (width : IsWidth a.width) where
  bit_held : (m n : Option Numbers) (x y : ℕ) → AreFacts a.width m → AreFacts a.width n → in_option a.width m x ≡ true → in_option a.width n y ≡ true →
      CellHolds (overflow_by_numbers over a b m n) (Val.Number (bit_of (overflows over a.width x y)))
  unfolding in_option
  bit_held (Some m) (Some n) x y one two px py = overflow_has over a.width m n x y (operand a.width m x width (one m refl) px) (operand a.width n y width (two n refl) py)
  bit_held (Some m) None x y one two px py = absurd (true≢false (sym py))
  bit_held None n x y one two px py = absurd (true≢false (sym px))

  off_left : (p q : Bool) → p ≡ false → (p && q) ≡ false
  off_left p q e = ap (λ (t : Bool). t && q) e

  off_right : (p q : Bool) → q ≡ false → (p && q) ≡ false
  off_right true q e = e
  off_right false q e = refl

  bit_poison : (m n : Option Numbers) → (a.never_poison && b.never_poison) ≡ false → CellHolds (overflow_by_numbers over a b m n) Val.Poison
  bit_poison (Some m) (Some n) off = off
  bit_poison (Some m) None off = refl
  bit_poison None n off = refl

-- ---- both parts

binary_is : (over : Over) (w x y : ℕ) → binary (overflow_operation over) no_flags w (Val.Number x) (Val.Number y) ≡ Done.Is (Val.Number (wrap w (whole_result (overflow_arith over) (pos x) (pos y))))
binary_is Over.Uadd w x y = refl
binary_is Over.Sadd w x y = refl
binary_is Over.Usub w x y = refl
binary_is Over.Ssub w x y = refl
binary_is Over.Umul w x y = refl
binary_is Over.Smul w x y = refl

first_poison : (over : Over) (w : ℕ) (y : Val) → binary (overflow_operation over) no_flags w Val.Poison y ≡ Done.Is Val.Poison
first_poison Over.Uadd w y = refl
first_poison Over.Sadd w y = refl
first_poison Over.Usub w y = refl
first_poison Over.Ssub w y = refl
first_poison Over.Umul w y = refl
first_poison Over.Smul w y = refl

second_poison : (over : Over) (w x : ℕ) → binary (overflow_operation over) no_flags w (Val.Number x) Val.Poison ≡ Done.Is Val.Poison
second_poison Over.Uadd w x = refl
second_poison Over.Sadd w x = refl
second_poison Over.Usub w x = refl
second_poison Over.Ssub w x = refl
second_poison Over.Umul w x = refl
second_poison Over.Smul w x = refl

allowed_at : (d : Done) (v : Val) → d ≡ Done.Is v → Allowed d (Gave v)
allowed_at d v e = subst (λ (f : Done). Allowed f (Gave v)) (sym e) refl

module _ (over : Over) (a b : CellValue) (left : IsCell a) (right : IsCell b) (width : a.width ≡ b.width) where
  right_facts : AreFacts a.width b.numbers
  right_facts = subst (λ (w : ℕ). AreFacts w b.numbers) (sym width) right.fact

  number_held : (x y v : Val) → CellHolds a x → CellHolds b y → binary (overflow_operation over) no_flags a.width x y ≡ Done.Is v → CellHolds (binary_cell (overflow_operation over) no_flags a b) v
  number_held x y v one two is = binary_holds (overflow_operation over) no_flags a b left right x y v width one two
      (allowed_at (binary (overflow_operation over) no_flags a.width x y) v is)

  pub over_holds : (x y r : Val) → CellHolds a x → CellHolds b y → Allowed (of_two (with_overflow over a.width) x y) (Gave r) → PartsHold (overflow_parts over a b) r
  over_holds (Val.Number p) (Val.Number q) r one two given =
      subst (PartsHold (overflow_parts over a b)) (sym (given_same (Val.Pair (wrap a.width (whole_result (overflow_arith over) (pos p) (pos q))) (overflows over a.width p q)) r given)) (
        number_held (Val.Number p) (Val.Number q) (Val.Number (wrap a.width (whole_result (overflow_arith over) (pos p) (pos q)))) one two (binary_is over a.width p q),
        bit_held over a b left.width a.numbers b.numbers p q left.fact right_facts one (ap (λ w. in_option w b.numbers q) width ∙ two),
      )
  over_holds (Val.Number p) Val.Poison r one two given =
      subst (PartsHold (overflow_parts over a b)) (sym (given_same Val.Poison r given)) (
        number_held (Val.Number p) Val.Poison Val.Poison one two (second_poison over a.width p),
        bit_poison over a b left.width a.numbers b.numbers (off_right over a b left.width a.never_poison b.never_poison two),
      )
  over_holds (Val.Number p) (Val.Pair q s) r one two given = absurd two
  over_holds Val.Poison y r one two given =
      subst (PartsHold (overflow_parts over a b)) (sym (given_same Val.Poison r given)) (
        number_held Val.Poison y Val.Poison one two (first_poison over a.width y),
        bit_poison over a b left.width a.numbers b.numbers (off_left over a b left.width a.never_poison b.never_poison one),
      )
  over_holds (Val.Pair p s) y r one two given = absurd one
