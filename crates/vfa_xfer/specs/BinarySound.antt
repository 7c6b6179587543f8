-- The cell that a transfer gives of two cells holds of each result of values of which these hold.
use Rattle.std.proofs.Common.{◌≡◌, ℕ, ◌+◌, ◌-◌, ◌^◌, ◌<◌, ◌≤◌, Bool, true, false, ◌&&◌, ◌||◌, cond, nat_eq, sym, ◌∙◌, ap, subst, refl, arith, Option, Some, None}
use Rattle.std.specs.Option.{is_some}
use Rattle.std.proofs.lemmas.Bool.{and_parts, true≢false}
use Rattle.std.proofs.lemmas.Nat.{pow_pos}
use Rattle.vfa_ir.specs.declared.operations.Bin.{Bin}
use Rattle.vfa_ir.specs.declared.operations.Flags.{Flags}
use Rattle.vfa_ir.specs.declared.operations.Op.{Op}
use Rattle.vfa_ir.specs.declared.operations.Operand.{Operand}
use Rattle.vfa_word.specs.Numbers.{IsWidth}
use Rattle.vfa_dom.specs.Best.{Masks}
use Rattle.vfa_known.proofs.Members.{only_masks}
use Rattle.vfa_wrap.proofs.Truth.{untrue}
use Rattle.vfa_fact.specs.declared.numbers.Numbers.{Numbers}
use Rattle.vfa_fact.specs.Cells.{CellValue, IsCell, in_option, only_number}
use Rattle.vfa_fact.specs.Fact.{IsFact, in_numbers}
use Rattle.vfa_fact.proofs.CellNumbers.{only_has, only_fact, single_tells, cell_fits}
use Rattle.vfa_fact.proofs.JoinedCells.{AreFacts}
use Rattle.vfa_mean.specs.declared.value.Done.{Done}
use Rattle.vfa_mean.specs.declared.value.Val.{Val}
use Rattle.vfa_mean.specs.Meaning.{Allowed, Gave, done, binary, of_two, unsigned_division, signed_division, minus_one}
use Rattle.vfa_mean.specs.Values.{IsInt}
use Rattle.vfa_mean.proofs.Results.{IsFixed, undefined, fixed, done-fixed}
use Rattle.vfa_mean.proofs.Typing.{done_typed}
use Rattle.vfa_xfer.specs.AnyFacts.{CellHolds}
use Rattle.vfa_xfer.specs.Binary.{binary_row, binary_constant, binary_by_row, binary_cell, operands_marked, never_breaks}
use Rattle.vfa_xfer.specs.Constants.{constant_numbers, single_in, where_single}
use Rattle.vfa_xfer.specs.Rows.{row_numbers}
use Rattle.vfa_xfer.specs.BinaryDivisions.{quotient_has, remainder_has, signed_quotient_has, signed_remainder_has}
use Rattle.vfa_xfer.specs.BinaryMarks.{clean}
use Rattle.vfa_xfer.specs.BinaryRows.{Has, sum_has, difference_has, product_has, and_has, or_has, xor_has}
use Rattle.vfa_xfer.specs.BinaryShifts.{left_has, right_has, right_signed_has}
use Rattle.vfa_xfer.specs.Operand.{IsOperand, operand}

-- ---- numbers of two facts

module _ (w : ℕ) (m n : Numbers) (x y : ℕ) (px : IsOperand w m x) (py : IsOperand w n y) where
  pub row_has : (bin : Bin) (flags : Flags) (r : ℕ) → Allowed (binary bin flags w (Val.Number x) (Val.Number y)) (Gave (Val.Number r)) →
      Has w (row_numbers w (binary_row bin flags w m n)) r
  unfolding binary_row
  row_has Bin.Add flags r given = sum_has w m n x y px py flags r given
  row_has Bin.Sub flags r given = difference_has w m n x y px py flags r given
  row_has Bin.Mul flags r given = product_has w m n x y px py flags r given
  row_has Bin.Shl flags r given = left_has w m n x y px py flags r given
  row_has Bin.Udiv flags r given = quotient_has w m n x y px py flags r given
  row_has Bin.Sdiv flags r given = signed_quotient_has w m n x y px py flags r given
  row_has Bin.Lshr flags r given = right_has w m n x y px py flags r given
  row_has Bin.Ashr flags r given = right_signed_has w m n x y px py flags r given
  row_has Bin.Urem flags r given = remainder_has w m n x y px py r given
  row_has Bin.Srem flags r given = signed_remainder_has w m n x y px py r given
  row_has Bin.And flags r given = and_has w m n x y px py r given
  row_has Bin.Or flags r given = or_has w m n x y px py flags r given
  row_has Bin.Xor flags r given = xor_has w m n x y px py r given

-- ---- the operands of a result

pub record AreNumbers (x y : Val) : Type 0 where
  pub left : ℕ
  pub right : ℕ
  pub left_is : x ≡ Val.Number left
  pub right_is : y ≡ Val.Number right

both : (x y : ℕ) → AreNumbers (Val.Number x) (Val.Number y)
both x y = record { left = x; right = y; left_is = refl; right_is = refl }

-- a number comes of numbers alone
two_numbers : (row : ℕ → ℕ → Done) (x y : Val) (r : ℕ) → Allowed (of_two row x y) (Gave (Val.Number r)) → AreNumbers x y
two_numbers row (Val.Number x) (Val.Number y) r given = both x y
two_numbers row (Val.Number x) Val.Poison r given = absurd (cc)
two_numbers row (Val.Number x) (Val.Pair y o) r given = absurd (cc)
two_numbers row Val.Poison y r given = absurd (cc)
two_numbers row (Val.Pair x o) y r given = absurd (cc)

no_number : (test : Bool) (r : ℕ) → Allowed (cond test Done.Ub (Done.Is Val.Poison)) (Gave (Val.Number r)) → ⊥
no_number true r given = absurd (cc)
no_number false r given = absurd (cc)

unsigned_numbers : (row : ℕ → ℕ → Done) (x y : Val) (r : ℕ) → Allowed (unsigned_division row x y) (Gave (Val.Number r)) → AreNumbers x y
unsigned_numbers row (Val.Number x) (Val.Number y) r given = both x y
unsigned_numbers row Val.Poison (Val.Number y) r given = absurd (no_number (nat_eq y 0) r given)
unsigned_numbers row (Val.Pair x o) (Val.Number y) r given = absurd (no_number (nat_eq y 0) r given)
unsigned_numbers row (Val.Number x) Val.Poison r given = absurd (cc)
unsigned_numbers row Val.Poison Val.Poison r given = absurd (cc)
unsigned_numbers row (Val.Pair x o) Val.Poison r given = absurd (cc)
unsigned_numbers row (Val.Number x) (Val.Pair y o) r given = absurd (cc)
unsigned_numbers row Val.Poison (Val.Pair y o) r given = absurd (cc)
unsigned_numbers row (Val.Pair x p) (Val.Pair y o) r given = absurd (cc)

signed_numbers : (w : ℕ) (row : ℕ → ℕ → Done) (x y : Val) (r : ℕ) → Allowed (signed_division w row x y) (Gave (Val.Number r)) → AreNumbers x y
signed_numbers w row (Val.Number x) (Val.Number y) r given = both x y
signed_numbers w row Val.Poison (Val.Number y) r given = absurd (no_number (nat_eq y 0 || nat_eq y (minus_one w)) r given)
signed_numbers w row (Val.Pair x o) (Val.Number y) r given = absurd (no_number (nat_eq y 0 || nat_eq y (minus_one w)) r given)
signed_numbers w row (Val.Number x) Val.Poison r given = absurd (cc)
signed_numbers w row Val.Poison Val.Poison r given = absurd (cc)
signed_numbers w row (Val.Pair x o) Val.Poison r given = absurd (cc)
signed_numbers w row (Val.Number x) (Val.Pair y o) r given = absurd (cc)
signed_numbers w row Val.Poison (Val.Pair y o) r given = absurd (cc)
signed_numbers w row (Val.Pair x p) (Val.Pair y o) r given = absurd (cc)

given_numbers : (bin : Bin) (flags : Flags) (w : ℕ) (x y : Val) (r : ℕ) → Allowed (binary bin flags w x y) (Gave (Val.Number r)) → AreNumbers x y
given_numbers Bin.Add flags w x y r given = two_numbers _ x y r given
given_numbers Bin.Sub flags w x y r given = two_numbers _ x y r given
given_numbers Bin.Mul flags w x y r given = two_numbers _ x y r given
given_numbers Bin.Shl flags w x y r given = two_numbers _ x y r given
given_numbers Bin.Udiv flags w x y r given = unsigned_numbers _ x y r given
given_numbers Bin.Sdiv flags w x y r given = signed_numbers w _ x y r given
given_numbers Bin.Lshr flags w x y r given = two_numbers _ x y r given
given_numbers Bin.Ashr flags w x y r given = two_numbers _ x y r given
given_numbers Bin.Urem flags w x y r given = unsigned_numbers _ x y r given
given_numbers Bin.Srem flags w x y r given = signed_numbers w _ x y r given
given_numbers Bin.And flags w x y r given = two_numbers _ x y r given
given_numbers Bin.Or flags w x y r given = two_numbers _ x y r given
given_numbers Bin.Xor flags w x y r given = two_numbers _ x y r given

-- marked operands are numbers
marked_both : (a b : CellValue) (x y : Val) → CellHolds a x → CellHolds b y → (a.never_poison && b.never_poison) ≡ true → AreNumbers x y
marked_both a b (Val.Number x) (Val.Number y) hx hy marks = both x y
marked_both a b (Val.Number x) Val.Poison hx hy marks = absurd (true≢false (sym (and_parts a.never_poison b.never_poison marks).1 ∙ hy))
marked_both a b (Val.Number x) (Val.Pair y o) hx hy marks = absurd hy
marked_both a b Val.Poison y hx hy marks = absurd (true≢false (sym (and_parts a.never_poison b.never_poison marks).0 ∙ hx))
marked_both a b (Val.Pair x o) y hx hy marks = absurd hx

-- and in a division a marked dividend and a divisor that is not refused
marked_unsigned : (a b : CellValue) (row : ℕ → ℕ → Done) (x y v : Val) → CellHolds a x → CellHolds b y → a.never_poison ≡ true →
    Allowed (unsigned_division row x y) (Gave v) → AreNumbers x y
marked_unsigned a b row (Val.Number x) (Val.Number y) v hx hy mark given = both x y
marked_unsigned a b row (Val.Number x) Val.Poison v hx hy mark given = absurd (cc)
marked_unsigned a b row (Val.Number x) (Val.Pair y o) v hx hy mark given = absurd hy
marked_unsigned a b row Val.Poison y v hx hy mark given = absurd (true≢false (sym mark ∙ hx))
marked_unsigned a b row (Val.Pair x o) y v hx hy mark given = absurd hx

marked_signed : (a b : CellValue) (w : ℕ) (row : ℕ → ℕ → Done) (x y v : Val) → CellHolds a x → CellHolds b y → a.never_poison ≡ true →
    Allowed (signed_division w row x y) (Gave v) → AreNumbers x y
marked_signed a b w row (Val.Number x) (Val.Number y) v hx hy mark given = both x y
marked_signed a b w row (Val.Number x) Val.Poison v hx hy mark given = absurd (cc)
marked_signed a b w row (Val.Number x) (Val.Pair y o) v hx hy mark given = absurd hy
marked_signed a b w row Val.Poison y v hx hy mark given = absurd (true≢false (sym mark ∙ hx))
marked_signed a b w row (Val.Pair x o) y v hx hy mark given = absurd hx

marked_numbers : (bin : Bin) (flags : Flags) (w : ℕ) (a b : CellValue) (x y v : Val) → CellHolds a x → CellHolds b y → operands_marked bin a b ≡ true →
    Allowed (binary bin flags w x y) (Gave v) → AreNumbers x y
marked_numbers Bin.Add flags w a b x y v hx hy marks given = marked_both a b x y hx hy marks
marked_numbers Bin.Sub flags w a b x y v hx hy marks given = marked_both a b x y hx hy marks
marked_numbers Bin.Mul flags w a b x y v hx hy marks given = marked_both a b x y hx hy marks
marked_numbers Bin.Shl flags w a b x y v hx hy marks given = marked_both a b x y hx hy marks
marked_numbers Bin.Udiv flags w a b x y v hx hy marks given = marked_unsigned a b _ x y v hx hy marks given
marked_numbers Bin.Sdiv flags w a b x y v hx hy marks given = marked_signed a b w _ x y v hx hy marks given
marked_numbers Bin.Lshr flags w a b x y v hx hy marks given = marked_both a b x y hx hy marks
marked_numbers Bin.Ashr flags w a b x y v hx hy marks given = marked_both a b x y hx hy marks
marked_numbers Bin.Urem flags w a b x y v hx hy marks given = marked_unsigned a b _ x y v hx hy marks given
marked_numbers Bin.Srem flags w a b x y v hx hy marks given = marked_signed a b w _ x y v hx hy marks given
marked_numbers Bin.And flags w a b x y v hx hy marks given = marked_both a b x y hx hy marks
marked_numbers Bin.Or flags w a b x y v hx hy marks given = marked_both a b x y hx hy marks
marked_numbers Bin.Xor flags w a b x y v hx hy marks given = marked_both a b x y hx hy marks

-- ---- constants

pub only_in : (w x : ℕ) → 1 ≤ w → x < 2 ^ w → in_option w (Some (only_number w x)) x ≡ true
unfolding in_option
only_in w x one fits =
    let top : 2 ^ w - 1 + 1 ≡ 2 ^ w = let some = pow_pos w in omega arith in
    subst (λ (m : Masks). in_numbers w (record { zeros = m.zeros; ones = m.ones; first = x; last = x }) x ≡ true)
    (only_masks w (2 ^ w - 1) x x top fits refl) ((only_has w (2 ^ w - 1) x one top fits x).1 refl)

pub only_is_fact : (w x : ℕ) → 1 ≤ w → x < 2 ^ w → IsFact w (only_number w x)
only_is_fact w x one fits =
    let top : 2 ^ w - 1 + 1 ≡ 2 ^ w = let some = pow_pos w in omega arith in
    subst (λ (m : Masks). IsFact w (record { zeros = m.zeros; ones = m.ones; first = x; last = x }))
    (only_masks w (2 ^ w - 1) x x top fits refl) (only_fact w (2 ^ w - 1) x one top fits)

value_is : (v u : Val) → Gave v ≡ Gave u → u ≡ v
value_is v u e = cc

-- a number that is given is the constant, and of poison there is none
pub constant_has : (w k : ℕ) (d : Done) → IsFixed d → 1 ≤ w → k < 2 ^ w → Allowed d (Gave (Val.Number k)) → in_option w (constant_numbers w d) k ≡ true
constant_has w k d undefined one fits given = absurd (cc)
constant_has w k d (fixed v) one fits given =
    subst (λ u. in_option w (constant_numbers w (Done.Is u)) k ≡ true) (sym (value_is (Val.Number k) v given)) (only_in w k one fits)

pub constant_none : (w : ℕ) (d : Done) → IsFixed d → Allowed d (Gave Val.Poison) → is_some (constant_numbers w d) ≡ false
constant_none w d undefined given = absurd (cc)
constant_none w d (fixed v) given = subst (λ u. is_some (constant_numbers w (Done.Is u)) ≡ false) (sym (value_is Val.Poison v given)) refl

binary_fixed : (bin : Bin) (flags : Flags) (w : ℕ) (x y : Val) → IsFixed (binary bin flags w x y)
unfolding done
binary_fixed bin flags w x y = done-fixed (Op.Bin bin flags w Operand.Poison Operand.Poison) x y Val.Poison refl

-- the value that a cell of one number holds of, where it is a number
pub the_single : (a : CellValue) (x k : ℕ) → single_in a ≡ Some x → CellHolds a (Val.Number k) → Val.Number k ≡ Val.Number x
the_single a x k is member = ap Val.Number (((single_tells a (single_in a) refl x).0 is k).0 member)

unmarked : (p q : Bool) → (q ≡ true → p ≡ false) → (p && q) ≡ false
unmarked p true none = let e = none refl in grind arith
unmarked p false none = grind arith

-- ---- the cell

module _ (bin : Bin) (flags : Flags) (a b : CellValue) (x y : Val) (hx : CellHolds a x) (hy : CellHolds b y) where
  -- operands that are numbers, as constants
  constants : (x0 y0 : ℕ) (r : Val) → single_in a ≡ Some x0 → single_in b ≡ Some y0 → AreNumbers x y → Allowed (binary bin flags a.width x y) (Gave r) →
      Allowed (binary bin flags a.width (Val.Number x0) (Val.Number y0)) (Gave r)
  constants x0 y0 r ex ey numbers given =
      let left : x ≡ Val.Number x0 = numbers.left_is ∙ the_single a x0 numbers.left ex (subst (CellHolds a) numbers.left_is hx) in
      let right : y ≡ Val.Number y0 = numbers.right_is ∙ the_single b y0 numbers.right ey (subst (CellHolds b) numbers.right_is hy) in
      subst (λ u. Allowed (binary bin flags a.width (Val.Number x0) u) (Gave r)) right
      (subst (λ u. Allowed (binary bin flags a.width u y) (Gave r)) left given)

  constant_holds : (x0 y0 : ℕ) (r : Val) → 1 ≤ a.width → single_in a ≡ Some x0 → single_in b ≡ Some y0 → IsInt a.width r →
      Allowed (binary bin flags a.width x y) (Gave r) → CellHolds (binary_constant bin flags a b x0 y0) r
  constant_holds x0 y0 (Val.Number k) one ex ey fits given =
      constant_has a.width k (binary bin flags a.width (Val.Number x0) (Val.Number y0)) (binary_fixed bin flags a.width (Val.Number x0) (Val.Number y0)) one fits
      (constants x0 y0 (Val.Number k) ex ey (given_numbers bin flags a.width x y k given) given)
  constant_holds x0 y0 Val.Poison one ex ey fits given =
      unmarked (is_some (constant_numbers a.width (binary bin flags a.width (Val.Number x0) (Val.Number y0)))) (operands_marked bin a b) (λ marks.
      constant_none a.width (binary bin flags a.width (Val.Number x0) (Val.Number y0)) (binary_fixed bin flags a.width (Val.Number x0) (Val.Number y0))
      (constants x0 y0 Val.Poison ex ey (marked_numbers bin flags a.width a b x y Val.Poison hx hy marks given) given))
  constant_holds x0 y0 (Val.Pair k o) one ex ey fits given = absurd fits

in_numbers_of : (w : ℕ) (n : Numbers) (k : ℕ) → in_option w (Some n) k ≡ true → in_numbers w n k ≡ true
unfolding in_option
in_numbers_of w n k member = member

none_there : (w k : ℕ) → in_option w None k ≡ true → ⊥
unfolding in_option
none_there w k member = true≢false (sym member)

module _ (bin : Bin) (flags : Flags) (w : ℕ) (ka kb : Bool) (width : IsWidth w) (x y : Val) where
  abbrev cell : Option Numbers → Bool → CellValue
  cell numbers mark = record { width = w; numbers = numbers; never_poison = mark }

  row_holds : (p q : Option Numbers) (r : Val) → AreFacts w p → AreFacts w q → CellHolds (cell p ka) x → CellHolds (cell q kb) y → IsInt w r →
      Allowed (binary bin flags w x y) (Gave r) → CellHolds (binary_by_row bin flags (cell p ka) (cell q kb) p q) r
  row_holds (Some m) (Some n) (Val.Number k) fp fq hx hy fits given =
      let numbers = given_numbers bin flags w x y k given in
      let px = operand w m numbers.left width (fp m refl) (in_numbers_of w m numbers.left (subst (CellHolds (cell (Some m) ka)) numbers.left_is hx)) in
      let py = operand w n numbers.right width (fq n refl) (in_numbers_of w n numbers.right (subst (CellHolds (cell (Some n) kb)) numbers.right_is hy)) in
      row_has w m n numbers.left numbers.right px py bin flags k
      (subst (λ u. Allowed (binary bin flags w (Val.Number numbers.left) u) (Gave (Val.Number k))) numbers.right_is
      (subst (λ u. Allowed (binary bin flags w u y) (Gave (Val.Number k))) numbers.left_is given))
  row_holds (Some m) (Some n) Val.Poison fp fq hx hy fits given =
      untrue (is_some (row_numbers w (binary_row bin flags w m n)) && (operands_marked bin (cell (Some m) ka) (cell (Some n) kb) && never_breaks bin flags w m n)) (λ all.
      let parts = and_parts (operands_marked bin (cell (Some m) ka) (cell (Some n) kb)) (never_breaks bin flags w m n)
      ((and_parts (is_some (row_numbers w (binary_row bin flags w m n))) (operands_marked bin (cell (Some m) ka) (cell (Some n) kb) && never_breaks bin flags w m n) all).1) in
      let numbers = marked_numbers bin flags w (cell (Some m) ka) (cell (Some n) kb) x y Val.Poison hx hy parts.0 given in
      let px = operand w m numbers.left width (fp m refl) (in_numbers_of w m numbers.left (subst (CellHolds (cell (Some m) ka)) numbers.left_is hx)) in
      let py = operand w n numbers.right width (fq n refl) (in_numbers_of w n numbers.right (subst (CellHolds (cell (Some n) kb)) numbers.right_is hy)) in
      clean w m n numbers.left numbers.right px py bin flags parts.1
      (subst (λ u. Allowed (binary bin flags w (Val.Number numbers.left) u) (Gave Val.Poison)) numbers.right_is
      (subst (λ u. Allowed (binary bin flags w u y) (Gave Val.Poison)) numbers.left_is given)))
  row_holds (Some m) None (Val.Number k) fp fq hx hy fits given =
      let numbers = given_numbers bin flags w x y k given in
      absurd (none_there w numbers.right (subst (CellHolds (cell None kb)) numbers.right_is hy))
  row_holds (Some m) None Val.Poison fp fq hx hy fits given = refl
  row_holds None q (Val.Number k) fp fq hx hy fits given =
      let numbers = given_numbers bin flags w x y k given in
      absurd (none_there w numbers.left (subst (CellHolds (cell None ka)) numbers.left_is hx))
  row_holds None q Val.Poison fp fq hx hy fits given = refl
  row_holds p q (Val.Pair k o) fp fq hx hy fits given = absurd fits

pub where_holds : {A : Type 0} (P : A → Type 0) (p q : Option ℕ) (f : ℕ → ℕ → A) (o : A) → ((x y : ℕ) → p ≡ Some x → q ≡ Some y → P (f x y)) → P o → P (where_single p q f o)
where_holds P (Some x) (Some y) f o one other = one x y refl refl
where_holds P (Some x) None f o one other = other
where_holds P None q f o one other = other

pub holds_int : (v : CellValue) (x : Val) → CellHolds v x → IsInt v.width x
holds_int v (Val.Number x) member = cell_fits v x member
holds_int v Val.Poison member = tt
holds_int v (Val.Pair x o) member = absurd member

module _ (bin : Bin) (flags : Flags) (a b : CellValue) (ia : IsCell a) (ib : IsCell b) (x y r : Val) where
  typed : CellHolds a x → IsInt a.width y → Allowed (binary bin flags a.width x y) (Gave r) → IsInt a.width r
  unfolding done
  typed hx fits given = done_typed (Op.Bin bin flags a.width Operand.Poison Operand.Poison) x y Val.Poison r ia.width
      (record { first = holds_int a x hx; second = fits }) given

  same_width : a.width ≡ b.width → CellHolds a x → CellHolds (record { width = a.width; numbers = b.numbers; never_poison = b.never_poison }) y →
      Allowed (binary bin flags a.width x y) (Gave r) → CellHolds (binary_cell bin flags a (record { width = a.width; numbers = b.numbers; never_poison = b.never_poison })) r
  unfolding binary_cell
  same_width same hx hy given =
      let c : CellValue = record { width = a.width; numbers = b.numbers; never_poison = b.never_poison } in
      let fits = typed hx (holds_int c y hy) given in
      where_holds (λ v. CellHolds v r) (single_in a) (single_in c) (binary_constant bin flags a c) (binary_by_row bin flags a c a.numbers c.numbers)
      (λ x0 y0 ex ey. constant_holds bin flags a c x y hx hy x0 y0 r ia.width.least ex ey fits given)
      (row_holds bin flags a.width a.never_poison b.never_poison ia.width x y a.numbers b.numbers r ia.fact (subst (λ w. AreFacts w b.numbers) (sym same) ib.fact) hx hy fits given)

  pub binary_holds : a.width ≡ b.width → CellHolds a x → CellHolds b y → Allowed (binary bin flags a.width x y) (Gave r) → CellHolds (binary_cell bin flags a b) r
  binary_holds same hx hy given =
      let e : b ≡ record { width = a.width; numbers = b.numbers; never_poison = b.never_poison } =
      ap (λ (w : ℕ). record { width = w; numbers = b.numbers; never_poison = b.never_poison }) (sym same) in
      subst (λ v. CellHolds (binary_cell bin flags a v) r) (sym e) (same_width same hx (subst (λ v. CellHolds v y) e hy) given)
