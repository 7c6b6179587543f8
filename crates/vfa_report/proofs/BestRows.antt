-- The bits that a row of an operation leaves unknown are those that the known bits of its operands leave open.
use Rattle.std.proofs.Common.{◌≡◌, ℕ, ◌-◌, ◌+◌, ◌^◌, ◌<◌, Bool, true, ◌&&◌, ◌||◌, nat_eq, nat_lt, bit_and, bit_or, bit_xor, refl, sym, ap, subst, ◌∙◌, arith, inl, inr, Option, Some, None}
use Rattle.std.specs.Prelude.{IfSome}
use Rattle.std.specs.Int.{bit_at}
use Rattle.std.specs.Option.{option_map}
use Rattle.std.proofs.lemmas.Bool.{and_parts, or_cases, eqb-true, true≢false}
use Rattle.std.proofs.lemmas.Nat.{pow_pos}
use Rattle.vfa_ir.specs.declared.operations.Bin.{Bin}
use Rattle.vfa_ir.specs.declared.operations.Flags.{Flags}
use Rattle.vfa_word.specs.Operations.{sum_of, difference_of}
use Rattle.vfa_dom.specs.Best.{Masks, best_of}
use Rattle.vfa_dom.specs.Results.{results, IsResult}
use Rattle.vfa_dom.specs.Search.{all_below}
use Rattle.vfa_dom.specs.Sets.{meet}
use Rattle.vfa_dom.proofs.Bests.{HasDigit, digit_cases, zero_open, one_open}
use Rattle.vfa_dom.proofs.ResultSets.{StaysIn, results_test}
use Rattle.vfa_dom.proofs.Searches.{all_pass}
use Rattle.vfa_dom.proofs.SetSearches.{meet_parts}
use Rattle.vfa_known.specs.Cube.{in_masks, agrees_at}
use Rattle.vfa_known.proofs.Cubes.{in_masks_at}
use Rattle.vfa_known.proofs.Digits.{and_stays, or_stays, xor_stays}
use Rattle.vfa_known.proofs.Members.{only_cube, only_member, only_masks}
use Rattle.vfa_known.proofs.Sums.{add_stays, sub_stays}
use Rattle.vfa_wrap.specs.Arc.{Span, IsArc, in_span, full_span, sum_span, difference_span}
use Rattle.vfa_wrap.specs.Rows.{row_by_ends}
use Rattle.vfa_wrap.specs.declared.ends_op.EndsOp.{EndsOp}
use Rattle.vfa_fact.specs.declared.numbers.Numbers.{Numbers}
use Rattle.vfa_fact.specs.Cells.{CellValue, IsCell, in_cell, in_option, only_number, cell_of}
use Rattle.vfa_fact.specs.Fact.{IsFact, masks_in, span_in, in_numbers}
use Rattle.vfa_fact.proofs.Facts.{fact_best, fact_cube, numbers_parts}
use Rattle.vfa_fact.proofs.SharpSets.{sharp_tells}
use Rattle.vfa_mean.specs.Meaning.{binary}
use Rattle.vfa_mean.specs.declared.value.Done.{Done}
use Rattle.vfa_mean.specs.declared.value.Val.{Val}
use Rattle.vfa_xfer.specs.Arcs.{full_arc, sum_arc, difference_arc, row_arc}
use Rattle.vfa_xfer.specs.Binary.{ends_in_numbers, best_results, sum_row, difference_row, and_bits_row, or_bits_row, xor_bits_row, binary_row, binary_constant, binary_by_row, binary_cell, operands_marked}
use Rattle.vfa_xfer.specs.BinarySound.{where_holds}
use Rattle.vfa_xfer.specs.Bounds.{BoundsOf, no_bounds, row_of}
use Rattle.vfa_xfer.specs.Constants.{number_given, single_in}
use Rattle.vfa_xfer.specs.Overflows.{no_flags}
use Rattle.vfa_xfer.specs.RowFacts.{row_is_fact}
use Rattle.vfa_xfer.specs.Rows.{RowOf, in_row, row_fact, row_numbers}
use Rattle.vfa_report.specs.BestBits.{HasBestBits, AgreesWith}
use Rattle.vfa_report.specs.Showing.{Differ}

-- ---- masks

-- a number that agrees with masks has no digit that they rule out
masks_at : (w : ℕ) (m : Masks) (y i : ℕ) → i < w → in_masks w m y ≡ true → agrees_at m y i ≡ true
unfolding in_masks
masks_at w m y i less member = all_pass w (agrees_at m y) (and_parts (nat_lt y (2 ^ w)) (all_below w (agrees_at m y)) member).1 i less

zero_clear : (w : ℕ) (m : Masks) (y i : ℕ) → i < w → in_masks w m y ≡ true → bit_at y i ≡ 1 → bit_at m.zeros i ≡ 0
unfolding agrees_at
zero_clear w m y i less member one =
    let parts = and_parts (nat_eq (bit_at m.zeros i) 0 || nat_eq (bit_at y i) 0) (nat_eq (bit_at m.ones i) 0 || nat_eq (bit_at y i) 1) (masks_at w m y i less member) in
    elim (or_cases (nat_eq (bit_at m.zeros i) 0) (nat_eq (bit_at y i) 0) parts.0) [
      | inl clear ↦ eqb-true (bit_at m.zeros i) 0 clear
      | inr is ↦ let none = eqb-true (bit_at y i) 0 is in let no : ⊥ = omega (arith, one, none) in absurd no
    ]

one_clear : (w : ℕ) (m : Masks) (y i : ℕ) → i < w → in_masks w m y ≡ true → bit_at y i ≡ 0 → bit_at m.ones i ≡ 0
unfolding agrees_at
one_clear w m y i less member none =
    let parts = and_parts (nat_eq (bit_at m.zeros i) 0 || nat_eq (bit_at y i) 0) (nat_eq (bit_at m.ones i) 0 || nat_eq (bit_at y i) 1) (masks_at w m y i less member) in
    elim (or_cases (nat_eq (bit_at m.ones i) 0) (nat_eq (bit_at y i) 1) parts.1) [
      | inl clear ↦ eqb-true (bit_at m.ones i) 0 clear
      | inr is ↦ let one = eqb-true (bit_at y i) 1 is in let no : ⊥ = omega (arith, one, none) in absurd no
    ]

-- a number that agrees with all bits of another is that one
pub only_alone : (w x y : ℕ) → x < 2 ^ w → in_masks w (masks_in (only_number w x)) y ≡ true → y ≡ x
only_alone w x y fits member =
    let top : 2 ^ w - 1 + 1 ≡ 2 ^ w = let some = pow_pos w in omega arith in
    only_member w (2 ^ w - 1) x top fits y
    (in_masks_at w (bit_xor (2 ^ w - 1) x) x (only_cube w (2 ^ w - 1) x top fits) y
    (subst (λ (m : Masks). in_masks w m y ≡ true) (sym (only_masks w (2 ^ w - 1) x x top fits refl)) member))

-- ---- the numbers of a fact

unknown_none : (w x : ℕ) → in_option w None x ≡ true → ⊥
unfolding in_option
unknown_none w x member = true≢false (sym member)

of_some : (w : ℕ) (n : Numbers) (x : ℕ) → in_option w (Some n) x ≡ true → in_numbers w n x ≡ true
unfolding in_option
of_some w n x member = member

some_of : (w : ℕ) (n : Numbers) (x : ℕ) → in_numbers w n x ≡ true → in_option w (Some n) x ≡ true
unfolding in_option
some_of w n x member = member

-- a number that agrees with the masks of a fact agrees with the known bits of its numbers
pub agrees_with : (w : ℕ) (n : Numbers) (x : ℕ) → IsFact w n → in_masks w (masks_in n) x ≡ true → AgreesWith w (in_option w (Some n)) x
agrees_with w n x is member =
    let best = fact_best w n is in
    let cube = in_masks_at w n.zeros n.ones (fact_cube w n is) x member in
    record {
      fits = cube.fits;
      zero = λ i less each. elim (digit_cases n.zeros i) [
        | inr known ↦ cube.zero i known
        | inl clear ↦
            let some = best.some_one i less clear in
            let none = each some.0 (some_of w n some.0 some.1.is) in
            let one = some.2 in let no : ⊥ = omega (arith, none, one) in absurd no
      ];
      one = λ i less each. elim (digit_cases n.ones i) [
        | inr known ↦ cube.one i known
        | inl clear ↦
            let some = best.some_zero i less clear in
            let one = each some.0 (some_of w n some.0 some.1.is) in
            let none = some.2 in let no : ⊥ = omega (arith, none, one) in absurd no
      ];
    }

-- ---- rows

row_cube : (w : ℕ) (r : RowOf) (y : ℕ) → in_row w r y ≡ true → in_masks w r.cube y ≡ true
unfolding in_row
row_cube w r y member = (and_parts (in_masks w r.cube y) (in_span w r.one y && in_span w r.two y) member).0

-- a digit of some number of its fact is not ruled out by the masks of a row: some number of the row has it too
fact_digit : (w : ℕ) (r : RowOf) (n : Numbers) (x i : ℕ) → IsArc w r.arc → row_fact w r ≡ Some n → i < w → in_numbers w n x ≡ true → bit_at x i ≡ 1 → bit_at r.cube.zeros i ≡ 0
fact_digit w r n x i arc same less member one =
    let S = meet (in_span w r.arc) (in_row w r) in
    let is = sharp_tells w r.arc.first S n arc.first_fits same in
    let cube = in_masks_at w n.zeros n.ones (fact_cube w n (row_is_fact w r n arc same)) x (numbers_parts w n x member).0 in
    elim (digit_cases n.zeros i) [
      | inr known ↦ let none = cube.zero i known in let no : ⊥ = omega (arith, one, none) in absurd no
      | inl clear ↦
          let some = is.best.some_one i less clear in
          zero_clear w r.cube some.0 i less (row_cube w r some.0 (meet_parts (in_span w r.arc) (in_row w r) some.0 some.1.is).1) some.2
    ]

fact_other_digit : (w : ℕ) (r : RowOf) (n : Numbers) (x i : ℕ) → IsArc w r.arc → row_fact w r ≡ Some n → i < w → in_numbers w n x ≡ true → bit_at x i ≡ 0 → bit_at r.cube.ones i ≡ 0
fact_other_digit w r n x i arc same less member none =
    let S = meet (in_span w r.arc) (in_row w r) in
    let is = sharp_tells w r.arc.first S n arc.first_fits same in
    let cube = in_masks_at w n.zeros n.ones (fact_cube w n (row_is_fact w r n arc same)) x (numbers_parts w n x member).0 in
    elim (digit_cases n.ones i) [
      | inr known ↦ let one = cube.one i known in let no : ⊥ = omega (arith, one, none) in absurd no
      | inl clear ↦
          let some = is.best.some_zero i less clear in
          one_clear w r.cube some.0 i less (row_cube w r some.0 (meet_parts (in_span w r.arc) (in_row w r) some.0 some.1.is).1) some.2
    ]

-- the masks leave both digits open
pub record IsOpen (m : Masks) (i : ℕ) : Type 0 where
  pub zero : bit_at m.zeros i ≡ 0
  pub one : bit_at m.ones i ≡ 0

fact_open : (w : ℕ) (r : RowOf) (o : Option Numbers) (i x y : ℕ) → IsArc w r.arc → i < w → row_fact w r ≡ o →
    in_option w o x ≡ true → bit_at x i ≡ 0 → in_option w o y ≡ true → bit_at y i ≡ 1 → IsOpen r.cube i
fact_open w r None i x y is less same hx none hy one = absurd (unknown_none w x hx)
fact_open w r (Some n) i x y is less same hx none hy one = record {
  zero = fact_digit w r n y i is same less (of_some w n y hy) one;
  one = fact_other_digit w r n x i is same less (of_some w n x hx) none;
}

-- where the fact of a row has both digits, the masks of the row leave both open
row_open : (w : ℕ) (cube : Masks) (arc : Option Span) (bounds : Option BoundsOf) (i x y : ℕ) → IfSome arc (IsArc w) → i < w →
    in_option w (row_numbers w (row_of cube arc bounds)) x ≡ true → bit_at x i ≡ 0 →
    in_option w (row_numbers w (row_of cube arc bounds)) y ≡ true → bit_at y i ≡ 1 → IsOpen cube i
row_open w cube (Some arc) (Some b) i x y is less hx none hy one =
    let r : RowOf = record { cube = cube; arc = arc; one = b.one; two = b.two } in
    fact_open w r (row_fact w r) i x y is less refl hx none hy one
row_open w cube (Some arc) None i x y is less hx none hy one = absurd (unknown_none w x hx)
row_open w cube None b i x y is less hx none hy one = absurd (unknown_none w x hx)

-- ---- operands

-- numbers that agree with the masks of m and n, of which the operation gives one with this digit
pub record Given (bin : Bin) (w : ℕ) (m n : Numbers) (i digit : ℕ) : Type 0 where
  pub left : ℕ
  pub right : ℕ
  pub result : ℕ
  pub left_in : in_masks w (masks_in m) left ≡ true
  pub right_in : in_masks w (masks_in n) right ≡ true
  pub gives : binary bin no_flags w (Val.Number left) (Val.Number right) ≡ Done.Is (Val.Number result)
  pub has : bit_at result i ≡ digit

pub record BothGiven (bin : Bin) (w : ℕ) (m n : Numbers) (i : ℕ) : Type 0 where
  pub zero : Given bin w m n i 0
  pub one : Given bin w m n i 1

module _ (bin : Bin) (w : ℕ) (op : ℕ → ℕ → ℕ) (stays : StaysIn w op)
    (is : (x y : ℕ) → binary bin no_flags w (Val.Number x) (Val.Number y) ≡ Done.Is (Val.Number (op x y))) (m n : Numbers) where
  given : (i digit : ℕ) → HasDigit (IsResult w op (in_masks w (masks_in m)) (in_masks w (masks_in n))) i digit → Given bin w m n i digit
  given i digit found =
      let result = found.member in
      record {
        left = result.left;
        right = result.right;
        result = op result.left result.right;
        left_in = result.left_in;
        right_in = result.right_in;
        gives = is result.left result.right;
        has = ap (λ r. bit_at r i) result.is ∙ found.is;
      }

  both_given : (i : ℕ) → i < w → IsOpen (best_results w op m n) i → BothGiven bin w m n i
  unfolding best_results best_of
  both_given i less free =
      let A = in_masks w (masks_in m) in let B = in_masks w (masks_in n) in
      let tests = results_test w op A B stays in
      record {
        zero = given i 0 (one_open w (IsResult w op A B) (results w op A B) tests i less free.one);
        one = given i 1 (zero_open w (IsResult w op A B) (results w op A B) tests i less free.zero);
      }

module _ (w : ℕ) (m n : Numbers) (flags : Flags) (i x y : ℕ) (less : i < w) (none : bit_at x i ≡ 0) (one : bit_at y i ≡ 1) where
  abbrev Has : Option RowOf → ℕ → Type 0
  Has row k = in_option w (row_numbers w row) k ≡ true

  sum_given : Has (sum_row flags w m n) x → Has (sum_row flags w m n) y → BothGiven Bin.Add w m n i
  unfolding sum_row
  sum_given hx hy = both_given Bin.Add w (sum_of w) (add_stays w) (λ a b. refl) m n i less
      (row_open w (best_results w (sum_of w) m n) (Some (sum_span w (span_in m) (span_in n))) _ i x y (sum_arc w (span_in m) (span_in n)) less hx none hy one)

  difference_given : Has (difference_row flags w m n) x → Has (difference_row flags w m n) y → BothGiven Bin.Sub w m n i
  unfolding difference_row
  difference_given hx hy = both_given Bin.Sub w (difference_of w) (sub_stays w) (λ a b. refl) m n i less
      (row_open w (best_results w (difference_of w) m n) (Some (difference_span w (span_in m) (span_in n))) _ i x y (difference_arc w (span_in m) (span_in n)) less hx none hy one)

  and_given : Has (and_bits_row w m n) x → Has (and_bits_row w m n) y → BothGiven Bin.And w m n i
  unfolding and_bits_row
  and_given hx hy = both_given Bin.And w bit_and (and_stays w) (λ a b. refl) m n i less
      (row_open w (best_results w bit_and m n) (row_by_ends EndsOp.And w (ends_in_numbers w m) (ends_in_numbers w n)) _ i x y
      (row_arc EndsOp.And w (ends_in_numbers w m) (ends_in_numbers w n)) less hx none hy one)

  or_given : Has (or_bits_row flags w m n) x → Has (or_bits_row flags w m n) y → BothGiven Bin.Or w m n i
  unfolding or_bits_row
  or_given hx hy = both_given Bin.Or w bit_or (or_stays w) (λ a b. refl) m n i less
      (row_open w (best_results w bit_or m n) (row_by_ends EndsOp.Or w (ends_in_numbers w m) (ends_in_numbers w n)) _ i x y
      (row_arc EndsOp.Or w (ends_in_numbers w m) (ends_in_numbers w n)) less hx none hy one)

  xor_given : Has (xor_bits_row w m n) x → Has (xor_bits_row w m n) y → BothGiven Bin.Xor w m n i
  unfolding xor_bits_row
  xor_given hx hy = both_given Bin.Xor w bit_xor (xor_stays w) (λ a b. refl) m n i less
      (row_open w (best_results w bit_xor m n) (Some (full_span w)) (Some (no_bounds w)) i x y (full_arc w) less hx none hy one)

  row_given : (bin : Bin) → HasBestBits bin → Has (binary_row bin flags w m n) x → Has (binary_row bin flags w m n) y → BothGiven bin w m n i
  unfolding binary_row
  row_given Bin.Add best hx hy = sum_given hx hy
  row_given Bin.Sub best hx hy = difference_given hx hy
  row_given Bin.Mul best hx hy = absurd best
  row_given Bin.Shl best hx hy = absurd best
  row_given Bin.Udiv best hx hy = absurd best
  row_given Bin.Sdiv best hx hy = absurd best
  row_given Bin.Lshr best hx hy = absurd best
  row_given Bin.Ashr best hx hy = absurd best
  row_given Bin.Urem best hx hy = absurd best
  row_given Bin.Srem best hx hy = absurd best
  row_given Bin.And best hx hy = and_given hx hy
  row_given Bin.Or best hx hy = or_given hx hy
  row_given Bin.Xor best hx hy = xor_given hx hy

-- ---- cells

-- two cells with numbers for which the operation gives both digits
pub record CellsGive (bin : Bin) (a b : CellValue) (i : ℕ) : Type 0 where
  pub first : Numbers
  pub second : Numbers
  pub first_is : a.numbers ≡ Some first
  pub second_is : b.numbers ≡ Some second
  pub both : BothGiven bin a.width first second i

-- what the cell of a result tells of the cells of the operands
abbrev pub Tells : Bin → CellValue → CellValue → ℕ → CellValue → Type 0
Tells bin a b i c = IsCell c → Differ (in_cell c) i → CellsGive bin a b i

module _ (bin : Bin) (best : HasBestBits bin) (flags : Flags) (a b : CellValue) (i : ℕ) (less : i < a.width) where
  -- one number has one digit
  one_number : (o : Option ℕ) (mark : Bool) → Tells bin a b i (cell_of a.width (option_map (only_number a.width) o) mark)
  one_number None mark is differ = absurd (unknown_none a.width differ.0.0 differ.0.1)
  one_number (Some x) mark is differ =
      let none = differ.0 in let one = differ.1 in
      let fits = (is.fact (only_number a.width x) refl).arc.first_fits in
      let first = only_alone a.width x none.0 fits (numbers_parts a.width (only_number a.width x) none.0 (of_some a.width (only_number a.width x) none.0 none.1)).0 in
      let second = only_alone a.width x one.0 fits (numbers_parts a.width (only_number a.width x) one.0 (of_some a.width (only_number a.width x) one.0 one.1)).0 in
      let zero : bit_at x i ≡ 0 = ap (λ k. bit_at k i) (sym first) ∙ none.2 in
      let on : bit_at x i ≡ 1 = ap (λ k. bit_at k i) (sym second) ∙ one.2 in
      let no : ⊥ = omega (arith, zero, on) in absurd no

  by_row : (p q : Option Numbers) → a.numbers ≡ p → b.numbers ≡ q → Tells bin a b i (binary_by_row bin flags a b p q)
  by_row (Some m) (Some n) ea eb is differ = record {
    first = m;
    second = n;
    first_is = ea;
    second_is = eb;
    both = row_given a.width m n flags i differ.0.0 differ.1.0 less differ.0.2 differ.1.2 bin best differ.0.1 differ.1.1;
  }
  by_row (Some m) None ea eb is differ = absurd (unknown_none a.width differ.0.0 differ.0.1)
  by_row None q ea eb is differ = absurd (unknown_none a.width differ.0.0 differ.0.1)

  pub cell_tells : Tells bin a b i (binary_cell bin flags a b)
  unfolding binary_cell
  cell_tells = where_holds (Tells bin a b i) (single_in a) (single_in b) (binary_constant bin flags a b) (binary_by_row bin flags a b a.numbers b.numbers)
      (λ x y ea eb. one_number (number_given (binary bin flags a.width (Val.Number x) (Val.Number y))) (operands_marked bin a b))
      (by_row a.numbers b.numbers refl refl)
