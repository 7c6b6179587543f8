-- What is chosen is held by the cells of `select`, `freeze`, `extractvalue` and `assume`.
use Rattle.std.proofs.Common.{◌≡◌, ℕ, ◌-◌, ◌^◌, ◌<◌, Bool, true, false, ◌&&◌, if◌then◌else◌, nat_eq, inl, inr, refl, sym, ◌∙◌, ap, subst, arith, Option, Some, None}
use Rattle.std.specs.Option.{is_some}
use Rattle.std.proofs.lemmas.Bool.{true≢false, cases_eq, eq-eqb, ne_eqb}
use Rattle.vfa_dom.specs.Search.{all_below}
use Rattle.vfa_dom.specs.Sets.{single_of}
use Rattle.vfa_dom.proofs.SetSearches.{single_of_tells}
use Rattle.vfa_mean.specs.declared.value.Done.{Done}
use Rattle.vfa_mean.specs.declared.value.Val.{Val}
use Rattle.vfa_mean.specs.Meaning.{Result, Undefined, Gave, Allowed, chosen, frozen, part_of, assumed}
use Rattle.vfa_mean.specs.Rows.{bit_of}
use Rattle.vfa_known.specs.Cube.{in_masks, agrees_at}
use Rattle.vfa_wrap.specs.Arc.{in_span, steps}
use Rattle.vfa_fact.specs.Fact.{in_numbers}
use Rattle.vfa_fact.specs.declared.cell.Parts.{Parts}
use Rattle.vfa_fact.specs.declared.numbers.Numbers.{Numbers}
use Rattle.vfa_fact.specs.Cells.{CellValue, IsCell, in_option, in_cell, cell_of, joined_cells, poison_cell, only_number, all_numbers}
use Rattle.vfa_fact.proofs.CellNumbers.{cell_fits, all_has}
use Rattle.vfa_fact.proofs.JoinedCells.{joined_left, joined_right}
use Rattle.vfa_xfer.specs.AnyFacts.{CellHolds, PartsHold}
use Rattle.vfa_xfer.specs.Selects.{possible_arms, selected_cell, frozen_cell, part_cell, assumed_cell}
use Rattle.vfa_xfer.specs.StrictLaws.{given_same, no_member}

-- ---- `select`

join_poison_left : (m n : Bool) → m ≡ false → (m && n) ≡ false
join_poison_left m n e = ap (λ (b : Bool). b && n) e

join_poison_right : (m n : Bool) → n ≡ false → (m && n) ≡ false
join_poison_right true n e = e
join_poison_right false n e = refl

module _ (a b : CellValue) (left : IsCell a) (right : IsCell b) (width : a.width ≡ b.width) where
  left_held : (x : Val) → CellHolds a x → CellHolds (joined_cells a b) x
  left_held (Val.Number n) one = joined_left a b left right width n one
  left_held Val.Poison one = join_poison_left a.never_poison b.never_poison one
  left_held (Val.Pair n o) one = absurd one

  right_held : (x : Val) → CellHolds b x → CellHolds (joined_cells a b) x
  right_held (Val.Number n) two = joined_right a b left right width n two
  right_held Val.Poison two = join_poison_right a.never_poison b.never_poison two
  right_held (Val.Pair n o) two = absurd two

  -- the arms left hold of the chosen value
  arms_hold : (o : Option ℕ) (k : ℕ) (x y : Val) → ((s : ℕ) → o ≡ Some s → k ≡ s) → CellHolds a x → CellHolds b y →
      CellHolds (possible_arms o a b) (if nat_eq k 0 then y else x)
  arms_hold (Some s) k x y only one two = subst (λ (n : ℕ). CellHolds (possible_arms (Some s) a b) (if nat_eq n 0 then y else x)) (sym (only s refl)) (by_test (nat_eq s 0))
    where
      by_test : (t : Bool) → CellHolds (if t then b else a) (if t then y else x)
      by_test true = two
      by_test false = one
  arms_hold None k x y only one two = by_test (nat_eq k 0)
    where
      by_test : (t : Bool) → CellHolds (joined_cells a b) (if t then y else x)
      by_test true = right_held y two
      by_test false = left_held x one

arms_width : (o : Option ℕ) (a b : CellValue) → a.width ≡ b.width → (possible_arms o a b).width ≡ a.width
arms_width (Some s) a b width = by_test (nat_eq s 0)
  where
    by_test : (t : Bool) → (if t then b else a).width ≡ a.width
    by_test true = sym width
    by_test false = refl
arms_width None a b width = refl

mark_off : (s c m : Bool) → m ≡ false → (s && (c && m)) ≡ false
mark_off s c m e = grind arith

condition_off : (s c m : Bool) → c ≡ false → (s && (c && m)) ≡ false
condition_off s c m e = grind arith

-- a cell with a mark of its own and another still holds
remarked : (d : CellValue) (w : ℕ) (c : Bool) (r : Val) → d.width ≡ w → CellHolds d r → CellHolds (cell_of w d.numbers (c && d.never_poison)) r
remarked d w c (Val.Number n) width h = ap (λ (u : ℕ). in_option u d.numbers n) (sym width) ∙ h
remarked d w c Val.Poison width h = mark_off (is_some d.numbers) c d.never_poison h
remarked d w c (Val.Pair n o) width h = absurd h

some_member : (v : CellValue) (k : ℕ) → in_cell v k ≡ true → is_some v.numbers ≡ true
some_member v k member = by_numbers v.numbers refl
  where
    by_numbers : (o : Option Numbers) → v.numbers ≡ o → is_some o ≡ true
    by_numbers (Some n) e = refl
    by_numbers None e = absurd (no_member v e k member)

module _ (c a b : CellValue) (left : IsCell a) (right : IsCell b) (width : a.width ≡ b.width) where
  abbrev arms : CellValue
  arms = possible_arms (single_of c.width (in_cell c)) a b

  by_condition : (t : Bool) (r : Val) → (t ≡ true → CellHolds (cell_of a.width arms.numbers (c.never_poison && arms.never_poison)) r) → (t ≡ false → CellHolds (poison_cell a.width) r) →
      CellHolds (if t then cell_of a.width arms.numbers (c.never_poison && arms.never_poison) else poison_cell a.width) r
  by_condition true r yes' no' = yes' refl
  by_condition false r yes' no' = no' refl

  pub select_holds : (z x y r : Val) → CellHolds c z → CellHolds a x → CellHolds b y → Allowed (chosen z x y) (Gave r) → CellHolds (selected_cell c a b) r
  select_holds (Val.Number k) x y r bit one two given =
      subst (CellHolds (selected_cell c a b)) (sym (given_same (if nat_eq k 0 then y else x) r given))
      (by_condition (is_some c.numbers) (if nat_eq k 0 then y else x)
      (λ _. remarked arms a.width c.never_poison (if nat_eq k 0 then y else x) (arms_width (single_of c.width (in_cell c)) a b width)
      (arms_hold a b left right width (single_of c.width (in_cell c)) k x y
      (λ s e. (single_of_tells c.width (in_cell c) s e).2 k (cell_fits c k bit) bit) one two))
      (λ e. absurd (true≢false (sym (some_member c k bit) ∙ e))))
  select_holds Val.Poison x y r bit one two given =
      subst (CellHolds (selected_cell c a b)) (sym (given_same Val.Poison r given))
      (by_condition (is_some c.numbers) Val.Poison (λ _. condition_off (is_some arms.numbers) c.never_poison arms.never_poison bit) (λ _. refl))
  select_holds (Val.Pair k o) x y r bit one two given = absurd bit

-- ---- `freeze`

all_held : (w n : ℕ) → n < 2 ^ w → CellHolds (cell_of w (Some (all_numbers w)) true) (Val.Number n)
unfolding in_option
all_held w n fits = all_has w (2 ^ w - 1) n refl fits

abbrev value_in : Result → Val
value_in Undefined = Val.Poison
value_in (Gave v) = v

module _ (a : CellValue) where
  kept : (t : Bool) (n : ℕ) → in_cell a n ≡ true → CellHolds (if t then a else cell_of a.width (Some (all_numbers a.width)) true) (Val.Number n)
  kept true n member = member
  kept false n member = all_held a.width n (cell_fits a n member)

  any_kept : (t : Bool) (n : ℕ) → t ≡ false → n < 2 ^ a.width → CellHolds (if t then a else cell_of a.width (Some (all_numbers a.width)) true) (Val.Number n)
  any_kept true n off fits = absurd (true≢false off)
  any_kept false n off fits = all_held a.width n fits

  pub freeze_holds : (x r : Val) → CellHolds a x → Allowed (frozen a.width x) (Gave r) → CellHolds (frozen_cell a) r
  freeze_holds (Val.Number n) r one given =
      subst (CellHolds (frozen_cell a)) (sym (given_same (Val.Number n) r given)) (kept a.never_poison n one)
  freeze_holds Val.Poison r one given =
      subst (CellHolds (frozen_cell a)) (sym (ap value_in given.2)) (any_kept a.never_poison given.0 one given.1)
  freeze_holds (Val.Pair n o) r one given = absurd one

-- ---- `extractvalue`

module _ (number overflow : CellValue) where
  pub part_holds : (index : ℕ) (v r : Val) → PartsHold (Parts.Two number overflow) v → Allowed (part_of index v) (Gave r) → CellHolds (part_cell index number overflow) r
  part_holds index (Val.Pair x o) r both given =
      subst (CellHolds (part_cell index number overflow)) (sym (given_same (Val.Number (if nat_eq index 0 then x else bit_of o)) r given)) (by_test (nat_eq index 0))
    where
      by_test : (t : Bool) → CellHolds (if t then number else overflow) (Val.Number (if t then x else bit_of o))
      by_test true = both.0
      by_test false = both.1
  part_holds index Val.Poison r both given =
      subst (CellHolds (part_cell index number overflow)) (sym (given_same Val.Poison r given)) (by_test (nat_eq index 0))
    where
      by_test : (t : Bool) → CellHolds (if t then number else overflow) Val.Poison
      by_test true = both.0
      by_test false = both.1
  part_holds index (Val.Number x) r both given = absurd both

-- ---- `assume`

only_bit : (k : ℕ) → k < 2 ^ 1 → (k ≡ 0 → ⊥) → k ≡ 1
only_bit k fits other = omega arith

one_bit : in_numbers 1 (only_number 1 1) 1 ≡ true
unfolding in_numbers in_masks all_below agrees_at in_span steps
one_bit = refl

one_held : (c : CellValue) (t : Bool) → t ≡ true → CellHolds (cell_of 1 (if t then Some (only_number 1 1) else None) c.never_poison) (Val.Number 1)
unfolding in_option
one_held c true e = one_bit
one_held c false e = absurd (cc)

pub assume_holds : (c : CellValue) (z r : Val) → c.width ≡ 1 → CellHolds c z → Allowed (assumed z) (Gave r) → CellHolds (assumed_cell c) r
assume_holds c (Val.Number k) r width bit given = elim (cases_eq k 0) [
  | inl none ↦ absurd (undefined_is (nat_eq k 0) (eq-eqb k 0 none) given)
  | inr other ↦
      let fits : k < 2 ^ 1 = subst (λ (w : ℕ). k < 2 ^ w) width (cell_fits c k bit) in
      let one : in_cell c 1 ≡ true = ap (in_cell c) (sym (only_bit k fits other)) ∙ bit in
      subst (CellHolds (assumed_cell c)) (sym (defined_is (nat_eq k 0) (ne_eqb k 0 other) given)) (one_held c (in_cell c 1) one)
]
  where
    undefined_is : (t : Bool) → t ≡ true → Allowed (if t then Done.Ub else Done.Is (Val.Number 1)) (Gave r) → ⊥
    undefined_is true e h = cc
    undefined_is false e h = cc

    defined_is : (t : Bool) → t ≡ false → Allowed (if t then Done.Ub else Done.Is (Val.Number 1)) (Gave r) → r ≡ Val.Number 1
    defined_is true e h = absurd (true≢false e)
    defined_is false e h = ap value_in h
assume_holds c Val.Poison r width bit given = absurd (cc)
assume_holds c (Val.Pair k o) r width bit given = absurd (cc)
