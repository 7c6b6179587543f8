-- The laws of the domain of facts, but for those of the transfer.
use Rattle.std.proofs.Common.{◌≡◌, ℕ, ◌+◌, ◌-◌, ◌%◌, ◌^◌, ◌<◌, ◌≤◌, ◌⊎◌, Bool, true, false, inl, inr, refl, sym, ◌∙◌, ap, subst, arith, lit<, lit≤, List, Option, Some, None, bit_and, bit_xor}
use Rattle.std.specs.Prelude.{IsTrue, IsSomeAnd, ◌↔◌}
use Rattle.std.specs.Option.{option_map, ForSome}
use Rattle.std.proofs.lemmas.Bool.{true≢false, and_parts, eq-eqb}
use Rattle.std.proofs.lemmas.Nat.{pow_pos}
use Rattle.vfa_word.specs.Numbers.{IsWidth}
use Rattle.vfa_word.specs.Operations.{equal, unsigned_less, signed_less}
use Rattle.vfa_dom.proofs.SetSearches.{single_of_tells}
use Rattle.vfa_known.proofs.Members.{turned_sums}
use Rattle.vfa_ir.specs.declared.operations.Op.{Op}
use Rattle.vfa_ir.specs.declared.operations.Pred.{Pred}
use Rattle.vfa_ir.specs.declared.operations.Ty.{Ty}
use Rattle.vfa_ir.specs.Predicates.{by_order}
use Rattle.vfa_ir.specs.Printable.{op_type}
use Rattle.vfa_fact.specs.declared.cell.Parts.{Parts}
use Rattle.vfa_fact.specs.Cells.{CellValue, IsCell, in_option, in_cell, joined_cells, only_number, all_numbers, cell_of, poison_cell, compared_cells}
use Rattle.vfa_fact.specs.Compare.{satisfies}
use Rattle.vfa_fact.specs.Fact.{in_numbers, IsFact}
use Rattle.vfa_fact.proofs.CellNumbers.{cell_with, cell_fits, all_fact, all_has, only_fact, only_has}
use Rattle.vfa_fact.proofs.JoinedCells.{joined_cell, compared_keeps}
use Rattle.vfa_mean.specs.declared.value.Val.{Val}
use Rattle.vfa_mean.specs.Meaning.{done, Allowed, Gave}
use Rattle.vfa_mean.specs.Operands.{IsOperation}
use Rattle.vfa_mean.specs.Rows.{bit_of}
use Rattle.vfa_mean.specs.Values.{IsValueOf}
use Rattle.vfa_values.specs.Conditions.{IsType, IsOf}
use Rattle.vfa_values.specs.Laws.{AreTyped, AreSound, AreSteady, IsLawful, first_falling_round}
use Rattle.vfa_values.specs.Operands.{EachOperand}
use Rattle.vfa_xfer.specs.declared.any_fact.AnyFact.{AnyFact}
use Rattle.vfa_xfer.specs.AnyFacts.{type_of_parts, fact_type, AreCells, IsAnyFact, PartsHold, HoldsOf}
use Rattle.vfa_xfer.specs.CellLaws.{Covers, join_covers_first, join_covers_second, widen_covers_first, widen_covers_second, includes_covers, widened_cell, join_itself, widen_itself, cell_stays, cell_falls, cell_rank_most, kept_part, kept_cell_has, moved_part, moved_cell_has, compared_part}
use Rattle.vfa_xfer.specs.FactAnswers.{one_fact, literal_fact, any_cell, any_of, poison_of, joined_parts, bit_landmarks, widened_parts, includes_cell, includes_parts, compared_parts, parts_with_bits, moved_parts, single_of_parts, rank_of_parts, answers_with}
use Rattle.vfa_xfer.specs.Ranks.{cell_rank}
use Rattle.vfa_xfer.specs.Restrictions.{agrees_under, cell_with_bits, cell_moved}
use Rattle.vfa_xfer.specs.Widening.{widened_cells}

-- a fact of the type
abbrev pub OfType : Ty → AnyFact → Type 0
OfType t f = IsOf fact_type IsAnyFact t f

-- ---- types

pub int_width : (v w : ℕ) → Ty.Int v ≡ Ty.Int w → v ≡ w
int_width v w e = cc

pair_width : (v w : ℕ) → Ty.Pair v ≡ Ty.Pair w → v ≡ w
pair_width v w e = cc

pub int_apart : (v w : ℕ) → Ty.Int v ≡ Ty.Pair w → ⊥
int_apart v w e = cc

bit_width : IsWidth 1
bit_width = record { least = omega arith; most = lit≤ tt }

parts_width : (p : Parts) → AreCells p → IsType (type_of_parts p)
parts_width (Parts.One c) is = is.width
parts_width (Parts.Two c d) is = is.0.width

type_width : (t : Ty) (f : AnyFact) → OfType t f → IsType t
type_width t f of = subst IsType of.typed (parts_width f.parts of.is_proper)

-- two proper parts of one type
record SameType (p q : Parts) : Type 0 where
  first : AreCells p
  second : AreCells q
  same : type_of_parts p ≡ type_of_parts q

same_type : (t : Ty) (f g : AnyFact) → OfType t f → OfType t g → SameType f.parts g.parts
same_type t f g of of' = record { first = of.is_proper; second = of'.is_proper; same = of.typed ∙ sym of'.typed }

-- parts that are proper and of the type of others
record SameAs (p q : Parts) : Type 0 where
  is_proper : AreCells q
  typed : type_of_parts q ≡ type_of_parts p

as_typed : (t : Ty) (f : AnyFact) (q : Parts) → OfType t f → SameAs f.parts q → OfType t (record { parts = q })
as_typed t f q of same = record { is_proper = same.is_proper; typed = same.typed ∙ of.typed }

-- ---- literals, any values and poison

literal_cell : (w x : ℕ) → IsWidth w → x < 2 ^ w → IsCell (cell_of w (Some (only_number w x)) true)
literal_cell w x width fits =
    let some = pow_pos w in
    let sums = turned_sums w (2 ^ w - 1) x (omega arith) fits in
    let zeros : bit_xor (2 ^ w - 1) x ≡ 2 ^ w - 1 - x = omega arith in
    cell_with w (only_number w x) true width
    (subst (λ (z : ℕ). IsFact w (record { zeros = z; ones = x; first = x; last = x })) zeros (only_fact w (2 ^ w - 1) x width.least (omega arith) fits))

literal_alone : (w x y : ℕ) → IsWidth w → x < 2 ^ w → IsTrue (in_numbers w (only_number w x) y) ↔ (y ≡ x)
literal_alone w x y width fits =
    let some = pow_pos w in
    let sums = turned_sums w (2 ^ w - 1) x (omega arith) fits in
    let zeros : bit_xor (2 ^ w - 1) x ≡ 2 ^ w - 1 - x = omega arith in
    subst (λ (z : ℕ). IsTrue (in_numbers w (record { zeros = z; ones = x; first = x; last = x }) y) ↔ (y ≡ x)) zeros
    (only_has w (2 ^ w - 1) x width.least (omega arith) fits y)

whole_cell : (w : ℕ) (never_poison : Bool) → IsWidth w → IsCell (any_cell w never_poison)
whole_cell w never_poison width = cell_with w (all_numbers w) never_poison width (all_fact w (2 ^ w - 1) refl)

whole_has : (w x : ℕ) → x < 2 ^ w → in_numbers w (all_numbers w) x ≡ true
whole_has w x fits = all_has w (2 ^ w - 1) x refl fits

none_cell : (w : ℕ) → IsWidth w → IsCell (poison_cell w)
none_cell w width = record { width = width; fact = λ n e. absurd (cc); unmarked = λ _. refl }

any_typed : (t : Ty) (never_poison : Bool) → IsType t → OfType t (any_of t never_poison)
any_typed (Ty.Int w) never_poison is = record { is_proper = whole_cell w never_poison is; typed = refl }
any_typed (Ty.Pair w) never_poison is = record { is_proper = (whole_cell w never_poison is, whole_cell 1 never_poison bit_width, refl); typed = refl }

poison_typed : (t : Ty) → IsType t → OfType t (poison_of t)
poison_typed (Ty.Int w) is = record { is_proper = none_cell w is; typed = refl }
poison_typed (Ty.Pair w) is = record { is_proper = (none_cell w is, none_cell 1 bit_width, refl); typed = refl }

-- ---- joins and widenings

joined_as : (p q : Parts) → SameType p q → SameAs p (joined_parts p q)
joined_as (Parts.One a) (Parts.One b) is = record { is_proper = joined_cell a b is.first is.second (int_width a.width b.width is.same); typed = refl }
joined_as (Parts.One a) (Parts.Two b d) is = absurd (int_apart a.width b.width is.same)
joined_as (Parts.Two a c) (Parts.One b) is = absurd (int_apart b.width a.width (sym is.same))
joined_as (Parts.Two a c) (Parts.Two b d) is = record {
  is_proper = (joined_cell a b is.first.0 is.second.0 (pair_width a.width b.width is.same), joined_cell c d is.first.1 is.second.1 (is.first.2 ∙ sym is.second.2), is.first.2);
  typed = refl;
}

widened_as : (round : ℕ) (marks : List ℕ) (p q : Parts) → SameType p q → SameAs p (widened_parts round marks p q)
widened_as round marks (Parts.One a) (Parts.One b) is = record { is_proper = widened_cell round marks a b is.first is.second (int_width a.width b.width is.same); typed = refl }
widened_as round marks (Parts.One a) (Parts.Two b d) is = absurd (int_apart a.width b.width is.same)
widened_as round marks (Parts.Two a c) (Parts.One b) is = absurd (int_apart b.width a.width (sym is.same))
widened_as round marks (Parts.Two a c) (Parts.Two b d) is = record {
  is_proper = (
    widened_cell round marks a b is.first.0 is.second.0 (pair_width a.width b.width is.same),
    widened_cell round bit_landmarks c d is.first.1 is.second.1 (is.first.2 ∙ sym is.second.2),
    is.first.2,
  );
  typed = refl;
}

-- ---- what is left

-- the fact of a cell that is left, where there is one
left_typed : (w : ℕ) (o : Option CellValue) → ((c : CellValue) → o ≡ Some c → IsCell c × (c.width ≡ w)) → ForSome (option_map one_fact o) (λ f. OfType (Ty.Int w) f)
left_typed w None parts f is = absurd (cc)
left_typed w (Some c) parts f is =
    let cell = parts c refl in
    subst (λ (f : AnyFact). OfType (Ty.Int w) f) (of_fact (one_fact c) f is) (record { is_proper = cell.0; typed = ap Ty.Int cell.1 })
  where
    of_fact : (a b : AnyFact) → Some a ≡ Some b → a ≡ b
    of_fact a b e = cc

left_has : (x : ℕ) (o : Option CellValue) → IsSomeAnd o (λ c. IsTrue (in_cell c x)) → IsSomeAnd (option_map one_fact o) (λ f. HoldsOf f (Val.Number x))
left_has x None has = has
left_has x (Some c) has = has

-- the width of a cell that is left is that of the first
part_at : (v w : ℕ) (c : CellValue) → v ≡ w → IsCell c × (c.width ≡ v) → IsCell c × (c.width ≡ w)
part_at v w c same part = (part.0, part.1 ∙ same)

nothing_left : (w : ℕ) → ForSome None (λ f. OfType (Ty.Int w) f)
nothing_left w f is = absurd (cc)

compared_typed : (w : ℕ) (pred : Pred) (p q : Parts) → AreCells p → type_of_parts p ≡ Ty.Int w → ForSome (compared_parts pred p q) (λ f. OfType (Ty.Int w) f)
compared_typed w pred (Parts.One a) (Parts.One b) is typed = left_typed w (compared_cells pred a b) (λ c some. part_at a.width w c (int_width a.width w typed) (compared_part pred a b c is some))
compared_typed w pred (Parts.One a) (Parts.Two b d) is typed = nothing_left w
compared_typed w pred (Parts.Two a c) q is typed = nothing_left w

with_bits_typed : (w mask value : ℕ) (p : Parts) → AreCells p → type_of_parts p ≡ Ty.Int w → ForSome (parts_with_bits mask value p) (λ f. OfType (Ty.Int w) f)
with_bits_typed w mask value (Parts.One a) is typed =
    left_typed w (cell_with_bits mask value a) (λ c some. part_at a.width w c (int_width a.width w typed) (kept_part (agrees_under mask value) a c is some))
with_bits_typed w mask value (Parts.Two a c) is typed = nothing_left w

moved_typed : (w c : ℕ) (q p : Parts) → AreCells p → type_of_parts p ≡ Ty.Int w → ForSome (moved_parts c q p) (λ f. OfType (Ty.Int w) f)
moved_typed w c (Parts.One sums) (Parts.One a) is typed =
    left_typed w (cell_moved c sums a) (λ d some. part_at a.width w d (int_width a.width w typed) (moved_part c sums a d is some))
moved_typed w c (Parts.One sums) (Parts.Two a d) is typed = nothing_left w
moved_typed w c (Parts.Two sums d) p is typed = nothing_left w

single_typed : (w : ℕ) (p : Parts) → type_of_parts p ≡ Ty.Int w → ForSome (single_of_parts p) (λ x. x < 2 ^ w)
single_typed w (Parts.One c) typed x is =
    let tells = single_of_tells c.width (in_cell c) x is in
    subst (λ (v : ℕ). x < 2 ^ v) (int_width c.width w typed) tells.1
single_typed w (Parts.Two c d) typed x is = absurd (cc)

rank_fits : (p : Parts) → AreCells p → rank_of_parts p < 2 ^ 32
rank_fits (Parts.One c) is = let most = cell_rank_most c is in let width = is.width.most in omega arith
rank_fits (Parts.Two c d) is =
    let one = cell_rank_most c is.0 in
    let two = cell_rank_most d is.1 in
    let width = is.0.width.most in
    let bit = is.2 in
    omega arith

pub facts_typed : (transfer : Op → AnyFact → AnyFact → AnyFact → AnyFact) →
    ((op : Op) (a b c : AnyFact) → IsOperation op → EachOperand op (λ t. OfType t a) (λ t. OfType t b) (λ t. OfType t c) → OfType (op_type op) (transfer op a b c)) →
    AreTyped OfType (answers_with transfer)
facts_typed transfer typed = record {
  width = type_width;
  literal = λ w x width fits. record { is_proper = literal_cell w x width fits; typed = refl };
  any = any_typed;
  poison = poison_typed;
  transfer = typed;
  join = λ t a b of of'. as_typed t a (joined_parts a.parts b.parts) of (joined_as a.parts b.parts (same_type t a b of of'));
  widen = λ t old new round marks of of' _ _. as_typed t old (widened_parts round marks old.parts new.parts) of (widened_as round marks old.parts new.parts (same_type t old new of of'));
  compare = λ w a b pred of of'. compared_typed w pred a.parts b.parts of.is_proper of.typed;
  with_bits = λ w mask value a of _ _. with_bits_typed w mask value a.parts of.is_proper of.typed;
  moved_from = λ w c a sums of of' _. moved_typed w c sums.parts a.parts of.is_proper of.typed;
  single = λ w d of. single_typed w d.parts of.typed;
  rank = λ t d of. rank_fits d.parts of.is_proper;
}

-- ---- what facts hold of

parts_within : (p : Parts) (v : Val) → AreCells p → PartsHold p v → IsValueOf (type_of_parts p) v
parts_within (Parts.One c) (Val.Number x) is holds = cell_fits c x holds
parts_within (Parts.One c) Val.Poison is holds = tt
parts_within (Parts.One c) (Val.Pair x o) is holds = absurd holds
parts_within (Parts.Two c d) (Val.Number x) is holds = absurd holds
parts_within (Parts.Two c d) Val.Poison is holds = tt
parts_within (Parts.Two c d) (Val.Pair x o) is holds = cell_fits c x holds.0

within : (t : Ty) (f : AnyFact) (v : Val) → OfType t f → HoldsOf f v → IsValueOf t v
within t f v of holds = subst (λ (t : Ty). IsValueOf t v) of.typed (parts_within f.parts v of.is_proper holds)

number_same : (x y : ℕ) → Val.Number y ≡ Val.Number x → y ≡ x
number_same x y e = cc

literal_holds : (w x : ℕ) (v : Val) → IsWidth w → x < 2 ^ w → HoldsOf (literal_fact w x) v ↔ (v ≡ Val.Number x)
unfolding in_option
literal_holds w x (Val.Number y) width fits =
    let alone = literal_alone w x y width fits in
    ((λ member. ap Val.Number (alone.0 member)), (λ same. alone.1 (number_same x y same)))
literal_holds w x Val.Poison width fits = ((λ mark. absurd (true≢false mark)), (λ same. absurd (cc)))
literal_holds w x (Val.Pair y o) width fits = ((λ holds. absurd holds), (λ same. absurd (cc)))

bit_fits : (o : Bool) → bit_of o < 2 ^ 1
bit_fits true = lit< tt
bit_fits false = lit< tt

any_holds : (t : Ty) (never_poison : Bool) (v : Val) → IsType t → IsValueOf t v → (v ≡ Val.Poison → never_poison ≡ false) → HoldsOf (any_of t never_poison) v
unfolding in_option
any_holds (Ty.Int w) never_poison (Val.Number x) is fits poison = whole_has w x fits
any_holds (Ty.Int w) never_poison Val.Poison is fits poison = poison refl
any_holds (Ty.Int w) never_poison (Val.Pair x o) is fits poison = absurd fits
any_holds (Ty.Pair w) never_poison (Val.Number x) is fits poison = absurd fits
any_holds (Ty.Pair w) never_poison Val.Poison is fits poison = (poison refl, poison refl)
any_holds (Ty.Pair w) never_poison (Val.Pair x o) is fits poison = (whole_has w x fits, whole_has 1 (bit_of o) (bit_fits o))

poison_holds : (t : Ty) → IsType t → HoldsOf (poison_of t) Val.Poison
poison_holds (Ty.Int w) is = refl
poison_holds (Ty.Pair w) is = (refl, refl)

one_covers : (c a : CellValue) (v : Val) → Covers c a → PartsHold (Parts.One a) v → PartsHold (Parts.One c) v
one_covers c a (Val.Number x) covers holds = covers.numbers x holds
one_covers c a Val.Poison covers holds = covers.mark holds
one_covers c a (Val.Pair x o) covers holds = holds

two_cover : (c d a b : CellValue) (v : Val) → Covers c a → Covers d b → PartsHold (Parts.Two a b) v → PartsHold (Parts.Two c d) v
two_cover c d a b (Val.Number x) one two holds = holds
two_cover c d a b Val.Poison one two holds = (one.mark holds.0, two.mark holds.1)
two_cover c d a b (Val.Pair x o) one two holds = (one.numbers x holds.0, two.numbers (bit_of o) holds.1)

join_holds_first : (p q : Parts) (v : Val) → SameType p q → PartsHold p v → PartsHold (joined_parts p q) v
join_holds_first (Parts.One a) (Parts.One b) v is holds =
    one_covers (joined_cells a b) a v (join_covers_first a b is.first is.second (int_width a.width b.width is.same)) holds
join_holds_first (Parts.One a) (Parts.Two b d) v is holds = holds
join_holds_first (Parts.Two a c) (Parts.One b) v is holds = holds
join_holds_first (Parts.Two a c) (Parts.Two b d) v is holds =
    two_cover (joined_cells a b) (joined_cells c d) a c v
    (join_covers_first a b is.first.0 is.second.0 (pair_width a.width b.width is.same))
    (join_covers_first c d is.first.1 is.second.1 (is.first.2 ∙ sym is.second.2)) holds

join_holds_second : (p q : Parts) (v : Val) → SameType p q → PartsHold q v → PartsHold (joined_parts p q) v
join_holds_second (Parts.One a) (Parts.One b) v is holds =
    one_covers (joined_cells a b) b v (join_covers_second a b is.first is.second (int_width a.width b.width is.same)) holds
join_holds_second (Parts.One a) (Parts.Two b d) v is holds = absurd (int_apart a.width b.width is.same)
join_holds_second (Parts.Two a c) (Parts.One b) v is holds = absurd (int_apart b.width a.width (sym is.same))
join_holds_second (Parts.Two a c) (Parts.Two b d) v is holds =
    two_cover (joined_cells a b) (joined_cells c d) b d v
    (join_covers_second a b is.first.0 is.second.0 (pair_width a.width b.width is.same))
    (join_covers_second c d is.first.1 is.second.1 (is.first.2 ∙ sym is.second.2)) holds

widen_holds_first : (round : ℕ) (marks : List ℕ) (p q : Parts) (v : Val) → SameType p q → PartsHold p v → PartsHold (widened_parts round marks p q) v
widen_holds_first round marks (Parts.One a) (Parts.One b) v is holds =
    one_covers (widened_cells round marks a b) a v (widen_covers_first round marks a b is.first is.second (int_width a.width b.width is.same)) holds
widen_holds_first round marks (Parts.One a) (Parts.Two b d) v is holds = holds
widen_holds_first round marks (Parts.Two a c) (Parts.One b) v is holds = holds
widen_holds_first round marks (Parts.Two a c) (Parts.Two b d) v is holds =
    two_cover (widened_cells round marks a b) (widened_cells round bit_landmarks c d) a c v
    (widen_covers_first round marks a b is.first.0 is.second.0 (pair_width a.width b.width is.same))
    (widen_covers_first round bit_landmarks c d is.first.1 is.second.1 (is.first.2 ∙ sym is.second.2)) holds

widen_holds_second : (round : ℕ) (marks : List ℕ) (p q : Parts) (v : Val) → SameType p q → PartsHold q v → PartsHold (widened_parts round marks p q) v
widen_holds_second round marks (Parts.One a) (Parts.One b) v is holds =
    one_covers (widened_cells round marks a b) b v (widen_covers_second round marks a b is.first is.second (int_width a.width b.width is.same)) holds
widen_holds_second round marks (Parts.One a) (Parts.Two b d) v is holds = absurd (int_apart a.width b.width is.same)
widen_holds_second round marks (Parts.Two a c) (Parts.One b) v is holds = absurd (int_apart b.width a.width (sym is.same))
widen_holds_second round marks (Parts.Two a c) (Parts.Two b d) v is holds =
    two_cover (widened_cells round marks a b) (widened_cells round bit_landmarks c d) b d v
    (widen_covers_second round marks a b is.first.0 is.second.0 (pair_width a.width b.width is.same))
    (widen_covers_second round bit_landmarks c d is.first.1 is.second.1 (is.first.2 ∙ sym is.second.2)) holds

includes_hold : (p q : Parts) (v : Val) → SameType p q → includes_parts p q ≡ true → PartsHold q v → PartsHold p v
includes_hold (Parts.One a) (Parts.One b) v is answer holds =
    one_covers a b v (includes_covers a b is.first is.second (int_width a.width b.width is.same) answer) holds
includes_hold (Parts.One a) (Parts.Two b d) v is answer holds = absurd (int_apart a.width b.width is.same)
includes_hold (Parts.Two a c) (Parts.One b) v is answer holds = absurd (int_apart b.width a.width (sym is.same))
includes_hold (Parts.Two a c) (Parts.Two b d) v is answer holds =
    let both = and_parts (includes_cell a b) (includes_cell c d) answer in
    two_cover a c b d v
    (includes_covers a b is.first.0 is.second.0 (pair_width a.width b.width is.same) both.0)
    (includes_covers c d is.first.1 is.second.1 (is.first.2 ∙ sym is.second.2) both.1) holds

-- ---- restrictions keep what is wanted

compared_holds : (w x y : ℕ) (pred : Pred) (p q : Parts) → SameType p q → type_of_parts p ≡ Ty.Int w → PartsHold p (Val.Number x) → PartsHold q (Val.Number y) →
    IsTrue (by_order pred equal unsigned_less (signed_less w) x y) → IsSomeAnd (compared_parts pred p q) (λ f. HoldsOf f (Val.Number x))
unfolding satisfies
compared_holds w x y pred (Parts.One a) (Parts.One b) is typed holds holds' wanted =
    left_has x (compared_cells pred a b)
    (compared_keeps pred a b (compared_cells pred a b) is.first (int_width a.width b.width is.same) refl x y holds holds'
    (subst (λ (v : ℕ). IsTrue (by_order pred equal unsigned_less (signed_less v) x y)) (sym (int_width a.width w typed)) wanted))
compared_holds w x y pred (Parts.One a) (Parts.Two b d) is typed holds holds' wanted = absurd holds'
compared_holds w x y pred (Parts.Two a c) q is typed holds holds' wanted = absurd holds

with_bits_holds : (x mask value : ℕ) (p : Parts) → AreCells p → PartsHold p (Val.Number x) → bit_and x mask ≡ bit_and value mask →
    IsSomeAnd (parts_with_bits mask value p) (λ f. HoldsOf f (Val.Number x))
unfolding agrees_under
with_bits_holds x mask value (Parts.One a) is holds same =
    left_has x (cell_with_bits mask value a) (kept_cell_has (agrees_under mask value) a is x holds (eq-eqb (bit_and x mask) (bit_and value mask) same))
with_bits_holds x mask value (Parts.Two a c) is holds same = absurd holds

moved_holds : (w x c : ℕ) (q p : Parts) → SameType p q → type_of_parts p ≡ Ty.Int w → PartsHold p (Val.Number x) → PartsHold q (Val.Number ((x + c) % 2 ^ w)) →
    IsSomeAnd (moved_parts c q p) (λ f. HoldsOf f (Val.Number x))
moved_holds w x c (Parts.One sums) (Parts.One a) is typed holds lands =
    left_has x (cell_moved c sums a)
    (moved_cell_has c sums a is.first (sym (int_width a.width sums.width is.same)) x holds
    (subst (λ (v : ℕ). IsTrue (in_cell sums ((x + c) % 2 ^ v))) (sym (int_width a.width w typed)) lands))
moved_holds w x c (Parts.One sums) (Parts.Two a d) is typed holds lands = absurd holds
moved_holds w x c (Parts.Two sums d) p is typed holds lands = absurd lands

single_alone : (p : Parts) (x y : ℕ) → AreCells p → single_of_parts p ≡ Some x → PartsHold p (Val.Number y) → y ≡ x
single_alone (Parts.One c) x y is same holds = (single_of_tells c.width (in_cell c) x same).2 y (cell_fits c y holds) holds
single_alone (Parts.Two c d) x y is same holds = absurd holds

pub facts_sound : (transfer : Op → AnyFact → AnyFact → AnyFact → AnyFact) →
    ((op : Op) (a b c : AnyFact) (x y z r : Val) → IsOperation op → EachOperand op (λ t. OfType t a) (λ t. OfType t b) (λ t. OfType t c) →
    EachOperand op (λ _. HoldsOf a x) (λ _. HoldsOf b y) (λ _. HoldsOf c z) → Allowed (done op x y z) (Gave r) → HoldsOf (transfer op a b c) r) →
    AreSound HoldsOf OfType (answers_with transfer)
facts_sound transfer sound = record {
  within = within;
  literal = literal_holds;
  any = any_holds;
  poison = poison_holds;
  transfer = sound;
  join_first = λ t a b v of of' holds. join_holds_first a.parts b.parts v (same_type t a b of of') holds;
  join_second = λ t a b v of of' holds. join_holds_second a.parts b.parts v (same_type t a b of of') holds;
  widen_old = λ t old new round marks v of of' _ _ holds. widen_holds_first round marks old.parts new.parts v (same_type t old new of of') holds;
  widen_new = λ t old new round marks v of of' _ _ holds. widen_holds_second round marks old.parts new.parts v (same_type t old new of of') holds;
  includes = λ t a b v of of' answer holds. includes_hold a.parts b.parts v (same_type t a b of of') answer holds;
  compare = λ w x y a b pred of of' holds holds' wanted.
      compared_holds w x y pred a.parts b.parts (same_type (Ty.Int w) a b of of') of.typed holds holds' wanted;
  with_bits = λ w x mask value a of _ _ holds same. with_bits_holds x mask value a.parts of.is_proper holds same;
  moved_from = λ w x c a sums of of' _ holds lands. moved_holds w x c sums.parts a.parts (same_type (Ty.Int w) a sums of of') of.typed holds lands;
  single = λ t d x y of same holds. single_alone d.parts x y of.is_proper same holds;
}

-- ---- steadiness

two_same : (a b c d : CellValue) → a ≡ c → b ≡ d → Parts.Two a b ≡ Parts.Two c d
two_same a b c d e f = cc

one_part : (a c : CellValue) → Parts.One a ≡ Parts.One c → a ≡ c
one_part a c e = cc

two_parts : (a b c d : CellValue) → Parts.Two a b ≡ Parts.Two c d → (a ≡ c) × (b ≡ d)
two_parts a b c d e = (cc, cc)

parts_join_itself : (p : Parts) → AreCells p → joined_parts p p ≡ p
parts_join_itself (Parts.One a) is = ap Parts.One (join_itself a is)
parts_join_itself (Parts.Two a b) is = two_same _ _ a b (join_itself a is.0) (join_itself b is.1)

parts_widen_itself : (round : ℕ) (marks : List ℕ) (p : Parts) → AreCells p → widened_parts round marks p p ≡ p
parts_widen_itself round marks (Parts.One a) is = ap Parts.One (widen_itself round marks a is)
parts_widen_itself round marks (Parts.Two a b) is = two_same _ _ a b (widen_itself round marks a is.0) (widen_itself round bit_landmarks b is.1)

parts_stay : (round later : ℕ) (marks : List ℕ) (p q : Parts) → SameType p q → round ≤ later →
    widened_parts round marks p q ≡ p → widened_parts later marks p q ≡ p
parts_stay round later marks (Parts.One a) (Parts.One b) is order same =
    ap Parts.One (cell_stays round later marks a b is.first is.second (int_width a.width b.width is.same) order (one_part (widened_cells round marks a b) a same))
parts_stay round later marks (Parts.One a) (Parts.Two b d) is order same = same
parts_stay round later marks (Parts.Two a c) (Parts.One b) is order same = same
parts_stay round later marks (Parts.Two a c) (Parts.Two b d) is order same =
    let both = two_parts (widened_cells round marks a b) (widened_cells round bit_landmarks c d) a c same in
    two_same _ _ a c
    (cell_stays round later marks a b is.first.0 is.second.0 (pair_width a.width b.width is.same) order both.0)
    (cell_stays round later bit_landmarks c d is.first.1 is.second.1 (is.first.2 ∙ sym is.second.2) order both.1)

parts_fall : (round : ℕ) (marks : List ℕ) (p q : Parts) → SameType p q → first_falling_round ≤ round →
    (widened_parts round marks p q ≡ p) ⊎ (rank_of_parts (widened_parts round marks p q) < rank_of_parts p)
parts_fall round marks (Parts.One a) (Parts.One b) is late =
    elim (cell_falls round marks a b is.first is.second (int_width a.width b.width is.same) late) [
      | inl same ↦ inl (ap Parts.One same)
      | inr less ↦ inr less
    ]
parts_fall round marks (Parts.One a) (Parts.Two b d) is late = inl refl
parts_fall round marks (Parts.Two a c) (Parts.One b) is late = inl refl
parts_fall round marks (Parts.Two a c) (Parts.Two b d) is late =
    both_fall (widened_cells round marks a b) (widened_cells round bit_landmarks c d) a c
    (cell_falls round marks a b is.first.0 is.second.0 (pair_width a.width b.width is.same) late)
    (cell_falls round bit_landmarks c d is.first.1 is.second.1 (is.first.2 ∙ sym is.second.2) late)
  where
    both_fall : (a' c' a c : CellValue) → (a' ≡ a) ⊎ (cell_rank a' < cell_rank a) → (c' ≡ c) ⊎ (cell_rank c' < cell_rank c) →
        (Parts.Two a' c' ≡ Parts.Two a c) ⊎ (cell_rank a' + cell_rank c' < cell_rank a + cell_rank c)
    both_fall a' c' a c (inl same) (inl same') = inl (two_same a' c' a c same same')
    both_fall a' c' a c (inl same) (inr less) = inr (let rank = ap cell_rank same in omega arith)
    both_fall a' c' a c (inr less) (inl same) = inr (let rank = ap cell_rank same in omega arith)
    both_fall a' c' a c (inr less) (inr less') = inr (omega arith)

of_parts : (f : AnyFact) (q : Parts) → q ≡ f.parts → record { parts = q } ≡ f
of_parts f q same = ap (λ (p : Parts). record { parts = p }) same

fall_of_parts : (f : AnyFact) (q : Parts) → (q ≡ f.parts) ⊎ (rank_of_parts q < rank_of_parts f.parts) → (record { parts = q } ≡ f) ⊎ (rank_of_parts q < rank_of_parts f.parts)
fall_of_parts f q (inl same) = inl (of_parts f q same)
fall_of_parts f q (inr less) = inr less

pub facts_steady : (transfer : Op → AnyFact → AnyFact → AnyFact → AnyFact) → AreSteady OfType (answers_with transfer)
facts_steady transfer = record {
  join_itself = λ t d of. of_parts d (joined_parts d.parts d.parts) (parts_join_itself d.parts of.is_proper);
  widen_itself = λ t d round marks of _ _. of_parts d (widened_parts round marks d.parts d.parts) (parts_widen_itself round marks d.parts of.is_proper);
  stays = λ t old new round later marks of of' _ order _ same. of_parts old (widened_parts later marks old.parts new.parts)
      (parts_stay round later marks old.parts new.parts (same_type t old new of of') order (ap (λ (f : AnyFact). f.parts) same));
  falls = λ t old new round marks of of' late _. fall_of_parts old (widened_parts round marks old.parts new.parts)
      (parts_fall round marks old.parts new.parts (same_type t old new of of') late);
}

-- with the two laws of a transfer, all laws
pub facts_lawful : (transfer : Op → AnyFact → AnyFact → AnyFact → AnyFact) →
    ((op : Op) (a b c : AnyFact) → IsOperation op → EachOperand op (λ t. OfType t a) (λ t. OfType t b) (λ t. OfType t c) → OfType (op_type op) (transfer op a b c)) →
    ((op : Op) (a b c : AnyFact) (x y z r : Val) → IsOperation op → EachOperand op (λ t. OfType t a) (λ t. OfType t b) (λ t. OfType t c) →
    EachOperand op (λ _. HoldsOf a x) (λ _. HoldsOf b y) (λ _. HoldsOf c z) → Allowed (done op x y z) (Gave r) → HoldsOf (transfer op a b c) r) →
    IsLawful HoldsOf fact_type IsAnyFact (answers_with transfer)
facts_lawful transfer typed sound = record { typed = facts_typed transfer typed; sound = facts_sound transfer sound; steady = facts_steady transfer }
