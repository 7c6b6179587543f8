-- The laws of cells: their joins, widenings, ranks, inclusions and restrictions.
use Rattle.std.proofs.Common.{◌≡◌, ℕ, ◌+◌, ◌*◌, ◌%◌, ◌^◌, ◌<◌, ◌≤◌, ◌⊎◌, Bool, true, false, not, ◌&&◌, ◌||◌, inl, inr, refl, sym, ◌∙◌, ap, subst, arith, List, Option, Some, None}
use Rattle.std.specs.Prelude.{IsTrue, IsSomeAnd}
use Rattle.std.specs.Option.{option_map}
use Rattle.std.proofs.lemmas.Bool.{true≢false, and_parts}
use Rattle.vfa_word.specs.Numbers.{IsWidth}
use Rattle.vfa_dom.specs.Search.{flag}
use Rattle.vfa_dom.specs.Sets.{meet, includes}
use Rattle.vfa_dom.proofs.SetSearches.{meet_from, includes_tells}
use Rattle.vfa_ir.specs.declared.operations.Pred.{Pred}
use Rattle.vfa_fact.specs.declared.numbers.Numbers.{Numbers}
use Rattle.vfa_fact.specs.Cells.{CellValue, IsCell, in_option, in_cell, joined_numbers, joined_cells, marked, compared_numbers, compared_cells}
use Rattle.vfa_fact.specs.Compare.{satisfies, partners, restrict_of}
use Rattle.vfa_fact.specs.Fact.{masks_in, span_in, in_numbers, in_numbers_fits, IsFact}
use Rattle.vfa_fact.proofs.CellNumbers.{cell_fits}
use Rattle.vfa_fact.proofs.Facts.{numbers_parts, fact_cube}
use Rattle.vfa_fact.proofs.JoinedCells.{AreFacts, both_again, both_facts, both_left, joined_cell, joined_left, joined_right}
use Rattle.vfa_fact.proofs.SharpArcs.{sharp_in_fact, sharp_in_has}
use Rattle.vfa_values.specs.Laws.{first_falling_round}
use Rattle.vfa_xfer.specs.LowBits.{known_most}
use Rattle.vfa_xfer.specs.Ranks.{low_span, fact_rank, rank_of, cell_rank}
use Rattle.vfa_xfer.specs.Restrictions.{kept_of, kept_numbers, kept_cell, lands_in, moved_numbers, cell_moved}
use Rattle.vfa_xfer.specs.Widening.{is_same_span, widened_fact, widened_numbers, widened_cells}
use Rattle.vfa_xfer.specs.WideningLaws.{Within, widened_is_fact, widened_has, widened_some, widened_same, fact_stays, fact_falls}

-- ---- options of numbers

numbers_cases : (o : Option Numbers) → (o ≡ None) ⊎ ((n : Numbers) × (o ≡ Some n))
numbers_cases None = inl refl
numbers_cases (Some n) = inr (n, refl)

some_apart : (n : Numbers) → ◌≡◌ {A = Option Numbers} None (Some n) → ⊥
some_apart n e = cc

of_some : (a b : Numbers) → Some a ≡ Some b → a ≡ b
of_some a b e = cc

-- ---- the widening of numbers to their join with others

module _ (w round : ℕ) (marks : List ℕ) where
  wide_facts : (m o : Option Numbers) → AreFacts w m → AreFacts w o → AreFacts w (widened_numbers w round marks m o)
  unfolding widened_numbers
  wide_facts None o one two n is = two n is
  wide_facts (Some a) None one two n is = absurd (some_apart n is)
  wide_facts (Some a) (Some j) one two n is = widened_is_fact w a j (one a refl) (two j refl) round marks n is

  wide_has : (m o : Option Numbers) → AreFacts w m → AreFacts w o → (x : ℕ) → in_option w o x ≡ true → in_option w (widened_numbers w round marks m o) x ≡ true
  unfolding widened_numbers in_option
  wide_has None o one two x member = member
  wide_has (Some a) None one two x member = absurd (true≢false (sym member))
  wide_has (Some a) (Some j) one two x member = widened_has w a j (one a refl) (two j refl) round marks x member

  wide_none : (m o : Option Numbers) → AreFacts w m → AreFacts w o → widened_numbers w round marks m o ≡ None → o ≡ None
  unfolding widened_numbers
  wide_none None o one two none = none
  wide_none (Some a) None one two none = refl
  wide_none (Some a) (Some j) one two none = absurd (widened_some w a j (one a refl) (two j refl) round marks none)

-- ---- cells

facts_at : (a b : CellValue) → IsCell b → a.width ≡ b.width → AreFacts a.width b.numbers
facts_at a b is same = subst (λ (w : ℕ). AreFacts w b.numbers) (sym same) is.fact

pub widened_cell : (round : ℕ) (marks : List ℕ) (a b : CellValue) → IsCell a → IsCell b → a.width ≡ b.width → IsCell (widened_cells round marks a b)
widened_cell round marks a b left right same =
    let both = joined_cell a b left right same in
    record {
      width = left.width;
      fact = wide_facts a.width round marks a.numbers (joined_numbers a.width a.numbers b.numbers) left.fact both.fact;
      unmarked = λ none. both.unmarked (wide_none a.width round marks a.numbers (joined_numbers a.width a.numbers b.numbers) left.fact both.fact none);
    }

pub widened_first : (round : ℕ) (marks : List ℕ) (a b : CellValue) → IsCell a → IsCell b → a.width ≡ b.width → (x : ℕ) → in_cell a x ≡ true → in_cell (widened_cells round marks a b) x ≡ true
widened_first round marks a b left right same x member =
    wide_has a.width round marks a.numbers (joined_numbers a.width a.numbers b.numbers) left.fact ((joined_cell a b left right same).fact) x
    (joined_left a b left right same x member)

pub widened_second : (round : ℕ) (marks : List ℕ) (a b : CellValue) → IsCell a → IsCell b → a.width ≡ b.width → (x : ℕ) → in_cell b x ≡ true → in_cell (widened_cells round marks a b) x ≡ true
widened_second round marks a b left right same x member =
    wide_has a.width round marks a.numbers (joined_numbers a.width a.numbers b.numbers) left.fact ((joined_cell a b left right same).fact) x
    (joined_right a b left right same x member)

-- ---- a cell with itself

and_itself : (a : Bool) → (a && a) ≡ a
and_itself true = refl
and_itself false = refl

same_cell : (a : CellValue) (numbers : Option Numbers) (mark : Bool) → numbers ≡ a.numbers → mark ≡ a.never_poison →
    record { width = a.width; numbers = numbers; never_poison = mark } ≡ a
same_cell a numbers mark same same' =
    ap (λ (o : Option Numbers). record { width = a.width; numbers = o; never_poison = mark }) same
    ∙ ap (λ (m : Bool). record { width = a.width; numbers = a.numbers; never_poison = m }) same'

pub join_itself : (a : CellValue) → IsCell a → joined_cells a a ≡ a
join_itself a is = same_cell a (joined_numbers a.width a.numbers a.numbers) (a.never_poison && a.never_poison)
    (sym (both_again a.width a.numbers a.numbers is.fact refl)) (and_itself a.never_poison)

pub wide_again : (w round : ℕ) (marks : List ℕ) (m o : Option Numbers) → o ≡ m → widened_numbers w round marks m o ≡ m
unfolding widened_numbers
wide_again w round marks None o same = same
wide_again w round marks (Some a) None same = absurd (some_apart a same)
wide_again w round marks (Some a) (Some j) same = ap (λ (n : Numbers). widened_fact w round marks a n) (of_some j a same) ∙ widened_same w round marks a

pub widen_itself : (round : ℕ) (marks : List ℕ) (a : CellValue) → IsCell a → widened_cells round marks a a ≡ a
widen_itself round marks a is = same_cell a (widened_numbers a.width round marks a.numbers (joined_numbers a.width a.numbers a.numbers)) (a.never_poison && a.never_poison)
    (wide_again a.width round marks a.numbers (joined_numbers a.width a.numbers a.numbers) (sym (both_again a.width a.numbers a.numbers is.fact refl))) (and_itself a.never_poison)

-- ---- a widening that gives the old cell

-- the join of numbers with others has each of them
within_join : (w : ℕ) (a j : Numbers) (n : Option Numbers) → AreFacts w (Some a) → AreFacts w n → joined_numbers w (Some a) n ≡ Some j → Within w a j
unfolding in_option
within_join w a j n one two is x member =
    ap (λ (o : Option Numbers). in_option w o x) (sym is) ∙ both_left w (Some a) n one two x member

numbers_stay : (w round later : ℕ) (marks : List ℕ) (m n : Option Numbers) → AreFacts w m → AreFacts w n → round ≤ later →
    widened_numbers w round marks m (joined_numbers w m n) ≡ m → widened_numbers w later marks m (joined_numbers w m n) ≡ m
unfolding widened_numbers
numbers_stay w round later marks None n one two order same = same
numbers_stay w round later marks (Some a) n one two order same =
    elim (numbers_cases (joined_numbers w (Some a) n)) [
      | inl none ↦ absurd (some_apart a (sym (ap (λ (o : Option Numbers). widened_numbers w round marks (Some a) o) none) ∙ same))
      | inr some ↦
          let j : Numbers = some.0 in
          ap (λ (o : Option Numbers). widened_numbers w later marks (Some a) o) some.1
          ∙ fact_stays w a j (one a refl) (both_facts w (Some a) n one two j some.1) (within_join w a j n one two some.1) round later marks order
          (sym (ap (λ (o : Option Numbers). widened_numbers w round marks (Some a) o) some.1) ∙ same)
    ]

pub cell_stays : (round later : ℕ) (marks : List ℕ) (a b : CellValue) → IsCell a → IsCell b → a.width ≡ b.width → round ≤ later →
    widened_cells round marks a b ≡ a → widened_cells later marks a b ≡ a
cell_stays round later marks a b left right widths order same =
    same_cell a (widened_numbers a.width later marks a.numbers (joined_numbers a.width a.numbers b.numbers)) (a.never_poison && b.never_poison)
    (numbers_stay a.width round later marks a.numbers b.numbers left.fact (facts_at a b right widths) order (ap (λ (c : CellValue). c.numbers) same))
    (ap (λ (c : CellValue). c.never_poison) same)

-- ---- ranks

flag_most : (b : Bool) → flag b ≤ 1
unfolding flag
flag_most true = omega arith
flag_most false = omega arith

fact_rank_most : (w : ℕ) (n : Numbers) → IsFact w n → fact_rank w n ≤ 2 * w + 1
unfolding fact_rank
fact_rank_most w n is =
    let bits = known_most w (masks_in n) (fact_cube w n is) in
    let most = flag_most (not (is_same_span (span_in n) (low_span w (masks_in n)))) in
    omega arith

rank_most : (w : ℕ) (o : Option Numbers) (mark : Bool) → AreFacts w o → rank_of w o mark ≤ 2 * w + 3
unfolding rank_of
rank_most w None mark facts = omega arith
rank_most w (Some n) mark facts = let one = fact_rank_most w n (facts n refl) in let most = flag_most mark in omega arith

pub cell_rank_most : (c : CellValue) → IsCell c → cell_rank c ≤ 2 * c.width + 3
cell_rank_most c is = rank_most c.width c.numbers c.never_poison is.fact

-- a mark that is lost
lost_mark : (w : ℕ) (o : Option Numbers) (a b : Bool) → (o ≡ None → a ≡ false) → ((a && b) ≡ a) ⊎ (rank_of w o (a && b) < rank_of w o a)
unfolding rank_of flag
lost_mark w o false b none = inl refl
lost_mark w o true true none = inl refl
lost_mark w None true false none = absurd (true≢false (none refl))
lost_mark w (Some n) true false none = inr (omega arith)

fewer_marks : (a b : Bool) → flag (a && b) ≤ flag a
unfolding flag
fewer_marks true b = flag_most b
fewer_marks false b = omega arith

joined_some : (w : ℕ) (old : Numbers) (n : Option Numbers) → IsFact w old → AreFacts w n → joined_numbers w (Some old) n ≡ None → ⊥
unfolding in_option
joined_some w old n is two none =
    true≢false (sym (both_left w (Some old) n (λ k e. subst (IsFact w) (of_some old k e) is) two old.first is.first_in)
    ∙ ap (λ (o : Option Numbers). in_option w o old.first) none)

old_or_less : (w round : ℕ) (marks : List ℕ) (old j : Numbers) (a b : Bool) → IsFact w old → IsFact w j → Within w old j → first_falling_round ≤ round →
    (widened_fact w round marks old j ≡ Some old) ⊎ (rank_of w (widened_fact w round marks old j) (a && b) < rank_of w (Some old) a)
unfolding rank_of
old_or_less w round marks old j a b is is' within late = elim (numbers_cases (widened_fact w round marks old j)) [
  | inl none ↦ absurd (widened_some w old j is is' round marks none)
  | inr some ↦ elim (fact_falls w old j is is' within round marks some.0 late some.1) [
    | inl same ↦ inl (some.1 ∙ ap Some same)
    | inr less ↦ inr (subst (λ (o : Option Numbers). rank_of w o (a && b) < rank_of w (Some old) a) (sym some.1)
        (let mark = fewer_marks a b in omega arith))
  ]
]

-- the numbers stay, or their rank falls whatever the marks
numbers_fall : (w round : ℕ) (marks : List ℕ) (m n : Option Numbers) (a b : Bool) → AreFacts w m → AreFacts w n → first_falling_round ≤ round →
    (widened_numbers w round marks m (joined_numbers w m n) ≡ m) ⊎ (rank_of w (widened_numbers w round marks m (joined_numbers w m n)) (a && b) < rank_of w m a)
unfolding widened_numbers rank_of
numbers_fall w round marks None None a b one two late = inl refl
numbers_fall w round marks None (Some k) a b one two late =
    inr (let most = fact_rank_most w k (two k refl) in let mark = flag_most (a && b) in omega arith)
numbers_fall w round marks (Some old) n a b one two late =
    elim (numbers_cases (joined_numbers w (Some old) n)) [
      | inl none ↦ absurd (joined_some w old n (one old refl) two none)
      | inr some ↦
          subst (λ (o : Option Numbers). (widened_numbers w round marks (Some old) o ≡ Some old) ⊎ (rank_of w (widened_numbers w round marks (Some old) o) (a && b) < rank_of w (Some old) a))
          (sym some.1) (old_or_less w round marks old some.0 a b (one old refl) (both_facts w (Some old) n one two some.0 some.1) (within_join w old some.0 n one two some.1) late)
    ]

pub cell_falls : (round : ℕ) (marks : List ℕ) (a b : CellValue) → IsCell a → IsCell b → a.width ≡ b.width → first_falling_round ≤ round →
    (widened_cells round marks a b ≡ a) ⊎ (cell_rank (widened_cells round marks a b) < cell_rank a)
cell_falls round marks a b left right widths late =
    elim (numbers_fall a.width round marks a.numbers b.numbers a.never_poison b.never_poison left.fact (facts_at a b right widths) late) [
      | inr less ↦ inr less
      | inl same ↦ elim (lost_mark a.width a.numbers a.never_poison b.never_poison left.unmarked) [
        | inl marks' ↦ inl (same_cell a (widened_numbers a.width round marks a.numbers (joined_numbers a.width a.numbers b.numbers)) (a.never_poison && b.never_poison) same marks')
        | inr less ↦ inr (subst (λ (o : Option Numbers). rank_of a.width o (a.never_poison && b.never_poison) < rank_of a.width a.numbers a.never_poison) (sym same) less)
      ]
    ]

-- ---- what a cell holds of in place of another

-- it has each number of the other, and a mark only where the other has one
pub record Covers (c a : CellValue) : Type 0 where
  pub numbers : (x : ℕ) → in_cell a x ≡ true → in_cell c x ≡ true
  pub mark : a.never_poison ≡ false → c.never_poison ≡ false

first_unmarked : (a b : Bool) → a ≡ false → (a && b) ≡ false
first_unmarked a b e = grind arith

second_unmarked : (a b : Bool) → b ≡ false → (a && b) ≡ false
second_unmarked a b e = grind arith

pub join_covers_first : (a b : CellValue) → IsCell a → IsCell b → a.width ≡ b.width → Covers (joined_cells a b) a
join_covers_first a b left right same = record {
  numbers = joined_left a b left right same;
  mark = first_unmarked a.never_poison b.never_poison;
}

pub join_covers_second : (a b : CellValue) → IsCell a → IsCell b → a.width ≡ b.width → Covers (joined_cells a b) b
join_covers_second a b left right same = record {
  numbers = joined_right a b left right same;
  mark = second_unmarked a.never_poison b.never_poison;
}

pub widen_covers_first : (round : ℕ) (marks : List ℕ) (a b : CellValue) → IsCell a → IsCell b → a.width ≡ b.width → Covers (widened_cells round marks a b) a
widen_covers_first round marks a b left right same = record {
  numbers = widened_first round marks a b left right same;
  mark = first_unmarked a.never_poison b.never_poison;
}

pub widen_covers_second : (round : ℕ) (marks : List ℕ) (a b : CellValue) → IsCell a → IsCell b → a.width ≡ b.width → Covers (widened_cells round marks a b) b
widen_covers_second round marks a b left right same = record {
  numbers = widened_second round marks a b left right same;
  mark = second_unmarked a.never_poison b.never_poison;
}

no_mark : (a b : Bool) → (not a || b) ≡ true → b ≡ false → a ≡ false
no_mark a b e f = grind arith

pub includes_covers : (a b : CellValue) → IsCell a → IsCell b → a.width ≡ b.width →
    (includes a.width (in_cell a) (in_cell b) && (not a.never_poison || b.never_poison)) ≡ true → Covers a b
includes_covers a b left right same answer =
    let parts = and_parts (includes a.width (in_cell a) (in_cell b)) (not a.never_poison || b.never_poison) answer in
    record {
      numbers = λ x member. includes_tells a.width (in_cell a) (in_cell b) parts.0 x
          (let fits = cell_fits b x member in let power = ap (λ w. 2 ^ w) same in omega arith) member;
      mark = no_mark a.never_poison b.never_poison parts.1;
    }

-- ---- restrictions

module _ (w : ℕ) (wanted : ℕ → Bool) where
  kept_facts : (m : Option Numbers) → AreFacts w m → AreFacts w (kept_numbers w wanted m)
  unfolding kept_of
  kept_facts None facts n is = absurd (some_apart n is)
  kept_facts (Some a) facts n is = sharp_in_fact w (span_in a) (meet (in_numbers w a) wanted) ((facts a refl).arc) n is

  kept_has : (m : Option Numbers) → AreFacts w m → (x : ℕ) → in_option w m x ≡ true → wanted x ≡ true → in_option w (kept_numbers w wanted m) x ≡ true
  unfolding in_option kept_of
  kept_has None facts x member want = absurd (true≢false (sym member))
  kept_has (Some a) facts x member want =
      sharp_in_has w (span_in a) (meet (in_numbers w a) wanted) ((facts a refl).arc) (kept_of w a wanted) refl x (in_numbers_fits w a x member)
      (numbers_parts w a x member).1 (meet_from (in_numbers w a) wanted x member want)

marked_part : (w : ℕ) (o : Option Numbers) → IsWidth w → AreFacts w o → (c : CellValue) → option_map (marked w) o ≡ Some c → IsCell c × (c.width ≡ w)
marked_part w None width facts c is = absurd (cc)
marked_part w (Some n) width facts c is =
    let same : marked w n ≡ c = of_cell (marked w n) c is in
    subst (λ (d : CellValue). IsCell d × (d.width ≡ w)) same
    (record { width = width; fact = λ k e. facts k e; unmarked = λ none. absurd (some_apart n (sym none)) }, refl)
  where
    of_cell : (a b : CellValue) → Some a ≡ Some b → a ≡ b
    of_cell a b e = cc

marked_has : (w : ℕ) (o : Option Numbers) (x : ℕ) → in_option w o x ≡ true → IsSomeAnd (option_map (marked w) o) (λ c. IsTrue (in_cell c x))
unfolding in_option
marked_has w None x member = absurd (true≢false (sym member))
marked_has w (Some n) x member = member

pub kept_part : (wanted : ℕ → Bool) (a c : CellValue) → IsCell a → kept_cell wanted a ≡ Some c → IsCell c × (c.width ≡ a.width)
kept_part wanted a c is some = marked_part a.width (kept_numbers a.width wanted a.numbers) is.width (kept_facts a.width wanted a.numbers is.fact) c some

pub kept_cell_has : (wanted : ℕ → Bool) (a : CellValue) → IsCell a → (x : ℕ) → in_cell a x ≡ true → wanted x ≡ true → IsSomeAnd (kept_cell wanted a) (λ c. IsTrue (in_cell c x))
kept_cell_has wanted a is x member want =
    marked_has a.width (kept_numbers a.width wanted a.numbers) x (kept_has a.width wanted a.numbers is.fact x member want)

-- where the sum's cell has no numbers, nothing is left
moved_facts : (w c : ℕ) (sums m : Option Numbers) → AreFacts w m → AreFacts w (moved_numbers w c sums m)
moved_facts w c None m facts n is = absurd (some_apart n is)
moved_facts w c (Some s) m facts n is = kept_facts w (lands_in w c (span_in s)) m facts n is

moved_has : (w c : ℕ) (sums m : Option Numbers) → AreFacts w m → (x : ℕ) → in_option w m x ≡ true → in_option w sums ((x + c) % 2 ^ w) ≡ true →
    in_option w (moved_numbers w c sums m) x ≡ true
unfolding in_option lands_in
moved_has w c None m facts x member lands = absurd (true≢false (sym lands))
moved_has w c (Some s) m facts x member lands =
    kept_has w (lands_in w c (span_in s)) m facts x member ((numbers_parts w s ((x + c) % 2 ^ w) lands).1)

pub moved_part : (c : ℕ) (sums a d : CellValue) → IsCell a → cell_moved c sums a ≡ Some d → IsCell d × (d.width ≡ a.width)
moved_part c sums a d is some = marked_part a.width (moved_numbers a.width c sums.numbers a.numbers) is.width (moved_facts a.width c sums.numbers a.numbers is.fact) d some

pub moved_cell_has : (c : ℕ) (sums a : CellValue) → IsCell a → sums.width ≡ a.width → (x : ℕ) → in_cell a x ≡ true → in_cell sums ((x + c) % 2 ^ a.width) ≡ true →
    IsSomeAnd (cell_moved c sums a) (λ d. IsTrue (in_cell d x))
moved_cell_has c sums a is same x member lands =
    marked_has a.width (moved_numbers a.width c sums.numbers a.numbers) x
    (moved_has a.width c sums.numbers a.numbers is.fact x member (ap (λ (w : ℕ). in_option w sums.numbers ((x + c) % 2 ^ a.width)) (sym same) ∙ lands))

compared_facts : (w : ℕ) (pred : Pred) (m n : Option Numbers) → AreFacts w m → AreFacts w (compared_numbers w pred m n)
unfolding restrict_of
compared_facts w pred None n one k is = absurd (some_apart k is)
compared_facts w pred (Some m) None one k is = absurd (some_apart k is)
compared_facts w pred (Some m) (Some n) one k is =
    sharp_in_fact w (span_in m) (meet (in_numbers w m) (partners w (satisfies w pred) (in_numbers w n))) ((one m refl).arc) k is

pub compared_part : (pred : Pred) (a b c : CellValue) → IsCell a → compared_cells pred a b ≡ Some c → IsCell c × (c.width ≡ a.width)
compared_part pred a b c is some =
    marked_part a.width (compared_numbers a.width pred a.numbers b.numbers) is.width (compared_facts a.width pred a.numbers b.numbers is.fact) c some
