-- The join of cells, and what a comparison leaves of a cell.
use Rattle.std.proofs.Common.{◌≡◌, ℕ, ◌+◌, ◌^◌, Bool, true, ◌&&◌, sym, ◌∙◌, ap, subst, refl, arith, inl, inr, Option, Some, None, bit_and}
use Rattle.std.specs.Prelude.{IsTrue, IsSomeAnd, IfSome}
use Rattle.std.specs.Option.{option_map}
use Rattle.std.proofs.lemmas.Bool.{cases_eq, true≢false}
use Rattle.std.proofs.lemmas.Bool.Decides.{nat_tests}
use Rattle.std.specs.Int.Bits.{and_self}
use Rattle.vfa_word.specs.Numbers.{IsWidth}
use Rattle.vfa_dom.specs.Best.{Masks}
use Rattle.vfa_dom.specs.Sets.{meet}
use Rattle.vfa_known.specs.Cube.{in_masks}
use Rattle.vfa_known.proofs.Cubes.{in_masks_from, in_masks_at}
use Rattle.vfa_known.proofs.Members.{join_cube, join_left, join_right}
use Rattle.vfa_ir.specs.declared.operations.Pred.{Pred}
use Rattle.vfa_wrap.specs.Arc.{Span, steps, in_span, IsArc, arc_from, hull_of}
use Rattle.vfa_wrap.proofs.ArcSets.{hull_reached}
use Rattle.vfa_wrap.proofs.Circle.{steps_is, from_all, from_part, full_is_arc, part_is_arc, arc_from-steps, arc_from-mod}
use Rattle.vfa_wrap.proofs.SmallestArc.{reach_steps, reach_is, hull_tie}
use Rattle.vfa_fact.specs.declared.numbers.Numbers.{Numbers}
use Rattle.vfa_fact.specs.Cells.{CellValue, IsCell, in_option, in_cell, joined_numbers, joined_cells, compared_numbers, compared_cells, marked}
use Rattle.vfa_fact.specs.Compare.{satisfies, partners, restrict_of}
use Rattle.vfa_fact.specs.Fact.{masks_in, span_in, in_numbers, in_numbers_fits, IsFact}
use Rattle.vfa_fact.specs.Join.{alike, hull_in, join_of}
use Rattle.vfa_fact.specs.Sharp.{sharp_of}
use Rattle.vfa_fact.proofs.Facts.{numbers_parts, fact_cube, arc_again}
use Rattle.vfa_fact.proofs.Joins.{hull_left, hull_right}
use Rattle.vfa_fact.proofs.Restricted.{kept_has}
use Rattle.vfa_fact.proofs.SharpArcs.{sharp_in_fact, sharp_in_has, fact_again}
use Rattle.vfa_fact.proofs.SharpSets.{sharp_alike}

-- ---- the join of two facts

hull_arc : (w : ℕ) (s t : Span) → IsArc w s → IsArc w t → IsArc w (hull_of w (in_span w s) (in_span w t))
hull_arc w s t hs ht =
    let at = hull_reached w s t hs ht in
    subst (IsArc w) (sym at.is) (elim (cases_eq (at.count + 1) (2 ^ w)) [
      | inl full ↦ subst (IsArc w) (from_all w at.start at.count at.start_fits full) (full_is_arc w at.count full)
      | inr part ↦ subst (IsArc w) (from_part w at.start at.count _ at.start_fits at.count_fits part refl) (part_is_arc w at.start at.count _ at.start_fits at.count_fits part refl)
    ])

module _ (w : ℕ) (a b : Numbers) (left : IsFact w a) (right : IsFact w b) where
  joined_arc : IsArc w (hull_in w a b)
  joined_arc = hull_arc w (span_in a) (span_in b) left.arc right.arc

  pub join_fact : (n : Numbers) → join_of w a b ≡ Some n → IsFact w n
  unfolding join_of
  join_fact n is = sharp_in_fact w (hull_in w a b) (in_masks w (alike a b)) joined_arc n is

  pub join_left_has : (o : Option Numbers) → o ≡ join_of w a b → (x : ℕ) → in_numbers w a x ≡ true → in_option w o x ≡ true
  unfolding join_of
  join_left_has o same x member =
      let parts = numbers_parts w a x member in let cube = fact_cube w a left in let other = fact_cube w b right in
      sharp_in_has w (hull_in w a b) (in_masks w (alike a b)) joined_arc o same x (in_numbers_fits w a x member)
      (hull_left w a b (hull_in w a b) x left.arc right.arc refl parts.1)
      (in_masks_from w _ _ (join_cube w (masks_in a) (masks_in b) cube other) x (join_left w (masks_in a) (masks_in b) cube other x (in_masks_at w a.zeros a.ones cube x parts.0)))

  pub join_right_has : (o : Option Numbers) → o ≡ join_of w a b → (x : ℕ) → in_numbers w b x ≡ true → in_option w o x ≡ true
  unfolding join_of
  join_right_has o same x member =
      let parts = numbers_parts w b x member in let cube = fact_cube w a left in let other = fact_cube w b right in
      sharp_in_has w (hull_in w a b) (in_masks w (alike a b)) joined_arc o same x (in_numbers_fits w b x member)
      (hull_right w a b (hull_in w a b) x left.arc right.arc refl parts.1)
      (in_masks_from w _ _ (join_cube w (masks_in a) (masks_in b) cube other) x (join_right w (masks_in a) (masks_in b) cube other x (in_masks_at w b.zeros b.ones other x parts.0)))

  pub join_some : join_of w a b ≡ None → ⊥
  unfolding in_option
  join_some none = true≢false (sym (join_left_has None (sym none) a.first left.first_in))

-- ---- the join of a fact with itself is the fact

reach_again : (w : ℕ) (s : Span) → IsArc w s → reach_steps w s s ≡ steps w s.first s.last
unfolding reach_steps
reach_again w s arc =
    let none = steps_is w s.first s.first arc.first_fits arc.first_fits in
    let all = steps_is w s.first s.last arc.first_fits arc.last_fits in
    grind (arith, nat_tests, none, all)

hull_again : (w : ℕ) (s : Span) → IsArc w s → hull_of w (in_span w s) (in_span w s) ≡ s
hull_again w s arc =
    hull_tie w s.first s s arc arc refl (omega arith)
    ∙ ap (λ k. arc_from w s.first (s.first + k)) (reach_is w s s arc arc ∙ reach_again w s arc)
    ∙ arc_from-steps w s.first s.last arc.first_fits arc.last_fits
    ∙ sym (arc_from-mod w s.first s.last) ∙ arc_again w s arc

swapped : (m s : Bool) → (s && m) ≡ (m && s)
swapped m s = grind arith

alike_again : (n : Numbers) → alike n n ≡ masks_in n
alike_again n = ap (λ z. record { zeros = z; ones = bit_and n.ones n.ones }) (and_self n.zeros) ∙ ap (λ o. record { zeros = n.zeros; ones = o }) (and_self n.ones)

pub join_again : (w : ℕ) (n : Numbers) → IsFact w n → join_of w n n ≡ Some n
unfolding join_of meet in_numbers
join_again w n is =
    ap (λ (s : Span). sharp_of w s.first (meet (in_span w s) (in_masks w (alike n n)))) (hull_again w (span_in n) is.arc)
    ∙ ap (λ (m : Masks). sharp_of w n.first (meet (in_span w (span_in n)) (in_masks w m))) (alike_again n)
    ∙ sharp_alike w n.first (meet (in_span w (span_in n)) (in_masks w (masks_in n))) (in_numbers w n) is.arc.first_fits
    (λ x fits. swapped (in_masks w (masks_in n) x) (in_span w (span_in n) x))
    ∙ fact_again w n is

-- ---- the numbers of two cells

-- the numbers, where there are some, are those of a fact
abbrev pub AreFacts : ℕ → Option Numbers → Type 0
AreFacts w o = (n : Numbers) → o ≡ Some n → IsFact w n

pub both_again : (w : ℕ) (m n : Option Numbers) → AreFacts w m → m ≡ n → m ≡ joined_numbers w m n
both_again w None n facts same = same
both_again w (Some m) (Some n) facts same = sym (join_again w m (facts m refl)) ∙ ap (join_of w m) (of_some m n same)
  where
    of_some : (a b : Numbers) → Some a ≡ Some b → a ≡ b
    of_some a b e = cc
both_again w (Some m) None facts same = absurd (cc)

pub both_facts : (w : ℕ) (m n : Option Numbers) → AreFacts w m → AreFacts w n → AreFacts w (joined_numbers w m n)
both_facts w None n one two = two
both_facts w (Some m) None one two = one
both_facts w (Some m) (Some n) one two = join_fact w m n (one m refl) (two n refl)

pub both_left : (w : ℕ) (m n : Option Numbers) → AreFacts w m → AreFacts w n → (x : ℕ) → in_option w m x ≡ true → in_option w (joined_numbers w m n) x ≡ true
unfolding in_option
both_left w None n one two x member = absurd (true≢false (sym member))
both_left w (Some m) None one two x member = member
both_left w (Some m) (Some n) one two x member = join_left_has w m n (one m refl) (two n refl) (join_of w m n) refl x member

pub both_right : (w : ℕ) (m n : Option Numbers) → AreFacts w m → AreFacts w n → (x : ℕ) → in_option w n x ≡ true → in_option w (joined_numbers w m n) x ≡ true
unfolding in_option
both_right w None n one two x member = member
both_right w (Some m) None one two x member = absurd (true≢false (sym member))
both_right w (Some m) (Some n) one two x member = join_right_has w m n (one m refl) (two n refl) (join_of w m n) refl x member

-- numbers come of a mark: where the join has none, one of the two has none
neither : (w : ℕ) (m n : Option Numbers) → AreFacts w m → AreFacts w n → joined_numbers w m n ≡ None → (m ≡ None) × (n ≡ None)
neither w None n one two none = (refl, none)
neither w (Some m) None one two none = absurd (cc)
neither w (Some m) (Some n) one two none = absurd (join_some w m n (one m refl) (two n refl) none)

pub joined_cell : (a b : CellValue) → IsCell a → IsCell b → a.width ≡ b.width → IsCell (joined_cells a b)
joined_cell a b left right same =
    let facts : AreFacts a.width b.numbers = subst (λ (w : ℕ). AreFacts w b.numbers) (sym same) right.fact in
    record {
      width = left.width;
      fact = both_facts a.width a.numbers b.numbers left.fact facts;
      unmarked = λ none. ap (λ (m : Bool). m && b.never_poison) (left.unmarked ((neither a.width a.numbers b.numbers left.fact facts none).0));
    }

pub joined_left : (a b : CellValue) → IsCell a → IsCell b → a.width ≡ b.width → (x : ℕ) → in_cell a x ≡ true → in_cell (joined_cells a b) x ≡ true
joined_left a b left right same x member =
    both_left a.width a.numbers b.numbers left.fact (subst (λ (w : ℕ). AreFacts w b.numbers) (sym same) right.fact) x member

pub joined_right : (a b : CellValue) → IsCell a → IsCell b → a.width ≡ b.width → (x : ℕ) → in_cell b x ≡ true → in_cell (joined_cells a b) x ≡ true
joined_right a b left right same x member =
    both_right a.width a.numbers b.numbers left.fact (subst (λ (w : ℕ). AreFacts w b.numbers) (sym same) right.fact) x
    (ap (λ w. in_option w b.numbers x) same ∙ member)

-- ---- what a comparison leaves

compared_facts : (w : ℕ) (pred : Pred) (m n : Option Numbers) → AreFacts w m → AreFacts w (compared_numbers w pred m n)
unfolding restrict_of
compared_facts w pred None n one k is = absurd (cc)
compared_facts w pred (Some m) None one k is = absurd (cc)
compared_facts w pred (Some m) (Some n) one k is =
    sharp_in_fact w (span_in m) (meet (in_numbers w m) (partners w (satisfies w pred) (in_numbers w n))) ((one m refl).arc) k is

compared_has : (w : ℕ) (pred : Pred) (m n : Option Numbers) → AreFacts w m → (x y : ℕ) → in_option w m x ≡ true → in_option w n y ≡ true → satisfies w pred x y ≡ true →
    in_option w (compared_numbers w pred m n) x ≡ true
unfolding restrict_of in_option
compared_has w pred None n one x y member other passes = absurd (true≢false (sym member))
compared_has w pred (Some m) None one x y member other passes = absurd (true≢false (sym other))
compared_has w pred (Some m) (Some n) one x y member other passes =
    kept_has w m (in_numbers w n) (satisfies w pred) (restrict_of w pred m (in_numbers w n)) (one m refl) refl x y member (in_numbers_fits w n y other) other passes

-- a cell with numbers that are never poison
marked_cell : (w : ℕ) (o : Option Numbers) → IsWidth w → AreFacts w o → IfSome (option_map (marked w) o) IsCell
marked_cell w None width facts = tt
marked_cell w (Some n) width facts = record {
  width = width;
  fact = λ k is. facts k is;
  unmarked = λ none. absurd (cc);
}

marked_has : (w : ℕ) (o : Option Numbers) (x : ℕ) → in_option w o x ≡ true → IsSomeAnd (option_map (marked w) o) (λ c. IsTrue (in_cell c x))
unfolding in_option
marked_has w None x member = absurd (true≢false (sym member))
marked_has w (Some n) x member = member

pub compared_cell : (pred : Pred) (a b : CellValue) (o : Option CellValue) → IsCell a → o ≡ compared_cells pred a b → IfSome o IsCell
compared_cell pred a b o left same =
    subst (λ (r : Option CellValue). IfSome r IsCell) (sym same)
    (marked_cell a.width (compared_numbers a.width pred a.numbers b.numbers) left.width (compared_facts a.width pred a.numbers b.numbers left.fact))

pub compared_keeps : (pred : Pred) (a b : CellValue) (o : Option CellValue) → IsCell a → a.width ≡ b.width → o ≡ compared_cells pred a b →
    (x y : ℕ) → in_cell a x ≡ true → in_cell b y ≡ true → satisfies a.width pred x y ≡ true → IsSomeAnd o (λ c. IsTrue (in_cell c x))
compared_keeps pred a b o left widths same x y member other passes =
    subst (λ (r : Option CellValue). IsSomeAnd r (λ c. IsTrue (in_cell c x))) (sym same)
    (marked_has a.width (compared_numbers a.width pred a.numbers b.numbers) x
    (compared_has a.width pred a.numbers b.numbers left.fact x y member (ap (λ w. in_option w b.numbers y) widths ∙ other) passes))
