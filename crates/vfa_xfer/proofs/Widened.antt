-- A widening, as the code makes it.
use Rattle.std.proofs.Common.{◌≡◌, ℕ, ◌≤◌, Bool, true, false, ◌||◌, ◌&&◌, List, Option, Some, None, sym, ◌∙◌, ap, refl, nat_lt, arith}
use Rattle.std.specs.Option.{is_some}
use Rattle.std.proofs.lemmas.Bool.{le-ltb}
use Rattle.vfa_wrap.specs.Arc.{Span}
use Rattle.vfa_fact.specs.declared.numbers.Numbers.{Numbers}
use Rattle.vfa_fact.specs.Cells.{CellValue, IsCell, cell_of, joined_numbers}
use Rattle.vfa_fact.specs.Join.{join_of}
use Rattle.vfa_fact.proofs.JoinedCells.{both_again}
use Rattle.vfa_xfer.specs.CellLaws.{wide_again}
use Rattle.vfa_fact.specs.Fact.{masks_in, span_in}
use Rattle.vfa_xfer.specs.Widening.{first_landmark_round, is_same_span, low_in, reached_span, widened_fact, widened_numbers, widened_cells}
use Rattle.vfa_xfer.specs.WideningLaws.{widened_to_low, widened_same}

neither : (a b : Bool) → a ≡ false → b ≡ false → (a || b) ≡ false
neither a b e f = grind arith

-- an arc that is another one goes on
pub goes_on : (w round : ℕ) (marks : List ℕ) (old joined : Numbers) (s t r : Span) (b : Bool) (o : Option Numbers) →
    s ≡ span_in joined → t ≡ span_in old → b ≡ is_same_span s t → b ≡ false → first_landmark_round ≤ round →
    r ≡ reached_span w round marks t s → o ≡ low_in w r (masks_in joined) → o ≡ widened_fact w round marks old joined
goes_on w round marks old joined s t r b o es et eb other late er eo =
    let spans : is_same_span (span_in joined) (span_in old) ≡ false = ap (λ (x : Span). is_same_span x (span_in old)) (sym es) ∙ ap (is_same_span s) (sym et) ∙ sym eb ∙ other in
    let reach : r ≡ reached_span w round marks (span_in old) (span_in joined) = er ∙ ap (λ (x : Span). reached_span w round marks x s) et ∙ ap (reached_span w round marks (span_in old)) es in
    eo ∙ ap (λ (x : Span). low_in w x (masks_in joined)) reach
    ∙ sym (widened_to_low w round marks old joined (neither (nat_lt round first_landmark_round) _ (le-ltb round first_landmark_round late) spans))

-- ---- cells

no_mark : (b : Bool) → (b && false) ≡ false
no_mark true = refl
no_mark false = refl

pub made_cell : (r : CellValue) (w : ℕ) (o : Option Numbers) (m : Bool) → r.width ≡ w → r.numbers ≡ o → r.never_poison ≡ m →
    r ≡ record { width = w; numbers = o; never_poison = m }
made_cell r w o m ew eo em =
    ap (λ (n : ℕ). record { width = n; numbers = r.numbers; never_poison = r.never_poison }) ew
    ∙ ap (λ (n : Option Numbers). record { width = w; numbers = n; never_poison = r.never_poison }) eo
    ∙ ap (λ (n : Bool). record { width = w; numbers = o; never_poison = n }) em

-- where the old cell has no numbers, the new ones are left
pub none_widened : (round : ℕ) (marks : List ℕ) (a b : CellValue) → IsCell a → a.width ≡ b.width → None ≡ a.numbers → cell_of b.width b.numbers false ≡ widened_cells round marks a b
unfolding widened_numbers
none_widened round marks a b is same none =
    made_cell (cell_of b.width b.numbers false) a.width (widened_numbers a.width round marks a.numbers (joined_numbers a.width a.numbers b.numbers)) (a.never_poison && b.never_poison)
    (sym same) (ap (λ (o : Option Numbers). widened_numbers a.width round marks o (joined_numbers a.width o b.numbers)) none)
    (no_mark (is_some b.numbers) ∙ sym (ap (λ (m : Bool). m && b.never_poison) (is.unmarked (sym none))))

widened_of_none : (w round : ℕ) (marks : List ℕ) → ◌≡◌ {A = Option Numbers} None (widened_numbers w round marks None None)
unfolding widened_numbers
widened_of_none w round marks = refl

widened_alone : (w round : ℕ) (marks : List ℕ) (n : Numbers) → Some n ≡ widened_numbers w round marks (Some n) (Some n)
unfolding widened_numbers
widened_alone w round marks n = sym (widened_same w round marks n)

-- where the new one has none, the old ones
pub widened_none : (round : ℕ) (marks : List ℕ) (a b : CellValue) → IsCell b → None ≡ b.numbers → cell_of a.width a.numbers false ≡ widened_cells round marks a b
widened_none round marks a b is none =
    made_cell (cell_of a.width a.numbers false) a.width (widened_numbers a.width round marks a.numbers (joined_numbers a.width a.numbers b.numbers)) (a.never_poison && b.never_poison)
    refl (alone a.width a.numbers ∙ ap (λ (o : Option Numbers). widened_numbers a.width round marks a.numbers (joined_numbers a.width a.numbers o)) none)
    (no_mark (is_some a.numbers) ∙ sym (no_mark a.never_poison) ∙ ap (λ (m : Bool). a.never_poison && m) (sym (is.unmarked (sym none))))
  where
    alone : (w : ℕ) (o : Option Numbers) → o ≡ widened_numbers w round marks o (joined_numbers w o None)
    alone w None = widened_of_none w round marks
    alone w (Some n) = widened_alone w round marks n

pub both_widened : (round : ℕ) (marks : List ℕ) (a b r : CellValue) (w : ℕ) (m n j k : Numbers) (mark : Bool) → a.width ≡ w → Some m ≡ a.numbers → Some n ≡ b.numbers →
    Some j ≡ join_of w m n → Some k ≡ widened_fact w round marks m j → r.width ≡ w → r.numbers ≡ Some k → r.never_poison ≡ mark → mark ≡ (a.never_poison && b.never_poison) →
    r ≡ widened_cells round marks a b
unfolding widened_numbers
both_widened round marks a b r w m n j k mark ew em en ej ek er ern erm emark =
    made_cell r a.width (widened_numbers a.width round marks a.numbers (joined_numbers a.width a.numbers b.numbers)) (a.never_poison && b.never_poison)
    (er ∙ sym ew)
    (ern ∙ ek ∙ ap (λ (o : Option Numbers). widened_numbers w round marks (Some m) o) ej
    ∙ ap (λ (v : ℕ). widened_numbers v round marks (Some m) (joined_numbers v (Some m) (Some n))) (sym ew)
    ∙ ap (λ (o : Option Numbers). widened_numbers a.width round marks o (joined_numbers a.width o (Some n))) em
    ∙ ap (λ (o : Option Numbers). widened_numbers a.width round marks a.numbers (joined_numbers a.width a.numbers o)) en)
    (erm ∙ emark)

-- cells with the same numbers
pub same_widened : (round : ℕ) (marks : List ℕ) (a b : CellValue) (mark : Bool) → IsCell a → a.numbers ≡ b.numbers → mark ≡ (a.never_poison && b.never_poison) →
    cell_of a.width a.numbers mark ≡ widened_cells round marks a b
same_widened round marks a b mark is same em =
    made_cell (cell_of a.width a.numbers mark) a.width (widened_numbers a.width round marks a.numbers (joined_numbers a.width a.numbers b.numbers)) (a.never_poison && b.never_poison)
    refl
    (sym (wide_again a.width round marks a.numbers (joined_numbers a.width a.numbers a.numbers) (sym (both_again a.width a.numbers a.numbers is.fact refl)))
    ∙ ap (λ (o : Option Numbers). widened_numbers a.width round marks a.numbers (joined_numbers a.width a.numbers o)) same)
    (some_mark a.numbers a.never_poison b.never_poison mark is.unmarked em)
  where
    some_mark : (o : Option Numbers) (p q mark : Bool) → (o ≡ None → p ≡ false) → mark ≡ (p && q) → (is_some o && mark) ≡ (p && q)
    some_mark (Some n) p q mark none e = e
    some_mark None p q mark none e = sym (ap (λ (m : Bool). m && q) (none refl))
