-- Lines show the digits, the arc and the mark.
use Rattle.std.proofs.Common.{◌≡◌, ◌↔◌, ℕ, zero, suc, ◌+◌, ◌-◌, ◌%◌, ◌^◌, ◌<◌, Bool, true, false, cond, IsTrue, ◌&&◌, nat_eq, List, ◌++◌, length, Option, Some, None, codes, decimal, sym, ap, subst, refl, arith, ◌∙◌, ⊎_elim, ◌⊎◌, inl, inr}
use Rattle.std.specs.Prelude.{slice_index}
use Rattle.std.specs.Int.{bit_at}
use Rattle.std.proofs.lemmas.Bool.{cases_eq, cases_lt, eq-eqb, ne_eqb, eqb-true, and_parts, and_from, both_ways}
use Rattle.std.proofs.Math.Nat.{mod-eq_of_lt, mod_self}
use Rattle.std.proofs.lemmas.Nat.{mod_below}
use Rattle.std.proofs.lemmas.Nat.Bits.{bit_at-lt}
use Rattle.vfa_dom.specs.Best.{IsBest, best_of}
use Rattle.vfa_dom.proofs.Bests.{best_has}
use Rattle.vfa_wrap.specs.Arc.{steps, in_span, IsArc}
use Rattle.vfa_wrap.proofs.Circle.{steps_is, in_from, in_to}
use Rattle.vfa_fact.specs.Cells.{CellValue, IsCell}
use Rattle.vfa_fact.specs.Fact.{in_numbers, span_in, IsFact, in_numbers_fits}
use Rattle.vfa_fact.specs.declared.cell.Parts.{Parts}
use Rattle.vfa_fact.specs.declared.numbers.Numbers.{Numbers}
use Rattle.vfa_fact.proofs.SharpSets.{Member, member_test}
use Rattle.vfa_xfer.specs.AnyFacts.{AreCells}
use Rattle.vfa_report.specs.FactLines.{bit_letter, bits_text, range_text, cell_line, fact_lines}
use Rattle.vfa_report.specs.Showing.{SomeHas, EachHas, ShowsBits, ShowsRange, ShowsMark, ShowsCell, ShowFact}

-- ---- the bits

pub bits_long : (n : Numbers) (k : ℕ) → length (bits_text n k) ≡ k
bits_long n zero = refl
bits_long n (suc k) = ap suc (bits_long n k)

letter_at : (n : Numbers) (k i : ℕ) → i < k → slice_index (bits_text n k) (k - 1 - i) ≡ bit_letter n i
letter_at n zero i less = let no : ⊥ = omega arith in absurd no
letter_at n (suc k) i less =
    ⊎_elim
    (λ same. let first : suc k - 1 - i ≡ zero = omega arith in ap (slice_index (bits_text n (suc k))) first ∙ ap (bit_letter n) (sym same))
    (λ other. let later : suc k - 1 - i ≡ suc (k - 1 - i) = omega arith in ap (slice_index (bits_text n (suc k))) later ∙ letter_at n k i (omega arith))
    (cases_eq i k)

-- which letter stands there, and what the masks say
data Letter (zeros ones letter : ℕ) : Type 0 where
  zero_known : zeros ≡ 1 → letter ≡ 48 → Letter zeros ones letter
  one_known : ones ≡ 1 → letter ≡ 49 → Letter zeros ones letter
  unknown : zeros ≡ 0 → ones ≡ 0 → letter ≡ 63 → Letter zeros ones letter

letter_of : (n : Numbers) (i : ℕ) → Letter (bit_at n.zeros i) (bit_at n.ones i) (bit_letter n i)
letter_of n i =
    let z = bit_at n.zeros i in let o = bit_at n.ones i in
    let small = bit_at-lt n.zeros i in let low = bit_at-lt n.ones i in
    ⊎_elim
    (λ h. zero_known h (ap (λ b. cond b 48 (cond (nat_eq o 1) 49 63)) (eq-eqb z 1 h)))
    (λ h.
    let past : bit_letter n i ≡ cond (nat_eq o 1) 49 63 = ap (λ b. cond b 48 (cond (nat_eq o 1) 49 63)) (ne_eqb z 1 h) in
    ⊎_elim
    (λ k. one_known k (past ∙ ap (λ b. cond b 49 63) (eq-eqb o 1 k)))
    (λ k. unknown (omega (arith, h)) (omega (arith, k)) (past ∙ ap (λ b. cond b 49 63) (ne_eqb o 1 k)))
    (cases_eq o 1))
    (cases_eq z 1)

-- which of the three holds of the set
record Tells (S : ℕ → Bool) (i letter : ℕ) : Type 0 where
  zero : letter ≡ 48 ↔ EachHas S 0 i
  one : letter ≡ 49 ↔ EachHas S 1 i
  unknown : letter ≡ 63 ↔ (SomeHas S 0 i × SomeHas S 1 i)

best_of_has : (w : ℕ) (S : ℕ → Bool) → IsBest w (Member w S) (best_of w S).zeros (best_of w S).ones
unfolding best_of
best_of_has w S = best_has w (Member w S) S (member_test w S)

module _ (w : ℕ) (n : Numbers) (is : IsFact w n) where
  best : IsBest w (Member w (in_numbers w n)) n.zeros n.ones
  best = subst (λ m. IsBest w (Member w (in_numbers w n)) m.zeros m.ones) (sym is.best) (best_of_has w (in_numbers w n))

  member : (x : ℕ) → IsTrue (in_numbers w n x) → Member w (in_numbers w n) x
  member x h = record { fits = in_numbers_fits w n x h; is = h }

  -- both digits can't be those of all numbers, since there is one
  not_both : (i : ℕ) → EachHas (in_numbers w n) 0 i → EachHas (in_numbers w n) 1 i → ⊥
  not_both i zeros ones = let a = zeros n.first is.first_in in let b = ones n.first is.first_in in omega arith

  differ : (i digit other : ℕ) → (digit ≡ other → ⊥) → EachHas (in_numbers w n) digit i → SomeHas (in_numbers w n) other i → ⊥
  differ i digit other apart each some = apart (sym (each some.0 some.1) ∙ some.2)

  tells : (i letter : ℕ) → i < w → Letter (bit_at n.zeros i) (bit_at n.ones i) letter → Tells (in_numbers w n) i letter
  tells i letter less (zero_known z l) =
      let each : EachHas (in_numbers w n) 0 i = λ x h. best.zero x i (member x h) z in
      record {
        zero = (λ _. each, λ _. l);
        one = (λ e. let no : ⊥ = omega arith in absurd no, λ ones. absurd (not_both i each ones));
        unknown = (λ e. let no : ⊥ = omega arith in absurd no, λ both. absurd (differ i 0 1 (λ e. omega arith) each both.1));
      }
  tells i letter less (one_known o l) =
      let each : EachHas (in_numbers w n) 1 i = λ x h. best.one x i (member x h) o in
      record {
        zero = (λ e. let no : ⊥ = omega arith in absurd no, λ zeros. absurd (not_both i zeros each));
        one = (λ _. each, λ _. l);
        unknown = (λ e. let no : ⊥ = omega arith in absurd no, λ both. absurd (differ i 1 0 (λ e. omega arith) each both.0));
      }
  tells i letter less (unknown z o l) =
      let some_one = best.some_one i less z in
      let some_zero = best.some_zero i less o in
      let ones : SomeHas (in_numbers w n) 1 i = (some_one.0, some_one.1.is, some_one.2) in
      let zeros : SomeHas (in_numbers w n) 0 i = (some_zero.0, some_zero.1.is, some_zero.2) in
      record {
        zero = (λ e. let no : ⊥ = omega arith in absurd no, λ each. absurd (differ i 0 1 (λ e. omega arith) each ones));
        one = (λ e. let no : ⊥ = omega arith in absurd no, λ each. absurd (differ i 1 0 (λ e. omega arith) each zeros));
        unknown = (λ _. (zeros, ones), λ _. l);
      }

  at : (i : ℕ) → i < w → Tells (in_numbers w n) i (slice_index (bits_text n w) (w - 1 - i))
  at i less = subst (Tells (in_numbers w n) i) (sym (letter_at n w i less)) (tells i (bit_letter n i) less (letter_of n i))

  pub shows_bits : ShowsBits w (in_numbers w n) (bits_text n w)
  shows_bits = record {
    long = bits_long n w;
    zero = λ i less. (at i less).zero;
    one = λ i less. (at i less).one;
    unknown = λ i less. (at i less).unknown;
  }

-- ---- the range

-- the number after the last, round the circle
after_last : (m last : ℕ) → last < m → ((last + 1 < m) × ((last + 1) % m ≡ last + 1)) ⊎ ((last + 1 ≡ m) × ((last + 1) % m ≡ 0))
after_last m last fits =
    ⊎_elim
    (λ less. inl (less, mod-eq_of_lt less))
    (λ no. let whole : last + 1 ≡ m = omega arith in inr (whole, ap (λ k. k % m) whole ∙ mod_self m))
    (cases_lt (last + 1) m)

-- it lies one step behind the last number
one_step : (w first last : ℕ) → first < 2 ^ w → last < 2 ^ w → (steps w first last + 1 ≡ 2 ^ w → ⊥) → steps w first ((last + 1) % 2 ^ w) ≡ steps w first last + 1
one_step w first last f l short =
    let to = steps_is w first last f l in
    ⊎_elim
    (λ h. let on = steps_is w first (last + 1) f h.0 in ap (steps w first) h.1 ∙ grind (arith, to, on))
    (λ h. let on = steps_is w first 0 f (omega arith) in ap (steps w first) h.1 ∙ grind (arith, to, on, h.0))
    (after_last (2 ^ w) last l)

module _ (w : ℕ) (n : Numbers) (arc : IsArc w (span_in n)) where
  range_by : (b : Bool) → (nat_eq n.first 0 && nat_eq n.last (2 ^ w - 1)) ≡ b → ShowsRange w (in_span w (span_in n)) (range_text w n)
  range_by true e =
      let both = and_parts (nat_eq n.first 0) (nat_eq n.last (2 ^ w - 1)) e in
      let first : n.first ≡ 0 = eqb-true n.first 0 both.0 in
      let last : n.last ≡ 2 ^ w - 1 = eqb-true n.last (2 ^ w - 1) both.1 in
      let all : (x : ℕ) → x < 2 ^ w → IsTrue (in_span w (span_in n) x) =
      λ x h.
      let to = steps_is w n.first x arc.first_fits h in
      let end = steps_is w n.first n.last arc.first_fits arc.last_fits in
      in_to w (span_in n) x h (grind (arith, to, end, first, last)) in
      subst (ShowsRange w (in_span w (span_in n))) (ap (λ c. cond c (codes "full") (codes "[" ++ (decimal n.first ++ (codes "," ++ (decimal ((n.last + 1) % 2 ^ w) ++ codes ")"))))) (sym e)) (ShowsRange.full all)
  range_by false e =
      let short : steps w n.first n.last + 1 ≡ 2 ^ w → ⊥ =
      λ whole.
      let first = arc.normal whole in
      let end = steps_is w n.first n.last arc.first_fits arc.last_fits in
      let last : n.last ≡ 2 ^ w - 1 = grind (arith, end, first, whole) in
      let yes : (nat_eq n.first 0 && nat_eq n.last (2 ^ w - 1)) ≡ true = and_from (nat_eq n.first 0) (nat_eq n.last (2 ^ w - 1)) (eq-eqb n.first 0 first) (eq-eqb n.last (2 ^ w - 1) last) in
      both_ways false refl (sym e ∙ yes) in
      let step = one_step w n.first n.last arc.first_fits arc.last_fits short in
      let fits : (n.last + 1) % 2 ^ w < 2 ^ w = mod_below (n.last + 1) (2 ^ w) (omega (arith, arc.first_fits)) in
      let within : (x : ℕ) → x < 2 ^ w → IsTrue (in_span w (span_in n) x) ↔ (steps w n.first x < steps w n.first ((n.last + 1) % 2 ^ w)) =
      λ x h. (
        (λ is. let less = (in_from w (span_in n) x is).1 in omega (arith, step, less)),
        λ less. in_to w (span_in n) x h (omega (arith, step, less)),
      ) in
      subst (ShowsRange w (in_span w (span_in n))) (ap (λ c. cond c (codes "full") (codes "[" ++ (decimal n.first ++ (codes "," ++ (decimal ((n.last + 1) % 2 ^ w) ++ codes ")"))))) (sym e)) (ShowsRange.between n.first ((n.last + 1) % 2 ^ w) arc.first_fits fits within)

  pub shows_range : ShowsRange w (in_span w (span_in n)) (range_text w n)
  shows_range = range_by (nat_eq n.first 0 && nat_eq n.last (2 ^ w - 1)) refl

-- ---- the mark, and whole lines

apart : (x y : List ℕ) → (slice_index x 0 ≡ slice_index y 0 → ⊥) → x ≡ y → ⊥
apart x y differ e = differ (ap (λ l. slice_index l 0) e)

shows_mark : (never_poison : Bool) → ShowsMark never_poison (cond never_poison (codes "never-poison") (codes "maybe-poison"))
shows_mark true = record {
  never = (λ _. refl, λ _. refl);
  maybe = (λ e. absurd (apart (codes "never-poison") (codes "maybe-poison") (λ d. omega arith) e), λ e. absurd (both_ways false refl (sym e)));
}
shows_mark false = record {
  never = (λ e. absurd (apart (codes "maybe-poison") (codes "never-poison") (λ d. omega arith) e), λ e. absurd (both_ways false refl e));
  maybe = (λ _. refl, λ _. refl);
}

cell_by : (shown : List ℕ) (w : ℕ) (numbers : Option Numbers) (mark : Bool) → IsCell (record { width = w; numbers = numbers; never_poison = mark }) → ShowsCell shown (record { width = w; numbers = numbers; never_poison = mark }) (cell_line shown (record { width = w; numbers = numbers; never_poison = mark }))
cell_by shown w None mark is = refl
cell_by shown w (Some n) mark is =
    let fact = is.fact n refl in
    record {
      bits = bits_text n w;
      range = range_text w n;
      mark = cond mark (codes "never-poison") (codes "maybe-poison");
      words = refl;
      shows_bits = shows_bits w n fact;
      shows_range = shows_range w n fact.arc;
      shows_mark = shows_mark mark;
    }

pub shows_cell : (shown : List ℕ) (c : CellValue) → IsCell c → ShowsCell shown c (cell_line shown c)
shows_cell shown c is = cell_by shown c.width c.numbers c.never_poison is

pub shows_one : (shown : List ℕ) (c : CellValue) → IsCell c → ShowFact shown (Parts.One c) (fact_lines shown (Parts.One c))
shows_one shown c is = (cell_line shown c, refl, shows_cell shown c is)

pub shows_two : (shown : List ℕ) (c d : CellValue) → IsCell c → IsCell d → ShowFact shown (Parts.Two c d) (fact_lines shown (Parts.Two c d))
shows_two shown c d first second =
    (cell_line (shown ++ codes "[0]") c, cell_line (shown ++ codes "[1]") d, refl, shows_cell (shown ++ codes "[0]") c first, shows_cell (shown ++ codes "[1]") d second)

pub shows_fact : (shown : List ℕ) (parts : Parts) → AreCells parts → ShowFact shown parts (fact_lines shown parts)
shows_fact shown (Parts.One c) is = shows_one shown c is
shows_fact shown (Parts.Two c d) is = shows_two shown c d is.0 is.1
