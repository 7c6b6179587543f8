-- Inclusions of the numbers of cells.
use Rattle.std.proofs.Common.{◌≡◌, ℕ, ◌^◌, ◌<◌, true, false, Option, Some, None, sym, ◌∙◌, ap, subst}
use Rattle.std.proofs.lemmas.Bool.{true≢false}
use Rattle.vfa_dom.specs.Sets.{includes}
use Rattle.vfa_dom.proofs.SetSearches.{includes_from, includes_fails}
use Rattle.vfa_fact.specs.declared.numbers.Numbers.{Numbers}
use Rattle.vfa_fact.specs.Cells.{CellValue, IsCell, in_option, in_cell}
use Rattle.vfa_fact.specs.Fact.{in_numbers}
use Rattle.vfa_fact.proofs.CellNumbers.{none_in, some_in}

-- a cell without numbers is included in each
pub none_included : (a b : CellValue) → None ≡ b.numbers → true ≡ includes a.width (in_cell a) (in_cell b)
none_included a b none = sym (includes_from a.width (in_cell a) (in_cell b) (λ x fits member. absurd (true≢false (sym member ∙ none_in b x (sym none)))))

-- and has none of those of a fact
pub none_includes : (a b : CellValue) (n : Numbers) → IsCell b → a.width ≡ b.width → None ≡ a.numbers → Some n ≡ b.numbers → false ≡ includes a.width (in_cell a) (in_cell b)
none_includes a b n is same none some =
    let fact = is.fact n (sym some) in
    sym (includes_fails a.width (in_cell a) (in_cell b) n.first (subst (λ (w : ℕ). n.first < 2 ^ w) (sym same) fact.arc.first_fits)
    (some_in b n n.first (sym some) ∙ fact.first_in) (none_in a n.first (sym none)))

pub both_include : (a b : CellValue) (w : ℕ) (m n : Numbers) → a.width ≡ w → b.width ≡ w → Some m ≡ a.numbers → Some n ≡ b.numbers →
    includes w (in_numbers w m) (in_numbers w n) ≡ includes a.width (in_cell a) (in_cell b)
unfolding in_option
both_include a b w m n ea eb em en =
    ap (λ (o : Option Numbers). includes w (in_option w o) (in_option w (Some n))) em
    ∙ ap (λ (o : Option Numbers). includes w (in_option w a.numbers) (in_option w o)) en
    ∙ ap (λ (v : ℕ). includes w (in_option w a.numbers) (in_option v b.numbers)) (sym eb)
    ∙ ap (λ (v : ℕ). includes v (in_option v a.numbers) (in_option b.width b.numbers)) (sym ea)
