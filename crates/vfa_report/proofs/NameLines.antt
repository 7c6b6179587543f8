-- Lines for names, as they are written piece by piece.
use Rattle.std.proofs.Common.{◌≡◌, ℕ, Option, Some, None, List, [], ◌++◌, flat_map, codes, sym, ap, ◌∙◌}
use Rattle.std.proofs.lemmas.List.{append_assoc, append-nil}
use Rattle.vfa_fact.specs.Cells.{CellValue}
use Rattle.vfa_fact.specs.declared.cell.Parts.{Parts}
use Rattle.vfa_ir.specs.Resolution.{Scope}
use Rattle.vfa_print.specs.Layout.{line_feed, name_text}
use Rattle.vfa_print.specs.Trees.{name_at}
use Rattle.vfa_cond.specs.States.{AbstractState}
use Rattle.vfa_xfer.specs.declared.any_fact.AnyFact.{AnyFact}
use Rattle.vfa_report.specs.FactLines.{cell_line, fact_lines, local_text}
use Rattle.vfa_report.specs.Writing.{lines_at}

-- three texts behind another, where each step says what it put last
pub put_three : (old a b new one two last : List ℕ) → a ≡ old ++ one → b ≡ a ++ two → new ≡ b ++ last → new ≡ old ++ (one ++ (two ++ last))
put_three old a b new one two last p q r =
    r ∙ ap (λ l. l ++ last) (q ∙ ap (λ l. l ++ two) p) ∙ append_assoc (old ++ one) two last ∙ append_assoc old one (two ++ last)

abbrev pub whole : List ℕ → List ℕ → List ℕ
whole before line = before ++ (line ++ line_feed)

pub one_shown : (old new before name : List ℕ) (c : CellValue) (parts : Parts) → new ≡ old ++ whole before (cell_line (local_text name ++ []) c) → parts ≡ Parts.One c →
    new ≡ old ++ flat_map (λ line. before ++ (line ++ line_feed)) (fact_lines (local_text name) parts)
one_shown old new before name c parts put is =
    put
    ∙ ap (λ shown. old ++ whole before (cell_line shown c)) (append-nil (local_text name))
    ∙ ap (λ l. old ++ l) (sym (append-nil (whole before (cell_line (local_text name) c))))
    ∙ ap (λ p. old ++ flat_map (λ line. before ++ (line ++ line_feed)) (fact_lines (local_text name) p)) (sym is)

pub two_shown : (old first new before name : List ℕ) (c d : CellValue) (parts : Parts) → first ≡ old ++ whole before (cell_line (local_text name ++ codes "[0]") c) →
    new ≡ first ++ whole before (cell_line (local_text name ++ codes "[1]") d) → parts ≡ Parts.Two c d →
    new ≡ old ++ flat_map (λ line. before ++ (line ++ line_feed)) (fact_lines (local_text name) parts)
two_shown old first new before name c d parts one two is =
    let first_line = whole before (cell_line (local_text name ++ codes "[0]") c) in
    let second_line = whole before (cell_line (local_text name ++ codes "[1]") d) in
    two
    ∙ ap (λ l. l ++ second_line) one
    ∙ append_assoc old first_line second_line
    ∙ ap (λ l. old ++ (first_line ++ l)) (sym (append-nil second_line))
    ∙ ap (λ p. old ++ flat_map (λ line. before ++ (line ++ line_feed)) (fact_lines (local_text name) p)) (sym is)

abbrev at_fact : Scope → List ℕ → ℕ → Option AnyFact → List ℕ
at_fact names before v o = elim o [
  | None ↦ []
  | Some fact ↦ flat_map (λ line. before ++ (line ++ line_feed)) (fact_lines (local_text (name_at names.values v)) fact.parts)
]

pub known_shown : (names : Scope) (before : List ℕ) (s : AbstractState AnyFact) (v : ℕ) (fact : AnyFact) (name old new : List ℕ) →
    new ≡ old ++ flat_map (λ line. before ++ (line ++ line_feed)) (fact_lines (local_text name) fact.parts) → name ≡ name_at names.values v → Some fact ≡ s.fact v →
    new ≡ old ++ lines_at names before s v
known_shown names before s v fact name old new put named is =
    put
    ∙ ap (λ n. old ++ flat_map (λ line. before ++ (line ++ line_feed)) (fact_lines (local_text n) fact.parts)) named
    ∙ ap (λ o. old ++ at_fact names before v o) is

pub unknown_shown : (names : Scope) (before : List ℕ) (s : AbstractState AnyFact) (v : ℕ) (old : List ℕ) → None ≡ s.fact v → old ≡ old ++ lines_at names before s v
unknown_shown names before s v old is = sym (append-nil old) ∙ ap (λ o. old ++ at_fact names before v o) is

-- the line of a block, as far as its name
pub put_heading : (old a new written name : List ℕ) → a ≡ old ++ codes "  block %" → new ≡ a ++ name_text written → written ≡ name → new ≡ old ++ (codes "  block " ++ local_text name)
put_heading old a new written name begin end is =
    end ∙ ap (λ l. l ++ name_text written) begin ∙ append_assoc old (codes "  block %") (name_text written) ∙ ap (λ n. old ++ (codes "  block %" ++ name_text n)) is
