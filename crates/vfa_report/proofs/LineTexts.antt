-- Texts of lines, as they are written piece by piece.
use Rattle.std.proofs.Common.{◌≡◌, ℕ, suc, ◌+◌, ◌-◌, ◌<◌, List, [], ◌∷◌, ◌++◌, Some, None, codes, sym, ap, arith, ◌∙◌}
use Rattle.std.proofs.lemmas.List.{append_assoc, append-nil}
use Rattle.vfa_fact.specs.Cells.{CellValue}
use Rattle.vfa_fact.specs.declared.cell.Parts.{Parts}
use Rattle.vfa_fact.specs.declared.numbers.Numbers.{Numbers}
use Rattle.vfa_report.specs.FactLines.{bit_letter, bits_text, range_text, mark_text, known_text, cell_line, local_text, fact_line}

-- one bit more is written
pub bits_more : (n : Numbers) (w above : ℕ) (before text after : List ℕ) → above < w → after ≡ text ++ bit_letter n (w - 1 - above) ∷ [] → text ++ bits_text n (w - above) ≡ before → after ++ bits_text n (w - (above + 1)) ≡ before
bits_more n w above before text after less pushed so_far =
    let place : w - above ≡ suc (w - 1 - above) = omega arith in
    let rest : w - 1 - above ≡ w - (above + 1) = omega arith in
    ap (λ t. t ++ bits_text n (w - (above + 1))) pushed
    ∙ append_assoc text (bit_letter n (w - 1 - above) ∷ []) (bits_text n (w - (above + 1)))
    ∙ ap (λ k. text ++ bit_letter n (w - 1 - above) ∷ bits_text n k) (sym rest)
    ∙ ap (λ k. text ++ bits_text n k) (sym place)
    ∙ so_far

-- all bits are written
pub bits_all : (n : Numbers) (w above : ℕ) (before text : List ℕ) → w - above ≡ 0 → text ++ bits_text n (w - above) ≡ before → text ≡ before
bits_all n w above before text none so_far = sym (append-nil text) ∙ ap (λ k. text ++ bits_text n k) (sym none) ∙ so_far

-- four texts behind another
four : (x one two three last : List ℕ) → x ++ one ++ two ++ three ++ last ≡ x ++ (one ++ (two ++ (three ++ last)))
four x one two three last =
    append_assoc (x ++ one ++ two) three last ∙ append_assoc (x ++ one) two (three ++ last) ∙ append_assoc x one (two ++ (three ++ last))

-- the same, where each step says what it put last
pub put_four : (old a b d new one two three last : List ℕ) → a ≡ old ++ one → b ≡ a ++ two → d ≡ b ++ three → new ≡ d ++ last → new ≡ old ++ (one ++ (two ++ (three ++ last)))
put_four old a b d new one two three last p q r s =
    s ∙ ap (λ l. l ++ last) (r ∙ ap (λ l. l ++ three) (q ∙ ap (λ l. l ++ two) p)) ∙ four old one two three last

pub known_none : (c : CellValue) (old new : List ℕ) → c.numbers ≡ None → new ≡ old ++ codes "only-poison" → new ≡ old ++ known_text c c.numbers
known_none c old new is put = put ∙ ap (λ numbers. old ++ known_text c numbers) (sym is)

pub known_some : (c : CellValue) (n : Numbers) (old between new : List ℕ) → c.numbers ≡ Some n →
    between ≡ old ++ (bits_text n c.width ++ (codes " " ++ (range_text c.width n ++ codes " "))) → new ≡ between ++ mark_text c → new ≡ old ++ known_text c c.numbers
known_some c n old between new is numbers mark =
    let bits = bits_text n c.width in let range = range_text c.width n in
    mark
    ∙ ap (λ l. l ++ mark_text c) numbers
    ∙ append_assoc old (bits ++ (codes " " ++ (range ++ codes " "))) (mark_text c)
    ∙ ap (λ l. old ++ l) (append_assoc bits (codes " " ++ (range ++ codes " ")) (mark_text c) ∙ ap (λ l. bits ++ (codes " " ++ l)) (append_assoc range (codes " ") (mark_text c)))
    ∙ ap (λ numbers. old ++ known_text c numbers) (sym is)

-- what a line shows, written piece by piece
pub shown_pieces : (old one two three named part : List ℕ) (sigil : ℕ) → one ≡ old ++ sigil ∷ [] → two ≡ one ++ named → three ≡ two ++ part → three ≡ old ++ (sigil ∷ named ++ part)
shown_pieces old one two three named part sigil a b d =
    d ∙ ap (λ l. l ++ part) (b ∙ ap (λ l. l ++ named) a) ∙ append_assoc (old ++ sigil ∷ []) named part ∙ append_assoc old (sigil ∷ []) (named ++ part)

-- the line of a cell behind what it is shown by
pub behind : (before shown old rest new : List ℕ) → old ≡ before ++ shown → new ≡ old ++ rest → new ≡ before ++ (shown ++ rest)
behind before shown old rest new is put = put ∙ ap (λ l. l ++ rest) is ∙ append_assoc before shown rest

-- a line that is all of a text, with nothing behind the name
pub one_line : (new text name : List ℕ) (c : CellValue) (parts : Parts) → new ≡ [] → text ≡ new ++ cell_line (local_text name ++ []) c → parts ≡ Parts.One c → text ≡ fact_line name parts
one_line new text name c parts none put is =
    put
    ∙ ap (λ l. l ++ cell_line (local_text name ++ []) c) none
    ∙ ap (λ shown. cell_line shown c) (append-nil (local_text name))
    ∙ ap (fact_line name) (sym is)

-- two lines
pub two_lines : (new first fed text name : List ℕ) (c d : CellValue) (parts : Parts) → new ≡ [] → first ≡ new ++ cell_line (local_text name ++ codes "[0]") c → fed ≡ first ++ codes "\n" → text ≡ fed ++ cell_line (local_text name ++ codes "[1]") d → parts ≡ Parts.Two c d → text ≡ fact_line name parts
two_lines new first fed text name c d parts none one feed two is =
    let last = cell_line (local_text name ++ codes "[1]") d in
    two
    ∙ ap (λ l. l ++ last) (feed ∙ ap (λ l. l ++ codes "\n") (one ∙ ap (λ l. l ++ cell_line (local_text name ++ codes "[0]") c) none))
    ∙ append_assoc (cell_line (local_text name ++ codes "[0]") c) (codes "\n") last
    ∙ ap (fact_line name) (sym is)
