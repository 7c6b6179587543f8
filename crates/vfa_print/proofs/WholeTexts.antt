-- The text of a function from its parts.
use Rattle.std.proofs.Common.{◌≡◌, ◌∙◌, ℕ, List, [], ◌++◌, false, ap, append_assoc, codes}
use Rattle.vfa_ir.specs.Lexemes.{Lexeme}
use Rattle.vfa_print.proofs.Drafts.{text_of_tokens}
use Rattle.vfa_print.specs.Layout.{line_feed, written}
use Rattle.vfa_print.specs.Writing.{Draft, with_tokens}

pub whole_text : (header : List Lexeme) (tail blocks : List ℕ) (start : Draft) (headed tailed opened filled closed : List ℕ)
    → start ≡ record { text = []; blank_due = false } → headed ≡ (with_tokens start header).text → tailed ≡ headed ++ tail
    → opened ≡ tailed ++ (codes " {" ++ line_feed) → filled ≡ opened ++ blocks → closed ≡ filled ++ codes "}"
    → closed ≡ written false header ++ (tail ++ (codes " {" ++ (line_feed ++ (blocks ++ codes "}"))))
whole_text header tail blocks start headed tailed opened filled closed starts heads tails opens fills closes =
    let begins : headed ≡ written false header = heads ∙ text_of_tokens start header ∙ ap (λ d. d.text ++ written d.blank_due header) starts in
    closes ∙ ap (λ t. t ++ codes "}") (fills ∙ ap (λ t. t ++ blocks) (opens ∙ ap (λ t. t ++ (codes " {" ++ line_feed)) (tails ∙ ap (λ t. t ++ tail) begins)))
    ∙ append_assoc (((written false header ++ tail) ++ (codes " {" ++ line_feed))) blocks (codes "}")
    ∙ append_assoc (written false header ++ tail) (codes " {" ++ line_feed) (blocks ++ codes "}")
    ∙ append_assoc (written false header) tail ((codes " {" ++ line_feed) ++ (blocks ++ codes "}"))
