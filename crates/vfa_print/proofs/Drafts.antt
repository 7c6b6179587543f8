-- Tokens written one list after the other, and what they write.
use Rattle.std.proofs.Common.{◌≡◌, ℕ, List, [], ◌∷◌, ◌++◌, map, false, refl, ap, append_assoc, append-nil, sym, ◌∙◌, Result, Ok, Err, IfOk}
use Rattle.vfa_ir.specs.Lexemes.{Lexeme, word}
use Rattle.vfa_print.specs.Layout.{blank_between, takes_blank_before, takes_blank_after, lexeme_text, written, text_line, line_feed}
use Rattle.vfa_print.specs.Writing.{Draft, with_token, with_tokens, with_bytes}

pub with_tokens_append : (d : Draft) (xs ys : List Lexeme) → with_tokens d (xs ++ ys) ≡ with_tokens (with_tokens d xs) ys
with_tokens_append d [] ys = refl
with_tokens_append d (x ∷ xs) ys = with_tokens_append (with_token d x) xs ys

-- the same of words
pub words_append :
    (d : Draft) (xs ys : List (List ℕ)) →
    with_tokens d (map word (xs ++ ys)) ≡ with_tokens (with_tokens d (map word xs)) (map word ys)
words_append d [] ys = refl
words_append d (x ∷ xs) ys = words_append (with_token d (word x)) xs ys

pub text_of_tokens : (d : Draft) (ls : List Lexeme) → (with_tokens d ls).text ≡ d.text ++ written d.blank_due ls
unfolding with_token
text_of_tokens d [] = sym (append-nil d.text)
text_of_tokens d (l ∷ rest) =
    let blank = blank_between d.blank_due (takes_blank_before l) in
    let more = written (takes_blank_after l) rest in
    text_of_tokens (with_token d l) rest
    ∙ append_assoc d.text (blank ++ lexeme_text l) more
    ∙ ap (λ t. d.text ++ t) (append_assoc blank (lexeme_text l) more)

-- a line: its indent, its tokens and its end
pub text_of_line : (d : Draft) (indent : List ℕ) (ls : List Lexeme)
    → (with_bytes (with_tokens (with_bytes d indent) ls) line_feed).text ≡ d.text ++ text_line indent ls
text_of_line d indent ls =
    ap (λ t. t ++ line_feed) (text_of_tokens (with_bytes d indent) ls)
    ∙ append_assoc (d.text ++ indent) (written false ls) line_feed
    ∙ append_assoc d.text indent (written false ls ++ line_feed)

pub line_ends : {X E : Type 0} (r : Result X E) (d begun full ended : Draft) (indent : List ℕ) (ls : List Lexeme)
    → begun ≡ with_bytes d indent → full ≡ with_tokens begun ls → IfOk r (λ _. ended ≡ with_bytes full line_feed)
    → IfOk r (λ _. ended.text ≡ d.text ++ text_line indent ls)
line_ends (Err _) d begun full ended indent ls begins fills ends = ends
line_ends (Ok _) d begun full ended indent ls begins fills ends =
    ap (λ e. e.text) (ends ∙ ap (λ b. with_bytes b line_feed) (fills ∙ ap (λ b. with_tokens b ls) begins))
    ∙ text_of_line d indent ls
