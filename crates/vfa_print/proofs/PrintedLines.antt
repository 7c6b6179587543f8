-- A printed line is read as its lexemes.
use Rattle.std.proofs.Common.{◌≡◌, ℕ, ◌==◌, ◌||◌, Bool, true, false, not, List, [], ◌∷◌, ◌++◌, IsTrue, refl, sym, subst, ap, ◌∙◌, append_assoc, eqb-true}
use Rattle.std.proofs.lemmas.Bool.{and_parts}
use Rattle.std.proofs.lemmas.List.{append-nil}
use Rattle.std.specs.List.{AllByRecursion, list_all}
use Rattle.std.specs.Str.{byte}
use Rattle.vfa_ir.specs.Lexemes.{Lexeme, mark}
use Rattle.vfa_ir.specs.Tokens.{gap, piece_of, is_blank, is_run_byte}
use Rattle.vfa_print.proofs.Ending.{ends_token}
use Rattle.vfa_print.proofs.Found.{Gives, gives_gap, gives_more, gives_nothing}
use Rattle.vfa_print.proofs.Lexed.{IsLexed}
use Rattle.vfa_print.proofs.OneToken.{Follows, lexed_gives, or_case}
use Rattle.vfa_print.specs.Layout.{lexeme_text, takes_blank_before, takes_blank_after, blank_between, written, text_line, line_feed}

-- gaps
blank_piece : (b : ℕ) (rest : List ℕ) → is_blank b ≡ true → piece_of b rest ≡ gap 0
unfolding piece_of
blank_piece b rest h = rw h refl

pub blanks_give : (bs rest : List ℕ) → list_all is_blank bs ≡ true → Gives bs rest []
blanks_give [] rest h = gives_nothing rest
blanks_give (b ∷ bs) rest h =
    let parts : (is_blank b ≡ true) × (list_all is_blank bs ≡ true) = and_parts _ _ h in
    gives_more (b ∷ []) bs rest [] [] (gives_gap b [] (bs ++ rest) (blank_piece b (bs ++ rest) parts.0))
    (blanks_give bs rest parts.1)

blank_gives : (after before : Bool) (rest : List ℕ) → Gives (blank_between after before) rest []
unfolding is_blank
blank_gives true true rest = blanks_give (byte " " ∷ []) rest refl
blank_gives true false rest = gives_nothing rest
blank_gives false before rest = gives_nothing rest

-- what follows a lexeme that takes a blank ends it
mark_ends : (c : ℕ) (rest : List ℕ) → (c == byte "(" || c == byte ")" || c == byte ",") ≡ true → IsTrue (ends_token (c ∷ rest))
unfolding is_run_byte
mark_ends c rest h =
    let P : ℕ → Type 0 = λ k. IsTrue (ends_token (k ∷ rest)) in
    let at : (k : ℕ) → P k → (c == k) ≡ true → P c = λ k p e. subst P (sym (eqb-true c k e)) p in
    or_case (P c) (c == byte "(" || c == byte ")") (c == byte ",") h
    (λ more. or_case (P c) (c == byte "(") (c == byte ")") more (at 40 refl) (at 41 refl)) (at 44 refl)

blank_ends : (rest : List ℕ) → IsTrue (ends_token (byte " " ∷ rest))
unfolding is_run_byte
blank_ends rest = refl

begun : (l : Lexeme) (rest : List ℕ) → IsTrue (ends_token (blank_between true (takes_blank_before l) ++ (lexeme_text l ++ rest)))
begun (mark c) rest = by_test (c == byte "(" || c == byte ")" || c == byte ",") refl
  where
    by_test : (t : Bool) → (c == byte "(" || c == byte ")" || c == byte ",") ≡ t → IsTrue (ends_token (blank_between true (not t) ++ (c ∷ rest)))
    by_test true h = mark_ends c rest h
    by_test false h = blank_ends (c ∷ rest)
begun l rest = blank_ends (lexeme_text l ++ rest)

written_ends : (ls : List Lexeme) (rest : List ℕ) → IsTrue (ends_token rest) → IsTrue (ends_token (written true ls ++ rest))
written_ends [] rest h = h
written_ends (l ∷ ls) rest h =
    let more : List ℕ = written (takes_blank_after l) ls in
    let blank : List ℕ = blank_between true (takes_blank_before l) in
    let P : List ℕ → Type 0 = λ bs. IsTrue (ends_token bs) in
    subst P (sym (append_assoc blank (lexeme_text l ++ more) rest ∙ ap (λ bs. blank ++ bs) (append_assoc (lexeme_text l) more rest)))
    (begun l (more ++ rest))

follows : (l : Lexeme) (ls : List Lexeme) (rest : List ℕ) → IsTrue (ends_token rest) → Follows l (written (takes_blank_after l) ls ++ rest)
follows (mark c) ls rest h = tt
follows _ ls rest h = written_ends ls rest h

pub written_gives :
    (after : Bool) (ls : List Lexeme) (rest : List ℕ) → AllByRecursion IsLexed ls → IsTrue (ends_token rest) →
    Gives (written after ls) rest ls
written_gives after [] rest lexed ends = gives_nothing rest
written_gives after (l ∷ ls) rest lexed ends =
    let more : List ℕ = written (takes_blank_after l) ls in
    gives_more (blank_between after (takes_blank_before l)) (lexeme_text l ++ more) rest [] (l ∷ ls) (blank_gives after (takes_blank_before l) _)
    (gives_more (lexeme_text l) more rest (l ∷ []) ls (lexed_gives l (more ++ rest) lexed.0 (follows l ls rest ends))
    (written_gives (takes_blank_after l) ls rest lexed.1 ends))

feed_gives : (rest : List ℕ) → Gives line_feed rest []
unfolding is_blank
feed_gives rest = blanks_give (byte "\n" ∷ []) rest refl

feed_ends : (rest : List ℕ) → IsTrue (ends_token (byte "\n" ∷ rest))
unfolding is_run_byte
feed_ends rest = refl

pub line_gives :
    (indent : List ℕ) (ls : List Lexeme) (rest : List ℕ) → list_all is_blank indent ≡ true → AllByRecursion IsLexed ls →
    Gives (text_line indent ls) rest ls
line_gives indent ls rest blank lexed =
    subst (λ ms. Gives (text_line indent ls) rest ms) (append-nil ls)
    (gives_more indent (written false ls ++ line_feed) rest [] (ls ++ []) (blanks_give indent _ blank)
    (gives_more (written false ls) line_feed rest ls [] (written_gives false ls (line_feed ++ rest) lexed (feed_ends rest))
    (feed_gives rest)))
