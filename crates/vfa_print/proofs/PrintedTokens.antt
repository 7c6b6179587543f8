-- A printed tree is read as its lexemes, with the bytes of its tail.
use Rattle.std.proofs.Common.{◌≡◌, ℕ, ◌+◌, List, [], ◌∷◌, ◌++◌, false, length, map, flat_map, take, drop, codes, IsTrue, refl, sym, subst, ap, ◌∙◌, arith, append_assoc}
use Rattle.std.proofs.Math.Seq.{take-append_seam}
use Rattle.std.proofs.lemmas.List.{append-nil, length-map}
use Rattle.std.proofs.lemmas.List.Elements.{recursion_from_All}
use Rattle.std.specs.List.{AllByRecursion}
use Rattle.std.specs.Str.{byte}
use Rattle.vfa_ir.specs.Lexemes.{Lexeme, mark}
use Rattle.vfa_ir.specs.Printable.{IsTail}
use Rattle.vfa_ir.specs.Reads.{tail_bytes}
use Rattle.vfa_ir.specs.Sentence.{Sentence}
use Rattle.vfa_ir.specs.Spelling.{open_brace, close_brace, block, header, spelling}
use Rattle.vfa_ir.specs.TokenLexemes.{lexemes, bytes_between}
use Rattle.vfa_ir.specs.Tokens.{is_blank, is_bracket, is_run_byte, line_feeds, tokens_after, tokens_of}
use Rattle.vfa_print.proofs.Ending.{ends_token}
use Rattle.vfa_print.proofs.Found.{Gives, found, gives_more, gives_nothing, lexemes_found, same_place}
use Rattle.vfa_print.proofs.Lexed.{IsLexed, IsLexedBlock, IsLexedTree}
use Rattle.vfa_print.proofs.OneToken.{lexed_gives}
use Rattle.vfa_print.proofs.PrintedBlocks.{blocks_give}
use Rattle.vfa_print.proofs.PrintedLines.{blanks_give, written_gives}
use Rattle.vfa_print.proofs.PrintedTail.{moved, moved_bytes, tail_gives, tail_tokens, tokens_within}
use Rattle.vfa_print.specs.Layout.{written, line_feed, blocks_text, tail_text, sentence_text}

-- the parts of the text after the header
abbrev pub body_text : Sentence → List ℕ
body_text s = codes " {" ++ (line_feed ++ (blocks_text s.blocks ++ codes "}"))

brace_gives : (c : ℕ) (rest : List ℕ) → IsLexed (mark c) → Gives (c ∷ []) rest (mark c ∷ [])
brace_gives c rest h = lexed_gives (mark c) rest h tt

body_gives : (s : Sentence) → IsLexedTree s → Gives (body_text s) [] (open_brace ∷ (flat_map block s.blocks ++ (close_brace ∷ [])))
unfolding is_blank is_bracket
body_gives s lexed =
    let blocks : AllByRecursion IsLexedBlock s.blocks = recursion_from_All IsLexedBlock s.blocks lexed.blocks in
    let inner : List Lexeme = flat_map block s.blocks in
    gives_more (byte " " ∷ []) _ [] [] (open_brace ∷ (inner ++ (close_brace ∷ []))) (blanks_give (byte " " ∷ []) _ refl)
    (gives_more (byte "{" ∷ []) _ [] (open_brace ∷ []) (inner ++ (close_brace ∷ [])) (brace_gives (byte "{") _ refl)
    (gives_more line_feed _ [] [] (inner ++ (close_brace ∷ [])) (blanks_give line_feed _ refl)
    (gives_more (blocks_text s.blocks) (codes "}") [] inner (close_brace ∷ []) (blocks_give s.blocks _ blocks)
    (brace_gives (byte "}") [] refl))))

body_ends : (s : Sentence) (rest : List ℕ) → IsTrue (ends_token (body_text s ++ rest))
unfolding is_run_byte
body_ends s rest = refl

after_header_ends : (s : Sentence) (tail rest : List ℕ) → IsTrue (ends_token (tail_text tail ++ (body_text s ++ rest)))
unfolding is_run_byte
after_header_ends s [] rest = refl
after_header_ends s (b ∷ tail) rest = refl

tail_text_gives :
    (tail rest : List ℕ) → IsTail tail → IsTrue (ends_token rest) → Gives (tail_text tail) rest (lexemes tail (tokens_of tail))
unfolding is_blank
tail_text_gives [] rest is ends = gives_nothing rest
tail_text_gives (b ∷ tail) rest is ends =
    gives_more (byte " " ∷ []) (b ∷ tail) rest [] _ (blanks_give (byte " " ∷ []) _ refl) (tail_gives (b ∷ tail) rest is ends)

sentence_gives :
    (s : Sentence) (tail : List ℕ) → IsLexedTree s → IsTail tail →
    Gives (sentence_text s tail) []
    (header s ++ (lexemes tail (tokens_of tail) ++ (open_brace ∷ (flat_map block s.blocks ++ (close_brace ∷ [])))))
sentence_gives s tail lexed is =
    let body : List Lexeme = open_brace ∷ (flat_map block s.blocks ++ (close_brace ∷ [])) in
    let prefix : AllByRecursion IsLexed (header s) = recursion_from_All IsLexed (header s) lexed.header in
    let ends : IsTrue (ends_token ((tail_text tail ++ body_text s) ++ [])) =
    subst (λ bs. IsTrue (ends_token bs)) (sym (append_assoc (tail_text tail) (body_text s) [])) (after_header_ends s tail []) in
    gives_more (written false (header s)) (tail_text tail ++ body_text s) [] (header s) (lexemes tail (tokens_of tail) ++ body)
    (written_gives false (header s) _ prefix ends)
    (gives_more (tail_text tail) (body_text s) [] (lexemes tail (tokens_of tail)) body
    (tail_text_gives tail _ is (body_ends s [])) (body_gives s lexed))

whole_gives : (text : List ℕ) (ls : List Lexeme) → Gives text [] ls → lexemes text (tokens_of text) ≡ ls
whole_gives text ls g =
    let all : found 0 (text ++ []) ≡ ls ++ [] = g.found in
    lexemes_found text ∙ sym (ap (found 0) (append-nil text)) ∙ all ∙ append-nil ls

pub printed_lexemes :
    (s : Sentence) (tail : List ℕ) → IsLexedTree s → IsTail tail → s.tail ≡ lexemes tail (tokens_of tail) →
    lexemes (sentence_text s tail) (tokens_of (sentence_text s tail)) ≡ spelling s
printed_lexemes s tail lexed is same =
    whole_gives (sentence_text s tail) _ (sentence_gives s tail lexed is) ∙ rw same refl

-- the bytes of a tail between what is read before it and what ends it
tail_between :
    (before tail rest : List ℕ) (ls : List Lexeme) → Gives before (tail ++ rest) ls → IsTail tail → IsTrue (ends_token rest) →
    bytes_between (before ++ (tail ++ rest))
    (take (length (tokens_of tail)) (drop (length ls) (tokens_of (before ++ (tail ++ rest)))))
    ≡ tail
tail_between before tail rest ls g is ends =
    let n : ℕ = length before in
    let m : ℕ = line_feeds before in
    let there : tokens_after 0 (0 + n) (1 + m) (tail ++ rest) ≡ tokens_after 0 n (m + 1) (tail ++ rest) =
    same_place _ _ _ _ _ (omega arith) (omega arith) in
    let many : length (tokens_of tail) ≡ length (map (moved n m) (tokens_of tail)) = sym (length-map (tokens_of tail) (moved n m)) in
    rw (
      g.after 0 1,
      there,
      tail_tokens before tail rest m is ends,
      many,
      take-append_seam (map (moved n m) (tokens_of tail)) (tokens_after 0 (n + length tail) (m + 1 + line_feeds tail) rest),
    )
    (moved_bytes before tail rest m (tokens_of tail) (tokens_within tail) ∙ is.whole)

some_tail :
    (s : Sentence) (tail : List ℕ) → IsLexedTree s → IsTail tail → s.tail ≡ lexemes tail (tokens_of tail) →
    (let text : List ℕ = written false (header s) ++ (byte " " ∷ (tail ++ body_text s)) in
    tail_bytes text (tokens_of text) s ≡ tail)
unfolding is_blank is_run_byte
some_tail s tail lexed is same =
    let prefix : AllByRecursion IsLexed (header s) = recursion_from_All IsLexed (header s) lexed.header in
    let before : List ℕ = written false (header s) ++ (byte " " ∷ []) in
    let rest : List ℕ = tail ++ body_text s in
    let g : Gives before rest (header s) =
    subst (λ ls. Gives before rest ls) (append-nil (header s))
    (gives_more (written false (header s)) (byte " " ∷ []) rest (header s) []
    (written_gives false (header s) (byte " " ∷ rest) prefix refl) (blanks_give (byte " " ∷ []) rest refl)) in
    let many : length s.tail ≡ length (tokens_of tail) = ap length same ∙ length-map (tokens_of tail) _ in
    subst (λ text. tail_bytes text (tokens_of text) s ≡ tail) (append_assoc (written false (header s)) (byte " " ∷ []) rest)
    (rw many (tail_between before tail (body_text s) (header s) g is refl))

pub printed_tail :
    (s : Sentence) (tail : List ℕ) → IsLexedTree s → IsTail tail → s.tail ≡ lexemes tail (tokens_of tail) →
    tail_bytes (sentence_text s tail) (tokens_of (sentence_text s tail)) s ≡ tail
printed_tail s [] lexed is same = let none : length s.tail ≡ 0 = ap length same in rw none refl
printed_tail s (b ∷ tail) lexed is same = some_tail s (b ∷ tail) lexed is same
