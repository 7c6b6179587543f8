-- The header of a function, and the whole function, as readers (LLVM Language Reference, "Functions").
use Rattle.std.specs.Prelude.{ℕ, zero, suc, ◌==◌, Bool, true, false, if◌then◌else◌, List, [], ◌∷◌, length, Option, Some, None, Result, Ok, Err, codes}
use Rattle.std.specs.Str.{byte}
use Rattle.vfa_ir.specs.declared.syntax.BasicBlock.{BasicBlock}
use Rattle.vfa_ir.specs.declared.syntax.Parameter.{Parameter}
use Rattle.vfa_ir.specs.Grammar.{may_follow_parameters}
use Rattle.vfa_ir.specs.Lexemes.{Lexeme, local, nameless_local, mark}
use Rattle.vfa_ir.specs.Sentence.{Sentence}
use Rattle.vfa_ir.specs.Words.{lead_words, parameter_words}
use Rattle.vfa_read.specs.Productions.{is_any_word, words_among, comma_list, entry_label, block_with, further_blocks}
use Rattle.vfa_read.specs.Readers.{Reader, one, nothing, after, made, choose, skip, ended, ◌>>=◌}
use Rattle.vfa_read.specs.Tables.{the_mark, the_word, local_name, global_name, type_of}

-- a parameter
abbrev pub starts_name : Lexeme → Bool
starts_name (local _) = true
starts_name nameless_local = true
starts_name _ = false

abbrev pub optional_name : Reader (Option (List ℕ))
optional_name = choose starts_name (made Some (one local_name)) (nothing None)

abbrev pub parameter_of : ℕ × (List (List ℕ) × Option (List ℕ)) → Parameter
parameter_of (width, (words, name)) = record { width = width; words = words; name = name }

unfoldable pub parameter : Reader Parameter
parameter = made parameter_of (after (one type_of) (λ _. after (words_among parameter_words) (λ _. optional_name)))

unfoldable pub parameters : Reader (List Parameter)
parameters = comma_list is_any_word parameter

-- what stands between parameters and body, where n parentheses are open
abbrev pub with_lexeme : Lexeme → Result (List Lexeme × List Lexeme) ℕ → Result (List Lexeme × List Lexeme) ℕ
with_lexeme l read = read >>= λ p. Ok (l ∷ p.0, p.1)

-- by what a lexeme is there: it opens or closes a parenthesis, stands there, or cannot
pub data Place : Type 0 where
  opens : Place
  closes : Place
  stands : Place
  leaves : Place

abbrev pub place_of : Lexeme → Place
place_of (mark c) =
    if c == byte "(" then opens else if c == byte ")" then closes else if may_follow_parameters (mark c) then stands else leaves
place_of l = if may_follow_parameters l then stands else leaves

abbrev pub tail_end : ℕ → List Lexeme → Result (List Lexeme × List Lexeme) ℕ
tail_end n ls = if n == 0 then Ok ([], ls) else Err (length ls)

unfoldable pub tail_from : ℕ → Reader (List Lexeme)
tail_from n [] = tail_end n []
tail_from n (l ∷ ls) = elim (place_of l) [
  | opens ↦ with_lexeme l (tail_from (suc n) ls)
  | closes ↦ elim n [ zero ↦ Err (length (l ∷ ls)) | suc m ↦ with_lexeme l (tail_from m ls) ]
  | stands ↦ with_lexeme l (tail_from n ls)
  | leaves ↦ tail_end n (l ∷ ls)
]

-- a function
abbrev pub Header : Type 0
Header = List (List ℕ) × (ℕ × (List ℕ × List Parameter))

unfoldable pub header : Reader Header
header = skip (the_word (codes "define")) (after (words_among lead_words) (λ _. after (one type_of) (λ _. after (one global_name) (λ _.
    skip (the_mark (byte "(")) (ended parameters (the_mark (byte ")")))))))

abbrev pub Body : Type 0
Body = BasicBlock × List BasicBlock

unfoldable pub body : Reader Body
body = skip (the_mark (byte "{")) (ended (after (block_with entry_label) (λ _. further_blocks)) (the_mark (byte "}")))

abbrev pub sentence_of : Header × (List Lexeme × Body) → Sentence
sentence_of ((lead, (width, (name, parameters))), (tail, (entry, blocks))) = record {
  lead = lead;
  width = width;
  name = name;
  parameters = parameters;
  tail = tail;
  blocks = entry ∷ blocks;
}

unfoldable pub sentence : Reader Sentence
sentence = made sentence_of (after header (λ _. after (tail_from 0) (λ _. body)))
