-- The text of a lexeme is read as that lexeme.
use Rattle.std.proofs.Common.{◌≡◌, ℕ, suc, ◌+◌, ◌-◌, ◌==◌, ◌||◌, nat_lt, Bool, true, false, not, cond, List, [], ◌∷◌, ◌++◌, length, take, flat_map, Some, codes, IsTrue, refl, sym, subst, ap, ◌∙◌, arith, lt-ltb, eqb-true, length-append}
use Rattle.std.proofs.Math.Seq.{take-append_seam, take-length}
use Rattle.std.proofs.lemmas.Bool.{and_parts, not-true}
use Rattle.std.proofs.lemmas.Bool.Decides.{nat_tests}
use Rattle.std.specs.Char.{is_ascii_digit}
use Rattle.std.specs.List.{AllByRecursion, prefix_len, list_all}
use Rattle.std.specs.Str.{byte}
use Rattle.vfa_ir.specs.Lexemes.{Lexeme, local, global, label, number, word, mark}
use Rattle.vfa_ir.specs.TokenLexemes.{lexeme_of, quoted_name, written_name}
use Rattle.vfa_ir.specs.Tokens.{token, piece_of, is_blank, is_bracket, is_run_byte, is_mark, has_colon, name_len, after_sigil, or_label, quoted, quoted_len, run_len, run_of}
use Rattle.vfa_ir.specs.Words as Words
use Rattle.vfa_ir.specs.Words.{is_digits, is_in}
use Rattle.vfa_ir.specs.declared.tokens.TokenKind.{TokenKind}
use Rattle.vfa_print.proofs.Ending.{ends_token, is_firm, piece_stops, stops, inside, quoted_stops}
use Rattle.vfa_print.proofs.Found.{Gives, gives_token}
use Rattle.vfa_print.proofs.LanguageWords.{digit_runs}
use Rattle.vfa_print.proofs.Lexed.{IsLexed, IsRunWord, is_printed_mark}
use Rattle.vfa_print.proofs.QuotedNames.{no_quote, decoded_name, name_unquoted}
use Rattle.vfa_print.specs.Layout.{is_plain, byte_text, quoted_text, name_text, lexeme_text}

prefix_whole : (p : ℕ → Bool) (xs : List ℕ) → list_all p xs ≡ true → prefix_len p xs ≡ length xs
prefix_whole p [] h = refl
prefix_whole p (b ∷ xs) h =
    let parts : (p b ≡ true) × (list_all p xs ≡ true) = and_parts (p b) (list_all p xs) h in
    let here : p b ≡ true = parts.0 in
    let rest : prefix_len p xs ≡ length xs = prefix_whole p xs parts.1 in
    rw (here, rest) (omega arith)

prefix_to : (p : ℕ → Bool) (xs : List ℕ) (b : ℕ) → list_all p xs ≡ true → p b ≡ false → prefix_len p (xs ++ b ∷ []) ≡ length xs
prefix_to p xs b h e =
    let none : prefix_len p (b ∷ []) ≡ 0 = rw e refl in
    stops p xs (b ∷ []) none ∙ prefix_whole p xs h

-- all but the last byte
pushed : (xs : List ℕ) (b : ℕ) → length (xs ++ b ∷ []) ≡ length xs + 1
pushed xs b = length-append xs (b ∷ [])

but_last : (xs : List ℕ) (b : ℕ) → take (length (xs ++ b ∷ []) - 1) (xs ++ b ∷ []) ≡ xs
but_last xs b =
    let long : length (xs ++ b ∷ []) ≡ length xs + 1 = pushed xs b in
    let less : length xs + 1 - 1 ≡ length xs = omega arith in
    rw (long, less) (take-append_seam xs (b ∷ []))

colon_last : (xs : List ℕ) → has_colon (length xs) (xs ++ byte ":" ∷ []) ≡ true
colon_last [] = refl
colon_last (b ∷ xs) = colon_last xs

no_colon : (xs : List ℕ) → has_colon (length xs) xs ≡ false
no_colon [] = refl
no_colon (b ∷ xs) = no_colon xs

-- digits
digits_plain : (name : List ℕ) → is_digits name ≡ true → is_plain name ≡ true
digits_plain [] h = cc
digits_plain (b ∷ name) h =
    let digits : list_all is_ascii_digit (b ∷ name) ≡ true = h in
    let runs : list_all is_run_byte (b ∷ name) ≡ true = digit_runs (b ∷ name) h in
    rw (runs, digits) (by_test (is_ascii_digit b))
  where
    by_test : (t : Bool) → (not t || true) ≡ true
    by_test true = refl
    by_test false = refl

not_digits : (name : List ℕ) → is_plain name ≡ false → is_digits name ≡ false
not_digits name h = by_test (is_digits name) refl
  where
    by_test : (t : Bool) → is_digits name ≡ t → t ≡ false
    by_test true e = let plain : is_plain name ≡ true = digits_plain name e in cc
    by_test false e = refl

-- run bytes begin runs
other_byte : (b k : ℕ) → is_run_byte b ≡ true → is_run_byte k ≡ false → (b == k) ≡ false
other_byte b k h e = by_test (b == k) refl
  where
    by_test : (t : Bool) → (b == k) ≡ t → t ≡ false
    by_test true is = let same : b ≡ k = eqb-true b k is in let also : is_run_byte b ≡ is_run_byte k = ap is_run_byte same in cc
    by_test false is = refl

pub run_piece : (b : ℕ) (rest : List ℕ) → is_run_byte b ≡ true → piece_of b rest ≡ run_of b rest
unfolding piece_of is_blank is_run_byte
run_piece b rest h =
    let other : (k : ℕ) → is_run_byte k ≡ false → (b == k) ≡ false = λ k e. other_byte b k h e in
    let no_blank : is_blank b ≡ false = rw (other (byte " ") refl, other (byte "\t") refl, other (byte "\r") refl, other (byte "\n") refl) refl in
    rw (no_blank, other (byte ";") refl, other (byte "%") refl, other (byte "@") refl, other (byte "!") refl, other (byte "#") refl, other (byte "\"") refl, h) refl

-- What a name is written as, without a sigil.
record IsName (text name : List ℕ) : Type 0 where
  whole : name_len text ≡ length text
  some : (length text == 0) ≡ false
  back : written_name text ≡ Some name

not_zero : (n : ℕ) → (suc n == 0) ≡ false
not_zero n = grind (arith, nat_tests)

plain_is_name : (b : ℕ) (name : List ℕ) → list_all is_run_byte (b ∷ name) ≡ true → IsName (b ∷ name) (b ∷ name)
unfolding is_run_byte
plain_is_name b name h =
    let parts : (is_run_byte b ≡ true) × (list_all is_run_byte name ≡ true) = and_parts _ _ h in
    let other : (b == byte "\"") ≡ false = other_byte b (byte "\"") parts.0 refl in
    let long : run_len (b ∷ name) ≡ length (b ∷ name) = prefix_whole is_run_byte (b ∷ name) h in
    record { whole = rw other long; some = not_zero (length name); back = rw other refl }

string_len : (name : List ℕ) → quoted_len (flat_map byte_text name ++ byte "\"" ∷ []) ≡ Some (length (flat_map byte_text name) + 1)
string_len name =
    let inner : List ℕ = flat_map byte_text name in
    let to : inside (inner ++ byte "\"" ∷ []) ≡ length inner = prefix_to no_quote inner (byte "\"") (name_unquoted name) refl in
    let long : length (inner ++ byte "\"" ∷ []) ≡ length inner + 1 = pushed inner (byte "\"") in
    let test : nat_lt (length inner) (length inner + 1) ≡ true = lt-ltb _ _ (omega arith) in
    rw (to, long, test) refl

quoted_back : (name : List ℕ) → (name ≡ [] → ⊥) → is_digits name ≡ false → quoted_name name ≡ Some name
quoted_back [] some h = absurd (some refl)
quoted_back (b ∷ name) some h = rw h refl

quoted_is_name : (name : List ℕ) → (name ≡ [] → ⊥) → is_digits name ≡ false → IsName (quoted_text name) name
quoted_is_name name some h =
    let inner : List ℕ = flat_map byte_text name in
    let long : length (inner ++ byte "\"" ∷ []) ≡ length inner + 1 = pushed inner (byte "\"") in
    record {
      whole = rw (string_len name) (omega arith);
      some = not_zero _;
      back = rw (but_last inner (byte "\""), decoded_name name) (quoted_back name some h);
    }

name_is : (name : List ℕ) → (name ≡ [] → ⊥) → IsName (name_text name) name
name_is name some = by_test (is_plain name) refl
  where
    by_test : (t : Bool) → is_plain name ≡ t → IsName (cond t name (quoted_text name)) name
    by_test true h = plain name some (and_parts _ _ h).0
      where
        plain : (bs : List ℕ) → (bs ≡ [] → ⊥) → list_all is_run_byte bs ≡ true → IsName bs bs
        plain [] none e = absurd (none refl)
        plain (b ∷ bs) none e = plain_is_name b bs e
    by_test false h = quoted_is_name name some (not_digits name h)

local_alone : (text name : List ℕ) → IsName text name → piece_of (byte "%") text ≡ token TokenKind.Local (length text)
unfolding piece_of is_blank after_sigil
local_alone text name n = rw (n.whole, n.some) refl

global_alone : (text name : List ℕ) → IsName text name → piece_of (byte "@") text ≡ token TokenKind.Global (length text)
unfolding piece_of is_blank after_sigil
global_alone text name n = rw (n.whole, n.some) refl

-- labels
plain_label :
    (b : ℕ) (name : List ℕ) → list_all is_run_byte (b ∷ name) ≡ true →
    piece_of b (name ++ byte ":" ∷ []) ≡ token TokenKind.Label (length (name ++ byte ":" ∷ []))
unfolding run_of or_label is_run_byte
plain_label b name h =
    let parts : (is_run_byte b ≡ true) × (list_all is_run_byte name ≡ true) = and_parts _ _ h in
    let to : run_len (name ++ byte ":" ∷ []) ≡ length name = prefix_to is_run_byte name (byte ":") parts.1 refl in
    let colon : has_colon (length name) (name ++ byte ":" ∷ []) ≡ true = colon_last name in
    run_piece b (name ++ byte ":" ∷ []) parts.0 ∙ rw (to, colon, pushed name (byte ":")) refl

string_label :
    (more : List ℕ) → quoted_len more ≡ Some (length more) →
    quoted (more ++ byte ":" ∷ []) ≡ token TokenKind.Label (length (more ++ byte ":" ∷ []))
unfolding quoted or_label
string_label more h =
    let colon : has_colon (length more) (more ++ byte ":" ∷ []) ≡ true = colon_last more in
    rw (quoted_stops more (byte ":" ∷ []) (length more) h, quoted) (rw (colon, pushed more (byte ":")) refl)

quoted_label :
    (name : List ℕ) →
    (let more : List ℕ = flat_map byte_text name ++ byte "\"" ∷ [] in
    piece_of (byte "\"") (more ++ byte ":" ∷ []) ≡ token TokenKind.Label (length (more ++ byte ":" ∷ [])))
unfolding piece_of is_blank
quoted_label name =
    let inner : List ℕ = flat_map byte_text name in
    string_label (inner ++ byte "\"" ∷ []) (string_len name ∙ ap Some (sym (pushed inner (byte "\""))))

-- numbers and words
run_alone :
    (b : ℕ) (more : List ℕ) → list_all is_run_byte (b ∷ more) ≡ true →
    piece_of b more ≡ token (cond (Words.is_number (b ∷ more)) TokenKind.Number TokenKind.Word) (length more)
unfolding run_of or_label
run_alone b more h =
    let parts : (is_run_byte b ≡ true) × (list_all is_run_byte more ≡ true) = and_parts _ _ h in
    let to : run_len more ≡ length more = prefix_whole is_run_byte more parts.1 in
    let colon : has_colon (length more) more ≡ false = no_colon more in
    run_piece b more parts.0 ∙ rw (to, colon, take-length more) refl

either : (x y : Bool) → (x || y) ≡ true → (x ≡ false) → y ≡ true
either true y h e = cc
either false y h e = h

digits_run : (text : List ℕ) → is_digits text ≡ true → list_all is_run_byte text ≡ true
digits_run [] h = cc
digits_run (b ∷ text) h = digit_runs (b ∷ text) h

number_runs : (text : List ℕ) → IsTrue (Words.is_number text) → list_all is_run_byte text ≡ true
unfolding is_run_byte
number_runs [] h = cc
number_runs (b ∷ text) h = by_test (is_digits (b ∷ text)) refl
  where
    signed : (b == byte "-") ≡ true → list_all is_run_byte text ≡ true → list_all is_run_byte (b ∷ text) ≡ true
    signed e rest = let same : b ≡ byte "-" = eqb-true b (byte "-") e in rw (same, rest) refl

    by_test : (t : Bool) → is_digits (b ∷ text) ≡ t → list_all is_run_byte (b ∷ text) ≡ true
    by_test true e = digits_run (b ∷ text) e
    by_test false e =
        let parts : ((b == byte "-") ≡ true) × (is_digits text ≡ true) = and_parts _ _ (either _ _ h e) in
        signed parts.0 (digits_run text parts.1)

-- marks
pub or_case : (P : Type 0) (x y : Bool) → (x || y) ≡ true → (x ≡ true → P) → (y ≡ true → P) → P
or_case P true y h p q = p refl
or_case P false y h p q = q h

-- what holds of each of these bytes holds of one that is among them
pub each_in : (P : ℕ → Type 0) (c : ℕ) (ks : List ℕ) → is_in c ks ≡ true → AllByRecursion P ks → P c
each_in P c [] h all = cc
each_in P c (k ∷ ks) h all =
    or_case (P c) (c == k) (is_in c ks) h (λ e. subst P (sym (eqb-true c k e)) all.0) (λ more. each_in P c ks more all.1)

mark_alone : (c : ℕ) (rest : List ℕ) → IsTrue (is_printed_mark c) → piece_of c rest ≡ token TokenKind.Mark 0
unfolding piece_of is_blank is_run_byte is_mark is_bracket
mark_alone c rest h =
    each_in (λ k. piece_of k rest ≡ token TokenKind.Mark 0) c (codes "()[]{},=") h (refl, (refl, (refl, (refl, (refl, (refl, (refl, (refl, tt))))))))

-- what has to follow a lexeme: nothing more than a mark, or what ends a token
abbrev pub Follows : Lexeme → List ℕ → Type 0
Follows (mark _) rest = Unit {0}
Follows _ rest = IsTrue (ends_token rest)

alone_gives :
    (b : ℕ) (more rest : List ℕ) (kind : TokenKind) (l : Lexeme) → IsTrue (ends_token rest) →
    IsTrue (is_firm b more (token kind (length more))) → piece_of b more ≡ token kind (length more) →
    lexeme_of kind (b ∷ more) ≡ l → Gives (b ∷ more) rest (l ∷ [])
alone_gives b more rest kind l ends firm h is =
    let at : IsTrue (is_firm b more (piece_of b more)) = rw h firm in
    subst (λ m. Gives (b ∷ more) rest (m ∷ [])) is (gives_token b more rest kind (piece_stops b more rest ends at ∙ h))

run_gives : (text rest : List ℕ) → IsTrue (ends_token rest) → (text ≡ [] → ⊥) → list_all is_run_byte text ≡ true →
    Gives text rest (cond (Words.is_number text) (number text) (word text) ∷ [])
run_gives [] rest ends some runs = absurd (some refl)
run_gives (b ∷ more) rest ends some runs = by_test (Words.is_number (b ∷ more)) (run_alone b more runs)
  where
    by_test :
        (t : Bool) → piece_of b more ≡ token (cond t TokenKind.Number TokenKind.Word) (length more) →
        Gives (b ∷ more) rest (cond t (number (b ∷ more)) (word (b ∷ more)) ∷ [])
    by_test true h = alone_gives b more rest TokenKind.Number _ ends refl h refl
    by_test false h = alone_gives b more rest TokenKind.Word _ ends refl h refl

number_gives : (text rest : List ℕ) → IsTrue (Words.is_number text) → IsTrue (ends_token rest) → Gives text rest (number text ∷ [])
number_gives [] rest h ends = cc
number_gives (b ∷ text) rest h ends =
    let some : b ∷ text ≡ [] → ⊥ = λ e. cc in
    let runs : list_all is_run_byte (b ∷ text) ≡ true = number_runs (b ∷ text) h in
    subst (λ t. Gives (b ∷ text) rest (cond t (number (b ∷ text)) (word (b ∷ text)) ∷ [])) h
    (run_gives (b ∷ text) rest ends some runs)

word_gives : (text rest : List ℕ) → IsRunWord text → IsTrue (ends_token rest) → Gives text rest (word text ∷ [])
word_gives text rest w ends =
    subst (λ t. Gives text rest (cond t (number text) (word text) ∷ [])) (not-true _ w.no_number)
    (run_gives text rest ends w.some w.runs)

label_is : (text name : List ℕ) → IsName text name → lexeme_of TokenKind.Label (text ++ byte ":" ∷ []) ≡ label name
label_is text name n = rw (but_last text (byte ":"), n.back) refl

label_gives :
    (name rest : List ℕ) → IsTrue (ends_token rest) → (name ≡ [] → ⊥) →
    Gives (name_text name ++ byte ":" ∷ []) rest (label name ∷ [])
label_gives name rest ends some = by_test (is_plain name) refl
  where
    plain : (bs : List ℕ) → (bs ≡ [] → ⊥) → list_all is_run_byte bs ≡ true → Gives (bs ++ byte ":" ∷ []) rest (label bs ∷ [])
    plain [] none e = absurd (none refl)
    plain (b ∷ bs) none e =
        alone_gives b (bs ++ byte ":" ∷ []) rest TokenKind.Label (label (b ∷ bs)) ends refl (plain_label b bs e)
        (label_is (b ∷ bs) (b ∷ bs) (plain_is_name b bs e))

    by_test : (t : Bool) → is_plain name ≡ t → Gives (cond t name (quoted_text name) ++ byte ":" ∷ []) rest (label name ∷ [])
    by_test true h = plain name some (and_parts _ _ h).0
    by_test false h =
        alone_gives (byte "\"") ((flat_map byte_text name ++ byte "\"" ∷ []) ++ byte ":" ∷ []) rest TokenKind.Label (label name) ends refl
        (quoted_label name) (label_is (quoted_text name) name (quoted_is_name name some (not_digits name h)))

pub lexed_gives : (l : Lexeme) (rest : List ℕ) → IsLexed l → Follows l rest → Gives (lexeme_text l) rest (l ∷ [])
lexed_gives (local name) rest lexed ends =
    let n : IsName (name_text name) name = name_is name lexed in
    alone_gives (byte "%") (name_text name) rest TokenKind.Local (local name) ends refl (local_alone _ name n) (rw n.back refl)
lexed_gives (global name) rest lexed ends =
    let n : IsName (name_text name) name = name_is name lexed in
    alone_gives (byte "@") (name_text name) rest TokenKind.Global (global name) ends refl (global_alone _ name n) (rw n.back refl)
lexed_gives (label name) rest lexed ends = label_gives name rest ends lexed
lexed_gives (number text) rest lexed ends = number_gives text rest lexed ends
lexed_gives (word text) rest lexed ends = word_gives text rest lexed ends
lexed_gives (mark c) rest lexed ends = gives_token c [] rest TokenKind.Mark (mark_alone c rest lexed)
lexed_gives _ rest lexed ends = absurd lexed
