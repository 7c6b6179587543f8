-- Reading words of a list is exact.
use Rattle.std.proofs.Common.{◌≡◌, ℕ, zero, suc, ◌<◌, ◌≤◌, Bool, true, false, not, ◌&&◌, List, [], ◌∷◌, map, flat_map, length, Some, Ok, Err, All, IsTrue, bytes_eq, decimal, refl, ap, subst, arith}
use Rattle.std.specs.List.{AllByRecursion}
use Rattle.std.specs.Str.Parse.{AllDigits}
use Rattle.std.proofs.lemmas.Fmt.{digits_decimal}
use Rattle.std.proofs.lemmas.List.Elements.{recursion_from_All, All-from_recursion}
use Rattle.std.proofs.lemmas.Str.Parse.{numerals_by_value, tells_digits}
use Rattle.vfa_ir.specs.Lexemes.{Lexeme, word}
use Rattle.vfa_ir.specs.Grammar.{AreWords, IsWidth}
use Rattle.vfa_ir.specs.Words.{is_among}
use Rattle.vfa_read.specs.Productions.{is_word_among, same_state, words_among}
use Rattle.vfa_read.specs.Readers.{one, many, next_passes, repeated, ◌>>=◌}
use Rattle.vfa_read.specs.Tables.{word_among}
use Rattle.vfa_read.proofs.Exact.{Exact, anything, one_exact, fits_exact, spelled_exact}
use Rattle.vfa_read.proofs.Many.{Begins, FitsFrom, follow_last, follow_many, many_exact, many_item, many_bad, shorter}
use Rattle.vfa_read.proofs.Words.{tested, same_itself, same_text}

abbrev pub words_follow : List (List ℕ) → List (List ℕ) → Lexeme → Bool
words_follow texts = follow_many (is_word_among texts) anything

module _ (texts : List (List ℕ)) (some : List ℕ) (some_among : IsTrue (is_among some texts)) where
  among_is : (l : Lexeme) (x : List ℕ) → word_among texts l ≡ Some x → l ≡ word x
  among_is (word w) x e = ap word (tested (is_among w texts) w x e).1
  among_is _ x e = cc

  among_fits : (l : Lexeme) (x : List ℕ) → word_among texts l ≡ Some x → IsTrue (is_among x texts)
  among_fits (word w) x e = let t = tested (is_among w texts) w x e in subst (λ z. IsTrue (is_among z texts)) t.1 t.0
  among_fits _ x e = cc

  among_exact : Exact (one (word_among texts)) (λ x. word x ∷ []) (λ x. IsTrue (is_among x texts)) anything
  among_exact = one_exact (word_among texts) word (λ x. IsTrue (is_among x texts)) among_is among_fits (λ x f. rw f refl) some some_among

  word_begins : (s : Unit {0}) (x : List ℕ) → IsTrue (is_among x texts) → Begins (is_word_among texts) (word x ∷ [])
  word_begins s x f = record { head = word x; more = []; is = refl; passes = f }

  words_to : (ws : List (List ℕ)) → FitsFrom {S = Unit {0}} (λ _ w. IsTrue (is_among w texts)) same_state tt ws → AllByRecursion (λ w. IsTrue (is_among w texts)) ws
  words_to [] f = tt
  words_to (w ∷ ws) f = (f.0, words_to ws f.1)

  words_from : (ws : List (List ℕ)) → AllByRecursion (λ w. IsTrue (is_among w texts)) ws → FitsFrom {S = Unit {0}} (λ _ w. IsTrue (is_among w texts)) same_state tt ws
  words_from [] f = tt
  words_from (w ∷ ws) f = (f.0, words_from ws f.1)

  each_word : (ws : List (List ℕ)) → flat_map (λ x. word x ∷ []) ws ≡ map word ws
  each_word [] = refl
  each_word (w ∷ ws) = ap (λ z. word w ∷ z) (each_word ws)

  pub words_exact : Exact (words_among texts) (map word) (AreWords texts) (words_follow texts)
  unfolding words_among
  words_exact =
      let read = many (is_word_among texts) (λ _. one (word_among texts)) same_state tt in
      let start = FitsFrom {S = Unit {0}} (λ _ w. IsTrue (is_among w texts)) same_state tt in
      let P : List ℕ → Type 0 = λ w. IsTrue (is_among w texts) in
      spelled_exact read (flat_map (λ x. word x ∷ [])) (map word) (All P) (follow_many (is_word_among texts) anything)
      (fits_exact read (flat_map (λ x. word x ∷ [])) start (All P) (follow_many (is_word_among texts) anything)
      (many_exact (is_word_among texts) (λ _. one (word_among texts)) same_state (λ x. word x ∷ []) (λ _ w. IsTrue (is_among w texts)) anything (λ _. among_exact) word_begins (λ x l e. refl) tt)
      (λ ws f. All-from_recursion P ws (words_to ws f)) (λ ws f. words_from ws (recursion_from_All P ws f)))
      (λ ws f. each_word ws)

  some_item : (ts rest : List Lexeme) (x : List ℕ) → next_passes (is_word_among texts) ts ≡ true → one (word_among texts) ts ≡ Ok (x, rest) → words_among texts ts ≡ (words_among texts rest >>= λ q. Ok (x ∷ q.0, q.1))
  unfolding words_among
  some_item ts rest x t e = many_item (is_word_among texts) (λ _. one (word_among texts)) same_state (λ x. word x ∷ []) (λ _ w. IsTrue (is_among w texts)) anything (λ _. among_exact) word_begins (λ x l e. refl) tt ts rest x t e

  some_bad : (ts : List Lexeme) (k : ℕ) → next_passes (is_word_among texts) ts ≡ true → one (word_among texts) ts ≡ Err k → words_among texts ts ≡ Err k
  unfolding words_among
  some_bad ts k t e = many_bad (is_word_among texts) (λ _. one (word_among texts)) same_state (λ x. word x ∷ []) (λ _ w. IsTrue (is_among w texts)) anything (λ _. among_exact) word_begins (λ x l e. refl) tt ts k t e

  some_shorter : (ts rest : List Lexeme) (x : List ℕ) → one (word_among texts) ts ≡ Ok (x, rest) → length rest < length ts
  some_shorter ts rest x e = shorter (is_word_among texts) (λ _. one (word_among texts)) same_state (λ x. word x ∷ []) (λ _ w. IsTrue (is_among w texts)) anything (λ _. among_exact) word_begins (λ x l e. refl) tt ts rest x e

-- a list of no words, of which none can be read

among_itself : (text : List ℕ) (texts : List (List ℕ)) → IsTrue (is_among text (text ∷ texts))
among_itself text texts = let e = same_itself text in rw e refl

no_words : (ts : List Lexeme) → next_passes (is_word_among []) ts ≡ true → ⊥
no_words [] e = cc
no_words (word w ∷ ts) e = cc
no_words (_ ∷ ts) e = cc

no_word : (ts rest : List Lexeme) (x : List ℕ) → one (word_among []) ts ≡ Ok (x, rest) → ⊥
no_word [] rest x e = cc
no_word (word w ∷ ts) rest x e = cc
no_word (_ ∷ ts) rest x e = cc

none_more : (texts : List (List ℕ)) (n : ℕ) (ts : List Lexeme) → next_passes (is_word_among texts) ts ≡ false →
    repeated {S = Unit {0}} (is_word_among texts) (λ _. one (word_among texts)) same_state n tt ts ≡ Ok ([], ts)
none_more texts zero ts t = refl
none_more texts (suc n) ts t = rw t refl

pub words_done : (texts : List (List ℕ)) (ts : List Lexeme) → next_passes (is_word_among texts) ts ≡ false → words_among texts ts ≡ Ok ([], ts)
unfolding words_among
words_done texts ts t = none_more texts (length ts) ts t

pub words_item : (texts : List (List ℕ)) (ts rest : List Lexeme) (x : List ℕ) → next_passes (is_word_among texts) ts ≡ true → one (word_among texts) ts ≡ Ok (x, rest) → words_among texts ts ≡ (words_among texts rest >>= λ q. Ok (x ∷ q.0, q.1))
words_item [] ts rest x t e = absurd (no_words ts t)
words_item (text ∷ texts) ts rest x t e = some_item (text ∷ texts) text (among_itself text texts) ts rest x t e

pub words_bad : (texts : List (List ℕ)) (ts : List Lexeme) (k : ℕ) → next_passes (is_word_among texts) ts ≡ true → one (word_among texts) ts ≡ Err k → words_among texts ts ≡ Err k
words_bad [] ts k t e = absurd (no_words ts t)
words_bad (text ∷ texts) ts k t e = some_bad (text ∷ texts) text (among_itself text texts) ts k t e

pub word_shorter : (texts : List (List ℕ)) (ts rest : List Lexeme) (x : List ℕ) → one (word_among texts) ts ≡ Ok (x, rest) → length rest < length ts
word_shorter [] ts rest x e = absurd (no_word ts rest x e)
word_shorter (text ∷ texts) ts rest x e = some_shorter (text ∷ texts) text (among_itself text texts) ts rest x e

-- what may follow words

pub last_any : {A : Type 0} (xs : List A) (l : Lexeme) → follow_last {A = A} anything xs l ≡ true
last_any [] l = refl
last_any (x ∷ []) l = refl
last_any (x ∷ y ∷ ys) l = last_any (y ∷ ys) l

pub and_first : (a b : Bool) → (a && b) ≡ true → a ≡ true
and_first true b e = refl
and_first false b e = cc

pub and_last : (a b : Bool) → (a && b) ≡ true → b ≡ true
and_last true b e = e
and_last false b e = cc

pub and_both : (a b : Bool) → a ≡ true → b ≡ true → (a && b) ≡ true
and_both a b p q = rw (p, q) refl

pub no_word_follows : (texts ws : List (List ℕ)) (l : Lexeme) → is_word_among texts l ≡ false → words_follow texts ws l ≡ true
no_word_follows texts ws l e = and_both (not (is_word_among texts l)) (follow_last {A = List ℕ} anything ws l) (ap not e) (last_any ws l)

-- no type is a word that goes on with a letter

pub no_letter : (w : ℕ) (cs : List ℕ) → IsWidth w → bytes_eq (decimal w) (110 ∷ cs) ≡ false
no_letter w cs h = go (bytes_eq (decimal w) (110 ∷ cs)) refl
  where
    no_digits : decimal w ≡ 110 ∷ cs → ⊥
    no_digits e =
        let low : 1 ≤ w = h.least in
        let high : w ≤ 128 = h.most in
        let d = digits_decimal (numerals_by_value (AllDigits 10) tells_digits) w (omega arith) in
        let bad = (subst (AllDigits 10) e d).0 in
        absurd (omega arith)

    go : (b : Bool) → bytes_eq (decimal w) (110 ∷ cs) ≡ b → bytes_eq (decimal w) (110 ∷ cs) ≡ false
    go true e = absurd (no_digits (same_text (decimal w) (110 ∷ cs) e))
    go false e = e
