-- What a loop has read so far, before what is left to read.
use Rattle.std.proofs.Common.{◌≡◌, ℕ, List, [], ◌∷◌, ◌++◌, Result, Ok, Err, refl, sym, ap, ◌∙◌, append_assoc, append-nil, subst, length, drop, IsErrAnd}
use Rattle.vfa_ir.specs.Lexemes.{Lexeme}
use Rattle.vfa_read.specs.declared.stops.Stop.{Stop}
use Rattle.vfa_read.specs.Readers.{◌>>=◌, Gives}

abbrev pub with_prefix : {A : Type 0} → List A → Result (List A × List Lexeme) ℕ → Result (List A × List Lexeme) ℕ
with_prefix prefix read = read >>= λ q. Ok (prefix ++ q.0, q.1)

pub prefix_none_read : {A : Type 0} (read : Result (List A × List Lexeme) ℕ) → with_prefix [] read ≡ read
prefix_none_read (Ok q) = refl
prefix_none_read (Err n) = refl

pub prefix_done : {A : Type 0} (prefix : List A) (ts : List Lexeme) (read : Result (List A × List Lexeme) ℕ) → read ≡ Ok ([], ts) → with_prefix prefix read ≡ Ok (prefix, ts)
prefix_done prefix ts read e = ap (with_prefix prefix) e ∙ ap (λ z. Ok (z, ts)) (append-nil prefix)

prefix_more : {A : Type 0} (prefix : List A) (x : A) (rest : Result (List A × List Lexeme) ℕ) → with_prefix prefix (rest >>= λ q. Ok (x ∷ q.0, q.1)) ≡ with_prefix (prefix ++ (x ∷ [])) rest
prefix_more prefix x (Ok q) = ap (λ z. Ok (z, q.1)) (sym (append_assoc prefix (x ∷ []) q.0))
prefix_more prefix x (Err n) = refl

pub prefix_item : {A : Type 0} (prefix : List A) (x : A) (read rest : Result (List A × List Lexeme) ℕ) → read ≡ (rest >>= λ q. Ok (x ∷ q.0, q.1)) → with_prefix prefix read ≡ with_prefix (prefix ++ (x ∷ [])) rest
prefix_item prefix x read rest e = ap (with_prefix prefix) e ∙ prefix_more prefix x rest

pub prefix_bad : {A : Type 0} (prefix : List A) (n : ℕ) (read : Result (List A × List Lexeme) ℕ) → read ≡ Err n → with_prefix prefix read ≡ Err n
prefix_bad prefix n read e = ap (with_prefix prefix) e

-- what stops an item stops what it stands in
pub stops_through : {A B : Type 0} (all : List Lexeme) (e : Stop) (item : Result (A × List Lexeme) ℕ) (read : Result (B × List Lexeme) ℕ) → ((n : ℕ) → item ≡ Err n → read ≡ Err n) → Gives {A = A} all (Err e) item → Gives {A = B} all (Err e) read
stops_through all (Stop.At place) item read h g = h (length (drop place all)) g
stops_through all Stop.Memory item read h g = tt

pub gives_error : {B : Type 0} (all : List Lexeme) (e : Stop) (r : Result (B × ℕ) Stop) (read : Result (B × List Lexeme) ℕ) → IsErrAnd r (λ y. y ≡ e) → Gives {A = B} all (Err e) read → Gives {A = B} all r read
gives_error all e (Ok x) read h g = elim h [ ]
gives_error all e (Err y) read h g = subst (λ z. Gives all (Err z) read) (sym h) g
