-- Readers: what stands at the beginning of a list of lexemes and the lexemes after it, or how many lexemes are left at the
-- first one that cannot stand there.
use Rattle.std.specs.Prelude.{◌≡◌, drop, ℕ, zero, suc, Bool, false, if◌then◌else◌, List, [], ◌∷◌, length, Option, Some, None, Result, Ok, Err}
use Rattle.vfa_ir.specs.Lexemes.{Lexeme}
use Rattle.vfa_read.specs.declared.stops.Stop.{Stop}

abbrev pub Reader : Type 0 → Type 0
Reader A = List Lexeme → Result (A × List Lexeme) ℕ

infixl 10 ◌>>=◌
abbrev pub ◌>>=◌ : {A B : Type 0} → Result A ℕ → (A → Result B ℕ) → Result B ℕ
(Ok x) >>= f = f x
(Err n) >>= f = Err n

-- one lexeme, by what it gives
abbrev pub given : {A : Type 0} → Option A → List Lexeme → Result (A × List Lexeme) ℕ
given None rest = Err (suc (length rest))
given (Some x) rest = Ok (x, rest)

abbrev pub one : {A : Type 0} → (Lexeme → Option A) → Reader A
one table [] = Err 0
one table (l ∷ rest) = given (table l) rest

-- nothing
abbrev pub nothing : {A : Type 0} → A → Reader A
nothing x ts = Ok (x, ts)

-- one after the other, which may depend on it
abbrev pub after : {A B : Type 0} → Reader A → (A → Reader B) → Reader (A × B)
after first second ts = first ts >>= λ p. second p.0 p.1 >>= λ q. Ok ((p.0, q.0), q.1)

-- made from what is read
abbrev pub made : {A B : Type 0} → (A → B) → Reader A → Reader B
made f read ts = read ts >>= λ p. Ok (f p.0, p.1)

-- after a lexeme that tells nothing, or before one
abbrev pub skip : {A : Type 0} → (Lexeme → Option (Unit {0})) → Reader A → Reader A
skip table read ts = one table ts >>= λ p. read p.1

abbrev pub ended : {A : Type 0} → Reader A → (Lexeme → Option (Unit {0})) → Reader A
ended read table ts = read ts >>= λ p. one table p.1 >>= λ q. Ok (p.0, q.1)

-- by a test of the next lexeme
abbrev pub next_passes : (Lexeme → Bool) → List Lexeme → Bool
next_passes test [] = false
next_passes test (l ∷ _) = test l

abbrev pub choose : {A : Type 0} → (Lexeme → Bool) → Reader A → Reader A → Reader A
choose test yes_reader no_reader ts = if next_passes test ts then yes_reader ts else no_reader ts

-- any number, each beginning with a lexeme that passes the test; what may come depends on what came before
abbrev pub repeated : {S A : Type 0} → (Lexeme → Bool) → (S → Reader A) → (S → A → S) → ℕ → S → Reader (List A)
repeated starts item step zero s ts = Ok ([], ts)
repeated starts item step (suc n) s ts =
    if next_passes starts ts
    then (item s ts >>= λ p. repeated starts item step n (step s p.0) p.1 >>= λ q. Ok (p.0 ∷ q.0, q.1))
    else Ok ([], ts)

abbrev pub many : {S A : Type 0} → (Lexeme → Bool) → (S → Reader A) → (S → A → S) → S → Reader (List A)
many starts item step s ts = repeated starts item step (length ts) s ts

-- What a function returns, where all are the lexemes of the text: the value and the place after it, or the place of
-- the first lexeme that cannot stand there, unless memory ran out.
abbrev pub Gives : {A : Type 0} → List Lexeme → Result (A × ℕ) Stop → Result (A × List Lexeme) ℕ → Type 0
Gives all (Ok p) read = read ≡ Ok (p.0, drop p.1 all)
Gives all (Err (Stop.At place)) read = read ≡ Err (length (drop place all))
Gives all (Err Stop.Memory) read = Unit {0}

-- the same of a reader whose value tells nothing
abbrev pub Passes : List Lexeme → Result ℕ Stop → Result (Unit {0} × List Lexeme) ℕ → Type 0
Passes all (Ok place) read = read ≡ Ok (tt, drop place all)
Passes all (Err (Stop.At place)) read = read ≡ Err (length (drop place all))
Passes all (Err Stop.Memory) read = Unit {0}
