-- What a loop has read so far, kept as the parts that it is split into, before what is left to read.
use Rattle.std.proofs.Common.{◌≡◌, ℕ, List, [], ◌∷◌, ◌++◌, Result, Ok, Err, refl, sym, ap, ◌∙◌, append_assoc, append-nil}
use Rattle.std.proofs.lemmas.List.Elements.{filter_map-append}
use Rattle.vfa_ir.specs.Lexemes.{Lexeme}
use Rattle.vfa_read.specs.declared.lines.BlockLines.{BlockLines}
use Rattle.vfa_read.specs.declared.lines.Line.{Line}
use Rattle.vfa_read.specs.declared.phis.PhiPart.{PhiPart}
use Rattle.vfa_read.specs.declared.phis.PhiParts.{PhiParts}
use Rattle.vfa_read.specs.Items.{attachments_of, entries_of, instructions_of, line_instruction, line_phi, part_attachment, part_entry, phis_of}
use Rattle.vfa_read.specs.Readers.{◌>>=◌}

module _ {A B : Type 0} (add : B → List A → B) (none : (b : B) → add b [] ≡ b) (one_more : (b : B) (x : A) (xs : List A) → add b (x ∷ xs) ≡ add (add b (x ∷ [])) xs) where
  abbrev pub added : B → Result (List A × List Lexeme) ℕ → Result (B × List Lexeme) ℕ
  added b read = read >>= λ q. Ok (add b q.0, q.1)

  pub added_done : (b : B) (ts : List Lexeme) (read : Result (List A × List Lexeme) ℕ) → read ≡ Ok ([], ts) → added b read ≡ Ok (b, ts)
  added_done b ts read e = ap (added b) e ∙ ap (λ z. Ok (z, ts)) (none b)

  added_more : (b : B) (x : A) (rest : Result (List A × List Lexeme) ℕ) → added b (rest >>= λ q. Ok (x ∷ q.0, q.1)) ≡ added (add b (x ∷ [])) rest
  added_more b x (Ok q) = ap (λ z. Ok (z, q.1)) (one_more b x q.0)
  added_more b x (Err n) = refl

  pub added_item : (b : B) (x : A) (read rest : Result (List A × List Lexeme) ℕ) → read ≡ (rest >>= λ q. Ok (x ∷ q.0, q.1)) → added b read ≡ added (add b (x ∷ [])) rest
  added_item b x read rest e = ap (added b) e ∙ added_more b x rest

  pub added_bad : (b : B) (n : ℕ) (read : Result (List A × List Lexeme) ℕ) → read ≡ Err n → added b read ≡ Err n
  added_bad b n read e = ap (added b) e

-- the parts of a phi

abbrev pub add_parts : PhiParts → List PhiPart → PhiParts
add_parts p ps = record { entries = p.entries ++ entries_of ps; attached = p.attached ++ attachments_of ps }

pub no_parts : (p : PhiParts) → add_parts p [] ≡ p
no_parts p = λ i. record { entries = append-nil p.entries i; attached = append-nil p.attached i }

one_then : {X : Type 0} (a b c d : List X) → c ≡ b ++ d → a ++ c ≡ (a ++ b) ++ d
one_then a b c d e = ap (λ z. a ++ z) e ∙ sym (append_assoc a b d)

pub one_part : (p : PhiParts) (x : PhiPart) (xs : List PhiPart) → add_parts p (x ∷ xs) ≡ add_parts (add_parts p (x ∷ [])) xs
one_part p x xs =
    let e = one_then p.entries (entries_of (x ∷ [])) (entries_of (x ∷ xs)) (entries_of xs) (filter_map-append part_entry (x ∷ []) xs) in
    let a = one_then p.attached (attachments_of (x ∷ [])) (attachments_of (x ∷ xs)) (attachments_of xs) (filter_map-append part_attachment (x ∷ []) xs) in
    λ i. record { entries = e i; attached = a i }

-- the lines of a block

abbrev pub add_lines : BlockLines → List Line → BlockLines
add_lines b ls = record { phis = b.phis ++ phis_of ls; instructions = b.instructions ++ instructions_of ls }

pub no_lines : (b : BlockLines) → add_lines b [] ≡ b
no_lines b = λ i. record { phis = append-nil b.phis i; instructions = append-nil b.instructions i }

pub one_line : (b : BlockLines) (x : Line) (xs : List Line) → add_lines b (x ∷ xs) ≡ add_lines (add_lines b (x ∷ [])) xs
one_line b x xs =
    let p = one_then b.phis (phis_of (x ∷ [])) (phis_of (x ∷ xs)) (phis_of xs) (filter_map-append line_phi (x ∷ []) xs) in
    let n = one_then b.instructions (instructions_of (x ∷ [])) (instructions_of (x ∷ xs)) (instructions_of xs) (filter_map-append line_instruction (x ∷ []) xs) in
    λ i. record { phis = p i; instructions = n i }
