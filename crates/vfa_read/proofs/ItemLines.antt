-- The lines of the items of a block, where tokens are read one after another.
use Rattle.std.proofs.Common.{◌≡◌, ℕ, zero, suc, ◌+◌, Bool, true, List, [], ◌∷◌, ◌++◌, length, map, drop, get_or, refl, sym, ap, ◌∙◌, arith, append_assoc, append-nil, length-append, length-drop, subst}
use Rattle.std.proofs.lemmas.List.{drop-drop, get_or-drop, length-map, map-append}
use Rattle.vfa_ir.specs.declared.syntax.Instruction.{Instruction}
use Rattle.vfa_ir.specs.declared.syntax.PhiNode.{PhiNode}
use Rattle.vfa_ir.specs.Lexemes.{Lexeme}
use Rattle.vfa_ir.specs.Spelling as spell
use Rattle.vfa_ir.specs.TextLines.{first_lines}
use Rattle.vfa_ir.specs.TokenLexemes.{token_lexeme}
use Rattle.vfa_read.specs.declared.lines.BlockLines.{BlockLines}
use Rattle.vfa_read.specs.declared.lines.Line.{Line}
use Rattle.vfa_read.specs.declared.source.Source.{Source}
use Rattle.vfa_read.specs.Items as items
use Rattle.vfa_read.specs.Items.{instructions_of, line_lengths, phis_of}
use Rattle.vfa_read.specs.Productions.{still_phis}
use Rattle.vfa_read.specs.Seen.{all_of, line_numbers}
use Rattle.vfa_read.proofs.Accumulated.{add_lines}
use Rattle.vfa_read.proofs.BlockLines.{LineFits}

drop_none : {X : Type 0} (n : ℕ) → drop {A = X} n [] ≡ []
drop_none zero = refl
drop_none (suc n) = refl

-- two ends of a list that are as long are the same
same_end : {X : Type 0} (xs : List X) (a b : ℕ) → length (drop a xs) ≡ length (drop b xs) → drop a xs ≡ drop b xs
same_end [] a b e = drop_none a ∙ sym (drop_none b)
same_end (x ∷ xs) zero zero e = refl
same_end (x ∷ xs) zero (suc b) e = let short = length-drop b xs in absurd (omega arith)
same_end (x ∷ xs) (suc a) zero e = let short = length-drop a xs in absurd (omega arith)
same_end (x ∷ xs) (suc a) (suc b) e = same_end xs a b e

-- after these lexemes the lines are those after as many
pub moved :
    (s : Source) (at next : ℕ) (ls : List Lexeme) → drop at (all_of s) ≡ ls ++ drop next (all_of s) →
    drop next (line_numbers s) ≡ drop (length ls) (drop at (line_numbers s))
moved s at next ls e =
    let all = all_of s in
    let numbers = line_numbers s in
    let same : length all ≡ length numbers = length-map s.tokens.now (token_lexeme s.bytes.now) ∙ sym (length-map s.tokens.now (λ t. t.line)) in
    let total : length (drop at all) ≡ length ls + length (drop next all) = ap length e ∙ length-append ls (drop next all) in
    let a = length-drop at all in
    let n = length-drop next all in
    let p = length-drop next numbers in
    let q = length-drop (at + length ls) numbers in
    same_end numbers next (at + length ls) (omega arith) ∙ sym (drop-drop (length ls) at numbers)

abbrev pub total : List ℕ → ℕ
total [] = 0
total (n ∷ ns) = n + total ns

pub lines_more : (ns : List ℕ) (n : ℕ) (numbers : List ℕ) → first_lines (ns ++ n ∷ []) numbers ≡ first_lines ns numbers ++ get_or (drop (total ns) numbers) 0 0 ∷ []
lines_more [] n numbers = refl
lines_more (m ∷ ns) n numbers =
    ap (λ z. get_or numbers 0 0 ∷ z) (lines_more ns n (drop m numbers) ∙ ap (λ z. first_lines ns (drop m numbers) ++ get_or z 0 0 ∷ []) (drop-drop (total ns) m numbers))

pub total_more : (ns : List ℕ) (n : ℕ) → total (ns ++ n ∷ []) ≡ total ns + n
total_more [] n = omega arith
total_more (m ∷ ns) n = ap (λ z. m + z) (total_more ns n) ∙ omega arith

-- a line more

abbrev phi_length : PhiNode → ℕ
phi_length p = length (spell.phi p)

abbrev instruction_length : Instruction → ℕ
instruction_length i = length (spell.instruction i)

pub one_length : (s : Bool) (b : BlockLines) (x : Line) → LineFits s x → (s ≡ true → b.instructions ≡ []) →
    line_lengths (record { phis = b.phis ++ phis_of (x ∷ []); instructions = b.instructions ++ instructions_of (x ∷ []) }) ≡ line_lengths b ++ length (items.line x) ∷ []
one_length s b (Line.Phi p) f first =
    let none : b.instructions ≡ [] = first f.0 in
    ap (λ z. map phi_length (b.phis ++ p ∷ []) ++ map instruction_length (z ++ [])) none
    ∙ append-nil (map phi_length (b.phis ++ p ∷ [])) ∙ map-append phi_length b.phis (p ∷ [])
    ∙ ap (λ z. z ++ phi_length p ∷ []) (sym (append-nil (map phi_length b.phis)) ∙ ap (λ z. map phi_length b.phis ++ map instruction_length z) (sym none))
one_length s b (Line.Plain i) f first =
    ap (λ z. map phi_length z ++ map instruction_length (b.instructions ++ i ∷ [])) (append-nil b.phis)
    ∙ ap (λ z. map phi_length b.phis ++ z) (map-append instruction_length b.instructions (i ∷ []))
    ∙ sym (append_assoc (map phi_length b.phis) (map instruction_length b.instructions) (instruction_length i ∷ []))

pub still_first : (s : Bool) (b : BlockLines) (x : Line) → (s ≡ true → b.instructions ≡ []) → still_phis s x ≡ true → b.instructions ++ instructions_of (x ∷ []) ≡ []
still_first s b (Line.Phi p) first e = append-nil b.instructions ∙ first e
still_first s b (Line.Plain i) first e = cc

-- what is counted of the lines that were read
pub record Counted (s : Source) (from at : ℕ) (old numbers : List ℕ) (b : BlockLines) : Type 0 where
  pub are : numbers ≡ old ++ first_lines (line_lengths b) (drop from (line_numbers s))
  pub place : drop at (line_numbers s) ≡ drop (total (line_lengths b)) (drop from (line_numbers s))

pub counted_more :
    (s : Source) (from at next : ℕ) (first : Bool) (old numbers after : List ℕ) (b : BlockLines) (x : Line) →
    Counted s from at old numbers b → (first ≡ true → b.instructions ≡ []) → LineFits first x →
    drop at (all_of s) ≡ items.line x ++ drop next (all_of s) → after ≡ numbers ++ get_or (line_numbers s) at 0 ∷ [] →
    Counted s from next old after (add_lines b (x ∷ []))
counted_more s from at next first old numbers after b x c alone fits read pushed =
    let all = line_numbers s in
    let start = drop from all in
    let ns = line_lengths b in
    let n = length (items.line x) in
    let longer = one_length first b x fits alone in
    let here : get_or all at 0 ≡ get_or (drop (total ns) start) 0 0 = ap (λ k. get_or all k 0) (omega arith) ∙ sym (get_or-drop at all 0 0) ∙ ap (λ z. get_or z 0 0) c.place in
    let more = lines_more ns n start in
    record {
      are = pushed ∙ ap (λ z. z ++ get_or all at 0 ∷ []) c.are ∙ append_assoc old (first_lines ns start) (get_or all at 0 ∷ [])
          ∙ ap (λ z. old ++ (first_lines ns start ++ z ∷ [])) here ∙ ap (λ z. old ++ z) (sym more) ∙ ap (λ z. old ++ first_lines z start) (sym longer);
      place = moved s at next (items.line x) read ∙ ap (drop n) c.place ∙ drop-drop n (total ns) start
          ∙ ap (λ z. drop z start) (sym (total_more ns n)) ∙ ap (λ z. drop (total z) start) (sym longer);
    }

-- after the lines come those of the terminator
pub counted_last : (s : Source) (from at : ℕ) (numbers : List ℕ) (b : BlockLines) → Counted s from at [] numbers b → (n : ℕ) →
    numbers ++ get_or (line_numbers s) at 0 ∷ [] ≡ first_lines (line_lengths b ++ n ∷ []) (drop from (line_numbers s))
counted_last s from at numbers b c n =
    let all = line_numbers s in
    let start = drop from all in
    let ns = line_lengths b in
    let here : get_or all at 0 ≡ get_or (drop (total ns) start) 0 0 = ap (λ k. get_or all k 0) (omega arith) ∙ sym (get_or-drop at all 0 0) ∙ ap (λ z. get_or z 0 0) c.place in
    ap (λ z. z ++ get_or all at 0 ∷ []) c.are ∙ ap (λ z. first_lines ns start ++ z ∷ []) here ∙ sym (lines_more ns n start)

-- before any line
pub no_lines_counted : (s : Source) (from : ℕ) (old : List ℕ) (b : BlockLines) → b ≡ record { phis = []; instructions = [] } → Counted s from from old old b
no_lines_counted s from old b is =
    subst (Counted s from from old old) (sym is) (record { are = sym (append-nil old); place = refl })
