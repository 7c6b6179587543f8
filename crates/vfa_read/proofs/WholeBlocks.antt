-- Reading a block, and the blocks after the first one, is exact.
use Rattle.std.proofs.Common.{◌≡◌, ℕ, ◌<◌, Bool, true, false, not, List, [], ◌∷◌, ◌++◌, flat_map, length, Option, Some, None, Ok, Err, ◌⊎◌, codes, refl, sym, ap, ◌∙◌, subst, append_assoc}
use Rattle.vfa_ir.specs.declared.syntax.BasicBlock.{BasicBlock}
use Rattle.vfa_read.specs.declared.lines.Line.{Line}
use Rattle.vfa_ir.specs.declared.syntax.Terminator.{Terminator}
use Rattle.vfa_ir.specs.declared.syntax.TerminatorKind.{TerminatorKind}
use Rattle.vfa_ir.specs.Lexemes.{Lexeme, local, label, nameless_local, nameless_label, word}
use Rattle.vfa_ir.specs.Grammar.{FitsTerminator, FitsBlock}
use Rattle.vfa_ir.specs.Spelling as spell
use Rattle.vfa_read.specs.Items as items
use Rattle.vfa_read.specs.Items.{FitsLines}
use Rattle.vfa_read.specs.declared.lines.BlockLines.{BlockLines}
use Rattle.vfa_read.specs.Productions.{same_state, terminator, starts_line, starts_label, block_lines, block_of, block_rest, block_with, written_label, entry_label, further_blocks}
use Rattle.vfa_read.specs.Readers.{Reader, one, after, made, next_passes, ◌>>=◌}
use Rattle.vfa_read.specs.Tables.{label_name}
use Rattle.vfa_read.proofs.BlockReaders.{BlockLinesFit, block_lines_exact, block_lines_follow, block_lines_spelling, end_follow, terminator_exact, line_then, line_begins, lines_from, lines_follow, lines_in, lines_in_fit, lines_spelled}
use Rattle.vfa_read.proofs.Exact.{Exact, Made, anything, may, may_anything, after_exact, made_exact, optional_exact, fits_exact}
use Rattle.vfa_read.proofs.LeafReaders.{label_exact}
use Rattle.vfa_read.proofs.LineReaders.{line_follow}
use Rattle.vfa_read.proofs.WordLists.{last_any}
use Rattle.vfa_read.proofs.Many.{Begins, FitsFrom, follow_many, follow_last, many_exact, many_item, many_bad, many_done, shorter}

-- a terminator may follow lines

last_word : (ls : List Line) (w : List ℕ) → follow_last line_follow ls (word w) ≡ true
last_word [] w = refl
last_word (x ∷ []) w = line_then x (word w) refl refl
last_word (x ∷ y ∷ ys) w = last_word (y ∷ ys) w

end_joins : (ls : List Line) (t : TerminatorKind) (later : List Lexeme) → may (lines_follow ls) (spell.terminator_kind t ++ later) ≡ true
end_joins ls (TerminatorKind.Return w a) later = last_word ls (codes "ret")
end_joins ls (TerminatorKind.Always to) later = last_word ls (codes "br")
end_joins ls (TerminatorKind.Condition c t e) later = last_word ls (codes "br")
end_joins ls (TerminatorKind.Switch w on d cs) later = last_word ls (codes "switch")
end_joins ls TerminatorKind.Unreachable later = last_word ls (codes "unreachable")

-- no line and no terminator begins with a label

no_label : (l : Lexeme) → starts_line l ≡ true → starts_label l ≡ false
no_label (local n) e = refl
no_label nameless_local e = refl
no_label (word w) e = refl
no_label _ e = cc

kind_no_label : (t : TerminatorKind) (later : List Lexeme) → may (λ l. not (starts_label l)) (spell.terminator_kind t ++ later) ≡ true
kind_no_label (TerminatorKind.Return w a) later = refl
kind_no_label (TerminatorKind.Always to) later = refl
kind_no_label (TerminatorKind.Condition c t e) later = refl
kind_no_label (TerminatorKind.Switch w on d cs) later = refl
kind_no_label TerminatorKind.Unreachable later = refl

terminator_no_label : (t : Terminator) (rest : List Lexeme) → may (λ l. not (starts_label l)) (spell.terminator t ++ rest) ≡ true
terminator_no_label t rest = ap (may (λ l. not (starts_label l))) (append_assoc (spell.terminator_kind t.kind) (spell.attachments t.attached) rest) ∙ kind_no_label t.kind (spell.attachments t.attached ++ rest)

begun : (ls later : List Lexeme) → Begins starts_line ls → may (λ l. not (starts_label l)) (ls ++ later) ≡ true
begun ls later b = ap (λ z. may (λ l. not (starts_label l)) (z ++ later)) b.is ∙ ap not (no_label b.head b.passes)

lines_no_label : (ls : List Line) (t : Terminator) (rest : List Lexeme) → FitsLines true ls → may (λ l. not (starts_label l)) ((flat_map items.line ls ++ spell.terminator t) ++ rest) ≡ true
lines_no_label [] t rest f = terminator_no_label t rest
lines_no_label (x ∷ xs) t rest f =
    let others : List Lexeme = flat_map items.line xs in
    ap (may (λ l. not (starts_label l))) (append_assoc (items.line x ++ others) (spell.terminator t) rest ∙ append_assoc (items.line x) others (spell.terminator t ++ rest))
    ∙ begun (items.line x) (others ++ (spell.terminator t ++ rest)) (line_begins true x (lines_from true (x ∷ xs) f).0)

block_no_label : (b : BlockLines) (t : Terminator) (rest : List Lexeme) → BlockLinesFit b → may (λ l. not (starts_label l)) ((block_lines_spelling b ++ spell.terminator t) ++ rest) ≡ true
block_no_label b t rest f =
    ap (λ z. may (λ l. not (starts_label l)) ((z ++ spell.terminator t) ++ rest)) (sym (lines_spelled b.phis b.instructions))
    ∙ lines_no_label (lines_in b) t rest (lines_in_fit b f)

-- labels

pub written_label_exact : Exact written_label spell.block_label (Made Some (λ _. Unit {0})) anything
written_label_exact = made_exact Some (one label_name) (λ x. label x ∷ []) (λ _. Unit {0}) anything spell.block_label anything label_exact (λ a f. refl) (λ a f. refl)

abbrev entry_follow : Option (List ℕ) → Lexeme → Bool
entry_follow None l = not (starts_label l)
entry_follow (Some _) l = true

some_label_exact : Exact written_label spell.block_label (Made Some (λ _. Unit {0})) entry_follow
some_label_exact = made_exact Some (one label_name) (λ x. label x ∷ []) (λ _. Unit {0}) anything spell.block_label entry_follow label_exact (λ a f. refl) (λ a f. refl)

pub entry_label_exact : Exact entry_label spell.block_label (λ o. Made Some (λ _. Unit {0}) o ⊎ (o ≡ None)) entry_follow
entry_label_exact = optional_exact starts_label written_label None spell.block_label (Made Some (λ _. Unit {0})) entry_follow some_label_exact refl refl
    (λ o rest m. ap (λ z. next_passes starts_label (spell.block_label z ++ rest)) (sym m.is))

-- blocks

abbrev BlockParts : Type 0
BlockParts = Option (List ℕ) × (BlockLines × Terminator)

abbrev pub block_follow : BasicBlock → Lexeme → Bool
block_follow b = end_follow b.terminator

abbrev block_rest_spelling : BlockLines × Terminator → List Lexeme
block_rest_spelling q = block_lines_spelling q.0 ++ spell.terminator q.1

abbrev BlockRestFits : BlockLines × Terminator → Type 0
BlockRestFits q = BlockLinesFit q.0 × FitsTerminator q.1

pub block_rest_exact : Exact block_rest block_rest_spelling BlockRestFits (λ q. end_follow q.1)
block_rest_exact = after_exact block_lines (λ _. terminator) block_lines_spelling BlockLinesFit block_lines_follow (λ _ t. spell.terminator t) (λ _ t. FitsTerminator t) (λ _ t. end_follow t)
    block_lines_exact (λ _ _. terminator_exact)
    (λ b t rest f g m. ap (may (block_lines_follow b)) (append_assoc (spell.terminator_kind t.kind) (spell.attachments t.attached) rest) ∙ end_joins (lines_in b) t.kind (spell.attachments t.attached ++ rest))

pub block_spelled : (p : BlockParts) → spell.block (block_of p) ≡ spell.block_label p.0 ++ block_rest_spelling p.1
block_spelled p =
    let phis = flat_map spell.phi p.1.0.phis in
    ap (λ z. spell.block_label p.0 ++ z) (sym (append_assoc phis (flat_map spell.instruction p.1.0.instructions) (spell.terminator p.1.1)))

module _ (label_reader : Reader (Option (List ℕ))) (FL : Option (List ℕ) → Type 0) (fl : Option (List ℕ) → Lexeme → Bool)
    (el : Exact label_reader spell.block_label FL fl)
    (joins : (o : Option (List ℕ)) (b : BlockLines) (t : Terminator) (rest : List Lexeme) → FL o → BlockLinesFit b → may (fl o) ((block_lines_spelling b ++ spell.terminator t) ++ rest) ≡ true) where
  abbrev PartsFit : BlockParts → Type 0
  PartsFit p = FL p.0 × BlockRestFits p.1

  abbrev BlockFits : BasicBlock → Type 0
  BlockFits b = FL b.label × FitsBlock b

  block_exact : Exact (block_with label_reader) spell.block BlockFits block_follow
  unfolding block_with
  block_exact = fits_exact (made block_of (after label_reader (λ _. block_rest))) spell.block (Made block_of PartsFit) BlockFits block_follow
      (made_exact block_of (after label_reader (λ _. block_rest)) (λ p. spell.block_label p.0 ++ block_rest_spelling p.1) PartsFit (λ p. end_follow p.1.1) spell.block block_follow
      (after_exact label_reader (λ _. block_rest) spell.block_label FL fl (λ _ q. block_rest_spelling q) (λ _ q. BlockRestFits q) (λ _ q. end_follow q.1)
      el (λ _ _. block_rest_exact) (λ o q rest f g m. joins o q.0 q.1 rest f g.0))
      (λ p f. block_spelled p) (λ p f. refl))
      (λ b m. subst BlockFits m.is (m.fits.0, record { phis = m.fits.1.0.phis; instructions = m.fits.1.0.instructions; terminator = m.fits.1.1 }))
      (λ b f. record {
        from = (b.label, (record { phis = b.phis; instructions = b.instructions }, b.terminator));
        fits = (f.0, (record { phis = f.1.phis; instructions = f.1.instructions }, f.1.terminator));
        is = refl;
      })

-- a block with its label

abbrev pub LabelledFits : BasicBlock → Type 0
LabelledFits b = Made Some (λ _. Unit {0}) b.label × FitsBlock b

pub labelled_exact : Exact (block_with written_label) spell.block LabelledFits block_follow
labelled_exact = block_exact written_label (Made Some (λ _. Unit {0})) anything written_label_exact (λ o b t rest f g. may_anything o ((block_lines_spelling b ++ spell.terminator t) ++ rest))

block_begins : (s : Unit {0}) (b : BasicBlock) → LabelledFits b → Begins starts_label (spell.block b)
block_begins s b f =
    let more : List Lexeme = flat_map spell.phi b.phis ++ (flat_map spell.instruction b.instructions ++ spell.terminator b.terminator) in
    record {
      head = label f.0.from;
      more = more;
      is = ap (λ z. spell.block_label z ++ more) (sym f.0.is);
      passes = refl;
    }

block_joins : (b : BasicBlock) (l : Lexeme) → starts_label l ≡ true → block_follow b l ≡ true
block_joins b (label n) e = last_any b.terminator.attached (label n)
block_joins b nameless_label e = last_any b.terminator.attached nameless_label
block_joins b _ e = cc

abbrev pub blocks_follow : List BasicBlock → Lexeme → Bool
blocks_follow = follow_many starts_label block_follow

pub further_exact : Exact further_blocks (flat_map spell.block) (FitsFrom {S = Unit {0}} (λ _. LabelledFits) same_state tt) blocks_follow
unfolding further_blocks
further_exact = many_exact starts_label (λ _. block_with written_label) same_state spell.block (λ _. LabelledFits) block_follow (λ _. labelled_exact) block_begins block_joins tt

pub blocks_done : (ts : List Lexeme) → next_passes starts_label ts ≡ false → further_blocks ts ≡ Ok ([], ts)
unfolding further_blocks
blocks_done ts t = many_done starts_label (λ _. block_with written_label) same_state spell.block (λ _. LabelledFits) block_follow (λ _. labelled_exact) block_begins block_joins tt ts t

pub blocks_item : (ts rest : List Lexeme) (x : BasicBlock) → next_passes starts_label ts ≡ true → block_with written_label ts ≡ Ok (x, rest) → further_blocks ts ≡ (further_blocks rest >>= λ q. Ok (x ∷ q.0, q.1))
unfolding further_blocks
blocks_item ts rest x t e = many_item starts_label (λ _. block_with written_label) same_state spell.block (λ _. LabelledFits) block_follow (λ _. labelled_exact) block_begins block_joins tt ts rest x t e

pub blocks_bad : (ts : List Lexeme) (k : ℕ) → next_passes starts_label ts ≡ true → block_with written_label ts ≡ Err k → further_blocks ts ≡ Err k
unfolding further_blocks
blocks_bad ts k t e = many_bad starts_label (λ _. block_with written_label) same_state spell.block (λ _. LabelledFits) block_follow (λ _. labelled_exact) block_begins block_joins tt ts k t e

pub block_shorter : (ts rest : List Lexeme) (x : BasicBlock) → block_with written_label ts ≡ Ok (x, rest) → length rest < length ts
block_shorter ts rest x e = shorter starts_label (λ _. block_with written_label) same_state spell.block (λ _. LabelledFits) block_follow (λ _. labelled_exact) block_begins block_joins tt ts rest x e

-- the first block

abbrev pub EntryFits : BasicBlock → Type 0
EntryFits b = (Made Some (λ _. Unit {0}) b.label ⊎ (b.label ≡ None)) × FitsBlock b

entry_joins : (o : Option (List ℕ)) (b : BlockLines) (t : Terminator) (rest : List Lexeme) → BlockLinesFit b → may (entry_follow o) ((block_lines_spelling b ++ spell.terminator t) ++ rest) ≡ true
entry_joins None b t rest g = block_no_label b t rest g
entry_joins (Some n) b t rest g = may_anything (Some n) ((block_lines_spelling b ++ spell.terminator t) ++ rest)

pub entry_exact : Exact (block_with entry_label) spell.block EntryFits block_follow
entry_exact = block_exact entry_label (λ o. Made Some (λ _. Unit {0}) o ⊎ (o ≡ None)) entry_follow entry_label_exact (λ o b t rest f g. entry_joins o b t rest g)
