-- A printed block is read as its lexemes.
use Rattle.std.proofs.Common.{◌≡◌, ℕ, List, [], ◌∷◌, ◌++◌, flat_map, Option, Some, None, codes, refl, sym, subst, ap, append_assoc}
use Rattle.std.proofs.lemmas.List.{append-nil}
use Rattle.std.proofs.lemmas.List.Elements.{recursion_from_All}
use Rattle.std.specs.List.{AllByRecursion}
use Rattle.vfa_ir.specs.declared.syntax.BasicBlock.{BasicBlock}
use Rattle.vfa_ir.specs.declared.syntax.SwitchCase.{SwitchCase}
use Rattle.vfa_ir.specs.declared.syntax.TerminatorKind.{TerminatorKind}
use Rattle.vfa_ir.specs.Lexemes.{Lexeme, label, word}
use Rattle.vfa_ir.specs.Spelling.{open_square, close_square, comma, typed, target, switch_case, terminator_kind, phi, instruction, block_label, terminator, attachments}
use Rattle.vfa_ir.specs.Spelling as spell
use Rattle.vfa_ir.specs.Tokens.{is_blank}
use Rattle.vfa_print.proofs.Found.{Gives, gives_more, gives_nothing}
use Rattle.vfa_print.proofs.Lexed.{IsLexed, IsLexedBlock}
use Rattle.vfa_print.proofs.PrintedLines.{blanks_give, line_gives}
use Rattle.vfa_print.specs.Layout.{text_line, indented, line_feed, switch_head, terminator_text, label_text, block_text, blocks_text}

pub all_split :
    {X : Type 0} (P : X → Type 0) (xs ys : List X) → AllByRecursion P (xs ++ ys) → AllByRecursion P xs × AllByRecursion P ys
all_split P [] ys h = (tt, h)
all_split P (x ∷ xs) ys h = let parts : AllByRecursion P xs × AllByRecursion P ys = all_split P xs ys h.1 in ((h.0, parts.0), parts.1)

all_flat :
    {A X : Type 0} (P : X → Type 0) (f : A → List X) (xs : List A) → AllByRecursion P (flat_map f xs) →
    AllByRecursion (λ a. AllByRecursion P (f a)) xs
all_flat P f [] h = tt
all_flat P f (x ∷ xs) h =
    let parts : AllByRecursion P (f x) × AllByRecursion P (flat_map f xs) = all_split P (f x) (flat_map f xs) h in
    (parts.0, all_flat P f xs parts.1)

-- texts one after the other
flat_gives :
    {A : Type 0} (P : A → Type 0) (text : A → List ℕ) (spelled : A → List Lexeme) →
    ((x : A) (rest : List ℕ) → P x → Gives (text x) rest (spelled x)) → (xs : List A) (rest : List ℕ) →
    AllByRecursion P xs → Gives (flat_map text xs) rest (flat_map spelled xs)
flat_gives P text spelled each [] rest h = gives_nothing rest
flat_gives P text spelled each (x ∷ xs) rest h =
    gives_more (text x) (flat_map text xs) rest (spelled x) (flat_map spelled xs) (each x _ h.0)
    (flat_gives P text spelled each xs rest h.1)

indented_gives : (ls : List Lexeme) (rest : List ℕ) → AllByRecursion IsLexed ls → Gives (indented ls) rest ls
unfolding is_blank
indented_gives ls rest lexed = line_gives (codes "  ") ls rest refl lexed

case_gives :
    (width : ℕ) (c : SwitchCase) (rest : List ℕ) → AllByRecursion IsLexed (switch_case width c) →
    Gives (text_line (codes "    ") (switch_case width c)) rest (switch_case width c)
unfolding is_blank
case_gives width c rest lexed = line_gives (codes "    ") (switch_case width c) rest refl lexed

-- a switch in its parts
switch_parts :
    (width : ℕ) (on : List Lexeme) (default : List ℕ) (rest : List Lexeme) →
    switch_head width on default ++ rest ≡ word (codes "switch") ∷ (on ++ (comma ∷ (target default ++ (open_square ∷ rest))))
switch_parts width on default rest =
    ap (λ ls. word (codes "switch") ∷ ls) (append_assoc on (comma ∷ (target default ++ (open_square ∷ []))) rest)

switch_gives :
    (width : ℕ) (on : List Lexeme) (default : List ℕ) (cases : List SwitchCase) (rest : List ℕ) →
    AllByRecursion IsLexed (switch_head width on default ++ (flat_map (switch_case width) cases ++ (close_square ∷ []))) →
    Gives
    (indented (switch_head width on default)
    ++ (flat_map (λ c. text_line (codes "    ") (switch_case width c)) cases ++ indented (close_square ∷ [])))
    rest
    (switch_head width on default ++ (flat_map (switch_case width) cases ++ (close_square ∷ [])))
switch_gives width on default cases rest lexed =
    let prefix : List Lexeme = switch_head width on default in
    let inner : List Lexeme = flat_map (switch_case width) cases in
    let outer : AllByRecursion IsLexed prefix × AllByRecursion IsLexed (inner ++ (close_square ∷ [])) = all_split IsLexed prefix _ lexed in
    let parts : AllByRecursion IsLexed inner × AllByRecursion IsLexed (close_square ∷ []) = all_split IsLexed inner _ outer.1 in
    gives_more (indented prefix) _ rest prefix (inner ++ (close_square ∷ [])) (indented_gives prefix _ outer.0)
    (gives_more _ (indented (close_square ∷ [])) rest inner (close_square ∷ [])
    (flat_gives (λ c. AllByRecursion IsLexed (switch_case width c)) (λ c. text_line (codes "    ") (switch_case width c))
    (switch_case width) (case_gives width) cases _ (all_flat IsLexed (switch_case width) cases parts.0))
    (indented_gives (close_square ∷ []) rest parts.1))

terminator_gives : (t : TerminatorKind) (rest : List ℕ) → AllByRecursion IsLexed (terminator_kind t) → Gives (terminator_text t) rest (terminator_kind t)
terminator_gives (TerminatorKind.Switch width on default cases) rest lexed =
    let parts = switch_parts width (typed width on) default (flat_map (switch_case width) cases ++ (close_square ∷ [])) in
    let text : List ℕ = terminator_text (TerminatorKind.Switch width on default cases) in
    subst (λ ls. Gives text rest ls) parts
    (switch_gives width (typed width on) default cases rest (subst (AllByRecursion IsLexed) (sym parts) lexed))
terminator_gives (TerminatorKind.Return width a) rest lexed = indented_gives (terminator_kind (TerminatorKind.Return width a)) rest lexed
terminator_gives (TerminatorKind.Always to) rest lexed = indented_gives (terminator_kind (TerminatorKind.Always to)) rest lexed
terminator_gives (TerminatorKind.Condition c taken fallen) rest lexed =
    indented_gives (terminator_kind (TerminatorKind.Condition c taken fallen)) rest lexed
terminator_gives TerminatorKind.Unreachable rest lexed = indented_gives (terminator_kind TerminatorKind.Unreachable) rest lexed

label_gives :
    (name : Option (List ℕ)) (rest : List ℕ) → AllByRecursion IsLexed (block_label name) →
    Gives (label_text name) rest (block_label name)
label_gives None rest lexed = gives_nothing rest
label_gives (Some name) rest lexed = line_gives [] (label name ∷ []) rest refl lexed

lines_give :
    {A : Type 0} (spelled : A → List Lexeme) (xs : List A) (rest : List ℕ) → AllByRecursion IsLexed (flat_map spelled xs) →
    Gives (flat_map (λ x. indented (spelled x)) xs) rest (flat_map spelled xs)
lines_give spelled xs rest lexed =
    flat_gives (λ x. AllByRecursion IsLexed (spelled x)) (λ x. indented (spelled x)) spelled (λ x. indented_gives (spelled x)) xs rest
    (all_flat IsLexed spelled xs lexed)

bare_terminator : (b : BasicBlock) → b.terminator.attached ≡ [] → terminator b.terminator ≡ terminator_kind b.terminator.kind
bare_terminator b h = rw h (append-nil (terminator_kind b.terminator.kind))

pub block_gives : (b : BasicBlock) (rest : List ℕ) → IsLexedBlock b → Gives (block_text b) rest (spell.block b)
block_gives b rest lexed =
    let bare : terminator b.terminator ≡ terminator_kind b.terminator.kind = bare_terminator b lexed.bare in
    let all : AllByRecursion IsLexed (spell.block b) = recursion_from_All IsLexed (spell.block b) lexed.tokens in
    let phis : List Lexeme = flat_map phi b.phis in
    let insts : List Lexeme = flat_map instruction b.instructions in
    let last : List Lexeme = terminator_kind b.terminator.kind in
    let outer : AllByRecursion IsLexed (block_label b.label) × AllByRecursion IsLexed (phis ++ (insts ++ terminator b.terminator)) =
    all_split IsLexed (block_label b.label) _ all in
    let inner : AllByRecursion IsLexed phis × AllByRecursion IsLexed (insts ++ terminator b.terminator) = all_split IsLexed phis _ outer.1 in
    let parts : AllByRecursion IsLexed insts × AllByRecursion IsLexed (terminator b.terminator) = all_split IsLexed insts _ inner.1 in
    subst (λ ls. Gives (block_text b) rest (block_label b.label ++ (phis ++ (insts ++ ls)))) (sym bare)
    (gives_more (label_text b.label) _ rest (block_label b.label) (phis ++ (insts ++ last)) (label_gives b.label _ outer.0)
    (gives_more (flat_map (λ p. indented (phi p)) b.phis) _ rest phis (insts ++ last) (lines_give phi b.phis _ inner.0)
    (gives_more (flat_map (λ i. indented (instruction i)) b.instructions) (terminator_text b.terminator.kind) rest insts last
    (lines_give instruction b.instructions _ parts.0)
    (terminator_gives b.terminator.kind rest (subst (AllByRecursion IsLexed) bare parts.1)))))

-- blocks after the first have an empty line before them
further_gives : (b : BasicBlock) (rest : List ℕ) → IsLexedBlock b → Gives (line_feed ++ block_text b) rest (spell.block b)
unfolding is_blank
further_gives b rest lexed =
    gives_more line_feed (block_text b) rest [] (spell.block b) (blanks_give line_feed _ refl) (block_gives b rest lexed)

pub blocks_give :
    (bs : List BasicBlock) (rest : List ℕ) → AllByRecursion IsLexedBlock bs →
    Gives (blocks_text bs) rest (flat_map spell.block bs)
blocks_give [] rest lexed = gives_nothing rest
blocks_give (entry ∷ bs) rest lexed =
    gives_more (block_text entry) _ rest (spell.block entry) (flat_map spell.block bs) (block_gives entry _ lexed.0)
    (flat_gives IsLexedBlock (λ b. line_feed ++ block_text b) spell.block further_gives bs rest lexed.1)
