-- Reading terminators, all lines of a block, and blocks, is exact.
use Rattle.std.proofs.Common.{◌≡◌, ℕ, ◌<◌, Bool, true, false, not, List, [], ◌∷◌, ◌++◌, map, flat_map, length, All, append_assoc, ◌∙◌, Option, Some, None, Ok, Err, ◌⊎◌, inl, inr, ⊎_elim, codes, refl, sym, ap, subst}
use Rattle.std.specs.List.{AllByRecursion, join_by}
use Rattle.std.proofs.lemmas.List.Elements.{recursion_from_All, All-from_recursion}
use Rattle.std.specs.Str.{byte}
use Rattle.vfa_ir.specs.declared.syntax.Attachment.{Attachment}
use Rattle.vfa_read.specs.declared.lines.Line.{Line}
use Rattle.vfa_ir.specs.declared.syntax.Operation.{Operation}
use Rattle.vfa_ir.specs.declared.syntax.SwitchCase.{SwitchCase}
use Rattle.vfa_ir.specs.declared.syntax.Terminator.{Terminator}
use Rattle.vfa_ir.specs.declared.syntax.TerminatorKind.{TerminatorKind}
use Rattle.vfa_ir.specs.declared.syntax.Written.{Written}
use Rattle.vfa_ir.specs.Lexemes.{Lexeme, local, nameless_local, word, mark}
use Rattle.vfa_ir.specs.declared.syntax.Instruction.{Instruction}
use Rattle.vfa_ir.specs.declared.syntax.PhiNode.{PhiNode}
use Rattle.vfa_ir.specs.Grammar.{FitsAttachment, FitsPhi, FitsTerminatorKind, FitsTerminator, FitsLiteral, FitsInstruction}
use Rattle.vfa_ir.specs.Words.{keyword}
use Rattle.vfa_read.specs.declared.lines.BlockLines.{BlockLines}
use Rattle.vfa_read.specs.Items.{FitsLines, instructions_of, lines_of, phis_of}
use Rattle.vfa_ir.specs.Spelling as spell
use Rattle.vfa_read.specs.Items as items
use Rattle.vfa_read.specs.declared.forms.Ending.{Ending}
use Rattle.vfa_read.specs.Productions.{is_mark, attachments, block_lines, return_of, condition_of, switch_of, ending_word, endings, ending_rest, ended_by, terminator_kind, terminator_of, terminator, starts_line, still_phis, is_group, line, lines}
use Rattle.vfa_read.specs.Readers.{one, nothing, after, made, many, next_passes, ◌>>=◌}
use Rattle.vfa_read.specs.Tables.{keyword_in}
use Rattle.vfa_read.proofs.Attached.{attachments_exact}
use Rattle.vfa_read.proofs.BlockLines.{LineFits, line_exact, attached_to, attached_from, call_starts}
use Rattle.vfa_read.proofs.Exact.{Exact, Made, anything, may_anything, nothing_exact, after_exact, made_exact, fits_exact, spelled_exact}
use Rattle.vfa_read.proofs.FormReaders.{op_follow, after_terminator_word, TypedFits, returned_exact, ConditionFits, branch_exact}
use Rattle.vfa_read.proofs.LeafReaders.{keyword_exact}
use Rattle.vfa_read.proofs.LineReaders.{attach_follow, AttachedFit, line_follow, plain_follow}
use Rattle.vfa_read.proofs.WordLists.{and_both, last_any}
use Rattle.vfa_read.proofs.Many.{Begins, FitsFrom, follow_many, many_exact, many_item, many_bad, many_done, shorter}
use Rattle.vfa_read.proofs.SwitchReaders.{CasesFit, SwitchFits, switch_exact}
use Rattle.vfa_read.proofs.OperationReaders.{MarkerFits}

-- terminators

ending_each : (e : Ending) → keyword ending_word endings (ending_word e) ≡ Some e
ending_each Ending.Return = refl
ending_each _ = refl

abbrev EndingFits : Ending → TerminatorKind → Type 0
EndingFits Ending.Return = Made return_of TypedFits
EndingFits Ending.Branch = λ t. Made TerminatorKind.Always (λ _. Unit {0}) t ⊎ Made condition_of ConditionFits t
EndingFits Ending.Switch = Made switch_of SwitchFits
EndingFits Ending.Unreachable = λ t. t ≡ TerminatorKind.Unreachable

ending_rest_exact : (e : Ending) → Exact (ending_rest e) after_terminator_word (EndingFits e) anything
ending_rest_exact Ending.Return = returned_exact
ending_rest_exact Ending.Branch = branch_exact
ending_rest_exact Ending.Switch = switch_exact
ending_rest_exact Ending.Unreachable = spelled_exact (nothing TerminatorKind.Unreachable) (λ _. []) after_terminator_word (λ t. t ≡ TerminatorKind.Unreachable) anything (nothing_exact TerminatorKind.Unreachable) (λ t e. ap after_terminator_word (sym e))

abbrev EndSpelled : Ending → TerminatorKind → Type 0
EndSpelled e t = spell.terminator_kind t ≡ word (ending_word e) ∷ after_terminator_word t

end_spelled : (e : Ending) (t : TerminatorKind) → EndingFits e t → EndSpelled e t
end_spelled Ending.Return t m = subst (EndSpelled Ending.Return) m.is refl
end_spelled Ending.Branch t f = ⊎_elim (λ m. subst (EndSpelled Ending.Branch) m.is refl) (λ m. subst (EndSpelled Ending.Branch) m.is refl) f
end_spelled Ending.Switch t m = subst (EndSpelled Ending.Switch) m.is refl
end_spelled Ending.Unreachable t e = subst (EndSpelled Ending.Unreachable) (sym e) refl

cases_to : (w : ℕ) (cs : List SwitchCase) → CasesFit w cs → AllByRecursion (λ c. FitsLiteral w c.number) cs
cases_to w [] f = tt
cases_to w (c ∷ cs) f = (f.0, cases_to w cs f.1)

cases_from : (w : ℕ) (cs : List SwitchCase) → AllByRecursion (λ c. FitsLiteral w c.number) cs → CasesFit w cs
cases_from w [] f = tt
cases_from w (c ∷ cs) f = (f.0, cases_from w cs f.1)

switch_to : (p : ℕ × (Written × (List ℕ × List SwitchCase))) → SwitchFits p → FitsTerminatorKind (switch_of p)
switch_to (width, (on, (other, cases))) (wide, (value, (_, numbers))) =
    (wide, value, All-from_recursion (λ c. FitsLiteral width c.number) cases (cases_to width cases numbers))

ending_to : (e : Ending) (t : TerminatorKind) → EndingFits e t → FitsTerminatorKind t
ending_to Ending.Return t m = subst FitsTerminatorKind m.is m.fits
ending_to Ending.Branch t f = ⊎_elim (λ m. subst FitsTerminatorKind m.is tt) (λ m. subst FitsTerminatorKind m.is m.fits.0) f
ending_to Ending.Switch t m = subst FitsTerminatorKind m.is (switch_to m.from m.fits)
ending_to Ending.Unreachable t e = subst FitsTerminatorKind (sym e) tt

abbrev EndedFits : Ending × TerminatorKind → Type 0
EndedFits p = Unit {0} × EndingFits p.0 p.1

ending_from : (t : TerminatorKind) → FitsTerminatorKind t → Made ended_by EndedFits t
ending_from (TerminatorKind.Return w a) f = record { from = (Ending.Return, TerminatorKind.Return w a); fits = (tt, record { from = (w, a); fits = f; is = refl }); is = refl }
ending_from (TerminatorKind.Always to) f = record { from = (Ending.Branch, TerminatorKind.Always to); fits = (tt, inl (record { from = to; fits = tt; is = refl })); is = refl }
ending_from (TerminatorKind.Condition c t e) f = record { from = (Ending.Branch, TerminatorKind.Condition c t e); fits = (tt, inr (record { from = (c, (t, e)); fits = (f, (tt, tt)); is = refl })); is = refl }
ending_from (TerminatorKind.Switch w on d cs) f = record {
  from = (Ending.Switch, TerminatorKind.Switch w on d cs);
  fits = (tt, record { from = (w, (on, (d, cs))); fits = (f.0, (f.1, (tt, cases_from w cs (recursion_from_All (λ c. FitsLiteral w c.number) cs f.2)))); is = refl });
  is = refl;
}
ending_from TerminatorKind.Unreachable f = record { from = (Ending.Unreachable, TerminatorKind.Unreachable); fits = (tt, refl); is = refl }

terminator_kind_exact : Exact terminator_kind spell.terminator_kind FitsTerminatorKind anything
unfolding terminator_kind
terminator_kind_exact = fits_exact (made ended_by (after (one (keyword_in ending_word endings)) ending_rest)) spell.terminator_kind (Made ended_by EndedFits) FitsTerminatorKind anything
    (made_exact ended_by (after (one (keyword_in ending_word endings)) ending_rest) (λ p. word (ending_word p.0) ∷ after_terminator_word p.1) EndedFits anything spell.terminator_kind anything
    (after_exact (one (keyword_in ending_word endings)) ending_rest (λ e. word (ending_word e) ∷ []) (λ _. Unit {0}) anything (λ _ t. after_terminator_word t) EndingFits (λ _ t. anything t)
    (keyword_exact ending_word endings ending_each Ending.Unreachable) (λ e _. ending_rest_exact e) (λ a b rest f g m. may_anything a (after_terminator_word b ++ rest)))
    (λ p f. end_spelled p.0 p.1 f.1) (λ p f. refl))
    (λ t m. subst FitsTerminatorKind m.is (ending_to m.from.0 m.from.1 m.fits.1)) ending_from

abbrev pub end_follow : Terminator → Lexeme → Bool
end_follow t = attach_follow t.attached

abbrev EndFits : TerminatorKind × List Attachment → Type 0
EndFits p = FitsTerminatorKind p.0 × AttachedFit p.1

pub terminator_exact : Exact terminator spell.terminator FitsTerminator end_follow
unfolding terminator
terminator_exact = fits_exact (made terminator_of (after terminator_kind (λ _. attachments))) spell.terminator (Made terminator_of EndFits) FitsTerminator end_follow
    (made_exact terminator_of (after terminator_kind (λ _. attachments)) (λ p. spell.terminator_kind p.0 ++ spell.attachments p.1) EndFits (λ p. attach_follow p.1) spell.terminator end_follow
    (after_exact terminator_kind (λ _. attachments) spell.terminator_kind FitsTerminatorKind anything (λ _ xs. spell.attachments xs) (λ _ xs. AttachedFit xs) (λ _ xs. attach_follow xs) terminator_kind_exact (λ _ _. attachments_exact)
    (λ a b rest f g m. may_anything a (spell.attachments b ++ rest)))
    (λ p f. refl) (λ p f. refl))
    (λ t m. subst FitsTerminator m.is (record { kind = m.fits.0; attached = All-from_recursion FitsAttachment m.from.1 (attached_to m.from.1 m.fits.1) }))
    (λ t f. record { from = (t.kind, t.attached); fits = (f.kind, attached_from t.attached (recursion_from_All FitsAttachment t.attached f.attached)); is = refl })

-- what may follow a line

op_word : (op : Operation) (l : Lexeme) → ((gs : List (List ℕ)) → follow_many is_group anything gs l ≡ true) → op_follow op l ≡ true
op_word (Operation.Two words _ _ _ _) l h = h words.groups
op_word (Operation.One words _ _ _ _) l h = h words.groups
op_word (Operation.Over words _ _ _ _) l h = h words.groups
op_word (Operation.Assume words _) l h = h words.groups
op_word (Operation.Call words _ _ _ _) l h = h words.groups
op_word _ l h = refl

pub line_then : (x : Line) (l : Lexeme) → is_mark (byte ",") l ≡ false → is_group l ≡ false → line_follow x l ≡ true
line_then (Line.Phi p) l m g = ap not m
line_then (Line.Plain i) l m g = plain_then i.operation i.attached
  where
    plain_then : (op : Operation) (xs : List Attachment) → plain_follow op xs l ≡ true
    plain_then op [] = and_both (attach_follow [] l) (op_follow op l) (and_both (not (is_mark (byte ",") l)) true (ap not m) refl)
        (op_word op l (λ gs. and_both (not (is_group l)) _ (ap not g) (last_any gs l)))
    plain_then op (x ∷ xs) = and_both (not (is_mark (byte ",") l)) _ (ap not m) (last_any (x ∷ xs) l)

line_joins : (x : Line) (l : Lexeme) → starts_line l ≡ true → line_follow x l ≡ true
line_joins x (local n) e = line_then x (local n) refl refl
line_joins x nameless_local e = line_then x nameless_local refl refl
line_joins x (word w) e = line_then x (word w) refl refl
line_joins x _ e = cc

-- what a line begins with

call_begins : (m : Option (List ℕ)) (ls xs : List Lexeme) → MarkerFits m → Begins starts_line ((spell.optional_word m ++ (word (codes "call") ∷ ls)) ++ xs)
call_begins None ls xs k = record { head = word (codes "call"); more = ls ++ xs; is = refl; passes = refl }
call_begins (Some t) ls xs k = record { head = word t; more = (word (codes "call") ∷ ls) ++ xs; is = refl; passes = call_starts (Some t) [] k }

plain_begins : (r : Option (List ℕ)) (op : Operation) (xs : List Attachment) → FitsInstruction (record { result = r; operation = op; attached = xs }) →
    Begins starts_line (spell.result r ++ (spell.operation op ++ spell.attachments xs))
plain_begins (Some r) op xs f = record { head = local r; more = mark (byte "=") ∷ (spell.operation op ++ spell.attachments xs); is = refl; passes = refl }
plain_begins None (Operation.Assume c x) xs f = call_begins c.marker _ (spell.attachments xs) f.operation.0.marker
plain_begins None (Operation.Call c attributes None name ys) xs f = call_begins c.marker _ (spell.attachments xs) f.operation.0.marker
plain_begins None _ xs f = absurd f.result

pub line_begins : (s : Bool) (x : Line) → LineFits s x → Begins starts_line (items.line x)
line_begins s (Line.Phi p) f = record { head = local p.result; more = mark (byte "=") ∷ word (codes "phi") ∷ spell.type p.width ∷ (join_by spell.incoming (mark (byte ",") ∷ []) p.entries ++ spell.attachments p.attached); is = refl; passes = refl }
line_begins s (Line.Plain i) f = plain_begins i.result i.operation i.attached f

pub lines_from : (s : Bool) (ls : List Line) → FitsLines s ls → FitsFrom LineFits still_phis s ls
lines_from s [] f = tt
lines_from s (Line.Phi p ∷ ls) f = ((f.0, f.1), lines_from s ls f.2)
lines_from s (Line.Plain i ∷ ls) f = (f.0, lines_from false ls f.1)

lines_to : (s : Bool) (ls : List Line) → FitsFrom LineFits still_phis s ls → FitsLines s ls
lines_to s [] f = tt
lines_to s (Line.Phi p ∷ ls) f = (f.0.0, f.0.1, lines_to s ls f.1)
lines_to s (Line.Plain i ∷ ls) f = (f.0, lines_to false ls f.1)

abbrev pub lines_follow : List Line → Lexeme → Bool
lines_follow = follow_many starts_line line_follow

pub lines_exact : (s : Bool) → Exact (lines s) (flat_map items.line) (FitsLines s) lines_follow
unfolding lines
lines_exact s = fits_exact (many starts_line line still_phis s) (flat_map items.line) (FitsFrom LineFits still_phis s) (FitsLines s) lines_follow
    (many_exact starts_line line still_phis items.line LineFits line_follow line_exact line_begins line_joins s) (lines_to s) (lines_from s)

pub lines_done : (s : Bool) (ts : List Lexeme) → next_passes starts_line ts ≡ false → lines s ts ≡ Ok ([], ts)
unfolding lines
lines_done s ts t = many_done starts_line line still_phis items.line LineFits line_follow line_exact line_begins line_joins s ts t

pub lines_item : (s : Bool) (ts rest : List Lexeme) (x : Line) → next_passes starts_line ts ≡ true → line s ts ≡ Ok (x, rest) → lines s ts ≡ (lines (still_phis s x) rest >>= λ q. Ok (x ∷ q.0, q.1))
unfolding lines
lines_item s ts rest x t e = many_item starts_line line still_phis items.line LineFits line_follow line_exact line_begins line_joins s ts rest x t e

pub lines_bad : (s : Bool) (ts : List Lexeme) (k : ℕ) → next_passes starts_line ts ≡ true → line s ts ≡ Err k → lines s ts ≡ Err k
unfolding lines
lines_bad s ts k t e = many_bad starts_line line still_phis items.line LineFits line_follow line_exact line_begins line_joins s ts k t e

pub line_shorter : (s : Bool) (ts rest : List Lexeme) (x : Line) → line s ts ≡ Ok (x, rest) → length rest < length ts
line_shorter s ts rest x e = shorter starts_line line still_phis items.line LineFits line_follow line_exact line_begins line_joins s ts rest x e

-- the phis and the other instructions of a block

abbrev pub lines_in : BlockLines → List Line
lines_in b = map Line.Phi b.phis ++ map Line.Plain b.instructions

abbrev pub block_lines_spelling : BlockLines → List Lexeme
block_lines_spelling b = flat_map spell.phi b.phis ++ flat_map spell.instruction b.instructions

plain_alone : (ls : List Line) → FitsLines false ls → (phis_of ls ≡ []) × (map Line.Plain (instructions_of ls) ≡ ls)
plain_alone [] f = (refl, refl)
plain_alone (Line.Phi p ∷ ls) f = let none = f.0 in cc
plain_alone (Line.Plain i ∷ ls) f = let rest = plain_alone ls f.1 in (rest.0, ap (λ z. Line.Plain i ∷ z) rest.1)

pub lines_again : (ls : List Line) → FitsLines true ls → lines_in (lines_of ls) ≡ ls
lines_again [] f = refl
lines_again (Line.Phi p ∷ ls) f = ap (λ z. Line.Phi p ∷ z) (lines_again ls f.2)
lines_again (Line.Plain i ∷ ls) f =
    let rest = plain_alone ls f.1 in
    ap (λ z. map Line.Phi z ++ (Line.Plain i ∷ map Line.Plain (instructions_of ls))) rest.0 ∙ ap (λ z. Line.Plain i ∷ z) rest.1

plain_lines_spelled : (ys : List Instruction) → flat_map items.line (map Line.Plain ys) ≡ flat_map spell.instruction ys
plain_lines_spelled [] = refl
plain_lines_spelled (y ∷ ys) = ap (λ z. spell.instruction y ++ z) (plain_lines_spelled ys)

pub lines_spelled : (xs : List PhiNode) (ys : List Instruction) → flat_map items.line (map Line.Phi xs ++ map Line.Plain ys) ≡ flat_map spell.phi xs ++ flat_map spell.instruction ys
lines_spelled [] ys = plain_lines_spelled ys
lines_spelled (x ∷ xs) ys = ap (λ z. spell.phi x ++ z) (lines_spelled xs ys) ∙ sym (append_assoc (spell.phi x) (flat_map spell.phi xs) (flat_map spell.instruction ys))

no_phis : (ys : List Instruction) → phis_of (map Line.Plain ys) ≡ []
no_phis [] = refl
no_phis (y ∷ ys) = no_phis ys

only_instructions : (ys : List Instruction) → instructions_of (map Line.Plain ys) ≡ ys
only_instructions [] = refl
only_instructions (y ∷ ys) = ap (λ z. y ∷ z) (only_instructions ys)

phis_again : (xs : List PhiNode) (ys : List Instruction) → phis_of (map Line.Phi xs ++ map Line.Plain ys) ≡ xs
phis_again [] ys = no_phis ys
phis_again (x ∷ xs) ys = ap (λ z. x ∷ z) (phis_again xs ys)

instructions_again : (xs : List PhiNode) (ys : List Instruction) → instructions_of (map Line.Phi xs ++ map Line.Plain ys) ≡ ys
instructions_again [] ys = only_instructions ys
instructions_again (x ∷ xs) ys = instructions_again xs ys

split_again : (b : BlockLines) → lines_of (lines_in b) ≡ b
split_again b =
    ap (λ z. record { phis = z; instructions = instructions_of (lines_in b) }) (phis_again b.phis b.instructions)
    ∙ ap (λ z. record { phis = b.phis; instructions = z }) (instructions_again b.phis b.instructions)

pub record BlockLinesFit (b : BlockLines) : Type 0 where
  pub phis : All FitsPhi b.phis
  pub instructions : All FitsInstruction b.instructions

plain_lines_fit : (ys : List Instruction) → AllByRecursion FitsInstruction ys → FitsLines false (map Line.Plain ys)
plain_lines_fit [] f = tt
plain_lines_fit (y ∷ ys) f = (f.0, plain_lines_fit ys f.1)

all_lines_fit : (xs : List PhiNode) (ys : List Instruction) → AllByRecursion FitsPhi xs → AllByRecursion FitsInstruction ys → FitsLines true (map Line.Phi xs ++ map Line.Plain ys)
all_lines_fit [] [] f g = tt
all_lines_fit [] (y ∷ ys) f g = (g.0, plain_lines_fit ys g.1)
all_lines_fit (x ∷ xs) ys f g = (refl, f.0, all_lines_fit xs ys f.1 g)

pub lines_in_fit : (b : BlockLines) → BlockLinesFit b → FitsLines true (lines_in b)
lines_in_fit b f = all_lines_fit b.phis b.instructions (recursion_from_All FitsPhi b.phis f.phis) (recursion_from_All FitsInstruction b.instructions f.instructions)

phis_fit : (s : Bool) (ls : List Line) → FitsLines s ls → AllByRecursion FitsPhi (phis_of ls)
phis_fit s [] f = tt
phis_fit s (Line.Phi p ∷ ls) f = (f.1, phis_fit s ls f.2)
phis_fit s (Line.Plain i ∷ ls) f = phis_fit false ls f.1

instructions_fit : (s : Bool) (ls : List Line) → FitsLines s ls → AllByRecursion FitsInstruction (instructions_of ls)
instructions_fit s [] f = tt
instructions_fit s (Line.Phi p ∷ ls) f = instructions_fit s ls f.2
instructions_fit s (Line.Plain i ∷ ls) f = (f.0, instructions_fit false ls f.1)

split_fits : (ls : List Line) → FitsLines true ls → BlockLinesFit (lines_of ls)
split_fits ls f = record {
  phis = All-from_recursion FitsPhi (phis_of ls) (phis_fit true ls f);
  instructions = All-from_recursion FitsInstruction (instructions_of ls) (instructions_fit true ls f);
}

abbrev pub block_lines_follow : BlockLines → Lexeme → Bool
block_lines_follow b = lines_follow (lines_in b)

pub block_lines_exact : Exact block_lines block_lines_spelling BlockLinesFit block_lines_follow
unfolding block_lines
block_lines_exact = fits_exact (made lines_of (lines true)) block_lines_spelling (Made lines_of (FitsLines true)) BlockLinesFit block_lines_follow
    (made_exact lines_of (lines true) (flat_map items.line) (FitsLines true) lines_follow block_lines_spelling block_lines_follow (lines_exact true)
    (λ ls f. sym (lines_spelled (phis_of ls) (instructions_of ls)) ∙ ap (flat_map items.line) (lines_again ls f))
    (λ ls f. ap lines_follow (lines_again ls f)))
    (λ b m. subst BlockLinesFit m.is (split_fits m.from m.fits))
    (λ b f. record { from = lines_in b; fits = lines_in_fit b f; is = split_again b })

-- before any line was read
pub start_lines : (ts : List Lexeme) → (lines true ts >>= λ q. Ok (record { phis = [] ++ phis_of q.0; instructions = [] ++ instructions_of q.0 }, q.1)) ≡ block_lines ts
unfolding block_lines
start_lines ts = refl
