-- Reading a line of a block is exact.
use Rattle.std.proofs.Common.{◌≡◌, ℕ, Bool, true, false, List, [], ◌∷◌, ◌++◌, Option, Some, None, ◌⊎◌, inl, inr, ⊎_elim, IsTrue, bytes_eq, codes, refl, sym, ap, ◌∙◌, subst, append_assoc}
use Rattle.std.specs.List.{AllByRecursion}
use Rattle.std.proofs.lemmas.List.Elements.{All-nil, recursion_from_All, All-from_recursion}
use Rattle.std.specs.Str.{byte}
use Rattle.vfa_ir.specs.declared.operations.Bin.{Bin}
use Rattle.vfa_ir.specs.declared.operations.Cast.{Cast}
use Rattle.vfa_ir.specs.declared.syntax.Attachment.{Attachment}
use Rattle.vfa_ir.specs.declared.syntax.CallWords.{CallWords}
use Rattle.vfa_read.specs.declared.intrinsics.VoidCallee.{VoidCallee}
use Rattle.vfa_read.specs.declared.lines.Line.{Line}
use Rattle.vfa_ir.specs.declared.syntax.Operation.{Operation}
use Rattle.vfa_ir.specs.Lexemes.{Lexeme, local, word, mark}
use Rattle.vfa_ir.specs.Grammar.{AreWords, FitsAttachment, FitsPhi, FitsInstruction, FitsOperation, FitsResult}
use Rattle.vfa_ir.specs.Spelling as spell
use Rattle.vfa_read.specs.Items as items
use Rattle.vfa_ir.specs.Words.{call_words, is_among}
use Rattle.vfa_read.specs.Productions.{is_word, attachments, assume_of, other_of, phi_of, phi_rest, plain_of, plain_rest, defined_rest, defined_of, defined_line, marker_word, call_marker, is_call_word, starts_call, line, void_call, void_line, void_line_of, void_of, words_of}
use Rattle.vfa_read.specs.Readers.{one, after, made, skip, ended, next_passes}
use Rattle.vfa_read.specs.Tables.{the_mark, the_word, local_name}
use Rattle.vfa_read.proofs.CallReaders.{VoidCalleeFits, VoidFits, VoidStands, void_exact, words_spelling}
use Rattle.vfa_read.proofs.Exact.{Exact, Made, anything, may_anything, after_exact, made_exact, choose_exact, skip_exact, ended_exact, fits_exact, spelled_exact}
use Rattle.vfa_read.proofs.LeafReaders.{mark_exact, word_exact, local_exact}
use Rattle.vfa_read.proofs.LineReaders.{PhiBodyFits, after_phi, phi_from, phi_to, phi_rest_exact, PlainLineFits, after_equals, plain_rest_exact, line_follow, plain_follow, AttachedFit, attached_op_exact}
use Rattle.vfa_read.proofs.OperationReaders.{IsDefining, MarkedSpelled, among_first, among_second, other_spelled, two_words, MarkerFits}

-- no operation begins with `phi`

marker_no_phi : (m : Option (List ℕ)) (ls : List Lexeme) → MarkerFits m → next_passes (is_word (codes "phi")) (spell.optional_word m ++ (word (codes "call") ∷ ls)) ≡ false
marker_no_phi None ls f = refl
marker_no_phi (Some t) ls f = ⊎_elim (λ e. ap (λ z. bytes_eq z (codes "phi")) e) (λ e. ap (λ z. bytes_eq z (codes "phi")) e) (two_words t (codes "tail") (codes "notail") f)

call_no_phi : (m : Option (List ℕ)) (ls rest : List Lexeme) → MarkerFits m → next_passes (is_word (codes "phi")) ((spell.optional_word m ++ (word (codes "call") ∷ ls)) ++ rest) ≡ false
call_no_phi m ls rest f = ap (next_passes (is_word (codes "phi"))) (append_assoc (spell.optional_word m) (word (codes "call") ∷ ls) rest) ∙ marker_no_phi m (ls ++ rest) f

no_phi : (op : Operation) (rest : List Lexeme) → FitsOperation op → next_passes (is_word (codes "phi")) (spell.operation op ++ rest) ≡ false
no_phi (Operation.Binary Bin.Add _ _ _ _) rest f = refl
no_phi (Operation.Convert Cast.Zext _ _ _ _) rest f = refl
no_phi (Operation.Two words _ _ _ _) rest f = call_no_phi words.marker _ rest f.0.marker
no_phi (Operation.One words _ _ _ _) rest f = call_no_phi words.marker _ rest f.0.marker
no_phi (Operation.Over words _ _ _ _) rest f = call_no_phi words.marker _ rest f.0.marker
no_phi (Operation.Assume words _) rest f = call_no_phi words.marker _ rest f.0.marker
no_phi (Operation.Call words _ _ _ _) rest f = call_no_phi words.marker _ rest f.0.marker
no_phi _ rest f = refl

-- what stands after `%name =`

abbrev LineRestFits : Bool → List ℕ → Line → Type 0
LineRestFits true r l = Made (phi_of r) PhiBodyFits l ⊎ Made (plain_of (Some r)) PlainLineFits l
LineRestFits false r l = Made (plain_of (Some r)) PlainLineFits l

worded_phi : (r : List ℕ) → Exact (skip (the_word (codes "phi")) (phi_rest r)) after_equals (Made (phi_of r) PhiBodyFits) line_follow
worded_phi r = spelled_exact (skip (the_word (codes "phi")) (phi_rest r)) (λ l. word (codes "phi") ∷ after_phi l) after_equals (Made (phi_of r) PhiBodyFits) line_follow
    (skip_exact (the_word (codes "phi")) (word (codes "phi")) (phi_rest r) after_phi (Made (phi_of r) PhiBodyFits) line_follow (word_exact (codes "phi")) (phi_rest_exact r))
    (λ l m. subst (λ z. word (codes "phi") ∷ after_phi z ≡ after_equals z) m.is refl)

plain_others : (r : List ℕ) (l : Line) (rest : List Lexeme) → Made (plain_of (Some r)) PlainLineFits l → next_passes (is_word (codes "phi")) (after_equals l ++ rest) ≡ false
plain_others r l rest m =
    let op = m.from.0 in
    let xs = spell.attachments m.from.1 in
    ap (λ z. next_passes (is_word (codes "phi")) (after_equals z ++ rest)) (sym m.is)
    ∙ ap (next_passes (is_word (codes "phi"))) (append_assoc (spell.operation op) xs rest) ∙ no_phi op (xs ++ rest) m.fits.0.0

defined_rest_exact : (phis : Bool) (r : List ℕ) → Exact (defined_rest phis r) after_equals (LineRestFits phis r) line_follow
defined_rest_exact true r = choose_exact (is_word (codes "phi")) (skip (the_word (codes "phi")) (phi_rest r)) (plain_rest r) after_equals (Made (phi_of r) PhiBodyFits) (Made (plain_of (Some r)) PlainLineFits) line_follow
    (worded_phi r) (plain_rest_exact r)
    (λ l rest m k. ap (λ z. next_passes (is_word (codes "phi")) (after_equals z ++ rest)) (sym m.is))
    (λ l rest m k. plain_others r l rest m)
defined_rest_exact false r = plain_rest_exact r

-- a line that defines a name

abbrev DefinedFits : Bool → List ℕ × Line → Type 0
DefinedFits phis p = Unit {0} × LineRestFits phis p.0 p.1

abbrev LineSpelled : List ℕ → Line → Type 0
LineSpelled r l = items.line l ≡ local r ∷ mark (byte "=") ∷ after_equals l

rest_spelled : (phis : Bool) (r : List ℕ) (l : Line) → LineRestFits phis r l → LineSpelled r l
rest_spelled true r l f = ⊎_elim (λ m. subst (LineSpelled r) m.is refl) (λ m. subst (LineSpelled r) m.is refl) f
rest_spelled false r l m = subst (LineSpelled r) m.is refl

defined_exact : (phis : Bool) → Exact (defined_line phis) items.line (Made defined_of (DefinedFits phis)) line_follow
unfolding defined_line
defined_exact phis = made_exact defined_of (after (one local_name) (λ r. skip (the_mark (byte "=")) (defined_rest phis r))) (λ p. local p.0 ∷ mark (byte "=") ∷ after_equals p.1) (DefinedFits phis) (λ p. line_follow p.1) items.line line_follow
    (after_exact (one local_name) (λ r. skip (the_mark (byte "=")) (defined_rest phis r)) (λ r. local r ∷ []) (λ _. Unit {0}) anything (λ _ l. mark (byte "=") ∷ after_equals l) (λ r l. LineRestFits phis r l) (λ _ l. line_follow l)
    local_exact (λ r _. skip_exact (the_mark (byte "=")) (mark (byte "=")) (defined_rest phis r) after_equals (LineRestFits phis r) line_follow (mark_exact (byte "=")) (defined_rest_exact phis r))
    (λ a b rest f g m. refl))
    (λ p f. rest_spelled phis p.0 p.1 f.1) (λ p f. refl)

-- `call` with its marker

abbrev pub marker_spelling : Option (List ℕ) → List Lexeme
marker_spelling m = spell.optional_word m ++ (word (codes "call") ∷ [])

abbrev Fixed : List ℕ → List ℕ → Type 0
Fixed t w = Made {A = Unit {0}} (λ _. t) (λ _. Unit {0}) w

fixed_exact : (t : List ℕ) → Exact (made (λ _. t) (one (the_word t))) (λ w. word w ∷ []) (Fixed t) anything
fixed_exact t = made_exact (λ _. t) (one (the_word t)) (λ _. word t ∷ []) (λ _. Unit {0}) anything (λ w. word w ∷ []) anything (word_exact t) (λ a f. refl) (λ a f. refl)

marker_word_exact : Exact marker_word (λ w. word w ∷ []) (λ w. Fixed (codes "tail") w ⊎ Fixed (codes "notail") w) anything
marker_word_exact = choose_exact (is_word (codes "tail")) (made (λ _. codes "tail") (one (the_word (codes "tail")))) (made (λ _. codes "notail") (one (the_word (codes "notail"))))
    (λ w. word w ∷ []) (Fixed (codes "tail")) (Fixed (codes "notail")) anything (fixed_exact (codes "tail")) (fixed_exact (codes "notail"))
    (λ w rest m k. ap (λ z. bytes_eq z (codes "tail")) (sym m.is)) (λ w rest m k. ap (λ z. bytes_eq z (codes "tail")) (sym m.is))

abbrev NoMarker : Option (List ℕ) → Type 0
NoMarker m = Made {A = Unit {0}} {B = Option (List ℕ)} (λ _. None) (λ _. Unit {0}) m

abbrev SomeMarker : Option (List ℕ) → Type 0
SomeMarker m = Made Some (λ w. Fixed (codes "tail") w ⊎ Fixed (codes "notail") w) m

no_marker_exact : Exact (made (λ _. None) (one (the_word (codes "call")))) marker_spelling NoMarker anything
no_marker_exact = made_exact (λ _. None) (one (the_word (codes "call"))) (λ _. word (codes "call") ∷ []) (λ _. Unit {0}) anything marker_spelling anything (word_exact (codes "call")) (λ a f. refl) (λ a f. refl)

some_marker_exact : Exact (made Some (ended marker_word (the_word (codes "call")))) marker_spelling SomeMarker anything
some_marker_exact = made_exact Some (ended marker_word (the_word (codes "call"))) (λ w. word w ∷ word (codes "call") ∷ []) (λ w. Fixed (codes "tail") w ⊎ Fixed (codes "notail") w) anything marker_spelling anything
    (ended_exact marker_word (the_word (codes "call")) (word (codes "call")) (λ w. word w ∷ []) (λ w. Fixed (codes "tail") w ⊎ Fixed (codes "notail") w) anything marker_word_exact (word_exact (codes "call")) (λ x f. refl))
    (λ a f. refl) (λ a f. refl)

some_not_call : (m : Option (List ℕ)) (rest : List Lexeme) → SomeMarker m → next_passes (is_word (codes "call")) (marker_spelling m ++ rest) ≡ false
some_not_call m rest f = ap (λ z. next_passes (is_word (codes "call")) (marker_spelling z ++ rest)) (sym f.is)
    ∙ ⊎_elim (λ t. ap (λ z. bytes_eq z (codes "call")) (sym t.is)) (λ t. ap (λ z. bytes_eq z (codes "call")) (sym t.is)) f.fits

abbrev Marked : Option (List ℕ) → Type 0
Marked m = NoMarker m ⊎ SomeMarker m

call_marker_exact : Exact call_marker marker_spelling Marked anything
unfolding call_marker
call_marker_exact = choose_exact (is_word (codes "call")) (made (λ _. None) (one (the_word (codes "call")))) (made Some (ended marker_word (the_word (codes "call")))) marker_spelling NoMarker SomeMarker anything
    no_marker_exact some_marker_exact
    (λ m rest f k. ap (λ z. next_passes (is_word (codes "call")) (marker_spelling z ++ rest)) (sym f.is))
    (λ m rest f k. some_not_call m rest f)

marker_to : (m : Option (List ℕ)) → Marked m → MarkerFits m
marker_to m f = ⊎_elim (λ n. subst MarkerFits n.is tt)
    (λ s. subst MarkerFits s.is (⊎_elim (λ t. subst (λ z. MarkerFits (Some z)) t.is (among_first (codes "tail") (codes "notail"))) (λ t. subst (λ z. MarkerFits (Some z)) t.is (among_second (codes "tail") (codes "notail"))) s.fits)) f

marker_from : (m : Option (List ℕ)) → MarkerFits m → Marked m
marker_from None f = inl (record { from = tt; fits = tt; is = refl })
marker_from (Some t) f = inr (record { from = t; fits = ⊎_elim (λ e. inl (record { from = tt; fits = tt; is = sym e })) (λ e. inr (record { from = tt; fits = tt; is = sym e })) (two_words t (codes "tail") (codes "notail") f); is = refl })

-- a call without a result

abbrev Voided : Type 0
Voided = Option (List ℕ) × (Operation × List Attachment)

abbrev VoidedFits : Voided → Type 0
VoidedFits p = Marked p.0 × (Made void_of (VoidFits p.0) p.1.0 × AttachedFit p.1.1)

callee_marked : (m : Option (List ℕ)) (words : List (List ℕ)) (c : VoidCallee) (op : Operation) → VoidCalleeFits m words c op → MarkedSpelled m op
callee_marked m words VoidCallee.Assume op f = subst (MarkedSpelled m) f.is refl
callee_marked m words (VoidCallee.Other name) op f = subst (MarkedSpelled m) f.is (other_spelled (words_of m f.from.1) words None name f.from.0)

void_marked : (m : Option (List ℕ)) (op : Operation) → Made void_of (VoidFits m) op → MarkedSpelled m op
void_marked m op f = subst (MarkedSpelled m) f.is (callee_marked m f.from.0 f.from.1.0 f.from.1.1 f.fits.1.1)

voided_spelled : (p : Voided) → VoidedFits p → items.line (void_line_of p) ≡ marker_spelling p.0 ++ (words_spelling p.1.0 ++ spell.attachments p.1.1)
voided_spelled p f =
    let xs = spell.attachments p.1.1 in
    let marker = spell.optional_word p.0 in
    let call : List Lexeme = word (codes "call") ∷ [] in
    ap (λ z. z ++ xs) (void_marked p.0 p.1.0 f.1.0 ∙ sym (append_assoc marker call (words_spelling p.1.0)))
    ∙ append_assoc (marker_spelling p.0) (words_spelling p.1.0) xs

void_line_exact : Exact void_line items.line (Made void_line_of VoidedFits) line_follow
unfolding void_line
void_line_exact = made_exact void_line_of (after call_marker (λ m. after (void_call m) (λ _. attachments))) (λ p. marker_spelling p.0 ++ (words_spelling p.1.0 ++ spell.attachments p.1.1)) VoidedFits (λ p. plain_follow p.1.0 p.1.1) items.line line_follow
    (after_exact call_marker (λ m. after (void_call m) (λ _. attachments)) marker_spelling Marked anything (λ _ q. words_spelling q.0 ++ spell.attachments q.1) (λ m q. Made void_of (VoidFits m) q.0 × AttachedFit q.1) (λ _ q. plain_follow q.0 q.1)
    call_marker_exact (λ m _. attached_op_exact (void_call m) words_spelling (Made void_of (VoidFits m)) (void_exact m))
    (λ a b rest f g m. may_anything a ((words_spelling b.0 ++ spell.attachments b.1) ++ rest)))
    voided_spelled (λ p f. refl)

-- a line

abbrev EitherLine : Bool → Line → Type 0
EitherLine phis l = Made void_line_of VoidedFits l ⊎ Made defined_of (DefinedFits phis) l

pub call_starts : (m : Option (List ℕ)) (rest : List Lexeme) → MarkerFits m → next_passes starts_call (marker_spelling m ++ rest) ≡ true
call_starts None rest f = refl
call_starts (Some t) rest f = ⊎_elim (λ e. ap is_call_word e) (λ e. ap is_call_word e) (two_words t (codes "tail") (codes "notail") f)

voided_starts : (l : Line) (rest : List Lexeme) → Made void_line_of VoidedFits l → next_passes starts_call (items.line l ++ rest) ≡ true
voided_starts l rest m =
    let p = m.from in
    let xs = words_spelling p.1.0 ++ spell.attachments p.1.1 in
    ap (λ z. next_passes starts_call (z ++ rest)) (ap items.line (sym m.is) ∙ voided_spelled p m.fits)
    ∙ ap (next_passes starts_call) (append_assoc (marker_spelling p.0) xs rest) ∙ call_starts p.0 (xs ++ rest) (marker_to p.0 m.fits.0)

either_exact : (phis : Bool) → Exact (line phis) items.line (EitherLine phis) line_follow
unfolding line
either_exact phis = choose_exact starts_call void_line (defined_line phis) items.line (Made void_line_of VoidedFits) (Made defined_of (DefinedFits phis)) line_follow
    void_line_exact (defined_exact phis)
    (λ l rest m k. voided_starts l rest m)
    (λ l rest m k. ap (λ z. next_passes starts_call (z ++ rest)) (ap items.line (sym m.is) ∙ rest_spelled phis m.from.0 m.from.1 m.fits.1))

-- what the grammar asks of a line

abbrev pub LineFits : Bool → Line → Type 0
LineFits phis (Line.Phi p) = IsTrue phis × FitsPhi p
LineFits phis (Line.Plain i) = FitsInstruction i

pub attached_to : (xs : List Attachment) → AttachedFit xs → AllByRecursion FitsAttachment xs
attached_to [] f = tt
attached_to (x ∷ xs) f = (f.0, attached_to xs f.1)

pub attached_from : (xs : List Attachment) → AllByRecursion FitsAttachment xs → AttachedFit xs
attached_from [] f = tt
attached_from (x ∷ xs) f = (f.0, attached_from xs f.1)

plain_fits : (r : Option (List ℕ)) (op : Operation) (xs : List Attachment) → FitsResult op r → FitsOperation op → AttachedFit xs → LineFits false (plain_of r (op, xs))
plain_fits r op xs f g h = record { result = f; operation = g; attached = All-from_recursion FitsAttachment xs (attached_to xs h) }

defined_result : (r : List ℕ) (op : Operation) → IsDefining op → FitsResult op (Some r)
defined_result r (Operation.Assume c x) f = absurd f
defined_result r (Operation.Call c attributes None name xs) f = absurd f
defined_result r _ f = tt

defined_plain : (r : List ℕ) (l : Line) → Made (plain_of (Some r)) PlainLineFits l → LineFits false l
defined_plain r l m =
    subst (LineFits false) m.is (plain_fits (Some r) m.from.0 m.from.1 (defined_result r m.from.0 m.fits.0.1) m.fits.0.0 m.fits.1)

plain_any : (phis : Bool) (l : Line) → LineFits false l → LineFits phis l
plain_any true (Line.Phi p) f = let no = f.0 in cc
plain_any false (Line.Phi p) f = f
plain_any phis (Line.Plain i) f = f

phi_line : (r : List ℕ) (l : Line) → Made (phi_of r) PhiBodyFits l → LineFits true l
phi_line r l m = subst (LineFits true) m.is (refl, phi_to r m.from m.fits)

defined_to : (phis : Bool) (r : List ℕ) (l : Line) → LineRestFits phis r l → LineFits phis l
defined_to true r l f = ⊎_elim (λ m. phi_line r l m) (λ m. plain_any true l (defined_plain r l m)) f
defined_to false r l m = defined_plain r l m

void_callee_to : (m : Option (List ℕ)) (words : List (List ℕ)) (c : VoidCallee) (op : Operation) (xs : List Attachment) → MarkerFits m → AreWords call_words words →
    VoidStands words c → VoidCalleeFits m words c op → AttachedFit xs → LineFits false (plain_of None (op, xs))
void_callee_to m words VoidCallee.Assume op xs k a s f h =
    subst (λ z. LineFits false (plain_of None (z, xs))) f.is (plain_fits None (assume_of m f.from) xs tt (record { marker = k }, f.fits.0) h)
void_callee_to m words (VoidCallee.Other name) op xs k a s f h =
    subst (λ z. LineFits false (plain_of None (z, xs))) f.is
    (plain_fits None (other_of m words None name f.from) xs tt (record { marker = k }, record { attributes = a; result = tt; callee = s; passed = f.fits.0 }) h)

voided_to : (l : Line) → Made void_line_of VoidedFits l → LineFits false l
voided_to l m =
    let p = m.from in
    let v = m.fits.1.0 in
    subst (LineFits false) m.is (subst (λ z. LineFits false (plain_of None (z, p.1.1))) v.is
    (void_callee_to p.0 v.from.0 v.from.1.0 v.from.1.1 p.1.1 (marker_to p.0 m.fits.0) v.fits.0 v.fits.1.0 v.fits.1.1 m.fits.1.1))

line_to : (phis : Bool) (l : Line) → EitherLine phis l → LineFits phis l
line_to phis l f = ⊎_elim (λ m. plain_any phis l (voided_to l m)) (λ m. subst (LineFits phis) m.is (defined_to phis m.from.0 m.from.1 m.fits.1)) f

plain_rest_fits : (phis : Bool) (r : List ℕ) (l : Line) → Made (plain_of (Some r)) PlainLineFits l → LineRestFits phis r l
plain_rest_fits true r l m = inr m
plain_rest_fits false r l m = m

defined_line_fits : (phis : Bool) (r : List ℕ) (op : Operation) (xs : List Attachment) → FitsInstruction (record { result = Some r; operation = op; attached = xs }) → IsDefining op → EitherLine phis (plain_of (Some r) (op, xs))
defined_line_fits phis r op xs f d = inr (record {
  from = (r, plain_of (Some r) (op, xs));
  fits = (
    tt,
    plain_rest_fits phis r (plain_of (Some r) (op, xs))
        (record { from = (op, xs); fits = ((f.operation, d), attached_from xs (recursion_from_All FitsAttachment xs f.attached)); is = refl }),
  );
  is = refl;
})

void_line_fits : (phis : Bool) (words : CallWords) (ws : List (List ℕ)) (c : VoidCallee) (op : Operation) (xs : List Attachment) → MarkerFits words.marker → AreWords call_words ws →
    VoidStands ws c → VoidCalleeFits words.marker ws c op → AttachedFit xs → EitherLine phis (plain_of None (op, xs))
void_line_fits phis words ws c op xs k a s f h = inl (record {
  from = (words.marker, (op, xs));
  fits = (marker_from words.marker k, (record { from = (ws, (c, op)); fits = (a, (s, f)); is = refl }, h));
  is = refl;
})

attached_each : (r : Option (List ℕ)) (op : Operation) (xs : List Attachment) → FitsInstruction (record { result = r; operation = op; attached = xs }) → AttachedFit xs
attached_each r op xs f = attached_from xs (recursion_from_All FitsAttachment xs f.attached)

by_result : (phis : Bool) (r : Option (List ℕ)) (op : Operation) (xs : List Attachment) → FitsInstruction (record { result = r; operation = op; attached = xs }) → EitherLine phis (plain_of r (op, xs))
by_result phis (Some r) (Operation.Assume c x) xs f = absurd f.result
by_result phis None (Operation.Assume c x) xs f = void_line_fits phis c [] VoidCallee.Assume (Operation.Assume c x) xs f.operation.0.marker (All-nil (λ z. IsTrue (is_among z call_words))) refl
    (record { from = (x, c.groups); fits = (f.operation.1, tt); is = refl }) (attached_each None (Operation.Assume c x) xs f)
by_result phis (Some r) (Operation.Call c ws None name ys) xs f = absurd f.result
by_result phis None (Operation.Call c ws None name ys) xs f = void_line_fits phis c ws (VoidCallee.Other name) (Operation.Call c ws None name ys) xs f.operation.0.marker f.operation.1.attributes f.operation.1.callee
    (record { from = (ys, c.groups); fits = (f.operation.1.passed, tt); is = refl }) (attached_each None (Operation.Call c ws None name ys) xs f)
by_result phis (Some r) op xs f = defined_line_fits phis r op xs f tt
by_result phis None op xs f = absurd f.result

line_from : (phis : Bool) (l : Line) → LineFits phis l → EitherLine phis l
line_from true (Line.Phi p) f = inr (record {
  from = (p.result, Line.Phi p);
  fits = (tt, inl (phi_from p.result p.width p.entries p.attached f.1));
  is = refl;
})
line_from false (Line.Phi p) f = let no = f.0 in cc
line_from phis (Line.Plain i) f = by_result phis i.result i.operation i.attached f

pub line_exact : (phis : Bool) → Exact (line phis) items.line (LineFits phis) line_follow
line_exact phis = fits_exact (line phis) items.line (EitherLine phis) (LineFits phis) line_follow (either_exact phis) (line_to phis) (line_from phis)
