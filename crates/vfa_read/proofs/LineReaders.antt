-- Reading the lines of a block is exact.
use Rattle.std.proofs.Common.{◌≡◌, ℕ, ◌<◌, Bool, true, false, not, ◌&&◌, List, [], ◌∷◌, ◌++◌, flat_map, length, Some, Ok, Err, ◌⊎◌, inl, inr, ⊎_elim, IsTrue, codes, refl, sym, ap, ◌∙◌, subst, append_assoc}
use Rattle.std.specs.List.{AllByRecursion, join_by}
use Rattle.std.proofs.lemmas.List.Elements.{All-cons, recursion_from_All, All-from_recursion}
use Rattle.std.specs.Str.{byte}
use Rattle.vfa_ir.specs.declared.syntax.Attachment.{Attachment}
use Rattle.vfa_ir.specs.declared.syntax.Incoming.{Incoming}
use Rattle.vfa_read.specs.declared.lines.Line.{Line}
use Rattle.vfa_ir.specs.declared.syntax.Operation.{Operation}
use Rattle.vfa_read.specs.declared.phis.PhiPart.{PhiPart}
use Rattle.vfa_ir.specs.declared.syntax.Written.{Written}
use Rattle.vfa_ir.specs.Lexemes.{Lexeme, local, metadata, word, mark}
use Rattle.vfa_ir.specs.Grammar.{IsWidth, FitsPhi, FitsValue, FitsAttachment}
use Rattle.vfa_ir.specs.Spelling as spell
use Rattle.vfa_read.specs.Items as items
use Rattle.vfa_read.specs.Items.{FitsParts, attachments_of, entries_of}
use Rattle.vfa_read.specs.Productions.{is_mark, same_state, metadata_pair, attachments, incoming, incoming_of, part_reader, phi_part, still_operands, phi_parts, phi_of, phi_rest, plain_of, plain_rest, operation}
use Rattle.vfa_read.specs.Readers.{Reader, one, after, made, skip, ended, many, next_passes, ◌>>=◌}
use Rattle.vfa_read.specs.Tables.{the_mark, local_name, type_of, value_of}
use Rattle.vfa_read.proofs.Attached.{pair_exact, attachments_exact}
use Rattle.vfa_read.proofs.Exact.{Exact, Made, anything, may, may_anything, after_exact, after_exact_with, made_exact, choose_exact, skip_exact, ended_exact, fits_exact, follow_exact, spelled_exact}
use Rattle.vfa_read.proofs.FormReaders.{op_follow}
use Rattle.vfa_read.proofs.LeafReaders.{mark_exact, local_exact, value_exact, type_exact}
use Rattle.vfa_read.proofs.Many.{Begins, FitsFrom, follow_many, follow_last, many_exact, many_item, many_bad, many_done, shorter}
use Rattle.vfa_read.proofs.OperationReaders.{DefiningFits, operation_exact}
use Rattle.vfa_read.proofs.WordLists.{and_both, and_first, and_last, last_any}

-- an operand of a phi

abbrev Pair : Type 0
Pair = Written × List ℕ

abbrev PairFits : ℕ → Pair → Type 0
PairFits w p = FitsValue w p.0 × Unit {0}

abbrev operand_pair : ℕ → Reader Pair
operand_pair w = after (one (value_of w)) (λ _. skip (the_mark (byte ",")) (one local_name))

operand_pair_exact : (w : ℕ) → IsWidth w → Exact (operand_pair w) (λ p. spell.value p.0 ++ (mark (byte ",") ∷ local p.1 ∷ [])) (PairFits w) anything
operand_pair_exact w h = after_exact (one (value_of w)) (λ _. skip (the_mark (byte ",")) (one local_name)) spell.value (FitsValue w) anything (λ _ x. mark (byte ",") ∷ local x ∷ []) (λ _ _. Unit {0}) (λ _ x. anything x)
    (value_exact w h) (λ _ _. skip_exact (the_mark (byte ",")) (mark (byte ",")) (one local_name) (λ x. local x ∷ []) (λ _. Unit {0}) anything (mark_exact (byte ",")) local_exact)
    (λ a b rest f g m. may_anything a ((mark (byte ",") ∷ local b ∷ []) ++ rest))

abbrev IncomingFits : ℕ → Incoming → Type 0
IncomingFits w i = FitsValue w i.value

incoming_exact : (w : ℕ) → IsWidth w → Exact (incoming w) spell.incoming (IncomingFits w) anything
unfolding incoming
incoming_exact w h =
    let read = skip (the_mark (byte "[")) (ended (operand_pair w) (the_mark (byte "]"))) in
    fits_exact (made incoming_of read) spell.incoming (Made incoming_of (PairFits w)) (IncomingFits w) anything
    (made_exact incoming_of read (λ p. mark (byte "[") ∷ ((spell.value p.0 ++ (mark (byte ",") ∷ local p.1 ∷ [])) ++ (mark (byte "]") ∷ []))) (PairFits w) anything spell.incoming anything
    (skip_exact (the_mark (byte "[")) (mark (byte "[")) (ended (operand_pair w) (the_mark (byte "]"))) (λ p. (spell.value p.0 ++ (mark (byte ",") ∷ local p.1 ∷ [])) ++ (mark (byte "]") ∷ [])) (PairFits w) anything (mark_exact (byte "["))
    (ended_exact (operand_pair w) (the_mark (byte "]")) (mark (byte "]")) (λ p. spell.value p.0 ++ (mark (byte ",") ∷ local p.1 ∷ [])) (PairFits w) anything (operand_pair_exact w h) (mark_exact (byte "]")) (λ x f. refl)))
    (λ p f. ap (λ z. mark (byte "[") ∷ z) (sym (append_assoc (spell.value p.0) (mark (byte ",") ∷ local p.1 ∷ []) (mark (byte "]") ∷ [])))) (λ p f. refl))
    (λ i m. subst (IncomingFits w) m.is m.fits.0)
    (λ i f. record { from = (i.value, i.block); fits = (f, tt); is = refl })

-- the parts of a phi

abbrev after_comma : PhiPart → List Lexeme
after_comma (PhiPart.Entry i) = spell.incoming i
after_comma (PhiPart.Attached a) = metadata a.kind ∷ metadata a.node ∷ []

abbrev PartFits : ℕ → Bool → PhiPart → Type 0
PartFits w operands (PhiPart.Entry i) = IsTrue operands × FitsValue w i.value
PartFits w operands (PhiPart.Attached a) = FitsAttachment a

entry_part : (w : ℕ) → IsWidth w → Exact (made PhiPart.Entry (incoming w)) after_comma (Made PhiPart.Entry (IncomingFits w)) anything
entry_part w h = made_exact PhiPart.Entry (incoming w) spell.incoming (IncomingFits w) anything after_comma anything (incoming_exact w h) (λ i f. refl) (λ i f. refl)

attached_part : Exact (made PhiPart.Attached metadata_pair) after_comma (Made PhiPart.Attached FitsAttachment) anything
attached_part = made_exact PhiPart.Attached metadata_pair (λ a. metadata a.kind ∷ metadata a.node ∷ []) FitsAttachment anything after_comma anything pair_exact (λ a f. refl) (λ a f. refl)

part_from : (w : ℕ) (p : PhiPart) → PartFits w true p → Made PhiPart.Entry (IncomingFits w) p ⊎ Made PhiPart.Attached FitsAttachment p
part_from w (PhiPart.Entry i) f = inl (record { from = i; fits = f.1; is = refl })
part_from w (PhiPart.Attached a) f = inr (record { from = a; fits = f; is = refl })

part_attached : (w : ℕ) (p : PhiPart) → PartFits w false p → Made PhiPart.Attached FitsAttachment p
part_attached w (PhiPart.Entry i) f = let no = f.0 in cc
part_attached w (PhiPart.Attached a) f = record { from = a; fits = f; is = refl }

part_reader_exact : (w : ℕ) → IsWidth w → (operands : Bool) → Exact (part_reader w operands) after_comma (PartFits w operands) anything
part_reader_exact w h true = fits_exact (part_reader w true) after_comma (λ p. Made PhiPart.Entry (IncomingFits w) p ⊎ Made PhiPart.Attached FitsAttachment p) (PartFits w true) anything
    (choose_exact (is_mark (byte "[")) (made PhiPart.Entry (incoming w)) (made PhiPart.Attached metadata_pair) after_comma (Made PhiPart.Entry (IncomingFits w)) (Made PhiPart.Attached FitsAttachment) anything
    (entry_part w h) attached_part
    (λ p rest m k. ap (λ z. next_passes (is_mark (byte "[")) (after_comma z ++ rest)) (sym m.is))
    (λ p rest m k. ap (λ z. next_passes (is_mark (byte "[")) (after_comma z ++ rest)) (sym m.is)))
    (λ p f. ⊎_elim (λ m. subst (PartFits w true) m.is (refl, m.fits)) (λ m. subst (PartFits w true) m.is m.fits) f) (part_from w)
part_reader_exact w h false = fits_exact (part_reader w false) after_comma (Made PhiPart.Attached FitsAttachment) (PartFits w false) anything attached_part
    (λ p m. subst (PartFits w false) m.is m.fits) (part_attached w)

part_spelled : (p : PhiPart) → mark (byte ",") ∷ after_comma p ≡ items.phi_part p
part_spelled (PhiPart.Entry i) = refl
part_spelled (PhiPart.Attached a) = refl

phi_part_exact : (w : ℕ) → IsWidth w → (operands : Bool) → Exact (phi_part w operands) items.phi_part (PartFits w operands) anything
unfolding phi_part
phi_part_exact w h operands = spelled_exact (skip (the_mark (byte ",")) (part_reader w operands)) (λ p. mark (byte ",") ∷ after_comma p) items.phi_part (PartFits w operands) anything
    (skip_exact (the_mark (byte ",")) (mark (byte ",")) (part_reader w operands) after_comma (PartFits w operands) anything (mark_exact (byte ",")) (part_reader_exact w h operands)) (λ p f. part_spelled p)

part_begins : (w : ℕ) (s : Bool) (p : PhiPart) → PartFits w s p → Begins (is_mark (byte ",")) (items.phi_part p)
part_begins w s p f = record { head = mark (byte ","); more = after_comma p; is = sym (part_spelled p); passes = refl }

parts_from : (w : ℕ) (s : Bool) (ps : List PhiPart) → FitsParts w s ps → FitsFrom (PartFits w) still_operands s ps
parts_from w s [] f = tt
parts_from w s (PhiPart.Entry i ∷ ps) f = ((f.0, f.1), parts_from w s ps f.2)
parts_from w s (PhiPart.Attached a ∷ ps) f = (f.0, parts_from w false ps f.1)

parts_to : (w : ℕ) (s : Bool) (ps : List PhiPart) → FitsFrom (PartFits w) still_operands s ps → FitsParts w s ps
parts_to w s [] f = tt
parts_to w s (PhiPart.Entry i ∷ ps) f = (f.0.0, f.0.1, parts_to w s ps f.1)
parts_to w s (PhiPart.Attached a ∷ ps) f = (f.0, parts_to w false ps f.1)

-- no comma
abbrev pub no_comma : {A : Type 0} → A → Lexeme → Bool
no_comma _ l = not (is_mark (byte ",") l)

and_no_more : (a b : Bool) → b ≡ true → (a && b) ≡ a
and_no_more true b e = e
and_no_more false b e = refl

module _ (w : ℕ) (h : IsWidth w) where
  pub phi_parts_exact : (s : Bool) → Exact (phi_parts w s) (flat_map items.phi_part) (FitsParts w s) no_comma
  unfolding phi_parts
  phi_parts_exact s = fits_exact (many (is_mark (byte ",")) (phi_part w) still_operands s) (flat_map items.phi_part) (FitsFrom (PartFits w) still_operands s) (FitsParts w s) no_comma
      (follow_exact (many (is_mark (byte ",")) (phi_part w) still_operands s) (flat_map items.phi_part) (FitsFrom (PartFits w) still_operands s) (follow_many (is_mark (byte ",")) anything) no_comma
      (many_exact (is_mark (byte ",")) (phi_part w) still_operands items.phi_part (PartFits w) anything (phi_part_exact w h) (part_begins w) (λ x l e. refl) s)
      (λ ps l. and_no_more (not (is_mark (byte ",") l)) (follow_last {A = PhiPart} anything ps l) (last_any ps l)))
      (parts_to w s) (parts_from w s)

  pub parts_done : (s : Bool) (ts : List Lexeme) → next_passes (is_mark (byte ",")) ts ≡ false → phi_parts w s ts ≡ Ok ([], ts)
  unfolding phi_parts
  parts_done s ts t = many_done (is_mark (byte ",")) (phi_part w) still_operands items.phi_part (PartFits w) anything (phi_part_exact w h) (part_begins w) (λ x l e. refl) s ts t

  pub parts_item : (s : Bool) (ts rest : List Lexeme) (x : PhiPart) → next_passes (is_mark (byte ",")) ts ≡ true → phi_part w s ts ≡ Ok (x, rest) → phi_parts w s ts ≡ (phi_parts w (still_operands s x) rest >>= λ q. Ok (x ∷ q.0, q.1))
  unfolding phi_parts
  parts_item s ts rest x t e = many_item (is_mark (byte ",")) (phi_part w) still_operands items.phi_part (PartFits w) anything (phi_part_exact w h) (part_begins w) (λ x l e. refl) s ts rest x t e

  pub parts_bad : (s : Bool) (ts : List Lexeme) (k : ℕ) → next_passes (is_mark (byte ",")) ts ≡ true → phi_part w s ts ≡ Err k → phi_parts w s ts ≡ Err k
  unfolding phi_parts
  parts_bad s ts k t e = many_bad (is_mark (byte ",")) (phi_part w) still_operands items.phi_part (PartFits w) anything (phi_part_exact w h) (part_begins w) (λ x l e. refl) s ts k t e

  pub part_shorter : (s : Bool) (ts rest : List Lexeme) (x : PhiPart) → phi_part w s ts ≡ Ok (x, rest) → length rest < length ts
  part_shorter s ts rest x e = shorter (is_mark (byte ",")) (phi_part w) still_operands items.phi_part (PartFits w) anything (phi_part_exact w h) (part_begins w) (λ x l e. refl) s ts rest x e

-- a phi, after its word

abbrev pub PhiBody : Type 0
PhiBody = ℕ × (Incoming × List PhiPart)

abbrev pub PhiBodyFits : PhiBody → Type 0
PhiBodyFits p = IsWidth p.0 × (FitsValue p.0 p.1.0.value × FitsParts p.0 true p.1.1)

abbrev pub after_phi : Line → List Lexeme
after_phi (Line.Phi p) = spell.type p.width ∷ (join_by spell.incoming (mark (byte ",") ∷ []) p.entries ++ spell.attachments p.attached)
after_phi (Line.Plain _) = []

-- the operands stand before the metadata
abbrev further : List Incoming → List Lexeme
further = flat_map (λ i. mark (byte ",") ∷ spell.incoming i)

attached_alone : (w : ℕ) (ps : List PhiPart) → FitsParts w false ps → (entries_of ps ≡ []) × (flat_map items.phi_part ps ≡ spell.attachments (attachments_of ps))
attached_alone w [] f = (refl, refl)
attached_alone w (PhiPart.Entry i ∷ ps) f = let none = f.0 in cc
attached_alone w (PhiPart.Attached a ∷ ps) f =
    let rest = attached_alone w ps f.1 in
    (rest.0, ap (λ z. spell.attachment a ++ z) rest.1)

parts_in_order : (w : ℕ) (ps : List PhiPart) → FitsParts w true ps → flat_map items.phi_part ps ≡ further (entries_of ps) ++ spell.attachments (attachments_of ps)
parts_in_order w [] f = refl
parts_in_order w (PhiPart.Entry i ∷ ps) f =
    let here : List Lexeme = mark (byte ",") ∷ spell.incoming i in
    ap (λ z. here ++ z) (parts_in_order w ps f.2) ∙ sym (append_assoc here (further (entries_of ps)) (spell.attachments (attachments_of ps)))
parts_in_order w (PhiPart.Attached a ∷ ps) f =
    let rest = attached_alone w ps f.1 in
    ap (λ z. spell.attachment a ++ z) rest.1 ∙ ap (λ z. further z ++ (spell.attachment a ++ spell.attachments (attachments_of ps))) (sym rest.0)

phi_spelled : (r : List ℕ) (p : PhiBody) → PhiBodyFits p → after_phi (phi_of r p) ≡ spell.type p.0 ∷ (spell.incoming p.1.0 ++ flat_map items.phi_part p.1.1)
phi_spelled r p f =
    let first : List Lexeme = spell.incoming p.1.0 in
    ap (λ z. spell.type p.0 ∷ z)
    (append_assoc first (further (entries_of p.1.1)) (spell.attachments (attachments_of p.1.1)) ∙ ap (λ z. first ++ z) (sym (parts_in_order p.0 p.1.1 f.1.1)))

-- what the grammar asks of a phi

entries_fit : (w : ℕ) (s : Bool) (ps : List PhiPart) → FitsParts w s ps → AllByRecursion (λ i. FitsValue w i.value) (entries_of ps)
entries_fit w s [] f = tt
entries_fit w s (PhiPart.Entry i ∷ ps) f = (f.1, entries_fit w s ps f.2)
entries_fit w s (PhiPart.Attached a ∷ ps) f = entries_fit w false ps f.1

attachments_fit : (w : ℕ) (s : Bool) (ps : List PhiPart) → FitsParts w s ps → AllByRecursion FitsAttachment (attachments_of ps)
attachments_fit w s [] f = tt
attachments_fit w s (PhiPart.Entry i ∷ ps) f = attachments_fit w s ps f.2
attachments_fit w s (PhiPart.Attached a ∷ ps) f = (f.0, attachments_fit w false ps f.1)

not_empty : (i : Incoming) (rest : List Incoming) → i ∷ rest ≡ [] → ⊥
not_empty i rest e = cc

pub phi_to : (r : List ℕ) (p : PhiBody) → PhiBodyFits p →
    FitsPhi (record { result = r; width = p.0; entries = p.1.0 ∷ entries_of p.1.1; attached = attachments_of p.1.1 })
phi_to r p f = record {
  width = f.0;
  some = not_empty p.1.0 (entries_of p.1.1);
  entries = All-cons (λ i. FitsValue p.0 i.value) p.1.0 (entries_of p.1.1) f.1.0
      (All-from_recursion (λ i. FitsValue p.0 i.value) (entries_of p.1.1) (entries_fit p.0 true p.1.1 f.1.1));
  attached = All-from_recursion FitsAttachment (attachments_of p.1.1) (attachments_fit p.0 true p.1.1 f.1.1);
}

-- operands, and metadata after them, xs parts
abbrev parts_of : List Incoming → List Attachment → List PhiPart
parts_of [] [] = []
parts_of [] (a ∷ xs) = PhiPart.Attached a ∷ parts_of [] xs
parts_of (i ∷ is) xs = PhiPart.Entry i ∷ parts_of is xs

entries_again : (is : List Incoming) (xs : List Attachment) → entries_of (parts_of is xs) ≡ is
entries_again [] [] = refl
entries_again [] (a ∷ xs) = entries_again [] xs
entries_again (i ∷ is) xs = ap (λ z. i ∷ z) (entries_again is xs)

attachments_again : (is : List Incoming) (xs : List Attachment) → attachments_of (parts_of is xs) ≡ xs
attachments_again [] [] = refl
attachments_again [] (a ∷ xs) = ap (λ z. a ∷ z) (attachments_again [] xs)
attachments_again (i ∷ is) xs = attachments_again is xs

attached_parts_fit : (w : ℕ) (xs : List Attachment) → AllByRecursion FitsAttachment xs → FitsParts w false (parts_of [] xs)
attached_parts_fit w [] g = tt
attached_parts_fit w (a ∷ xs) g = (g.0, attached_parts_fit w xs g.1)

parts_fit : (w : ℕ) (is : List Incoming) (xs : List Attachment) → AllByRecursion (λ i. FitsValue w i.value) is → AllByRecursion FitsAttachment xs → FitsParts w true (parts_of is xs)
parts_fit w [] [] f g = tt
parts_fit w [] (a ∷ xs) f g = (g.0, attached_parts_fit w xs g.1)
parts_fit w (i ∷ is) xs f g = (refl, f.0, parts_fit w is xs f.1 g)

pub phi_from : (r : List ℕ) (w : ℕ) (is : List Incoming) (xs : List Attachment) → FitsPhi (record { result = r; width = w; entries = is; attached = xs }) →
    Made (phi_of r) PhiBodyFits (Line.Phi (record { result = r; width = w; entries = is; attached = xs }))
phi_from r w [] xs f = absurd (f.some refl)
phi_from r w (i ∷ is) xs f =
    let all = recursion_from_All (λ i. FitsValue w i.value) (i ∷ is) f.entries in
    record {
      from = (w, (i, parts_of is xs));
      fits = (f.width, (all.0, parts_fit w is xs all.1 (recursion_from_All FitsAttachment xs f.attached)));
      is = ap (λ z. Line.Phi (record { result = r; width = w; entries = i ∷ z; attached = attachments_of (parts_of is xs) })) (entries_again is xs)
          ∙ ap (λ z. Line.Phi (record { result = r; width = w; entries = i ∷ is; attached = z })) (attachments_again is xs);
    }

abbrev pub attach_follow : List Attachment → Lexeme → Bool
attach_follow = follow_many (is_mark (byte ",")) anything

abbrev pub plain_follow : Operation → List Attachment → Lexeme → Bool
plain_follow op [] l = attach_follow [] l && op_follow op l
plain_follow op (a ∷ xs) l = attach_follow (a ∷ xs) l

abbrev pub line_follow : Line → Lexeme → Bool
line_follow (Line.Phi p) = no_comma p
line_follow (Line.Plain i) = plain_follow i.operation i.attached

pub phi_rest_exact : (r : List ℕ) → Exact (phi_rest r) after_phi (Made (phi_of r) PhiBodyFits) line_follow
unfolding phi_rest
phi_rest_exact r = made_exact (phi_of r) (after (one type_of) (λ width. after (incoming width) (λ _. phi_parts width true)))
    (λ p. spell.type p.0 ∷ (spell.incoming p.1.0 ++ flat_map items.phi_part p.1.1)) PhiBodyFits no_comma after_phi line_follow
    (after_exact (one type_of) (λ width. after (incoming width) (λ _. phi_parts width true)) (λ w. spell.type w ∷ []) IsWidth anything
    (λ _ q. spell.incoming q.0 ++ flat_map items.phi_part q.1) (λ w q. FitsValue w q.0.value × FitsParts w true q.1) (λ _ q. no_comma q) type_exact
    (λ w h. after_exact (incoming w) (λ _. phi_parts w true) spell.incoming (IncomingFits w) anything (λ _ ps. flat_map items.phi_part ps) (λ _ ps. FitsParts w true ps) (λ _ ps. no_comma ps)
    (incoming_exact w h) (λ _ _. phi_parts_exact w h true) (λ a b rest f g m. may_anything a (flat_map items.phi_part b ++ rest)))
    (λ a b rest f g m. may_anything a ((spell.incoming b.0 ++ flat_map items.phi_part b.1) ++ rest)))
    (phi_spelled r) (λ p f. refl)

-- another instruction with its metadata

comma_after : (op : Operation) → op_follow op (mark (byte ",")) ≡ true
comma_after (Operation.Binary _ _ _ _ _) = refl
comma_after (Operation.Compare _ _ _ _ _) = refl
comma_after (Operation.Select _ _ _ _) = refl
comma_after (Operation.Convert _ _ _ _ _) = refl
comma_after (Operation.Freeze _ _) = refl
comma_after (Operation.Extract _ _ _) = refl
comma_after (Operation.Two words _ _ _ _) = last_any words.groups (mark (byte ","))
comma_after (Operation.One words _ _ _ _) = last_any words.groups (mark (byte ","))
comma_after (Operation.Over words _ _ _ _) = last_any words.groups (mark (byte ","))
comma_after (Operation.Assume words _) = last_any words.groups (mark (byte ","))
comma_after (Operation.Call words _ _ _ _) = last_any words.groups (mark (byte ","))

plain_joins : (op : Operation) (xs : List Attachment) (rest : List Lexeme) → may (plain_follow op xs) rest ≡ true → may (op_follow op) (spell.attachments xs ++ rest) ≡ true
plain_joins op [] [] m = refl
plain_joins op [] (l ∷ ls) m = and_last (attach_follow [] l) (op_follow op l) m
plain_joins op (a ∷ xs) rest m = comma_after op

plain_second : (op : Operation) (xs : List Attachment) (rest : List Lexeme) → may (plain_follow op xs) rest ≡ true → may (attach_follow xs) rest ≡ true
plain_second op [] [] m = refl
plain_second op [] (l ∷ ls) m = and_first (attach_follow [] l) (op_follow op l) m
plain_second op (a ∷ xs) [] m = refl
plain_second op (a ∷ xs) (l ∷ ls) m = m

plain_both : (op : Operation) (xs : List Attachment) (rest : List Lexeme) → may (op_follow op) (spell.attachments xs ++ rest) ≡ true → may (attach_follow xs) rest ≡ true → may (plain_follow op xs) rest ≡ true
plain_both op [] [] m k = refl
plain_both op [] (l ∷ ls) m k = and_both (attach_follow [] l) (op_follow op l) k m
plain_both op (a ∷ xs) [] m k = refl
plain_both op (a ∷ xs) (l ∷ ls) m k = k

abbrev pub AttachedFit : List Attachment → Type 0
AttachedFit = FitsFrom {S = Unit {0}} (λ _. FitsAttachment) same_state tt

module _ (op_reader : Reader Operation) (op_spelling : Operation → List Lexeme) (F : Operation → Type 0) (eo : Exact op_reader op_spelling F op_follow) where
  abbrev pub AttachedOpFits : Operation × List Attachment → Type 0
  AttachedOpFits p = F p.0 × AttachedFit p.1

  pub attached_op_exact : Exact (after op_reader (λ _. attachments)) (λ p. op_spelling p.0 ++ spell.attachments p.1) AttachedOpFits (λ p. plain_follow p.0 p.1)
  attached_op_exact = after_exact_with op_reader (λ _. attachments) op_spelling F op_follow (λ _ xs. spell.attachments xs) (λ _ xs. AttachedFit xs) (λ _ xs. attach_follow xs) plain_follow
      eo (λ _ _. attachments_exact) (λ op xs rest f g m. plain_joins op xs rest m) plain_second plain_both

abbrev pub PlainLineFits : Operation × List Attachment → Type 0
PlainLineFits p = DefiningFits p.0 × AttachedFit p.1

abbrev pub after_equals : Line → List Lexeme
after_equals (Line.Phi p) = word (codes "phi") ∷ after_phi (Line.Phi p)
after_equals (Line.Plain i) = spell.operation i.operation ++ spell.attachments i.attached

pub plain_rest_exact : (r : List ℕ) → Exact (plain_rest r) after_equals (Made (plain_of (Some r)) PlainLineFits) line_follow
unfolding plain_rest
plain_rest_exact r = made_exact (plain_of (Some r)) (after operation (λ _. attachments)) (λ p. spell.operation p.0 ++ spell.attachments p.1) PlainLineFits (λ p. plain_follow p.0 p.1) after_equals line_follow
    (attached_op_exact operation spell.operation DefiningFits operation_exact) (λ p f. refl) (λ p f. refl)
