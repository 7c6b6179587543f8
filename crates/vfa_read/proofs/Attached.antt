-- Metadata after an instruction is read exactly.
use Rattle.std.proofs.Common.{◌≡◌, ℕ, ◌<◌, true, false, List, [], ◌∷◌, length, Ok, Err, refl, subst}
use Rattle.vfa_ir.specs.declared.syntax.Attachment.{Attachment}
use Rattle.vfa_ir.specs.Grammar.{FitsAttachment}
use Rattle.vfa_ir.specs.Lexemes.{Lexeme, mark, metadata}
use Rattle.vfa_ir.specs.Spelling as spell
use Rattle.vfa_ir.specs.Words.{is_digits, is_number}
use Rattle.vfa_read.specs.Productions.{metadata_pair, attachment, attachments, attachment_of, is_mark, same_state}
use Rattle.vfa_read.specs.Readers.{one, after, made, next_passes, ◌>>=◌}
use Rattle.vfa_read.specs.Tables.{the_mark, metadata_kind, metadata_node}
use Rattle.vfa_read.proofs.Exact.{Exact, Made, anything, after_exact, made_exact, skip_exact, fits_exact}
use Rattle.vfa_read.proofs.LeafReaders.{mark_exact, kind_exact, node_exact}
use Rattle.vfa_read.proofs.Many.{Begins, FitsFrom, follow_many, many_exact, many_item, many_bad, many_done, shorter}
use Rattle.std.proofs.Common.{IsTrue, not}
use Rattle.std.specs.Str.{byte}

abbrev AttachmentParts : Type 0
AttachmentParts = List ℕ × List ℕ

abbrev FitsParts : AttachmentParts → Type 0
FitsParts p = IsTrue (not (is_number p.0)) × IsTrue (is_digits p.1)

parts_exact : Exact (after (one metadata_kind) (λ _. one metadata_node)) (λ p. metadata p.0 ∷ metadata p.1 ∷ []) FitsParts anything
parts_exact = after_exact (one metadata_kind) (λ _. one metadata_node)
    (λ x. metadata x ∷ []) (λ x. IsTrue (not (is_number x))) anything (λ _ x. metadata x ∷ []) (λ _ x. IsTrue (is_digits x)) (λ _ _ _. true)
    kind_exact (λ _ _. node_exact) (λ a b rest f g m. refl)

pub pair_exact : Exact metadata_pair (λ a. metadata a.kind ∷ metadata a.node ∷ []) FitsAttachment anything
unfolding metadata_pair
pair_exact = fits_exact (made attachment_of (after (one metadata_kind) (λ _. one metadata_node))) (λ a. metadata a.kind ∷ metadata a.node ∷ []) (Made attachment_of FitsParts) FitsAttachment anything
    (made_exact attachment_of (after (one metadata_kind) (λ _. one metadata_node)) (λ p. metadata p.0 ∷ metadata p.1 ∷ []) FitsParts anything
    (λ a. metadata a.kind ∷ metadata a.node ∷ []) anything parts_exact (λ p f. refl) (λ p f. refl))
    (λ a m. subst FitsAttachment m.is (record { kind = m.fits.0; node = m.fits.1 }))
    (λ a f. record { from = (a.kind, a.node); fits = (f.kind, f.node); is = refl })

pub attachment_exact : Exact attachment spell.attachment FitsAttachment anything
unfolding attachment
attachment_exact = skip_exact (the_mark (byte ",")) (mark (byte ",")) metadata_pair (λ a. metadata a.kind ∷ metadata a.node ∷ []) FitsAttachment anything (mark_exact (byte ",")) pair_exact

attachment_begins : (s : Unit {0}) (a : Attachment) → FitsAttachment a → Begins (is_mark (byte ",")) (spell.attachment a)
attachment_begins s a f = record { head = mark (byte ","); more = metadata a.kind ∷ metadata a.node ∷ []; is = refl; passes = refl }

pub attachments_exact : Exact attachments spell.attachments (FitsFrom (λ _. FitsAttachment) same_state tt) (follow_many (is_mark (byte ",")) anything)
unfolding attachments
attachments_exact = many_exact (is_mark (byte ",")) (λ _. attachment) same_state spell.attachment (λ _. FitsAttachment) anything (λ _. attachment_exact) attachment_begins (λ x l e. refl) tt

pub attachments_done : (ts : List Lexeme) → next_passes (is_mark (byte ",")) ts ≡ false → attachments ts ≡ Ok ([], ts)
unfolding attachments
attachments_done ts t = many_done (is_mark (byte ",")) (λ _. attachment) same_state spell.attachment (λ _. FitsAttachment) anything (λ _. attachment_exact) attachment_begins (λ x l e. refl) tt ts t

pub attachments_item : (ts rest : List Lexeme) (x : Attachment) → next_passes (is_mark (byte ",")) ts ≡ true → attachment ts ≡ Ok (x, rest) → attachments ts ≡ (attachments rest >>= λ q. Ok (x ∷ q.0, q.1))
unfolding attachments
attachments_item ts rest x t e = many_item (is_mark (byte ",")) (λ _. attachment) same_state spell.attachment (λ _. FitsAttachment) anything (λ _. attachment_exact) attachment_begins (λ x l e. refl) tt ts rest x t e

pub attachments_bad : (ts : List Lexeme) (k : ℕ) → next_passes (is_mark (byte ",")) ts ≡ true → attachment ts ≡ Err k → attachments ts ≡ Err k
unfolding attachments
attachments_bad ts k t e = many_bad (is_mark (byte ",")) (λ _. attachment) same_state spell.attachment (λ _. FitsAttachment) anything (λ _. attachment_exact) attachment_begins (λ x l e. refl) tt ts k t e

pub attachment_shorter : (ts rest : List Lexeme) (x : Attachment) → attachment ts ≡ Ok (x, rest) → length rest < length ts
attachment_shorter ts rest x e = shorter (is_mark (byte ",")) (λ _. attachment) same_state spell.attachment (λ _. FitsAttachment) anything (λ _. attachment_exact) attachment_begins (λ x l e. refl) tt ts rest x e
